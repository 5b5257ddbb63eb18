-- A loop over the words of a line: the literals so far, and the words that are left.
use Rattle.std.proofs.Common.{◌≡◌, ℕ, ◌+◌, ◌<◌, ◌≤◌, false, cond, leb, ◌⊎◌, List, [], ◌∷◌, ◌++◌, length, take, ℤ, pos, negsuc, Some, None, Ok, Err, Option, Result, sym, refl, ap, ◌∙◌, inl, inr, arith, length-append, w32, of_z}
use Rattle.std.proofs.lemmas.List.{append_assoc, take_all, take-append-le, length_push, length-take}
use Rattle.std.proofs.lemmas.Bool.{lt-leb, ne_eqb}
use Rattle.std.specs.Option.{option_map}
use Rattle.text.specs.Rows.{Pushes}
use Rattle.text.specs.Decimal.{signed}
use Rattle.certificate.specs.Lines.{is_zero, literals, clause}
use Rattle.certificate.specs.Stream.{then}

pub record SoFar (all rest : List (List ℕ)) (room count : ℕ) (kept : List ℤ) : Type 0 where
  pub zs : List ℤ
  pub whole : literals all ≡ option_map (λ ys. zs ++ ys) (literals rest)
  pub many : count ≡ length zs
  pub first : kept ≡ take room zs

literal_next : (z : ℤ) (w : List ℕ) (ws : List (List ℕ)) → Some z ≡ signed 7 w → is_zero z ≡ false → literals (w ∷ ws) ≡ option_map (λ zs. z ∷ zs) (literals ws)
literal_next z w ws e f = rw (← e, f) refl

mapped_more : (zs : List ℤ) (z : ℤ) (o : Option (List ℤ)) → option_map (λ ys. zs ++ ys) (option_map (λ ys. z ∷ ys) o) ≡ option_map (λ ys. (zs ++ z ∷ []) ++ ys) o
mapped_more zs z None = refl
mapped_more zs z (Some ys) = ap Some (sym (append_assoc zs (z ∷ []) ys))

-- the rows after a push, which the list may be too full for
abbrev pub Grown : ℕ → ℤ → List ℤ → List ℤ → Type 0
Grown room z ks js = ((js ≡ ks ++ z ∷ []) × (length ks < room)) ⊎ ((js ≡ ks) × (room ≤ length ks))

take_grown : (room : ℕ) (z : ℤ) (zs js : List ℤ) → Grown room z (take room zs) js → js ≡ take room (zs ++ z ∷ [])
take_grown room z zs js (inl (e, l)) =
    let n : length zs < room = omega (arith, length-take room zs) in
    let a : take room zs ≡ zs = take_all room zs (omega arith) in
    let b : take room (zs ++ z ∷ []) ≡ zs ++ z ∷ [] = take_all room (zs ++ z ∷ []) (omega (arith, length_push zs z)) in
    rw (e, a, b) refl
take_grown room z zs js (inr (e, l)) =
    let n : room ≤ length zs = omega (arith, length-take room zs) in
    e ∙ sym (take-append-le room zs (z ∷ []) n)

grown_by : {A E : Type 0} (r : Result A E) (room : ℕ) (z : ℤ) (ks js : List ℤ) → Pushes room ks z js r → Grown room z ks js
grown_by (Ok x) room z ks js p = inl (p.1, p.0)
grown_by (Err x) room z ks js p = inr (p.1, p.0)

nonzero : (z : ℤ) → (of_z w32 z ≡ 0 → ⊥) → is_zero z ≡ false
nonzero (pos n) h = ne_eqb n 0 h
nonzero (negsuc n) h = refl

pub so_far_more : {A E : Type 0} (all rest ws : List (List ℕ)) (w : List ℕ) (room count : ℕ) (z : ℤ) (ks js : List ℤ) (r : Result A E) → SoFar all rest room count ks → rest ≡ w ∷ ws → Some z ≡ signed 7 w → (of_z w32 z ≡ 0 → ⊥) → Pushes room ks z js r → SoFar all ws room (count + 1) js
so_far_more all rest ws w room count z ks js r s q e f p =
    let zs = s.zs in
    let many = s.many in
    let next : literals rest ≡ option_map (λ ys. z ∷ ys) (literals ws) = ap literals q ∙ literal_next z w ws e (nonzero z f) in
    record {
      zs = zs ++ z ∷ [];
      whole = s.whole ∙ ap (option_map (λ ys. zs ++ ys)) next ∙ mapped_more zs z (literals ws);
      many = omega (arith, length_push zs z);
      first = take_grown room z zs js (rw s.first at (grown_by r room z ks js p));
    }

long_none : (zs : List ℤ) (o : Option (List ℤ)) → 512 < length zs → then (option_map (λ ys. zs ++ ys) o) (λ xs. cond (leb (length xs) 512) (Some xs) None) ≡ None
long_none zs None h = refl
long_none zs (Some ys) h =
    let l : leb (length (zs ++ ys)) 512 ≡ false = lt-leb _ _ (omega (arith, length-append zs ys)) in
    rw l refl

pub so_far_long : (all rest : List (List ℕ)) (room count : ℕ) (ks : List ℤ) → SoFar all rest room count ks → 512 < count → clause all ≡ None
so_far_long all rest room count ks s n = let m = s.many in rw s.whole (long_none s.zs (literals rest) (omega arith))
