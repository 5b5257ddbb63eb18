-- Lists in memory, entry by entry.
use Rattle.std.proofs.Common.{◌≡◌, ℕ, suc, ◌+◌, ◌<◌, ◌≤◌, ◌≢◌, ◌⊎◌, List, length, get_or, set, sym, ap, ◌∙◌, subst, inl, inr, add-one, arith, below_more}
use Rattle.std.proofs.lemmas.List.{get_or-set_same, get_or-set_other}
use Rattle.std.proofs.lemmas.Bool.{cases_eq}
use Rattle.clauses.specs.Links.{On, here, there, Falling, AllBelow}

pub below_push : (xs : List ℕ) (n m v : ℕ) → n < length xs → v < m → AllBelow xs n m → AllBelow (set xs n v) (n + 1) m
below_push xs n m v lt le h =
    below_more (λ i. get_or (set xs n v) i 0 < m) n
    (λ i k. let ne : i ≢ n = omega arith in rw (get_or-set_other xs n i v 0 ne) (h i k))
    (rw (get_or-set_same xs n v 0 lt) le)

-- an entry on a list lies before the list's first link
pub on_bound : (next : List ℕ) (n link e : ℕ) → Falling next n → link ≤ n → On next link e → e < link
on_bound next n link e f le here = omega arith
on_bound next n link e f le (there {i = i} o) =
    let a : get_or next i 0 ≤ i = f i (omega arith) in
    let b : e < get_or next i 0 = on_bound next n (get_or next i 0) e f (omega arith) o in
    omega arith

-- a write at n, past the list, leaves it
pub on_set : (next : List ℕ) (n v link e : ℕ) → Falling next n → link ≤ n → On next link e → On (set next n v) link e
on_set next n v link e f le here = here
on_set next n v link e f le (there {i = i} o) =
    let a : get_or next i 0 ≤ i = f i (omega arith) in
    let ne : i ≢ n = omega arith in
    let same : get_or (set next n v) i 0 ≡ get_or next i 0 = get_or-set_other next n i v 0 ne in
    there (subst (λ (z : ℕ). On (set next n v) z e) (sym same) (on_set next n v (get_or next i 0) e f (omega arith) o))

-- nothing is on the empty list
pub on_none : (next : List ℕ) (link e : ℕ) → link ≡ 0 → On next link e → ⊥
on_none next link e z here = omega arith
on_none next link e z (there o) = omega arith

-- the first entry, or the rest
pub on_step : (next : List ℕ) (link i e : ℕ) → link ≡ suc i → On next link e → (e ≡ i) ⊎ On next (get_or next i 0) e
on_step next link i e z here = inl (omega arith)
on_step next link i e z (there {i = j} o) = inr (let q : j ≡ i = omega arith in subst (λ (k : ℕ). On next (get_or next k 0) e) q o)

-- a list with a new entry n in front, and the others
pub on_enter : (next heads : List ℕ) (n code c e : ℕ) → Falling next n → n < length next → code < length heads → get_or heads c 0 ≤ n → On next (get_or heads c 0) e → On (set next n (get_or heads code 0)) (get_or (set heads code (n + 1)) c 0) e
on_enter next heads n code c e f lt cl le o = go (cases_eq c code)
  where
    go : (c ≡ code) ⊎ (c ≡ code → ⊥) → On (set next n (get_or heads code 0)) (get_or (set heads code (n + 1)) c 0) e
    go (inl q) =
        let a : get_or (set heads code (n + 1)) c 0 ≡ suc n = rw q (get_or-set_same heads code (n + 1) 0 cl ∙ add-one n) in
        let b : get_or (set next n (get_or heads code 0)) n 0 ≡ get_or heads c 0 = get_or-set_same next n (get_or heads code 0) 0 lt ∙ ap (λ (z : ℕ). get_or heads z 0) (sym q) in
        let p : On (set next n (get_or heads code 0)) (get_or heads c 0) e = on_set next n (get_or heads code 0) (get_or heads c 0) e f le o in
        subst (λ (z : ℕ). On (set next n (get_or heads code 0)) z e) (sym a) (there (subst (λ (z : ℕ). On (set next n (get_or heads code 0)) z e) (sym b) p))
    go (inr q) = rw (get_or-set_other heads code c (n + 1) 0 q) (on_set next n (get_or heads code 0) (get_or heads c 0) e f le o)

pub on_new : (next heads : List ℕ) (n code v : ℕ) → code < length heads → On next (get_or (set heads code (n + 1)) code 0) n
on_new next heads n code v cl = subst (λ (z : ℕ). On next z n) (sym (get_or-set_same heads code (n + 1) 0 cl ∙ add-one n)) here
