-- Counters of the literals that are not false.
use Rattle.std.proofs.Common.{◌≡◌, ℕ, suc, ◌+◌, ◌<◌, ◌≤◌, Bool, true, false, cond, not, T, eqb, ◌⊎◌, [], ◌∷◌, get_or, ℤ, pos, negsuc, Some, None, Option, sym, refl, ap, inl, inr, arith}
use Rattle.std.proofs.lemmas.Bool.{eq-eqb}
use Rattle.text.specs.Literals.{Clause}
use Rattle.clauses.specs.Propagation.{Values, value, flip, is_unset, is_false, is_true, satisfied, unset_in, set_true}
use Rattle.clauses.specs.Propagation.{Settled, Below}
use Rattle.clauses.specs.Codes.{code_of, code_against, Against}
use Rattle.clauses.specs.Counting.{hits, non_false, Gives, Gap}
use Rattle.clauses.specs.Events.{Waiting}
use Rattle.clauses.specs.declared.trail.Trail.{Trail}
use Rattle.clauses.proofs.Theory.{value_below}
use Rattle.clauses.proofs.Hits.{touch, against_code, hit_more}
use Rattle.text.proofs.Members.{or_left, or_right}

-- how a count steps
abbrev bit : Bool → ℕ
bit true = 1
bit false = 0

count_step : (b : Bool) (n : ℕ) → cond b (suc n) n ≡ bit b + n
count_step true n = omega arith
count_step false n = omega arith

bit_most : (b : Bool) → bit b ≤ 1
bit_most true = omega arith
bit_most false = omega arith

-- one more true literal makes at most its opposite's places false
pub non_false_set : (f : Values) (l : ℤ) (c : Clause) → non_false f c ≤ non_false (set_true f l) c + hits (code_against l) c
non_false_set f l [] = omega arith
non_false_set f l (m ∷ ms) = go (touch f l m) (non_false_set f l ms)
  where
    a : non_false f (m ∷ ms) ≡ bit (not (is_false (value f m))) + non_false f ms
    a = count_step (not (is_false (value f m))) (non_false f ms)

    b : non_false (set_true f l) (m ∷ ms) ≡ bit (not (is_false (value (set_true f l) m))) + non_false (set_true f l) ms
    b = count_step (not (is_false (value (set_true f l) m))) (non_false (set_true f l) ms)

    d : hits (code_against l) (m ∷ ms) ≡ bit (eqb (code_of m) (code_against l)) + hits (code_against l) ms
    d = count_step (eqb (code_of m) (code_against l)) (hits (code_against l) ms)

    go : (value (set_true f l) m ≡ value f m) ⊎ ((value (set_true f l) m ≡ Some true) ⊎ Against l m) → non_false f ms ≤ non_false (set_true f l) ms + hits (code_against l) ms → non_false f (m ∷ ms) ≤ non_false (set_true f l) (m ∷ ms) + hits (code_against l) (m ∷ ms)
    go (inl e) h = let p : bit (not (is_false (value (set_true f l) m))) ≡ bit (not (is_false (value f m))) = ap (λ (o : Option Bool). bit (not (is_false o))) e in omega (arith, a, b, d)
    go (inr (inl e)) h = let p : bit (not (is_false (value (set_true f l) m))) ≡ 1 = ap (λ (o : Option Bool). bit (not (is_false o))) e in omega (arith, a, b, d, bit_most (not (is_false (value f m))))
    go (inr (inr e)) h = let p : bit (eqb (code_of m) (code_against l)) ≡ 1 = ap bit (eq-eqb (code_of m) (code_against l) (against_code l m e)) in omega (arith, a, b, d, bit_most (not (is_false (value f m))))

-- more values, fewer literals that are not false
pub non_false_below : (f g : Values) → Below f g → (c : Clause) → non_false g c ≤ non_false f c
non_false_below f g up [] = omega arith
non_false_below f g up (m ∷ ms) = go (value f m) refl (non_false_below f g up ms)
  where
    a : non_false f (m ∷ ms) ≡ bit (not (is_false (value f m))) + non_false f ms
    a = count_step (not (is_false (value f m))) (non_false f ms)

    b : non_false g (m ∷ ms) ≡ bit (not (is_false (value g m))) + non_false g ms
    b = count_step (not (is_false (value g m))) (non_false g ms)

    go : (o : Option Bool) → value f m ≡ o → non_false g ms ≤ non_false f ms → non_false g (m ∷ ms) ≤ non_false f (m ∷ ms)
    go None e h = let p : bit (not (is_false (value f m))) ≡ 1 = ap (λ (o : Option Bool). bit (not (is_false o))) e in omega (arith, a, b, bit_most (not (is_false (value g m))))
    go (Some true) e h = let p : bit (not (is_false (value f m))) ≡ 1 = ap (λ (o : Option Bool). bit (not (is_false o))) e in omega (arith, a, b, bit_most (not (is_false (value g m))))
    go (Some false) e h = let p : bit (not (is_false (value g m))) ≡ 0 = ap (λ (o : Option Bool). bit (not (is_false o))) (value_below f g up m false e) in omega (arith, a, b)

-- a literal that is false in g and not in f: the trail made it so
pub late : (f g : Values) (t : Trail) (low : ℕ) (m : ℤ) → Gap f g t low → value g m ≡ Some false → (value f m ≡ Some false) ⊎ ((q : ℕ) × (low ≤ q) × (q < t.tail) × Against (get_or t.literals.now q (pos 0)) m)
late f g t low (pos v) gap e = go (gap v false e)
  where
    go : (f v ≡ Some false) ⊎ ((q : ℕ) × (low ≤ q) × (q < t.tail) × Gives t q v false) → (f v ≡ Some false) ⊎ ((q : ℕ) × (low ≤ q) × (q < t.tail) × Against (get_or t.literals.now q (pos 0)) (pos v))
    go (inl h) = inl h
    go (inr h) = inr (h.0, h.1, h.2, (sym h.3.0, rw h.3.1 refl))
late f g t low (negsuc k) gap e = go (g (suc k)) refl e
  where
    at : (f (suc k) ≡ Some true) ⊎ ((q : ℕ) × (low ≤ q) × (q < t.tail) × Gives t q (suc k) true) → (flip (f (suc k)) ≡ Some false) ⊎ ((q : ℕ) × (low ≤ q) × (q < t.tail) × Against (get_or t.literals.now q (pos 0)) (negsuc k))
    at (inl h) = inl (rw h refl)
    at (inr h) = inr (h.0, h.1, h.2, (sym h.3.0, rw h.3.1 refl))

    go : (o : Option Bool) → g (suc k) ≡ o → flip o ≡ Some false → (flip (f (suc k)) ≡ Some false) ⊎ ((q : ℕ) × (low ≤ q) × (q < t.tail) × Against (get_or t.literals.now q (pos 0)) (negsuc k))
    go None i h = let z : ◌≡◌ {A = ℕ} 0 1 = cc in absurd (omega arith)
    go (Some false) i h = let z : ◌≡◌ {A = ℕ} 0 1 = cc in absurd (omega arith)
    go (Some true) i h = at (gap (suc k) true i)

open_kept : (f g : Values) (t : Trail) (low : ℕ) → Gap f g t low → (c : Clause) → T (satisfied g c) ⊎ (Waiting t low c ⊎ (non_false f c ≤ unset_in g c))
open_kept f g t low gap [] = inr (inr (omega arith))
open_kept f g t low gap (m ∷ ms) = go (value g m) refl (open_kept f g t low gap ms)
  where
    a : non_false f (m ∷ ms) ≡ bit (not (is_false (value f m))) + non_false f ms
    a = count_step (not (is_false (value f m))) (non_false f ms)

    b : unset_in g (m ∷ ms) ≡ bit (is_unset (value g m)) + unset_in g ms
    b = count_step (is_unset (value g m)) (unset_in g ms)

    Goal : Type 0
    Goal = T (satisfied g (m ∷ ms)) ⊎ (Waiting t low (m ∷ ms) ⊎ (non_false f (m ∷ ms) ≤ unset_in g (m ∷ ms)))

    lift : (bit (not (is_false (value f m))) ≤ bit (is_unset (value g m))) → T (satisfied g ms) ⊎ (Waiting t low ms ⊎ (non_false f ms ≤ unset_in g ms)) → Goal
    lift le (inl s) = inl (or_right (is_true (value g m)) _ s)
    lift le (inr (inl w)) = inr (inl (w.0, w.1, w.2, hit_more _ m ms w.3))
    lift le (inr (inr h)) = inr (inr (omega (arith, a, b)))

    falsed : (value f m ≡ Some false) ⊎ ((q : ℕ) × (low ≤ q) × (q < t.tail) × Against (get_or t.literals.now q (pos 0)) m) → T (satisfied g ms) ⊎ (Waiting t low ms ⊎ (non_false f ms ≤ unset_in g ms)) → Goal
    falsed (inl e) h = lift (let p : bit (not (is_false (value f m))) ≡ 0 = ap (λ (o : Option Bool). bit (not (is_false o))) e in omega arith) h
    falsed (inr w) h = inr (inl (w.0, w.1, w.2, (0, omega arith, w.3)))

    go : (o : Option Bool) → value g m ≡ o → T (satisfied g ms) ⊎ (Waiting t low ms ⊎ (non_false f ms ≤ unset_in g ms)) → Goal
    go (Some true) e h = inl (or_left _ (satisfied g ms) (rw e tt))
    go (Some false) e h = falsed (late f g t low m gap e) h
    go None e h = lift (let p : bit (is_unset (value g m)) ≡ 1 = ap (λ (o : Option Bool). bit (is_unset o)) e in omega (arith, bit_most (not (is_false (value f m))))) h

-- a clause with two literals that are not false in f needs no look
pub open_settled : (f g : Values) (t : Trail) (low : ℕ) (c : Clause) → Gap f g t low → 2 ≤ non_false f c → Settled g c ⊎ Waiting t low c
open_settled f g t low c gap two = go (open_kept f g t low gap c)
  where
    go : T (satisfied g c) ⊎ (Waiting t low c ⊎ (non_false f c ≤ unset_in g c)) → Settled g c ⊎ Waiting t low c
    go (inl s) = inl (inl s)
    go (inr (inl w)) = inr w
    go (inr (inr h)) = inl (inr (omega arith))
