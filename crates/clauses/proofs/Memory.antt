-- Values and clauses in memory, against what they mean.
use Rattle.std.proofs.Common.{◌≡◌, ℕ, zero, suc, ◌+◌, ◌-◌, ◌<◌, ◌≤◌, Bool, true, false, cond, eqb, ◌≢◌, List, [], ◌∷◌, length, get_or, take, drop, set, ℤ, pos, Some, None, Option, refl, ap, ◌∙◌, le_of_suc-le-suc, arith, w32, SFits, to_z, of_z, below_more}
use mathlib.Core.Path.{fun_ext}
use Rattle.std.proofs.lemmas.Int.{to_z-of_z}
use Rattle.std.proofs.lemmas.List.{get_or-set_same, get_or-set_other, get_or-take, get_or-drop, length-take, length-drop}
use Rattle.std.proofs.lemmas.Bool.{eqb-true, eqb-false}
use Rattle.std.specs.List.{AllByRecursion}
use Rattle.text.specs.Literals.{Clause, variable_of, positive}
use Rattle.clauses.specs.Propagation.{is_unset, set_true}
use Rattle.clauses.specs.Cells.{values_of, Placed, unset_count}
use Rattle.clauses.specs.Rows.{row_at, span, held_in, Named}
use Rattle.clauses.specs.Growth.{Speaks}
use Rattle.clauses.specs.Stored.{Sound}
use Rattle.clauses.specs.declared.row.Row.{Row}
use Rattle.clauses.specs.declared.store.Store.{Store}
use Rattle.clauses.proofs.Keeping.{onto, held_first}

pub values_write : (xs : List (Option Bool)) (v : ℕ) (b : Bool) → v < length xs → values_of (set xs v (Some b)) ≡ (λ w. cond (eqb w v) (Some b) (values_of xs w))
values_write xs v b lt = fun_ext (λ w. go w (eqb w v) refl)
  where
    go : (w : ℕ) (t : Bool) → eqb w v ≡ t → get_or (set xs v (Some b)) w None ≡ cond t (Some b) (get_or xs w None)
    go w true e = rw (eqb-true w v e) (get_or-set_same xs v (Some b) None lt)
    go w false e = get_or-set_other xs v w (Some b) None (eqb-false w v e)

pub values_set : (xs : List (Option Bool)) (l : ℤ) → variable_of l < length xs → values_of (set xs (variable_of l) (Some (positive l))) ≡ set_true (values_of xs) l
values_set xs l lt = values_write xs (variable_of l) (positive l) lt

-- one variable that is set is one fewer unset
pub unset_less : (xs : List (Option Bool)) (v : ℕ) (b : Bool) → v < length xs → get_or xs v None ≡ None → suc (unset_count (set xs v (Some b))) ≡ unset_count xs
unset_less [] v b lt e = absurd (omega arith)
unset_less (x ∷ xs) zero b lt e = rw e
unset_less (x ∷ xs) (suc v) b lt e = go (is_unset x) (unset_less xs v b (le_of_suc-le-suc lt) e)
  where
    go : (t : Bool) → suc (unset_count (set xs v (Some b))) ≡ unset_count xs → suc (cond t (suc (unset_count (set xs v (Some b)))) (unset_count (set xs v (Some b)))) ≡ cond t (suc (unset_count xs)) (unset_count xs)
    go true h = ap suc h
    go false h = h

pub unset_most : (xs : List (Option Bool)) → unset_count xs ≤ length xs
unset_most [] = omega arith
unset_most (x ∷ xs) = go (is_unset x) (unset_most xs)
  where
    go : (t : Bool) → unset_count xs ≤ length xs → cond t (suc (unset_count xs)) (unset_count xs) ≤ suc (length xs)
    go true h = omega arith
    go false h = omega arith

-- the rows and literals of a store fit together
pub sound_of : (s : Store) → Sound s
sound_of s =
    record { counted = s.counted; small = omega (arith, s.within, s.small); within = s.within; spans = s.spans; ordered = s.ordered; rising = s.rising; under = s.under; named = s.named }

-- what holds of each row's clause holds of each clause held
pub all_held : (P : Clause → Type 0) (lits : List ℤ) (rows : List Row) (count : ℕ) → count ≤ length rows → ((k : ℕ) → k < count → P (span lits (row_at rows k))) → AllByRecursion (λ h. P h.literals) (held_in lits (take count rows))
all_held P lits rows zero le h = tt
all_held P lits [] (suc n) le h = absurd (omega arith)
all_held P lits (r ∷ rs) (suc n) le h = rw (held_first lits r (take n rs)) (go r.live (all_held P lits rs n (le_of_suc-le-suc le) (λ k lt. h (suc k) (omega arith))))
  where
    go : (b : Bool) → AllByRecursion (λ h. P h.literals) (held_in lits (take n rs)) → AllByRecursion (λ h. P h.literals) (onto lits r (held_in lits (take n rs)) b)
    go true i = (h 0 (omega arith), i)
    go false i = i

-- a literal of a row is one of the literals in use
pub row_speaks : (s : Store) (k : ℕ) → Sound s → k < s.count → Speaks (span s.literals.now (row_at s.rows.now k)) s.variables
row_speaks s k ok kc j jl =
    let r = row_at s.rows.now k in
    let h : r.start + r.len ≤ s.filled = ok.spans k kc in
    let m : length (span s.literals.now r) ≡ r.len = simp (length-take, length-drop) (omega (arith, ok.within)) in
    let e : get_or (span s.literals.now r) j (pos 0) ≡ get_or s.literals.now (r.start + j) (pos 0) = get_or-take r.len (drop r.start s.literals.now) j (pos 0) (omega arith) ∙ get_or-drop r.start s.literals.now j (pos 0) in
    rw e (ok.named (r.start + j) (omega arith))

pub speaks_placed : (c : Clause) (variables n : ℕ) → variables ≤ n - 1 → Speaks c variables → Placed c n
speaks_placed c variables n le h k kc = omega (arith, h k kc)

pub named_none : (lits : List ℤ) (variables : ℕ) → Named lits 0 variables
named_none lits variables k h = absurd (omega arith)

-- one more literal, at the end
pub named_push : (lits : List ℤ) (n variables : ℕ) (l : ℤ) → SFits w32 l → n < length lits → Named lits n variables → variable_of l - 1 < variables → Named (set lits n (to_z w32 (of_z w32 l))) (n + 1) variables
named_push lits n variables l fits lt h le =
    rw (to_z-of_z w32 l fits) (below_more (λ k. variable_of (get_or (set lits n l) k (pos 0)) - 1 < variables) n
    (λ k kn. let ne : k ≢ n = omega arith in rw (get_or-set_other lits n k l (pos 0) ne) (h k kn))
    (rw (get_or-set_same lits n l (pos 0) lt) le))
