-- What one clause of a store tells an engine.
use Rattle.std.proofs.Common.{◌≡◌, ℕ, suc, ◌+◌, ◌-◌, ◌^◌, ◌<◌, ◌≤◌, Bool, true, List, ◌∷◌, length, get_or, set, ℤ, pos, Some, None, Option, refl, ap, ◌∙◌, subst, arith, w32, SFits, to_z, of_z}
use Rattle.std.proofs.lemmas.Int.{to_z-of_z}
use Rattle.std.proofs.lemmas.List.{get_or_at, length-append, length-take}
use Rattle.text.specs.Literals.{Clause, variable_of, positive}
use Rattle.clauses.specs.Propagation.{Values, set_true, HeldAt, Unit', Refuted, Reached, Settled}
use Rattle.clauses.specs.Status.{status_from}
use Rattle.clauses.specs.Cells.{values_of, Placed, unset_count, AllSettled}
use Rattle.clauses.specs.Rows.{row_at, span}
use Rattle.clauses.specs.Stored.{held, Sound}
use Rattle.clauses.specs.Growth.{Speaks}
use Rattle.clauses.specs.declared.scan.Status.TheVariants.{Conflict, Forced, Other}
use Rattle.clauses.specs.declared.store.Store.{Store}
use Rattle.clauses.proofs.Theory.{reached_more, reached_unit, refuted_at, unset_means}
use Rattle.clauses.proofs.Statuses.{means_of}
use Rattle.clauses.proofs.Keeping.{held_at}
use Rattle.clauses.proofs.Memory.{values_set, unset_less, all_held, row_speaks, speaks_placed}

-- the unset literal of a unit clause is one of its literals
pub unit_holds : (P : ℤ → Type 0) (f : Values) (c : Clause) (l : ℤ) → ((k : ℕ) → k < length c → P (get_or c k (pos 0))) → Unit' f c l → P l
unit_holds P f c l h u =
    let i : ℕ = length u.before in
    let e : get_or c i (pos 0) ≡ l = ap (λ (x : Clause). get_or x i (pos 0)) u.parts ∙ get_or_at u.before l u.after (pos 0) i refl in
    let m : length c ≡ length u.before + length (l ∷ u.after) = ap length u.parts ∙ length-append u.before (l ∷ u.after) in
    subst P e (h i (omega arith))

-- the clause in row k of the store s, read as cl
module _ (s : Store) (k : ℕ) (cl : Clause) (is : cl ≡ span s.literals.now (row_at s.rows.now k)) (lt : k < s.count) (ok : Sound s) where
  pub at_row : (row_at s.rows.now k).live ≡ true → HeldAt (held s) (row_at s.rows.now k).number cl
  at_row live = rw is (held_at s.literals.now s.rows.now s.count k lt ok.counted ok.rising live)

  pub row_named : Speaks cl s.variables
  row_named = rw is (row_speaks s k ok lt)

  pub row_placed : (n : ℕ) → s.variables ≤ n - 1 → Placed cl n
  row_placed n more = speaks_placed cl s.variables n more row_named

  pub row_short : length cl < 2 ^ 32
  row_short =
      let r = row_at s.rows.now k in
      let a : r.start + r.len ≤ s.filled = ok.spans k lt in
      let b : length cl ≤ r.len = rw is (simp length-take (omega arith)) in
      omega (arith, ok.small)

  pub row_conflict : (f g : Values) → (row_at s.rows.now k).live ≡ true → Reached (held s) f g → Conflict ≡ status_from g None cl → Refuted (held s) f
  row_conflict f g live r e = refuted_at (held s) f g _ cl r (at_row live) (means_of g cl Conflict e)

  pub row_literal : (g : Values) (l : ℤ) → SFits w32 l → Forced l ≡ status_from g None cl → variable_of (to_z w32 (of_z w32 l)) - 1 < s.variables
  row_literal g l fits e = rw (to_z-of_z w32 l fits) (unit_holds (λ m. variable_of m - 1 < s.variables) g cl l row_named (means_of g cl (Forced l) e))

  -- the values xs, with the forced literal made true, are ys
  pub row_forced : (f : Values) (xs ys : List (Option Bool)) (l : ℤ) → (row_at s.rows.now k).live ≡ true → s.variables ≤ length xs - 1 → Reached (held s) f (values_of xs) → SFits w32 l → Forced l ≡ status_from (values_of xs) None cl → ys ≡ set xs (variable_of (to_z w32 (of_z w32 l))) (Some (positive (to_z w32 (of_z w32 l)))) → Reached (held s) f (values_of ys) × (unset_count ys < unset_count xs)
  row_forced f xs ys l live more r fits e new =
      let u : Unit' (values_of xs) cl l = means_of (values_of xs) cl (Forced l) e in
      let v : variable_of l < length xs = unit_holds (λ m. variable_of m < length xs) (values_of xs) cl l (row_placed (length xs) more) u in
      let w : ys ≡ set xs (variable_of l) (Some (positive l)) = rw (to_z-of_z w32 l fits) at new in
      let q : values_of ys ≡ set_true (values_of xs) l = ap values_of w ∙ values_set xs l v in
      let p : suc (unset_count (set xs (variable_of l) (Some (positive l)))) ≡ unset_count xs = unset_less xs (variable_of l) (positive l) v (unset_means (values_of xs) l u.unset) in
      let z : unset_count ys ≡ unset_count (set xs (variable_of l) (Some (positive l))) = ap unset_count w in
      (rw q (reached_more (held s) f (values_of xs) (set_true (values_of xs) l) r (reached_unit (held s) (values_of xs) _ cl l (at_row live) u)), omega arith)

  pub row_settled : (g : Values) → Other ≡ status_from g None cl → Settled g (span s.literals.now (row_at s.rows.now k))
  row_settled g e = rw is at (means_of g cl Other e)

-- all rows settled
pub rows_settled : (s : Store) (xs : List (Option Bool)) → Sound s → ((k : ℕ) → k < s.count → Settled (values_of xs) (span s.literals.now (row_at s.rows.now k))) → AllSettled (held s) xs
rows_settled s xs ok h = all_held (Settled (values_of xs)) s.literals.now s.rows.now s.count ok.counted h
