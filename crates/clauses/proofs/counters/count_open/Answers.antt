use Rattle.std.proofs.Common.{◌≡◌, ◌∙◌, ℕ, suc, ◌<◌, Bool, true, false, cond, not, List, [], ◌∷◌, length, get_or, ℤ, pos, refl, ap, sym, subst, w32, SFits, to_z, of_z, rules}
use Rattle.std.specs.List.{filter}
use Rattle.std.proofs.lemmas.Int.{to_z-of_z}
use Rattle.std.proofs.lemmas.List.{get_or_default}
use Rattle.std.proofs.lemmas.Iterator.{YieldsList-from_slice}
use Rattle.std.proofs.lemmas.Iterator.Adapters.{serves_from_places}
use Rattle.std.proofs.lemmas.Iterator.Consumers.{count_from_yields_List, YieldsList-at, YieldsList-from_filter}
use Rattle.text.specs.Lists.{how_many}
use Rattle.text.specs.Literals.{Clause, variable_of}
use Rattle.clauses.specs.Cells.{values_of, Placed}
use Rattle.clauses.specs.Propagation.{is_false, value}
use Rattle.clauses.proofs.counters.count_open.Goals as goal

kept_many : {X : Type 0} (t : X → Bool) (xs : List X) → length (filter t xs) ≡ how_many t xs
kept_many t [] = refl
kept_many t (x ∷ xs) =
    elim (t x) as (λ b. length (cond b (x ∷ filter t xs) (filter t xs)) ≡ cond b (suc (how_many t xs)) (how_many t xs)) [ true ↦ ap suc (kept_many t xs) | false ↦ kept_many t xs ]

placed_at : (c : Clause) (n : ℕ) (z : ℤ) (k : ℕ) → Placed c n → k < length c → z ≡ get_or c k z → SFits w32 z → variable_of (to_z w32 (of_z w32 z)) < n
placed_at c n z k p lt at fits =
    rw (to_z-of_z w32 z fits) (subst (λ (m : ℤ). variable_of m < n) (sym (at ∙ get_or_default c k z (pos 0) lt)) (p k lt))

pub count-requires-clause-can : goal.count-requires-clause-can
count-requires-clause-can c =
    (tt, tt, serves_from_places (YieldsList-from_slice c.args.clause.now (cc)) (λ x q h. search rules) (λ x k lt at y e _ _ _ _ _ _ m _. rw (ap (λ p. length p.0.now) c.filter.ensures.closure) (placed_at c.args.clause.now _ y.now.now k c.requires.placed lt (subst (λ z. z.now ≡ get_or c.args.clause.now k z.now) (sym e) at) (search rules))))

pub returns : goal.returns
returns c =
    let f = values_of c.args.values.now in
    let test : ℤ → Bool = λ m. not (is_false (value f m)) in
    let n : c.count.result ≡ length (filter test c.args.clause.now) = count_from_yields_List _ c.count.result c.count.ensures.ran (YieldsList-from_filter _ test (YieldsList-at c.filter.ensures.source (YieldsList-from_slice c.args.clause.now (cc))) c.filter.ensures.closure (λ x b q h. search rules)) in
    n ∙ kept_many test c.args.clause.now
