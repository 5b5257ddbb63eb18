use Rattle.std.proofs.Common.{suc, length, sym, refl, ap, ◌∙◌, rules, tests}
use Rattle.std.specs.Slice.Iter.{split_inclusive_rest}
use Rattle.std.proofs.lemmas.List.Sorted.{answers_always}
use Rattle.text.specs.Lists.{each_all}
use Rattle.problem.specs.Meaning.{conjuncts}
use Rattle.problem.specs.PlanClauses.{needs}
use Rattle.problem.specs.Stanzas.{row_satisfies_one, passing}
use Rattle.problem.proofs.Feeds.{next_more, next_stop, left_none}
use Rattle.problem.proofs.Conjuncts.{conjuncts_next}
use Rattle.problem.proofs.plan_clauses.conjuncts.feed_depends.Goals as goal

pub returns-in_err-feed_conjunct : goal.returns-in_err-feed_conjunct
returns-in_err-feed_conjunct g c =
    let s = c.in-Some.ensures.steps in
    let w = s.1.2 (λ r. r.last) (answers_always _ _ _ (λ f a r f' k. search (rules, tests))) in
    next_stop _ _ _ _ _ _ _ _ _ _ (conjuncts_next _ _ (split_inclusive_rest c.next.new.self) s.1.0 s.0 s.1.1 w.1 c.loop-group.rest.now c.split_inclusive.ensures.rest s.2) c.loop-group.invariant _ _
    c.from_residual.ensures.0 c.in_err-feed_conjunct.ensures

pub loop-group-preserved : goal.loop-group-preserved
loop-group-preserved g c =
    let s = c.in-Some.ensures.steps in
    let w = s.1.2 (λ r. r.last) (answers_always _ _ _ (λ f a r f' k. search (rules, tests))) in
    next_more _ _ _ _ _ _ _ _ _ _ (conjuncts_next _ _ (split_inclusive_rest c.next.new.self) s.1.0 s.0 s.1.1 w.1 c.loop-group.rest.now c.split_inclusive.ensures.rest s.2) c.loop-group.invariant
    c.in_ok-feed_conjunct.ensures

pub returns : goal.returns
returns g c =
    left_none _ _ (λ ds. each_all (λ cs. needs (suc c.args.place) (passing (row_satisfies_one c.args.stanzas.now.text.now cs) 0 c.args.stanzas.now.rows.now)) (conjuncts ds)) _ _ _ c.loop-group.rest.now
    (ap length (sym c.split_inclusive.ensures.rest) ∙ c.in_default.ensures.steps.0) refl c.loop-group.invariant
