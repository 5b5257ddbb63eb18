use Rattle.std.proofs.Common.{Ok, rules, tests}
use Rattle.clauses.specs.Calls.{Clears}
use Rattle.problem.specs.Meaning.{problem_of}
use Rattle.verdict.specs.OpeningCalls.{variables_on, clauses_on, within}
use Rattle.verdict.proofs.Laying.{laid, same_base}
use Rattle.verdict.proofs.opening.lay.Goals as goal

pub returns : goal.returns
returns g c =
    let q = problem_of c.args.problem.now in
    let m = g.B.ClauseBase.meaning in
    let cs = clauses_on q (within c.args.claim) in
    let k : Clears (m c.args.base.now) c.count_variables.result (Ok tt) (m c.clear.new.self) = search (rules, tests) in
    let kept = same_base (λ s. m s.base.now) (λ s. s.base.ghost_name) cs c.feed_opening.result _ c.feed_opening.new.sink c.feed_opening.ensures in
    let w = laid (λ s. m s.base.now) (λ s. s.base.ghost_name) (m c.args.base.now) (variables_on q (within c.args.claim)) c.count_variables.result cs c.feed_opening.result _ c.feed_opening.new.sink c.count_variables.ensures k c.feed_opening.ensures in
    search (rules, kept, w)
