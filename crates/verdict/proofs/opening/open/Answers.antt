use Rattle.std.proofs.Common.{Ok, Err, rules, tests}
use Rattle.clauses.specs.Calls.{Clears}
use Rattle.problem.specs.Meaning.{problem_of}
use Rattle.verdict.specs.Opened.{answer_of, Opens}
use Rattle.verdict.specs.declared.outcome.OpenFault.TheVariants.{NoRoom}
use Rattle.verdict.proofs.Concluding.{only_refused}
use Rattle.verdict.proofs.Laying.{cleared_again, not_fitting}
use Rattle.verdict.proofs.opening.open.Goals as goal

pub returns-in_err-claim-clause-refused : goal.returns-in_err-claim-clause-refused
returns-in_err-claim-clause-refused g c =
    let m = g.B.ClauseBase.meaning in
    only_refused (problem_of c.args.problem.now) (answer_of c.args.answer c.args.set.now) (m c.args.base.now) (m c.clear.new.self) c.from_residual-in_err-claim.result (search (rules, tests))

pub returns-then-is_err : goal.returns-then-is_err
returns-then-is_err g c =
    let q = problem_of c.args.problem.now in
    let a = answer_of c.args.answer c.args.set.now in
    let m = g.B.ClauseBase.meaning c.args.base.now in
    let m₁ = g.B.ClauseBase.meaning c.clear.new.self in
    let m₂ = g.B.ClauseBase.meaning c.lay.new.base in
    let m₃ = g.B.ClauseBase.meaning c.clear-then-is_err.new.self in
    let k : Clears m 0 (Ok tt) m₁ = search (rules, tests) in
    let n = not_fitting m m₁ m₂ q a c.in_ok-claim.claim k c.in_ok-claim.ensures c.lay.result c.if-is_err.ensures.value c.lay.ensures in
    let w : Opens m q a (Err NoRoom) m₃ = (k.0, c.in_ok-claim.ensures.0, n.0, cleared_again m m₂ m₃ c.clear-then-is_err.result n.1 n.2 c.clear-then-is_err.ensures) in
    record { opens = w; refused = only_refused q a m m₃ (Err NoRoom) w }
