use Rattle.std.proofs.Common.{refl, arith, rules, tests}
use Rattle.problem.specs.Meaning.{problem_of}
use Rattle.problem.proofs.Agreement.{plans_agree}
use Rattle.problem.proofs.Checked.{passed_within, checked}
use Rattle.problem.proofs.Few.{plan_clauses_few}
use Rattle.problem.proofs.plan_check.check_plan.Goals as goal

pub map_err-requires : goal.map_err-requires
map_err-requires c = λ e h _ _ _ _.
    omega (arith, passed_within (problem_of c.args.problem.now) c.args.set.now (omega (arith, plan_clauses_few c.args.problem.now)) _ c.feed_plan_clauses.new.sink refl refl _ e h c.feed_plan_clauses.ensures)

pub returns : goal.returns
returns c = record {
  checks =
      checked (problem_of c.args.problem.now) c.args.set.now (omega (arith, plan_clauses_few c.args.problem.now)) _ c.feed_plan_clauses.new.sink refl refl _ _ _ c.feed_plan_clauses.ensures
      c.map_err.ensures.cases (λ w n k. search (rules, tests));
  agree = plans_agree;
}
