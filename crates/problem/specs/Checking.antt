-- The check of a set against the plan clauses.
-- passes, fails: a clause that the set makes true, and one that it makes false
-- Checks: accepted just if the set is a plan; else with the number of the first false plan clause
use Rattle.std.specs.Prelude.{◌≡◌, ◌+◌, ◌<◌, true, false, Some, None, Ok, Err, Result}
use Rattle.text.specs.Literals.{Clause, makes_true}
use Rattle.problem.specs.Cudf.{Problem, Chosen, PlanOverSets}
use Rattle.problem.specs.PlanClauses.{plan_clauses, first_false}
use Rattle.problem.specs.Sets.{set_of}
use Rattle.problem.specs.declared.plan_check.NotPlan.{NotPlan}
use Rattle.problem.specs.declared.plan_check.PlanTest.{PlanTest}

abbrev pub passes : PlanTest → Clause → PlanTest → Type 0
passes a c b = (makes_true (set_of a.set.now) c ≡ true) × (b.set.now ≡ a.set.now) × (a.passed < 4294967295 → b.passed ≡ a.passed + 1)

abbrev pub fails : PlanTest → Clause → PlanTest → Type 0
fails a c b = (makes_true (set_of a.set.now) c ≡ false) × (b.passed ≡ a.passed)

abbrev pub Checks : Problem → Chosen → Result (Unit {0}) NotPlan → Type 0
Checks q s (Ok u) = PlanOverSets q s × (first_false s (plan_clauses q) ≡ None)
Checks q s (Err f) = (PlanOverSets q s → ⊥) × (first_false s (plan_clauses q) ≡ Some f.clause)
