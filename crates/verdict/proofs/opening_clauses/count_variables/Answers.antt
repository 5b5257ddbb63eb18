use Rattle.std.proofs.Common.{◌≡◌, length, sym, ap, ◌∙◌, arith}
use Rattle.std.proofs.lemmas.List.{length-map}
use Rattle.problem.specs.Meaning.{package_of, packages_in, constraints_in, problem_of}
use Rattle.verdict.specs.OpeningCalls.{variables_on, within}
use Rattle.verdict.proofs.opening_clauses.count_variables.Goals as goal

pub returns-in-Fail : goal.returns-in-Fail
returns-in-Fail c =
    let v = c.args.problem.now in
    let e : length c.packages.result.now ≡ length (problem_of v).packages = omega (arith, ap length c.packages.ensures.value, length-map (packages_in v) (package_of v.text.now (constraints_in v))) in
    e ∙ ap (λ x. variables_on (problem_of v) (within x)) (sym c.in-Fail.is)
