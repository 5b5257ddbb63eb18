use Rattle.std.proofs.Common.{length, ap, ◌∙◌, arith}
use Rattle.std.proofs.lemmas.List.{length-map}
use Rattle.problem.specs.Meaning.{package_of, packages_in, constraints_in}
use Rattle.verdict.proofs.Worded.{removed_names_are, all_names_are}
use Rattle.verdict.proofs.opening_clauses.lay_out.Goals as goal

pub returns : goal.returns
returns c =
    let v = c.args.problem.now in
    let t = c.stanzas-stanzas.ensures.text in
    let e = c.stanzas-stanzas.ensures.rows in
    record {
      removed = omega (arith, ap length e, length-map (packages_in v) (package_of v.text.now (constraints_in v)));
      installed = c.count_listed-installed.ensures.count ∙ ap length (removed_names_are v _ _ t e);
      names = c.count_listed-names.ensures.count ∙ ap length (all_names_are v _ _ t e);
    }
