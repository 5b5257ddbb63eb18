use Rattle.std.proofs.Common.{IfOk, sym, subst, arith, rules}
use Rattle.text.specs.Rows.{items}
use Rattle.problem.specs.Sections.{package_limit, Sound}
use Rattle.problem.specs.declared.section.Section.TheVariants.{Between}
use Rattle.problem.proofs.Closing.{closes_good}
use Rattle.problem.proofs.Drafting.{mapped_is}
use Rattle.problem.proofs.section.close.Goals as goal

pub returns-in-Package-clause-good : goal.returns-in-Package-clause-good
returns-in-Package-clause-good c =
    let qs = items c.file.new.packages in
    λ bytes n h.
    subst (λ x. IfOk x (Sound bytes n qs)) (sym (mapped_is (λ _. record { section = Between; request = c.args.last.request }) c.file.result _ c.map.ensures.cases (λ u p k. search rules)))
    (closes_good (package_limit c.args.packages.now) (items c.args.packages.now) qs c.in-Package.draft c.args.last c.file.result (omega arith) c.in-Package.is c.file.ensures.files bytes n h)
