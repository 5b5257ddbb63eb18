use Rattle.std.proofs.Common.{◌≡◌, ◌≤◌, min, [], length, IfSome, None, sym, ap, ◌∙◌, subst, arith}
use Rattle.text.specs.Doc.{doc}
use Rattle.text.specs.Lists.{Each}
use Rattle.text.specs.Rows.{items}
use Rattle.problem.specs.ConstraintLists.{limit_of}
use Rattle.problem.specs.Drafts.{WantedOk}
use Rattle.problem.specs.Reading.{closed}
use Rattle.problem.specs.Repeats.{repeated_in}
use Rattle.problem.specs.Rows.{ConstraintOk}
use Rattle.problem.specs.Sections.{limits_of, state_of, package_limit, Sound}
use Rattle.problem.proofs.Again.{stands_once}
use Rattle.problem.proofs.Concluding.{read_twice, read_whole}
use Rattle.problem.proofs.read.read_rows.Goals as goal

pub returns-in-Some-first_repeat-clause-problem : goal.returns-in-Some-first_repeat-clause-problem
returns-in-Some-first_repeat-clause-problem c =
    let text = c.args.text.now in
    let ps = items c.read_lines.new.packages in
    let qs = items c.close.new.packages in
    let cs = items c.read_lines.new.constraints in
    let m : package_limit c.read_lines.new.packages ≡ package_limit c.args.packages.now = ap (min 256) c.read_lines.ensures.same.room in
    let b = c.in_ok-last.ensures.state text cs ∙ ap (λ x. closed x (state_of text ps cs c.in_ok-progress.progress)) m in
    let h = c.in-Some-first_repeat.ensures ∙ ap (repeated_in text []) c.as_slice.ensures in
    read_twice text (doc text) (limits_of c.args.packages.now c.args.constraints.now) ps qs cs c.in_ok-progress.progress c.in_ok-last.last c.in-Some.wanted c.in-Some-first_repeat.line c.in_ok-progress.ensures.state b c.in-Some.is h

pub returns-clause-problem : goal.returns-clause-problem
returns-clause-problem c =
    let text = c.args.text.now in
    let ps = items c.read_lines.new.packages in
    let qs = items c.close.new.packages in
    let cs = items c.read_lines.new.constraints in
    let m : package_limit c.read_lines.new.packages ≡ package_limit c.args.packages.now = ap (min 256) c.read_lines.ensures.same.room in
    let b = c.in_ok-last.ensures.state text cs ∙ ap (λ x. closed x (state_of text ps cs c.in_ok-progress.progress)) m in
    let h : None ≡ repeated_in text [] qs = c.in_default-first_repeat.ensures ∙ ap (repeated_in text []) c.as_slice.ensures in
    read_whole text (doc text) (limits_of c.args.packages.now c.args.constraints.now) ps qs cs c.in_ok-progress.progress c.in_ok-last.last c.in-Some.wanted c.in_ok-progress.ensures.state b c.in-Some.is h

pub returns-clause-good : goal.returns-clause-good
returns-clause-good c =
    let text = c.args.text.now in
    let qs = items c.close.new.packages in
    let cs = items c.read_lines.new.constraints in
    let h : None ≡ repeated_in text [] qs = c.in_default-first_repeat.ensures ∙ ap (repeated_in text []) c.as_slice.ensures in
    let g = c.read_lines.ensures.grown in
    let s : Sound (length text) (length cs) qs c.in_ok-last.last = c.in_ok-last.ensures.good (length text) (length cs) c.in_ok-progress.ensures.sound in
    let none : length (items c.args.constraints.now) ≡ 0 = ap length c.requires.constraints in
    let few : length cs ≤ limit_of c.read_lines.new.constraints = g.few (omega arith) in
    record {
      packages = s.packages;
      constraints = g.good (subst (Each (ConstraintOk (length text))) (sym c.requires.constraints) tt);
      request = subst (λ o. IfSome o (WantedOk (length cs))) c.in-Some.is s.request;
      once = stands_once text [] qs (sym h);
      few = s.few;
      asked = omega arith;
    }
