use Rattle.std.proofs.Common.{◌≡◌, Some, ap, ◌∙◌, rules}
use Rattle.text.specs.Rows.{items}
use Rattle.problem.specs.ConstraintLists.{limit_of}
use Rattle.problem.specs.Drafts.{draft_at, extended_by}
use Rattle.problem.specs.Growth.{ok_mapped}
use Rattle.problem.specs.Keys.{package_key}
use Rattle.problem.specs.Said.{said}
use Rattle.problem.specs.declared.keys.PackageKey.TheVariants.{Depends, Conflicts}
use Rattle.problem.proofs.Drafting.{with_depends_is, with_conflicts_is, mapped_is}
use Rattle.problem.proofs.draft.extend.Goals as goal

pub returns-in-Some-Depends-clause-draft : goal.returns-in-Some-Depends-clause-draft
returns-in-Some-Depends-clause-draft c =
    let line = c.args.line.now in
    let text = line.text.now in
    let cs = items c.args.out.now in
    let ds = items c.read_depends.new.out in
    let k : Some Depends ≡ package_key (said line).0 = search rules in
    ap (ok_mapped (draft_at text ds)) (mapped_is (λ s. record { head = c.args.draft.head; depends = Some s; conflicts = c.args.draft.conflicts }) c.read_depends.result _ c.map-in-Some-Depends.ensures.cases (λ s d p. search rules))
    ∙ with_depends_is text cs ds c.read_depends.ensures.grown.front c.args.draft (limit_of c.args.out.now) line.number (said line).1 c.read_depends.result c.requires.good c.read_depends.ensures.list
    ∙ ap (extended_by (limit_of c.args.out.now) line.number (draft_at text cs c.args.draft) (said line).1) k

pub returns-in-Some-Conflicts-clause-draft : goal.returns-in-Some-Conflicts-clause-draft
returns-in-Some-Conflicts-clause-draft c =
    let line = c.args.line.now in
    let text = line.text.now in
    let cs = items c.args.out.now in
    let ds = items c.read_list.new.out in
    let k : Some Conflicts ≡ package_key (said line).0 = search rules in
    ap (ok_mapped (draft_at text ds)) (mapped_is (λ s. record { head = c.args.draft.head; depends = c.args.draft.depends; conflicts = Some s }) c.read_list.result _ c.map-in-Some-Conflicts.ensures.cases (λ s d p. search rules))
    ∙ with_conflicts_is text cs ds c.read_list.ensures.grown.front c.args.draft (limit_of c.args.out.now) line.number (said line).1 c.read_list.result c.requires.good c.read_list.ensures.list
    ∙ ap (extended_by (limit_of c.args.out.now) line.number (draft_at text cs c.args.draft) (said line).1) k
