use Rattle.std.proofs.Common.{◌≡◌, Some, ap, ◌∙◌, rules}
use Rattle.text.specs.Rows.{items}
use Rattle.problem.specs.ConstraintLists.{limit_of}
use Rattle.problem.specs.Drafts.{sought_at, requested_by}
use Rattle.problem.specs.Growth.{ok_mapped}
use Rattle.problem.specs.Keys.{request_key}
use Rattle.problem.specs.Said.{said}
use Rattle.problem.specs.declared.keys.RequestKey.TheVariants.{Install, Remove}
use Rattle.problem.proofs.Drafting.{with_install_is, with_remove_is, mapped_is}
use Rattle.problem.proofs.wanted.add_request.Goals as goal

pub returns-in-Some-Install-clause-wanted : goal.returns-in-Some-Install-clause-wanted
returns-in-Some-Install-clause-wanted c =
    let line = c.args.line.now in
    let text = line.text.now in
    let cs = items c.args.out.now in
    let ds = items c.read_list.new.out in
    let k : Some Install ≡ request_key (said line).0 = search rules in
    ap (ok_mapped (sought_at text ds)) (mapped_is (λ s. record { install = Some s; remove = c.args.wanted.remove }) c.read_list.result _ c.map.ensures.cases (λ s w p. search rules))
    ∙ with_install_is text cs ds c.read_list.ensures.grown.front c.args.wanted (limit_of c.args.out.now) line.number (said line).1 c.read_list.result c.requires.good c.read_list.ensures.list
    ∙ ap (requested_by (limit_of c.args.out.now) line.number (sought_at text cs c.args.wanted) (said line).1) k

pub returns-in-Some-Remove-clause-wanted : goal.returns-in-Some-Remove-clause-wanted
returns-in-Some-Remove-clause-wanted c =
    let line = c.args.line.now in
    let text = line.text.now in
    let cs = items c.args.out.now in
    let ds = items c.read_list-in-Some-Remove.new.out in
    let k : Some Remove ≡ request_key (said line).0 = search rules in
    ap (ok_mapped (sought_at text ds)) (mapped_is (λ s. record { install = c.args.wanted.install; remove = Some s }) c.read_list-in-Some-Remove.result _ c.map-in-Some-Remove.ensures.cases (λ s w p. search rules))
    ∙ with_remove_is text cs ds c.read_list-in-Some-Remove.ensures.grown.front c.args.wanted (limit_of c.args.out.now) line.number (said line).1 c.read_list-in-Some-Remove.result c.requires.good c.read_list-in-Some-Remove.ensures.list
    ∙ ap (requested_by (limit_of c.args.out.now) line.number (sought_at text cs c.args.wanted) (said line).1) k
