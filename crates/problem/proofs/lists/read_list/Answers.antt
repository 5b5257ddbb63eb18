use Rattle.std.proofs.Common.{eqb, length, sym, ap, ◌∙◌, rules}
use Rattle.text.specs.Rows.{items}
use Rattle.problem.specs.Growth.{ok_mapped, list_at, settled}
use Rattle.problem.specs.Said.{said}
use Rattle.problem.proofs.Drafting.{once_none}
use Rattle.problem.proofs.Listing.{list_read}
use Rattle.problem.proofs.lists.read_list.Goals as goal

pub returns-clause-list : goal.returns-clause-list
returns-clause-list c =
    let line = c.args.line.now in
    let s = c.read_constraints-read.new.out in
    let e = sym (ap (λ t. eqb (length t) 0) c.value.ensures) ∙ sym c.is_empty.ensures ∙ c.if-is_empty.false in
    let q = c.settle.ensures ∙ ap (λ f. settled f (length (items s)) line.number c.read_constraints-read.result) c.len-first.ensures in
    once_none line.number c.args.already (search rules) (ap (ok_mapped (list_at line.text.now s)) q ∙ list_read line.text.now (said line).1 c.args.out.now s line.number c.read_constraints-read.result e c.requires c.read_constraints-read.ensures.grown c.read_constraints-read.ensures.stored)
