use Rattle.std.proofs.Common.{eqb, length, sym, ap, ◌∙◌, rules}
use Rattle.text.specs.Rows.{items}
use Rattle.problem.specs.Growth.{ok_mapped, conjuncts_at, settled}
use Rattle.problem.specs.Said.{said}
use Rattle.problem.proofs.Drafting.{once_none}
use Rattle.problem.proofs.Listing.{conjuncts_read}
use Rattle.problem.proofs.lists.read_depends.Goals as goal

pub returns-clause-list : goal.returns-clause-list
returns-clause-list c =
    let line = c.args.line.now in
    let s = c.read_conjuncts-read.new.out in
    let e = sym (ap (λ t. eqb (length t) 0) c.value.ensures) ∙ sym c.is_empty.ensures ∙ c.if-is_empty.false in
    let q = c.settle.ensures ∙ ap (λ f. settled f (length (items s)) line.number c.read_conjuncts-read.result) c.len-first.ensures in
    once_none line.number c.args.already (search rules) (ap (ok_mapped (conjuncts_at line.text.now s)) q ∙ conjuncts_read line.text.now (said line).1 c.args.out.now s line.number c.read_conjuncts-read.result e c.requires c.read_conjuncts-read.ensures.grown c.read_conjuncts-read.ensures.stored)
