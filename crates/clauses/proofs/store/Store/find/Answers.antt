use Rattle.std.proofs.Common.{sym, ◌∙◌, arith}
use Rattle.std.proofs.lemmas.Bool.{eqb-true}
use Rattle.clauses.proofs.Finds.{none_found, found_here}
use Rattle.clauses.proofs.store.Store.find.Goals as goal
use Rattle.clauses.proofs.store.Store.find.Goals.{then-row-number, else-row-number}

pub returns-then-k-self : goal.returns-then-k-self
returns-then-k-self c =
    let e = c.lower-k.ensures in
    none_found c.args.self.now c.args.number c.lower-k.result e.below e.above (λ lt q. absurd (omega arith))

pub returns : goal.returns
returns c =
    let e = c.lower-k.ensures in
    found_here c.args.self.now c.args.number c.lower-k.result c.if-row-number.then_some c.then_some.result e.below e.above c.if-k-self.false
    (elim c.if-row-number.branch [ then-row-number w ↦ λ q. (w.if-row-number.true, sym w.then_some-is ∙ q) | else-row-number w ↦ λ q. absurd (w.if-row-number.false (eqb-true _ _ (sym w.then_some-is ∙ q))) ])
    (elim c.if-row-number.branch [ then-row-number w ↦ λ q _. sym w.then_some-is ∙ q | else-row-number w ↦ λ q d. absurd (w.if-row-number.false d) ])
    c.then_some.ensures
