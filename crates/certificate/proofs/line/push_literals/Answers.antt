use Rattle.std.proofs.Common.{w32, SFits, arith, rules}
use Rattle.std.proofs.lemmas.Int.{to_z-of_z}
use Rattle.certificate.proofs.Spelling.{so_far_more, so_far_long}
use Rattle.certificate.proofs.line.push_literals.Goals as goal

pub loop-count-preserved : goal.loop-count-preserved
loop-count-preserved c =
    let z = c.in_ok-literal.literal in
    let f : SFits w32 z = search rules in
    let p = rw c.loop-count.invariant.1.room at (simp to_z-of_z at c.push.ensures.pushes) in
    (so_far_more _ _ _ _ _ _ z _ _ _ c.loop-count.invariant.0 c.in_ok-next_piece.ensures c.in_ok-literal.ensures c.if-literal-eq0.false p, search rules)

pub returns-else-literal-eq0-clause-count : goal.returns-else-literal-eq0-clause-count
returns-else-literal-eq0-clause-count c =
    let z = c.in_ok-literal.literal in
    let f : SFits w32 z = search rules in
    let p = rw c.loop-count.invariant.1.room at (simp to_z-of_z at c.push.ensures.pushes) in
    let s = so_far_more _ _ _ _ _ _ z _ _ _ c.loop-count.invariant.0 c.in_ok-next_piece.ensures c.in_ok-literal.ensures c.if-literal-eq0.false p in
    so_far_long _ _ _ _ _ s (omega arith)
