use Rattle.std.proofs.Common.{◌∙◌, w32, SFits, rules}
use Rattle.std.proofs.lemmas.Int.{to_z-of_z}
use Rattle.verdict.proofs.Counting.{raised_clause}
use Rattle.verdict.proofs.VariableRanges.{range_took, range_stopped}
use Rattle.verdict.proofs.counter.feed_raised.Goals as goal

pub returns-in_err-take : goal.returns-in_err-take
returns-in_err-take g c =
    let x : SFits w32 c.no.result = search rules in
    let w : SFits w32 c.no-in-loop-j.result = search rules in
    let y : SFits w32 c.yes.result = search rules in
    range_stopped _ _ _ _ _ _ _ 1 c.args.limit c.loop-j.j _ _ _ c.from_residual.ensures.0 c.loop-j-test.true c.loop-j.invariant
    (raised_clause c.args.input.number c.args.before c.args.row c.loop-j.j _ _ _ (to_z-of_z w32 _ x ∙ c.no.ensures) (to_z-of_z w32 _ w ∙ c.no-in-loop-j.ensures) (to_z-of_z w32 _ y ∙ c.yes.ensures))
    c.in_err-take.ensures

pub loop-j-preserved : goal.loop-j-preserved
loop-j-preserved g c =
    let x : SFits w32 c.no.result = search rules in
    let w : SFits w32 c.no-in-loop-j.result = search rules in
    let y : SFits w32 c.yes.result = search rules in
    range_took _ _ _ _ _ _ _ 1 c.args.limit c.loop-j.j _ c.loop-j-test.true c.loop-j.invariant
    (raised_clause c.args.input.number c.args.before c.args.row c.loop-j.j _ _ _ (to_z-of_z w32 _ x ∙ c.no.ensures) (to_z-of_z w32 _ w ∙ c.no-in-loop-j.ensures) (to_z-of_z w32 _ y ∙ c.yes.ensures))
    c.in_ok-take.ensures
