use Rattle.std.proofs.Common.{◌<◌, length, ap, ◌∙◌, arith, rules, w32, SFits}
use Rattle.std.proofs.lemmas.Int.{to_z-of_z}
use Rattle.std.proofs.lemmas.List.{length-set, length_push}
use Rattle.std.proofs.lemmas.Iterator.Consumers.{YieldsList-turn}
use Rattle.std.proofs.lemmas.Iterator.Adapters.{YieldsList-from_rev_slice}
use Rattle.text.specs.Literals.{variable_of}
use Rattle.clauses.proofs.Commons.{placed_back, deny_more}
use Rattle.clauses.proofs.common.Values.deny_all.Goals as goal

pub give-requires : goal.give-requires
give-requires c =
    let l = c.in-Some.literal.now in
    let fits : SFits w32 l = search rules in
    let t = YieldsList-turn (YieldsList-from_rev_slice c.args.clause.now cc) c.loop-literal.yielded _ c.loop-literal.yielded_by _ _ c.in-Some.literal c.in-Some.is c.next.ensures.steps in
    let cell = placed_back c.args.clause.now _ _ l c.requires t.0 t.1 in
    rw (to_z-of_z w32 l fits) (omega (arith, cell, c.loop-literal.invariant.2, c.unset.ensures.cells))

pub loop-literal-preserved : goal.loop-literal-preserved
loop-literal-preserved c =
    let i = c.loop-literal.invariant in
    let l = c.in-Some.literal.now in
    let fits : SFits w32 l = search rules in
    let t = YieldsList-turn (YieldsList-from_rev_slice c.args.clause.now cc) c.loop-literal.yielded _ c.loop-literal.yielded_by _ _ c.in-Some.literal c.in-Some.is c.next.ensures.steps in
    let cell = placed_back c.args.clause.now _ _ l c.requires t.0 t.1 in
    let here : variable_of l < length c.loop-literal.self.cells.now = omega (arith, i.2, c.unset.ensures.cells) in
    (tt, tt, ap length c.give.ensures ∙ length-set _ _ _ ∙ i.2, rw (length_push c.loop-literal.yielded c.in-Some.literal) (deny_more c.loop-literal.self.cells.now _ c.args.clause.now _ _ fits t.0 t.1 here c.give.ensures i.3))
