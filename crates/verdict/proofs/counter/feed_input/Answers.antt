use Rattle.std.proofs.Common.{◌+◌, ◌*◌, w32, SFits, rules}
use Rattle.text.specs.Literals.{lit, neg}
use Rattle.verdict.proofs.Counting.{two_held, fed_input, fed_keeping}
use Rattle.verdict.proofs.counter.feed_input.Goals as goal

pub returns-in_err-feed_kept : goal.returns-in_err-feed_kept
returns-in_err-feed_kept g c =
    let x : SFits w32 c.no.result = search rules in
    let y : SFits w32 c.yes.result = search rules in
    let e = two_held _ _ (neg c.args.input.number) (lit (c.args.base + c.args.place * c.args.limit)) x y c.no.ensures c.yes.ensures in
    fed_keeping _ _ c.args.base c.args.limit c.args.place (neg c.args.input.number) c.if-limit-eq0.false c.if-place-eq0.false _ e _ _ _ _ _ c.from_residual-in_err-feed_kept.ensures.0 c.in_ok-take.ensures
    c.in_err-feed_kept.ensures

pub returns : goal.returns
returns g c =
    let x : SFits w32 c.no.result = search rules in
    let y : SFits w32 c.yes.result = search rules in
    let e = two_held _ _ (neg c.args.input.number) (lit (c.args.base + c.args.place * c.args.limit)) x y c.no.ensures c.yes.ensures in
    fed_input _ _ c.args.base c.args.limit c.args.place (neg c.args.input.number) c.if-limit-eq0.false c.if-place-eq0.false _ e _ _ _ _ _ c.in_ok-take.ensures c.in_ok-feed_kept.ensures c.feed_raised.ensures
