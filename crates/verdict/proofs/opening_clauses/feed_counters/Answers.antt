use Rattle.problem.proofs.Feeds.{fed_on_as, fed_stop_as}
use Rattle.verdict.proofs.OpeningParts.{first_is, second_is}
use Rattle.verdict.proofs.opening_clauses.feed_counters.Goals as goal

pub returns-in_err-feed_counter : goal.returns-in_err-feed_counter
returns-in_err-feed_counter g c = fed_stop_as _ _ _ _ _ _ _ _ _ (first_is c.args.places c.args.counts.removed) c.from_residual.ensures.0 c.in_err-feed_counter.ensures

pub returns : goal.returns
returns g c =
    fed_on_as _ _ _ _ _ _ _ _ _ _ (first_is c.args.places c.args.counts.removed) (second_is c.args.places c.args.counts.removed c.args.counts.changed _ c.registers.ensures.count) c.in_ok-feed_counter.ensures
    c.feed_counter-2.ensures
