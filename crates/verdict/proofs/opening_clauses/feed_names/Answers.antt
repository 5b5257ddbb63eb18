use Rattle.problem.proofs.Feeds.{fed_on_as, fed_stop_as}
use Rattle.verdict.proofs.Worded.{removed-clauses-are, changed-clauses-are}
use Rattle.verdict.proofs.opening_clauses.feed_names.Goals as goal

pub returns-in_err-feed_indicators : goal.returns-in_err-feed_indicators
returns-in_err-feed_indicators g c =
    fed_stop_as _ _ _ _ _ _ _ _ _ (removed-clauses-are c.args.problem.now _ _ c.stanzas-stanzas.ensures.text c.stanzas-stanzas.ensures.rows 0 0 c.args.places.removed) c.from_residual.ensures.0
    c.in_err-feed_indicators.ensures

pub returns : goal.returns
returns g c =
    fed_on_as _ _ _ _ _ _ _ _ _ _ (removed-clauses-are c.args.problem.now _ _ c.stanzas-stanzas.ensures.text c.stanzas-stanzas.ensures.rows 0 0 c.args.places.removed)
    (changed-clauses-are c.args.problem.now _ _ c.stanzas-stanzas.ensures.text c.stanzas-stanzas.ensures.rows 0 0 c.args.places.changed) c.in_ok-feed_indicators.ensures c.feed_indicators-2.ensures
