use Rattle.problem.proofs.Feeds.{fed_on_as, fed_stop_as}
use Rattle.problem.proofs.Meets.{depends_are, conflicts_are}
use Rattle.problem.proofs.plan_clauses.feed_stanza.Goals as goal

pub returns-in_err-feed_depends : goal.returns-in_err-feed_depends
returns-in_err-feed_depends g c =
    fed_stop_as _ _ _ _ _ _ _ _ _ (depends_are c.args.problem.now _ _ c.stanzas-stanzas.ensures.text c.stanzas-stanzas.ensures.rows c.args.place _ c.depends.ensures) c.from_residual.ensures.0 c.in_err-feed_depends.ensures

pub returns : goal.returns
returns g c =
    fed_on_as _ _ _ _ _ _ _ _ _ _ (depends_are c.args.problem.now _ _ c.stanzas-stanzas.ensures.text c.stanzas-stanzas.ensures.rows c.args.place _ c.depends.ensures)
    (conflicts_are c.args.problem.now _ _ c.stanzas-stanzas.ensures.text c.stanzas-stanzas.ensures.rows c.args.place _ c.conflicts.ensures) c.in_ok-feed_depends.ensures c.feed_denied.ensures
