use Rattle.std.proofs.Common.{Err, refl}
use Rattle.problem.proofs.Feeds.{fed_on, fed_stop, fed_on_as, fed_as}
use Rattle.problem.proofs.Meets.{install_are, remove_are}
use Rattle.problem.proofs.plan_clauses.feed_plan_clauses.Goals as goal

pub returns-in_err-feed_stanzas : goal.returns-in_err-feed_stanzas
returns-in_err-feed_stanzas g c = fed_stop _ _ _ _ _ _ _ _ c.from_residual.ensures.0 (fed_stop _ _ _ _ _ (Err c.in_err-feed_stanzas.field-0.0) _ _ refl c.in_err-feed_stanzas.ensures)

pub returns-in_err-feed_installs : goal.returns-in_err-feed_installs
returns-in_err-feed_installs g c =
    fed_stop _ _ _ _ _ _ _ _ c.from_residual-in_err-feed_installs.ensures.0 (fed_on_as _ _ _ _ _ _ _ _ _ _ refl (install_are c.args.problem.now _ _ c.stanzas-stanzas.ensures.text c.stanzas-stanzas.ensures.rows _ c.install.ensures)
    c.in_ok-feed_stanzas.ensures c.in_err-feed_installs.ensures)

pub returns : goal.returns
returns g c =
    fed_on _ _ _ _ _ _ _ _ (fed_on_as _ _ _ _ _ _ _ _ _ _ refl (install_are c.args.problem.now _ _ c.stanzas-stanzas.ensures.text c.stanzas-stanzas.ensures.rows _ c.install.ensures)
    c.in_ok-feed_stanzas.ensures c.in_ok-feed_installs.ensures)
    (fed_as _ _ _ _ _ _ _ (remove_are c.args.problem.now _ _ c.stanzas-stanzas.ensures.text c.stanzas-stanzas.ensures.rows _ c.remove.ensures) c.feed_denied.ensures)
