use Rattle.std.proofs.Common.{Err, refl}
use Rattle.problem.proofs.Feeds.{fed_on, fed_stop, fed_as}
use Rattle.verdict.proofs.OpeningParts.{opened}
use Rattle.verdict.proofs.opening_clauses.feed_on_plan.Goals as goal

pub returns-in_err-feed_plan_clauses : goal.returns-in_err-feed_plan_clauses
returns-in_err-feed_plan_clauses g c =
    let e = Err c.in_err-feed_plan_clauses.field-0.0 in
    fed_as _ _ _ _ _ _ _ (opened c.args.problem.now c.lay_out-places.result c.lay_out-places.ensures _ _ _ _ c.capped-most.ensures.removed c.capped-most.ensures.changed)
    (fed_stop _ _ _ _ _ _ _ _ c.from_residual.ensures.0 (fed_stop _ _ _ _ _ e _ _ refl (fed_stop _ _ _ _ _ e _ _ refl c.in_err-feed_plan_clauses.ensures)))

pub returns-in_err-feed_names : goal.returns-in_err-feed_names
returns-in_err-feed_names g c =
    let e = Err c.in_err-feed_names.field-0.0 in
    fed_as _ _ _ _ _ _ _ (opened c.args.problem.now c.lay_out-places.result c.lay_out-places.ensures _ _ _ _ c.capped-most.ensures.removed c.capped-most.ensures.changed)
    (fed_stop _ _ _ _ _ _ _ _ c.from_residual-in_err-feed_names.ensures.0
    (fed_stop _ _ _ _ _ e _ _ refl (fed_on _ _ _ _ _ _ _ _ c.in_ok-feed_plan_clauses.ensures c.in_err-feed_names.ensures)))

pub returns-in_err-feed_counters : goal.returns-in_err-feed_counters
returns-in_err-feed_counters g c =
    fed_as _ _ _ _ _ _ _ (opened c.args.problem.now c.lay_out-places.result c.lay_out-places.ensures _ _ _ _ c.capped-most.ensures.removed c.capped-most.ensures.changed)
    (fed_stop _ _ _ _ _ _ _ _ c.from_residual-in_err-feed_counters.ensures.0
    (fed_on _ _ _ _ _ _ _ _ (fed_on _ _ _ _ _ _ _ _ c.in_ok-feed_plan_clauses.ensures c.in_ok-feed_names.ensures) c.in_err-feed_counters.ensures))

pub returns : goal.returns
returns g c =
    fed_as _ _ _ _ _ _ _ (opened c.args.problem.now c.lay_out-places.result c.lay_out-places.ensures _ _ _ _ c.capped-most.ensures.removed c.capped-most.ensures.changed)
    (fed_on _ _ _ _ _ _ _ _ (fed_on _ _ _ _ _ _ _ _ (fed_on _ _ _ _ _ _ _ _ c.in_ok-feed_plan_clauses.ensures c.in_ok-feed_names.ensures) c.in_ok-feed_counters.ensures) c.feed_bounds.ensures)
