use Rattle.problem.specs.Rows.{no_constraint}
use Rattle.problem.proofs.Feeds.{walk_more, walk_stop}
use Rattle.problem.proofs.plan_clauses.denials.feed_denied.Goals as goal

pub returns-in_err-feed_denials : goal.returns-in_err-feed_denials
returns-in_err-feed_denials g c =
    walk_stop _ _ _ _ _ _ _ c.args.constraints.now c.loop-constraint.constraint-index no_constraint _ _ c.loop-constraint-test.true c.loop-constraint.invariant c.from_residual.ensures.0
    c.in_err-feed_denials.ensures

pub loop-constraint-preserved : goal.loop-constraint-preserved
loop-constraint-preserved g c =
    walk_more _ _ _ _ _ _ _ c.args.constraints.now c.loop-constraint.constraint-index no_constraint c.loop-constraint-test.true c.loop-constraint.invariant c.in_ok-feed_denials.ensures
