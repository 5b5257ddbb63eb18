use Rattle.std.proofs.Common.{[], ◌∷◌, rules}
use Rattle.text.specs.Lists.{each}
use Rattle.text.specs.Literals.{lit}
use Rattle.problem.specs.Rows.{no_constraint}
use Rattle.problem.specs.Stanzas.{row_satisfies_one, passing}
use Rattle.problem.proofs.Feeds.{walk_more, walk_stop, walk_all}
use Rattle.problem.proofs.plan_clauses.feed_installs.Goals as goal

pub returns-in_err-feed_install : goal.returns-in_err-feed_install
returns-in_err-feed_install g c =
    walk_stop _ _ (λ i. each lit (passing (row_satisfies_one c.args.stanzas.now.text.now (i ∷ [])) 0 c.args.stanzas.now.rows.now) ∷ []) _ _ c.loop-item.sink c.feed_install.new.sink c.args.items.now c.loop-item.item-index
    no_constraint _ _ c.loop-item-test.true c.loop-item.invariant c.from_residual.ensures.0 c.in_err-feed_install.ensures

pub loop-item-preserved : goal.loop-item-preserved
loop-item-preserved g c =
    walk_more _ _ (λ i. each lit (passing (row_satisfies_one c.args.stanzas.now.text.now (i ∷ [])) 0 c.args.stanzas.now.rows.now) ∷ []) _ _ c.loop-item.sink c.feed_install.new.sink c.args.items.now c.loop-item.item-index
    no_constraint c.loop-item-test.true c.loop-item.invariant c.in_ok-feed_install.ensures

pub returns : goal.returns
returns g c =
    walk_all _ _ (λ i. each lit (passing (row_satisfies_one c.args.stanzas.now.text.now (i ∷ [])) 0 c.args.stanzas.now.rows.now) ∷ []) _ _ _ c.args.items.now c.loop-item.item-index (search rules) c.loop-item.invariant
