use Rattle.std.proofs.Common.{[], ◌∷◌, drop}
use Rattle.text.specs.Lists.{each, each_all}
use Rattle.text.specs.Literals.{lit}
use Rattle.problem.specs.Feeding.{Left}
use Rattle.problem.specs.Stanzas.{row_satisfies_one, passing}
use Rattle.problem.proofs.plan_clauses.feed_installs.Given as goal

abbrev pub invariant-loop-item : goal.invariant-loop-item
invariant-loop-item g l =
    Left g.S.ClauseSink.goes g.S.ClauseSink.stops (each_all (λ c. each lit (passing (row_satisfies_one l.stanzas.text.now (c ∷ [])) 0 l.stanzas.rows.now) ∷ []) l.items) l.initial.sink
    (each_all (λ c. each lit (passing (row_satisfies_one l.stanzas.text.now (c ∷ [])) 0 l.stanzas.rows.now) ∷ []) (drop l.item-index l.items)) l.sink
