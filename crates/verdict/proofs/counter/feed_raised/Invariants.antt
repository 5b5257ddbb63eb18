use Rattle.std.proofs.Common.{suc, ◌+◌, ◌-◌, [], ◌∷◌}
use Rattle.text.specs.Lists.{each, up_from}
use Rattle.text.specs.Literals.{lit, neg}
use Rattle.problem.specs.Feeding.{Left}
use Rattle.verdict.proofs.counter.feed_raised.Given as goal

abbrev pub invariant-loop-j : goal.invariant-loop-j
invariant-loop-j g l =
    Left g.S.ClauseSink.goes g.S.ClauseSink.stops (each (λ j. neg l.input.number ∷ neg (l.before + (j - 1)) ∷ lit (l.row + (suc j - 1)) ∷ []) (up_from 1 l.limit)) l.initial.sink
    (each (λ j. neg l.input.number ∷ neg (l.before + (j - 1)) ∷ lit (l.row + (suc j - 1)) ∷ []) (up_from (1 + l.j) (l.limit - l.j))) l.sink
