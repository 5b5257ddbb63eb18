use Rattle.std.proofs.Common.{suc, ◌+◌, ◌-◌}
use Rattle.text.specs.Lists.{each_all, up_from}
use Rattle.text.specs.Literals.{neg}
use Rattle.problem.specs.Feeding.{Left}
use Rattle.verdict.specs.Opening.{counter_input, counter}
use Rattle.verdict.proofs.counter.feed_counter.Given as goal

abbrev pub invariant-loop-place : goal.invariant-loop-place
invariant-loop-place g l =
    Left g.S.ClauseSink.goes g.S.ClauseSink.stops (counter l.base l.limit 1 (up_from l.first l.inputs)) l.initial.sink
    (each_all (λ k. counter_input l.base l.limit (neg (l.first + k)) (suc k)) (up_from (0 + l.place) (l.inputs - l.place))) l.sink
