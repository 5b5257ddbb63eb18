use Rattle.std.proofs.Common.{◌≡◌, length}
use Rattle.certificate.specs.Reading.{memory_of}
use Rattle.verdict.specs.Opened.{desk_of}
use Rattle.verdict.proofs.Onward.{Leads}
use Rattle.verdict.proofs.session.ask_each.Given as goal

abbrev pub invariant-loop-session : goal.invariant-loop-session
invariant-loop-session g l = record {
  leads : Leads (memory_of l.initial.literals l.initial.hints) (desk_of l.initial.session (g.B.ClauseBase.meaning l.initial.base) (g.S.Source.rest l.initial.source))
      (desk_of l.session (g.B.ClauseBase.meaning l.base) (g.S.Source.rest l.source));
  claim : l.session.claim ≡ l.initial.session.claim;
}

abbrev pub decreases-loop-session : goal.decreases-loop-session
decreases-loop-session g l = length (g.S.Source.rest l.source).steps
