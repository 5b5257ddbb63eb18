use Rattle.std.proofs.Common.{◌≡◌, take, drop}
use Rattle.verdict.specs.Session.{Run}
use Rattle.certificate.specs.Reading.{memory_of}
use Rattle.verdict.specs.Calls.{LeavesAfter}
use Rattle.verdict.specs.Opened.{desk_of}
use Rattle.verdict.proofs.session.ask_all.Given as goal

abbrev pub invariant-loop-r : goal.invariant-loop-r
invariant-loop-r g l = record {
  run : Run (memory_of l.initial.literals l.initial.hints) (desk_of l.initial.session (g.B.ClauseBase.meaning l.initial.base) (g.S.Source.rest l.initial.source)) (take l.r-index l.replies)
      (desk_of l.session (g.B.ClauseBase.meaning l.base) (g.S.Source.rest l.source));
  claim : l.session.claim ≡ l.initial.session.claim;
  steps : (g.S.Source.rest l.source).steps ≡ drop l.r-index (g.S.Source.rest l.initial.source).steps;
  memory : LeavesAfter (memory_of l.initial.literals l.initial.hints) (g.S.Source.rest l.initial.source).steps l.r-index l.initial.literals l.initial.hints l.literals l.hints;
}
