use Rattle.std.proofs.Common.{rules}
use Rattle.certificate.specs.Reading.{memory_of}
use Rattle.verdict.specs.Opened.{desk_of}
use Rattle.verdict.proofs.Asking.{same_memory}
use Rattle.verdict.proofs.Onward.{leads_more}
use Rattle.verdict.proofs.session.ask_each.Goals as goal

pub loop-session-preserved : goal.loop-session-preserved
loop-session-preserved g c =
    let m = g.B.ClauseBase.meaning in
    let k = memory_of c.args.literals.now c.args.hints.now in
    let k' = memory_of c.loop-session.literals c.loop-session.hints in
    let d = desk_of c.args.session.now (m c.args.base.now) (g.S.Source.rest c.args.source.now) in
    let dᵢ = desk_of c.loop-session.session (m c.loop-session.base) (g.S.Source.rest c.loop-session.source) in
    let d' = desk_of c.ask.new.self (m c.ask.new.base) (g.S.Source.rest c.ask.new.source) in
    let e = same_memory c.loop-session.literals c.args.literals.now c.loop-session.hints c.args.hints.now c.loop-session.auto.literals c.loop-session.auto.hints in
    record { leads = leads_more k k' d dᵢ d' e (search rules) (rw c.in-Taken.is at c.ask.ensures.asked) c.loop-session.invariant.leads; claim = search rules }
