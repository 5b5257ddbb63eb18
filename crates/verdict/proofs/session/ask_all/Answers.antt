use Rattle.std.proofs.Common.{arith, rules}
use Rattle.certificate.specs.Reading.{memory_of}
use Rattle.verdict.specs.Opened.{desk_of}
use Rattle.verdict.proofs.Asking.{same_memory, run_write, off_more, leaves_more}
use Rattle.verdict.proofs.session.ask_all.Goals as goal

pub loop-r-preserved : goal.loop-r-preserved
loop-r-preserved g c =
    let m = g.B.ClauseBase.meaning in
    let k = memory_of c.args.literals.now c.args.hints.now in
    let k' = memory_of c.loop-r.literals c.loop-r.hints in
    let s = g.S.Source.rest c.args.source.now in
    let sᵢ = g.S.Source.rest c.loop-r.source in
    let d = desk_of c.args.session.now (m c.args.base.now) s in
    let dᵢ = desk_of c.loop-r.session (m c.loop-r.base) sᵢ in
    let d' = desk_of c.ask.new.self (m c.ask.new.base) (g.S.Source.rest c.ask.new.source) in
    let e = same_memory c.loop-r.literals c.args.literals.now c.loop-r.hints c.args.hints.now c.loop-r.auto.literals c.loop-r.auto.hints in
    record {
      run = run_write k k' d c.loop-r.replies c.loop-r.r-index dᵢ c.ask.result d' (omega arith) e c.loop-r.invariant.run c.ask.ensures.asked;
      claim = search rules;
      steps = off_more k' dᵢ d' c.ask.result c.loop-r.r-index s.steps c.loop-r.invariant.steps c.ask.ensures.asked;
      memory = leaves_more k k' s.steps sᵢ.steps c.loop-r.r-index c.args.literals.now c.args.hints.now c.ask.new.literals c.ask.new.hints e c.loop-r.invariant.steps c.ask.ensures.memory;
    }
