use Rattle.std.proofs.Common.{length, rules}
use Rattle.certificate.specs.Reading.{memory_of}
use Rattle.problem.specs.Meaning.{problem_of}
use Rattle.verdict.specs.Opened.{answer_of}
use Rattle.verdict.proofs.Concluding.{concludes, not_opened, verdict_true, complete}
use Rattle.verdict.proofs.whole.run_session.Goals as goal

pub returns : goal.returns
returns g c =
    let q = problem_of c.args.problem.now in
    let a = answer_of c.args.answer c.args.set.now in
    let m = g.B.ClauseBase.meaning in
    let s = g.S.Source.rest c.args.source.now in
    let s' = g.S.Source.rest c.ask_all.new.source in
    let rs = c.args.replies.now in
    let rs' = c.ask_all.new.replies in
    let k = memory_of c.args.literals.now c.args.hints.now in
    let w = concludes q a k (m c.args.base.now) (m c.open.new.base) (m c.ask_all.new.base) s s' c.in_ok-session.session c.ask_all.new.session rs' c.in_ok-session.ensures.opens c.ask_all.ensures.run rs c.close.result c.ask_all.ensures.claim c.close.ensures in
    record {
      run = w;
      memory = search rules;
      sound = verdict_true q a k (m c.args.base.now) (m c.ask_all.new.base) s s' rs rs' c.close.result w;
      complete = complete q a k (m c.args.base.now) (m c.ask_all.new.base) s s' rs rs' (length rs) c.ask_all.auto.replies c.close.result w;
    }

pub returns-in_err-session-clause-complete : goal.returns-in_err-session-clause-complete
returns-in_err-session-clause-complete g c =
    let m = g.B.ClauseBase.meaning in
    λ i p t good within. absurd (not_opened (problem_of c.args.problem.now) (answer_of c.args.answer c.args.set.now) (m c.args.base.now) (m c.open.new.base) c.in_err-session.field-0.0 c.in_err-session.ensures.opens i p t)
