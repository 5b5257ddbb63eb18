use Rattle.std.proofs.Common.{rules}
use Rattle.certificate.specs.Reading.{memory_of}
use Rattle.problem.specs.Meaning.{problem_of}
use Rattle.verdict.specs.Opened.{answer_of}
use Rattle.verdict.proofs.Concluding.{not_opened}
use Rattle.verdict.proofs.Finding.{finds, found_true, found}
use Rattle.verdict.proofs.whole.conclude.Goals as goal

pub returns : goal.returns
returns g c =
    let q = problem_of c.args.problem.now in
    let a = answer_of c.args.answer c.args.set.now in
    let m = g.B.ClauseBase.meaning in
    let s = g.S.Source.rest c.args.source.now in
    let s' = g.S.Source.rest c.ask_on-reply.new.source in
    let k = memory_of c.args.literals.now c.args.hints.now in
    let w = finds q a k (m c.args.base.now) (m c.open.new.base) (m c.ask_on-reply.new.base) s s' c.in_ok-session.session c.ask_on-reply.new.session c.in_ok-session.ensures.opens c.ask_on-reply.ensures.claim c.ask_on-reply.result c.end.result c.ask_on-reply.ensures.onward c.end.ensures in
    record {
      memory = search rules;
      run = w;
      sound = found_true q a k (m c.args.base.now) (m c.ask_on-reply.new.base) s s' c.end.result w;
      complete = found q a k (m c.args.base.now) (m c.ask_on-reply.new.base) s s' c.end.result w;
    }

pub returns-in_err-session-clause-complete : goal.returns-in_err-session-clause-complete
returns-in_err-session-clause-complete g c =
    let m = g.B.ClauseBase.meaning in
    λ i p t good. absurd (not_opened (problem_of c.args.problem.now) (answer_of c.args.answer c.args.set.now) (m c.args.base.now) (m c.open.new.base) c.in_err-session.field-0.0 c.in_err-session.ensures.opens i p t)
