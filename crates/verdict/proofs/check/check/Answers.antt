use Rattle.std.proofs.Common.{rules}
use Rattle.verdict.specs.Verdicts.{rooms_of, Comes}
use Rattle.verdict.proofs.Meaning.{means, completes}
use Rattle.verdict.proofs.check.check.Goals as goal

pub returns : goal.returns
returns g c =
    let k = rooms_of c.args.packages.now c.args.constraints.now c.args.table.now c.args.literals.now c.args.hints.now in
    let m = g.B.ClauseBase.meaning c.args.base.now in
    let m' = g.B.ClauseBase.meaning c.judge-judgement.new.base in
    let w : Comes k c.args.problem.now c.args.answer.now c.args.certificate.now m c.line_of.result m' = (c.judge-judgement.result, (c.judge-judgement.ensures, c.line_of.ensures)) in
    record {
      line = w;
      means = means k c.args.problem.now c.args.answer.now c.args.certificate.now m m' c.line_of.result w;
      completes = completes k c.args.problem.now c.args.answer.now c.args.certificate.now m m' c.line_of.result w;
      packages = search rules;
      constraints = search rules;
      table = search rules;
      literals = search rules;
      hints = search rules;
    }
