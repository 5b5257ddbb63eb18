use Rattle.std.proofs.Common.{rules}
use Rattle.std.proofs.lemmas.Result.{err_from_is_err_and}
use Rattle.certificate.specs.Reading.{memory_of}
use Rattle.certificate.proofs.LineAnswers.{line_counted, line_refused}
use Rattle.certificate.proofs.line.read_line.Goals as goal

pub returns-in_err-count : goal.returns-in_err-count
returns-in_err-count c =
    let p = err_from_is_err_and c.from_residual.result c.from_residual.ensures.1 in
    let k = memory_of c.args.literals.now c.args.hints.now in
    let h = line_refused k c.args.line.now c.in_err-count.field-0.0 c.read_clause.new.literals c.fill.new.self (search rules) c.in_err-count.ensures.answer c.read_clause.ensures.memory (search rules) in
    record { answer = rw (p.1, p.2) h.0; memory = h.1 }

pub returns : goal.returns
returns c =
    let k = memory_of c.args.literals.now c.args.hints.now in
    let h = line_counted k c.args.line.now c.in_ok-count.count c.read_clause.new.literals c.fill.new.self (search rules) c.in_ok-count.ensures.answer c.read_clause.ensures.memory (search rules) in
    record { answer = h.0; memory = h.1 }
