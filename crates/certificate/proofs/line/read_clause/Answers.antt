use Rattle.std.proofs.Common.{length, pos, rules}
use Rattle.text.specs.Pieces.{pieces}
use Rattle.text.proofs.Whole.{whole_at}
use Rattle.certificate.specs.Lines.{clause}
use Rattle.certificate.specs.LineAnswer.{clause_kept}
use Rattle.certificate.proofs.line.read_clause.Goals as goal

pub returns : goal.returns
returns c =
    let n = length c.args.literals.now in
    let m = whole_at c.push_clause.new.rows (clause_kept n (clause (pieces 32 c.args.line.now))) n (pos 0) (search rules) (search rules) (search rules) in
    record { answer = search rules; memory = search rules }
