use Rattle.std.proofs.Common.{codes, sym, ap, arith, rules}
use Rattle.std.proofs.lemmas.Slice.Eq.{text_from_reads}
use Rattle.problem.specs.Keys.{first_key}
use Rattle.problem.proofs.keys.read_first_key.Goals as goal

pub returns-in-package : goal.returns-in-package
returns-in-package c = ap first_key (sym (text_from_reads c.args.name.now (codes "package") (omega arith) (search rules)))

pub returns-in-request : goal.returns-in-request
returns-in-request c = ap first_key (sym (text_from_reads c.args.name.now (codes "request") (omega arith) (search rules)))
