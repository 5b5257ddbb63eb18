use Rattle.std.proofs.Common.{codes, sym, ap, arith, rules}
use Rattle.std.proofs.lemmas.Slice.Eq.{text_from_reads}
use Rattle.problem.specs.Keys.{answer_key}
use Rattle.problem.proofs.keys.read_answer_key.Goals as goal

pub returns-in-version : goal.returns-in-version
returns-in-version c = ap answer_key (sym (text_from_reads c.args.name.now (codes "version") (omega arith) (search rules)))

pub returns-in-installed : goal.returns-in-installed
returns-in-installed c = ap answer_key (sym (text_from_reads c.args.name.now (codes "installed") (omega arith) (search rules)))
