use Rattle.std.proofs.Common.{codes, sym, ap, arith, rules}
use Rattle.std.proofs.lemmas.Slice.Eq.{text_from_reads}
use Rattle.problem.specs.Keys.{request_key}
use Rattle.problem.proofs.keys.read_request_key.Goals as goal

pub returns-in-install : goal.returns-in-install
returns-in-install c = ap request_key (sym (text_from_reads c.args.name.now (codes "install") (omega arith) (search rules)))

pub returns-in-remove : goal.returns-in-remove
returns-in-remove c = ap request_key (sym (text_from_reads c.args.name.now (codes "remove") (omega arith) (search rules)))
