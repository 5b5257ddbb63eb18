use Rattle.std.proofs.Common.{codes, sym, ap, arith, rules}
use Rattle.std.proofs.lemmas.Slice.Eq.{text_from_reads}
use Rattle.problem.specs.Keys.{truth}
use Rattle.problem.proofs.keys.read_truth.Goals as goal

pub returns-in-true : goal.returns-in-true
returns-in-true c = ap truth (sym (text_from_reads c.args.value.now (codes "true") (omega arith) (search rules)))

pub returns-in-false : goal.returns-in-false
returns-in-false c = ap truth (sym (text_from_reads c.args.value.now (codes "false") (omega arith) (search rules)))
