use Rattle.std.proofs.Common.{arith, rules}
use Rattle.problem.proofs.Placing.{constraint_at}
use Rattle.problem.proofs.constraint.read_constraint.Goals as goal

pub returns : goal.returns
returns c =
    constraint_at c.args.text.now c.args.part c.trim_word-word.result c.args.last c.bytes_of-inner.result.now c.trim_start.result.now c.name_len-len.result c.read_relation.result c.bytes_of-inner.ensures c.trim_word-word.ensures.bytes c.trim_word-word.ensures.inside c.name_len-len.ensures.value c.name_len-len.ensures.within (search rules) (omega arith) c.trim_start.ensures c.read_relation.ensures.value c.read_relation.ensures.within
