-- counts_of: how many names a set removes, and how many it changes
use Rattle.problem.specs.Cudf.{Problem, Chosen, removed_count, changed_count}
use Rattle.verdict.specs.declared.counts.Counts.{Counts}

abbrev pub counts_of : Problem → Chosen → Counts
counts_of q s = record { removed = removed_count q s; changed = changed_count q s }
