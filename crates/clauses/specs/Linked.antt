-- An index whose lists lead from entry to entry.
use Rattle.std.specs.Prelude.{◌^◌, ◌<◌, ◌≤◌, length}
pub use Rattle.clauses.specs.Links.{On, AllBelow, Falling, Upto}
use Rattle.clauses.specs.declared.index.Index.{Index}

pub record Linked (x : Index) : Type 0 where
  pub small : x.used < 2 ^ 32
  pub chained : x.used ≤ length x.next.now
  pub owned : x.used ≤ length x.owners.now
  pub listed : x.lists ≤ length x.heads.now
  pub begins : Upto x.heads.now x.lists x.used
  pub falling : Falling x.next.now x.used
