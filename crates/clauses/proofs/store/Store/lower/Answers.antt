use Rattle.std.proofs.Common.{ltb, rules}
use Rattle.std.proofs.lemmas.List.Sorted.{IsPartitionPoint-from_clause, IsPartitionedBy-ltb}
use Rattle.clauses.proofs.Finds.{numbers_rise, below_point, above_point}
use Rattle.clauses.proofs.store.Store.lower.Goals as goal

pub returns : goal.returns
returns c =
    let s = c.args.self.now in
    let up = IsPartitionedBy-ltb (λ r. r.number) _ c.args.number (numbers_rise s.rows.now s.count s.counted s.rising) in
    let point = IsPartitionPoint-from_clause (λ r. ltb r.number c.args.number) _ _ c.partition_point.ensures.partitioned up (λ a r q k. search rules) in
    record {
      within = search rules;
      below = below_point s.rows.now s.count c.args.number c.partition_point.result s.counted (search rules) point.0;
      above = above_point s.rows.now s.count c.args.number c.partition_point.result s.counted point.1;
    }
