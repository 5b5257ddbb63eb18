use Rattle.std.proofs.Common.{◌<◌, length, refl, arith}
use Rattle.std.proofs.lemmas.List.{length-set}
use Rattle.clauses.proofs.Finds.{long-dead, spans-dead, ordered-dead, rising-dead, under-dead}
use Rattle.clauses.proofs.Keeping.{without_row}
use Rattle.clauses.proofs.store.Store.take_out.Goals as goal

pub invariant_of-self : goal.invariant_of-self
invariant_of-self c =
    let s = c.args.self.now in
    let k = c.args.k in
    let lt : k < length s.rows.now = omega (arith, s.counted) in
    record {
      few = rw (long-dead s.rows.now k lt) s.few;
      small = s.small;
      counted = rw (long-dead s.rows.now k lt) s.counted;
      within = s.within;
      spans = spans-dead s.rows.now k lt s.count s.filled s.spans;
      ordered = ordered-dead s.rows.now k lt s.count s.ordered;
      rising = rising-dead s.rows.now k lt s.count s.rising;
      under = under-dead s.rows.now k lt s.count s.next s.under;
      named = s.named;
    }

pub returns : goal.returns
returns c =
    let s = c.args.self.now in
    record {
      kept = record { rows = length-set _ _ _; literals = refl; variables = refl };
      next = refl;
      clauses = λ live. without_row s.literals.now s.rows.now s.count c.args.k c.requires s.counted s.rising live;
    }
