use Rattle.std.proofs.Common.{arith}
use Rattle.clauses.proofs.OneRow.{row_placed, row_short}
use Rattle.clauses.specs.Events.{Pending}
use Rattle.clauses.proofs.Walks.{pending_quiet}
use Rattle.clauses.proofs.Tellings.{begun_more, begun_told}
use Rattle.clauses.proofs.counters.CountersPropagator.start.Goals as goal

pub count_open-requires : goal.count_open-requires
count_open-requires c =
    let e = c.in_ok-examine.ensures in
    record { placed = row_placed c.args.store.now c.loop-k.k _ c.clause.ensures c.loop-k-test.true e.ready.sound _ e.ready.enough; short = row_short c.args.store.now c.loop-k.k _ c.clause.ensures c.loop-k-test.true e.ready.sound }

pub loop-k-preserved : goal.loop-k-preserved
loop-k-preserved c =
    let e = c.in_ok-examine.ensures in
    begun_more c.args.store.now _ _ _ _ _ _ _ c.loop-k.k _ _ (omega arith) c.loop-k.invariant e.room e.goes e.ready e.examined c.clause.ensures c.count_open.ensures

pub returns : goal.returns
returns c =
    let b = c.loop-k.invariant in
    let ix = c.index_all.ensures in
    let pending : Pending c.args.store.now c.loop-k.values c.loop-k.trail 0 = λ k kc. b.starting.first k (omega arith) in
    record {
      goes = b.starting.reached;
      ready = b.starting.ready;
      keeps = record { fit = ix.fit; indexed = ix.indexed; pending = pending; told = begun_told c.args.store.now _ _ _ _ _ c.loop-k.k c.loop-k-test.false b };
      quiet = pending_quiet c.args.store.now c.loop-k.values c.loop-k.trail 0 b.starting.ready.sound pending;
      serves = c.loop-k.auto.left;
      same = ix.same;
      room = b.room;
    }
