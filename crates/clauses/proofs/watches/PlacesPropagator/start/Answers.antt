use Rattle.std.proofs.Common.{ℕ, ◌/◌, ap, ◌∙◌, arith}
use Rattle.clauses.specs.Watching.{Guards, Watchful}
use Rattle.clauses.proofs.Entries.{linked_of}
use Rattle.clauses.proofs.Guarding.{begun_none, begun_more, same_of, watchful_quiet}
use Rattle.clauses.proofs.watches.PlacesPropagator.start.Goals as goal

pub loop-k-init : goal.loop-k-init
loop-k-init c =
    let e = c.clear.ensures in
    let guards : Guards c.args.store.now c.clear.new.self = record { linked = linked_of c.clear.new.self; heads = omega (arith, c.min.ensures); next = omega arith; owners = omega arith; owned = λ j lt. absurd (omega arith) } in
    begun_none c.args.store.now c.args.index.now c.clear.new.self c.forget.new.places c.args.values.now c.args.trail.now c.requires.ready (same_of _ _ e.heads e.next e.owners) guards e.used c.forget.ensures

pub loop-k-preserved : goal.loop-k-preserved
loop-k-preserved c =
    let e = c.in_ok-visit.ensures in
    begun_more c.args.store.now c.args.index.now c.loop-k.index c.visit.new.index c.loop-k.places c.visit.new.places c.args.values.now c.loop-k.values c.visit.new.values c.args.trail.now c.loop-k.trail c.visit.new.trail c.loop-k.k c.loop-k-test.true c.loop-k.invariant e.goes e.ready e.visited e.room

pub returns : goal.returns
returns c =
    let b = c.loop-k.invariant in
    let w : Watchful c.args.store.now c.loop-k.index c.loop-k.places c.loop-k.values c.loop-k.trail 0 0 = record { guards = b.guards; spots = b.spots; within = omega arith; ahead = omega arith; rows = λ j lt. b.rows j (omega arith) } in
    record { goes = b.reached; ready = b.ready; keeps = w; quiet = watchful_quiet c.args.store.now c.loop-k.index c.loop-k.places c.loop-k.values c.loop-k.trail 0 b.ready.sound w; serves = ap (λ (n : ℕ). n / 2) (c.loop-k.auto.places ∙ c.forget.auto.places); same = b.same; room = b.room }
