use Rattle.std.proofs.Common.{◌+◌, ◌*◌, ◌^◌, ◌<◌, length, get_or, set, Some, refl, subst, ⊎_elim, arith, rules}
use Rattle.std.proofs.lemmas.List.{length-set}
use Rattle.text.specs.Literals.{Clause}
use Rattle.clauses.specs.Events.{clause_at}
use Rattle.clauses.specs.Watching.{TwoOpen, Spotted}
use Rattle.clauses.proofs.Theory.{reached_none}
use Rattle.clauses.proofs.OneRow.{row_placed, row_short}
use Rattle.clauses.proofs.Spots.{spots_room}
use Rattle.clauses.proofs.Guarding.{first_spots, second_spots, visited_pair, visited_examine, same_none}
use Rattle.clauses.proofs.watches.visit.Goals as goal

pub two_places-requires : goal.two_places-requires
two_places-requires c = row_placed c.args.store.now c.args.k _ c.clause.ensures c.requires.k c.requires.ready.sound _ c.requires.ready.enough

pub enlist-requires : goal.enlist-requires
enlist-requires c =
    let s = c.args.store.now in
    let k = c.args.k in
    let w = c.args.places.now in
    let xs = c.args.values.now in
    let ok = c.requires.ready.sound in
    let wide : 2 * k + 1 < length w = omega (arith, c.requires.k, c.requires.places) in
    let t : TwoOpen xs (clause_at s k) (get_or w (2 * k) 0) (get_or w (2 * k + 1) 0) (Some (c.in-Some.first, c.in-Some.second)) = subst (λ (d : Clause). TwoOpen xs d (get_or w (2 * k) 0) (get_or w (2 * k + 1) 0) (Some (c.in-Some.first, c.in-Some.second))) c.clause.ensures c.in-Some.ensures in
    record { k = c.requires.k; place = t.0.first; places = c.requires.places; guards = c.requires.guards; room = λ a b. spots_room s k c.in-Some.first c.args.index.now.used xs w ok c.requires.k t.0.first t.0.first_open c.requires.spots (⊎_elim a b) }

pub overflow_cast-places : goal.overflow_cast-places
overflow_cast-places c =
    let e = c.in-Some.ensures in
    let n : length c.clause.result.now < 2 ^ 32 = row_short c.args.store.now c.args.k _ c.clause.ensures c.requires.k c.requires.ready.sound in
    let l : c.in-Some.first < length c.clause.result.now = e.0.first in
    search rules

pub enlist-requires-in-Some : goal.enlist-requires-in-Some
enlist-requires-in-Some c =
    let s = c.args.store.now in
    let k = c.args.k in
    let w = c.args.places.now in
    let xs = c.args.values.now in
    let ok = c.requires.ready.sound in
    let wide : 2 * k + 1 < length w = omega (arith, c.requires.k, c.requires.places) in
    let t : TwoOpen xs (clause_at s k) (get_or w (2 * k) 0) (get_or w (2 * k + 1) 0) (Some (c.in-Some.first, c.in-Some.second)) = subst (λ (d : Clause). TwoOpen xs d (get_or w (2 * k) 0) (get_or w (2 * k + 1) 0) (Some (c.in-Some.first, c.in-Some.second))) c.clause.ensures c.in-Some.ensures in
    let f : Spotted s c.enlist.new.index.used xs (set w (2 * k) c.in-Some.first) = first_spots s k c.in-Some.first c.in-Some.second (get_or w (2 * k) 0) (get_or w (2 * k + 1) 0) w c.args.index.now c.enlist.new.index c.enlist.new.index xs c.args.trail.now ok c.requires.k wide t.0 c.enlist.ensures refl t.1 c.requires.spots in
    record { k = c.requires.k; place = t.0.second; places = simp length-set c.requires.places; guards = c.enlist.ensures.guards; room = λ a b. spots_room s k c.in-Some.second c.enlist.new.index.used xs (set w (2 * k) c.in-Some.first) ok c.requires.k t.0.second t.0.second_open f (⊎_elim a b) }

pub overflow_cast-places-in-Some : goal.overflow_cast-places-in-Some
overflow_cast-places-in-Some c =
    let e = c.in-Some.ensures in
    let n : length c.clause.result.now < 2 ^ 32 = row_short c.args.store.now c.args.k _ c.clause.ensures c.requires.k c.requires.ready.sound in
    let l : c.in-Some.second < length c.clause.result.now = e.0.second in
    search rules

pub returns-in-Some : goal.returns-in-Some
returns-in-Some c =
    let s = c.args.store.now in
    let k = c.args.k in
    let w = c.args.places.now in
    let xs = c.args.values.now in
    let ok = c.requires.ready.sound in
    let wide : 2 * k + 1 < length w = omega (arith, c.requires.k, c.requires.places) in
    let t : TwoOpen xs (clause_at s k) (get_or w (2 * k) 0) (get_or w (2 * k + 1) 0) (Some (c.in-Some.first, c.in-Some.second)) = subst (λ (d : Clause). TwoOpen xs d (get_or w (2 * k) 0) (get_or w (2 * k + 1) 0) (Some (c.in-Some.first, c.in-Some.second))) c.clause.ensures c.in-Some.ensures in
    let f : Spotted s c.enlist.new.index.used xs (set w (2 * k) c.in-Some.first) = first_spots s k c.in-Some.first c.in-Some.second (get_or w (2 * k) 0) (get_or w (2 * k + 1) 0) w c.args.index.now c.enlist.new.index c.enlist.new.index xs c.args.trail.now ok c.requires.k wide t.0 c.enlist.ensures refl t.1 c.requires.spots in
    let z = c.enlist-in-Some.new.index in
    let g : Spotted s z.used xs (set (set w (2 * k) c.in-Some.first) (2 * k + 1) c.in-Some.second) = second_spots s k c.in-Some.first c.in-Some.second (get_or w (2 * k) 0) (get_or w (2 * k + 1) 0) w c.args.index.now c.enlist.new.index z xs c.args.trail.now ok c.requires.k wide t.0 c.enlist.ensures refl t.2 c.enlist-in-Some.ensures f in
    let v = visited_pair s k c.in-Some.first c.in-Some.second (get_or w (2 * k) 0) (get_or w (2 * k + 1) 0) w c.args.index.now c.enlist.new.index z xs c.args.trail.now ok c.requires.k wide t.0 c.enlist.ensures c.enlist-in-Some.ensures g in
    record { goes = reached_none _ _; ready = c.requires.ready; visited = v; same = v.grown.same; room = refl }

pub returns-in-None : goal.returns-in-None
returns-in-None c =
    let e = c.examine.ensures in
    record {
      goes = e.goes;
      ready = e.ready;
      visited = visited_examine c.args.store.now c.args.k c.args.places.now c.args.index.now c.args.values.now c.examine.new.values c.args.trail.now c.examine.new.trail c.clause.result.now c.examine.result c.clause.ensures c.requires.guards c.requires.spots c.in-None.ensures e.goes e.examined;
      same = same_none c.args.index.now;
      room = e.room;
    }
