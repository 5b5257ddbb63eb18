use Rattle.std.proofs.Common.{◌≡◌, ◌+◌, ◌-◌, ◌<◌, ◌≤◌, length, get_or, set, pos, refl, ap, ◌∙◌, arith, w32, SFits, rules}
use Rattle.std.proofs.lemmas.List.{get_or-set_same}
use Rattle.std.proofs.lemmas.Int.{to_z-of_z}
use Rattle.clauses.specs.Codes.{code_against}
use Rattle.clauses.proofs.Theory.{reached_none}
use Rattle.clauses.proofs.Walks.{walking_none, walk_more, walking_all, pending_quiet}
use Rattle.clauses.proofs.Guarding.{same_none}
use Rattle.clauses.proofs.Tellings.{telling_none, telling_more, telling_look, telling_all, walk_skip}
use Rattle.clauses.proofs.counters.CountersPropagator.wake.Goals as goal

pub loop-link-init : goal.loop-link-init
loop-link-init c =
    let fits : SFits w32 (get_or c.args.trail.now.literals.now c.args.head (pos 0)) = search rules in
    let is : c.code_against.result ≡ code_against (get_or c.args.trail.now.literals.now c.args.head (pos 0)) = c.code_against.ensures.value ∙ ap code_against (to_z-of_z w32 _ fits) in
    let cl : c.code_against.result < c.args.index.now.lists = search rules in (
      record {
        reached = reached_none _ _;
        ready = c.requires.ready;
        room = refl;
        ahead = omega arith;
        within = search rules;
        walking = walking_none c.args.store.now c.args.index.now c.args.values.now c.args.trail.now c.args.head _ c.requires.keeps.indexed is c.requires.keeps.pending;
      },
      telling_none c.args.store.now c.args.index.now c.args.values.now c.args.self.now.left.now c.args.trail.now c.args.head _ c.requires.head is cl c.requires.keeps.indexed c.requires.keeps.told,
    )

pub loop-link-preserved-then-open-ge2 : goal.loop-link-preserved-then-open-ge2
loop-link-preserved-then-open-ge2 c =
    let w = c.loop-link.invariant in
    let k = get_or c.args.index.now.owners.now (c.loop-link.link - 1) 0 in
    let kl : k < length c.loop-link.left = omega (arith, c.requires.keeps.indexed.owned (c.loop-link.link - 1) (omega (arith, w.0.within))) in
    let t = telling_more c.args.store.now c.args.index.now c.loop-link.values c.loop-link.left c.loop-link.trail _ c.loop-link.link k c.saturating_sub-open.result (omega arith) refl kl c.saturating_sub-open.ensures w.1 in
    let two : 2 ≤ get_or (set c.loop-link.left k c.saturating_sub-open.result) k 0 = rw (get_or-set_same c.loop-link.left k c.saturating_sub-open.result 0 kl) c.if-open-ge2.true in
    (walk_skip c.args.store.now c.args.index.now c.args.values.now c.loop-link.values _ c.args.trail.now c.loop-link.trail _ c.loop-link.link k c.requires.keeps.fit.linked (omega arith) refl two t w.0, t)

pub loop-link-preserved : goal.loop-link-preserved
loop-link-preserved c =
    let w = c.loop-link.invariant in
    let e = c.in_ok-examine.ensures in
    let k = get_or c.args.index.now.owners.now (c.loop-link.link - 1) 0 in
    let kl : k < length c.loop-link.left = omega (arith, c.requires.keeps.indexed.owned (c.loop-link.link - 1) (omega (arith, w.0.within))) in
    let t = telling_more c.args.store.now c.args.index.now c.loop-link.values c.loop-link.left c.loop-link.trail _ c.loop-link.link k c.saturating_sub-open.result (omega arith) refl kl c.saturating_sub-open.ensures w.1 in
    (walk_more _ _ _ _ _ _ _ _ _ _ _ c.requires.keeps.fit.linked (omega arith) refl w.0 e.goes e.ready e.room e.examined, telling_look c.args.store.now c.args.index.now k _ _ _ _ _ _ _ w.0.ahead e.goes e.examined t)

pub returns : goal.returns
returns c =
    let w = c.loop-link.invariant in
    let k = c.requires.keeps in
    let pending = walking_all c.args.store.now c.args.index.now c.loop-link.values c.loop-link.trail _ _ c.loop-link-test.false w.0.walking in
    record {
      goes = w.0.reached;
      ready = w.0.ready;
      keeps = record { fit = k.fit; indexed = k.indexed; pending = pending; told = telling_all _ _ _ _ _ _ _ c.loop-link-test.false w.1 };
      quiet = pending_quiet c.args.store.now c.loop-link.values c.loop-link.trail (c.args.head + 1) w.0.ready.sound pending;
      serves = c.loop-link.auto.left;
      same = same_none c.args.index.now;
      room = w.0.room;
    }
