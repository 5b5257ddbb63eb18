use Rattle.std.proofs.Common.{◌≡◌, ℕ, ◌/◌, ◌+◌, ◌-◌, ◌*◌, ◌<◌, ◌≤◌, get_or, pos, refl, ap, ◌∙◌, arith, w32, SFits, rules}
use Rattle.std.proofs.lemmas.Int.{to_z-of_z}
use Rattle.text.specs.Literals.{variable_of}
use Rattle.clauses.specs.Cells.{values_of}
use Rattle.clauses.specs.Codes.{code_against}
use Rattle.clauses.specs.Stored.{held}
use Rattle.clauses.proofs.Theory.{reached_none, reached_more}
use Rattle.clauses.proofs.Guarding.{same_none, same_more, watchful_none, watchful_more, watchful_end, watchful_quiet}
use Rattle.clauses.proofs.watches.PlacesPropagator.wake.Goals as goal

pub loop-link-init : goal.loop-link-init
loop-link-init c =
    let t = c.args.trail.now in
    let fits : SFits w32 (get_or t.literals.now c.args.head (pos 0)) = search rules in
    let is : c.code_against.result ≡ code_against (get_or t.literals.now c.args.head (pos 0)) = c.code_against.ensures.value ∙ ap code_against (to_z-of_z w32 _ fits) in
    let b : c.code_against.result ≤ 2 * variable_of (get_or t.literals.now c.args.head (pos 0)) + 1 = rw (to_z-of_z w32 _ fits) at c.code_against.ensures.bound in
    let cl : c.code_against.result < c.args.index.now.lists = omega (arith, b, c.requires.ready.named c.args.head c.requires.head, c.requires.keeps.guards.heads) in
    (reached_none _ _, c.requires.ready, watchful_none c.args.store.now c.args.index.now c.args.self.now.at.now c.args.values.now t c.args.head _ c.requires.head cl is c.requires.keeps, same_none _, refl)

pub loop-link-preserved : goal.loop-link-preserved
loop-link-preserved c =
    let i = c.loop-link.invariant in
    let e = c.in_ok-visit.ensures in
    let r = get_or c.loop-link.index.owners.now (c.loop-link.link - 1) 0 in
    let rc : r < c.args.store.now.count = i.2.guards.owned (c.loop-link.link - 1) (omega (arith, i.2.within)) in (
      reached_more (held c.args.store.now) (values_of c.args.values.now) (values_of c.loop-link.values) (values_of c.visit.new.values) i.0 e.goes,
      e.ready,
      watchful_more c.args.store.now c.loop-link.index c.visit.new.index c.loop-link.places c.visit.new.places c.loop-link.values c.visit.new.values c.loop-link.trail c.visit.new.trail (c.args.head + 1) c.loop-link.link r i.1.sound (omega arith) refl rc e.visited i.2,
      same_more c.args.index.now c.loop-link.index c.visit.new.index i.3 e.same,
      e.room ∙ i.4,
    )

pub returns : goal.returns
returns c =
    let i = c.loop-link.invariant in
    let w = watchful_end _ _ _ _ _ _ _ c.loop-link-test.false i.2 in
    record { goes = i.0; ready = i.1; keeps = w; quiet = watchful_quiet c.args.store.now c.loop-link.index c.loop-link.places c.loop-link.values c.loop-link.trail (c.args.head + 1) i.1.sound w; serves = ap (λ (n : ℕ). n / 2) c.loop-link.auto.places; same = i.3; room = i.4 }
