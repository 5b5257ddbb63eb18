use Rattle.std.proofs.Common.{◌≡◌, ◌<◌, length, get_or, pos, ap, ⊎_elim, arith, w32, SFits, rules}
use Rattle.clauses.specs.Events.{clause_at}
use Rattle.clauses.proofs.Entries.{linked_of, read_code}
use Rattle.clauses.proofs.Memory.{sound_of}
use Rattle.clauses.proofs.Guarding.{code_listed, enlisted}
use Rattle.clauses.proofs.watches.enlist.Goals as goal

pub enter-requires : goal.enter-requires
enter-requires c =
    let s = c.args.store.now in
    let n : length c.clause-literals.result.now ≡ length (clause_at s c.args.k) = ap length c.clause-literals.ensures in
    let fits : SFits w32 (get_or c.clause-literals.result.now c.args.place (pos 0)) = search rules in
    let q = read_code c.clause-literals.result.now (clause_at s c.args.k) c.args.place c.code_of.result fits c.clause-literals.ensures c.code_of.ensures.value in
    let g = c.requires.guards in
    let r : c.args.index.now.used < s.filled = c.requires.room c.if-places-k.false c.if-places-k-2.false in
    record { code = rw q (code_listed s c.args.index.now c.args.k c.args.place (sound_of s) g c.requires.k c.requires.place); next = omega (arith, r, g.next); owners = omega (arith, r, g.owners); small = omega (arith, r, s.within, s.small) }

pub returns : goal.returns
returns c =
    let s = c.args.store.now in
    let n : length c.clause-literals.result.now ≡ length (clause_at s c.args.k) = ap length c.clause-literals.ensures in
    let fits : SFits w32 (get_or c.clause-literals.result.now c.args.place (pos 0)) = search rules in
    let q = read_code c.clause-literals.result.now (clause_at s c.args.k) c.args.place c.code_of.result fits c.clause-literals.ensures c.code_of.ensures.value in
    let e = c.enter.ensures in
    let g = c.requires.guards in
    let r : c.args.index.now.used < s.filled = c.requires.room c.if-places-k.false c.if-places-k-2.false in
    enlisted c.args.index.now c.enter.new.self c.code_of.result c.args.k g.linked (rw q (code_listed s c.args.index.now c.args.k c.args.place (sound_of s) g c.requires.k c.requires.place)) (omega (arith, r, g.next)) (omega (arith, r, g.owners)) e.used e.lists e.heads e.next e.owners s c.args.place c.args.places.now g (linked_of c.enter.new.self) c.requires.k q (⊎_elim c.if-places-k.false c.if-places-k-2.false)
