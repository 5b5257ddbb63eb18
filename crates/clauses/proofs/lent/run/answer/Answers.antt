use Rattle.std.proofs.Common.{refl, arith}
use Rattle.clauses.proofs.Memory.{sound_of, unset_most, named_none}
use Rattle.clauses.proofs.lent.run.answer.Goals as goal

pub propagate-requires : goal.propagate-requires
propagate-requires g c =
    let e = c.close.ensures in
    let s = c.close.new.self in
    let ok = c.args.common.now in
    record {
      ready = record { sound = sound_of s; dense = e.dense; enough = rw e.kept.variables ok.placed; room = omega (arith, unset_most ok.values.cells.now, ok.lasting); named = named_none ok.trail.literals.now s.variables };
      serves = omega (arith, s.counted, e.kept.rows, c.requires.serves);
      empty = refl;
      heads = omega (arith, e.kept.variables, ok.placed, c.requires.heads);
      next = omega (arith, s.within, e.kept.literals, c.requires.next);
      owners = omega (arith, s.within, e.kept.literals, c.requires.owners);
    }
