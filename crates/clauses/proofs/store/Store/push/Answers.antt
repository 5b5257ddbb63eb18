use Rattle.std.proofs.Common.{length, refl, ap, ◌∙◌}
use Rattle.std.proofs.lemmas.List.{length-set}
use Rattle.clauses.proofs.Growing.{Appended, appended_of, appended_held, copied_named}
use Rattle.clauses.proofs.store.Store.push.Goals as goal

pub seal-requires-clause-named : goal.seal-requires-clause-named
seal-requires-clause-named c =
    copied_named c.args.self.now c.copy_in.new.self c.args.clause.now _ refl c.copy_in.ensures c.requires.speaks

pub returns : goal.returns
returns c =
    let s = c.args.self.now in
    let u = c.seal.new.self in
    let cl = c.args.clause.now in
    let a : Appended s u s.next cl = appended_of s c.copy_in.new.self _ u s.next (length cl) cl refl c.copy_in.ensures refl refl refl refl refl c.seal.ensures in
    record {
      kept = record { rows = ap length a.rows ∙ length-set _ _ _; literals = a.long; variables = a.variables };
      next = c.seal.ensures.next;
      clauses = appended_held s u s.next cl c.requires.row a;
    }
