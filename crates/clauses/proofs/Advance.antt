-- An engine that goes on by forced literals.
use Rattle.std.proofs.Common.{◌≡◌, ℕ, ◌+◌, ◌<◌, Bool, List, length, set, ℤ, Some, None, Option, ap, ◌∙◌, arith, w32, SFits, to_z, of_z}
use Rattle.std.proofs.lemmas.List.{length-set}
use Rattle.std.proofs.lemmas.Int.{to_z-of_z}
use Rattle.text.specs.Literals.{Clause, variable_of, positive}
use Rattle.clauses.specs.Propagation.{Reached}
use Rattle.clauses.specs.Status.{status_from}
use Rattle.clauses.specs.Cells.{values_of, unset_count}
use Rattle.clauses.specs.Rows.{row_at, span}
use Rattle.clauses.specs.Stored.{held}
use Rattle.clauses.specs.Engine.{Ready}
use Rattle.clauses.specs.declared.scan.Status.TheVariants.{Forced}
use Rattle.clauses.specs.declared.store.Store.{Store}
use Rattle.clauses.specs.declared.trail.Trail.{Trail}
use Rattle.clauses.proofs.Theory.{reached_none}
use Rattle.clauses.proofs.Memory.{named_push}
use Rattle.clauses.proofs.OneRow.{row_forced, row_literal}

-- the literal that row k forces was made true, and put on the trail
module _ (s : Store) (k : ℕ) (cl : Clause) (is : cl ≡ span s.literals.now (row_at s.rows.now k)) (lt : k < s.count) (xs : List (Option Bool)) (t : Trail) (ready : Ready s xs t) (l : ℤ) (fits : SFits w32 l) (forced : Forced l ≡ status_from (values_of xs) None cl) where
  pub forced_placed : variable_of (to_z w32 (of_z w32 l)) < length xs
  forced_placed = omega (arith, row_literal s k cl is lt ready.sound (values_of xs) l fits forced, ready.enough)

  pub forced_step : (ys : List (Option Bool)) → ys ≡ set xs (variable_of (to_z w32 (of_z w32 l))) (Some (positive (to_z w32 (of_z w32 l)))) → Reached (held s) (values_of xs) (values_of ys) × (unset_count ys < unset_count xs)
  forced_step ys e = row_forced s k cl is lt ready.sound (values_of xs) xs ys l (ready.dense k lt) ready.enough (reached_none (held s) (values_of xs)) fits forced e

  pub forced_fits : (ys : List (Option Bool)) → ys ≡ set xs (variable_of (to_z w32 (of_z w32 l))) (Some (positive (to_z w32 (of_z w32 l)))) → t.tail < length t.literals.now
  forced_fits ys e = let a : unset_count ys < unset_count xs = (forced_step ys e).1 in omega (arith, ready.room)

  pub forced_ready : (ys : List (Option Bool)) → ys ≡ set xs (variable_of (to_z w32 (of_z w32 l))) (Some (positive (to_z w32 (of_z w32 l)))) → (u : Trail) → u.tail ≡ t.tail + 1 → u.literals.now ≡ set t.literals.now t.tail (to_z w32 (of_z w32 l)) → Ready s ys u
  forced_ready ys e u tail lits =
      let a : unset_count ys < unset_count xs = (forced_step ys e).1 in
      let n : length ys ≡ length xs = ap length e ∙ length-set xs _ _ in
      let m : length u.literals.now ≡ length t.literals.now = ap length lits ∙ length-set t.literals.now _ _ in
      record {
        sound = ready.sound;
        dense = ready.dense;
        enough = rw n ready.enough;
        room = omega (arith, ready.room);
        named = rw (lits, tail) (named_push t.literals.now t.tail s.variables l fits (forced_fits ys e) ready.named (rw (to_z-of_z w32 l fits) at (row_literal s k cl is lt ready.sound (values_of xs) l fits forced)));
      }
