-- The law of a session: what it refutes is so, and a good certificate gets there.
use Rattle.std.proofs.Common.{◌≡◌, T, List, [], ◌∷◌, refl, inr}
use Rattle.text.specs.Lists.{Each}
use Rattle.problem.specs.Cudf.{Problem, Chosen, removed_count, changed_count}
use Rattle.text.specs.Literals.{Clause, makes_true}
use Rattle.problem.specs.PlanClauses.{plan_clauses}
use Rattle.clauses.specs.ClauseBase.{Meaning, idle, cleared, with_added}
use Rattle.certificate.specs.Stream.{Stream}
use Rattle.verdict.specs.declared.reply.Reply.{Reply}
use Rattle.certificate.specs.Reading.{Memory}
use Rattle.verdict.specs.Session.{Desk, Run, Answer, fail, set, opens, opening_clauses, opening_variables, added_all, IsPlanOrFail, desk_on}
use Rattle.verdict.specs.Law.{verdict_of, Means, Law}
use Rattle.text.proofs.Members.{each_from_every}
use Rattle.verdict.proofs.Rup.{True}
use Rattle.verdict.proofs.Runs.{opening_true, run_true}
use Rattle.verdict.proofs.Complete.{run_going}
use Rattle.problem.proofs.Agreement.{plans_agree}
use Rattle.verdict.proofs.Better.{unbeaten, removed_bound, changed_bound}

-- a run that accepts the empty clause refutes the opening
refuted : (q : Problem) (a : Answer) (m : Meaning) (source : Stream) (k : Memory) (replies : List Reply) (end : Desk) →
    Run k (desk_on (opens m q a) source) replies end → T end.emptied → (A : Chosen) → Each (True A) (opening_clauses q a) → ⊥
refuted q a m source k replies end run e A t =
    (run_true A k (desk_on (opens m q a) source) end replies run (opening_true A (cleared m (opening_variables q a)) (opening_clauses q a) tt t, λ u. u)).1 e

refuted_means : (q : Problem) (a : Answer) → IsPlanOrFail q a → ((A : Chosen) → Each (True A) (opening_clauses q a) → ⊥) → Means q a (verdict_of q a)
refuted_means q fail p none = λ s h. none s (each_from_every (makes_true s) (plan_clauses q) ((plans_agree.clauses q s).1 h))
refuted_means q (set s) p none = (p, refl, unbeaten q (removed_count q s) (changed_count q s) (removed_bound q s) (changed_bound q s) none)

pub stays_idle : (m : Meaning) (cs : List Clause) → m.trial ≡ idle → (added_all m cs).trial ≡ idle
stays_idle m [] e = e
stays_idle m (c ∷ cs) e = stays_idle (with_added m c) cs e

pub law : Law
law = record {
  sound = λ q a m source k replies end p run e. refuted_means q a p (refuted q a m source k replies end run e);
  complete = λ q a m source k replies end good within run.
      run_going k (desk_on (opens m q a) source) end replies run (stays_idle (cleared m (opening_variables q a)) (opening_clauses q a) refl) (inr (good, within));
}
