-- What a session promises over its whole run, for every base and every source by their meaning.
-- Unbeaten: no plan beats some counts; verdict_of: the verdict on an answer; Means: what it says
-- Good: a certificate all of whose steps are good, up to its first addition of the empty clause; up_to_empty: how many these are
-- Law: a verdict is true, and a good certificate gets it
use Rattle.std.specs.Prelude.{◌≡◌, ℕ, suc, ◌<◌, ◌≤◌, cond, T, ◌⊎◌, List, [], ◌∷◌, length}
use Rattle.problem.specs.Cudf.{Problem, Chosen, PlanOverSets, removed_count, changed_count}
use Rattle.clauses.specs.ClauseBase.{Meaning}
use Rattle.certificate.specs.Stream.{Placed, Stream}
use Rattle.verdict.specs.Counted.{counts_of}
use Rattle.verdict.specs.declared.counts.Counts.{Counts}
use Rattle.verdict.specs.declared.reply.Reply.{Reply}
use Rattle.verdict.specs.declared.outcome.Verdict.{Verdict}
use Rattle.verdict.specs.declared.outcome.Verdict.TheVariants.{Optimal, Impossible}
use Rattle.certificate.specs.Reading.{Memory}
use Rattle.verdict.specs.Session.{Desk, Run, Answer, fail, set, Fine, after, is_empty_addition, opens, IsPlanOrFail, desk_on}

-- no plan beats these counts
abbrev pub Unbeaten : Problem → Counts → Type 0
Unbeaten q n = (other : Chosen) → PlanOverSets q other → (n.removed < removed_count q other) ⊎ ((removed_count q other ≡ n.removed) × (n.changed ≤ changed_count q other))

-- the verdict that a refuted session on an answer closes with
abbrev pub verdict_of : Problem → Answer → Verdict
verdict_of q fail = Impossible
verdict_of q (set s) = Optimal (counts_of q s)

-- what a verdict on an answer says: the set is a plan with these counts, and no plan beats it; no plan exists
abbrev pub Means : Problem → Answer → Verdict → Type 0
Means q (set s) (Optimal n) = PlanOverSets q s × (n ≡ counts_of q s) × Unbeaten q n
Means q (set s) Impossible = ⊥
Means q fail (Optimal n) = ⊥
Means q fail Impossible = (s : Chosen) → PlanOverSets q s → ⊥

-- A certificate, up to its first addition of the empty clause, every step of which is good: reckoned from
-- the opening's clauses and the steps alone.
abbrev pub Good : Memory → Meaning → List Placed → Type 0
Good k m [] = ⊥
Good k m (p ∷ ps) = Fine k m p.step × cond (is_empty_addition p.step) (Unit {0}) (Good k (after m p.step) ps)

-- how many steps it has up to and with the first addition of the empty clause
abbrev pub up_to_empty : List Placed → ℕ
up_to_empty [] = 0
up_to_empty (p ∷ ps) = cond (is_empty_addition p.step) 1 (suc (up_to_empty ps))

-- The law. A session is opened on a base; any number of steps are asked, refused ones included.
pub record Law : Type 0 where
  -- if a closing call then refutes it, its verdict is true
  pub sound : (q : Problem) (a : Answer) (m : Meaning) (source : Stream) (k : Memory) (replies : List Reply) (end : Desk) →
      IsPlanOrFail q a → Run k (desk_on (opens m q a) source) replies end → T end.emptied → Means q a (verdict_of q a)
  -- and a good certificate, asked up to its first empty clause, always gets there
  pub complete : (q : Problem) (a : Answer) (m : Meaning) (source : Stream) (k : Memory) (replies : List Reply) (end : Desk) →
      Good k (opens m q a) source.steps → up_to_empty source.steps ≤ length replies →
      Run k (desk_on (opens m q a) source) replies end → T end.emptied
