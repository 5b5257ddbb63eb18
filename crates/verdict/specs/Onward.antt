-- Steps asked one after the other, up to the first that is refused, the end, or the empty clause.
-- Stops: a reply that ends it; OnAfter: what it comes to after so many steps accepted on the way; Onward: after any number
-- OnwardLaw: it ends with the empty clause only where the verdict is true, and does so on a good certificate
use Rattle.std.specs.Prelude.{◌≡◌, ℕ, zero, suc, cond, not, T}
use Rattle.problem.specs.Cudf.{Problem}
use Rattle.clauses.specs.ClauseBase.{Meaning}
use Rattle.certificate.specs.Reading.{Memory}
use Rattle.certificate.specs.Stream.{Stream}
use Rattle.verdict.specs.Law.{Means, verdict_of, Good}
use Rattle.verdict.specs.Session.{Desk, Asked, Answer, IsPlanOrFail, opens, desk_on}
use Rattle.verdict.specs.declared.reply.Reply.{Reply}
use Rattle.verdict.specs.declared.reply.Reply.TheVariants.{Taken, Refused, Nothing}

abbrev pub Stops : Reply → Type 0
Stops Taken = ⊥
Stops (Refused f p) = Unit {0}
Stops Nothing = Unit {0}

abbrev pub OnAfter : ℕ → Memory → Desk → Reply → Desk → Type 0
OnAfter zero k d r d' = cond d.emptied ((r ≡ Taken) × (d' ≡ d)) (Stops r × Asked k d r d')
OnAfter (suc n) k d r d' = (next : Desk) × (T (not d.emptied) × Asked k d Taken next × OnAfter n k next r d')

pub record Onward (k : Memory) (d : Desk) (r : Reply) (d' : Desk) : Type 0 where
  pub accepted : ℕ
  pub asked : OnAfter accepted k d r d'

-- The law for such a run of a session just opened.
pub record OnwardLaw : Type 0 where
  -- if it ends with the empty clause, the verdict is true
  pub sound : (q : Problem) (a : Answer) (m : Meaning) (source : Stream) (k : Memory) (end : Desk) →
      IsPlanOrFail q a → Onward k (desk_on (opens m q a) source) Taken end → T end.emptied × Means q a (verdict_of q a)
  -- and on a good certificate it ends so
  pub complete : (q : Problem) (a : Answer) (m : Meaning) (source : Stream) (k : Memory) (r : Reply) (end : Desk) →
      Good k (opens m q a) source.steps → Onward k (desk_on (opens m q a) source) r end → r ≡ Taken
