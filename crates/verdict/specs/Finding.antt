-- A whole run up to the first refusal: opened, asked, closed.
-- Asked: a session could be opened, and its steps were asked up to a last reply
-- in_run: what a session comes to, as a run; ending: what it comes to after its last reply
-- Finds, FindLeaves: what the run comes to, and what it leaves in memory; FoundTrue: its verdict is true; Found: a good certificate has its verdict
use Rattle.std.specs.Prelude.{◌≡◌, ℕ, suc, T, List, length, replicate, ℤ, pos, None, Ok, Err, Result}
use Rattle.problem.specs.Cudf.{Problem}
use Rattle.clauses.specs.ClauseBase.{Meaning, idle}
use Rattle.certificate.specs.Reading.{Memory}
use Rattle.certificate.specs.Stream.{Stream}
use Rattle.verdict.specs.Law.{Means, verdict_of, Good}
use Rattle.verdict.specs.Onward.{Onward}
use Rattle.verdict.specs.Opened.{plan_fault, Opens, closing}
use Rattle.verdict.specs.Session.{Desk, Answer, IsPlanOrFail, opens, opening_fits, desk_on}
use Rattle.verdict.specs.declared.outcome.RunFault.{RunFault}
use Rattle.verdict.specs.declared.outcome.RunFault.TheVariants.{Session, Step}
use Rattle.verdict.specs.declared.outcome.SessionFault.{SessionFault}
use Rattle.verdict.specs.declared.outcome.SessionFault.TheVariants.{Opening, Unclosed}
use Rattle.verdict.specs.declared.outcome.Verdict.{Verdict}
use Rattle.verdict.specs.declared.session.Open.{Open}
use Rattle.verdict.specs.declared.reply.Reply.{Reply}
use Rattle.verdict.specs.declared.reply.Reply.TheVariants.{Taken, Refused, Nothing}

pub record Asked (q : Problem) (a : Answer) (k : Memory) (m : Meaning) (s : Stream) (r : Reply) (end : Desk) (m' : Meaning) (s' : Stream) : Type 0 where
  pub untried : m.trial ≡ idle
  pub plan : plan_fault q a ≡ None
  pub fits : T (opening_fits m q a)
  pub onward : Onward k (desk_on (opens m q a) s) r end
  pub base : end.base ≡ m'
  pub source : end.source ≡ s'

abbrev pub in_run : Result Verdict SessionFault → Result Verdict RunFault
in_run (Ok v) = Ok v
in_run (Err f) = Err (Session f)

abbrev pub ending : Open → Reply → Result Verdict RunFault
ending o (Refused f p) = Err (Step f p)
ending o Taken = in_run (closing o)
ending o Nothing = in_run (closing o)

abbrev pub Finds : Problem → Answer → Memory → Meaning → Stream → Result Verdict RunFault → Meaning → Stream → Type 0
Finds q a k m s (Ok v) m' s' = (end : Desk) × (Asked q a k m s Taken end m' s' × (v ≡ verdict_of q a))
Finds q a k m s (Err (Step f p)) m' s' = (end : Desk) × Asked q a k m s (Refused f p) end m' s'
Finds q a k m s (Err (Session (Unclosed p))) m' s' = (end : Desk) × (Asked q a k m s Nothing end m' s' × (p ≡ suc end.accepted))
Finds q a k m s (Err (Session (Opening f))) m' s' = Opens m q a (Err f) m' × (s' ≡ s)

-- the memory lent: all zero, or as it was where the opening was refused
abbrev pub FindLeaves : List ℤ → List ℕ → Result Verdict RunFault → List ℤ → List ℕ → Type 0
FindLeaves ls hs (Ok v) ls' hs' = (ls' ≡ replicate (length ls) (pos 0)) × (hs' ≡ replicate (length hs) 0)
FindLeaves ls hs (Err (Step f p)) ls' hs' = (ls' ≡ replicate (length ls) (pos 0)) × (hs' ≡ replicate (length hs) 0)
FindLeaves ls hs (Err (Session (Unclosed p))) ls' hs' = (ls' ≡ replicate (length ls) (pos 0)) × (hs' ≡ replicate (length hs) 0)
FindLeaves ls hs (Err (Session (Opening f))) ls' hs' = (ls' ≡ ls) × (hs' ≡ hs)

abbrev pub FoundTrue : Problem → Answer → Result Verdict RunFault → Type 0
FoundTrue q a (Ok v) = Means q a v
FoundTrue q a (Err f) = Unit {0}

abbrev pub Found : Problem → Answer → Memory → Meaning → Stream → Result Verdict RunFault → Type 0
Found q a k m s r = m.trial ≡ idle → IsPlanOrFail q a → T (opening_fits m q a) → Good k (opens m q a) s.steps → r ≡ Ok (verdict_of q a)
