-- An open session in plain numbers: how it is opened, closed, and what a whole run of it comes to.
-- desk_of: a session with what its base and its source mean; answer_of: an answer and its table in words; plan_fault: the first plan clause that an answer's set makes false
-- claim_of: what a session on an answer is opened on; verdict_for: the verdict on it
-- Claims: what a session on an answer opens on, unless it is a set that is no plan
-- Opens, OnlyRefused: an opening, and what it is refused for; Closes: a closing call; closing: what it comes to
-- Concludes, RunLeaves: a whole run, and what it leaves in memory
-- TrueVerdict: a verdict is true; Complete: a good certificate has its verdict
use Rattle.std.specs.Prelude.{◌≡◌, ℕ, suc, ◌≤◌, false, cond, not, T, List, ℤ, Some, None, Ok, Err, Option, Result, ◌≢◌}
use Rattle.verdict.specs.Counted.{counts_of}
use Rattle.verdict.specs.declared.session.Open.{Open}
use Rattle.verdict.specs.declared.session.Claim.{Claim}
use Rattle.verdict.specs.declared.session.Claim.TheVariants.{Fail, Plan}
use Rattle.verdict.specs.declared.session.Refuted.{Refuted}
use Rattle.verdict.specs.declared.session.StillOpen.{StillOpen}
use Rattle.verdict.specs.declared.outcome.OpenFault.{OpenFault}
use Rattle.verdict.specs.declared.outcome.OpenFault.TheVariants.{NotPlan, NoRoom, InTrial}
use Rattle.verdict.specs.declared.outcome.SessionFault.{SessionFault}
use Rattle.verdict.specs.declared.outcome.SessionFault.TheVariants.{Opening, Unclosed}
use Rattle.verdict.specs.declared.reply.Reply.{Reply}
use Rattle.verdict.specs.declared.outcome.Verdict.{Verdict}
use Rattle.verdict.specs.declared.outcome.Verdict.TheVariants.{Optimal, Impossible}
use Rattle.problem.specs.Cudf.{Problem}
use Rattle.problem.specs.PlanClauses.{plan_clauses, first_false}
use Rattle.problem.specs.Sets.{set_of}
use Rattle.problem.specs.declared.answer.Answer.{Answer as Given}
use Rattle.problem.specs.declared.answer.Answer.TheVariants.{Fail as Failed, Set}
use Rattle.problem.specs.declared.plan_check.NotPlan.{NotPlan as Unplanned}
use Rattle.problem.specs.declared.standing.Standing.{Standing}
use Rattle.verdict.specs.OpeningCalls.{within}
use Rattle.clauses.specs.ClauseBase.{Meaning, idle, cleared}
use Rattle.certificate.specs.Stream.{Placed, Stream}
use Rattle.certificate.specs.Reading.{Memory, memory_of}
use Rattle.verdict.specs.Session.{Desk, Run, Answer, fail, set, opens, opening_fits, desk_on, IsPlanOrFail}
use Rattle.verdict.specs.Calls.{LeavesAfter}
use Rattle.verdict.specs.Law.{Means, verdict_of, Good, up_to_empty}

abbrev pub desk_of : Open → Meaning → Stream → Desk
desk_of o m s = record { base = m; source = s; emptied = o.emptied; accepted = o.last }

abbrev pub answer_of : Given → List Standing → Answer
answer_of Failed t = fail
answer_of Set t = set (set_of t)

abbrev pub plan_fault : Problem → Answer → Option ℕ
plan_fault q fail = None
plan_fault q (set s) = first_false s (plan_clauses q)

abbrev pub claim_of : Problem → Answer → Claim
claim_of q fail = Fail
claim_of q (set s) = Plan (counts_of q s)

abbrev pub verdict_for : Claim → Verdict
verdict_for Fail = Impossible
verdict_for (Plan n) = Optimal n

-- what a session on an answer opens on, unless the answer is a set that is no plan
abbrev pub Claims : Problem → Answer → Result Claim Unplanned → Type 0
Claims q a (Ok k) = (plan_fault q a ≡ None) × (k ≡ claim_of q a) × (within (claim_of q a) ≡ claim_of q a)
Claims q a (Err f) = plan_fault q a ≡ Some f.clause

-- An opening: a trial goes before a set that is no plan, and that before the room.
abbrev pub Opens : Meaning → Problem → Answer → Result Open OpenFault → Meaning → Type 0
Opens m q a (Ok o) m' = (m.trial ≡ idle) × (plan_fault q a ≡ None) × T (opening_fits m q a) × (m' ≡ opens m q a) × (o ≡ record { claim = claim_of q a; last = 0; emptied = false })
Opens m q a (Err InTrial) m' = (m.trial ≢ idle) × (m' ≡ m)
Opens m q a (Err (NotPlan n)) m' = (m.trial ≡ idle) × (plan_fault q a ≡ Some n) × (m' ≡ cleared m 0)
Opens m q a (Err NoRoom) m' = (m.trial ≡ idle) × (plan_fault q a ≡ None) × T (not (opening_fits m q a)) × (m' ≡ cleared m 0)

-- on a base with no trial it is refused only if the answer is neither FAIL nor a plan, or the opening does not fit
abbrev pub OnlyRefused : Meaning → Problem → Answer → Result Open OpenFault → Type 0
OnlyRefused m q a (Ok o) = Unit {0}
OnlyRefused m q a (Err f) = m.trial ≡ idle → IsPlanOrFail q a → T (not (opening_fits m q a))

-- A closing call: refused at the place after the last accepted step, at 1 if there was none.
abbrev pub Closes : Open → Result Refuted StillOpen → Type 0
Closes o (Ok f) = T o.emptied × (f.claim ≡ o.claim)
Closes o (Err e) = T (not o.emptied) × (e.session ≡ o) × (e.place ≡ suc o.last)

-- what a session comes to that is closed
abbrev pub closing : Open → Result Verdict SessionFault
closing o = cond o.emptied (Ok (verdict_for o.claim)) (Err (Unclosed (suc o.last)))

-- A whole run: opened, asked, closed.
abbrev pub Concludes : Problem → Answer → Memory → Meaning → Stream → List Reply → Result Verdict SessionFault → List Reply → Meaning → Stream → Type 0
Concludes q a k m s rs (Ok v) rs' m' s' =
    (end : Desk) × ((m.trial ≡ idle) × (plan_fault q a ≡ None) × T (opening_fits m q a) × Run k (desk_on (opens m q a) s) rs' end × (end.base ≡ m') × (end.source ≡ s')
    × T end.emptied × (v ≡ verdict_of q a))
Concludes q a k m s rs (Err (Unclosed p)) rs' m' s' =
    (end : Desk) × ((m.trial ≡ idle) × (plan_fault q a ≡ None) × T (opening_fits m q a) × Run k (desk_on (opens m q a) s) rs' end × (end.base ≡ m') × (end.source ≡ s')
    × T (not end.emptied) × (p ≡ suc end.accepted))
Concludes q a k m s rs (Err (Opening f)) rs' m' s' = Opens m q a (Err f) m' × (s' ≡ s) × (rs' ≡ rs)

-- A verdict is true.
abbrev pub TrueVerdict : Problem → Answer → Result Verdict SessionFault → Type 0
TrueVerdict q a (Ok v) = Means q a v
TrueVerdict q a (Err f) = Unit {0}

-- On a base with no trial a plan, or FAIL, with an opening that fits and a good certificate, asked up to its first empty clause, has its verdict.
abbrev pub Complete : Problem → Answer → Memory → Meaning → Stream → ℕ → Result Verdict SessionFault → Type 0
Complete q a k m s n r = m.trial ≡ idle → IsPlanOrFail q a → T (opening_fits m q a) → Good k (opens m q a) s.steps → up_to_empty s.steps ≤ n → r ≡ Ok (verdict_of q a)

-- and what a whole run leaves in memory, of n replies
abbrev pub RunLeaves : List ℤ → List ℕ → List Placed → ℕ → Result Verdict SessionFault → List ℤ → List ℕ → Type 0
RunLeaves ls hs ps n (Ok v) ls' hs' = LeavesAfter (memory_of ls hs) ps n ls hs ls' hs'
RunLeaves ls hs ps n (Err (Unclosed p)) ls' hs' = LeavesAfter (memory_of ls hs) ps n ls hs ls' hs'
RunLeaves ls hs ps n (Err (Opening f)) ls' hs' = (ls' ≡ ls) × (hs' ≡ hs)
