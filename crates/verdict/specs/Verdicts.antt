-- The line that three files come to.
-- Rooms, rooms_of: how many rows, literals and hints the lent memory holds; memory_in: of these, what steps are read into
-- length_ok, lengths_ok: a file is not too long; none of them is, the problem first
-- answer_in: an answer that was read, in words; line_for, of_run: the line of a verdict, and what a session's end comes to
-- InSession: what a session on an answer comes to
-- OnPlan, OnAnswer, OnProblem, OnFiles: what follows on the plan check, the answer, the problem, the lengths
-- Judged: the line, or the first fault: file lengths, problem, answer, plan check, opening, steps; and the base after it
-- line_of, Comes: the line that is printed
-- ReadAs, PlanWith, Means: what it says in the subject's words
-- Completes: a good certificate has its line
use Rattle.std.specs.Prelude.{◌≡◌, ℕ, cond, T, List, [], ◌∷◌, length, ℤ, Some, None, Ok, Err, Option, Result, nat_le}
use Rattle.certificate.specs.Form.{certificate}
use Rattle.certificate.specs.Reading.{Memory}
use Rattle.certificate.specs.Stream.{Stream}
use Rattle.clauses.specs.ClauseBase.{Meaning, idle}
use Rattle.problem.specs.Answers.{Answered, failed, given, read_answer}
use Rattle.problem.specs.Cudf.{Problem, Chosen, PlanOverSets}
use Rattle.problem.specs.Drafts.{then}
use Rattle.problem.specs.PlanClauses.{plan_clauses, first_false}
use Rattle.problem.specs.Reading.{read_problem}
use Rattle.problem.specs.Sets.{set_of}
use Rattle.problem.specs.declared.fault.AnswerFault.{AnswerFault}
use Rattle.problem.specs.declared.fault.ProblemFault.{ProblemFault}
use Rattle.problem.specs.declared.rows.ConstraintRow.{ConstraintRow}
use Rattle.problem.specs.declared.rows.PackageRow.{PackageRow}
use Rattle.problem.specs.declared.standing.Standing.{Standing}
use Rattle.verdict.specs.Counted.{counts_of}
use Rattle.verdict.specs.Finding.{Finds}
use Rattle.verdict.specs.Law.{Good, verdict_of, Means as Says}
use Rattle.verdict.specs.Refusal.{refused}
use Rattle.verdict.specs.Session.{Answer, fail, set, IsPlanOrFail, opens, opening_fits}
use Rattle.verdict.specs.declared.fault.VerdictFault.{VerdictFault}
use Rattle.verdict.specs.declared.fault.VerdictFault.TheVariants.{TooLong, Problem as BadProblem, Answer as BadAnswer, NoPlan, Session}
use Rattle.verdict.specs.declared.counts.Counts.{Counts}
use Rattle.verdict.specs.declared.line.File.{File}
use Rattle.verdict.specs.declared.line.File.TheVariants.{Problem as InProblem, Answer as InAnswer, Certificate as InCertificate}
use Rattle.verdict.specs.declared.line.Line.{Line}
use Rattle.verdict.specs.declared.line.Line.TheVariants.{Plan, Optimal, Impossible, Refused}
use Rattle.verdict.specs.declared.outcome.RunFault.{RunFault}
use Rattle.verdict.specs.declared.outcome.Verdict.{Verdict}
use Rattle.verdict.specs.declared.outcome.Verdict.TheVariants.{Optimal as best, Impossible as none}

pub record Rooms : Type 0 where
  pub packages : ℕ
  pub constraints : ℕ
  pub table : ℕ
  pub literals : ℕ
  pub hints : ℕ

abbrev pub rooms_of : List PackageRow → List ConstraintRow → List Standing → List ℤ → List ℕ → Rooms
rooms_of ps cs ts ls hs = record { packages = length ps; constraints = length cs; table = length ts; literals = length ls; hints = length hs }

abbrev pub memory_in : Rooms → Memory
memory_in k = record { literals = k.literals; hints = k.hints }

-- the most bytes of a file
abbrev pub longest : ℕ
longest = 65536

abbrev pub length_ok : File → List ℕ → Result (Unit {0}) VerdictFault
length_ok file text = cond (nat_le (length text) longest) (Ok tt) (Err (TooLong file))

abbrev pub lengths_ok : List ℕ → List ℕ → List ℕ → Result (Unit {0}) VerdictFault
lengths_ok p a c = then (length_ok InProblem p) (λ _. then (length_ok InAnswer a) (λ _. length_ok InCertificate c))

abbrev pub answer_in : Answered → Answer
answer_in failed = fail
answer_in (given t) = set (set_of t)

abbrev pub line_for : Verdict → Line
line_for (best n) = Optimal n
line_for none = Impossible

abbrev pub of_run : Result Verdict RunFault → Result Line VerdictFault
of_run (Ok v) = Ok (line_for v)
of_run (Err f) = Err (Session f)

-- what a session on an answer comes to, with the steps of a certificate
abbrev pub InSession : Memory → Problem → Answer → List ℕ → Meaning → Result Line VerdictFault → Meaning → Type 0
InSession k q a c m r m' = (v : Result Verdict RunFault) × (left : Stream) × (Finds q a k m (certificate c) v m' left × (r ≡ of_run v))

abbrev pub OnPlan : Memory → Problem → Chosen → List ℕ → Option ℕ → Meaning → Result Line VerdictFault → Meaning → Type 0
OnPlan k q s c (Some n) m r m' = (r ≡ Err (NoPlan (record { clause = n }))) × (m' ≡ m)
OnPlan k q s [] None m r m' = (r ≡ Ok (Plan (counts_of q s))) × (m' ≡ m)
OnPlan k q s (b ∷ bs) None m r m' = InSession k q (set s) (b ∷ bs) m r m'

abbrev pub OnAnswer : Memory → Problem → List ℕ → Result Answered AnswerFault → Meaning → Result Line VerdictFault → Meaning → Type 0
OnAnswer k q c (Err f) m r m' = (r ≡ Err (BadAnswer f)) × (m' ≡ m)
OnAnswer k q c (Ok failed) m r m' = InSession k q fail c m r m'
OnAnswer k q c (Ok (given t)) m r m' = OnPlan k q (set_of t) c (first_false (set_of t) (plan_clauses q)) m r m'

abbrev pub OnProblem : Rooms → List ℕ → List ℕ → Result Problem ProblemFault → Meaning → Result Line VerdictFault → Meaning → Type 0
OnProblem k a c (Err f) m r m' = (r ≡ Err (BadProblem f)) × (m' ≡ m)
OnProblem k a c (Ok q) m r m' = OnAnswer (memory_in k) q c (read_answer q.packages k.table a) m r m'

abbrev pub OnFiles : Rooms → List ℕ → List ℕ → List ℕ → Result (Unit {0}) VerdictFault → Meaning → Result Line VerdictFault → Meaning → Type 0
OnFiles k p a c (Err f) m r m' = (r ≡ Err f) × (m' ≡ m)
OnFiles k p a c (Ok u) m r m' = OnProblem k a c (read_problem k.packages k.constraints p) m r m'

abbrev pub Judged : Rooms → List ℕ → List ℕ → List ℕ → Meaning → Result Line VerdictFault → Meaning → Type 0
Judged k p a c m r m' = OnFiles k p a c (lengths_ok p a c) m r m'

abbrev pub line_of : Result Line VerdictFault → Line
line_of (Ok l) = l
line_of (Err f) = Refused (refused f)

abbrev pub Comes : Rooms → List ℕ → List ℕ → List ℕ → Meaning → Line → Meaning → Type 0
Comes k p a c m l m' = (j : Result Line VerdictFault) × (Judged k p a c m j m' × (l ≡ line_of j))

-- the documents say a problem and an answer to it, of which something holds
abbrev pub ReadAs : Rooms → List ℕ → List ℕ → (Problem → Answer → Type 0) → Type 0
ReadAs k p a P = (q : Problem) × (x : Answered) × ((read_problem k.packages k.constraints p ≡ Ok q) × (read_answer q.packages k.table a ≡ Ok x) × P q (answer_in x))

-- a set that is a plan with these counts
abbrev pub PlanWith : Counts → Problem → Answer → Type 0
PlanWith n q fail = ⊥
PlanWith n q (set s) = PlanOverSets q s × (n ≡ counts_of q s)

abbrev pub Means : Rooms → List ℕ → List ℕ → Line → Type 0
Means k p a (Plan n) = ReadAs k p a (PlanWith n)
Means k p a (Optimal n) = ReadAs k p a (λ q x. Says q x (best n))
Means k p a Impossible = ReadAs k p a (λ q x. Says q x none)
Means k p a (Refused r) = Unit {0}

-- A plan, or FAIL, whose opening fits, with a good certificate.
abbrev pub Completes : Rooms → List ℕ → List ℕ → List ℕ → Meaning → Line → Type 0
Completes k p a c m l = (q : Problem) (x : Answered) → lengths_ok p a c ≡ Ok tt → read_problem k.packages k.constraints p ≡ Ok q → read_answer q.packages k.table a ≡ Ok x →
    m.trial ≡ idle → IsPlanOrFail q (answer_in x) → T (opening_fits m q (answer_in x)) → Good (memory_in k) (opens m q (answer_in x)) (certificate c).steps → l ≡ line_for (verdict_of q (answer_in x))
