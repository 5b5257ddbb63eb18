-- The calls that feed the opening.
-- Places: the variables of a layout are those of the problem
-- second_base: where the registers of the second counter begin; counters_of: the clauses of both
-- variables_on, clauses_on: what a session on a claim opens with; within: a claim with its counts no higher than 256
use Rattle.std.specs.Prelude.{◌≡◌, ℕ, zero, suc, ◌+◌, ◌-◌, ◌*◌, min, List, [], ◌∷◌, ◌++◌, length, ℤ}
use Rattle.text.specs.Lists.{up_from}
use Rattle.text.specs.Literals.{Clause, lit, neg}
use Rattle.problem.specs.Cudf.{Problem, names, installed_names}
use Rattle.problem.specs.PlanClauses.{plan_clauses}
use Rattle.verdict.specs.Opening.{register, counter, opening, variables}
use Rattle.verdict.specs.declared.layout.Layout.{Layout}
use Rattle.verdict.specs.declared.session.Claim.{Claim}
use Rattle.verdict.specs.declared.session.Claim.TheVariants.{Fail, Plan}

pub record Places (q : Problem) (l : Layout) : Type 0 where
  pub removed : l.removed ≡ suc (length q.packages)
  pub installed : l.installed ≡ length (installed_names q)
  pub names : l.names ≡ length (names q)

-- the counters and bounds by a layout
abbrev pub second_base : Layout → ℕ → ℕ
second_base l r = suc l.choice + l.installed * suc r

abbrev pub counters_of : Layout → ℕ → ℕ → List Clause
counters_of l r c = counter (suc l.choice) (suc r) 1 (up_from l.removed l.installed) ++ counter (second_base l r) c 1 (up_from l.changed l.names)

-- at_most: no more inputs of a counter than the limit less one; fewer: fewer than a count, by the first register of the last input, or a literal
abbrev pub at_most : ℕ → ℕ → ℕ → List Clause
at_most base K zero = []
at_most base K (suc n) = (neg (register base K (suc n) K) ∷ []) ∷ []

abbrev pub fewer : ℤ → ℕ → ℕ → Clause
fewer z row zero = z ∷ []
fewer z row (suc k) = z ∷ neg (row + k) ∷ []

-- bounds_of: the clauses that a better plan would have to meet, by a layout
abbrev pub bounds_of : Layout → ℕ → ℕ → List Clause
bounds_of l r c =
    at_most (l.choice + 1) (r + 1) l.installed
    ++ fewer (neg l.choice) (l.choice + 1 + (l.installed - 1) * (r + 1)) r ∷ fewer (lit l.choice) (l.choice + 1 + l.installed * (r + 1) + (l.names - 1) * c) c ∷ []

abbrev pub variables_on : Problem → Claim → ℕ
variables_on q Fail = length q.packages
variables_on q (Plan n) = variables q n.removed n.changed

abbrev pub clauses_on : Problem → Claim → List Clause
clauses_on q Fail = plan_clauses q
clauses_on q (Plan n) = opening q n.removed n.changed

abbrev pub within : Claim → Claim
within Fail = Fail
within (Plan n) = Plan (record { removed = min n.removed 256; changed = min n.changed 256 })
