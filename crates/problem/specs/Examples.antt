-- Worked examples.
-- Case: a problem, a set by the numbers of its stanzas, and what they come to
-- Stands: the plan clauses, the first false one and the two counts are as stated
-- cases: conflicting versions of `can` and the versions of `shift` that need them, and a ring of dependencies
use Rattle.std.specs.Prelude.{◌≡◌, ℕ, Bool, true, false, List, [], ◌∷◌, Some, None, codes, Option, nat_eq}
use Rattle.text.specs.Lists.{some}
use Rattle.text.specs.Literals.{Clause, lit, neg}
use Rattle.problem.specs.Cudf.{Constraint, Package, Problem, Chosen, removed_count, changed_count}
use Rattle.problem.specs.PlanClauses.{plan_clauses, first_false}
use Rattle.problem.specs.declared.rows.Relation.{Relation}
use Rattle.problem.specs.declared.rows.Relation.TheVariants.{Any, Equal, Greater, AtLeast}

pub record Case : Type 0 where
  pub problem : Problem
  pub chosen : List ℕ
  pub clauses : List Clause
  pub first : Option ℕ
  pub removed : ℕ
  pub changed : ℕ

abbrev pub among : List ℕ → Chosen
among vs v = some (nat_eq v) vs

pub record Stands (c : Case) : Type 0 where
  pub clauses : plan_clauses c.problem ≡ c.clauses
  pub first : first_false (among c.chosen) (plan_clauses c.problem) ≡ c.first
  pub removed : removed_count c.problem (among c.chosen) ≡ c.removed
  pub changed : changed_count c.problem (among c.chosen) ≡ c.changed

abbrev asks : List ℕ → Relation → ℕ → Constraint
asks n r v = record { name = n; relation = r; bound = v }

abbrev stanza : List ℕ → ℕ → Bool → List (List Constraint) → List Constraint → Package
stanza n v i ds cs = record { name = n; version = v; installed = i; depends = ds; conflicts = cs }

abbrev any_can : Constraint
any_can = asks (codes "can") Any 0

abbrev pub cans : Problem
cans = record {
  packages =
      stanza (codes "can") 1 true [] (any_can ∷ []) ∷ stanza (codes "can") 2 false [] (any_can ∷ []) ∷ stanza (codes "shift") 1 true ((asks (codes "can") Equal 1 ∷ []) ∷ []) []
      ∷ stanza (codes "shift") 2 false ((asks (codes "can") AtLeast 2 ∷ []) ∷ []) [] ∷ [];
  install = asks (codes "shift") Greater 1 ∷ [];
  remove = asks (codes "shift") Equal 1 ∷ [];
}

abbrev pub ring : Problem
ring = record {
  packages =
      stanza (codes "a") 1 false ((asks (codes "b") Any 0 ∷ []) ∷ []) (asks (codes "b") Any 0 ∷ []) ∷ stanza (codes "b") 1 false ((asks (codes "a") Any 0 ∷ []) ∷ []) []
      ∷ stanza (codes "g") 1 false ((asks (codes "a") Any 0 ∷ asks (codes "b") Any 0 ∷ []) ∷ []) [] ∷ [];
  install = asks (codes "g") Any 0 ∷ [];
  remove = [];
}

abbrev pub cans_clauses : List Clause
cans_clauses = (neg 1 ∷ neg 2 ∷ []) ∷ (neg 1 ∷ neg 2 ∷ []) ∷ (lit 1 ∷ neg 3 ∷ []) ∷ (lit 2 ∷ neg 4 ∷ []) ∷ (lit 4 ∷ []) ∷ (neg 3 ∷ []) ∷ []

abbrev pub ring_clauses : List Clause
ring_clauses = (neg 1 ∷ lit 2 ∷ []) ∷ (neg 1 ∷ neg 2 ∷ []) ∷ (lit 1 ∷ neg 2 ∷ []) ∷ (lit 1 ∷ lit 2 ∷ neg 3 ∷ []) ∷ (lit 3 ∷ []) ∷ []

abbrev pub cases : List Case
cases =
    record { problem = cans; chosen = 2 ∷ 4 ∷ []; clauses = cans_clauses; first = None; removed = 0; changed = 2 }
    ∷ record { problem = cans; chosen = 1 ∷ 3 ∷ []; clauses = cans_clauses; first = Some 5; removed = 0; changed = 0 }
    ∷ record { problem = cans; chosen = 2 ∷ []; clauses = cans_clauses; first = Some 5; removed = 1; changed = 2 }
    ∷ record { problem = ring; chosen = 3 ∷ []; clauses = ring_clauses; first = Some 4; removed = 0; changed = 1 } ∷ []
