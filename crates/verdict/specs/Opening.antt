-- The variables and clauses that a session opens on.
-- register: the register (i, j) of a counter, i and j from 1
-- counter_input, counter: the clauses of a sequential counter: of one input, by its negative literal, and of all
-- first_removed, first_changed, choice, first_s, first_t: where the removed and changed variables, the choice and the registers of the two counters begin
-- inputs, all_names: how many names were installed at the start, and how many there are
-- removed_clauses, changed_clauses: what makes a removed or a changed variable true
-- at_most_r, fewer_r, fewer_c: at most r names are removed; fewer than r, or fewer than c are changed
-- opening, variables: all clauses on a plan that removes r names and changes c, and how many variables they have
use Rattle.std.specs.Prelude.{ℕ, zero, suc, ◌+◌, ◌-◌, ◌*◌, cond, List, [], ◌∷◌, ◌++◌, length, ℤ}
use Rattle.text.specs.Lists.{up_from, each}
use Rattle.text.specs.Literals.{Clause, lit, neg}
use Rattle.problem.specs.Cudf.{Problem, names, installed_names, versions_of}
use Rattle.problem.specs.PlanClauses.{plan_clauses}

-- register (i, j), i and j from 1, of a counter with limit K whose first register is variable base
abbrev pub register : ℕ → ℕ → ℕ → ℕ → ℕ
register base K i j = base + (i - 1) * K + (j - 1)

-- the i-th input of a counter up to K, by its negated literal
abbrev pub counter_input : ℕ → ℕ → ℤ → ℕ → List Clause
counter_input base zero not_x i = []
counter_input base (suc k) not_x zero = []
counter_input base (suc k) not_x (suc zero) = (not_x ∷ lit (register base (suc k) 1 1) ∷ []) ∷ []
counter_input base (suc k) not_x (suc (suc i)) =
    ((not_x ∷ lit (register base (suc k) (suc (suc i)) 1) ∷ []) ∷ [])
    ++ each (λ j. neg (register base (suc k) (suc i) j) ∷ lit (register base (suc k) (suc (suc i)) j) ∷ []) (up_from 1 (suc k))
    ++ each (λ j. not_x ∷ neg (register base (suc k) (suc i) j) ∷ lit (register base (suc k) (suc (suc i)) (suc j)) ∷ []) (up_from 1 k)

abbrev pub counter : ℕ → ℕ → ℕ → List ℕ → List Clause
counter base K i [] = []
counter base K i (x ∷ xs) = counter_input base K (neg x) i ++ counter base K (suc i) xs

-- all clauses of the opening on a plan with counts r and c, and V
module _ (q : Problem) (r c : ℕ) where
  abbrev pub first_removed : ℕ
  first_removed = suc (length q.packages)

  abbrev pub inputs : ℕ
  inputs = length (installed_names q)

  abbrev pub all_names : ℕ
  all_names = length (names q)

  abbrev pub first_changed : ℕ
  first_changed = first_removed + inputs

  abbrev pub choice : ℕ
  choice = first_changed + all_names

  abbrev pub first_s : ℕ
  first_s = suc choice

  abbrev pub first_t : ℕ
  first_t = first_s + inputs * suc r

  abbrev pub variables : ℕ
  variables = choice + inputs * suc r + all_names * c

  abbrev pub removed_clauses : ℕ → List (List ℕ) → List Clause
  removed_clauses v [] = []
  removed_clauses v (n ∷ ns) = (each (λ i. lit i.number) (versions_of q n) ++ lit v ∷ []) ∷ removed_clauses (suc v) ns

  abbrev pub changed_clauses : ℕ → List (List ℕ) → List Clause
  changed_clauses v [] = []
  changed_clauses v (n ∷ ns) = each (λ i. cond i.stanza.installed (lit i.number) (neg i.number) ∷ lit v ∷ []) (versions_of q n) ++ changed_clauses (suc v) ns

  abbrev pub at_most_r : ℕ → List Clause
  at_most_r zero = []
  at_most_r (suc n) = (neg (register first_s (suc r) (suc n) (suc r)) ∷ []) ∷ []

  abbrev pub fewer_r : ℕ → Clause
  fewer_r zero = neg choice ∷ []
  fewer_r (suc k) = neg choice ∷ neg (register first_s (suc r) inputs (suc k)) ∷ []

  abbrev pub fewer_c : ℕ → Clause
  fewer_c zero = lit choice ∷ []
  fewer_c (suc k) = lit choice ∷ neg (register first_t c all_names (suc k)) ∷ []

  abbrev pub opening : List Clause
  opening = plan_clauses q
      ++ removed_clauses first_removed (installed_names q)
      ++ changed_clauses first_changed (names q)
      ++ counter first_s (suc r) 1 (up_from first_removed inputs)
      ++ counter first_t c 1 (up_from first_changed all_names)
      ++ at_most_r inputs ++ fewer_r r ∷ fewer_c c ∷ []
