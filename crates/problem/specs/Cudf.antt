-- An update problem, and what a plan of it is, stated over sets of packages.
-- holds: how a version stands to the bound of a constraint
-- Constraint, Package, Problem: a document in words; no_problem: the one without packages and requests
-- satisfies: whether a package satisfies a constraint
-- Chosen: a set of packages, by the numbers of their stanzas, from 1 in document order
-- names, installed_names, versions_of: the names, each once by its first stanza; those installed at the start; a name's stanzas
-- removed_count, changed_count: how many names a set removes and changes
-- PlanOverSets: what a plan is
use Rattle.std.specs.Prelude.{◌≡◌, ℕ, suc, Bool, true, false, cond, not, ◌&&◌, T, List, [], ◌∷◌, ◌==◌, nat_le, nat_lt}
use Rattle.std.specs.Str.{bytes_eq}
use Rattle.text.specs.Lists.{keep, some, how_many, Each}
use Rattle.text.specs.Literals.{Truth}
use Rattle.problem.specs.declared.rows.Relation.{Relation}
use Rattle.problem.specs.declared.rows.Relation.TheVariants.{Any, Equal, Differs, Greater, AtLeast, Less, AtMost}

abbrev pub holds : Relation → ℕ → ℕ → Bool
holds Any v w = true
holds Equal v w = v == w
holds Differs v w = not (v == w)
holds Greater v w = nat_lt w v
holds AtLeast v w = nat_le w v
holds Less v w = nat_lt v w
holds AtMost v w = nat_le v w

pub record Constraint : Type 0 where
  pub name : List ℕ
  pub relation : Relation
  pub bound : ℕ

pub record Package : Type 0 where
  pub name : List ℕ
  pub version : ℕ
  pub installed : Bool
  pub depends : List (List Constraint)
  pub conflicts : List Constraint

pub record Problem : Type 0 where
  pub packages : List Package
  pub install : List Constraint
  pub remove : List Constraint

abbrev pub satisfies : Constraint → Package → Bool
satisfies c p = bytes_eq c.name p.name && holds c.relation p.version c.bound

abbrev pub no_problem : Problem
no_problem = record { packages = []; install = []; remove = [] }

abbrev pub Chosen : Type 0
Chosen = Truth

-- packages with their numbers
pub record Numbered : Type 0 where
  pub number : ℕ
  pub stanza : Package

abbrev pub numbered : ℕ → List Package → List Numbered
numbered k [] = []
numbered k (p ∷ ps) = record { number = k; stanza = p } ∷ numbered (suc k) ps

abbrev pub stanzas : Problem → List Numbered
stanzas q = numbered 1 q.packages

-- the names, each once, in the order of their first stanza
abbrev pub seen_in : List ℕ → List (List ℕ) → Bool
seen_in n ns = some (bytes_eq n) ns

abbrev pub names_from : List (List ℕ) → List Package → List (List ℕ)
names_from seen [] = []
names_from seen (p ∷ ps) = cond (seen_in p.name seen) (names_from seen ps) (p.name ∷ names_from (p.name ∷ seen) ps)

abbrev pub names : Problem → List (List ℕ)
names q = names_from [] q.packages

abbrev pub versions_of : Problem → List ℕ → List Numbered
versions_of q n = keep (λ i. bytes_eq n i.stanza.name) (stanzas q)

abbrev pub installed_name : Problem → List ℕ → Bool
installed_name q n = some (λ i. i.stanza.installed) (versions_of q n)

abbrev pub installed_names : Problem → List (List ℕ)
installed_names q = keep (installed_name q) (names q)

abbrev pub is_removed : Problem → Chosen → List ℕ → Bool
is_removed q s n = installed_name q n && not (some (λ i. s i.number) (versions_of q n))

abbrev pub differs : Bool → Bool → Bool
differs true b = not b
differs false b = b

abbrev pub is_changed : Problem → Chosen → List ℕ → Bool
is_changed q s n = some (λ i. differs (s i.number) i.stanza.installed) (versions_of q n)

abbrev pub removed_count : Problem → Chosen → ℕ
removed_count q s = how_many (is_removed q s) (names q)

abbrev pub changed_count : Problem → Chosen → ℕ
changed_count q s = how_many (is_changed q s) (names q)

-- the stanzas in a set
abbrev pub chosen : Problem → Chosen → List Numbered
chosen q s = keep (λ i. s i.number) (stanzas q)

abbrev pub satisfies_one : List Constraint → Numbered → Bool
satisfies_one cs i = some (λ c. satisfies c i.stanza) cs

-- A plan: a set that meets the dependencies and has no conflict, nothing installed missing, nothing removed left.
pub record PlanOverSets (q : Problem) (s : Chosen) : Type 0 where
  -- each conjunct of each chosen stanza has a chosen stanza that satisfies one of its constraints
  pub depends : Each (λ i. Each (λ cs. T (some (satisfies_one cs) (chosen q s))) i.stanza.depends) (chosen q s)
  -- no chosen stanza but i itself satisfies a conflict of a chosen stanza i
  pub conflicts : Each (λ i. Each (λ c. Each (λ j. T (satisfies c j.stanza) → j.number ≡ i.number) (chosen q s)) i.stanza.conflicts) (chosen q s)
  -- each install item has a chosen stanza that satisfies it
  pub install : Each (λ c. T (some (λ j. satisfies c j.stanza) (chosen q s))) q.install
  -- no chosen stanza satisfies a remove item
  pub remove : Each (λ c. Each (λ j. T (satisfies c j.stanza) → ⊥) (chosen q s)) q.remove
