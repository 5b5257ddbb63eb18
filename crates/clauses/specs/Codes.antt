-- A list's number for each literal, and which literal a true one makes false.
-- code_of, code_against: the number of a literal's list, and of its opposite's
-- Against: one is the opposite of the other; Hit: a literal, made true, makes one of the clause false
use Rattle.std.specs.Prelude.{◌≡◌, ℕ, ◌+◌, ◌*◌, ◌<◌, cond, not, length, ℤ, pos, slice_index_or}
use Rattle.text.specs.Literals.{Clause, variable_of, positive}

abbrev pub code_of : ℤ → ℕ
code_of l = 2 * variable_of l + cond (positive l) 0 1

abbrev pub code_against : ℤ → ℕ
code_against l = 2 * variable_of l + cond (positive l) 1 0

abbrev pub Against : ℤ → ℤ → Type 0
Against l m = (variable_of m ≡ variable_of l) × (positive m ≡ not (positive l))

abbrev pub Hit : ℤ → Clause → Type 0
Hit l c = (i : ℕ) × (i < length c) × Against l (slice_index_or c i (pos 0))
