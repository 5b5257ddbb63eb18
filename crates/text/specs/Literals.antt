-- Literals and clauses.
-- lit, neg: the literal of a variable, and its negative
-- variable_of: the variable of a literal; positive: whether it is no negative
-- Clause: its literals, in their order
-- Truth: a truth value for each variable; is_true, makes_true: a literal and a clause under it
use Rattle.std.specs.Prelude.{ℕ, suc, ◌-◌, Bool, true, false, not, List, ℤ, pos, negsuc}
use Rattle.text.specs.Lists.{some}

abbrev pub lit : ℕ → ℤ
lit v = pos v

abbrev pub neg : ℕ → ℤ
neg v = negsuc (v - 1)

abbrev pub variable_of : ℤ → ℕ
variable_of (pos v) = v
variable_of (negsuc k) = suc k

abbrev pub positive : ℤ → Bool
positive (pos v) = true
positive (negsuc k) = false

abbrev pub Clause : Type 0
Clause = List ℤ

abbrev pub Truth : Type 0
Truth = ℕ → Bool

abbrev pub is_true : Truth → ℤ → Bool
is_true s (pos v) = s v
is_true s (negsuc k) = not (s (suc k))

abbrev pub makes_true : Truth → Clause → Bool
makes_true s c = some (is_true s) c
