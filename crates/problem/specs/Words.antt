-- The words of a value: names, operators, versions, constraints.
-- name_byte: a letter, a digit, or one of + . / @ ( ) % -
-- is_name: one to 64 such bytes; name_len: how many stand at the front
-- operator: the operator at the front, and how many bytes it has
-- version: a number from 1 to 999999; constraint: a name, perhaps with an operator and a version
use Rattle.std.specs.Prelude.{ℕ, Bool, cond, ◌&&◌, ◌||◌, List, length, take, drop, Some, None, Option, ◌==◌, nat_le, slice_index}
use Rattle.text.specs.Decimal.{decimal}
use Rattle.text.specs.Spaces.{unled, trimmed}
use Rattle.text.specs.Span.{span}
use Rattle.problem.specs.Cudf.{Constraint}
use Rattle.problem.specs.declared.rows.Relation.{Relation}
use Rattle.problem.specs.declared.rows.Relation.TheVariants.{Any, Equal, Differs, Greater, AtLeast, Less, AtMost}

abbrev pub from_to : ℕ → ℕ → ℕ → Bool
from_to a z b = nat_le a b && nat_le b z

abbrev pub name_byte : ℕ → Bool
name_byte b =
    from_to 97 122 b || (from_to 65 90 b || (from_to 48 57 b || (b == 43 || (b == 46 || (b == 47 || (b == 64 || (b == 40 || (b == 41 || (b == 37 || b == 45)))))))))

abbrev pub name_len : List ℕ → ℕ
name_len bs = span name_byte bs

abbrev pub is_name : List ℕ → Bool
is_name t = from_to 1 64 (length t) && name_len t == length t

-- by the first two bytes: = ! > < and =
abbrev pub operator_at : ℕ → ℕ → Option (Relation × ℕ)
operator_at a b =
    cond (a == 61) (Some (Equal, 1))
    (cond (a == 33) (cond (b == 61) (Some (Differs, 2)) None)
    (cond (a == 62) (cond (b == 61) (Some (AtLeast, 2)) (Some (Greater, 1)))
    (cond (a == 60) (cond (b == 61) (Some (AtMost, 2)) (Some (Less, 1))) None)))

abbrev pub operator : List ℕ → Option (Relation × ℕ)
operator bs = operator_at (slice_index bs 0) (slice_index bs 1)

abbrev pub ranged : Option ℕ → Option ℕ
ranged None = None
ranged (Some n) = cond (from_to 1 999999 n) (Some n) None

abbrev pub version : List ℕ → Option ℕ
version bs = ranged (decimal 9 bs)

abbrev pub asked : List ℕ → Relation → Option ℕ → Option Constraint
asked name rel None = None
asked name rel (Some v) = Some (record { name = name; relation = rel; bound = v })

abbrev pub compared : List ℕ → List ℕ → Option (Relation × ℕ) → Option Constraint
compared name rest None = None
compared name rest (Some p) = asked name p.0 (version (unled (drop p.1 rest)))

-- after a name
abbrev pub related : List ℕ → List ℕ → Option Constraint
related name rest = cond (length rest == 0) (asked name Any (Some 0)) (compared name rest (operator rest))

abbrev pub named : List ℕ → Option Constraint
named t = cond (from_to 1 64 (name_len t)) (related (take (name_len t) t) (unled (drop (name_len t) t))) None

abbrev pub constraint : List ℕ → Option Constraint
constraint bs = named (trimmed bs)
