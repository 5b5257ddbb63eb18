-- Lists of constraints, and how they are put into rows.
-- all_of: what each piece is, if each is something
-- constraint_list: constraints joined by commas; conjunct_list: conjuncts joined by commas, each of constraints joined by bars
-- Asked: a row in words; Kept: the rows so far, and whether one found no place
-- limit_of: how many rows there can be, 1024 at most
-- put, stored, stored_all: one more row, those of a list, those of conjuncts
-- Stores: what a call that puts rows answers, by what they come to
-- once: what comes of a property, unless its stanza has it already
-- listed, conjoined: what a list comes to where so many constraints are there already: its members and how many are there then, or a fault
use Rattle.std.specs.Prelude.{◌≡◌, ℕ, ◌+◌, min, Bool, true, false, cond, List, [], ◌∷◌, ◌++◌, map, length, is_err, Some, None, Ok, Err, Option, Result, ◌==◌, nat_le, nat_lt}
use Rattle.text.specs.Pieces.{pieces}
use Rattle.text.specs.Rows.{items, room}
use Rattle.text.specs.declared.rows.Rows.{Rows}
use Rattle.problem.specs.Cudf.{Constraint}
use Rattle.problem.specs.Meaning.{constraint_of}
use Rattle.problem.specs.Words.{constraint}
use Rattle.problem.specs.declared.fault.ProblemFault.{ProblemFault}
use Rattle.problem.specs.declared.fault.ProblemFault.TheVariants.{Property, Value, TooMany}
use Rattle.problem.specs.declared.rows.ConstraintRow.{ConstraintRow}

abbrev pub then : {X Y : Type 0} → Option X → (X → Option Y) → Option Y
then None f = None
then (Some x) f = f x

abbrev pub all_of : {X : Type 0} → (List ℕ → Option X) → List (List ℕ) → Option (List X)
all_of f [] = Some []
all_of f (p ∷ ps) = then (f p) (λ a. then (all_of f ps) (λ bs. Some (a ∷ bs)))

abbrev pub constraint_list : List ℕ → Option (List Constraint)
constraint_list v = cond (length v == 0) (Some []) (all_of constraint (pieces 44 v))

abbrev pub conjunct_list : List ℕ → Option (List (List Constraint))
conjunct_list v = cond (length v == 0) (Some []) (all_of (λ p. all_of constraint (pieces 124 p)) (pieces 44 v))

abbrev pub once : {X Y : Type 0} → ℕ → Option X → Result Y ProblemFault → Result Y ProblemFault
once n (Some x) r = Err (Property n)
once n None r = r

abbrev pub listed : ℕ → ℕ → ℕ → Option (List Constraint) → Result (List Constraint × ℕ) ProblemFault
listed limit have n None = Err (Value n)
listed limit have n (Some cs) = cond (nat_le (have + length cs) limit) (Ok (cs, have + length cs)) (Err (TooMany n))

abbrev pub total : List (List Constraint) → ℕ
total [] = 0
total (g ∷ gs) = length g + total gs

abbrev pub conjoined : ℕ → ℕ → ℕ → Option (List (List Constraint)) → Result (List (List Constraint) × ℕ) ProblemFault
conjoined limit have n None = Err (Value n)
conjoined limit have n (Some gs) = cond (nat_le (have + total gs) limit) (Ok (gs, have + total gs)) (Err (TooMany n))

pub record Asked : Type 0 where
  pub constraint : Constraint
  pub last : Bool

pub record Kept : Type 0 where
  pub rows : List Asked
  pub lost : Bool

abbrev pub asked_of : List ℕ → ConstraintRow → Asked
asked_of text c = record { constraint = constraint_of text c; last = c.last }

abbrev pub kept : List ℕ → Rows ConstraintRow → Bool → Kept
kept text r f = record { rows = map (asked_of text) (items r); lost = f }

abbrev pub put : ℕ → Kept → Asked → Kept
put limit k a =
    cond (nat_lt (length k.rows) limit) (record { rows = k.rows ++ a ∷ []; lost = k.lost }) (record { rows = k.rows; lost = true })

abbrev pub limit_of : Rows ConstraintRow → ℕ
limit_of r = min 1024 (room r)

abbrev pub is_nil : {X : Type 0} → List X → Bool
is_nil [] = true
is_nil (x ∷ xs) = false

abbrev pub stored : ℕ → Kept → List (List ℕ) → Option Kept
stored limit k [] = Some k
stored limit k (p ∷ ps) = then (constraint p) (λ a. stored limit (put limit k (record { constraint = a; last = is_nil ps })) ps)

abbrev pub stored_all : ℕ → Kept → List (List ℕ) → Option Kept
stored_all limit k [] = Some k
stored_all limit k (p ∷ ps) = then (stored limit k (pieces 124 p)) (λ m. stored_all limit m ps)

abbrev pub Stores : {U F : Type 0} → List ℕ → Option Kept → Option (Result U F) → Rows ConstraintRow → Type 0
Stores text o None r = o ≡ None
Stores text o (Some placed) r = o ≡ Some (kept text r (is_err placed))
