-- Rows of constraints while a document is read.
-- ok_mapped: an answer with what it holds in words
-- Grown: rows were put after those that were there, each good if those were, and no more than the limit
-- list_at, conjuncts_at: what a run holds in words, and how many rows there are
-- settled: the run that a reading comes to, or its fault
-- SpanOf: the run of the rows that were put after the others
use Rattle.std.specs.Prelude.{◌≡◌, ℕ, ◌+◌, ◌-◌, ◌≤◌, List, length, take, Some, None, Ok, Err, Option, Result}
use Rattle.text.specs.Lists.{Each}
use Rattle.text.specs.Rows.{items, Same}
use Rattle.text.specs.declared.rows.Rows.{Rows}
use Rattle.problem.specs.ConstraintLists.{limit_of}
use Rattle.problem.specs.Cudf.{Constraint}
use Rattle.problem.specs.Meaning.{list_of, conjuncts_of}
use Rattle.problem.specs.Rows.{ConstraintOk}
use Rattle.problem.specs.declared.fault.ProblemFault.{ProblemFault}
use Rattle.problem.specs.declared.fault.ProblemFault.TheVariants.{Value, TooMany}
use Rattle.problem.specs.declared.rows.ConstraintRow.{ConstraintRow}
use Rattle.problem.specs.declared.rows.Span.{Span}

abbrev pub ok_mapped : {X Y F : Type 0} → (X → Y) → Result X F → Result Y F
ok_mapped f (Ok x) = Ok (f x)
ok_mapped f (Err e) = Err e

pub record Grown (text : List ℕ) (r s : Rows ConstraintRow) : Type 0 where
  pub front : take (length (items r)) (items s) ≡ items r
  pub good : Each (ConstraintOk (length text)) (items r) → Each (ConstraintOk (length text)) (items s)
  pub few : length (items r) ≤ limit_of r → length (items s) ≤ limit_of s
  pub same : Same r s

abbrev pub list_at : List ℕ → Rows ConstraintRow → Span → List Constraint × ℕ
list_at text r s = (list_of text (items r) s, length (items r))

abbrev pub conjuncts_at : List ℕ → Rows ConstraintRow → Span → List (List Constraint) × ℕ
conjuncts_at text r s = (conjuncts_of text (items r) s, length (items r))

abbrev pub settled : {U F : Type 0} → ℕ → ℕ → ℕ → Option (Result U F) → Result Span ProblemFault
settled first count n None = Err (Value n)
settled first count n (Some (Err e)) = Err (TooMany n)
settled first count n (Some (Ok u)) = Ok (record { first = first; len = count - first })

pub record SpanOf (r s : Rows ConstraintRow) (x : Span) : Type 0 where
  pub first : x.first ≡ length (items r)
  pub end : x.first + x.len ≡ length (items s)
