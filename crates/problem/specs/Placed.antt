-- A constraint as a row: its name is a place in the document.
-- related_to: the row for a name and what follows it
-- Reads: what reading a constraint answers: nothing where it is none, else its row
use Rattle.std.specs.Prelude.{◌≡◌, ℕ, Bool, cond, List, length, drop, Some, None, Option, ◌==◌}
use Rattle.text.specs.Spaces.{unled}
use Rattle.text.specs.Word.{word_in}
use Rattle.text.specs.declared.word.Word.{Word}
use Rattle.problem.specs.Meaning.{constraint_of}
use Rattle.problem.specs.Rows.{ConstraintOk}
use Rattle.problem.specs.Words.{operator, version, constraint}
use Rattle.problem.specs.declared.rows.Relation.{Relation}
use Rattle.problem.specs.declared.rows.Relation.TheVariants.{Any}
use Rattle.problem.specs.declared.rows.ConstraintRow.{ConstraintRow}

abbrev pub asks : Word → Bool → Relation → Option ℕ → Option ConstraintRow
asks w last rel None = None
asks w last rel (Some v) = Some (record { name = w; relation = rel; version = v; last = last })

abbrev pub compared_by : Word → Bool → List ℕ → Option (Relation × ℕ) → Option ConstraintRow
compared_by w last rest None = None
compared_by w last rest (Some p) = asks w last p.0 (version (unled (drop p.1 rest)))

abbrev pub related_to : Word → Bool → List ℕ → Option ConstraintRow
related_to w last rest = cond (length rest == 0) (asks w last Any (Some 0)) (compared_by w last rest (operator rest))

abbrev pub Reads : List ℕ → Word → Bool → Option ConstraintRow → Type 0
Reads text part last None = constraint (word_in text part) ≡ None
Reads text part last (Some c) = (constraint (word_in text part) ≡ Some (constraint_of text c)) × (c.last ≡ last) × ConstraintOk (length text) c
