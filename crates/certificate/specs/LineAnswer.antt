-- What the reading of a line answers and leaves.
-- Pushed: how many literals a line has, and those of them that have a place in the memory
-- clause_answer, clause_kept: how many literals a line has, and these, if they fit so many places
-- line_answer: the shape of a line's step, if there is one and it fits
-- LineLeaves: what the memory holds then
use Rattle.std.specs.Prelude.{◌≡◌, ℕ, cond, List, [], length, take, ℤ, Some, None, Ok, Err, Option, Result, nat_le}
use Rattle.std.specs.Option.{ok_or}
use Rattle.certificate.specs.declared.found.Shape.{Shape}
use Rattle.certificate.specs.declared.line.Unread.{Unread}
use Rattle.certificate.specs.declared.line.Unread.TheVariants.{Form, TooMany}
use Rattle.certificate.specs.Lines.{clause}
use Rattle.certificate.specs.Reading.{Memory, shape_in, Holds, Leaves}
use Rattle.certificate.specs.Stream.{Step}

pub record Pushed (ws : List (List ℕ)) (room n : ℕ) (kept : List ℤ) : Type 0 where
  pub zs : List ℤ
  pub whole : clause ws ≡ Some zs
  pub many : n ≡ length zs
  pub first : kept ≡ take room zs

abbrev pub clause_answer : ℕ → Option (List ℤ) → Result ℕ Unread
clause_answer n None = Err Form
clause_answer n (Some zs) = cond (nat_le (length zs) n) (Ok (length zs)) (Err TooMany)

abbrev pub clause_kept : ℕ → Option (List ℤ) → List ℤ
clause_kept n None = []
clause_kept n (Some zs) = cond (nat_le (length zs) n) zs []

abbrev pub line_answer : Memory → Option Step → Result Shape Unread
line_answer k None = Err Form
line_answer k (Some t) = ok_or (shape_in k t) TooMany

abbrev pub LineLeaves : Memory → Option Step → List ℤ → List ℕ → Type 0
LineLeaves k None ls hs = Leaves k [] ls hs
LineLeaves k (Some t) ls hs = Holds k t ls hs
