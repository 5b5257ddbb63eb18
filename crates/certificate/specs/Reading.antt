-- What a reading answers and leaves.
-- Memory: how many literals and hints the lent memory holds; memory_of: of lists; in_memory: whether a step fits it
-- literals_of, hints_of: the literals and the hints of a step
-- shape_of: how a step stands in memory; step_in: the step that stands in memory so
-- literals_in, hints_in: how many of them stand first
-- standing: numbers first in memory for so many of them, zeros after them
-- literals_kept, hints_kept: what the memory holds for a step, all zero unless it fits; shape_in: its shape, if it fits
-- literals_read, hints_read: what the memory holds after a reading, all zero unless a step was read
-- Holds, Leaves: that it holds this; Reads: the answer, and what the source still has after it
-- answered: the answer where no step is left
use Rattle.std.specs.Prelude.{◌≡◌, ℕ, ◌-◌, ◌≤◌, Bool, true, cond, not, ◌&&◌, T, List, [], ◌∷◌, ◌++◌, length, take, replicate, ℤ, pos, Some, None, Ok, Err, Option, Result, nat_le}
use Rattle.certificate.specs.declared.fault.SourceFault.{SourceFault}
use Rattle.certificate.specs.declared.fault.SourceFault.TheVariants.{Form, TooMany}
use Rattle.certificate.specs.declared.found.Shape.{Shape}
use Rattle.certificate.specs.declared.found.Shape.TheVariants.{Add, AddHinted, Delete}
use Rattle.certificate.specs.declared.found.Found.{Found}
use Rattle.certificate.specs.Stream.{Step, add, delete, Placed, Ending, finished, broken, Stream, on_top}

pub record Memory : Type 0 where
  pub literals : ℕ
  pub hints : ℕ

abbrev pub memory_of : List ℤ → List ℕ → Memory
memory_of ls hs = record { literals = length ls; hints = length hs }

abbrev pub in_memory : Memory → Step → Bool
in_memory k (add c None) = nat_le (length c) k.literals
in_memory k (add c (Some hs)) = nat_le (length c) k.literals && nat_le (length hs) k.hints
in_memory k (delete n) = true

abbrev pub literals_of : Step → List ℤ
literals_of (add c h) = c
literals_of (delete n) = []

abbrev pub hints_of : Step → List ℕ
hints_of (add c None) = []
hints_of (add c (Some hs)) = hs
hints_of (delete n) = []

abbrev pub shape_of : Step → Shape
shape_of (add c None) = Add (length c)
shape_of (add c (Some hs)) = AddHinted (length c) (length hs)
shape_of (delete n) = Delete n

abbrev pub literals_in : Shape → ℕ
literals_in (Add n) = n
literals_in (AddHinted n k) = n
literals_in (Delete n) = 0

abbrev pub hints_in : Shape → ℕ
hints_in (Add n) = 0
hints_in (AddHinted n k) = k
hints_in (Delete n) = 0

abbrev pub step_in : Shape → List ℤ → List ℕ → Step
step_in (Add n) ls hs = add (take n ls) None
step_in (AddHinted n k) ls hs = add (take n ls) (Some (take k hs))
step_in (Delete n) ls hs = delete n

abbrev pub standing : {X : Type 0} → X → ℕ → List X → List X
standing z n xs = xs ++ replicate (n - length xs) z

abbrev pub shape_in : Memory → Step → Option Shape
shape_in k t = cond (in_memory k t) (Some (shape_of t)) None

abbrev pub literals_kept : Memory → Step → List ℤ
literals_kept k t = standing (pos 0) k.literals (cond (in_memory k t) (literals_of t) [])

abbrev pub hints_kept : Memory → Step → List ℕ
hints_kept k t = standing 0 k.hints (cond (in_memory k t) (hints_of t) [])

pub record Holds (k : Memory) (t : Step) (ls : List ℤ) (hs : List ℕ) : Type 0 where
  pub literals : ls ≡ literals_kept k t
  pub hints : hs ≡ hints_kept k t

abbrev pub literals_read : Memory → List Placed → List ℤ
literals_read k [] = standing (pos 0) k.literals []
literals_read k (p ∷ ps) = literals_kept k p.step

abbrev pub hints_read : Memory → List Placed → List ℕ
hints_read k [] = standing 0 k.hints []
hints_read k (p ∷ ps) = hints_kept k p.step

pub record Leaves (k : Memory) (ps : List Placed) (ls : List ℤ) (hs : List ℕ) : Type 0 where
  pub literals : ls ≡ literals_read k ps
  pub hints : hs ≡ hints_read k ps

-- what the source had, the answer, what the source has after it, and the two memories then
abbrev pub Reads : Stream → Result (Option Found) SourceFault → Stream → List ℤ → List ℕ → Type 0
Reads s (Ok (Some g)) s' ls hs =
    (s ≡ on_top (record { place = g.place; step = step_in g.shape ls hs }) s')
    × (literals_in g.shape ≤ length ls)
    × (hints_in g.shape ≤ length hs)
Reads s (Ok None) s' ls hs = (s.steps ≡ []) × (s.ending ≡ finished) × (s' ≡ s)
Reads s (Err (Form p)) s' ls hs = (s.steps ≡ []) × (s.ending ≡ broken p) × (s' ≡ s)
Reads s (Err (TooMany p)) s' ls hs =
    (t : Step) × ((s ≡ on_top (record { place = p; step = t }) s') × T (not (in_memory (memory_of ls hs) t)))

abbrev pub answered : Ending → Result (Option Found) SourceFault
answered finished = Ok None
answered (broken p) = Err (Form p)
