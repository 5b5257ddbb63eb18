-- The bytes of the line that is printed.
-- file_name: the name of a file; number_and: a number in decimal digits, and a byte after it
-- pair: words, and then two numbers; line_bytes: the whole line
-- Writes: bytes stand first in memory, zeros after them; where there is no room for them, all is zero
use Rattle.std.specs.Prelude.{◌≡◌, ℕ, ◌-◌, ◌<◌, List, [], ◌∷◌, ◌++◌, length, replicate, Ok, Err, codes, decimal, Result}
use Rattle.verdict.specs.declared.line.File.{File}
use Rattle.verdict.specs.declared.line.File.TheVariants.{Problem, Answer, Certificate}
use Rattle.verdict.specs.declared.line.Line.{Line}
use Rattle.verdict.specs.declared.line.Line.TheVariants.{Plan, Optimal, Impossible, Refused}

abbrev pub file_name : File → List ℕ
file_name Problem = codes "problem"
file_name Answer = codes "answer"
file_name Certificate = codes "certificate"

abbrev pub number_and : ℕ → ℕ → List ℕ
number_and n end = decimal n ++ end ∷ []

abbrev pub pair : List ℕ → ℕ → ℕ → List ℕ
pair words a b = words ++ (number_and a 32 ++ number_and b 10)

abbrev pub line_bytes : Line → List ℕ
line_bytes (Plan k) = pair (codes "PLAN ") k.removed k.changed
line_bytes (Optimal k) = pair (codes "OPTIMAL ") k.removed k.changed
line_bytes Impossible = codes "IMPOSSIBLE" ++ 10 ∷ []
line_bytes (Refused r) = pair (codes "REFUSED " ++ (file_name r.file ++ 32 ∷ [])) r.place r.number

abbrev pub Writes : {F : Type 0} → List ℕ → ℕ → Result ℕ F → List ℕ → Type 0
Writes bytes room (Ok n) memory = (n ≡ length bytes) × (memory ≡ bytes ++ replicate (room - length bytes) 0)
Writes bytes room (Err e) memory = (room < length bytes) × (memory ≡ replicate room 0)
