-- What memory holds for a step, and the answer that follows.
use Rattle.std.proofs.Common.{◌≡◌, ℕ, ◌/◌, ◌<◌, ◌≤◌, true, false, ◌⊎◌, List, [], length, ℤ, pos, Some, None, refl, arith, w32, to_z}
use Rattle.std.proofs.lemmas.Bool.Decides.{nat_tests}
use Rattle.certificate.specs.declared.found.Shape.TheVariants.{AddHinted}
use Rattle.certificate.specs.Hinted.{words, hinted_addition}
use Rattle.certificate.specs.Stream.{Step}
use Rattle.certificate.specs.Reading.{Memory, in_memory, standing, shape_of, shape_in, Holds}
use Rattle.certificate.proofs.FourBytes.{length-words, length-each}

pub kept_none : (k : Memory) (t : Step) (ls : List ℤ) (hs : List ℕ) → in_memory k t ≡ false → ls ≡ standing (pos 0) k.literals [] → hs ≡ standing 0 k.hints [] → (None ≡ shape_in k t) × Holds k t ls hs
kept_none k t ls hs e p q = (rw e refl, record { literals = rw e p; hints = rw e q })

pub shape_kept : (k : Memory) (t : Step) → in_memory k t ≡ true → Some (shape_of t) ≡ shape_in k t
shape_kept k t e = rw e refl

pub words_in : (k : Memory) (ls hs : List ℕ) → length ls / 4 ≤ k.literals → length hs / 4 ≤ k.hints → in_memory k (hinted_addition ls hs) ≡ true
words_in k ls hs a b = rw (length-each (to_z w32) (words ls), length-words ls, length-words hs) (grind (arith, nat_tests))

pub words_out : (k : Memory) (ls hs : List ℕ) → (k.literals < length ls / 4) ⊎ ((length ls / 4 ≤ k.literals) × (k.hints < length hs / 4)) → in_memory k (hinted_addition ls hs) ≡ false
words_out k ls hs e = rw (length-each (to_z w32) (words ls), length-words ls, length-words hs) (grind (arith, nat_tests))

pub words_shape : (ls hs : List ℕ) → AddHinted (length ls / 4) (length hs / 4) ≡ shape_of (hinted_addition ls hs)
words_shape ls hs = rw (length-each (to_z w32) (words ls), length-words ls, length-words hs) refl
