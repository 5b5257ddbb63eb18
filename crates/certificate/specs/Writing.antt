-- The writers of both forms, and what is read of what they write.
-- short_bytes, word_bytes: a number as two and as four bytes, the lowest first
-- record_bytes, hinted_bytes: a step, and steps with the trailer, in the hinted form
-- line_bytes, text_bytes: a step, and steps, in the text form
-- InRecord, InLine: the steps that a form can write; Writable: so many of them that each has a place
-- complete: steps at the places from 1 on, and an end
-- HintedBack, TextBack: what was written of steps is read as these steps
-- HintedFirst, TextFirst: whatever stands after it, these steps are read first
-- Held: the steps read stand written from the first byte on; where the end is read, nothing else does, and a fault has its place after them
-- HintedHeld, TextHeld: this, in either form; CertificateHeld, CertificateFirst: in the form that the last bytes say
use Rattle.std.specs.Prelude.{◌≡◌, ℕ, suc, ◌/◌, ◌%◌, ◌^◌, ◌<◌, ◌≤◌, ◌⊎◌, List, [], ◌∷◌, ◌++◌, length, Some, None, decimal, MatchBool, FitsSigned}
use Rattle.std.specs.Int.{w32}
use Rattle.std.proofs.Common.{of_z}
use Rattle.std.specs.Fmt.{signed_decimal}
use Rattle.text.specs.Lists.{each_all, Each}
use Rattle.text.specs.Literals.{variable_of}
use Rattle.certificate.specs.Form.{mark, is_hinted}
use Rattle.certificate.specs.Stream.{Step, add, delete, Placed, finished, broken, Stream, places, numbered}

abbrev pub short_bytes : ℕ → List ℕ
short_bytes n = n % 256 ∷ n / 256 ∷ []

abbrev pub word_bytes : ℕ → List ℕ
word_bytes n = n % 256 ∷ n / 256 % 256 ∷ n / 256 / 256 % 256 ∷ n / 256 / 256 / 256 ∷ []

abbrev pub record_bytes : Step → List ℕ
record_bytes (add c None) = []
record_bytes (add c (Some hs)) =
    97 ∷ (short_bytes (length c) ++ (each_all (λ z. word_bytes (of_z w32 z)) c ++ (short_bytes (length hs) ++ each_all word_bytes hs)))
record_bytes (delete n) = 100 ∷ word_bytes n

abbrev pub hinted_bytes : List Step → List ℕ
hinted_bytes ts = each_all record_bytes ts ++ (word_bytes (length ts) ++ mark)

abbrev pub line_bytes : Step → List ℕ
line_bytes (add c None) = each_all (λ z. signed_decimal z ++ 32 ∷ []) c ++ 48 ∷ []
line_bytes (add c (Some hs)) = []
line_bytes (delete n) = 100 ∷ 32 ∷ (decimal n ++ 32 ∷ 48 ∷ [])

abbrev pub text_bytes : List Step → List ℕ
text_bytes ts = each_all (λ t. line_bytes t ++ 10 ∷ []) ts

-- hinted additions of at most 512 literals; numbers that fit their bytes
abbrev pub InRecord : Step → Type 0
InRecord (add c None) = ⊥
InRecord (add c (Some hs)) = (length c ≤ 512) × Each (FitsSigned w32) c × (length hs < 2 ^ 16) × Each (λ n. n < 2 ^ 32) hs
InRecord (delete n) = n < 2 ^ 32

-- additions with no hints, of at most 512 literals, none of them 0; numbers of at most seven digits
abbrev pub InLine : Step → Type 0
InLine (add c None) = (length c ≤ 512) × Each (λ z. (0 < variable_of z) × (variable_of z < 10 ^ 7)) c
InLine (add c (Some hs)) = ⊥
InLine (delete n) = n < 10 ^ 7

abbrev pub Writable : (Step → Type 0) → List Step → Type 0
Writable P ts = Each P ts × (length ts ≤ places)

abbrev pub complete : List Step → Stream
complete ts = record { steps = numbered 0 ts; ending = finished }

abbrev pub HintedBack : List ℕ → Stream → Type 0
HintedBack bs s = (ts : List Step) → Writable InRecord ts → bs ≡ hinted_bytes ts → s ≡ complete ts

abbrev pub TextBack : List ℕ → Stream → Type 0
TextBack bs s = (ts : List Step) → Writable InLine ts → bs ≡ text_bytes ts → s ≡ complete ts

-- at least a trailer stands after the records
abbrev pub HintedFirst : List ℕ → Stream → Type 0
HintedFirst bs s = (ts : List Step) (r : List ℕ) → Writable InRecord ts → 8 ≤ length r → bs ≡ each_all record_bytes ts ++ r → (ps : List Placed) × (s.steps ≡ numbered 0 ts ++ ps)

abbrev pub TextFirst : List ℕ → Stream → Type 0
TextFirst bs s = (ts : List Step) (r : List ℕ) → Writable InLine ts → bs ≡ text_bytes ts ++ r → (ps : List Placed) × (s.steps ≡ numbered 0 ts ++ ps)

pub record Held (P : Step → Type 0) (At : ℕ → ℕ → Type 0) (one : Step → List ℕ) (all : List Step → List ℕ) (bs : List ℕ) (s : Stream) : Type 0 where
  pub ts : List Step
  pub steps : s.steps ≡ numbered 0 ts
  pub good : Each P ts
  pub left : List ℕ
  pub starts : bs ≡ each_all one ts ++ left
  pub whole : s.ending ≡ finished → bs ≡ all ts
  pub fault : (p : ℕ) → s.ending ≡ broken p → At (length ts) p

abbrev pub HintedHeld : List ℕ → Stream → Type 0
HintedHeld bs s = Held InRecord (λ n p. (p ≡ 0) ⊎ (p ≡ suc n)) record_bytes hinted_bytes bs s

abbrev pub TextHeld : List ℕ → Stream → Type 0
TextHeld bs s = Held InLine (λ n p. p ≡ suc n) (λ t. line_bytes t ++ 10 ∷ []) text_bytes bs s

abbrev pub CertificateHeld : List ℕ → Stream → Type 0
CertificateHeld bs s = MatchBool (is_hinted bs) (HintedHeld bs s) (TextHeld bs s)

abbrev pub CertificateFirst : List ℕ → Stream → Type 0
CertificateFirst bs s = MatchBool (is_hinted bs) (HintedFirst bs s) (TextFirst bs s)
