-- The text form: lines, each ended by the byte 10, of words parted by one space.
-- is_zero: whether a literal is 0, which ends the literals
-- last_word: no literals, if no word is left
-- literals: the literals that words write, with a 0 after the last and nothing after it; clause: at most 512 of them
-- deleted_number: the clause number that words of a deletion write
-- line_step: the step of a line
-- after_lines: what the bytes after the last line end mean; lines_of: the steps of lines, after so many others
-- textual: the meaning of all bytes
use Rattle.std.specs.Prelude.{ℕ, suc, Bool, false, cond, ◌&&◌, List, [], ◌∷◌, length, ℤ, pos, negsuc, Some, None, Option, ◌==◌, nat_le}
use Rattle.std.specs.Option.{option_map, option_or}
use Rattle.std.specs.Str.{bytes_eq}
use Rattle.text.specs.Decimal.{decimal, signed}
use Rattle.text.specs.Pieces.{pieces}
use Rattle.certificate.specs.Stream.{Step, add, delete, finished, Stream, on_top, ended, unreadable, or_unreadable, then, while_places}

abbrev pub is_zero : ℤ → Bool
is_zero (pos n) = n == 0
is_zero (negsuc n) = false

abbrev pub last_word : List (List ℕ) → Option (List ℤ)
last_word [] = Some []
last_word (w ∷ ws) = None

abbrev pub literals : List (List ℕ) → Option (List ℤ)
literals [] = None
literals (w ∷ ws) =
    then (signed 7 w) (λ z. cond (is_zero z) (last_word ws) (option_map (λ zs. z ∷ zs) (literals ws)))

abbrev pub clause : List (List ℕ) → Option (List ℤ)
clause ws = then (literals ws) (λ zs. cond (nat_le (length zs) 512) (Some zs) None)

abbrev pub deleted_number : List (List ℕ) → Option ℕ
deleted_number [] = None
deleted_number (d ∷ []) = None
deleted_number (d ∷ n ∷ []) = None
deleted_number (d ∷ n ∷ z ∷ []) = cond (bytes_eq d (100 ∷ []) && bytes_eq z (48 ∷ [])) (decimal 7 n) None
deleted_number (d ∷ n ∷ z ∷ w ∷ ws) = None

abbrev pub line_step : List ℕ → Option Step
line_step l = option_or (option_map delete (deleted_number (pieces 32 l))) (option_map (λ zs. add zs None) (clause (pieces 32 l)))

abbrev pub after_lines : ℕ → List ℕ → Stream
after_lines n [] = ended finished
after_lines n (b ∷ l) = while_places n (unreadable (suc n))

abbrev pub lines_of : ℕ → List (List ℕ) → Stream
lines_of n [] = ended finished
lines_of n (l ∷ []) = after_lines n l
lines_of n (l ∷ m ∷ ls) =
    while_places n (or_unreadable (suc n) (line_step l) (λ t. on_top (record { place = suc n; step = t }) (lines_of (suc n) (m ∷ ls))))

abbrev pub textual : List ℕ → Stream
textual bs = lines_of 0 (pieces 10 bs)
