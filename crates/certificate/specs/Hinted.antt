-- The hinted form: records, and after them their number and a mark of four bytes; the lowest byte first throughout.
-- short, word: the numbers of two and of four bytes; word_in: that of a list of four; words: the numbers of four bytes each
-- counted: the bytes of so many words as a count says that stands before them, at most a limit; and the bytes after them
-- hinted_addition: the addition that the bytes of its literals and of its hints write
-- addition_entry, deletion_entry: the step after its first byte, and the bytes after it; entry: the step that bytes begin with
-- concluded: what ends the records, by the number stated and their number; none is stated where the trailer is cut short
-- records_in, records: the steps in bytes, after so many others
-- stated: the number of records that a trailer states; hinted: the meaning of all bytes
use Rattle.std.specs.Prelude.{ℕ, zero, suc, ◌+◌, ◌-◌, ◌*◌, cond, ◌&&◌, List, [], ◌∷◌, length, take, drop, Some, None, Option, ◌==◌, nat_le, nat_lt, slice_index}
use Rattle.std.specs.Int.{w32}
use Rattle.std.proofs.Common.{to_z}
use Rattle.std.specs.Option.{option_map}
use Rattle.text.specs.Lists.{each}
use Rattle.certificate.specs.Stream.{Step, add, delete, Ending, finished, broken, Stream, on_top, ended, unreadable, or_unreadable, then, while_places}

abbrev pub short : ℕ → ℕ → ℕ
short a b = a + b * 256

abbrev pub word : ℕ → ℕ → ℕ → ℕ → ℕ
word a b c d = a + b * 256 + c * 65536 + d * 16777216

abbrev pub word_in : List ℕ → ℕ
word_in bs = word (slice_index bs 0) (slice_index bs 1) (slice_index bs 2) (slice_index bs 3)

abbrev pub words : List ℕ → List ℕ
words [] = []
words (a ∷ []) = []
words (a ∷ b ∷ []) = []
words (a ∷ b ∷ c ∷ []) = []
words (a ∷ b ∷ c ∷ d ∷ bs) = word a b c d ∷ words bs

abbrev pub counted : ℕ → List ℕ → Option (List ℕ × List ℕ)
counted most [] = None
counted most (a ∷ []) = None
counted most (a ∷ b ∷ bs) =
    cond (nat_le (short a b) most && nat_le (4 * short a b) (length bs)) (Some (take (4 * short a b) bs, drop (4 * short a b) bs)) None

abbrev pub hinted_addition : List ℕ → List ℕ → Step
hinted_addition ls hs = add (each (to_z w32) (words ls)) (Some (words hs))

abbrev pub addition_entry : List ℕ → Option (Step × List ℕ)
addition_entry bs =
    then (counted 512 bs) (λ p. option_map (λ q. (hinted_addition p.0 q.0, q.1)) (counted 65535 p.1))

abbrev pub deletion_entry : List ℕ → Option (Step × List ℕ)
deletion_entry [] = None
deletion_entry (a ∷ []) = None
deletion_entry (a ∷ b ∷ []) = None
deletion_entry (a ∷ b ∷ c ∷ []) = None
deletion_entry (a ∷ b ∷ c ∷ d ∷ bs) = Some (delete (word a b c d), bs)

abbrev pub entry : List ℕ → Option (Step × List ℕ)
entry [] = None
entry (b ∷ bs) = cond (b == 97) (addition_entry bs) (cond (b == 100) (deletion_entry bs) None)

abbrev pub concluded : Option ℕ → ℕ → Ending
concluded None n = broken 0
concluded (Some m) n = cond (m == n) finished (broken 0)

-- at most so many of them: as many as there are bytes are enough, since a record has a byte at least
abbrev pub records_in : ℕ → Option ℕ → ℕ → List ℕ → Stream
records_in zero o n bs = ended (concluded o n)
records_in (suc k) o n [] = ended (concluded o n)
records_in (suc k) o n (b ∷ bs) =
    while_places n (or_unreadable (suc n) (entry (b ∷ bs)) (λ e. on_top (record { place = suc n; step = e.0 }) (records_in k o (suc n) e.1)))

abbrev pub records : Option ℕ → ℕ → List ℕ → Stream
records o n bs = records_in (length bs) o n bs

abbrev pub stated : List ℕ → Option ℕ
stated [] = None
stated (a ∷ []) = None
stated (a ∷ b ∷ []) = None
stated (a ∷ b ∷ c ∷ []) = None
stated (a ∷ b ∷ c ∷ d ∷ bs) = Some (word a b c d)

abbrev pub hinted : List ℕ → Stream
hinted bs = cond (nat_lt (length bs) 8) (unreadable 0) (records (stated (drop (length bs - 8) bs)) 0 (take (length bs - 8) bs))
