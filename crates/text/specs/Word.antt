-- A part of a text, by its place.
-- word_in: the bytes of a part, as far as the text goes
-- Inside: the part lies in a text of so many bytes
-- Cut: two parts, of the bytes before a place and of those after it
use Rattle.std.specs.Prelude.{◌≡◌, ℕ, ◌+◌, ◌≤◌, List, length, take, drop}
use Rattle.text.specs.declared.word.Word.{Word}

abbrev pub word_in : List ℕ → Word → List ℕ
word_in text w = take w.len (drop w.start text)

abbrev pub Inside : ℕ → Word → Type 0
Inside n w = w.start + w.len ≤ n

pub record Cut (text : List ℕ) (n : ℕ) (bytes : List ℕ) (p : Word × Word) : Type 0 where
  pub before : word_in text p.0 ≡ take n bytes
  pub after : word_in text p.1 ≡ drop (n + 1) bytes
  pub before_in : Inside (length text) p.0
  pub after_in : Inside (length text) p.1
