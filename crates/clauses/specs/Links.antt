-- Lists in memory: a link is an entry's number and one, or 0 at the end.
-- On: the entry is on the list that starts at a link; Falling: the first n entries link to earlier ones
-- Upto, AllBelow: the first n numbers are at most m, are below m
use Rattle.std.specs.Prelude.{ℕ, suc, ◌<◌, ◌≤◌, List, slice_index}

pub data On (next : List ℕ) : ℕ → ℕ → Type 0 where
  here : {e : ℕ} → On next (suc e) e
  there : {i e : ℕ} → On next (slice_index next i) e → On next (suc i) e

abbrev pub Falling : List ℕ → ℕ → Type 0
Falling next n = (i : ℕ) → i < n → slice_index next i ≤ i

abbrev pub Upto : List ℕ → ℕ → ℕ → Type 0
Upto xs n m = (k : ℕ) → k < n → slice_index xs k ≤ m

abbrev pub AllBelow : List ℕ → ℕ → ℕ → Type 0
AllBelow xs n m = (k : ℕ) → k < n → slice_index xs k < m
