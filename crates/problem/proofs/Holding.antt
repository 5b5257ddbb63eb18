-- What holds of each row that was read holds of the first rows in memory.
use Rattle.std.proofs.Common.{ℕ, ◌<◌, ◌≤◌, List, length, get_or, take, subst, arith}
use Rattle.std.proofs.ByRecursion.{All-get_or}
use Rattle.std.proofs.lemmas.List.{get_or-take, length-take-le}
use Rattle.text.specs.Lists.{Each}

pub at_first : {X : Type 0} (P : X → Type 0) (xs : List X) (n k : ℕ) (d : X) → n ≤ length xs → Each P (take n xs) → k < n → P (get_or xs k d)
at_first P xs n k d le h lt = subst P (get_or-take n xs k d lt) (All-get_or P (take n xs) k d (omega (arith, length-take-le n xs le)) h)
