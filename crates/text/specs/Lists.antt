-- Words on lists that the definitions of every crate share.
-- up_from: so many numbers from a first one
-- each, each_all: a list made from each member; the lists made from each member, joined
-- keep: the members that pass a test
-- some, every: whether one member passes, whether all do; how_many: how many do
-- Each: what holds of each member
use Rattle.std.specs.Prelude.{ℕ, zero, suc, Bool, true, false, cond, ◌&&◌, ◌||◌, List, [], ◌∷◌, map, filter}
use Rattle.std.specs.List.{flat_map, AllByRecursion}

abbrev pub up_from : ℕ → ℕ → List ℕ
up_from from zero = []
up_from from (suc n) = from ∷ up_from (suc from) n

abbrev pub each : {X Y : Type 0} → (X → Y) → List X → List Y
each f xs = map f xs

abbrev pub each_all : {X Y : Type 0} → (X → List Y) → List X → List Y
each_all f xs = flat_map f xs

abbrev pub keep : {X : Type 0} → (X → Bool) → List X → List X
keep t xs = filter t xs

abbrev pub some : {X : Type 0} → (X → Bool) → List X → Bool
some t [] = false
some t (x ∷ xs) = t x || some t xs

abbrev pub every : {X : Type 0} → (X → Bool) → List X → Bool
every t [] = true
every t (x ∷ xs) = t x && every t xs

abbrev pub how_many : {X : Type 0} → (X → Bool) → List X → ℕ
how_many t [] = 0
how_many t (x ∷ xs) = cond (t x) (suc (how_many t xs)) (how_many t xs)

abbrev pub Each : {X : Type 0} → (X → Type 0) → List X → Type 0
Each P xs = AllByRecursion P xs
