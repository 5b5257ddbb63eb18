-- Clauses that are handed to a sink, one after the other.
-- goes, stops: what one clause does to a sink that wants more, and to one that does not
-- Fed: all of some clauses were taken (Ok), or some at the front and then one that stopped it (Err)
-- Left: to feed what is left, from now on, is to feed the whole from the start
use Rattle.std.specs.Prelude.{◌≡◌, ◌⊎◌, List, [], ◌∷◌, Ok, Err, Result}
use Rattle.text.specs.Literals.{Clause}
use Rattle.problem.specs.declared.sink.Stopped.{Stopped}

module _ {S : Type 0} (goes stops : S → Clause → S → Type 0) where
  abbrev pub Fed : List Clause → Result (Unit {0}) Stopped → S → S → Type 0
  Fed [] (Ok u) s t = t ≡ s
  Fed [] (Err e) s t = ⊥
  Fed (c ∷ cs) (Ok u) s t = (m : S) × (goes s c m × Fed cs (Ok u) m t)
  Fed (c ∷ cs) (Err e) s t = stops s c t ⊎ ((m : S) × (goes s c m × Fed cs (Err e) m t))

  abbrev pub Left : List Clause → S → List Clause → S → Type 0
  Left whole start left now = (r : Result (Unit {0}) Stopped) (end : S) → Fed left r now end → Fed whole r start end
