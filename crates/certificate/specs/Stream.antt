-- What a certificate source still has to give.
-- Step: an addition, with its hints where it is hinted; a deletion of the clause with a number
-- Placed: a step at its place
-- Ending: the end, or a form that cannot be read, at its place
-- Stream: steps, and then an ending
-- on_top: a stream with a step more; ended, unreadable: a stream with no steps, one that cannot be read at a place
-- places: how many steps can have a place; while_places: what comes after so many steps, if one more can have a place
-- numbered: steps at the places after a number
-- or_unreadable, then: what an optional value gives
use Rattle.std.specs.Prelude.{ℕ, suc, cond, List, [], ◌∷◌, Some, None, Option, nat_lt}
use Rattle.text.specs.Literals.{Clause}

pub data Step : Type 0 where
  add : Clause → Option (List ℕ) → Step
  delete : ℕ → Step

pub record Placed : Type 0 where
  pub place : ℕ
  pub step : Step

pub data Ending : Type 0 where
  finished : Ending
  broken : ℕ → Ending

pub record Stream : Type 0 where
  pub steps : List Placed
  pub ending : Ending

abbrev pub on_top : Placed → Stream → Stream
on_top p s = record { steps = p ∷ s.steps; ending = s.ending }

abbrev pub ended : Ending → Stream
ended e = record { steps = []; ending = e }

abbrev pub unreadable : ℕ → Stream
unreadable p = ended (broken p)

abbrev pub places : ℕ
places = 4294967294

abbrev pub while_places : ℕ → Stream → Stream
while_places n s = cond (nat_lt n places) s (unreadable (suc places))

abbrev pub numbered : ℕ → List Step → List Placed
numbered n [] = []
numbered n (s ∷ ss) = record { place = suc n; step = s } ∷ numbered (suc n) ss

abbrev pub or_unreadable : {X : Type 0} → ℕ → Option X → (X → Stream) → Stream
or_unreadable p None f = unreadable p
or_unreadable p (Some x) f = f x

abbrev pub then : {X Y : Type 0} → Option X → (X → Option Y) → Option Y
then None f = None
then (Some x) f = f x
