-- Whether some member passes a test.
use Rattle.std.proofs.Common.{◌≡◌, Bool, true, false, ◌||◌, List, [], ◌∷◌, Option, sym, refl, ap, ◌∙◌}
use Rattle.std.specs.Fn.{Called}
use Rattle.std.specs.Iterator.{YieldsThen}
use Rattle.std.specs.List.{list_any, FoldsTo}
use Rattle.std.specs.Option.{MatchOption}
use denote.Param.Members.{Mut}
use Rattle.std.proofs.lemmas.Iterator.{YieldsList}
use Rattle.std.proofs.lemmas.Iterator.Search.{any_from_yields_List}
use Rattle.text.specs.Lists.{each, some}

-- what `any` answers
some_is_any : {X : Type 0} (t : X → Bool) (xs : List X) → some t xs ≡ list_any t xs
some_is_any t [] = refl
some_is_any t (x ∷ xs) = ap (λ b. t x || b) (some_is_any t xs)

module _ {S A B F : Type 0} {steps : S → Option A → S → Type 0} {v : A → B} {g : Mut F (A × Unit {0}) Bool} {s : S} {all : List B} where
  pub some_from_any : (test : B → Bool) (u : S) (f : F) (r : Bool) →
      (xs : List A) × (o : Option A) × (j : F) × YieldsThen steps s xs o u × FoldsTo (λ p x q. Called g p (x, tt) false q) f xs j × MatchOption o (r ≡ false) (λ x. (r ≡ true) × ((h : F) × Called g j (x, tt) true h)) →
      YieldsList steps v s all → ((x : A) (b : Bool) (q : F) → Called g f (x, tt) b q → (q ≡ f) × (b ≡ test (v x))) → r ≡ some test all
  some_from_any test u f r h y k = any_from_yields_List test u f r h y k ∙ sym (some_is_any test all)

-- a test on a list that is made from each member
pub some_of_each : {X Y : Type 0} (t : Y → Bool) (g : X → Y) (xs : List X) → some t (each g xs) ≡ some (λ x. t (g x)) xs
some_of_each t g [] = refl
some_of_each t g (x ∷ xs) = ap (λ b. t (g x) || b) (some_of_each t g xs)

pub or_none : (b : Bool) → (b || false) ≡ b
or_none true = refl
or_none false = refl
