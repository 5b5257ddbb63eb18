-- Tests as facts, and what holds of each member of a list.
use Rattle.std.proofs.Common.{◌≡◌, Bool, true, false, cond, ◌&&◌, ◌||◌, T, ◌⊎◌, List, [], ◌∷◌, ◌++◌, sym, refl, subst, inl, inr}
use Rattle.text.specs.Lists.{each, each_all, keep, some, every, Each}

pub true_from : (b : Bool) → T b → b ≡ true
true_from true t = refl
true_from false t = absurd t

pub holds_from : {b : Bool} → b ≡ true → T b
holds_from e = subst T (sym e) tt

pub and_left : (a b : Bool) → T (a && b) → T a
and_left true b t = tt
and_left false b t = t

pub and_right : (a b : Bool) → T (a && b) → T b
and_right true b t = t
and_right false b t = absurd t

pub and_both : (a b : Bool) → T a → T b → T (a && b)
and_both true b t u = u
and_both false b t u = t

pub or_cases : (a b : Bool) → T (a || b) → T a ⊎ T b
or_cases true b t = inl t
or_cases false b t = inr t

pub or_left : (a b : Bool) → T a → T (a || b)
or_left true b t = tt
or_left false b t = absurd t

pub or_right : (a b : Bool) → T b → T (a || b)
or_right true b t = tt
or_right false b t = t

-- whichever of two the test picks
pub from_cond : {R : Type 0} (b : Bool) (P Q : Type 0) → cond b P Q → (P → R) → (Q → R) → R
from_cond true P Q h f g = f h
from_cond false P Q h f g = g h

pub some_cases : {X : Type 0} (t : X → Bool) (xs ys : List X) → T (some t (xs ++ ys)) → T (some t xs) ⊎ T (some t ys)
some_cases t [] ys h = inr h
some_cases t (x ∷ xs) ys h = after (or_cases (t x) (some t (xs ++ ys)) h) (some_cases t xs ys)
  where
    after : T (t x) ⊎ T (some t (xs ++ ys)) → (T (some t (xs ++ ys)) → T (some t xs) ⊎ T (some t ys)) → T (t x || some t xs) ⊎ T (some t ys)
    after (inl u) ih = inl (or_left (t x) (some t xs) u)
    after (inr u) ih = next (ih u)
      where
        next : T (some t xs) ⊎ T (some t ys) → T (t x || some t xs) ⊎ T (some t ys)
        next (inl w) = inl (or_right (t x) (some t xs) w)
        next (inr w) = inr w

pub some_left : {X : Type 0} (t : X → Bool) (xs ys : List X) → T (some t xs) → T (some t (xs ++ ys))
some_left t [] ys h = absurd h
some_left t (x ∷ xs) ys h = after (or_cases (t x) (some t xs) h) (some_left t xs ys)
  where
    after : T (t x) ⊎ T (some t xs) → (T (some t xs) → T (some t (xs ++ ys))) → T (t x || some t (xs ++ ys))
    after (inl u) ih = or_left (t x) (some t (xs ++ ys)) u
    after (inr u) ih = or_right (t x) (some t (xs ++ ys)) (ih u)

pub some_right : {X : Type 0} (t : X → Bool) (xs ys : List X) → T (some t ys) → T (some t (xs ++ ys))
some_right t [] ys h = h
some_right t (x ∷ xs) ys h = or_right (t x) (some t (xs ++ ys)) (some_right t xs ys h)

pub each_from_every : {X : Type 0} (t : X → Bool) (xs : List X) → T (every t xs) → Each (λ x. T (t x)) xs
each_from_every t [] h = tt
each_from_every t (x ∷ xs) h = (and_left (t x) (every t xs) h, each_from_every t xs (and_right (t x) (every t xs) h))

pub every_from_each : {X : Type 0} (t : X → Bool) (xs : List X) → Each (λ x. T (t x)) xs → T (every t xs)
every_from_each t [] h = tt
every_from_each t (x ∷ xs) h = and_both (t x) (every t xs) h.0 (every_from_each t xs h.1)

pub each_since : {X : Type 0} (P : X → Type 0) → ((x : X) → P x) → (xs : List X) → Each P xs
each_since P f [] = tt
each_since P f (x ∷ xs) = (f x, each_since P f xs)

pub each_weaker : {X : Type 0} (P Q : X → Type 0) → ((x : X) → P x → Q x) → (xs : List X) → Each P xs → Each Q xs
each_weaker P Q f [] h = tt
each_weaker P Q f (x ∷ xs) h = (f x h.0, each_weaker P Q f xs h.1)

pub each_append : {X : Type 0} (P : X → Type 0) (xs ys : List X) → Each P xs → Each P ys → Each P (xs ++ ys)
each_append P [] ys h k = k
each_append P (x ∷ xs) ys h k = (h.0, each_append P xs ys h.1 k)

pub each-each : {X Y : Type 0} (P : Y → Type 0) (f : X → Y) (xs : List X) → Each (λ x. P (f x)) xs → Each P (each f xs)
each-each P f [] h = tt
each-each P f (x ∷ xs) h = (h.0, each-each P f xs h.1)

pub each_each_all : {X Y : Type 0} (P : Y → Type 0) (f : X → List Y) (xs : List X) → Each (λ x. Each P (f x)) xs → Each P (each_all f xs)
each_each_all P f [] h = tt
each_each_all P f (x ∷ xs) h = each_append P (f x) (each_all f xs) h.0 (each_each_all P f xs h.1)

pub each_keep : {X : Type 0} (P : X → Type 0) (t : X → Bool) (xs : List X) → Each P xs → Each P (keep t xs)
each_keep P t [] h = tt
each_keep P t (x ∷ xs) h =
    elim (t x) as (λ b. Each P (cond b (x ∷ keep t xs) (keep t xs))) [ true ↦ (h.0, each_keep P t xs h.1) | false ↦ each_keep P t xs h.1 ]

pub each_left : {X : Type 0} (P : X → Type 0) (xs ys : List X) → Each P (xs ++ ys) → Each P xs
each_left P [] ys h = tt
each_left P (x ∷ xs) ys h = (h.0, each_left P xs ys h.1)

pub each_right : {X : Type 0} (P : X → Type 0) (xs ys : List X) → Each P (xs ++ ys) → Each P ys
each_right P [] ys h = h
each_right P (x ∷ xs) ys h = each_right P xs ys h.1
