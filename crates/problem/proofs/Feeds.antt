-- Feeding one list of clauses after another.
use Rattle.std.proofs.Common.{arith, ◌≡◌, ℕ, ◌+◌, ◌<◌, ◌≤◌, List, [], ◌∷◌, ◌++◌, length, get_or, drop, Ok, Err, Result, MatchResult, sym, refl, subst, inl, inr}
use Rattle.std.specs.Result.{IsErr}
use Rattle.std.proofs.lemmas.List.{drop_more, drop_all}
use Rattle.std.proofs.lemmas.Bool.{false≢true}
use Rattle.text.specs.Lists.{each_all}
use Rattle.text.specs.Literals.{Clause}
use Rattle.problem.specs.Feeding.{Fed, Left}
use Rattle.problem.specs.declared.sink.Stopped.{Stopped}

abbrev pub Taken : Type 0
Taken = Result (Unit {0}) Stopped

module _ {S : Type 0} (goes stops : S → Clause → S → Type 0) where
  pub fed_on : (xs ys : List Clause) (r : Taken) (s m t : S) → Fed goes stops xs (Ok tt) s m → Fed goes stops ys r m t → Fed goes stops (xs ++ ys) r s t
  fed_on [] ys r s m t e h = subst (λ u. Fed goes stops ys r u t) e h
  fed_on (x ∷ xs) ys (Ok u) s m t f h = (f.0, (f.1.0, fed_on xs ys (Ok u) f.0 m t f.1.1 h))
  fed_on (x ∷ xs) ys (Err e) s m t f h = inr (f.0, (f.1.0, fed_on xs ys (Err e) f.0 m t f.1.1 h))

  -- a stop of the first is a stop of both
  pub fed_stop : (xs ys : List Clause) (e : Stopped) (r : Taken) (s t : S) → IsErr r → Fed goes stops xs (Err e) s t → Fed goes stops (xs ++ ys) r s t
  fed_stop xs ys e (Ok u) s t k f = absurd (false≢true k)
  fed_stop [] ys e (Err w) s t k f = absurd f
  fed_stop (x ∷ xs) ys e (Err w) s t k (inl h) = inl h
  fed_stop (x ∷ xs) ys e (Err w) s t k (inr h) = inr (h.0, (h.1.0, fed_stop xs ys e (Err w) h.0 t k h.1.1))

  -- clauses under another form
  pub fed_as : (xs ys : List Clause) (r : Taken) (s t : S) → xs ≡ ys → Fed goes stops xs r s t → Fed goes stops ys r s t
  fed_as xs ys r s t e = subst (λ zs. Fed goes stops zs r s t) e

  pub fed_on_as : (xs ys xs' ys' : List Clause) (r : Taken) (s m t : S) → xs ≡ xs' → ys ≡ ys' → Fed goes stops xs (Ok tt) s m → Fed goes stops ys r m t → Fed goes stops (xs' ++ ys') r s t
  fed_on_as xs ys xs' ys' r s m t e f h k = fed_on xs' ys' r s m t (fed_as xs xs' (Ok tt) s m e h) (fed_as ys ys' r m t f k)

  pub fed_stop_as : (xs xs' ys : List Clause) (e : Stopped) (r : Taken) (s t : S) → xs ≡ xs' → IsErr r → Fed goes stops xs (Err e) s t → Fed goes stops (xs' ++ ys) r s t
  fed_stop_as xs xs' ys e r s t f k h = fed_stop xs' ys e r s t k (fed_as xs xs' (Err e) s t f h)

  pub fed_none : (cs : List Clause) (s : S) → cs ≡ [] → Fed goes stops cs (Ok tt) s s
  fed_none cs s e = subst (λ ds. Fed goes stops ds (Ok tt) s s) (sym e) refl

  pub fed_one : (cs : List Clause) (c : Clause) (r : Taken) (s t : S) → cs ≡ c ∷ [] → MatchResult r (λ _. goes s c t) (λ _. stops s c t) → Fed goes stops cs r s t
  fed_one cs c r s t e h = subst (λ ds. Fed goes stops ds r s t) (sym e) (one r h)
    where
      one : (b : Taken) → MatchResult b (λ _. goes s c t) (λ _. stops s c t) → Fed goes stops (c ∷ []) b s t
      one (Ok u) g = (t, (g, refl))
      one (Err e) g = inl g

  -- the steps of a loop
  pub left_more : (whole xs ys : List Clause) (start s t : S) → Left goes stops whole start (xs ++ ys) s → Fed goes stops xs (Ok tt) s t → Left goes stops whole start ys t
  left_more whole xs ys start s t k f r end h = k r end (fed_on xs ys r s t end f h)

  pub left_stop : (whole xs ys : List Clause) (e : Stopped) (r : Taken) (start s t : S) → Left goes stops whole start (xs ++ ys) s → IsErr r → Fed goes stops xs (Err e) s t → Fed goes stops whole r start t
  left_stop whole xs ys e r start s t k j f = k r t (fed_stop xs ys e r s t j f)

  pub left_all : (whole : List Clause) (start s : S) → Left goes stops whole start [] s → Fed goes stops whole (Ok tt) start s
  left_all whole start s k = k (Ok tt) s refl

  -- nothing is left of what the clauses are made of
  pub left_none : {X : Type 0} (f : List X → List Clause) (whole : List Clause) (start s : S) (xs : List X) → length xs ≡ 0 → f [] ≡ [] → Left goes stops whole start (f xs) s → Fed goes stops whole (Ok tt) start s
  left_none f whole start s [] e z k = left_all whole start s (subst (λ cs. Left goes stops whole start cs s) z k)
  left_none f whole start s (x ∷ xs) e z k = absurd (omega (arith, e))

  -- the same over a list of which each member has clauses
  module _ {X : Type 0} (f : X → List Clause) (whole : List Clause) (start s t : S) where
    module _ (xs ys : List X) (x : X) (z : xs ≡ x ∷ ys) (k : Left goes stops whole start (each_all f xs) s) where
      pub next_more : Fed goes stops (f x) (Ok tt) s t → Left goes stops whole start (each_all f ys) t
      next_more = left_more whole (f x) (each_all f ys) start s t (subst (λ zs. Left goes stops whole start (each_all f zs) s) z k)

      pub next_stop : (e : Stopped) (r : Taken) → IsErr r → Fed goes stops (f x) (Err e) s t → Fed goes stops whole r start t
      next_stop e r = left_stop whole (f x) (each_all f ys) e r start s t (subst (λ zs. Left goes stops whole start (each_all f zs) s) z k)

    module _ (xs : List X) (i : ℕ) (d : X) where
      pub walk_more : i < length xs → Left goes stops whole start (each_all f (drop i xs)) s → Fed goes stops (f (get_or xs i d)) (Ok tt) s t → Left goes stops whole start (each_all f (drop (i + 1) xs)) t
      walk_more l k = next_more (drop i xs) (drop (i + 1) xs) (get_or xs i d) (drop_more xs i d l) k

      pub walk_stop : (e : Stopped) (r : Taken) → i < length xs → Left goes stops whole start (each_all f (drop i xs)) s → IsErr r → Fed goes stops (f (get_or xs i d)) (Err e) s t → Fed goes stops whole r start t
      walk_stop e r l k = next_stop (drop i xs) (drop (i + 1) xs) (get_or xs i d) (drop_more xs i d l) k e r

  pub walk_all : {X : Type 0} (f : X → List Clause) (whole : List Clause) (start s : S) (xs : List X) (i : ℕ) → length xs ≤ i → Left goes stops whole start (each_all f (drop i xs)) s → Fed goes stops whole (Ok tt) start s
  walk_all f whole start s xs i l k = left_all whole start s (subst (λ ys. Left goes stops whole start (each_all f ys) s) (drop_all i xs l) k)
