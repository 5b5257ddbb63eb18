-- Clauses of the numbers of a range, fed one number after another.
use Rattle.std.proofs.Common.{◌≡◌, ℕ, suc, ◌+◌, ◌-◌, ◌<◌, List, [], ◌∷◌, Ok, Err, sym, ap, ◌∙◌, subst, arith}
use Rattle.std.specs.Result.{IsErr}
use Rattle.text.specs.Lists.{each, each_all, up_from}
use Rattle.text.specs.Literals.{Clause}
use Rattle.problem.specs.Feeding.{Fed, Left}
use Rattle.problem.specs.declared.sink.Stopped.{Stopped}
use Rattle.problem.proofs.Feeds.{Taken, left_more, left_stop, fed_one}

pub range_more : (a n i : ℕ) → i < n → up_from (a + i) (n - i) ≡ (a + i) ∷ up_from (a + (i + 1)) (n - (i + 1))
range_more a n i l =
    let e : n - i ≡ suc (n - (i + 1)) = omega arith in
    let f : suc (a + i) ≡ a + (i + 1) = omega arith in
    ap (up_from (a + i)) e ∙ ap (λ b. (a + i) ∷ up_from b (n - (i + 1))) f

module _ {S : Type 0} (goes stops : S → Clause → S → Type 0) where
  -- a clause of each number, as the sink took it
  module _ (f : ℕ → Clause) (whole : List Clause) (start s t : S) (a n i : ℕ) (c : Clause) where
    pub range_took : i < n → Left goes stops whole start (each f (up_from (a + i) (n - i))) s → c ≡ f (a + i) → goes s c t → Left goes stops whole start (each f (up_from (a + (i + 1)) (n - (i + 1)))) t
    range_took l k e h =
        left_more goes stops whole (f (a + i) ∷ []) (each f (up_from (a + (i + 1)) (n - (i + 1)))) start s t (subst (λ xs. Left goes stops whole start (each f xs) s) (range_more a n i l) k)
        (fed_one goes stops _ c (Ok tt) s t (ap (λ y. y ∷ []) (sym e)) h)

    pub range_stopped : (w : Stopped) (r : Taken) → IsErr r → i < n → Left goes stops whole start (each f (up_from (a + i) (n - i))) s → c ≡ f (a + i) → stops s c t → Fed goes stops whole r start t
    range_stopped w r j l k e h =
        left_stop goes stops whole (f (a + i) ∷ []) (each f (up_from (a + (i + 1)) (n - (i + 1)))) w r start s t (subst (λ xs. Left goes stops whole start (each f xs) s) (range_more a n i l) k) j
        (fed_one goes stops _ c (Err w) s t (ap (λ y. y ∷ []) (sym e)) h)

  -- the same where a number has any clauses
  module _ (f : ℕ → List Clause) (whole : List Clause) (start s t : S) (a n i k : ℕ) (e : k ≡ a + i) where
    pub range_fed : i < n → Left goes stops whole start (each_all f (up_from (a + i) (n - i))) s → Fed goes stops (f k) (Ok tt) s t → Left goes stops whole start (each_all f (up_from (a + (i + 1)) (n - (i + 1)))) t
    range_fed l j h =
        left_more goes stops whole (f (a + i)) (each_all f (up_from (a + (i + 1)) (n - (i + 1)))) start s t (subst (λ xs. Left goes stops whole start (each_all f xs) s) (range_more a n i l) j) (subst (λ m. Fed goes stops (f m) (Ok tt) s t) e h)

    pub range_left : (w : Stopped) (r : Taken) → IsErr r → i < n → Left goes stops whole start (each_all f (up_from (a + i) (n - i))) s → Fed goes stops (f k) (Err w) s t → Fed goes stops whole r start t
    range_left w r x l j h =
        left_stop goes stops whole (f (a + i)) (each_all f (up_from (a + (i + 1)) (n - (i + 1)))) w r start s t (subst (λ xs. Left goes stops whole start (each_all f xs) s) (range_more a n i l) j) x (subst (λ m. Fed goes stops (f m) (Err w) s t) e h)
