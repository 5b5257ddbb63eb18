-- What the calls on the common part of every base leave.
use Rattle.std.proofs.Common.{◌≡◌, ℕ, ◌+◌, ◌-◌, ◌<◌, Bool, true, not, List, [], ◌∷◌, length, get_or, take, reverse, set, ℤ, pos, is_some, Some, None, Ok, Option, sym, refl, ap, ◌∙◌, subst, arith, w32, SFits, to_z, of_z}
use Rattle.std.proofs.lemmas.Int.{to_z-of_z}
use Rattle.std.proofs.lemmas.List.{take_more, reverse-append, length-reverse, get_or-reverse, get_or_default}
use Rattle.text.specs.Literals.{Clause, variable_of, positive}
use Rattle.text.proofs.Members.{holds_from}
use Rattle.clauses.specs.Propagation.{Values, set_false, denied, HeldAt, Unit'}
use Rattle.clauses.specs.ClauseBase.{Meaning, Trial, running, is_live, with_deleted, with_trial}
use Rattle.clauses.specs.Calls.{Deletes, Hints}
use Rattle.clauses.specs.Cells.{values_of, Placed}
use Rattle.clauses.specs.Status.{status_from}
use Rattle.clauses.specs.Rows.{row_at}
use Rattle.clauses.specs.Stored.{held}
use Rattle.clauses.specs.Finding.{Found, TakenOut}
use Rattle.clauses.specs.Events.{clause_at}
use Rattle.clauses.specs.Common.{trial_of, room_of, meaning_of, Steady}
use Rattle.clauses.specs.Trying.{Followed}
use Rattle.clauses.specs.declared.common.Common.{Common}
use Rattle.clauses.specs.declared.store.Store.{Store}
use Rattle.clauses.specs.declared.phase.Phase.TheVariants.{Idle, Open, Answered}
use Rattle.clauses.specs.declared.scan.Status.TheVariants.{Conflict as Conflicting, Forced, Other}
use Rattle.clauses.specs.declared.fault.Hinted.{Hinted}
use Rattle.clauses.specs.declared.fault.Hinted.TheVariants.{Conflict, Useless, Unit as OneLeft}
use Rattle.clauses.proofs.Theory.{no_conflict, settled_unit}
use Rattle.clauses.proofs.Memory.{sound_of, values_write, values_set}
use Rattle.clauses.proofs.Statuses.{means_of}
use Rattle.clauses.proofs.Keeping.{live_at}
use Rattle.clauses.proofs.OneRow.{at_row, unit_holds}

pub meaning_is : (d : Common) (m : Meaning) → d.store.variables ≡ m.variables → held d.store ≡ m.live → d.store.next ≡ m.next → room_of d ≡ m.room → trial_of d.phase d.values.cells.now ≡ m.trial → meaning_of d ≡ m
meaning_is d m v l n r t = rw (v, l, n, r, t)

pub room_same : (c d : Common) → Steady c d → room_of d ≡ room_of c
room_same c d s = rw (s.rows, s.literals, s.cells)

pub deleted : (c d : Common) (n k : ℕ) → c.phase ≡ Idle → k < c.store.count → (row_at c.store.rows.now k).number ≡ n → (row_at c.store.rows.now k).live ≡ true → TakenOut c.store d.store k → d.values.cells.now ≡ c.values.cells.now → d.phase ≡ c.phase → Steady c d → Deletes (meaning_of c) n (Ok tt) (meaning_of d)
deleted c d n k p lt num live t cells phase s =
    let at : HeldAt (held c.store) n (clause_at c.store k) = subst (λ (z : ℕ). HeldAt (held c.store) z (clause_at c.store k)) num (at_row c.store k (clause_at c.store k) refl lt (sound_of c.store) live) in (
      rw p,
      holds_from (live_at (held c.store) n (clause_at c.store k) at),
      meaning_is d (with_deleted (meaning_of c) n) t.kept.variables (t.clauses live ∙ rw num) t.next (room_same c d s) (rw (cells, phase)),
    )

-- what a live clause says
module _ (c d : Common) (n k : ℕ) (p : c.phase ≡ Open) (lt : k < c.store.count) (num : (row_at c.store.rows.now k).number ≡ n) (live : (row_at c.store.rows.now k).live ≡ true) (same : d.store ≡ c.store) (s : Steady c d) where
  at : HeldAt (held c.store) n (clause_at c.store k)
  at = subst (λ (z : ℕ). HeldAt (held c.store) z (clause_at c.store k)) num (at_row c.store k (clause_at c.store k) refl lt (sound_of c.store) live)

  rest : (t : Trial) → trial_of d.phase d.values.cells.now ≡ t → meaning_of d ≡ with_trial (meaning_of c) (meaning_of d).trial
  rest t e = meaning_is d (with_trial (meaning_of c) (meaning_of d).trial) (rw same) (rw same) (rw same) (room_same c d s) refl

  pub said_conflict : d.phase ≡ Answered → Followed c.values.cells.now d.values.cells.now (clause_at c.store k) Conflict → Hints (meaning_of c) n (Ok Conflict) (meaning_of d)
  said_conflict q f = (rw p (clause_at c.store k, (at, f, rw q)), rest _ refl)

  pub said_open : (h : Hinted) → (h ≡ Conflict → ⊥) → d.phase ≡ Open → Followed c.values.cells.now d.values.cells.now (clause_at c.store k) h → Hints (meaning_of c) n (Ok h) (meaning_of d)
  said_open OneLeft other q f = (rw p (clause_at c.store k, f.0, (at, f.1.0, rw q (ap running f.1.1))), rest _ refl)
  said_open Conflict other q f = absurd (other refl)
  said_open Useless other q f = (rw p (clause_at c.store k, (at, (λ h. no_conflict (values_of c.values.cells.now) (clause_at c.store k) h f.0), settled_unit (values_of c.values.cells.now) (clause_at c.store k) f.0, rw (q, f.1))), rest _ refl)

-- a literal met from the last one on has a cell
pub placed_back : (c : Clause) (m n : ℕ) (l : ℤ) → Placed c m → n < length (reverse c) → l ≡ get_or (reverse c) n l → variable_of l < m
placed_back c m n l h lt is =
    let r : n < length c = omega (arith, length-reverse c) in
    let k : length c - 1 - n < length c = omega arith in
    let e : l ≡ get_or c (length c - 1 - n) (pos 0) = is ∙ get_or-reverse c n l r ∙ get_or_default c (length c - 1 - n) l (pos 0) k in
    rw e (h (length c - 1 - n) k)

-- of the literals from the last one on, one more is denied
pub deny_more : (xs ys : List (Option Bool)) (c : Clause) (n : ℕ) (l : ℤ) → SFits w32 l → n < length (reverse c) → l ≡ get_or (reverse c) n l → variable_of l < length xs → ys ≡ set xs (variable_of (to_z w32 (of_z w32 l))) (Some (not (positive (to_z w32 (of_z w32 l))))) → values_of xs ≡ denied (reverse (take n (reverse c))) → values_of ys ≡ denied (reverse (take (n + 1) (reverse c)))
deny_more xs ys c n l fits lt is cell new h =
    let w : ys ≡ set xs (variable_of l) (Some (not (positive l))) = rw (to_z-of_z w32 l fits) at new in
    let t : reverse (take (n + 1) (reverse c)) ≡ l ∷ reverse (take n (reverse c)) = ap reverse (take_more (reverse c) n l lt) ∙ reverse-append (take n (reverse c)) (get_or (reverse c) n l ∷ []) ∙ ap (λ (z : ℤ). z ∷ reverse (take n (reverse c))) (sym is) in
    ap values_of w ∙ values_write xs (variable_of l) (not (positive l)) cell ∙ ap (λ (f : Values). set_false f l) h ∙ ap denied (sym t)

-- what the scan of a clause says to a hint
module _ (xs : List (Option Bool)) (cl dl : Clause) (is : cl ≡ dl) where
  pub judged_conflict : Conflicting ≡ status_from (values_of xs) None cl → Followed xs xs dl Conflict
  judged_conflict e = rw is at (means_of (values_of xs) cl Conflicting e)

  pub judged_other : Other ≡ status_from (values_of xs) None cl → Followed xs xs dl Useless
  judged_other e = (rw is at (means_of (values_of xs) cl Other e), refl)

  pub judged_forced : (ys : List (Option Bool)) (l : ℤ) → Placed cl (length xs) → SFits w32 l → Forced l ≡ status_from (values_of xs) None cl → ys ≡ set xs (variable_of (to_z w32 (of_z w32 l))) (Some (positive (to_z w32 (of_z w32 l)))) → Followed xs ys dl OneLeft
  judged_forced ys l placed fits e new =
      let u : Unit' (values_of xs) cl l = means_of (values_of xs) cl (Forced l) e in
      let v : variable_of l < length xs = unit_holds (λ m. variable_of m < length xs) (values_of xs) cl l placed u in
      let w : ys ≡ set xs (variable_of l) (Some (positive l)) = rw (to_z-of_z w32 l fits) at new in
      (l, (rw is at u, ap values_of w ∙ values_set xs l v))

pub found_live : (s : Store) (n : ℕ) (r : Option ℕ) → Found s n r → is_some r ≡ is_live (held s) n
found_live s n None h = sym h
found_live s n (Some k) h =
    let at : HeldAt (held s) n (clause_at s k) = subst (λ (z : ℕ). HeldAt (held s) z (clause_at s k)) h.1 (at_row s k (clause_at s k) refl h.0 (sound_of s) h.2) in
    sym (live_at (held s) n (clause_at s k) at)
