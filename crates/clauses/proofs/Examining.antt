-- A clause that was looked at, and what became of the others.
use Rattle.std.proofs.Common.{◌≡◌, ℕ, suc, ◌+◌, ◌<◌, ◌≤◌, Bool, true, false, cond, T, eqb, ◌≢◌, ◌⊎◌, List, [], ◌∷◌, ◌++◌, length, get_or, set, ℤ, pos, negsuc, Some, None, Option, sym, refl, ap, ◌∙◌, inl, inr, arith, w32, SFits, to_z, of_z}
use Rattle.std.proofs.lemmas.Int.{to_z-of_z}
use Rattle.std.proofs.lemmas.List.{get_or-set_same, get_or-set_other}
use Rattle.std.proofs.lemmas.Bool.{eq-eqb, eqb-true}
use Rattle.text.specs.Literals.{Clause, variable_of, positive}
use Rattle.clauses.specs.Propagation.{Values, value, is_true, satisfied, set_true}
use Rattle.clauses.specs.Propagation.{Unit', Settled}
use Rattle.clauses.specs.Status.{status_from}
use Rattle.clauses.specs.Cells.{values_of}
use Rattle.clauses.specs.Rows.{row_at, span}
use Rattle.clauses.specs.Stored.{Sound}
use Rattle.clauses.specs.Engine.{Ready}
use Rattle.clauses.specs.Events.{Examined, Waiting}
use Rattle.clauses.specs.Codes.{Hit}
use Rattle.clauses.specs.Counting.{Gives}
use Rattle.clauses.specs.declared.scan.Status.TheVariants.{Forced, Other}
use Rattle.clauses.specs.declared.store.Store.{Store}
use Rattle.clauses.specs.declared.trail.Trail.{Trail}
use Rattle.clauses.proofs.Statuses.{means_of}
use Rattle.clauses.proofs.Memory.{values_set}
use Rattle.clauses.proofs.OneRow.{unit_holds, row_placed, row_settled}
use Rattle.clauses.proofs.Advance.{forced_fits}
use Rattle.clauses.proofs.Hits.{settled_set}
use Rattle.text.proofs.Members.{or_left, or_right}

set_is_true : (f : Values) (l : ℤ) → value (set_true f l) l ≡ Some true
set_is_true f (pos v) = rw (eq-eqb v v refl) refl
set_is_true f (negsuc k) = rw (eq-eqb (suc k) (suc k) refl) refl

satisfied_at : (g : Values) (bs : Clause) (l : ℤ) (cs : Clause) → value g l ≡ Some true → T (satisfied g (bs ++ l ∷ cs))
satisfied_at g [] l cs e = or_left _ (satisfied g cs) (rw e tt)
satisfied_at g (b ∷ bs) l cs e = or_right (is_true (value g b)) _ (satisfied_at g bs l cs e)

-- the clause that forced a literal is satisfied then
unit_settled : (f : Values) (c : Clause) (l : ℤ) → Unit' f c l → Settled (set_true f l) c
unit_settled f c l u = inl (rw u.parts (satisfied_at (set_true f l) u.before l u.after (set_is_true f l)))

module _ (s : Store) (k : ℕ) (cl : Clause) (is : cl ≡ span s.literals.now (row_at s.rows.now k)) (lt : k < s.count) (xs : List (Option Bool)) (t : Trail) where
  pub other_examined : Sound s → Other ≡ status_from (values_of xs) None cl → Examined s k xs xs t t
  other_examined ok e =
      record { here = row_settled s k cl is lt ok (values_of xs) e; others = λ c h. inl h; kept = λ q h. refl; grows = omega arith; gap = λ v b h. inl h; made = λ q a b. absurd (omega arith) }

  pub forced_examined : Ready s xs t → (l : ℤ) → SFits w32 l → Forced l ≡ status_from (values_of xs) None cl → (ys : List (Option Bool)) → ys ≡ set xs (variable_of (to_z w32 (of_z w32 l))) (Some (positive (to_z w32 (of_z w32 l)))) → (u : Trail) → u.tail ≡ t.tail + 1 → u.literals.now ≡ set t.literals.now t.tail (to_z w32 (of_z w32 l)) → Examined s k xs ys t u
  forced_examined ready l fits forced ys new u tail lits =
      let un : Unit' (values_of xs) cl l = means_of (values_of xs) cl (Forced l) forced in
      let z : to_z w32 (of_z w32 l) ≡ l = to_z-of_z w32 l fits in
      let v : variable_of l < length xs = unit_holds (λ m. variable_of m < length xs) (values_of xs) cl l (row_placed s k cl is lt ready.sound (length xs) ready.enough) un in
      let w : ys ≡ set xs (variable_of l) (Some (positive l)) = rw z at new in
      let q : values_of ys ≡ set_true (values_of xs) l = ap values_of w ∙ values_set xs l v in
      let m : u.literals.now ≡ set t.literals.now t.tail l = rw z at lits in
      let room : t.tail < length t.literals.now = forced_fits s k cl is lt xs t ready l fits forced ys new in
      let last : get_or u.literals.now t.tail (pos 0) ≡ l = ap (λ (x : List ℤ). get_or x t.tail (pos 0)) m ∙ get_or-set_same t.literals.now t.tail l (pos 0) room in
      record {
        here = rw q (rw is at (unit_settled (values_of xs) cl l un));
        others = λ c h. go c q last tail (settled_set (values_of xs) l c un.unset h);
        kept = λ i h. let ne : i ≢ t.tail = omega arith in ap (λ (x : List ℤ). get_or x i (pos 0)) m ∙ get_or-set_other t.literals.now t.tail i l (pos 0) ne;
        grows = omega arith;
        gap = λ i b h. since i b q last tail (eqb i (variable_of l)) refl h;
        made = λ j a b. let e : j ≡ t.tail = omega arith in rw (e, last, w) (get_or-set_same xs (variable_of l) (Some (positive l)) None v);
      }
    where
      since : (i : ℕ) (b : Bool) → values_of ys ≡ set_true (values_of xs) l → get_or u.literals.now t.tail (pos 0) ≡ l → u.tail ≡ t.tail + 1 → (e : Bool) → eqb i (variable_of l) ≡ e → values_of ys i ≡ Some b → (values_of xs i ≡ Some b) ⊎ ((j : ℕ) × (t.tail ≤ j) × (j < u.tail) × Gives u j i b)
      since i b q last tail' e is h = go' e is (sym (ap (λ (f : Values). f i) q) ∙ h)
        where
          go' : (e : Bool) → eqb i (variable_of l) ≡ e → cond (eqb i (variable_of l)) (Some (positive l)) (values_of xs i) ≡ Some b → (values_of xs i ≡ Some b) ⊎ ((j : ℕ) × (t.tail ≤ j) × (j < u.tail) × Gives u j i b)
          go' false z g = inl (rw z at g)
          go' true z g = let g' : Some (positive l) ≡ Some b = rw z at g in inr (t.tail, omega arith, omega arith, rw last (sym (eqb-true i (variable_of l) z), cc))

      go : (c : Clause) → values_of ys ≡ set_true (values_of xs) l → get_or u.literals.now t.tail (pos 0) ≡ l → u.tail ≡ t.tail + 1 → Settled (set_true (values_of xs) l) c ⊎ Hit l c → Settled (values_of ys) c ⊎ Waiting u t.tail c
      go c q last tail' (inl h) = inl (rw q h)
      go c q last tail' (inr h) = inr (t.tail, omega arith, omega arith, rw last h)
