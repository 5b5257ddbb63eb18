-- The test of a clause's form, literal by literal.
use Rattle.std.proofs.Common.{◌≡◌, ℕ, zero, suc, ◌≤◌, Bool, not, ◌&&◌, ◌||◌, T, eqb, leb, List, [], ◌∷◌, ℤ, refl, ap, le_of_suc-le-suc, arith}
use Rattle.std.proofs.lemmas.Bool.{leb-true}
use Rattle.std.specs.List.{list_any}
use Rattle.text.specs.Lists.{some}
use Rattle.text.specs.Literals.{Clause, variable_of}
use Rattle.text.proofs.Members.{and_left, and_right, true_from}
use Rattle.clauses.specs.ClauseBase.{well_formed}
use Rattle.clauses.specs.Growth.{Speaks}

-- `some` is the library's `list_any`
pub some_any : {X : Type 0} (t : X → Bool) (xs : List X) → some t xs ≡ list_any t xs
some_any t [] = refl
some_any t (x ∷ xs) = ap (λ (b : Bool). t x || b) (some_any t xs)

abbrev again : Clause → ℤ → Bool
again c l = some (λ k. eqb (variable_of k) (variable_of l)) c

-- a clause of good form speaks of variables
pub formed_speaks : (V : ℕ) (c : Clause) → T (well_formed V c) → Speaks c V
formed_speaks V [] h k lt = absurd (omega arith)
formed_speaks V (l ∷ ls) h zero lt =
    let both : T (leb 1 (variable_of l) && leb (variable_of l) V) = and_left (leb 1 (variable_of l) && leb (variable_of l) V) (not (again ls l)) (and_left (leb 1 (variable_of l) && leb (variable_of l) V && not (again ls l)) (well_formed V ls) h) in
    let a : 1 ≤ variable_of l = leb-true 1 (variable_of l) (true_from _ (and_left (leb 1 (variable_of l)) (leb (variable_of l) V) both)) in
    let b : variable_of l ≤ V = leb-true (variable_of l) V (true_from _ (and_right (leb 1 (variable_of l)) (leb (variable_of l) V) both)) in
    omega arith
formed_speaks V (l ∷ ls) h (suc k) lt =
    formed_speaks V ls (and_right (leb 1 (variable_of l) && leb (variable_of l) V && not (again ls l)) (well_formed V ls) h) k (le_of_suc-le-suc lt)
