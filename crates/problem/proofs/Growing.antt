-- Rows of constraints that grow.
use Rattle.std.proofs.Common.{◌≡◌, ℕ, ◌≤◌, min, List, [], ◌∷◌, length, take, Ok, Err, Result, sym, refl, ap, ◌∙◌, subst, arith}
use Rattle.std.proofs.ByRecursion.{All-push}
use Rattle.std.proofs.lemmas.List.{take_all, take-take, take_at, length-take, length_push}
use Rattle.text.specs.Lists.{Each}
use Rattle.text.specs.Rows.{items, Same, Pushes}
use Rattle.text.specs.declared.rows.Rows.{Rows}
use Rattle.problem.specs.ConstraintLists.{limit_of}
use Rattle.problem.specs.Growth.{Grown}
use Rattle.problem.specs.Rows.{ConstraintOk}
use Rattle.problem.specs.declared.rows.ConstraintRow.{ConstraintRow}

pub front_short : {X : Type 0} (xs ys : List X) → take (length xs) ys ≡ xs → length xs ≤ length ys
front_short xs ys h = omega (arith, length-take (length xs) ys, ap length h)

pub front_then : {X : Type 0} (xs ys zs : List X) → take (length xs) ys ≡ xs → take (length ys) zs ≡ ys → take (length xs) zs ≡ xs
front_then xs ys zs h k = sym (take-take (length xs) (length ys) zs (front_short xs ys h)) ∙ ap (take (length xs)) k ∙ h

pub grown_then : (text : List ℕ) (r s t : Rows ConstraintRow) → Grown text r s → Grown text s t → Grown text r t
grown_then text r s t h k =
    record {
      front = front_then (items r) (items s) (items t) h.front k.front;
      good = λ g. k.good (h.good g);
      few = λ g. k.few (h.few g);
      same = record { room = k.same.room ∙ h.same.room; zero = k.same.zero ∙ h.same.zero; lender = k.same.lender ∙ h.same.lender };
    }

pub grown_push : {U F : Type 0} (text : List ℕ) (r s : Rows ConstraintRow) (c : ConstraintRow) (o : Result U F) → ConstraintOk (length text) c → Pushes (limit_of r) (items r) c (items s) o → Same r s → Grown text r s
grown_push text r s c (Ok u) ok p m =
    record { front = rw p.1 (take_at (items r) (c ∷ []) (length (items r)) refl); good = λ h. subst (Each (ConstraintOk (length text))) (sym p.1) (All-push (ConstraintOk (length text)) (items r) c h ok); few = λ _. omega (arith, ap length p.1, length_push (items r) c, ap (min 1024) m.room); same = m }
grown_push text r s c (Err e) ok p m =
    record { front = rw p.1 (take_all (length (items r)) (items r) (omega arith)); good = λ h. subst (Each (ConstraintOk (length text))) (sym p.1) h; few = λ h. omega (arith, ap length p.1, ap (min 1024) m.room); same = m }
