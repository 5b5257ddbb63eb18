-- Writing one row after the other.
use Rattle.std.proofs.Common.{◌≡◌, ℕ, ◌+◌, ◌/◌, ◌%◌, ◌^◌, ◌<◌, ◌≤◌, List, [], ◌∷◌, ◌++◌, length, Ok, Err, decimal, Result, sym, refl, ap, ◌∙◌, subst, arith}
use Rattle.std.proofs.lemmas.Fmt.{decimal_step}
use Rattle.std.proofs.lemmas.List.{append_assoc, append-nil, length-append, length_push}
use Rattle.text.specs.Appends.{Appends}
use Rattle.text.specs.Rows.{items, room, Pushes}
use Rattle.text.specs.declared.rows.Rows.{Rows}

pub appends_err : {T U F : Type 0} (r s : Rows T) (xs : List T) (o : Result U F) (e : F) → o ≡ Err e → room r < length (items r) + length xs → Appends r xs o s
appends_err r s xs o e q h = subst (λ x. Appends r xs x s) (sym q) h

-- the last row after the others
pub last_row : {T U F : Type 0} (r mid s : Rows T) (front : List T) (y : T) (xs : List T) (o : Result U F) → items mid ≡ items r ++ front → room mid ≡ room r → xs ≡ front ++ y ∷ [] → Pushes (room mid) (items mid) y (items s) o → Appends r xs o s
last_row r mid s front y xs (Ok u) h m e p = p.1 ∙ ap (λ t. t ++ y ∷ []) h ∙ append_assoc (items r) front (y ∷ []) ∙ ap (λ t. items r ++ t) (sym e)
last_row r mid s front y xs (Err x) h m e p = omega (arith, ap length h, ap length e, length-append (items r) front, length_push front y, p.0)

pub only_row : {T U F : Type 0} (r s : Rows T) (y : T) (xs : List T) (o : Result U F) → xs ≡ y ∷ [] → Pushes (room r) (items r) y (items s) o → Appends r xs o s
only_row r s y xs o e p = last_row r r s [] y xs o (sym (append-nil (items r))) refl e p

-- fewer digits that did not fit
pub digits_full : {U F : Type 0} (r s t : Rows ℕ) (n : ℕ) (o : Result U F) (e : F) → 10 ≤ n → n < 2 ^ 64 → o ≡ Err e → room r < length (items r) + length (decimal (n / 10)) → Appends r (decimal n) o t
digits_full r s t n o e l u q h = appends_err r t (decimal n) o e q (omega (arith, ap length (decimal_step n l u), length_push (decimal (n / 10)) (48 + n % 10)))
