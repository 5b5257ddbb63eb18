-- Decimal numbers that were written are read again.
use Rattle.std.proofs.Common.{◌≡◌, ℕ, suc, ◌+◌, ◌-◌, ◌*◌, ◌/◌, ◌%◌, ◌^◌, ◌<◌, ◌≤◌, Bool, true, false, cond, not, ◌||◌, eqb, leb, List, [], ◌∷◌, ◌++◌, length, get_or, ℤ, pos, negsuc, Some, None, refl, ap, ◌∙◌, inl, inr, arith}
use Rattle.std.proofs.lemmas.Fmt.{decimal_by_steps, decimal_nonempty, decimal_digit, first_decimal, length-decimal-le}
use Rattle.std.proofs.lemmas.Bool.{cases_eq, ne_eqb, le-leb}
use Rattle.std.proofs.lemmas.Bool.Decides.{nat_tests}
use Rattle.std.specs.Fmt as written
use Rattle.std.specs.Str.{bytes_eq}
use Rattle.text.specs.Decimal.{digit, value, decimal, positive, negative, signed}
use Rattle.text.specs.Lists.{Each}
use Rattle.text.specs.Literals.{variable_of}
use Rattle.text.proofs.Members.{each_append, each_weaker}

abbrev pub Digit : ℕ → Type 0
Digit b = (48 ≤ b) × (b ≤ 57)

value_push : (m v : ℕ) (ds : List ℕ) (b : ℕ) → Digit b → value m ds ≡ Some v → value m (ds ++ b ∷ []) ≡ Some (v * 10 + (b - 48))
value_push m v [] b d e =
    let q : digit b ≡ true = grind (arith, nat_tests) in
    let w : m ≡ v = cc in
    rw (q, w) refl
value_push m v (c ∷ ds) b d e = pick (digit c) (value_push (m * 10 + (c - 48)) v ds b d) e
  where
    pick : (t : Bool) → (value (m * 10 + (c - 48)) ds ≡ Some v → value (m * 10 + (c - 48)) (ds ++ b ∷ []) ≡ Some (v * 10 + (b - 48))) → cond t (value (m * 10 + (c - 48)) ds) None ≡ Some v → cond t (value (m * 10 + (c - 48)) (ds ++ b ∷ [])) None ≡ Some (v * 10 + (b - 48))
    pick true ih h = ih h
    pick false ih h = let z : ◌≡◌ {A = ℕ} 0 1 = cc in absurd (omega arith)

abbrev Written : ℕ → List ℕ → Type 0
Written n ds = (value 0 ds ≡ Some n) × Each Digit ds

written_one : (n : ℕ) → n < 10 → Written n ((48 + n) ∷ [])
written_one n l =
    let q : digit (48 + n) ≡ true = grind (arith, nat_tests) in
    let e : 0 * 10 + (48 + n - 48) ≡ n = omega arith in
    (rw (q, e) refl, ((omega arith, omega arith), tt))

written_more : (n : ℕ) (ds : List ℕ) → 10 ≤ n → Written (n / 10) ds → Written n (ds ++ ((48 + n % 10) ∷ []))
written_more n ds l h =
    let d : Digit (48 + n % 10) = (omega arith, omega arith) in
    let e : n / 10 * 10 + (48 + n % 10 - 48) ≡ n = omega arith in
    (value_push 0 (n / 10) ds (48 + n % 10) d h.0 ∙ ap Some e, each_append Digit ds ((48 + n % 10) ∷ []) h.1 (d, tt))

decimal-written : (n : ℕ) → n < 2 ^ 64 → Written n (written.decimal n)
decimal-written n l = decimal_by_steps Written written_one written_more n l

pub decimal_digits : (n : ℕ) → n < 10 ^ 7 → Each Digit (written.decimal n)
decimal_digits n l = (decimal-written n (omega arith)).1

pub decimal_back : (n : ℕ) → n < 10 ^ 7 → decimal 7 (written.decimal n) ≡ Some n
decimal_back n l =
    let ds = written.decimal n in
    let a : leb 1 (length ds) ≡ true = le-leb _ _ (omega (arith, decimal_nonempty n (omega arith))) in
    let b : leb (length ds) 7 ≡ true = le-leb _ _ (length-decimal-le 7 n (omega arith) l (omega arith)) in
    let c : (eqb (length ds) 1 || not (eqb (get_or ds 0 0) 48)) ≡ true = leads n l in
    rw (a, b, c) (decimal-written n (omega arith)).0
  where
    leads : (n : ℕ) → n < 10 ^ 7 → (eqb (length (written.decimal n)) 1 || not (eqb (get_or (written.decimal n) 0 0) 48)) ≡ true
    leads n l = elim (cases_eq n 0) [
      | inl e ↦ let h = decimal_digit n (omega arith) in rw h refl
      | inr f ↦ let h = first_decimal n (omega arith) (omega arith) in grind (arith, nat_tests)
    ]

signed_digits : (ds : List ℕ) → Each Digit ds → 0 < length ds → signed 7 ds ≡ positive (decimal 7 ds)
signed_digits [] h l = absurd (omega arith)
signed_digits (b ∷ ds) h l = let q : eqb b 45 ≡ false = ne_eqb b 45 (λ e. omega (arith, h.0.0)) in rw q refl

pub signed_back : (z : ℤ) → 0 < variable_of z → variable_of z < 10 ^ 7 → signed 7 (written.signed_decimal z) ≡ Some z
signed_back (pos n) p l = signed_digits (written.decimal n) (decimal_digits n l) (decimal_nonempty n (omega arith)) ∙ ap positive (decimal_back n l)
signed_back (negsuc k) p l =
    let q : eqb (suc k) 0 ≡ false = ne_eqb (suc k) 0 (λ e. omega arith) in
    ap negative (decimal_back (suc k) l) ∙ (rw q refl)

-- no space and no line end
pub signed_inked : (z : ℤ) → variable_of z < 10 ^ 7 → Each (λ b. 33 ≤ b) (written.signed_decimal z)
signed_inked (pos n) l = each_weaker Digit (λ b. 33 ≤ b) (λ b d. omega (arith, d.0)) (written.decimal n) (decimal_digits n l)
signed_inked (negsuc k) l = (omega arith, each_weaker Digit (λ b. 33 ≤ b) (λ b d. omega (arith, d.0)) (written.decimal (suc k)) (decimal_digits (suc k) l))

digits_other : (ds : List ℕ) → Each Digit ds → bytes_eq ds (100 ∷ []) ≡ false
digits_other [] h = refl
digits_other (b ∷ ds) h = let q : eqb b 100 ≡ false = ne_eqb b 100 (λ e. omega (arith, h.0.1)) in rw q refl

pub signed_other : (z : ℤ) → variable_of z < 10 ^ 7 → bytes_eq (written.signed_decimal z) (100 ∷ []) ≡ false
signed_other (pos n) l = digits_other (written.decimal n) (decimal_digits n l)
signed_other (negsuc k) l = refl
