-- A number that is read is written by its digits alone.
use Rattle.std.proofs.Common.{◌≡◌, ℕ, zero, suc, ◌+◌, ◌-◌, ◌*◌, ◌^◌, ◌<◌, Bool, true, false, cond, not, ◌&&◌, ◌||◌, eqb, leb, List, [], ◌∷◌, length, get_or, ℤ, pos, negsuc, Some, None, Option, sym, refl, ap, ◌∙◌, ⊎_elim, arith, rules}
use Rattle.std.proofs.lemmas.Fmt.{decimal-digits_value}
use Rattle.std.proofs.lemmas.Str.Parse.{IsNumeralModel, numerals_by_fold, digits_value_short}
use Rattle.std.proofs.lemmas.Bool.{and_parts, or_cases, leb-true, eqb-true, eqb-false, not-true, ne_eqb}
use Rattle.std.specs.Fmt as written
use Rattle.text.specs.Decimal.{digit, value, decimal, positive, negative, signed}
use Rattle.text.specs.Lists.{Each}
use Rattle.text.specs.Literals.{variable_of}
use Rattle.certificate.specs.Lines.{is_zero}
use Rattle.certificate.proofs.Numerals.{Digit}

abbrev read_on : ℕ → List ℕ → ℕ
read_on n [] = n
read_on n (c ∷ cs) = read_on (n * 10 + (c - 48)) cs

own : IsNumeralModel (λ ds. Each Digit ds) (read_on 0)
own = numerals_by_fold _ (search rules) read_on (search rules)

value_of : (m n : ℕ) (ds : List ℕ) → value m ds ≡ Some n → Each Digit ds × (read_on m ds ≡ n)
value_of m n [] e = (tt, cc)
value_of m n (b ∷ ds) e = pick (digit b) refl e (value_of (m * 10 + (b - 48)) n ds)
  where
    pick : (t : Bool) → digit b ≡ t → cond t (value (m * 10 + (b - 48)) ds) None ≡ Some n → (value (m * 10 + (b - 48)) ds ≡ Some n → Each Digit ds × (read_on (m * 10 + (b - 48)) ds ≡ n)) → Each Digit (b ∷ ds) × (read_on m (b ∷ ds) ≡ n)
    pick true q h ih =
        let d : Digit b = (leb-true _ _ (and_parts _ _ q).0, leb-true _ _ (and_parts _ _ q).1) in
        let r = ih h in
        ((d, r.0), r.1)
    pick false q h ih = let z : ◌≡◌ {A = ℕ} 0 1 = cc in absurd (omega arith)

abbrev Numbered : ℕ → List ℕ → Type 0
Numbered n ds = (n < 10 ^ 7) × (ds ≡ written.decimal n)

pub decimal_of : (n : ℕ) (ds : List ℕ) → decimal 7 ds ≡ Some n → Numbered n ds
decimal_of n ds e = pick (leb 1 (length ds) && (leb (length ds) 7 && (eqb (length ds) 1 || not (eqb (get_or ds 0 0) 48)))) refl e
  where
    pick : (t : Bool) → (leb 1 (length ds) && (leb (length ds) 7 && (eqb (length ds) 1 || not (eqb (get_or ds 0 0) 48)))) ≡ t → cond t (value 0 ds) None ≡ Some n → Numbered n ds
    pick false q h = let z : ◌≡◌ {A = ℕ} 0 1 = cc in absurd (omega arith)
    pick true q h =
        let a = and_parts (leb 1 (length ds)) (leb (length ds) 7 && (eqb (length ds) 1 || not (eqb (get_or ds 0 0) 48))) q in
        let b = and_parts (leb (length ds) 7) (eqb (length ds) 1 || not (eqb (get_or ds 0 0) 48)) a.1 in
        let v = value_of 0 n ds h in
        let l = leb-true 1 (length ds) a.0 in
        let m = leb-true (length ds) 7 b.0 in
        let s = digits_value_short own ds 7 v.0 m in
        let f : get_or ds 0 0 ≡ 48 → length ds ≡ 1 = λ k. ⊎_elim (λ x. eqb-true (length ds) 1 x) (λ y. absurd (eqb-false (get_or ds 0 0) 48 (not-true _ y) k)) (or_cases (eqb (length ds) 1) (not (eqb (get_or ds 0 0) 48)) b.1) in
        let w = decimal-digits_value own ds v.0 (omega arith) f (omega arith) in
        (omega (arith, s, v.1), sym w ∙ ap written.decimal v.1)

abbrev Lettered : ℤ → List ℕ → Type 0
Lettered z w = (variable_of z < 10 ^ 7) × (w ≡ written.signed_decimal z)

minus_of : (z : ℤ) (bs : List ℕ) (o : Option ℕ) → decimal 7 bs ≡ o → negative o ≡ Some z → Lettered z (45 ∷ bs)
minus_of z bs None q e = let z : ◌≡◌ {A = ℕ} 0 1 = cc in absurd (omega arith)
minus_of z bs (Some zero) q e = let z : ◌≡◌ {A = ℕ} 0 1 = cc in absurd (omega arith)
minus_of z bs (Some (suc k)) q e =
    let n = decimal_of (suc k) bs q in
    let p : eqb (suc k) 0 ≡ false = ne_eqb (suc k) 0 (λ h. omega arith) in
    let g : Some (negsuc k) ≡ Some z = rw p at e in
    let f : negsuc k ≡ z = cc in
    rw (← f) (n.0, ap (λ t. 45 ∷ t) n.1)

plus_of : (z : ℤ) (bs : List ℕ) (o : Option ℕ) → decimal 7 bs ≡ o → positive o ≡ Some z → Lettered z bs
plus_of z bs None q e = let z : ◌≡◌ {A = ℕ} 0 1 = cc in absurd (omega arith)
plus_of z bs (Some n) q e =
    let f : pos n ≡ z = cc in
    rw (← f) (decimal_of n bs q)

pub signed_of : (z : ℤ) (w : List ℕ) → signed 7 w ≡ Some z → Lettered z w
signed_of z [] e = let z : ◌≡◌ {A = ℕ} 0 1 = cc in absurd (omega arith)
signed_of z (b ∷ bs) e = pick (eqb b 45) refl e
  where
    pick : (t : Bool) → eqb b 45 ≡ t → cond t (negative (decimal 7 bs)) (positive (decimal 7 (b ∷ bs))) ≡ Some z → Lettered z (b ∷ bs)
    pick true q h = let f : b ≡ 45 = eqb-true b 45 q in rw f (minus_of z bs (decimal 7 bs) refl h)
    pick false q h = plus_of z (b ∷ bs) (decimal 7 (b ∷ bs)) refl h

pub zero_of : (z : ℤ) → is_zero z ≡ true → z ≡ pos 0
zero_of (pos n) e = ap pos (eqb-true n 0 e)
zero_of (negsuc k) e = let z : ◌≡◌ {A = ℕ} 0 1 = cc in absurd (omega arith)

pub variable_positive : (z : ℤ) → is_zero z ≡ false → 0 < variable_of z
variable_positive (pos n) e = omega (arith, eqb-false n 0 e)
variable_positive (negsuc k) e = omega arith
