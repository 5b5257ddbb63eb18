-- Loops over rows that look for a row that was there before.
use Rattle.std.proofs.Common.{◌≡◌, ℕ, Bool, true, false, cond, ◌||◌, List, [], ◌∷◌, ◌++◌, map, Some, None, Option, sym, refl, ap, ◌∙◌, arith}
use Rattle.std.proofs.lemmas.List.{map_push}
use Rattle.std.proofs.lemmas.Bool.{or_parts}
use Rattle.std.specs.List.{list_any}
use Rattle.text.specs.Lists.{some, Each}
use Rattle.problem.specs.Reading.{repeated, same_given}
use Rattle.problem.specs.Repeats.{repeated_in}
use Rattle.problem.specs.Rows.{same_stanza, stands_twice}
use Rattle.problem.specs.Sections.{given_of}
use Rattle.problem.specs.declared.rows.ConstraintRow.{ConstraintRow}
use Rattle.problem.specs.declared.rows.PackageRow.{PackageRow}

-- what `any` answers
pub any_some : {X : Type 0} (t : X → Bool) (xs : List X) → list_any t xs ≡ some t xs
any_some t [] = refl
any_some t (x ∷ xs) = ap (λ b. t x || b) (any_some t xs)

-- the same in words
some_words : (text : List ℕ) (cs : List ConstraintRow) (x : PackageRow) (ys : List PackageRow) → some (λ y. same_given y (given_of text cs x)) (map (given_of text cs) ys) ≡ some (λ y. same_stanza text y x) ys
some_words text cs x [] = refl
some_words text cs x (y ∷ ys) = ap (λ b. same_stanza text y x || b) (some_words text cs x ys)

pub repeated_words : (text : List ℕ) (cs : List ConstraintRow) (before xs : List PackageRow) → repeated (map (given_of text cs) before) (map (given_of text cs) xs) ≡ repeated_in text before xs
repeated_words text cs before [] = refl
repeated_words text cs before (x ∷ xs) =
    ap (λ b. cond b (Some x.line) (repeated (map (given_of text cs) before ++ given_of text cs x ∷ []) (map (given_of text cs) xs))) (some_words text cs x before)
    ∙ ap (λ r. cond (some (λ y. same_stanza text y x) before) (Some x.line) r) (ap (λ b. repeated b (map (given_of text cs) xs)) (sym (map_push (given_of text cs) before x)) ∙ repeated_words text cs (before ++ x ∷ []) xs)

-- where no row repeats an earlier one, none stands twice
cond_none : (b : Bool) (n : ℕ) (o : Option ℕ) → cond b (Some n) o ≡ None → (b ≡ false) × (o ≡ None)
cond_none true n o e = absurd (let z : ◌≡◌ {A = ℕ} 0 1 = cc in omega arith)
cond_none false n o e = (refl, e)

some_push : (t : PackageRow → Bool) (xs : List PackageRow) (x : PackageRow) → some t (xs ++ x ∷ []) ≡ false → (some t xs ≡ false) × (t x ≡ false)
some_push t [] x e = (refl, (or_parts (t x) false e).0)
some_push t (y ∷ xs) x e =
    let p = or_parts (t y) (some t (xs ++ x ∷ [])) e in
    let q = some_push t xs x p.1 in
    (rw p.0 q.0, q.1)

fresh_all : (text : List ℕ) (before xs : List PackageRow) → repeated_in text before xs ≡ None → Each (λ x. some (λ y. same_stanza text y x) before ≡ false) xs
fresh_all text before [] e = tt
fresh_all text before (x ∷ xs) e =
    let p = cond_none (some (λ y. same_stanza text y x) before) x.line (repeated_in text (before ++ x ∷ []) xs) e in
    (p.0, weaker xs (fresh_all text (before ++ x ∷ []) xs p.1))
  where
    weaker : (zs : List PackageRow) → Each (λ z. some (λ y. same_stanza text y z) (before ++ x ∷ []) ≡ false) zs → Each (λ z. some (λ y. same_stanza text y z) before ≡ false) zs
    weaker [] h = tt
    weaker (z ∷ zs) h = ((some_push (λ y. same_stanza text y z) before x h.0).0, weaker zs h.1)

last_apart : (text : List ℕ) (before : List PackageRow) (x : PackageRow) (xs : List PackageRow) → Each (λ z. some (λ y. same_stanza text y z) (before ++ x ∷ []) ≡ false) xs → some (same_stanza text x) xs ≡ false
last_apart text before x [] h = refl
last_apart text before x (z ∷ zs) h = rw (some_push (λ y. same_stanza text y z) before x h.0).1 (last_apart text before x zs h.1)

pub stands_once : (text : List ℕ) (before xs : List PackageRow) → repeated_in text before xs ≡ None → stands_twice text xs ≡ false
stands_once text before [] e = refl
stands_once text before (x ∷ xs) e =
    let p = cond_none (some (λ y. same_stanza text y x) before) x.line (repeated_in text (before ++ x ∷ []) xs) e in
    rw (last_apart text before x xs (fresh_all text (before ++ x ∷ []) xs p.1)) (stands_once text (before ++ x ∷ []) xs p.1)
