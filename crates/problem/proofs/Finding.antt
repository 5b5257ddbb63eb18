-- The place of the package with a name and version is that of the first row that has them.
use Rattle.std.proofs.Common.{◌≡◌, ℕ, suc, ◌+◌, Bool, true, false, cond, not, ◌&&◌, eqb, ltb, List, [], ◌∷◌, map, length, Some, None, Option, refl, ap, ◌∙◌, inl, inr, arith}
use Rattle.std.proofs.lemmas.Bool.{lt-ltb, le-ltb, cases_lt}
use Rattle.std.specs.List.{position_or_len}
use Rattle.std.specs.Option.{option_map}
use Rattle.std.specs.Str.{bytes_eq}
use Rattle.text.specs.Word.{word_in}
use Rattle.problem.specs.Answers.{stanza_in}
use Rattle.problem.specs.Meaning.{package_of}
use Rattle.problem.specs.declared.rows.ConstraintRow.{ConstraintRow}
use Rattle.problem.specs.declared.rows.PackageRow.{PackageRow}

abbrev place : ℕ → ℕ → Option ℕ
place n m = cond (ltb n m) (Some n) None

next : (n m : ℕ) → place (1 + n) (suc m) ≡ option_map (λ k. k + 1) (place n m)
next n m =
    elim (cases_lt n m) [
      | inl l ↦
          let a : ltb n m ≡ true = lt-ltb n m l in
          let b : ltb (1 + n) (suc m) ≡ true = lt-ltb (1 + n) (suc m) (omega arith) in
          rw (a, b) (ap Some (omega arith))
      | inr l ↦
          let a : ltb n m ≡ false = le-ltb n m l in
          let b : ltb (1 + n) (suc m) ≡ false = le-ltb (1 + n) (suc m) (omega arith) in
          rw (a, b) refl
    ]

module _ (text : List ℕ) (cs : List ConstraintRow) (name : List ℕ) (v : ℕ) where
  abbrev pub is_it : PackageRow → Bool
  is_it r = bytes_eq name (word_in text r.name) && eqb v r.version

  pub place_found : (rows : List PackageRow) → place (position_or_len is_it rows) (length rows) ≡ stanza_in name v (map (package_of text cs) rows)
  place_found [] = refl
  place_found (r ∷ rows) = at (place_found rows) (is_it r)
    where
      at : place (position_or_len is_it rows) (length rows) ≡ stanza_in name v (map (package_of text cs) rows) → (b : Bool) → place (cond (not b) (1 + position_or_len is_it rows) 0) (length (r ∷ rows)) ≡ cond b (Some 0) (option_map (λ k. k + 1) (stanza_in name v (map (package_of text cs) rows)))
      at h true = let a : ltb 0 (length (r ∷ rows)) ≡ true = lt-ltb 0 (length (r ∷ rows)) (omega arith) in rw a refl
      at h false = next (position_or_len is_it rows) (length rows) ∙ ap (option_map (λ k. k + 1)) h
