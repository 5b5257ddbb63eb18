-- The first conjunct of constraint rows, and the others.
use Rattle.std.proofs.Common.{◌≡◌, ℕ, suc, ◌+◌, ◌-◌, ◌<◌, ◌⊎◌, min, true, false, cond, List, [], ◌∷◌, ◌++◌, length, get_or, take, drop, sym, refl, ap, ◌∙◌, subst, inl, inr, arith}
use Rattle.std.specs.List.{IsFirstMatchOrLen}
use Rattle.std.proofs.Math.ListN.{get_or-append}
use Rattle.std.proofs.Math.Seq.{drop-append_seam}
use Rattle.std.proofs.lemmas.List.{length-append, take_rest}
use Rattle.problem.specs.Meaning.{front, conjuncts}
use Rattle.problem.specs.Rows.{no_constraint}
use Rattle.problem.specs.declared.rows.ConstraintRow.{ConstraintRow}

-- rows of which the last alone is marked as last, or after which there are none
conjunct_first : (g rest : List ConstraintRow) → 0 < length g → ((k : ℕ) → suc k < length g → (get_or g k no_constraint).last ≡ false) →
    ((k : ℕ) → suc k ≡ length g → (get_or g k no_constraint).last ≡ true) ⊎ (rest ≡ []) → conjuncts (g ++ rest) ≡ g ∷ conjuncts rest
conjunct_first [] rest l h e = absurd (omega arith)
conjunct_first (c ∷ []) rest l h (inl e) = ap (λ b. cond b ((c ∷ []) ∷ conjuncts rest) (front c (conjuncts rest))) (e 0 refl)
conjunct_first (c ∷ []) rest l h (inr e) =
    subst (λ rs. conjuncts (c ∷ rs) ≡ (c ∷ []) ∷ conjuncts rs) (sym e) (elim c.last as (λ b. cond b ((c ∷ []) ∷ []) ((c ∷ []) ∷ []) ≡ (c ∷ []) ∷ []) [ true ↦ refl | false ↦ refl ])
conjunct_first (c ∷ d ∷ g) rest l h e =
    ap (λ b. cond b ((c ∷ []) ∷ conjuncts (d ∷ g ++ rest)) (front c (conjuncts (d ∷ g ++ rest)))) (h 0 (omega arith))
    ∙ ap (front c) (conjunct_first (d ∷ g) rest (omega arith) (λ k m. h (suc k) (omega arith)) (shorter e))
  where
    shorter : ((k : ℕ) → suc k ≡ length (c ∷ d ∷ g) → (get_or (c ∷ d ∷ g) k no_constraint).last ≡ true) ⊎ (rest ≡ []) → ((k : ℕ) → suc k ≡ length (d ∷ g) → (get_or (d ∷ g) k no_constraint).last ≡ true) ⊎ (rest ≡ [])
    shorter (inl f) = inl (λ k q. f (suc k) (ap suc q))
    shorter (inr f) = inr f

-- the rows up to the first that is marked as last, and those after them
module _ (cs g rest : List ConstraintRow) (i : ℕ) (e : cs ≡ g ++ rest) (n : length g ≡ min (i + 1) (length cs)) where
  same : (k : ℕ) → k < length g → get_or cs k no_constraint ≡ get_or g k no_constraint
  same k l = ap (λ xs. get_or xs k no_constraint) e ∙ get_or-append g rest no_constraint k l

  length_cs : length cs ≡ length g + length rest
  length_cs = ap length e ∙ length-append g rest

  rest_is : take (length cs - length g) (drop (length g) cs) ≡ rest
  rest_is = take_rest cs (length g) ∙ ap (drop (length g)) e ∙ drop-append_seam g rest

  module _ (h : IsFirstMatchOrLen (λ c. c.last) cs i) where
    ends : (rs : List ConstraintRow) → length cs ≡ length g + length rs → ((k : ℕ) → suc k ≡ length g → (get_or g k no_constraint).last ≡ true) ⊎ (rs ≡ [])
    ends [] l = inr refl
    ends (r ∷ rs) l = inl (λ k q. let j : k ≡ i = omega (arith, n, q, l) in
        ap (λ c. c.last) (sym (same k (omega (arith, q)))) ∙ ap (λ x. (get_or cs x no_constraint).last) j ∙ h.1 (omega (arith, n, l)) no_constraint)

    conjuncts_split : 0 < length cs → conjuncts cs ≡ g ∷ conjuncts rest
    conjuncts_split l = ap conjuncts e
        ∙ conjunct_first g rest (omega (arith, n)) (λ k m. ap (λ c. c.last) (sym (same k (omega (arith, m)))) ∙ h.0 k no_constraint (omega arith) (omega (arith, n, m))) (ends rest length_cs)

    pub conjuncts_next : (ds : List ConstraintRow) → cs ≡ ds → 0 < length cs → conjuncts ds ≡ g ∷ conjuncts (take (length ds - length g) (drop (length g) ds))
    conjuncts_next ds f l = subst (λ xs. conjuncts xs ≡ g ∷ conjuncts (take (length xs - length g) (drop (length g) xs))) f (conjuncts_split l ∙ ap (λ xs. g ∷ conjuncts xs) (sym rest_is))
