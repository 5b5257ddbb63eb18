-- The steps that are read of lines stand written in them.
use Rattle.std.proofs.Common.{◌≡◌, ℕ, suc, ◌+◌, ◌^◌, ◌<◌, ◌≤◌, Bool, true, false, cond, ◌&&◌, eqb, ltb, leb, List, [], ◌∷◌, ◌++◌, length, ℤ, Some, None, Option, sym, refl, ap, ◌∙◌, arith}
use Rattle.std.proofs.lemmas.Fmt.{decimal_digit}
use Rattle.std.proofs.lemmas.Slice.Eq.{bytes_eq-Decides}
use Rattle.std.proofs.lemmas.List.{append_assoc, append-nil}
use Rattle.std.proofs.lemmas.Bool.{cond_both, and_parts, leb-true, ltb-true, ltb-false, eqb-true}
use Rattle.std.specs.Option.{option_map, option_or}
use Rattle.std.specs.Fmt as written
use Rattle.std.specs.Str.{bytes_eq}
use Rattle.text.proofs.Cuts.{pieces_not_none}
use Rattle.text.specs.Decimal.{decimal, signed}
use Rattle.text.specs.Lists.{each, each_all, Each}
use Rattle.text.specs.Literals.{variable_of}
use Rattle.text.specs.Pieces.{front, pieces}
use Rattle.certificate.specs.Lines.{is_zero, last_word, literals, clause, deleted_number, line_step, lines_of, textual}
use Rattle.certificate.specs.Stream.{Step, add, delete, finished, broken, Stream, on_top, ended, unreadable, or_unreadable, places, numbered, then}
use Rattle.certificate.specs.Writing.{line_bytes, text_bytes, InLine, TextHeld}
use Rattle.certificate.proofs.HintedHolding.{If, not_broken, same_place}
use Rattle.certificate.proofs.NumeralsHeld.{decimal_of, signed_of, zero_of, variable_positive}

-- pieces put together again
abbrev glued : ℕ → List (List ℕ) → List ℕ
glued s [] = []
glued s (w ∷ []) = w
glued s (w ∷ v ∷ ws) = w ++ s ∷ glued s (v ∷ ws)

glued-front : (s b : ℕ) (ws : List (List ℕ)) → (ws ≡ [] → ⊥) → glued s (front b ws) ≡ b ∷ glued s ws
glued-front s b [] h = absurd (h refl)
glued-front s b (w ∷ []) h = refl
glued-front s b (w ∷ v ∷ ws) h = refl

glued_none : (s : ℕ) (ws : List (List ℕ)) → (ws ≡ [] → ⊥) → glued s ([] ∷ ws) ≡ s ∷ glued s ws
glued_none s [] h = absurd (h refl)
glued_none s (w ∷ ws) h = refl

glued-pieces : (s : ℕ) (bs : List ℕ) → glued s (pieces s bs) ≡ bs
glued-pieces s [] = refl
glued-pieces s (b ∷ bs) =
    let some = pieces_not_none s bs in
    let ih = glued-pieces s bs in
    cond_both (eqb b s) ([] ∷ pieces s bs) (front b (pieces s bs)) (λ ps. glued s ps ≡ b ∷ bs)
    (λ t. let e : b ≡ s = eqb-true b s t in glued_none s (pieces s bs) some ∙ (rw (ih, e) refl))
    (λ t. glued-front s b (pieces s bs) some ∙ ap (λ x. b ∷ x) ih)

abbrev Literal : ℤ → Type 0
Literal z = (0 < variable_of z) × (variable_of z < 10 ^ 7)

abbrev Spelt : List (List ℕ) → List ℤ → Type 0
Spelt ws c = Each Literal c × (ws ≡ each written.signed_decimal c ++ (48 ∷ []) ∷ [])

spelt_more : (w : List ℕ) (ws : List (List ℕ)) (z : ℤ) → Literal z → w ≡ written.signed_decimal z → (o : Option (List ℤ)) → If (Spelt ws) o → If (Spelt (w ∷ ws)) (option_map (λ c. z ∷ c) o)
spelt_more w ws z l e None h = tt
spelt_more w ws z l e (Some c) h = ((l, h.0), rw (e, h.1) refl)

spelt_last : (w : List ℕ) (ws : List (List ℕ)) → w ≡ 48 ∷ [] → If (Spelt (w ∷ ws)) (last_word ws)
spelt_last w [] e = (tt, ap (λ x. x ∷ []) e)
spelt_last w (v ∷ ws) e = tt

literals_spelt : (ws : List (List ℕ)) → If (Spelt ws) (literals ws)
literals_spelt [] = tt
literals_spelt (w ∷ ws) = pick (signed 7 w) refl (literals_spelt ws)
  where
    pick : (o : Option ℤ) → signed 7 w ≡ o → If (Spelt ws) (literals ws) → If (Spelt (w ∷ ws)) (then o (λ z. cond (is_zero z) (last_word ws) (option_map (λ zs. z ∷ zs) (literals ws))))
    pick None q ih = tt
    pick (Some z) q ih =
        let s = signed_of z w q in
        cond_both (is_zero z) (last_word ws) (option_map (λ zs. z ∷ zs) (literals ws)) (If (Spelt (w ∷ ws)))
        (λ t. spelt_last w ws (s.1 ∙ ap written.signed_decimal (zero_of z t) ∙ decimal_digit 0 (omega arith)))
        (λ f. spelt_more w ws z (variable_positive z f, s.0) s.1 (literals ws) ih)

abbrev Deletes : List (List ℕ) → ℕ → Type 0
Deletes ws n = (n < 10 ^ 7) × (ws ≡ (100 ∷ []) ∷ written.decimal n ∷ (48 ∷ []) ∷ [])

deleted_spelt : (ws : List (List ℕ)) → If (Deletes ws) (deleted_number ws)
deleted_spelt [] = tt
deleted_spelt (d ∷ []) = tt
deleted_spelt (d ∷ n ∷ []) = tt
deleted_spelt (d ∷ n ∷ z ∷ []) =
    cond_both (bytes_eq d (100 ∷ []) && bytes_eq z (48 ∷ [])) (decimal 7 n) None (If (Deletes (d ∷ n ∷ z ∷ [])))
    (λ t.
    let s = and_parts (bytes_eq d (100 ∷ [])) (bytes_eq z (48 ∷ [])) t in
    let a = (bytes_eq-Decides d (100 ∷ [])).0 s.0 in
    let b = (bytes_eq-Decides z (48 ∷ [])).0 s.1 in
    pick (decimal 7 n) refl a b)
    (λ _. tt)
  where
    pick : (o : Option ℕ) → decimal 7 n ≡ o → d ≡ 100 ∷ [] → z ≡ 48 ∷ [] → If (Deletes (d ∷ n ∷ z ∷ [])) o
    pick None q a b = tt
    pick (Some k) q a b = let h = decimal_of k n q in (h.0, rw (a, b, h.1) refl)
deleted_spelt (d ∷ n ∷ z ∷ w ∷ ws) = tt

glued_clause : (c : List ℤ) → glued 32 (each written.signed_decimal c ++ (48 ∷ []) ∷ []) ≡ each_all (λ z. written.signed_decimal z ++ 32 ∷ []) c ++ 48 ∷ []
glued_clause [] = refl
glued_clause (z ∷ []) = sym (append_assoc (written.signed_decimal z ++ 32 ∷ []) [] (48 ∷ []) ∙ append_assoc (written.signed_decimal z) (32 ∷ []) (48 ∷ []))
glued_clause (z ∷ y ∷ c) =
    let ih = glued_clause (y ∷ c) in
    let r = each_all (λ x. written.signed_decimal x ++ 32 ∷ []) (y ∷ c) in
    ap (λ t. written.signed_decimal z ++ 32 ∷ t) ih ∙ sym (append_assoc (written.signed_decimal z ++ 32 ∷ []) r (48 ∷ []) ∙ append_assoc (written.signed_decimal z) (32 ∷ []) (r ++ 48 ∷ []))

abbrev LineHeld : List ℕ → Step → Type 0
LineHeld l t = InLine t × (l ≡ line_bytes t)

clause_held : (l : List ℕ) (o : Option (List ℤ)) → If (Spelt (pieces 32 l)) o → If (LineHeld l) (option_map (λ zs. add zs None) (then o (λ zs. cond (leb (length zs) 512) (Some zs) None)))
clause_held l None h = tt
clause_held l (Some zs) h = pick (leb (length zs) 512) refl
  where
    pick : (b : Bool) → leb (length zs) 512 ≡ b → If (LineHeld l) (option_map (λ zs. add zs None) (cond b (Some zs) None))
    pick false q = tt
    pick true q = ((leb-true _ _ q, h.0), sym (glued-pieces 32 l) ∙ ap (glued 32) h.1 ∙ glued_clause zs)

deletion_held : (l : List ℕ) (o : Option ℕ) → If (Deletes (pieces 32 l)) o → If (LineHeld l) (option_map delete o)
deletion_held l None h = tt
deletion_held l (Some n) h = (h.0, sym (glued-pieces 32 l) ∙ ap (glued 32) h.1)

either_held : {X : Type 0} (Q : X → Type 0) (o p : Option X) → If Q o → If Q p → If Q (option_or o p)
either_held Q None p a b = b
either_held Q (Some x) p a b = a

line_held : (l : List ℕ) → If (LineHeld l) (line_step l)
line_held l =
    either_held (LineHeld l) (option_map delete (deleted_number (pieces 32 l))) (option_map (λ zs. add zs None) (clause (pieces 32 l)))
    (deletion_held l (deleted_number (pieces 32 l)) (deleted_spelt (pieces 32 l)))
    (clause_held l (literals (pieces 32 l)) (literals_spelt (pieces 32 l)))

record LinesHeld (n : ℕ) (bs : List ℕ) (s : Stream) : Type 0 where
  ts : List Step
  steps : s.steps ≡ numbered n ts
  good : Each InLine ts
  left : List ℕ
  starts : bs ≡ text_bytes ts ++ left
  whole : s.ending ≡ finished → left ≡ []
  fault : (p : ℕ) → s.ending ≡ broken p → p ≡ suc (n + length ts)

broken_lines : (n p : ℕ) (bs : List ℕ) → p ≡ suc n → LinesHeld n bs (unreadable p)
broken_lines n p bs e = record { ts = []; steps = refl; good = tt; left = bs; starts = refl; whole = λ f. not_broken p f; fault = λ q f. let g = same_place p q f in omega arith }

end_lines : (n : ℕ) → LinesHeld n [] (ended finished)
end_lines n = record { ts = []; steps = refl; good = tt; left = []; starts = refl; whole = λ e. refl; fault = λ p e. not_broken p (sym e) }

more_lines : (n : ℕ) (l r : List ℕ) (t : Step) (s : Stream) → LineHeld l t → LinesHeld (suc n) r s → LinesHeld n (l ++ 10 ∷ r) (on_top (record { place = suc n; step = t }) s)
more_lines n l r t s p h =
    let a = append_assoc (line_bytes t ++ 10 ∷ []) (text_bytes h.ts) h.left in
    let b = append_assoc (line_bytes t) (10 ∷ []) (text_bytes h.ts ++ h.left) in
    record {
      ts = t ∷ h.ts;
      steps = ap (λ x. record { place = suc n; step = t } ∷ x) h.steps;
      good = (p.0, h.good);
      left = h.left;
      starts = ap (λ x. x ++ 10 ∷ r) p.1 ∙ ap (λ x. line_bytes t ++ 10 ∷ x) h.starts ∙ sym (a ∙ b);
      whole = h.whole;
      fault = λ p f. let g = h.fault p f in omega arith;
    }

lines_held : (n : ℕ) (ps : List (List ℕ)) → n ≤ places → LinesHeld n (glued 10 ps) (lines_of n ps)
lines_held n [] k = end_lines n
lines_held n ([] ∷ []) k = end_lines n
lines_held n ((b ∷ l) ∷ []) k =
    cond_both (ltb n places) (unreadable (suc n)) (unreadable (suc places)) (LinesHeld n (b ∷ l)) (λ _. broken_lines n (suc n) (b ∷ l) refl) (λ t. let i = ltb-false n places t in broken_lines n (suc places) (b ∷ l) (omega arith))
lines_held n (l ∷ m ∷ ls) k =
    cond_both (ltb n places) (or_unreadable (suc n) (line_step l) (λ t. on_top (record { place = suc n; step = t }) (lines_of (suc n) (m ∷ ls)))) (unreadable (suc places)) (LinesHeld n (l ++ 10 ∷ glued 10 (m ∷ ls)))
    (λ t. let i = ltb-true n places t in pick (line_step l) (line_held l) (lines_held (suc n) (m ∷ ls) (omega arith)))
    (λ t. let i = ltb-false n places t in broken_lines n (suc places) (l ++ 10 ∷ glued 10 (m ∷ ls)) (omega arith))
  where
    pick : (o : Option Step) → If (LineHeld l) o → LinesHeld (suc n) (glued 10 (m ∷ ls)) (lines_of (suc n) (m ∷ ls)) → LinesHeld n (l ++ 10 ∷ glued 10 (m ∷ ls)) (or_unreadable (suc n) o (λ t. on_top (record { place = suc n; step = t }) (lines_of (suc n) (m ∷ ls))))
    pick None a ih = broken_lines n (suc n) (l ++ 10 ∷ glued 10 (m ∷ ls)) refl
    pick (Some t) a ih = more_lines n l (glued 10 (m ∷ ls)) t (lines_of (suc n) (m ∷ ls)) a ih

pub textual_held : (bs : List ℕ) → TextHeld bs (textual bs)
textual_held bs =
    let h = lines_held 0 (pieces 10 bs) (omega arith) in
    let e = sym (glued-pieces 10 bs) ∙ h.starts in
    record { ts = h.ts; steps = h.steps; good = h.good; left = h.left; starts = e; whole = λ f. e ∙ ap (λ x. text_bytes h.ts ++ x) (h.whole f) ∙ append-nil (text_bytes h.ts); fault = λ p f. let g = h.fault p f in omega arith }
