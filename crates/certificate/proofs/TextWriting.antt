-- Lines that were written are read again.
use Rattle.std.proofs.Common.{◌≡◌, ℕ, suc, ◌+◌, ◌^◌, ◌<◌, ◌≤◌, true, false, eqb, ltb, leb, List, [], ◌∷◌, ◌++◌, length, ℤ, pos, negsuc, Some, None, sym, refl, ap, ◌∙◌, arith}
use Rattle.std.proofs.lemmas.List.{append_assoc, append-nil}
use Rattle.std.proofs.lemmas.Bool.{eq-eqb, ne_eqb, le-leb, lt-ltb}
use Rattle.std.specs.Fmt as written
use Rattle.text.proofs.Cuts.{pieces_not_none}
use Rattle.text.proofs.Members.{each_append, each_weaker, each_each_all}
use Rattle.text.specs.Lists.{each, each_all, Each}
use Rattle.text.specs.Literals.{variable_of}
use Rattle.text.specs.Pieces.{pieces}
use Rattle.certificate.specs.Lines.{is_zero, literals, deleted_number, line_step, lines_of, textual}
use Rattle.certificate.specs.Stream.{Step, add, delete, Stream, places, numbered}
use Rattle.certificate.specs.Writing.{line_bytes, text_bytes, InLine, Writable, complete, TextBack, TextFirst}
use Rattle.certificate.proofs.HintedWriting.{before}
use Rattle.certificate.proofs.LineEnds.{lines_of_next}
use Rattle.certificate.proofs.Numerals.{Digit, decimal_digits, decimal_back, signed_back, signed_inked, signed_other}

pieces_word : (s : ℕ) (w r : List ℕ) → Each (λ b. b ≡ s → ⊥) w → pieces s (w ++ s ∷ r) ≡ w ∷ pieces s r
pieces_word s [] r h = let q : eqb s s ≡ true = eq-eqb s s refl in rw q refl
pieces_word s (b ∷ w) r h =
    let q : eqb b s ≡ false = ne_eqb b s h.0 in
    let ih = pieces_word s w r h.1 in
    rw (q, ih) refl

abbrev Literal : ℤ → Type 0
Literal z = (0 < variable_of z) × (variable_of z < 10 ^ 7)

abbrev spelled : List ℤ → List ℕ
spelled c = each_all (λ z. written.signed_decimal z ++ 32 ∷ []) c

spelled_more : (z : ℤ) (c : List ℤ) (r : List ℕ) → ((written.signed_decimal z ++ 32 ∷ []) ++ spelled c) ++ r ≡ written.signed_decimal z ++ 32 ∷ (spelled c ++ r)
spelled_more z c r = append_assoc (written.signed_decimal z ++ 32 ∷ []) (spelled c) r ∙ append_assoc (written.signed_decimal z) (32 ∷ []) (spelled c ++ r)

clause_words : (c : List ℤ) → Each Literal c → pieces 32 (spelled c ++ 48 ∷ []) ≡ each written.signed_decimal c ++ (48 ∷ []) ∷ []
clause_words [] h = refl
clause_words (z ∷ c) h =
    let w = each_weaker (λ b. 33 ≤ b) (λ b. b ≡ 32 → ⊥) (λ b l e. omega arith) (written.signed_decimal z) (signed_inked z h.0.1) in
    ap (pieces 32) (spelled_more z c (48 ∷ [])) ∙ pieces_word 32 (written.signed_decimal z) (spelled c ++ 48 ∷ []) w ∙ ap (λ ws. written.signed_decimal z ∷ ws) (clause_words c h.1)

not_zero : (z : ℤ) → 0 < variable_of z → is_zero z ≡ false
not_zero (pos n) l = ne_eqb n 0 (λ e. omega arith)
not_zero (negsuc k) l = refl

literals-written : (c : List ℤ) → Each Literal c → literals (each written.signed_decimal c ++ (48 ∷ []) ∷ []) ≡ Some c
literals-written [] h = refl
literals-written (z ∷ c) h =
    let a = signed_back z h.0.0 h.0.1 in
    let b = not_zero z h.0.0 in
    let ih = literals-written c h.1 in
    rw (a, b, ih) refl

undeleted : (c : List ℤ) → Each Literal c → deleted_number (each written.signed_decimal c ++ (48 ∷ []) ∷ []) ≡ None
undeleted [] h = refl
undeleted (z ∷ []) h = refl
undeleted (z ∷ y ∷ []) h = let q = signed_other z h.0.1 in rw q refl
undeleted (z ∷ y ∷ x ∷ []) h = refl
undeleted (z ∷ y ∷ x ∷ w ∷ c) h = refl

line_written : (t : Step) → InLine t → line_step (line_bytes t) ≡ Some t
line_written (add c None) h =
    let ws = clause_words c h.1 in
    let l : leb (length c) 512 ≡ true = le-leb _ _ h.0 in
    rw (ws, undeleted c h.1, literals-written c h.1, l) refl
line_written (add c (Some hs)) h = absurd h
line_written (delete n) h =
    let w = each_weaker Digit (λ b. b ≡ 32 → ⊥) (λ b d e. omega (arith, d.0)) (written.decimal n) (decimal_digits n h) in
    let p = pieces_word 32 (written.decimal n) (48 ∷ []) w in
    rw (p, decimal_back n h) refl

abbrev Within : ℕ → Type 0
Within b = b ≡ 10 → ⊥

line_within : (t : Step) → InLine t → Each Within (line_bytes t)
line_within (add c None) h =
    each_append Within (spelled c) (48 ∷ [])
    (each_each_all Within (λ z. written.signed_decimal z ++ 32 ∷ []) c (each_weaker Literal (λ z. Each Within (written.signed_decimal z ++ 32 ∷ [])) (λ z l. each_append Within (written.signed_decimal z) (32 ∷ []) (each_weaker (λ b. 33 ≤ b) Within (λ b k e. omega arith) (written.signed_decimal z) (signed_inked z l.1)) ((λ e. omega arith), tt)) c h.1))
    ((λ e. omega arith), tt)
line_within (add c (Some hs)) h = absurd h
line_within (delete n) h =
    ((λ e. omega arith), ((λ e. omega arith), each_append Within (written.decimal n) (32 ∷ 48 ∷ []) (each_weaker Digit Within (λ b d e. omega (arith, d.0)) (written.decimal n) (decimal_digits n h)) ((λ e. omega arith), ((λ e. omega arith), tt))))

lines_front : (n : ℕ) (ts : List Step) (r : List ℕ) → Each InLine ts → n + length ts ≤ places → lines_of n (pieces 10 (text_bytes ts ++ r)) ≡ before (numbered n ts) (lines_of (n + length ts) (pieces 10 r))
lines_front n [] r h l = let z : n + 0 ≡ n = omega arith in rw z refl
lines_front n (t ∷ ts) r h l =
    let rest = text_bytes ts ++ r in
    let a = append_assoc (line_bytes t ++ 10 ∷ []) (text_bytes ts) r ∙ append_assoc (line_bytes t) (10 ∷ []) rest in
    let b = pieces_word 10 (line_bytes t) rest (line_within t h.0) in
    let c = lines_of_next n (line_bytes t) (pieces 10 rest) (pieces_not_none 10 rest) in
    let p : ltb n places ≡ true = lt-ltb n places (omega arith) in
    let ih = lines_front (suc n) ts r h.1 (omega arith) in
    let q : suc n + length ts ≡ n + suc (length ts) = omega arith in
    ap (λ bs. lines_of n (pieces 10 bs)) a ∙ ap (lines_of n) b ∙ c ∙ (rw (p, line_written t h.0, ih, q) refl)

pub textual_written : (ts : List Step) → Writable InLine ts → textual (text_bytes ts) ≡ complete ts
textual_written ts h =
    let m = h.1 in
    let f = lines_front 0 ts [] h.0 (omega arith) in
    ap textual (sym (append-nil (text_bytes ts))) ∙ f ∙ (rw (append-nil (numbered 0 ts)) refl)

pub text_back : (bs : List ℕ) (s : Stream) → s ≡ textual bs → TextBack bs s
text_back bs s e ts h b = e ∙ ap textual b ∙ textual_written ts h

pub text_first : (bs : List ℕ) (s : Stream) → s ≡ textual bs → TextFirst bs s
text_first bs s e ts r h b =
    let m = h.1 in
    let f = lines_front 0 ts r h.0 (omega arith) in
    ((lines_of (0 + length ts) (pieces 10 r)).steps, ap (λ x. x.steps) (e ∙ ap textual b ∙ f))
