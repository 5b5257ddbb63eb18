-- The last four bytes decide which form is read.
use Rattle.std.proofs.Common.{◌≡◌, ℕ, ◌-◌, ◌≤◌, Bool, true, false, cond, eqb, List, [], ◌∷◌, ◌++◌, length, get_or, drop, MatchBool, sym, refl, ap, ◌∙◌, subst, arith, length-append, w8, Fits}
use Rattle.std.proofs.lemmas.List.{append_assoc, append-nil, drop_at, drop-append-le, length_push}
use Rattle.std.proofs.lemmas.Bool.{ne_eqb, and_right}
use Rattle.std.specs.Str.{bytes_eq}
use Rattle.text.specs.Lists.{each_all, Each}
use Rattle.certificate.specs.Form.{mark, is_hinted, certificate}
use Rattle.certificate.specs.Hinted.{hinted}
use Rattle.certificate.specs.Lines.{textual}
use Rattle.certificate.specs.Stream.{Step, Stream}
use Rattle.certificate.specs.Writing.{word_bytes, record_bytes, line_bytes, text_bytes, HintedBack, TextBack, HintedFirst, TextFirst, CertificateFirst, HintedHeld, TextHeld, CertificateHeld}
use Rattle.certificate.proofs.HintedHolding.{bytes_each, hinted_held}
use Rattle.certificate.proofs.HintedWriting.{hinted_back, hinted_first}
use Rattle.certificate.proofs.TextHolding.{textual_held}
use Rattle.certificate.proofs.TextWriting.{text_back, text_first}

pub opened_hinted : (bs : List ℕ) (s : Stream) → s ≡ certificate bs → HintedBack bs s
opened_hinted bs s e ts h b =
    let xs = each_all record_bytes ts ++ word_bytes (length ts) in
    let a : bs ≡ xs ++ mark = b ∙ sym (append_assoc (each_all record_bytes ts) (word_bytes (length ts)) mark) in
    let l : length xs ≡ length bs - 4 = omega (arith, ap length a, length-append xs mark) in
    let d : drop (length bs - 4) bs ≡ mark = ap (drop (length bs - 4)) a ∙ drop_at xs mark (length bs - 4) l in
    let q : is_hinted bs ≡ true = rw d refl in
    hinted_back bs s (e ∙ (rw q refl)) ts h b

other_end : (ys zs : List ℕ) → Each (λ b. b ≡ 10 → ⊥) zs → bytes_eq (ys ++ 10 ∷ []) zs ≡ false
other_end [] [] h = refl
other_end (y ∷ ys) [] h = refl
other_end [] (z ∷ zs) h = let q : eqb 10 z ≡ false = ne_eqb 10 z (λ e. h.0 (sym e)) in rw q refl
other_end (y ∷ ys) (z ∷ zs) h = and_right (eqb y z) (bytes_eq (ys ++ 10 ∷ []) zs) (other_end ys zs h.1)

line_ended : (xs : List ℕ) → is_hinted (xs ++ 10 ∷ []) ≡ false
line_ended xs =
    let l = length_push xs 10 in
    let i : length (xs ++ 10 ∷ []) - 4 ≤ length xs = omega arith in
    let d = drop-append-le (length (xs ++ 10 ∷ []) - 4) xs (10 ∷ []) i in
    rw d (other_end (drop (length (xs ++ 10 ∷ []) - 4) xs) mark ((λ e. omega arith), ((λ e. omega arith), ((λ e. omega arith), ((λ e. omega arith), tt)))))

text_ended : (t : Step) (ts : List Step) → (xs : List ℕ) × (text_bytes (t ∷ ts) ≡ xs ++ 10 ∷ [])
text_ended t [] = (line_bytes t, append-nil (line_bytes t ++ 10 ∷ []))
text_ended t (u ∷ ts) =
    let h = text_ended u ts in
    ((line_bytes t ++ 10 ∷ []) ++ h.0, ap (λ bs. (line_bytes t ++ 10 ∷ []) ++ bs) h.1 ∙ sym (append_assoc (line_bytes t ++ 10 ∷ []) h.0 (10 ∷ [])))

text_unhinted : (ts : List Step) → is_hinted (text_bytes ts) ≡ false
text_unhinted [] = refl
text_unhinted (t ∷ ts) = let h = text_ended t ts in ap is_hinted h.1 ∙ line_ended h.0

pub opened_text : (bs : List ℕ) (s : Stream) → s ≡ certificate bs → TextBack bs s
opened_text bs s e ts h b =
    let q : is_hinted bs ≡ false = ap is_hinted b ∙ text_unhinted ts in
    text_back bs s (e ∙ (rw q refl)) ts h b

pub opened_held : (bs : List ℕ) (s : Stream) → ((i : ℕ) → Fits w8 (get_or bs i 0)) → s ≡ certificate bs → CertificateHeld bs s
opened_held bs s h e = pick (is_hinted bs) refl e
  where
    pick : (b : Bool) → is_hinted bs ≡ b → s ≡ cond b (hinted bs) (textual bs) → MatchBool b (HintedHeld bs s) (TextHeld bs s)
    pick true q e = subst (HintedHeld bs) (sym e) (hinted_held bs (bytes_each bs h) q)
    pick false q e = subst (TextHeld bs) (sym e) (textual_held bs)

pub opened_first : (bs : List ℕ) (s : Stream) → s ≡ certificate bs → CertificateFirst bs s
opened_first bs s e = pick (is_hinted bs) e
  where
    pick : (b : Bool) → s ≡ cond b (hinted bs) (textual bs) → MatchBool b (HintedFirst bs s) (TextFirst bs s)
    pick true e = hinted_first bs s e
    pick false e = text_first bs s e
