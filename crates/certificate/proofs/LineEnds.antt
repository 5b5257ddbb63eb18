-- The lines that are left after the first.
use Rattle.std.proofs.Common.{◌≡◌, ℕ, suc, ◌+◌, ◌-◌, ◌<◌, ◌≤◌, true, false, ltb, List, [], ◌∷◌, length, take, drop, Some, None, refl, ap, ◌∙◌, inl, inr, add-one, arith}
use Rattle.std.proofs.lemmas.List.{take_rest}
use Rattle.std.proofs.lemmas.Bool.{lt-ltb, le-ltb, cases_eq}
use Rattle.text.specs.Pieces.{upto, pieces}
use Rattle.text.proofs.Cuts.{pieces_whole, pieces_cut, pieces_not_none, upto_le}
use Rattle.certificate.specs.Lines.{line_step, lines_of}
use Rattle.certificate.specs.Stream.{Step, on_top, unreadable, or_unreadable, while_places}

pub lines_of_next : (n : ℕ) (l : List ℕ) (ps : List (List ℕ)) → (ps ≡ [] → ⊥) → lines_of n (l ∷ ps) ≡ while_places n (or_unreadable (suc n) (line_step l) (λ t. on_top (record { place = suc n; step = t }) (lines_of (suc n) ps)))
lines_of_next n l [] h = absurd (h refl)
lines_of_next n l (m ∷ ls) h = refl

-- bytes with no line end
open_line : (n : ℕ) (bs : List ℕ) → 0 < length bs → upto 10 bs ≡ length bs → lines_of n (pieces 10 bs) ≡ while_places n (unreadable (suc n))
open_line n [] l e = absurd (omega arith)
open_line n (b ∷ bs) l e = rw (pieces_whole 10 (b ∷ bs) e) refl

pub lines_open : (n : ℕ) (bs : List ℕ) → n < 4294967294 → 0 < length bs → upto 10 bs ≡ length bs → lines_of n (pieces 10 bs) ≡ unreadable (n + 1)
lines_open n bs p l e =
    let q : ltb n 4294967294 ≡ true = lt-ltb n 4294967294 p in
    open_line n bs l e ∙ (rw (q, add-one n) refl)

-- the first line and what is left, as ranges of the code read them
cut_at : (s : ℕ) (xs : List ℕ) (n : ℕ) → n ≡ upto s xs → n < length xs → pieces s xs ≡ take n xs ∷ pieces s (take (length xs - (n + 1)) (drop (n + 1) xs))
cut_at s xs n e l =
    let lt : upto s xs < length xs = omega arith in
    rw (take_rest xs (n + 1), e) (pieces_cut s xs lt)

closed_line : (n m : ℕ) (bs : List ℕ) → m ≡ upto 10 bs → m < length bs → lines_of n (pieces 10 bs) ≡ while_places n (or_unreadable (suc n) (line_step (take m bs)) (λ t. on_top (record { place = suc n; step = t }) (lines_of (suc n) (pieces 10 (take (length bs - (m + 1)) (drop (m + 1) bs))))))
closed_line n m bs e l =
    let rest = take (length bs - (m + 1)) (drop (m + 1) bs) in
    ap (lines_of n) (cut_at 10 bs m e l) ∙ lines_of_next n (take m bs) (pieces 10 rest) (pieces_not_none 10 rest)

pub lines_past : (n : ℕ) (bs : List ℕ) → 0 < length bs → 4294967294 ≤ n → lines_of n (pieces 10 bs) ≡ unreadable 4294967295
lines_past n bs l p =
    let q : ltb n 4294967294 ≡ false = le-ltb n 4294967294 p in
    elim (cases_eq (upto 10 bs) (length bs)) [
      | inl e ↦ open_line n bs l e ∙ (rw q refl)
      | inr f ↦ closed_line n (upto 10 bs) bs refl (omega (arith, upto_le 10 bs)) ∙ (rw q refl)
    ]

pub lines_first : (n m : ℕ) (bs : List ℕ) (t : Step) → n < 4294967294 → m ≡ upto 10 bs → m < length bs → line_step (take m bs) ≡ Some t → lines_of n (pieces 10 bs) ≡ on_top (record { place = n + 1; step = t }) (lines_of (n + 1) (pieces 10 (take (length bs - (m + 1)) (drop (m + 1) bs))))
lines_first n m bs t p e l h =
    let q : ltb n 4294967294 ≡ true = lt-ltb n 4294967294 p in
    closed_line n m bs e l ∙ (rw (q, h, add-one n) refl)

pub lines_bad : (n m : ℕ) (bs : List ℕ) → n < 4294967294 → m ≡ upto 10 bs → m < length bs → line_step (take m bs) ≡ None → lines_of n (pieces 10 bs) ≡ unreadable (n + 1)
lines_bad n m bs p e l h =
    let q : ltb n 4294967294 ≡ true = lt-ltb n 4294967294 p in
    closed_line n m bs e l ∙ (rw (q, h, add-one n) refl)
