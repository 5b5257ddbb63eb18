-- One turn of a loop that puts constraints into rows.
use Rattle.std.proofs.Common.{◌≡◌, ℕ, min, Bool, true, false, cond, ltb, List, [], ◌∷◌, map, length, is_err, Some, Ok, Err, MatchBool, Option, Result, sym, refl, ap, ◌∙◌, arith}
use Rattle.std.proofs.lemmas.List.{map_push, length-map}
use Rattle.std.proofs.lemmas.Bool.{lt-ltb, le-ltb}
use Rattle.std.specs.Result.{result_and}
use Rattle.text.specs.Left.{left, Takes}
use Rattle.text.specs.Rows.{items, room, Same, Pushes}
use Rattle.text.specs.Word.{word_in}
use Rattle.text.specs.declared.parts.Parts.{Parts}
use Rattle.text.specs.declared.rows.Rows.{Rows}
use Rattle.text.specs.declared.word.Word.{Word}
use Rattle.problem.specs.ConstraintLists.{Kept, asked_of, kept, limit_of, put, is_nil, stored}
use Rattle.problem.proofs.Growing.{grown_push, grown_then}
use Rattle.problem.specs.Growth.{Grown}
use Rattle.problem.specs.Meaning.{constraint_of}
use Rattle.problem.specs.Placed.{Reads}
use Rattle.problem.specs.Words.{constraint}
use Rattle.problem.specs.declared.rows.ConstraintRow.{ConstraintRow}

-- a row more, or one that found no place
abbrev pub lost_after : {U F : Type 0} → Bool → Result U F → Bool
lost_after f (Ok u) = f
lost_after f (Err e) = true

put_is : {U F : Type 0} (text : List ℕ) (r s : Rows ConstraintRow) (f : Bool) (c : ConstraintRow) (limit : ℕ) (o : Result U F) → Pushes limit (items r) c (items s) o → put limit (kept text r f) (asked_of text c) ≡ kept text s (lost_after f o)
put_is text r s f c limit (Ok u) p =
    let k : ltb (length (map (asked_of text) (items r))) limit ≡ true = rw (length-map (items r) (asked_of text)) (lt-ltb (length (items r)) limit p.0) in
    rw (k, p.1, map_push (asked_of text) (items r) c) refl
put_is text r s f c limit (Err e) p =
    let k : ltb (length (map (asked_of text) (items r))) limit ≡ false = rw (length-map (items r) (asked_of text)) (le-ltb (length (items r)) limit p.0) in
    rw (k, p.1) refl

nil_tells : (d : Bool) (ps : List (List ℕ)) → MatchBool d (ps ≡ []) (ps ≡ [] → ⊥) → d ≡ is_nil ps
nil_tells true [] h = refl
nil_tells true (p ∷ ps) h = let z : ◌≡◌ {A = ℕ} 1 0 = ap (λ xs. cond (is_nil xs) 0 1) h in absurd (omega arith)
nil_tells false [] h = absurd (h refl)
nil_tells false (p ∷ ps) h = refl

stored_step : (limit : ℕ) (k : Kept) (p : List ℕ) (ps : List (List ℕ)) (text : List ℕ) (c : ConstraintRow) → constraint p ≡ Some (constraint_of text c) → c.last ≡ is_nil ps → stored limit k (p ∷ ps) ≡ stored limit (put limit k (asked_of text c)) ps
stored_step limit k p ps text c a l = rw (a, ← l) refl

pub stored_turn : {U F : Type 0} (text : List ℕ) (e r s : Rows ConstraintRow) (f d : Bool) (P Q : Parts) (w : Word) (c : ConstraintRow) (o : Result U F) (z : Option Kept) → P.text.now ≡ text → room r ≡ room e → Takes P Q (Some w) → MatchBool d (left Q ≡ []) (left Q ≡ [] → ⊥) → Reads text w d (Some c) → Pushes (min 1024 (room r)) (items r) c (items s) o → stored (limit_of e) (kept text r f) (left P) ≡ z → stored (limit_of e) (kept text s (lost_after f o)) (left Q) ≡ z
stored_turn text e r s f d P Q w c o z t m tk dn rd p h =
    let a : constraint (word_in P.text.now w) ≡ Some (constraint_of text c) = ap (λ x. constraint (word_in x w)) t ∙ rd.0 in
    let l : c.last ≡ is_nil (left Q) = rd.1 ∙ nil_tells d (left Q) dn in
    let pe : Pushes (limit_of e) (items r) c (items s) o = rw (← m) p in
    ap (λ k. stored (limit_of e) k (left Q)) (sym (put_is text r s f c (limit_of e) o pe))
    ∙ sym (stored_step (limit_of e) (kept text r f) (word_in P.text.now w) (left Q) text c a l)
    ∙ ap (stored (limit_of e) (kept text r f)) (sym tk.0) ∙ h

pub lost_err : {U F : Type 0} (f : Bool) (o : Result U F) → is_err o ≡ true → lost_after f o ≡ true
lost_err f (Ok u) e = absurd (let z : ◌≡◌ {A = ℕ} 0 1 = cc in omega arith)
lost_err f (Err e) h = refl

pub lost_ok : {U F : Type 0} (f : Bool) (o : Result U F) → is_err o ≡ false → lost_after f o ≡ f
lost_ok f (Ok u) e = refl
lost_ok f (Err e) h = absurd (let z : ◌≡◌ {A = ℕ} 0 1 = cc in omega arith)

-- all that the loop keeps, over one turn
pub turn_kept : {U F : Type 0} (text : List ℕ) (e r s : Rows ConstraintRow) (f d g : Bool) (P Q : Parts) (w : Word) (c : ConstraintRow) (o : Result U F) (z : Option Kept) → lost_after f o ≡ g → (stored (limit_of e) (kept text r f) (left P) ≡ z) × (P.text.now ≡ text) × Grown text e r → Takes P Q (Some w) → MatchBool d (left Q ≡ []) (left Q ≡ [] → ⊥) → Reads text w d (Some c) → Pushes (min 1024 (room r)) (items r) c (items s) o → Same r s → (stored (limit_of e) (kept text s g) (left Q) ≡ z) × (Q.text.now ≡ text) × Grown text e s
turn_kept text e r s f d g P Q w c o z l inv tk dn rd p m = (
  rw (← l) (stored_turn text e r s f d P Q w c o z inv.1 inv.2.same.room tk dn rd p inv.0),
  ap (λ x. x.now) tk.1 ∙ inv.1,
  grown_then text e r s inv.2 (grown_push text r s c o rd.2 p m),
)
