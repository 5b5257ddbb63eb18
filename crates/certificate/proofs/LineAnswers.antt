-- The answer to the reading of a line, and what memory holds then.
use Rattle.std.proofs.Common.{◌≡◌, ℕ, ◌<◌, ◌≤◌, Bool, true, false, cond, leb, List, [], length, ℤ, pos, Some, None, Ok, Err, Option, refl, ap, ◌∙◌, subst, arith}
use Rattle.std.proofs.lemmas.List.{take_all, length-take}
use Rattle.std.proofs.lemmas.Bool.{lt-leb, le-leb}
use Rattle.std.specs.Option.{option_map, ok_or}
use Rattle.text.specs.Pieces.{pieces}
use Rattle.certificate.specs.declared.found.Shape.{Shape}
use Rattle.certificate.specs.declared.found.Shape.TheVariants.{Add}
use Rattle.certificate.specs.declared.line.Unread.{Unread}
use Rattle.certificate.specs.declared.line.Unread.TheVariants.{Form, TooMany}
use Rattle.certificate.specs.Lines.{clause, deleted_number, line_step}
use Rattle.certificate.specs.LineAnswer.{Pushed, clause_answer, clause_kept, line_answer, LineLeaves}
use Rattle.certificate.specs.Reading.{Memory, shape_in, standing}
use Rattle.certificate.specs.Stream.{Step, add}

pub clause_over : (ws : List (List ℕ)) (room n : ℕ) (ks js : List ℤ) → Pushed ws room n ks → length ks < n → js ≡ [] → (Err TooMany ≡ clause_answer room (clause ws)) × (js ≡ clause_kept room (clause ws))
clause_over ws room n ks js p l e =
    let k = ap length p.first in
    let m = p.many in
    let b : leb (length p.zs) room ≡ false = lt-leb _ _ (omega (arith, k, length-take room p.zs)) in
    (rw (p.whole, b) refl, rw (p.whole, b) e)

pub clause_fits : (ws : List (List ℕ)) (room n : ℕ) (ks : List ℤ) → Pushed ws room n ks → n ≤ length ks → (Ok n ≡ clause_answer room (clause ws)) × (ks ≡ clause_kept room (clause ws))
clause_fits ws room n ks p l =
    let k = ap length p.first in
    let m = p.many in
    let h : length p.zs ≤ room = omega (arith, k, length-take room p.zs) in
    let b : leb (length p.zs) room ≡ true = le-leb _ _ h in
    (rw (p.whole, b, m) refl, rw (p.whole, b) (p.first ∙ take_all room p.zs h))

line_clause : (l : List ℕ) → None ≡ deleted_number (pieces 32 l) → option_map (λ zs. add zs None) (clause (pieces 32 l)) ≡ line_step l
line_clause l e = rw (← e) refl

counted_ok : (k : Memory) (o : Option (List ℤ)) (n : ℕ) → Ok n ≡ clause_answer k.literals o → Ok (Add n) ≡ line_answer k (option_map (λ zs. add zs None) o)
counted_ok k None n e = let z : ◌≡◌ {A = ℕ} 0 1 = cc in absurd (omega arith)
counted_ok k (Some zs) n e = pick (leb (length zs) k.literals) e
  where
    pick : (b : Bool) → Ok n ≡ cond b (Ok (length zs)) (Err TooMany) → Ok (Add n) ≡ ok_or (cond b (Some (Add (length zs))) None) TooMany
    pick true h = cc
    pick false h = let z : ◌≡◌ {A = ℕ} 0 1 = cc in absurd (omega arith)

refused_so : (k : Memory) (o : Option (List ℤ)) (u : Unread) → Err u ≡ clause_answer k.literals o → Err u ≡ line_answer k (option_map (λ zs. add zs None) o)
refused_so k None u e = cc
refused_so k (Some zs) u e = pick (leb (length zs) k.literals) e
  where
    pick : (b : Bool) → Err u ≡ cond b (Ok (length zs)) (Err TooMany) → Err u ≡ ok_or (cond b (Some (Add (length zs))) None) TooMany
    pick true h = let z : ◌≡◌ {A = ℕ} 0 1 = cc in absurd (omega arith)
    pick false h = cc

same_either : {X : Type 0} (b : Bool) (x : X) → cond b x x ≡ x
same_either true x = refl
same_either false x = refl

clause_left : (k : Memory) (o : Option (List ℤ)) (ls : List ℤ) (hs : List ℕ) → ls ≡ standing (pos 0) k.literals (clause_kept k.literals o) → hs ≡ standing 0 k.hints [] → LineLeaves k (option_map (λ zs. add zs None) o) ls hs
clause_left k None ls hs a b = record { literals = a; hints = b }
clause_left k (Some zs) ls hs a b =
    let c : cond {A = List ℕ} (leb (length zs) k.literals) [] [] ≡ [] = same_either (leb (length zs) k.literals) [] in
    record { literals = a; hints = rw c b }

pub line_counted : (k : Memory) (l : List ℕ) (n : ℕ) (ls : List ℤ) (hs : List ℕ) → None ≡ deleted_number (pieces 32 l) → Ok n ≡ clause_answer k.literals (clause (pieces 32 l)) → ls ≡ standing (pos 0) k.literals (clause_kept k.literals (clause (pieces 32 l))) → hs ≡ standing 0 k.hints [] → (Ok (Add n) ≡ line_answer k (line_step l)) × LineLeaves k (line_step l) ls hs
line_counted k l n ls hs d e a b =
    let q = line_clause l d in
    (counted_ok k (clause (pieces 32 l)) n e ∙ ap (line_answer k) q, subst (λ o. LineLeaves k o ls hs) q (clause_left k (clause (pieces 32 l)) ls hs a b))

pub line_refused : (k : Memory) (l : List ℕ) (u : Unread) (ls : List ℤ) (hs : List ℕ) → None ≡ deleted_number (pieces 32 l) → Err u ≡ clause_answer k.literals (clause (pieces 32 l)) → ls ≡ standing (pos 0) k.literals (clause_kept k.literals (clause (pieces 32 l))) → hs ≡ standing 0 k.hints [] → (Err u ≡ line_answer k (line_step l)) × LineLeaves k (line_step l) ls hs
line_refused k l u ls hs d e a b =
    let q = line_clause l d in
    (refused_so k (clause (pieces 32 l)) u e ∙ ap (line_answer k) q, subst (λ o. LineLeaves k o ls hs) q (clause_left k (clause (pieces 32 l)) ls hs a b))

-- what the answer says of the line's step
pub line_ok : (k : Memory) (o : Option Step) (g : Shape) → Ok g ≡ line_answer k o → (t : Step) × ((o ≡ Some t) × (Some g ≡ shape_in k t))
line_ok k None g e = let z : ◌≡◌ {A = ℕ} 0 1 = cc in absurd (omega arith)
line_ok k (Some t) g e = (t, (refl, pick (shape_in k t) e))
  where
    pick : (s : Option Shape) → Ok g ≡ ok_or s TooMany → Some g ≡ s
    pick None h = let z : ◌≡◌ {A = ℕ} 0 1 = cc in absurd (omega arith)
    pick (Some f) h = cc

pub line_over : (k : Memory) (o : Option Step) → Err TooMany ≡ line_answer k o → (t : Step) × ((o ≡ Some t) × (None ≡ shape_in k t))
line_over k None e = let z : ◌≡◌ {A = ℕ} 0 1 = cc in absurd (omega arith)
line_over k (Some t) e = (t, (refl, pick (shape_in k t) e))
  where
    pick : (s : Option Shape) → Err TooMany ≡ ok_or s TooMany → None ≡ s
    pick None h = refl
    pick (Some f) h = let z : ◌≡◌ {A = ℕ} 0 1 = cc in absurd (omega arith)

pub line_form : (k : Memory) (o : Option Step) → Err Form ≡ line_answer k o → o ≡ None
line_form k None e = refl
line_form k (Some t) e = pick (shape_in k t) e
  where
    pick : (s : Option Shape) → Err Form ≡ ok_or s TooMany → Some t ≡ None
    pick None h = let z : ◌≡◌ {A = ℕ} 0 1 = cc in absurd (omega arith)
    pick (Some f) h = let z : ◌≡◌ {A = ℕ} 0 1 = cc in absurd (omega arith)
