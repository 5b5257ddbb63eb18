-- Rows put one after the other are the lists that the pieces say.
use Rattle.std.proofs.Common.{◌≡◌, ℕ, suc, ◌+◌, ◌-◌, ◌<◌, ◌≤◌, Bool, true, false, cond, eqb, ltb, leb, List, [], ◌∷◌, ◌++◌, map, length, drop, is_err, Some, None, Ok, Err, Option, Result, sym, refl, ap, ◌∙◌, subst, inl, inr, arith}
use Rattle.std.proofs.lemmas.List.{append_assoc, append-nil, length_push, length-append, length-map, length-drop, drop-map, drop_at, take_rest}
use Rattle.std.proofs.lemmas.Bool.{lt-ltb, le-ltb, le-leb, lt-leb, cases_lt}
use Rattle.std.specs.Option.{option_map}
use Rattle.text.specs.Lists.{each, each_all, Each}
use Rattle.text.specs.Pieces.{pieces}
use Rattle.text.specs.Rows.{items}
use Rattle.text.specs.declared.rows.Rows.{Rows}
use Rattle.text.proofs.Cuts.{pieces_some}
use Rattle.problem.specs.Cudf.{Constraint}
use Rattle.problem.specs.ConstraintLists.{Asked, Kept, asked_of, kept, limit_of, put, is_nil, stored, stored_all, Stores, then, all_of, constraint_list, conjunct_list, listed, conjoined, total}
use Rattle.problem.specs.Growth.{ok_mapped, list_at, conjuncts_at, settled, Grown}
use Rattle.problem.specs.Meaning.{constraint_of, list_of, conjuncts_of, conjuncts, front}
use Rattle.problem.specs.Words.{constraint}
use Rattle.problem.specs.declared.fault.ProblemFault.TheVariants.{TooMany}
use Rattle.problem.specs.declared.rows.ConstraintRow.{ConstraintRow}
use Rattle.problem.proofs.Growing.{front_short}

-- constraints of one conjunct ws rows: the last is marked
abbrev pub marks : List Constraint → List Asked
marks [] = []
marks (c ∷ cs) = record { constraint = c; last = is_nil cs } ∷ marks cs

abbrev fill : ℕ → Kept → List Asked → Kept
fill limit k [] = k
fill limit k (a ∷ bs) = fill limit (put limit k a) bs

fill_append : (limit : ℕ) (k : Kept) (ws bs : List Asked) → fill limit k (ws ++ bs) ≡ fill limit (fill limit k ws) bs
fill_append limit k [] bs = refl
fill_append limit k (a ∷ ws) bs = fill_append limit (put limit k a) ws bs

same_nil : (f : List ℕ → Option Constraint) (ps : List (List ℕ)) (cs : List Constraint) → all_of f ps ≡ Some cs → is_nil ps ≡ is_nil cs
same_nil f [] [] e = refl
same_nil f [] (c ∷ cs) e = absurd (let z : ◌≡◌ {A = ℕ} 0 1 = cc in omega arith)
same_nil f (p ∷ ps) cs e = at (f p) (all_of f ps) cs e
  where
    at : (o : Option Constraint) (r : Option (List Constraint)) (cs : List Constraint) → then o (λ a. then r (λ bs. Some (a ∷ bs))) ≡ Some cs → false ≡ is_nil cs
    at None r cs e = absurd (let z : ◌≡◌ {A = ℕ} 0 1 = cc in omega arith)
    at (Some a) None cs e = absurd (let z : ◌≡◌ {A = ℕ} 0 1 = cc in omega arith)
    at (Some a) (Some bs) [] e = absurd (let z : ◌≡◌ {A = ℕ} 0 1 = cc in omega arith)
    at (Some a) (Some bs) (c ∷ cs) e = refl

-- what the pieces of a list come to
stored_all_filled : (limit : ℕ) (k : Kept) (ps : List (List ℕ)) → stored limit k ps ≡ then (all_of constraint ps) (λ cs. Some (fill limit k (marks cs)))
stored_all_filled limit k [] = refl
stored_all_filled limit k (p ∷ ps) = at (constraint p) (all_of constraint ps) refl (λ a. stored_all_filled limit (put limit k (record { constraint = a; last = is_nil ps })) ps)
  where
    at : (o : Option Constraint) (r : Option (List Constraint)) → all_of constraint ps ≡ r →
        ((a : Constraint) → stored limit (put limit k (record { constraint = a; last = is_nil ps })) ps ≡ then (all_of constraint ps) (λ cs. Some (fill limit (put limit k (record { constraint = a; last = is_nil ps })) (marks cs)))) →
        then o (λ a. stored limit (put limit k (record { constraint = a; last = is_nil ps })) ps) ≡ then (then o (λ a. then r (λ bs. Some (a ∷ bs)))) (λ cs. Some (fill limit k (marks cs)))
    at None r e ih = refl
    at (Some a) None e ih = ih a ∙ ap (λ x. then x (λ cs. Some (fill limit (put limit k (record { constraint = a; last = is_nil ps })) (marks cs)))) e
    at (Some a) (Some bs) e ih =
        ih a ∙ ap (λ x. then x (λ cs. Some (fill limit (put limit k (record { constraint = a; last = is_nil ps })) (marks cs)))) e
        ∙ ap (λ b. Some (fill limit (put limit k (record { constraint = a; last = b })) (marks bs))) (same_nil constraint ps bs e)

abbrev conjunct : List ℕ → Option (List Constraint)
conjunct p = all_of constraint (pieces 124 p)

all_stored : (limit : ℕ) (k : Kept) (ps : List (List ℕ)) → stored_all limit k ps ≡ then (all_of conjunct ps) (λ gs. Some (fill limit k (each_all marks gs)))
all_stored limit k [] = refl
all_stored limit k (p ∷ ps) =
    ap (λ x. then x (λ m. stored_all limit m ps)) (stored_all_filled limit k (pieces 124 p))
    ∙ at (conjunct p) (all_of conjunct ps) refl (λ g. all_stored limit (fill limit k (marks g)) ps)
  where
    at : (o : Option (List Constraint)) (r : Option (List (List Constraint))) → all_of conjunct ps ≡ r →
        ((g : List Constraint) → stored_all limit (fill limit k (marks g)) ps ≡ then (all_of conjunct ps) (λ gs. Some (fill limit (fill limit k (marks g)) (each_all marks gs)))) →
        then (then o (λ cs. Some (fill limit k (marks cs)))) (λ m. stored_all limit m ps) ≡ then (then o (λ a. then r (λ bs. Some (a ∷ bs)))) (λ gs. Some (fill limit k (each_all marks gs)))
    at None r e ih = refl
    at (Some g) None e ih = ih g ∙ ap (λ x. then x (λ gs. Some (fill limit (fill limit k (marks g)) (each_all marks gs)))) e
    at (Some g) (Some gs) e ih =
        ih g ∙ ap (λ x. then x (λ gs. Some (fill limit (fill limit k (marks g)) (each_all marks gs)))) e
        ∙ ap Some (sym (fill_append limit k (marks g) (each_all marks gs)))

fill_fits : (limit : ℕ) (k : Kept) (ws : List Asked) → length k.rows + length ws ≤ limit → fill limit k ws ≡ record { rows = k.rows ++ ws; lost = k.lost }
fill_fits limit k [] h = rw (append-nil k.rows) refl
fill_fits limit k (a ∷ ws) h =
    let lt : ltb (length k.rows) limit ≡ true = lt-ltb (length k.rows) limit (omega arith) in
    let n = length_push k.rows a in
    let m : Kept = record { rows = k.rows ++ a ∷ []; lost = k.lost } in
    let e : put limit k a ≡ m = rw lt refl in
    ap (λ t. fill limit t ws) e ∙ fill_fits limit m ws (omega arith) ∙ rw (append_assoc k.rows (a ∷ []) ws) refl

lost_stays : (limit : ℕ) (k : Kept) (ws : List Asked) → k.lost ≡ true → (fill limit k ws).lost ≡ true
lost_stays limit k [] h = h
lost_stays limit k (a ∷ ws) h = lost_stays limit (put limit k a) ws (at (ltb (length k.rows) limit))
  where
    at : (b : Bool) → (cond {A = Kept} b (record { rows = k.rows ++ a ∷ []; lost = k.lost }) (record { rows = k.rows; lost = true })).lost ≡ true
    at true = h
    at false = refl

fill_lost : (limit : ℕ) (k : Kept) (ws : List Asked) → length k.rows ≤ limit → limit < length k.rows + length ws → (fill limit k ws).lost ≡ true
fill_lost limit k [] h l = absurd (omega arith)
fill_lost limit k (a ∷ ws) h l =
    elim (cases_lt (length k.rows) limit) [
      | inl lt ↦
          let b : ltb (length k.rows) limit ≡ true = lt-ltb (length k.rows) limit lt in
          let n = length_push k.rows a in
          let m : Kept = record { rows = k.rows ++ a ∷ []; lost = k.lost } in
          let e : put limit k a ≡ m = rw b refl in
          ap (λ t. (fill limit t ws).lost) e ∙ fill_lost limit m ws (omega arith) (omega arith)
      | inr ge ↦
          let b : ltb (length k.rows) limit ≡ false = le-ltb (length k.rows) limit ge in
          let m : Kept = record { rows = k.rows; lost = true } in
          let e : put limit k a ≡ m = rw b refl in
          ap (λ t. (fill limit t ws).lost) e ∙ lost_stays limit m ws refl
    ]

-- what the rows then are, and what the reading answered
abbrev Comes : {U F : Type 0} → List ℕ → Rows ConstraintRow → Option (List Asked) → Option (Result U F) → Rows ConstraintRow → Type 0
Comes text r None read s = read ≡ None
Comes text r (Some ws) read s =
    (length (items r) + length ws ≤ limit_of r → (option_map is_err read ≡ Some false) × (map (asked_of text) (drop (length (items r)) (items s)) ≡ ws))
    × (limit_of r < length (items r) + length ws → option_map is_err read ≡ Some true)

comes : {U F : Type 0} (text : List ℕ) (r s : Rows ConstraintRow) (o : Option (List Asked)) (z : Option Kept) (read : Option (Result U F)) → length (items r) ≤ limit_of r → z ≡ then o (λ ws. Some (fill (limit_of r) (kept text r false) ws)) → Stores text z read s → Comes text r o read s
comes text r s None z None h e st = refl
comes text r s None z (Some b) h e st = absurd (let x : ◌≡◌ {A = ℕ} 0 1 = cc in omega arith)
comes text r s (Some ws) z None h e st = absurd (let x : ◌≡◌ {A = ℕ} 0 1 = cc in omega arith)
comes text r s (Some ws) z (Some b) h e st = (fits, lost)
  where
    n : length (map (asked_of text) (items r)) ≡ length (items r)
    n = length-map (items r) (asked_of text)

    is : fill (limit_of r) (kept text r false) ws ≡ kept text s (is_err b)
    is = cc

    fits : length (items r) + length ws ≤ limit_of r → (Some (is_err b) ≡ Some false) × (map (asked_of text) (drop (length (items r)) (items s)) ≡ ws)
    fits l =
        let f = sym is ∙ fill_fits (limit_of r) (kept text r false) ws (omega (arith, n)) in
        let rows : map (asked_of text) (items s) ≡ map (asked_of text) (items r) ++ ws = ap (λ k. k.rows) f in
        (ap (λ k. Some k.lost) f, sym (drop-map (asked_of text) (length (items r)) (items s)) ∙ ap (drop (length (items r))) rows ∙ drop_at (map (asked_of text) (items r)) ws (length (items r)) n)

    lost : limit_of r < length (items r) + length ws → Some (is_err b) ≡ Some true
    lost l = ap Some (sym (ap (λ k. k.lost) is) ∙ fill_lost (limit_of r) (kept text r false) ws (omega (arith, n)) (omega (arith, n)))

-- rows in words
marks_words : (cs : List Constraint) → map (λ a. a.constraint) (marks cs) ≡ cs
marks_words [] = refl
marks_words (c ∷ cs) = ap (λ t. c ∷ t) (marks_words cs)

marks-length : (cs : List Constraint) → length (marks cs) ≡ length cs
marks-length [] = refl
marks-length (c ∷ cs) = ap suc (marks-length cs)

asked_words : (text : List ℕ) (rows : List ConstraintRow) → map (λ a. a.constraint) (map (asked_of text) rows) ≡ map (constraint_of text) rows
asked_words text [] = refl
asked_words text (c ∷ rows) = ap (λ t. constraint_of text c ∷ t) (asked_words text rows)

abbrev groups : List Asked → List (List Constraint)
groups [] = []
groups (a ∷ ws) = cond a.last ((a.constraint ∷ []) ∷ groups ws) (front a.constraint (groups ws))

front_words : (text : List ℕ) (c : ConstraintRow) (gs : List (List ConstraintRow)) → each (each (constraint_of text)) (front c gs) ≡ front (constraint_of text c) (each (each (constraint_of text)) gs)
front_words text c [] = refl
front_words text c (g ∷ gs) = refl

conjuncts_words : (text : List ℕ) (rows : List ConstraintRow) → each (each (constraint_of text)) (conjuncts rows) ≡ groups (map (asked_of text) rows)
conjuncts_words text [] = refl
conjuncts_words text (c ∷ rows) = at c.last (conjuncts_words text rows)
  where
    at : (b : Bool) → each (each (constraint_of text)) (conjuncts rows) ≡ groups (map (asked_of text) rows) →
        each (each (constraint_of text)) (cond b ((c ∷ []) ∷ conjuncts rows) (front c (conjuncts rows))) ≡ cond b ((constraint_of text c ∷ []) ∷ groups (map (asked_of text) rows)) (front (constraint_of text c) (groups (map (asked_of text) rows)))
    at true h = ap (λ t. (constraint_of text c ∷ []) ∷ t) h
    at false h = front_words text c (conjuncts rows) ∙ ap (front (constraint_of text c)) h

groups-marks : (g : List Constraint) (ws : List Asked) → 0 < length g → groups (marks g ++ ws) ≡ g ∷ groups ws
groups-marks [] ws h = absurd (omega arith)
groups-marks (c ∷ []) ws h = refl
groups-marks (c ∷ d ∷ g) ws h = ap (front c) (groups-marks (d ∷ g) ws (omega arith))

groups_all : (gs : List (List Constraint)) → Each (λ g. 0 < length g) gs → groups (each_all marks gs) ≡ gs
groups_all [] h = refl
groups_all (g ∷ gs) h = groups-marks g (each_all marks gs) h.0 ∙ ap (λ t. g ∷ t) (groups_all gs h.1)

total-length : (gs : List (List Constraint)) → length (each_all marks gs) ≡ total gs
total-length [] = refl
total-length (g ∷ gs) = length-append (marks g) (each_all marks gs) ∙ ap (λ n. n + length (each_all marks gs)) (marks-length g) ∙ ap (λ n. length g + n) (total-length gs)

-- a conjunct has at least one constraint
conjunct_some : (ps : List (List ℕ)) (g : List Constraint) → 0 < length ps → all_of constraint ps ≡ Some g → 0 < length g
conjunct_some ps [] h e = absurd (let z = same_nil constraint ps [] e in at ps h z)
  where
    at : (qs : List (List ℕ)) → 0 < length qs → is_nil qs ≡ true → ⊥
    at [] h z = omega arith
    at (q ∷ qs) h z = let x : ◌≡◌ {A = ℕ} 0 1 = cc in omega arith
conjunct_some ps (c ∷ g) h e = omega arith

conjuncts_some : (ps : List (List ℕ)) (gs : List (List Constraint)) → all_of conjunct ps ≡ Some gs → Each (λ g. 0 < length g) gs
conjuncts_some [] [] e = tt
conjuncts_some [] (g ∷ gs) e = absurd (let z : ◌≡◌ {A = ℕ} 0 1 = cc in omega arith)
conjuncts_some (p ∷ ps) gs e = at (conjunct p) (all_of conjunct ps) gs refl refl e (λ hs. conjuncts_some ps hs)
  where
    at : (o : Option (List Constraint)) (r : Option (List (List Constraint))) (gs : List (List Constraint)) → conjunct p ≡ o → all_of conjunct ps ≡ r → then o (λ a. then r (λ bs. Some (a ∷ bs))) ≡ Some gs → ((hs : List (List Constraint)) → all_of conjunct ps ≡ Some hs → Each (λ g. 0 < length g) hs) → Each (λ g. 0 < length g) gs
    at None r gs q w e ih = absurd (let z : ◌≡◌ {A = ℕ} 0 1 = cc in omega arith)
    at (Some g) None gs q w e ih = absurd (let z : ◌≡◌ {A = ℕ} 0 1 = cc in omega arith)
    at (Some g) (Some hs) gs q w e ih =
        let f : g ∷ hs ≡ gs = cc in
        subst (Each (λ g. 0 < length g)) f (conjunct_some (pieces 124 p) g (pieces_some 124 p) q, ih hs w)

-- the run of all rows after the first ones
list_from : (text : List ℕ) (rows : List ConstraintRow) (first : ℕ) (cs : List Constraint) → map (asked_of text) (drop first rows) ≡ marks cs → list_of text rows (record { first = first; len = length rows - first }) ≡ cs
list_from text rows first cs h =
    ap (each (constraint_of text)) (take_rest rows first) ∙ sym (asked_words text (drop first rows)) ∙ ap (map (λ a. a.constraint)) h ∙ marks_words cs

conjuncts_from : (text : List ℕ) (rows : List ConstraintRow) (first : ℕ) (gs : List (List Constraint)) → Each (λ g. 0 < length g) gs → map (asked_of text) (drop first rows) ≡ each_all marks gs → conjuncts_of text rows (record { first = first; len = length rows - first }) ≡ gs
conjuncts_from text rows first gs some h =
    ap (λ t. each (each (constraint_of text)) (conjuncts t)) (take_rest rows first) ∙ conjuncts_words text (drop first rows) ∙ ap groups h ∙ groups_all gs some

grown_count : (text : List ℕ) (rows : List ConstraintRow) (first : ℕ) (ws : List Asked) → first ≤ length rows → map (asked_of text) (drop first rows) ≡ ws → length rows ≡ first + length ws
grown_count text rows first ws le h = omega (arith, ap length h, length-map (drop first rows) (asked_of text), length-drop first rows)

-- what the reading answered, as a run or a fault
settled_full : {U F : Type 0} (first count n : ℕ) (read : Option (Result U F)) → option_map is_err read ≡ Some true → settled first count n read ≡ Err (TooMany n)
settled_full first count n None h = absurd (let z : ◌≡◌ {A = ℕ} 0 1 = cc in omega arith)
settled_full first count n (Some (Ok x)) h = absurd (let z : ◌≡◌ {A = ℕ} 0 1 = cc in omega arith)
settled_full first count n (Some (Err x)) h = refl

settled_placed : {U F : Type 0} (first count n : ℕ) (read : Option (Result U F)) → option_map is_err read ≡ Some false → settled first count n read ≡ Ok (record { first = first; len = count - first })
settled_placed first count n None h = absurd (let z : ◌≡◌ {A = ℕ} 0 1 = cc in omega arith)
settled_placed first count n (Some (Ok x)) h = refl
settled_placed first count n (Some (Err x)) h = absurd (let z : ◌≡◌ {A = ℕ} 0 1 = cc in omega arith)

-- what a list of constraints answers
pub list_read : {U F : Type 0} (text v : List ℕ) (r s : Rows ConstraintRow) (n : ℕ) (read : Option (Result U F)) → eqb (length v) 0 ≡ false → length (items r) ≤ limit_of r → Grown text r s → Stores text (stored (limit_of r) (kept text r false) (pieces 44 v)) read s → ok_mapped (list_at text s) (settled (length (items r)) (length (items s)) n read) ≡ listed (limit_of r) (length (items r)) n (constraint_list v)
list_read text v r s n read some few grown st =
    at (all_of constraint (pieces 44 v)) (rw some refl) (stored_all_filled (limit_of r) (kept text r false) (pieces 44 v))
  where
    at : (o : Option (List Constraint)) → constraint_list v ≡ o → stored (limit_of r) (kept text r false) (pieces 44 v) ≡ then o (λ cs. Some (fill (limit_of r) (kept text r false) (marks cs))) → ok_mapped (list_at text s) (settled (length (items r)) (length (items s)) n read) ≡ listed (limit_of r) (length (items r)) n (constraint_list v)
    at None e f =
        let k : read ≡ None = comes text r s None _ read few f st in
        rw (k, e) refl
    at (Some cs) e f =
        let k = comes text r s (Some (marks cs)) _ read few f st in
        let m = marks-length cs in
        let short = front_short (items r) (items s) grown.front in
        elim (cases_lt (limit_of r) (length (items r) + length cs)) [
          | inl over ↦
              let b : leb (length (items r) + length cs) (limit_of r) ≡ false = lt-leb (length (items r) + length cs) (limit_of r) over in
              let l = settled_full (length (items r)) (length (items s)) n read (k.1 (omega arith)) in
              rw (l, e, b) refl
          | inr under ↦
              let b : leb (length (items r) + length cs) (limit_of r) ≡ true = le-leb (length (items r) + length cs) (limit_of r) under in
              let l = k.0 (omega arith) in
              let c : length (items s) ≡ length (items r) + length cs = grown_count text (items s) (length (items r)) (marks cs) short l.1 ∙ ap (λ x. length (items r) + x) m in
              let x = list_from text (items s) (length (items r)) cs l.1 in
              rw (settled_placed (length (items r)) (length (items s)) n read l.0, e, b) (ap (λ y. Ok (y, length (items s))) x ∙ ap (λ y. Ok (cs, y)) c)
        ]

pub conjuncts_read : {U F : Type 0} (text v : List ℕ) (r s : Rows ConstraintRow) (n : ℕ) (read : Option (Result U F)) → eqb (length v) 0 ≡ false → length (items r) ≤ limit_of r → Grown text r s → Stores text (stored_all (limit_of r) (kept text r false) (pieces 44 v)) read s → ok_mapped (conjuncts_at text s) (settled (length (items r)) (length (items s)) n read) ≡ conjoined (limit_of r) (length (items r)) n (conjunct_list v)
conjuncts_read text v r s n read some few grown st =
    at (all_of conjunct (pieces 44 v)) refl (rw some refl) (all_stored (limit_of r) (kept text r false) (pieces 44 v))
  where
    at : (o : Option (List (List Constraint))) → all_of conjunct (pieces 44 v) ≡ o → conjunct_list v ≡ o → stored_all (limit_of r) (kept text r false) (pieces 44 v) ≡ then o (λ gs. Some (fill (limit_of r) (kept text r false) (each_all marks gs))) → ok_mapped (conjuncts_at text s) (settled (length (items r)) (length (items s)) n read) ≡ conjoined (limit_of r) (length (items r)) n (conjunct_list v)
    at None q e f =
        let k : read ≡ None = comes text r s None _ read few f st in
        rw (k, e) refl
    at (Some gs) q e f =
        let k = comes text r s (Some (each_all marks gs)) _ read few f st in
        let m = total-length gs in
        let short = front_short (items r) (items s) grown.front in
        elim (cases_lt (limit_of r) (length (items r) + total gs)) [
          | inl over ↦
              let b : leb (length (items r) + total gs) (limit_of r) ≡ false = lt-leb (length (items r) + total gs) (limit_of r) over in
              let l = settled_full (length (items r)) (length (items s)) n read (k.1 (omega arith)) in
              rw (l, e, b) refl
          | inr under ↦
              let b : leb (length (items r) + total gs) (limit_of r) ≡ true = le-leb (length (items r) + total gs) (limit_of r) under in
              let l = k.0 (omega arith) in
              let c : length (items s) ≡ length (items r) + total gs = grown_count text (items s) (length (items r)) (each_all marks gs) short l.1 ∙ ap (λ x. length (items r) + x) m in
              let x = conjuncts_from text (items s) (length (items r)) gs (conjuncts_some (pieces 44 v) gs q) l.1 in
              rw (settled_placed (length (items r)) (length (items s)) n read l.0, e, b) (ap (λ y. Ok (y, length (items s))) x ∙ ap (λ y. Ok (gs, y)) c)
        ]
