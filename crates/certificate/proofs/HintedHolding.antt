-- The steps that are read of records stand written in them.
use Rattle.std.proofs.Common.{◌≡◌, ℕ, zero, suc, ◌+◌, ◌-◌, ◌*◌, ◌/◌, ◌%◌, ◌^◌, ◌<◌, ◌≤◌, Bool, true, false, cond, ◌&&◌, eqb, ltb, leb, ◌⊎◌, List, [], ◌∷◌, ◌++◌, length, get_or, take, drop, Some, None, Option, sym, refl, ap, ◌∙◌, inl, inr, ⊎_elim, arith, w8, w32, Fits, SFits, to_z, of_z}
use mir.ValLaws.{to_z-Fits}
use Rattle.std.proofs.lemmas.List.{append_assoc, append-nil, take-append-drop, length-take-le, drop-drop}
use Rattle.std.proofs.lemmas.Slice.Eq.{bytes_eq-Decides}
use Rattle.std.proofs.lemmas.Int.{of_z-to_z}
use Rattle.std.proofs.lemmas.Bool.{cond_both, and_parts, leb-true, ltb-true, ltb-false, eqb-true}
use Rattle.std.specs.Option.{option_map}
use Rattle.text.proofs.Members.{each-each, each_weaker, each_left, each_right}
use Rattle.text.specs.Lists.{each, each_all, Each}
use Rattle.certificate.specs.Form.{mark, is_hinted}
use Rattle.certificate.specs.Hinted.{short, word, words, counted, hinted_addition, addition_entry, deletion_entry, entry, concluded, records_in, records, stated, hinted}
use Rattle.certificate.specs.Stream.{Step, finished, broken, Stream, on_top, ended, unreadable, or_unreadable, places, numbered, then}
use Rattle.certificate.specs.Writing.{short_bytes, word_bytes, record_bytes, InRecord, HintedHeld}
use Rattle.certificate.proofs.FourBytes.{length-each}
use Rattle.certificate.proofs.Unread.{Within, entry_within}

abbrev pub Byte : ℕ → Type 0
Byte b = b < 256

pub bytes_each : (bs : List ℕ) → ((i : ℕ) → Fits w8 (get_or bs i 0)) → Each Byte bs
bytes_each [] h = tt
bytes_each (b ∷ bs) h = ((h 0).fits, bytes_each bs (λ i. h (suc i)))

-- what holds of an optional value
abbrev pub If : {X : Type 0} → (X → Type 0) → Option X → Type 0
If Q None = Unit {0}
If Q (Some x) = Q x

short_of : (a b : ℕ) → a < 256 → short_bytes (short a b) ≡ a ∷ b ∷ []
short_of a b l =
    let e : short a b % 256 ≡ a = omega arith in
    let f : short a b / 256 ≡ b = omega arith in
    rw (e, f) refl

word_of : (a b c d : ℕ) → a < 256 → b < 256 → c < 256 → word_bytes (word a b c d) ≡ a ∷ b ∷ c ∷ d ∷ []
word_of a b c d k l m =
    let n = word a b c d in
    let e : n % 256 ≡ a = omega arith in
    let f : n / 256 ≡ b + c * 256 + d * 65536 = omega arith in
    let g : (b + c * 256 + d * 65536) % 256 ≡ b = omega arith in
    let h : (b + c * 256 + d * 65536) / 256 ≡ c + d * 256 = omega arith in
    let i : (c + d * 256) % 256 ≡ c = omega arith in
    let j : (c + d * 256) / 256 ≡ d = omega arith in
    rw (e, f, g, h, i, j) refl

record Spelt (ws : List ℕ) (n : ℕ) : Type 0 where
  same : each_all word_bytes (words ws) ≡ ws
  small : Each (λ x. x < 2 ^ 32) (words ws)
  many : length (words ws) ≡ n

words_of : (ws : List ℕ) (n : ℕ) → Each Byte ws → length ws ≡ 4 * n → Spelt ws n
words_of [] n h e = record { same = refl; small = tt; many = omega arith }
words_of (a ∷ []) n h e = absurd (omega arith)
words_of (a ∷ b ∷ []) n h e = absurd (omega arith)
words_of (a ∷ b ∷ c ∷ []) n h e = absurd (omega arith)
words_of (a ∷ b ∷ c ∷ d ∷ ws) n h e =
    let s = words_of ws (n - 1) h.1.1.1.1 (omega arith) in
    let k = h.0 in
    let l = h.1.0 in
    let m = h.1.1.0 in
    let o = h.1.1.1.0 in
    let t = s.same in
    let u = s.many in
    record {
      same = ap (λ x. x ++ each_all word_bytes (words ws)) (word_of a b c d k l m) ∙ ap (λ y. a ∷ b ∷ c ∷ d ∷ y) t;
      small = (omega arith, s.small);
      many = omega arith;
    }

literals_of_words : (xs : List ℕ) → Each (λ x. x < 2 ^ 32) xs → each_all (λ z. word_bytes (of_z w32 z)) (each (to_z w32) xs) ≡ each_all word_bytes xs
literals_of_words [] h = refl
literals_of_words (x ∷ xs) h = rw (of_z-to_z w32 x h.0, literals_of_words xs h.1) refl

record Counts (most : ℕ) (bs p q : List ℕ) : Type 0 where
  n : ℕ
  few : n ≤ most
  short : n < 2 ^ 16
  size : length p ≡ 4 * n
  is : bs ≡ short_bytes n ++ (p ++ q)
  front : Each Byte p
  back : Each Byte q

counted_of : (most : ℕ) (bs : List ℕ) → Each Byte bs → If (λ e. Counts most bs e.0 e.1) (counted most bs)
counted_of most [] h = tt
counted_of most (a ∷ []) h = tt
counted_of most (a ∷ b ∷ bs) h =
    cond_both (leb (short a b) most && leb (4 * short a b) (length bs)) (Some (take (4 * short a b) bs, drop (4 * short a b) bs)) None (If (λ e. Counts most (a ∷ b ∷ bs) e.0 e.1))
    (λ t.
    let s = and_parts (leb (short a b) most) (leb (4 * short a b) (length bs)) t in
    let k = take-append-drop (4 * short a b) bs in
    let all : Each Byte (take (4 * short a b) bs ++ drop (4 * short a b) bs) = rw k h.1.1 in
    let l = h.0 in
    let m = h.1.0 in
    record {
      n = short a b;
      few = leb-true _ _ s.0;
      short = omega arith;
      size = length-take-le (4 * short a b) bs (leb-true _ _ s.1);
      is = sym (ap (λ x. x ++ (take (4 * short a b) bs ++ drop (4 * short a b) bs)) (short_of a b l) ∙ ap (λ y. a ∷ b ∷ y) k);
      front = each_left Byte (take (4 * short a b) bs) (drop (4 * short a b) bs) all;
      back = each_right Byte (take (4 * short a b) bs) (drop (4 * short a b) bs) all;
    })
    (λ t. tt)

abbrev EntryHeld : List ℕ → (Step × List ℕ) → Type 0
EntryHeld bs e = InRecord e.0 × (bs ≡ record_bytes e.0 ++ e.1) × Each Byte e.1

addition_held : (bs p r q s : List ℕ) → Counts 512 bs p r → Counts 65535 r q s → EntryHeld (97 ∷ bs) (hinted_addition p q, s)
addition_held bs p r q s a b =
    let x = words_of p a.n a.front a.size in
    let y = words_of q b.n b.front b.size in
    let c = each (to_z w32) (words p) in
    let l : length c ≡ a.n = length-each (to_z w32) (words p) ∙ x.many in
    let few = a.few in
    let fits = each-each (SFits w32) (to_z w32) (words p) (each_weaker (λ n. n < 2 ^ 32) (λ n. SFits w32 (to_z w32 n)) (λ n k. to_z-Fits w32 n (record { fits = k })) (words p) x.small) in
    let m = y.many in
    let short = b.short in
    let cs : each_all (λ z. word_bytes (of_z w32 z)) c ≡ p = literals_of_words (words p) x.small ∙ x.same in
    let ks : each_all word_bytes (words q) ≡ q = y.same in
    let w : short_bytes a.n ++ (p ++ (short_bytes b.n ++ (q ++ s))) ≡ short_bytes a.n ++ ((p ++ (short_bytes b.n ++ q)) ++ s) = ap (λ t. short_bytes a.n ++ t) (sym (append_assoc p (short_bytes b.n ++ q) s)) in
    let e : bs ≡ short_bytes (length c) ++ ((each_all (λ z. word_bytes (of_z w32 z)) c ++ (short_bytes (length (words q)) ++ each_all word_bytes (words q))) ++ s) = rw (l, cs, ks, m) (a.is ∙ ap (λ t. short_bytes a.n ++ (p ++ t)) b.is ∙ w) in
    ((omega arith, fits, omega arith, y.small), ap (λ t. 97 ∷ t) e, b.back)

deletion_held : (bs : List ℕ) → Each Byte bs → If (EntryHeld (100 ∷ bs)) (deletion_entry bs)
deletion_held [] h = tt
deletion_held (a ∷ []) h = tt
deletion_held (a ∷ b ∷ []) h = tt
deletion_held (a ∷ b ∷ c ∷ []) h = tt
deletion_held (a ∷ b ∷ c ∷ d ∷ bs) h =
    let k = h.0 in
    let l = h.1.0 in
    let m = h.1.1.0 in
    let o = h.1.1.1.0 in
    (omega arith, ap (λ x. 100 ∷ (x ++ bs)) (sym (word_of a b c d k l m)), h.1.1.1.1)

hints_held : (bs p r : List ℕ) → Counts 512 bs p r → (o : Option (List ℕ × List ℕ)) → If (λ e. Counts 65535 r e.0 e.1) o → If (EntryHeld (97 ∷ bs)) (option_map (λ q. (hinted_addition p q.0, q.1)) o)
hints_held bs p r a None h = tt
hints_held bs p r a (Some q) h = addition_held bs p r q.0 q.1 a h

literals_held : (bs : List ℕ) (o : Option (List ℕ × List ℕ)) → If (λ e. Counts 512 bs e.0 e.1) o → If (EntryHeld (97 ∷ bs)) (then o (λ p. option_map (λ q. (hinted_addition p.0 q.0, q.1)) (counted 65535 p.1)))
literals_held bs None h = tt
literals_held bs (Some p) h = hints_held bs p.0 p.1 h (counted 65535 p.1) (counted_of 65535 p.1 h.back)

entry_held : (b : ℕ) (bs : List ℕ) → Each Byte bs → If (EntryHeld (b ∷ bs)) (entry (b ∷ bs))
entry_held b bs h =
    cond_both (eqb b 97) (addition_entry bs) (cond (eqb b 100) (deletion_entry bs) None) (If (EntryHeld (b ∷ bs)))
    (λ t. let e : b ≡ 97 = eqb-true b 97 t in rw e (literals_held bs (counted 512 bs) (counted_of 512 bs h)))
    (λ _. cond_both (eqb b 100) (deletion_entry bs) None (If (EntryHeld (b ∷ bs))) (λ t. let e : b ≡ 100 = eqb-true b 100 t in rw e (deletion_held bs h)) (λ _. tt))

record RecordsHeld (o : Option ℕ) (n : ℕ) (bs : List ℕ) (s : Stream) : Type 0 where
  ts : List Step
  steps : s.steps ≡ numbered n ts
  good : Each InRecord ts
  left : List ℕ
  starts : bs ≡ each_all record_bytes ts ++ left
  whole : s.ending ≡ finished → (left ≡ []) × (o ≡ Some (n + length ts))
  fault : (p : ℕ) → s.ending ≡ broken p → (p ≡ 0) ⊎ (p ≡ suc (n + length ts))

pub not_broken : {P : Type 0} (p : ℕ) → broken p ≡ finished → P
not_broken p e = let z : ◌≡◌ {A = ℕ} 0 1 = cc in absurd (omega arith)

pub same_place : (p q : ℕ) → broken p ≡ broken q → q ≡ p
same_place p q e = cc

broken_held : (o : Option ℕ) (n p : ℕ) (bs : List ℕ) → p ≡ suc n → RecordsHeld o n bs (unreadable p)
broken_held o n p bs e = record { ts = []; steps = refl; good = tt; left = bs; starts = refl; whole = λ f. not_broken p f; fault = λ q f. let g = same_place p q f in inr (omega arith) }

concluded_of : (o : Option ℕ) (n : ℕ) → concluded o n ≡ finished → o ≡ Some (n + 0)
concluded_of None n e = not_broken 0 e
concluded_of (Some m) n e = pick (eqb m n) refl e
  where
    pick : (b : Bool) → eqb m n ≡ b → cond b finished (broken 0) ≡ finished → Some m ≡ Some (n + 0)
    pick true q h = ap Some (omega (arith, eqb-true m n q))
    pick false q h = not_broken 0 h

concluded_at : (o : Option ℕ) (n p : ℕ) → concluded o n ≡ broken p → p ≡ 0
concluded_at None n p e = same_place 0 p e
concluded_at (Some m) n p e = pick (eqb m n) e
  where
    pick : (b : Bool) → cond b finished (broken 0) ≡ broken p → p ≡ 0
    pick true h = not_broken p (sym h)
    pick false h = same_place 0 p h

end_held : (o : Option ℕ) (n : ℕ) (bs : List ℕ) → bs ≡ [] → RecordsHeld o n bs (ended (concluded o n))
end_held o n bs e = record { ts = []; steps = refl; good = tt; left = []; starts = e; whole = λ h. (refl, concluded_of o n h); fault = λ p h. inl (concluded_at o n p h) }

step_held : (o : Option ℕ) (n : ℕ) (bs r : List ℕ) (t : Step) (s : Stream) → InRecord t → bs ≡ record_bytes t ++ r → RecordsHeld o (suc n) r s → RecordsHeld o n bs (on_top (record { place = suc n; step = t }) s)
step_held o n bs r t s p e h =
    let a = append_assoc (record_bytes t) (each_all record_bytes h.ts) h.left in
    let q : suc n + length h.ts ≡ n + suc (length h.ts) = omega arith in
    record {
      ts = t ∷ h.ts;
      steps = ap (λ x. record { place = suc n; step = t } ∷ x) h.steps;
      good = (p, h.good);
      left = h.left;
      starts = e ∙ ap (λ x. record_bytes t ++ x) h.starts ∙ sym a;
      whole = λ f. let w = h.whole f in (w.0, w.1 ∙ ap Some q);
      fault = λ p f. ⊎_elim inl (λ e. inr (e ∙ ap suc q)) (h.fault p f);
    }

records_held : (k : ℕ) (o : Option ℕ) (n : ℕ) (bs : List ℕ) → n ≤ places → length bs ≤ k → Each Byte bs → RecordsHeld o n bs (records_in k o n bs)
records_held zero o n [] m l h = end_held o n [] refl
records_held zero o n (b ∷ bs) m l h = absurd (omega arith)
records_held (suc k) o n [] m l h = end_held o n [] refl
records_held (suc k) o n (b ∷ bs) m l h =
    cond_both (ltb n places) (or_unreadable (suc n) (entry (b ∷ bs)) (λ e. on_top (record { place = suc n; step = e.0 }) (records_in k o (suc n) e.1))) (unreadable (suc places)) (RecordsHeld o n (b ∷ bs))
    (λ t. let i = ltb-true n places t in pick (entry (b ∷ bs)) (entry_held b bs h.1) (entry_within b bs) (λ r. records_held k o (suc n) r (omega arith)))
    (λ t. let i = ltb-false n places t in broken_held o n (suc places) (b ∷ bs) (omega arith))
  where
    pick : (e : Option (Step × List ℕ)) → If (EntryHeld (b ∷ bs)) e → Within (length bs) e → ((r : List ℕ) → length r ≤ k → Each Byte r → RecordsHeld o (suc n) r (records_in k o (suc n) r)) → RecordsHeld o n (b ∷ bs) (or_unreadable (suc n) e (λ e. on_top (record { place = suc n; step = e.0 }) (records_in k o (suc n) e.1)))
    pick None a w ih = broken_held o n (suc n) (b ∷ bs) refl
    pick (Some e) a w ih = step_held o n (b ∷ bs) e.1 e.0 (records_in k o (suc n) e.1) a.0 a.1 (ih e.1 (omega arith) a.2)

trailer_of : (bs : List ℕ) (m : ℕ) → Each Byte bs → stated bs ≡ Some m → bs ≡ word_bytes m ++ drop 4 bs
trailer_of [] m h e = let z : ◌≡◌ {A = ℕ} 0 1 = cc in absurd (omega arith)
trailer_of (a ∷ []) m h e = let z : ◌≡◌ {A = ℕ} 0 1 = cc in absurd (omega arith)
trailer_of (a ∷ b ∷ []) m h e = let z : ◌≡◌ {A = ℕ} 0 1 = cc in absurd (omega arith)
trailer_of (a ∷ b ∷ c ∷ []) m h e = let z : ◌≡◌ {A = ℕ} 0 1 = cc in absurd (omega arith)
trailer_of (a ∷ b ∷ c ∷ d ∷ bs) m h e =
    let q : word a b c d ≡ m = cc in
    let w = word_of a b c d h.0 h.1.0 h.1.1.0 in
    ap (λ t. t ++ bs) (sym w ∙ ap word_bytes q)

marked : (bs : List ℕ) → is_hinted bs ≡ true → drop (length bs - 4) bs ≡ mark
marked bs e = (bytes_eq-Decides (drop (length bs - 4) bs) mark).0 e

pub hinted_held : (bs : List ℕ) → Each Byte bs → is_hinted bs ≡ true → HintedHeld bs (hinted bs)
hinted_held bs h e =
    cond_both (ltb (length bs) 8) (unreadable 0) (records (stated (drop (length bs - 8) bs)) 0 (take (length bs - 8) bs)) (HintedHeld bs)
    (λ _. record { ts = []; steps = refl; good = tt; left = bs; starts = refl; whole = λ f. not_broken 0 f; fault = λ p f. inl (same_place 0 p f) })
    (λ t.
    let l = ltb-false (length bs) 8 t in
    let i = length bs - 8 in
    let all : Each Byte (take i bs ++ drop i bs) = rw (take-append-drop i bs) h in
    let r = records_held (length (take i bs)) (stated (drop i bs)) 0 (take i bs) (omega arith) (omega arith) (each_left Byte (take i bs) (drop i bs) all) in
    let d : drop 4 (drop i bs) ≡ mark = drop-drop 4 i bs ∙ ap (λ k. drop k bs) (omega arith) ∙ marked bs e in
    record {
      ts = r.ts;
      steps = r.steps;
      good = r.good;
      left = r.left ++ drop i bs;
      starts = sym (take-append-drop i bs) ∙ ap (λ x. x ++ drop i bs) r.starts ∙ append_assoc (each_all record_bytes r.ts) r.left (drop i bs);
      whole = λ f.
          let w = r.whole f in
          let z : 0 + length r.ts ≡ length r.ts = omega arith in
          let s = trailer_of (drop i bs) (length r.ts) (each_right Byte (take i bs) (drop i bs) all) (w.1 ∙ ap Some z) in
          let x : take i bs ≡ each_all record_bytes r.ts = r.starts ∙ ap (λ y. each_all record_bytes r.ts ++ y) w.0 ∙ append-nil (each_all record_bytes r.ts) in
          let y : drop i bs ≡ word_bytes (length r.ts) ++ mark = s ∙ ap (λ m. word_bytes (length r.ts) ++ m) d in
          sym (take-append-drop i bs) ∙ ap (λ a. a ++ drop i bs) x ∙ ap (λ b. each_all record_bytes r.ts ++ b) y;
      fault = λ p f. let z : 0 + length r.ts ≡ length r.ts = omega arith in ⊎_elim inl (λ e. inr (e ∙ ap suc z)) (r.fault p f);
    })
