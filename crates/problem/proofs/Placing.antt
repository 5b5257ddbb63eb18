-- The ways through the readers of constraints.
use Rattle.std.proofs.Common.{suc, not, ltb, ◌+◌, unwrap_or, inl, inr, [], ◌∷◌, ◌≡◌, ℕ, ◌-◌, ◌≤◌, Bool, true, false, cond, eqb, List, length, take, drop, IfSome, Some, None, Option, sym, refl, ap, ◌∙◌, arith}
use Rattle.std.proofs.lemmas.List.{take_rest}
use Rattle.std.proofs.lemmas.Bool.Decides.{nat_tests}
use Rattle.std.proofs.lemmas.Bool.{lt-ltb, le-ltb, cases_lt}
use Rattle.std.specs.List.{position, position_or_len}
use Rattle.std.specs.Option.{option_map}
use Rattle.text.proofs.Clamps.{word_front, word_length}
use Rattle.text.specs.Spaces.{unled, trimmed}
use Rattle.text.specs.Span.{span}
use Rattle.text.specs.Word.{word_in, Inside}
use Rattle.text.specs.declared.word.Word.{Word}
use Rattle.problem.specs.Meaning.{constraint_of}
use Rattle.problem.specs.Placed.{asks, compared_by, related_to, Reads}
use Rattle.problem.specs.Rows.{ConstraintOk}
use Rattle.problem.specs.Words.{operator, version, name_len, asked, compared, related, named, constraint}
use Rattle.problem.specs.declared.rows.Relation.{Relation}
use Rattle.problem.specs.declared.rows.Relation.TheVariants.{Any}
use Rattle.problem.specs.declared.rows.ConstraintRow.{ConstraintRow}

-- how many stand at the front, by the place of the first byte that fails the test
counted_alike : (t : ℕ → Bool) (xs : List ℕ) → position_or_len (λ x. not (t x)) xs ≡ span t xs
counted_alike t [] = refl
counted_alike t (x ∷ xs) = at (t x) (counted_alike t xs)
  where
    at : (b : Bool) → position_or_len (λ x. not (t x)) xs ≡ span t xs → cond (not (not b)) (1 + position_or_len (λ x. not (t x)) xs) 0 ≡ cond b (suc (span t xs)) 0
    at true h = omega arith
    at false h = refl

span_within : (t : ℕ → Bool) (xs : List ℕ) → span t xs ≤ length xs
span_within t [] = omega arith
span_within t (x ∷ xs) = at (t x) (span_within t xs)
  where
    at : (b : Bool) → span t xs ≤ length xs → cond b (suc (span t xs)) 0 ≤ length (x ∷ xs)
    at true h = omega arith
    at false h = omega arith

or_all : (n m : ℕ) → n ≤ m → unwrap_or (cond (ltb n m) (Some n) None) m ≡ n
or_all n m h =
    elim (cases_lt n m) [
      | inl l ↦ let a : ltb n m ≡ true = lt-ltb n m l in rw a refl
      | inr l ↦ let a : ltb n m ≡ false = le-ltb n m l in rw a (omega arith)
    ]

pub span_position : (t : ℕ → Bool) (xs : List ℕ) → unwrap_or (position (λ x. not (t x)) xs) (length xs) ≡ span t xs
span_position t xs = ap (λ n. unwrap_or (cond (ltb n (length xs)) (Some n) None) (length xs)) (counted_alike t xs) ∙ or_all (span t xs) (length xs) (span_within t xs)

-- a row in words
asks_words : (text : List ℕ) (w : Word) (last : Bool) (rel : Relation) (o : Option ℕ) → option_map (constraint_of text) (asks w last rel o) ≡ asked (word_in text w) rel o
asks_words text w last rel None = refl
asks_words text w last rel (Some v) = refl

compared_words : (text : List ℕ) (w : Word) (last : Bool) (rest : List ℕ) (o : Option (Relation × ℕ)) → option_map (constraint_of text) (compared_by w last rest o) ≡ compared (word_in text w) rest o
compared_words text w last rest None = refl
compared_words text w last rest (Some p) = asks_words text w last p.0 (version (unled (drop p.1 rest)))

related_words : (text : List ℕ) (w : Word) (last : Bool) (rest : List ℕ) → option_map (constraint_of text) (related_to w last rest) ≡ related (word_in text w) rest
related_words text w last rest =
    elim (eqb (length rest) 0) as (λ b. option_map (constraint_of text) (cond b (asks w last Any (Some 0)) (compared_by w last rest (operator rest))) ≡ cond b (asked (word_in text w) Any (Some 0)) (compared (word_in text w) rest (operator rest))) [
      | true ↦ refl
      | false ↦ compared_words text w last rest (operator rest)
    ]

named_at : (inner rest : List ℕ) (n : ℕ) → n ≡ name_len inner → (n ≡ 0 → ⊥) → n ≤ 64 → rest ≡ unled (take (length inner - n) (drop n inner)) → named inner ≡ related (take n inner) rest
named_at inner rest n m z u b =
    let x : named inner ≡ related (take n inner) (unled (drop n inner)) = rw m (grind (arith, nat_tests)) in
    x ∙ rw (b, take_rest inner n) refl

-- the constraint of a part, by the row that was made
pub constraint_at : (text : List ℕ) (part word : Word) (last : Bool) (inner rest : List ℕ) (n : ℕ) (o : Option ConstraintRow) → inner ≡ word_in text word → word_in text word ≡ trimmed (word_in text part) → Inside (length text) word → n ≡ name_len inner → n ≤ length inner → (n ≡ 0 → ⊥) → n ≤ 64 → rest ≡ unled (take (length inner - n) (drop n inner)) → o ≡ related_to (record { start = word.start; len = n }) last rest → IfSome o (λ c. (c.name ≡ record { start = word.start; len = n }) × (c.version ≤ 999999) × (c.last ≡ last)) → Reads text part last o
constraint_at text part word last inner rest n o i t inside m within z u b q k =
    at o (mapped-is ∙ sym whole) k
  where
    name : Word
    name = record { start = word.start; len = n }

    whole : constraint (word_in text part) ≡ related (word_in text name) rest
    whole =
        let e : inner ≡ trimmed (word_in text part) = i ∙ t in
        let l = word_length text word inside in
        let len : length inner ≡ word.len = ap length i ∙ l in
        let f : word_in text name ≡ take n inner = word_front text word n (omega arith) ∙ ap (take n) (sym i) in
        ap named (sym e) ∙ named_at inner rest n m z u b ∙ ap (λ y. related y rest) (sym f)

    mapped-is : option_map (constraint_of text) o ≡ related (word_in text name) rest
    mapped-is = ap (option_map (constraint_of text)) q ∙ related_words text name last rest

    at : (p : Option ConstraintRow) → option_map (constraint_of text) p ≡ constraint (word_in text part) → IfSome p (λ c. (c.name ≡ name) × (c.version ≤ 999999) × (c.last ≡ last)) → Reads text part last p
    at None e h = sym e
    at (Some c) e h =
        let l = word_length text word inside in
        let len : length inner ≡ word.len = ap length i ∙ l in
        let ok : ConstraintOk (length text) c = record { name = rw h.0 (omega arith); most = h.1 } in
        (sym e, h.2, ok)
