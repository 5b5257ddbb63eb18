-- A stanza over one line: what was read of it before stays as it was.
use Rattle.std.proofs.Common.{◌≡◌, ℕ, ◌+◌, ◌-◌, ◌≤◌, false, List, length, take, drop, is_some, IsOkAnd, MatchResult, IfSome, IfOk, Some, None, Ok, Err, Option, Result, sym, refl, ap, ◌∙◌, arith}
use Rattle.std.proofs.lemmas.List.{take-take, drop-take}
use Rattle.std.specs.Option.{option_map}
use Rattle.text.specs.Lists.{each}
use Rattle.problem.specs.ConstraintLists.{once, listed, conjoined, constraint_list, conjunct_list}
use Rattle.problem.specs.Cudf.{Constraint}
use Rattle.problem.specs.Drafts.{Drafted, Sought, draft_at, sought_of, sought_at, then, extended_by, requested_by, DraftOk, WantedOk}
use Rattle.problem.specs.Growth.{ok_mapped}
use Rattle.problem.specs.Heads.{head_of}
use Rattle.problem.specs.Meaning.{list_of, conjuncts_of, conjuncts, constraint_of}
use Rattle.problem.specs.Rows.{span_in, Spanned}
use Rattle.problem.specs.declared.draft.Draft.{Draft}
use Rattle.problem.specs.declared.wanted.Wanted.{Wanted}
use Rattle.problem.specs.declared.fault.ProblemFault.{ProblemFault}
use Rattle.problem.specs.declared.keys.PackageKey.TheVariants.{Depends, Conflicts}
use Rattle.problem.specs.declared.keys.RequestKey.TheVariants.{Install, Remove}
use Rattle.problem.specs.declared.rows.ConstraintRow.{ConstraintRow}
use Rattle.problem.specs.declared.rows.Span.{Span}

pub once_none : {X Y : Type 0} (n : ℕ) (o : Option X) {q r : Result Y ProblemFault} → is_some o ≡ false → q ≡ r → q ≡ once n o r
once_none n (Some x) e h = absurd (let z : ◌≡◌ {A = ℕ} 0 1 = cc in omega arith)
once_none n None e h = h

once_mapped : {X Y Z : Type 0} (n : ℕ) (f : X → Z) (o : Option X) (r : Result Y ProblemFault) → once n (option_map f o) r ≡ once n o r
once_mapped n f (Some x) r = refl
once_mapped n f None r = refl

once-then : {X Y Z : Type 0} (n : ℕ) (o : Option X) (r : Result Y ProblemFault) (f : Y → Result Z ProblemFault) → then (once n o r) f ≡ once n o (then r f)
once-then n (Some x) r f = refl
once-then n None r f = refl

-- what `map` answers, by what its closure does to each value
pub mapped_is : {X Y F : Type 0} {P : X → Y → Type 0} (f : X → Y) (r : Result X F) (s : Result Y F) → MatchResult r (λ x. IsOkAnd s (P x)) (λ e. s ≡ Err e) → ((x : X) (y : Y) → P x y → y ≡ f x) → s ≡ ok_mapped f r
mapped_is f (Ok x) (Ok y) h g = ap Ok (g x y h)
mapped_is f (Ok x) (Err e) h g = absurd h
mapped_is f (Err e) s h g = h

-- rows that grow leave a run among them as it was
pub span_stays : {X : Type 0} (xs ys : List X) (s : Span) → Spanned (length xs) s → take (length xs) ys ≡ xs → span_in ys s ≡ span_in xs s
span_stays xs ys s i h =
    let n = length xs in
    let e : n ≡ s.first + (n - s.first) = omega arith in
    let d : drop s.first (take n ys) ≡ take (n - s.first) (drop s.first ys) = ap (λ m. drop s.first (take m ys)) e ∙ drop-take s.first (n - s.first) ys in
    sym (take-take s.len (n - s.first) (drop s.first ys) (omega arith)) ∙ ap (take s.len) (sym d) ∙ ap (λ t. span_in t s) h

module _ (text : List ℕ) (cs ds : List ConstraintRow) (front : take (length cs) ds ≡ cs) where
  pub list_stays : (s : Span) → Spanned (length cs) s → list_of text ds s ≡ list_of text cs s
  list_stays s i = ap (λ t. each (constraint_of text) t) (span_stays cs ds s i front)

  pub conjuncts_stay : (s : Span) → Spanned (length cs) s → conjuncts_of text ds s ≡ conjuncts_of text cs s
  conjuncts_stay s i = ap (λ t. each (each (constraint_of text)) (conjuncts t)) (span_stays cs ds s i front)

  lists_stay : (o : Option Span) → IfSome o (Spanned (length cs)) → option_map (list_of text ds) o ≡ option_map (list_of text cs) o
  lists_stay None i = refl
  lists_stay (Some s) i = ap Some (list_stays s i)

  all_conjuncts_stay : (o : Option Span) → IfSome o (Spanned (length cs)) → option_map (conjuncts_of text ds) o ≡ option_map (conjuncts_of text cs) o
  all_conjuncts_stay None i = refl
  all_conjuncts_stay (Some s) i = ap Some (conjuncts_stay s i)

  pub wanted_stays : (w : Wanted) → WantedOk (length cs) w → sought_of text ds w ≡ sought_of text cs w
  wanted_stays w i = rw (lists_stay w.install i.install, lists_stay w.remove i.remove) refl

  -- the dependencies were read
  pub with_depends_is : (d : Draft) (limit n : ℕ) (v : List ℕ) (r : Result Span ProblemFault) → DraftOk (length text) (length cs) d → ok_mapped (λ s. (conjuncts_of text ds s, length ds)) r ≡ once n d.depends (conjoined limit (length cs) n (conjunct_list v)) → ok_mapped (draft_at text ds) (ok_mapped (λ s. record { head = d.head; depends = Some s; conflicts = d.conflicts }) r) ≡ extended_by limit n (draft_at text cs d) v (Some Depends)
  with_depends_is d limit n v r i h =
      at r ∙ ap (λ x. then x after) h ∙ once-then n d.depends (conjoined limit (length cs) n (conjunct_list v)) after
      ∙ sym (once_mapped n (conjuncts_of text cs) d.depends (then (conjoined limit (length cs) n (conjunct_list v)) after))
    where
      after : List (List Constraint) × ℕ → Result (Drafted × ℕ) ProblemFault
      after p = Ok (record { head = head_of text d.head; depends = Some p.0; conflicts = option_map (list_of text cs) d.conflicts }, p.1)

      at : (r : Result Span ProblemFault) → ok_mapped (draft_at text ds) (ok_mapped (λ s. record { head = d.head; depends = Some s; conflicts = d.conflicts }) r) ≡ then (ok_mapped (λ s. (conjuncts_of text ds s, length ds)) r) after
      at (Ok s) = ap (λ x. Ok (record { head = head_of text d.head; depends = Some (conjuncts_of text ds s); conflicts = x }, length ds)) (lists_stay d.conflicts i.conflicts)
      at (Err e) = refl

  pub with_conflicts_is : (d : Draft) (limit n : ℕ) (v : List ℕ) (r : Result Span ProblemFault) → DraftOk (length text) (length cs) d → ok_mapped (λ s. (list_of text ds s, length ds)) r ≡ once n d.conflicts (listed limit (length cs) n (constraint_list v)) → ok_mapped (draft_at text ds) (ok_mapped (λ s. record { head = d.head; depends = d.depends; conflicts = Some s }) r) ≡ extended_by limit n (draft_at text cs d) v (Some Conflicts)
  with_conflicts_is d limit n v r i h =
      at r ∙ ap (λ x. then x after) h ∙ once-then n d.conflicts (listed limit (length cs) n (constraint_list v)) after
      ∙ sym (once_mapped n (list_of text cs) d.conflicts (then (listed limit (length cs) n (constraint_list v)) after))
    where
      after : List Constraint × ℕ → Result (Drafted × ℕ) ProblemFault
      after p = Ok (record { head = head_of text d.head; depends = option_map (conjuncts_of text cs) d.depends; conflicts = Some p.0 }, p.1)

      at : (r : Result Span ProblemFault) → ok_mapped (draft_at text ds) (ok_mapped (λ s. record { head = d.head; depends = d.depends; conflicts = Some s }) r) ≡ then (ok_mapped (λ s. (list_of text ds s, length ds)) r) after
      at (Ok s) = ap (λ x. Ok (record { head = head_of text d.head; depends = x; conflicts = Some (list_of text ds s) }, length ds)) (all_conjuncts_stay d.depends i.depends)
      at (Err e) = refl

  pub with_install_is : (w : Wanted) (limit n : ℕ) (v : List ℕ) (r : Result Span ProblemFault) → WantedOk (length cs) w → ok_mapped (λ s. (list_of text ds s, length ds)) r ≡ once n w.install (listed limit (length cs) n (constraint_list v)) → ok_mapped (sought_at text ds) (ok_mapped (λ s. record { install = Some s; remove = w.remove }) r) ≡ requested_by limit n (sought_at text cs w) v (Some Install)
  with_install_is w limit n v r i h =
      at r ∙ ap (λ x. then x after) h ∙ once-then n w.install (listed limit (length cs) n (constraint_list v)) after
      ∙ sym (once_mapped n (list_of text cs) w.install (then (listed limit (length cs) n (constraint_list v)) after))
    where
      after : List Constraint × ℕ → Result (Sought × ℕ) ProblemFault
      after p = Ok (record { install = Some p.0; remove = option_map (list_of text cs) w.remove }, p.1)

      at : (r : Result Span ProblemFault) → ok_mapped (sought_at text ds) (ok_mapped (λ s. record { install = Some s; remove = w.remove }) r) ≡ then (ok_mapped (λ s. (list_of text ds s, length ds)) r) after
      at (Ok s) = ap (λ x. Ok (record { install = Some (list_of text ds s); remove = x }, length ds)) (lists_stay w.remove i.remove)
      at (Err e) = refl

  pub with_remove_is : (w : Wanted) (limit n : ℕ) (v : List ℕ) (r : Result Span ProblemFault) → WantedOk (length cs) w → ok_mapped (λ s. (list_of text ds s, length ds)) r ≡ once n w.remove (listed limit (length cs) n (constraint_list v)) → ok_mapped (sought_at text ds) (ok_mapped (λ s. record { install = w.install; remove = Some s }) r) ≡ requested_by limit n (sought_at text cs w) v (Some Remove)
  with_remove_is w limit n v r i h =
      at r ∙ ap (λ x. then x after) h ∙ once-then n w.remove (listed limit (length cs) n (constraint_list v)) after
      ∙ sym (once_mapped n (list_of text cs) w.remove (then (listed limit (length cs) n (constraint_list v)) after))
    where
      after : List Constraint × ℕ → Result (Sought × ℕ) ProblemFault
      after p = Ok (record { install = option_map (list_of text cs) w.install; remove = Some p.0 }, p.1)

      at : (r : Result Span ProblemFault) → ok_mapped (sought_at text ds) (ok_mapped (λ s. record { install = w.install; remove = Some s }) r) ≡ then (ok_mapped (λ s. (list_of text ds s, length ds)) r) after
      at (Ok s) = ap (λ x. Ok (record { install = x; remove = Some (list_of text ds s) }, length ds)) (lists_stay w.install i.install)
      at (Err e) = refl

-- runs stay among rows that grow
pub spanned_more : (m n : ℕ) (o : Option Span) → m ≤ n → IfSome o (Spanned m) → IfSome o (Spanned n)
spanned_more m n None h i = tt
spanned_more m n (Some s) h i = omega arith

-- what holds of a stanza after the line
pub made_mapped : {X Y F : Type 0} (P : X → Type 0) (Q : Y → Type 0) (f : X → Y) (r : Result X F) → ((x : X) → P x → Q (f x)) → IfOk r P → IfOk (ok_mapped f r) Q
made_mapped P Q f (Ok x) g h = g x h
made_mapped P Q f (Err e) g h = tt
