-- The answer to a reading, by the first step of the source.
use Rattle.std.proofs.Common.{◌≡◌, ℕ, ◌-◌, ◌≤◌, Bool, true, false, cond, List, [], length, take, replicate, ℤ, pos, Some, None, Ok, Err, refl, ap, ◌∙◌, arith, length-append}
use Rattle.std.proofs.lemmas.List.{take_at, length-replicate}
use Rattle.std.proofs.lemmas.Bool.{leb-true, and_parts}
use Rattle.certificate.specs.declared.fault.SourceFault.TheVariants.{TooMany}
use Rattle.certificate.specs.declared.found.Shape.{Shape}
use Rattle.certificate.specs.Stream.{Step, add, delete, Ending, finished, broken, Stream, on_top, ended}
use Rattle.certificate.specs.Reading.{Memory, memory_of, in_memory, standing, shape_of, shape_in, literals_in, hints_in, step_in, literals_of, hints_of, Holds, Leaves, Reads, answered}

length-standing : {X : Type 0} (z : X) (n : ℕ) (xs : List X) → length xs ≤ n → length (standing z n xs) ≡ n
length-standing z n xs h = omega (arith, length-append xs (replicate (n - length xs) z), length-replicate (n - length xs) z)

take-standing : {X : Type 0} (z : X) (n : ℕ) (xs : List X) → take (length xs) (standing z n xs) ≡ xs
take-standing z n xs = take_at xs (replicate (n - length xs) z) (length xs) refl

literals_fit : (k : Memory) (t : Step) → in_memory k t ≡ true → length (literals_of t) ≤ k.literals
literals_fit k (add c None) e = leb-true _ _ e
literals_fit k (add c (Some hs)) e = leb-true _ _ (and_parts _ _ e).0
literals_fit k (delete n) e = omega arith

hints_fit : (k : Memory) (t : Step) → in_memory k t ≡ true → length (hints_of t) ≤ k.hints
hints_fit k (add c None) e = omega arith
hints_fit k (add c (Some hs)) e = leb-true _ _ (and_parts _ _ e).1
hints_fit k (delete n) e = omega arith

pub reads_ended : (k : Memory) (s : Stream) (e : Ending) (ls : List ℤ) (hs : List ℕ) → s ≡ ended e → Leaves k [] ls hs → Leaves k s.steps ls hs × Reads s (answered e) s ls hs
reads_ended k s finished ls hs h m = (rw h m, (ap (λ x. x.steps) h, ap (λ x. x.ending) h, refl))
reads_ended k s (broken p) ls hs h m = (rw h m, (ap (λ x. x.steps) h, ap (λ x. x.ending) h, refl))

-- a step that fits stands in memory in its shape
stands : (k : Memory) (t : Step) → step_in (shape_of t) (standing (pos 0) k.literals (literals_of t)) (standing 0 k.hints (hints_of t)) ≡ t
stands k (add c None) = ap (λ x. add x None) (take-standing (pos 0) k.literals c)
stands k (add c (Some hs)) = rw (take-standing (pos 0) k.literals c, take-standing 0 k.hints hs) refl
stands k (delete n) = refl

literals_in_shape : (t : Step) → literals_in (shape_of t) ≡ length (literals_of t)
literals_in_shape (add c None) = refl
literals_in_shape (add c (Some hs)) = refl
literals_in_shape (delete n) = refl

hints_in_shape : (t : Step) → hints_in (shape_of t) ≡ length (hints_of t)
hints_in_shape (add c None) = refl
hints_in_shape (add c (Some hs)) = refl
hints_in_shape (delete n) = refl

shape_fits : (b : Bool) (g h : Shape) → Some g ≡ cond b (Some h) None → (b ≡ true) × (g ≡ h)
shape_fits true g h e = (refl, cc)
shape_fits false g h e = let z : ◌≡◌ {A = ℕ} 0 1 = cc in absurd (omega arith)

shape_out : (b : Bool) (h : Shape) → None ≡ cond b (Some h) None → b ≡ false
shape_out true h e = let z : ◌≡◌ {A = ℕ} 0 1 = cc in absurd (omega arith)
shape_out false h e = refl

pub reads_step : (k : Memory) (s s' : Stream) (p : ℕ) (t : Step) (g : Shape) (ls : List ℤ) (hs : List ℕ) → s ≡ on_top (record { place = p; step = t }) s' → Some g ≡ shape_in k t → Holds k t ls hs → Leaves k s.steps ls hs × Reads s (Ok (Some (record { place = p; shape = g }))) s' ls hs
reads_step k s s' p t g ls hs e h m =
    let f = shape_fits (in_memory k t) g (shape_of t) h in
    let a : ls ≡ standing (pos 0) k.literals (literals_of t) = rw f.0 at m.literals in
    let b : hs ≡ standing 0 k.hints (hints_of t) = rw f.0 at m.hints in
    let x = literals_fit k t f.0 in
    let y = hints_fit k t f.0 in
    let u : length ls ≡ k.literals = ap length a ∙ length-standing (pos 0) k.literals (literals_of t) x in
    let v : length hs ≡ k.hints = ap length b ∙ length-standing 0 k.hints (hints_of t) y in
    let w : step_in g ls hs ≡ t = rw (f.1, a, b) (stands k t) in
    let i : literals_in g ≡ length (literals_of t) = ap literals_in f.1 ∙ literals_in_shape t in
    let j : hints_in g ≡ length (hints_of t) = ap hints_in f.1 ∙ hints_in_shape t in
    rw e (record { literals = m.literals; hints = m.hints }, (rw w refl, omega arith, omega arith))

pub reads_over : (k : Memory) (s s' : Stream) (p : ℕ) (t : Step) (ls : List ℤ) (hs : List ℕ) → s ≡ on_top (record { place = p; step = t }) s' → None ≡ shape_in k t → Holds k t ls hs → Leaves k s.steps ls hs × Reads s (Err (TooMany p)) s' ls hs
reads_over k s s' p t ls hs e h m =
    let f = shape_out (in_memory k t) (shape_of t) h in
    let a : ls ≡ standing (pos 0) k.literals [] = rw f at m.literals in
    let b : hs ≡ standing 0 k.hints [] = rw f at m.hints in
    let u : length ls ≡ k.literals = ap length a ∙ length-standing (pos 0) k.literals [] (omega arith) in
    let v : length hs ≡ k.hints = ap length b ∙ length-standing 0 k.hints [] (omega arith) in
    let w : in_memory (memory_of ls hs) t ≡ false = rw (u, v) f in
    rw e (record { literals = m.literals; hints = m.hints }, (t, (refl, rw w tt)))
