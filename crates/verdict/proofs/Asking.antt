-- Steps asked one after the other.
use Rattle.std.proofs.Common.{◌≡◌, ℕ, zero, suc, ◌+◌, ◌<◌, List, [], ◌∷◌, ◌++◌, length, take, drop, set, ℤ, sym, refl, ap, ◌∙◌, subst, add-one, take-suc-set}
use Rattle.certificate.specs.Stream.{Placed, Ending, finished, broken}
use Rattle.certificate.specs.Reading.{Memory, memory_of, Leaves}
use Rattle.verdict.specs.Session.{Desk, Judged, AskedOf, Asked, Run}
use Rattle.verdict.specs.Calls.{LeavesAfter}
use Rattle.verdict.specs.declared.reply.Reply.{Reply}
use Rattle.verdict.specs.declared.reply.Reply.TheVariants.{Taken, Refused, Nothing}

run_more : (k : Memory) (d : Desk) (rs : List Reply) (d' : Desk) (r : Reply) (d'' : Desk) → Run k d rs d' → Asked k d' r d'' → Run k d (rs ++ r ∷ []) d''
run_more k d [] d' r d'' e a = (d'', (subst (λ y. Asked k y r d'') e a, refl))
run_more k d (s ∷ rs) d' r d'' x a = (x.0, (x.1.0, run_more k x.0 rs d' r d'' x.1.1 a))

pub same_memory : (ls ls' : List ℤ) (hs hs' : List ℕ) → length ls ≡ length ls' → length hs ≡ length hs' → memory_of ls hs ≡ memory_of ls' hs'
same_memory ls ls' hs hs' e f = ap {B = Memory} (λ n. record { literals = n; hints = length hs }) e ∙ ap {B = Memory} (λ n. record { literals = length ls'; hints = n }) f

-- one reply more, written behind those that there were
pub run_write : (k k' : Memory) (d : Desk) (rs : List Reply) (i : ℕ) (d' : Desk) (r : Reply) (d'' : Desk) → i < length rs → k' ≡ k → Run k d (take i rs) d' → Asked k' d' r d'' → Run k d (take (i + 1) (set rs i r)) d''
run_write k k' d rs i d' r d'' h e x a =
    subst (λ y. Run k d y d'') (sym (ap (λ n. take n (set rs i r)) (add-one i) ∙ take-suc-set rs i r h)) (run_more k d (take i rs) d' r d'' x (subst (λ y. Asked y d' r d'') e a))

-- each step asked is taken off the source
judged_off : (k : Memory) (d d' : Desk) (p : Placed) (ps : List Placed) (r : Reply) → Judged k d p ps r d' → d'.source.steps ≡ ps
judged_off k d d' p ps Taken j = ap (λ y. y.source.steps) j.2
judged_off k d d' p ps (Refused f n) j = ap (λ y. y.source.steps) j.2
judged_off k d d' p ps Nothing j = absurd j

asked_off : (k : Memory) (d d' : Desk) (ps : List Placed) (e : Ending) (r : Reply) → d.source.steps ≡ ps → AskedOf k d ps e r d' → d'.source.steps ≡ drop 1 ps
asked_off k d d' (p ∷ ps) e r s x = judged_off k d d' p ps r x
asked_off k d d' [] (broken p) r s x = ap (λ y. y.source.steps) x.1 ∙ s
asked_off k d d' [] finished r s x = ap (λ y. y.source.steps) x.1 ∙ s

drop_one : {X : Type 0} (i : ℕ) (xs : List X) → drop 1 (drop i xs) ≡ drop (suc i) xs
drop_one zero xs = refl
drop_one (suc i) [] = refl
drop_one (suc i) (x ∷ xs) = drop_one i xs

pub off_more : (k : Memory) (d d' : Desk) (r : Reply) (i : ℕ) (ps : List Placed) → d.source.steps ≡ drop i ps → Asked k d r d' → d'.source.steps ≡ drop (i + 1) ps
off_more k d d' r i ps e x = asked_off k d d' d.source.steps d.source.ending r refl x ∙ ap (drop 1) e ∙ drop_one i ps ∙ ap (λ y. drop y ps) (sym (add-one i))

pub leaves_more : (k k' : Memory) (ps qs : List Placed) (i : ℕ) (ls : List ℤ) (hs : List ℕ) (ls' : List ℤ) (hs' : List ℕ) → k' ≡ k → qs ≡ drop i ps → Leaves k' qs ls' hs' → LeavesAfter k ps (i + 1) ls hs ls' hs'
leaves_more k k' ps qs i ls hs ls' hs' e f x =
    subst (λ n. LeavesAfter k ps n ls hs ls' hs') (sym (add-one i)) (subst (λ y. Leaves k y ls' hs') f (subst (λ y. Leaves y qs ls' hs') e x))
