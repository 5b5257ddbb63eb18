-- When a clause follows from the clauses held, by unit propagation.
-- Held: a clause under its number; HeldAt: the first clause held under a number
-- Values: a value for each variable, absent while unset; value: what a literal is worth
-- set_true, set_false: a literal made true, made false
-- all_false, satisfied, unset_in: a clause with all literals false, with one true, and how many are unset
-- Unit': just this literal unset, the others false
-- Chain: clause numbers, each but the last with just one literal unset, which becomes true; the last all false
-- Refuted: there is a chain from these values; denied: a clause's literals false, all else unset
-- Follows: a clause follows if a chain starts where it is denied
-- Settled, Below, Reached: what an engine has to keep
use Rattle.std.specs.Prelude.{◌≡◌, ℕ, suc, ◌≤◌, Bool, true, false, cond, not, T, ◌⊎◌, List, [], ◌∷◌, ◌++◌, ℤ, pos, negsuc, Some, None, Option, ◌==◌}
use Rattle.text.specs.Lists.{every, some, how_many}
use Rattle.text.specs.Literals.{Clause, variable_of, positive}

pub record Held : Type 0 where
  pub number : ℕ
  pub literals : Clause

abbrev pub Values : Type 0
Values = ℕ → Option Bool

abbrev pub flip : Option Bool → Option Bool
flip None = None
flip (Some b) = Some (not b)

abbrev pub value : Values → ℤ → Option Bool
value f (pos v) = f v
value f (negsuc k) = flip (f (suc k))

abbrev pub is_unset : Option Bool → Bool
is_unset None = true
is_unset (Some b) = false

abbrev pub is_false : Option Bool → Bool
is_false None = false
is_false (Some b) = not b

abbrev pub is_true : Option Bool → Bool
is_true None = false
is_true (Some b) = b

abbrev pub set_true : Values → ℤ → Values
set_true f l w = cond (w == variable_of l) (Some (positive l)) (f w)

abbrev pub set_false : Values → ℤ → Values
set_false f l w = cond (w == variable_of l) (Some (not (positive l))) (f w)

abbrev pub all_false : Values → Clause → Bool
all_false f c = every (λ l. is_false (value f l)) c

abbrev pub satisfied : Values → Clause → Bool
satisfied f c = some (λ l. is_true (value f l)) c

abbrev pub unset_in : Values → Clause → ℕ
unset_in f c = how_many (λ l. is_unset (value f l)) c

pub record Unit' (f : Values) (c : Clause) (l : ℤ) : Type 0 where
  pub before : Clause
  pub after : Clause
  pub parts : c ≡ before ++ l ∷ after
  pub unset : T (is_unset (value f l))
  pub before_false : T (all_false f before)
  pub after_false : T (all_false f after)

abbrev pub HeldAt : List Held → ℕ → Clause → Type 0
HeldAt [] n c = ⊥
HeldAt (h ∷ hs) n c = cond (h.number == n) (h.literals ≡ c) (HeldAt hs n c)

abbrev pub Chain : List Held → Values → List ℕ → Type 0
Chain live f [] = ⊥
Chain live f (n ∷ []) = (c : Clause) × (HeldAt live n c × T (all_false f c))
Chain live f (n ∷ k ∷ ns) = (c : Clause) × (l : ℤ) × (HeldAt live n c × Unit' f c l × Chain live (set_true f l) (k ∷ ns))

abbrev pub Refuted : List Held → Values → Type 0
Refuted live f = (ns : List ℕ) × Chain live f ns

abbrev pub unset_all : Values
unset_all v = None

abbrev pub denied : Clause → Values
denied [] = unset_all
denied (l ∷ ls) = set_false (denied ls) l

abbrev pub Follows : List Held → Clause → Type 0
Follows live c = Refuted live (denied c)

-- no step can be made at this clause: it is satisfied, or has two literals unset
abbrev pub Settled : Values → Clause → Type 0
Settled f c = T (satisfied f c) ⊎ (2 ≤ unset_in f c)

-- what has a value in f has the same in g
abbrev pub Below : Values → Values → Type 0
Below f g = (v : ℕ) (b : Bool) → f v ≡ Some b → g v ≡ Some b

-- g comes from f by unit steps, as far as an engine has to know
pub record Reached (live : List Held) (f g : Values) : Type 0 where
  pub below : Below f g
  pub back : Refuted live g → Refuted live f
