-- A chain is sound: what follows from live clauses is true wherever they are.
use Rattle.std.proofs.Common.{◌≡◌, ℕ, suc, Bool, true, false, cond, not, T, eqb, ◌⊎◌, List, [], ◌∷◌, ℤ, pos, negsuc, Some, None, Option, sym, refl, subst, inl, inr, ⊎_elim, eqb→eq}
use Rattle.text.specs.Lists.{Each}
use Rattle.problem.specs.Cudf.{Chosen}
use Rattle.text.specs.Literals.{Clause, variable_of, is_true, makes_true, positive}
use Rattle.clauses.specs.Propagation.{Held, Values, value, flip, is_false, set_true, all_false, Unit', HeldAt, Chain, denied, Follows}
use Rattle.certificate.specs.Stream.{add}
use Rattle.verdict.specs.Session.{Shown}
use Rattle.text.proofs.Members.{or_cases, or_left, or_right, and_left, and_right, from_cond, some_cases}

abbrev pub True : Chosen → Clause → Type 0
True A c = T (makes_true A c)

abbrev pub AllTrue : Chosen → List Held → Type 0
AllTrue A hs = Each (λ h. True A h.literals) hs

-- a truth value beside one that may be unset
abbrev pub Fits : Bool → Option Bool → Type 0
Fits b None = Unit {0}
Fits b (Some x) = b ≡ x

abbrev pub Agrees : Chosen → Values → Type 0
Agrees A f = (v : ℕ) → Fits (A v) (f v)

yes_false : (b : Bool) (o : Option Bool) → Fits b o → T (is_false o) → T b → ⊥
yes_false b None g t u = t
yes_false b (Some true) g t u = t
yes_false b (Some false) g t u = subst T g u

no_false : (b : Bool) (o : Option Bool) → Fits b o → T (is_false (flip o)) → T (not b) → ⊥
no_false b None g t u = t
no_false b (Some true) g t u = subst (λ x. T (not x)) g u
no_false b (Some false) g t u = t

literal_false : (A : Chosen) (f : Values) (l : ℤ) → Agrees A f → T (is_false (value f l)) → T (is_true A l) → ⊥
literal_false A f (pos v) g = yes_false (A v) (f v) (g v)
literal_false A f (negsuc k) g = no_false (A (suc k)) (f (suc k)) (g (suc k))

clause_false : (A : Chosen) (f : Values) (c : Clause) → Agrees A f → T (all_false f c) → True A c → ⊥
clause_false A f [] g t u = u
clause_false A f (l ∷ ls) g t u =
    ⊎_elim (literal_false A f l g (and_left _ _ t)) (clause_false A f ls g (and_right (is_false (value f l)) _ t)) (or_cases _ _ u)

-- the one literal that is not false is true
unit_true : (A : Chosen) (f : Values) (c : Clause) (l : ℤ) → Agrees A f → Unit' f c l → True A c → T (is_true A l)
unit_true A f c l g u t = first (some_cases (is_true A) u.before (l ∷ u.after) (subst (True A) u.parts t))
  where
    second : T (is_true A l) ⊎ True A u.after → T (is_true A l)
    second (inl h) = h
    second (inr h) = absurd (clause_false A f u.after g u.after_false h)

    first : True A u.before ⊎ True A (l ∷ u.after) → T (is_true A l)
    first (inl h) = absurd (clause_false A f u.before g u.before_false h)
    first (inr h) = second (or_cases (is_true A l) _ h)

-- the value that makes a literal true, and the one that makes it false
at_true : (A : Chosen) (l : ℤ) → T (is_true A l) → A (variable_of l) ≡ positive l
at_true A (pos v) t = yes-is (A v) t
  where
    yes-is : (b : Bool) → T b → b ≡ true
    yes-is true t = refl
    yes-is false t = absurd t
at_true A (negsuc k) t = no_is (A (suc k)) t
  where
    no_is : (b : Bool) → T (not b) → b ≡ false
    no_is true t = absurd t
    no_is false t = refl

at_false : (A : Chosen) (l : ℤ) → (T (is_true A l) → ⊥) → A (variable_of l) ≡ not (positive l)
at_false A (pos v) t = yes-not (A v) t
  where
    yes-not : (b : Bool) → (T b → ⊥) → b ≡ false
    yes-not true t = absurd (t tt)
    yes-not false t = refl
at_false A (negsuc k) t = no-not (A (suc k)) t
  where
    no-not : (b : Bool) → (T (not b) → ⊥) → b ≡ true
    no-not true t = refl
    no-not false t = absurd (t tt)

-- one value more
agrees_set : (A : Chosen) (f : Values) (v : ℕ) (b : Bool) → Agrees A f → A v ≡ b → (w : ℕ) → Fits (A w) (cond (eqb w v) (Some b) (f w))
agrees_set A f v b g e w = pick (eqb w v) refl
  where
    pick : (t : Bool) → eqb w v ≡ t → Fits (A w) (cond t (Some b) (f w))
    pick true h = subst (λ x. A x ≡ b) (sym (eqb→eq w v (subst T (sym h) tt))) e
    pick false h = g w

held_true : (A : Chosen) (hs : List Held) (n : ℕ) (c : Clause) → HeldAt hs n c → AllTrue A hs → True A c
held_true A [] n c h a = absurd h
held_true A (h ∷ hs) n c at a =
    from_cond (eqb h.number n) (h.literals ≡ c) (HeldAt hs n c) at (λ e. subst (True A) e a.0) (λ k. held_true A hs n c k a.1)

pub no_chain : (A : Chosen) (live : List Held) → AllTrue A live → (f : Values) (ns : List ℕ) → Chain live f ns → Agrees A f → ⊥
no_chain A live a f [] k g = k
no_chain A live a f (n ∷ []) k g = clause_false A f k.0 g k.1.1 (held_true A live n k.0 k.1.0 a)
no_chain A live a f (n ∷ n' ∷ ns) k g =
    no_chain A live a (set_true f l) (n' ∷ ns) k.2.2 (agrees_set A f (variable_of l) (positive l) g (at_true A l (unit_true A f c l g k.2.1 (held_true A live n c k.2.0 a))))
  where
    c : Clause
    c = k.0

    l : ℤ
    l = k.1

denied_agrees : (A : Chosen) (c : Clause) → (True A c → ⊥) → Agrees A (denied c)
denied_agrees A [] t = λ v. tt
denied_agrees A (l ∷ ls) t =
    agrees_set A (denied ls) (variable_of l) (not (positive l)) (denied_agrees A ls (λ h. t (or_right (is_true A l) _ h))) (at_false A l (λ h. t (or_left _ _ h)))

unless : (b : Bool) → ((T b → ⊥) → ⊥) → T b
unless true h = tt
unless false h = h (λ t. t)

pub chain_true : (A : Chosen) (live : List Held) (c : Clause) (ns : List ℕ) → AllTrue A live → Chain live (denied c) ns → True A c
chain_true A live c ns a k = unless (makes_true A c) (λ n. no_chain A live a (denied c) ns k (denied_agrees A c n))

pub follows_true : (A : Chosen) (live : List Held) (c : Clause) → AllTrue A live → Follows live c → True A c
follows_true A live c a k = chain_true A live c k.0 a k.1

pub shown_true : (A : Chosen) (live : List Held) (c : Clause) (h : Option (List ℕ)) → AllTrue A live → Shown live (add c h) → True A c
shown_true A live c None a k = follows_true A live c a k
shown_true A live c (Some ns) a k = chain_true A live c ns a k
