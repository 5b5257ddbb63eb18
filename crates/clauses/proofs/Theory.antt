-- Unit propagation is sound and, at a fixpoint, complete. Any engine can use these.
use Rattle.std.proofs.Common.{◌≡◌, ℕ, suc, Bool, true, false, cond, ◌||◌, T, eqb, List, [], ◌∷◌, ◌++◌, ℤ, pos, negsuc, Some, None, Option, sym, refl, ◌∙◌, subst, inl, inr, arith, eqb→eq}
use Rattle.std.specs.List.{AllByRecursion}
use Rattle.text.specs.Literals.{Clause, variable_of, positive}
use Rattle.clauses.specs.Propagation.{Values, flip, value, is_unset, is_false, is_true, all_false, satisfied, unset_in, set_true}
use Rattle.text.proofs.Members.{and_left, and_right}
use Rattle.clauses.specs.Propagation.{Held, HeldAt, Unit', Chain, Refuted, Settled, Below, Reached}

false_is : (o : Option Bool) → T (is_false o) → o ≡ Some false
false_is None h = absurd h
false_is (Some true) h = absurd h
false_is (Some false) h = refl

-- false literals in front change nothing
satisfied_past : (f : Values) (bs cs : Clause) → T (all_false f bs) → satisfied f (bs ++ cs) ≡ satisfied f cs
satisfied_past f [] cs h = refl
satisfied_past f (b ∷ bs) cs h =
    let e : value f b ≡ Some false = false_is (value f b) (and_left _ (all_false f bs) h) in
    rw e (satisfied_past f bs cs (and_right (is_false (value f b)) _ h))

unset_past : (f : Values) (bs cs : Clause) → T (all_false f bs) → unset_in f (bs ++ cs) ≡ unset_in f cs
unset_past f [] cs h = refl
unset_past f (b ∷ bs) cs h =
    let e : value f b ≡ Some false = false_is (value f b) (and_left _ (all_false f bs) h) in
    rw e (unset_past f bs cs (and_right (is_false (value f b)) _ h))

satisfied_none : (f : Values) (c : Clause) → T (all_false f c) → satisfied f c ≡ false
satisfied_none f [] h = refl
satisfied_none f (b ∷ bs) h =
    let e : value f b ≡ Some false = false_is (value f b) (and_left _ (all_false f bs) h) in
    rw e (satisfied_none f bs (and_right (is_false (value f b)) _ h))

unset_none : (f : Values) (c : Clause) → T (all_false f c) → unset_in f c ≡ 0
unset_none f [] h = refl
unset_none f (b ∷ bs) h =
    let e : value f b ≡ Some false = false_is (value f b) (and_left _ (all_false f bs) h) in
    rw e (unset_none f bs (and_right (is_false (value f b)) _ h))

-- a clause with all literals false is not settled
pub no_conflict : (f : Values) (c : Clause) → T (all_false f c) → Settled f c → ⊥
no_conflict f c h (inl s) = subst T (satisfied_none f c h) s
no_conflict f c h (inr u) = let e : unset_in f c ≡ 0 = unset_none f c h in omega arith

-- a settled clause whose literals but one are false has that one true
last_true : (f : Values) (bs : Clause) (l : ℤ) (cs : Clause) → T (all_false f bs) → T (all_false f cs) → Settled f (bs ++ l ∷ cs) → value f l ≡ Some true
last_true f bs l cs hb hc (inl s) = go (value f l) (subst T (satisfied_past f bs (l ∷ cs) hb) s)
  where
    go : (o : Option Bool) → T (is_true o || satisfied f cs) → o ≡ Some true
    go None t = absurd (subst T (satisfied_none f cs hc) t)
    go (Some true) t = refl
    go (Some false) t = absurd (subst T (satisfied_none f cs hc) t)
last_true f bs l cs hb hc (inr u) = absurd (go (value f l) refl)
  where
    go : (o : Option Bool) → value f l ≡ o → ⊥
    go None e =
        let p : unset_in f (bs ++ l ∷ cs) ≡ unset_in f (l ∷ cs) = unset_past f bs (l ∷ cs) hb in
        let q : unset_in f (l ∷ cs) ≡ suc (unset_in f cs) = rw e in
        let r : unset_in f cs ≡ 0 = unset_none f cs hc in
        omega arith
    go (Some b) e =
        let p : unset_in f (bs ++ l ∷ cs) ≡ unset_in f (l ∷ cs) = unset_past f bs (l ∷ cs) hb in
        let q : unset_in f (l ∷ cs) ≡ unset_in f cs = rw e in
        let r : unset_in f cs ≡ 0 = unset_none f cs hc in
        omega arith

-- what is settled has no one literal left
pub settled_unit : (f : Values) (c : Clause) → Settled f c → (l : ℤ) → Unit' f c l → ⊥
settled_unit f c s l u =
    let t : value f l ≡ Some true = last_true f u.before l u.after u.before_false u.after_false (subst (Settled f) u.parts s) in
    rw t at u.unset

-- a literal's value goes up with the values
pub value_below : (g f : Values) → Below g f → (l : ℤ) (b : Bool) → value g l ≡ Some b → value f l ≡ Some b
value_below g f up (pos v) b h = up v b h
value_below g f up (negsuc k) b h = go (g (suc k)) refl h
  where
    go : (o : Option Bool) → g (suc k) ≡ o → flip o ≡ Some b → flip (f (suc k)) ≡ Some b
    go None e i = let z : ◌≡◌ {A = ℕ} 0 1 = cc in absurd (omega arith)
    go (Some x) e i = rw (up (suc k) x e) i

all_false_below : (g f : Values) → Below g f → (c : Clause) → T (all_false g c) → T (all_false f c)
all_false_below g f up [] h = tt
all_false_below g f up (l ∷ ls) h =
    let e : value f l ≡ Some false = value_below g f up l false (false_is (value g l) (and_left _ (all_false g ls) h)) in
    rw e (all_false_below g f up ls (and_right (is_false (value g l)) _ h))

-- what a literal's truth says of its variable
true_means : (f : Values) (l : ℤ) → value f l ≡ Some true → f (variable_of l) ≡ Some (positive l)
true_means f (pos v) h = h
true_means f (negsuc k) h = go (f (suc k)) refl h
  where
    go : (o : Option Bool) → f (suc k) ≡ o → flip o ≡ Some true → f (suc k) ≡ Some false
    go None e i = let z : ◌≡◌ {A = ℕ} 0 1 = cc in absurd (omega arith)
    go (Some true) e i = let z : ◌≡◌ {A = ℕ} 0 1 = cc in absurd (omega arith)
    go (Some false) e i = e

set_below : (g f : Values) (l : ℤ) → Below g f → value f l ≡ Some true → Below (set_true g l) f
set_below g f l up h v b = go (eqb v (variable_of l)) refl
  where
    go : (t : Bool) → eqb v (variable_of l) ≡ t → cond t (Some (positive l)) (g v) ≡ Some b → f v ≡ Some b
    go true e i =
        let w : v ≡ variable_of l = eqb→eq v (variable_of l) (subst T (sym e) tt) in
        rw w (true_means f l h ∙ i)
    go false e i = up v b i

-- what a held clause's number finds is among the clauses
held_all : (P : Clause → Type 0) (live : List Held) (n : ℕ) (c : Clause) → AllByRecursion (λ h. P h.literals) live → HeldAt live n c → P c
held_all P [] n c a i = absurd i
held_all P (h ∷ hs) n c a i = go (eqb h.number n) i (held_all P hs n c a.1)
  where
    go : (t : Bool) → cond t (h.literals ≡ c) (HeldAt hs n c) → (HeldAt hs n c → P c) → P c
    go true e rest = subst P e a.0
    go false e rest = rest e

-- At a fixpoint nothing is refuted: if each clause is settled under f, and f has all that g has, then no chain starts at g.
pub fixpoint : (live : List Held) (f : Values) → AllByRecursion (λ h. Settled f h.literals) live → (g : Values) (ns : List ℕ) → Below g f → Chain live g ns → ⊥
fixpoint live f settled g [] up h = h
fixpoint live f settled g (n ∷ []) up h =
    no_conflict f h.0 (all_false_below g f up h.0 h.1.1) (held_all (Settled f) live n h.0 settled h.1.0)
fixpoint live f settled g (n ∷ k ∷ ns) up h =
    let u = h.2.1 in
    let s : Settled f (u.before ++ h.1 ∷ u.after) = subst (Settled f) u.parts (held_all (Settled f) live n h.0 settled h.2.0) in
    let t : value f h.1 ≡ Some true = last_true f u.before h.1 u.after (all_false_below g f up u.before u.before_false) (all_false_below g f up u.after u.after_false) s in
    fixpoint live f settled (set_true g h.1) (k ∷ ns) (set_below g f h.1 up t) h.2.2

pub not_refuted : (live : List Held) (f g : Values) → AllByRecursion (λ h. Settled f h.literals) live → Below g f → Refuted live g → ⊥
not_refuted live f g settled up r = fixpoint live f settled g r.0 up r.1

-- Soundness: steps, one after the other, and then a conflict.
pub reached_none : (live : List Held) (f : Values) → Reached live f f
reached_none live f = record { below = λ v b h. h; back = λ r. r }

pub reached_more : (live : List Held) (f g h : Values) → Reached live f g → Reached live g h → Reached live f h
reached_more live f g h p q = record { below = λ v b e. q.below v b (p.below v b e); back = λ r. p.back (q.back r) }

-- an unset literal's variable has no value
pub unset_means : (f : Values) (l : ℤ) → T (is_unset (value f l)) → f (variable_of l) ≡ None
unset_means f (pos v) h = go (f v) h
  where
    go : (o : Option Bool) → T (is_unset o) → o ≡ None
    go None t = refl
    go (Some b) t = absurd t
unset_means f (negsuc k) h = go (f (suc k)) h
  where
    go : (o : Option Bool) → T (is_unset (flip o)) → o ≡ None
    go None t = refl
    go (Some b) t = absurd t

pub below_set : (f : Values) (l : ℤ) → T (is_unset (value f l)) → Below f (set_true f l)
below_set f l u v b h = go (eqb v (variable_of l)) refl
  where
    go : (t : Bool) → eqb v (variable_of l) ≡ t → cond t (Some (positive l)) (f v) ≡ Some b
    go true e =
        let w : v ≡ variable_of l = eqb→eq v (variable_of l) (subst T (sym e) tt) in
        let n : f v ≡ None = rw w (unset_means f l u) in
        let z : ◌≡◌ {A = ℕ} 0 1 = cc in absurd (omega arith)
    go false e = h

-- a unit step before a chain
pub chain_unit : (live : List Held) (f : Values) (n : ℕ) (c : Clause) (l : ℤ) (ns : List ℕ) → HeldAt live n c → Unit' f c l → Chain live (set_true f l) ns → Chain live f (n ∷ ns)
chain_unit live f n c l [] at u r = absurd r
chain_unit live f n c l (k ∷ ns) at u r = (c, l, (at, u, r))

pub reached_unit : (live : List Held) (f : Values) (n : ℕ) (c : Clause) (l : ℤ) → HeldAt live n c → Unit' f c l → Reached live f (set_true f l)
reached_unit live f n c l at u = record { below = below_set f l u.unset; back = λ r. (n ∷ r.0, chain_unit live f n c l r.0 at u r.1) }

pub refuted_at : (live : List Held) (f g : Values) (n : ℕ) (c : Clause) → Reached live f g → HeldAt live n c → T (all_false g c) → Refuted live f
refuted_at live f g n c p at h = p.back (n ∷ [], (c, (at, h)))

-- the refutation of a step is one of what it started from, and the other way round at a fixpoint
pub settled_refuted : (live : List Held) (f g : Values) → Reached live f g → AllByRecursion (λ h. Settled g h.literals) live → Refuted live f → ⊥
settled_refuted live f g p settled = not_refuted live g f settled p.below

-- Confluence: what is refuted stays so where more is set.
set_below_set : (f g : Values) (l : ℤ) → Below f g → Below (set_true f l) (set_true g l)
set_below_set f g l up v b = go (eqb v (variable_of l))
  where
    go : (t : Bool) → cond t (Some (positive l)) (f v) ≡ Some b → cond t (Some (positive l)) (g v) ≡ Some b
    go true h = h
    go false h = up v b h

all_false_parts : (g : Values) (bs : Clause) (l : ℤ) (cs : Clause) → T (all_false g bs) → value g l ≡ Some false → T (all_false g cs) → T (all_false g (bs ++ l ∷ cs))
all_false_parts g [] l cs hb e hc = rw e hc
all_false_parts g (b ∷ bs) l cs hb e hc =
    let i : value g b ≡ Some false = false_is (value g b) (and_left _ (all_false g bs) hb) in
    rw i (all_false_parts g bs l cs (and_right (is_false (value g b)) _ hb) e hc)

pub onward : (live : List Held) (f : Values) (ns : List ℕ) → Chain live f ns → (g : Values) → Below f g → Refuted live g
onward live f [] h g up = absurd h
onward live f (n ∷ []) h g up = (n ∷ [], (h.0, (h.1.0, all_false_below f g up h.0 h.1.1)))
onward live f (n ∷ k ∷ ns) h g up = go h.0 h.1 h.2.0 h.2.1 (value g h.1) refl (onward live (set_true f h.1) (k ∷ ns) h.2.2)
  where
    go : (c : Clause) (l : ℤ) → HeldAt live n c → Unit' f c l → (o : Option Bool) → value g l ≡ o → ((h : Values) → Below (set_true f l) h → Refuted live h) → Refuted live g
    go c l at u None e more =
        let r : Refuted live (set_true g l) = more (set_true g l) (set_below_set f g l up) in
        let v : Unit' g c l = record { before = u.before; after = u.after; parts = u.parts; unset = rw e tt; before_false = all_false_below f g up u.before u.before_false; after_false = all_false_below f g up u.after u.after_false } in
        (n ∷ r.0, chain_unit live g n c l r.0 at v r.1)
    go c l at u (Some true) e more = more g (set_below f g l up e)
    go c l at u (Some false) e more =
        let false' : T (all_false g c) = rw u.parts (all_false_parts g u.before l u.after (all_false_below f g up u.before u.before_false) e (all_false_below f g up u.after u.after_false)) in
        (n ∷ [], (c, (at, false')))
