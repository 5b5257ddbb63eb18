-- A counter's clauses are true where register (i, j) says that at least j of the first i inputs are true.
use Rattle.std.proofs.Common.{◌≡◌, ℕ, zero, suc, ◌+◌, ◌-◌, ◌<◌, ◌≤◌, Bool, true, false, cond, not, ◌||◌, T, leb, List, [], ◌∷◌, ◌++◌, length, take, pos, sym, ap, ◌∙◌, subst, arith, le→leb, leb→le}
use Rattle.text.specs.Lists.{up_from, each, how_many, Each}
use Rattle.problem.specs.Cudf.{Chosen}
use Rattle.text.specs.Literals.{Clause, neg}
use Rattle.verdict.specs.Opening.{register, counter_input, counter}
use Rattle.text.proofs.Members.{each_append, each-each}
use Rattle.verdict.proofs.Rup.{True}

-- the variable of a negative literal
pub back : (v : ℕ) → 1 ≤ v → suc (v - 1) ≡ v
back v h = omega arith

if_then : (a b : Bool) → (T a → T b) → T (not a || (b || false))
if_then true true f = tt
if_then true false f = f tt
if_then false b f = tt

if_both : (a b c : Bool) → (T a → T b → T c) → T (not a || (not b || (c || false)))
if_both true b c f = if_then b c (f tt)
if_both false b c f = tt

pub two_true : (A : Chosen) (u v : ℕ) → 1 ≤ u → (T (A u) → T (A v)) → True A (neg u ∷ pos v ∷ [])
two_true A u v h f = subst (λ w. T (not (A w) || (A v || false))) (sym (back u h)) (if_then (A u) (A v) f)

three_true : (A : Chosen) (u w v : ℕ) → 1 ≤ u → 1 ≤ w → (T (A u) → T (A w) → T (A v)) → True A (neg u ∷ neg w ∷ pos v ∷ [])
three_true A u w v h k f =
    subst (λ x. T (not (A x) || (not (A (suc (w - 1))) || (A v || false)))) (sym (back u h)) (subst (λ x. T (not (A u) || (not (A x) || (A v || false)))) (sym (back w k)) (if_both (A u) (A w) (A v) f))

pub each_up_from : (P : ℕ → Type 0) (a n : ℕ) → ((j : ℕ) → a ≤ j → j < a + n → P j) → Each P (up_from a n)
each_up_from P a zero f = tt
each_up_from P a (suc n) f = (f a (omega arith) (omega arith), each_up_from P (suc a) n (λ j l u. f j (omega arith) (omega arith)))

-- register (i, j) is true where j ≤ n, for each j
abbrev Row : Chosen → ℕ → ℕ → ℕ → ℕ → Type 0
Row A base K i n = (j : ℕ) → j < K → A (register base K i (suc j)) ≡ leb (suc j) n

-- and so on for the inputs xs, of which the first is the i-th, where n were true before
abbrev Rows : Chosen → ℕ → ℕ → ℕ → ℕ → List ℕ → Type 0
Rows A base K i n [] = Unit {0}
Rows A base K i n (x ∷ xs) = Row A base K i (cond (A x) (suc n) n) × Rows A base K (suc i) (cond (A x) (suc n) n) xs

row_up : (A : Chosen) (base K i n : ℕ) → Row A base K i n → (j : ℕ) → 1 ≤ j → j ≤ K → j ≤ n → T (A (register base K i j))
row_up A base K i n w zero l u h = absurd (omega arith)
row_up A base K i n w (suc j) l u h = subst T (sym (w j u)) (le→leb (suc j) n h)

row_down : (A : Chosen) (base K i n : ℕ) → Row A base K i n → (j : ℕ) → 1 ≤ j → j ≤ K → T (A (register base K i j)) → j ≤ n
row_down A base K i n w zero l u h = absurd (omega arith)
row_down A base K i n w (suc j) l u h = leb→le (suc j) n (subst T (w j u) h)

first_true : (A : Chosen) (base k x n : ℕ) → 1 ≤ x → Row A base (suc k) 1 n → (T (A x) → 1 ≤ n) → Each (True A) (counter_input base (suc k) (neg x) 1)
first_true A base k x n h w f = (two_true A x (register base (suc k) 1 1) h (λ t. row_up A base (suc k) 1 n w 1 (omega arith) (omega arith) (f t)), tt)

later_true : (A : Chosen) (base k i x n n' : ℕ) → 1 ≤ base → 1 ≤ x → Row A base (suc k) (suc i) n → Row A base (suc k) (suc (suc i)) n' →
    n ≤ n' → (T (A x) → suc n ≤ n') → Each (True A) (counter_input base (suc k) (neg x) (suc (suc i)))
later_true A base k i x n n' b h w w' le f =
    each_append (True A) (head ++ each keeps (up_from 1 (suc k))) (each adds (up_from 1 k)) (each_append (True A) head (each keeps (up_from 1 (suc k))) head-true keeps-true) adds-true
  where
    s : ℕ → ℕ
    s j = register base (suc k) (suc i) j

    s' : ℕ → ℕ
    s' j = register base (suc k) (suc (suc i)) j

    above : (j : ℕ) → 1 ≤ s j
    above j = omega arith

    up' : (j : ℕ) → 1 ≤ j → j ≤ suc k → j ≤ n' → T (A (s' j))
    up' = row_up A base (suc k) (suc (suc i)) n' w'

    down : (j : ℕ) → 1 ≤ j → j ≤ suc k → T (A (s j)) → j ≤ n
    down = row_down A base (suc k) (suc i) n w

    head : List Clause
    head = (neg x ∷ pos (s' 1) ∷ []) ∷ []

    keeps : ℕ → Clause
    keeps j = neg (s j) ∷ pos (s' j) ∷ []

    adds : ℕ → Clause
    adds j = neg x ∷ neg (s j) ∷ pos (s' (suc j)) ∷ []

    head-true : Each (True A) head
    head-true = (two_true A x (s' 1) h (λ t. up' 1 (omega arith) (omega arith) (omega (arith, f t))), tt)

    keeps-true : Each (True A) (each keeps (up_from 1 (suc k)))
    keeps-true = each-each (True A) keeps (up_from 1 (suc k)) (each_up_from (λ j. True A (keeps j)) 1 (suc k)
        (λ j l u. two_true A (s j) (s' j) (above j) (λ t. up' j l (omega arith) (omega (arith, down j l (omega arith) t)))))

    adds-true : Each (True A) (each adds (up_from 1 k))
    adds-true = each-each (True A) adds (up_from 1 k) (each_up_from (λ j. True A (adds j)) 1 k
        (λ j l u. three_true A x (s j) (s' (suc j)) h (above j) (λ t v. up' (suc j) (omega arith) (omega arith) (omega (arith, f t, down j l (omega arith) v)))))

more_le : (b : Bool) (n : ℕ) → n ≤ cond b (suc n) n
more_le true n = omega arith
more_le false n = omega arith

more_lt : (b : Bool) (n : ℕ) → T b → suc n ≤ cond b (suc n) n
more_lt true n t = omega arith
more_lt false n t = absurd t

rows_true : (A : Chosen) (base k : ℕ) → 1 ≤ base → (i n : ℕ) (xs : List ℕ) → Each (λ x. 1 ≤ x) xs → Row A base (suc k) (suc i) n → Rows A base (suc k) (suc (suc i)) n xs →
    Each (True A) (counter base (suc k) (suc (suc i)) xs)
rows_true A base k b i n [] g w ws = tt
rows_true A base k b i n (x ∷ xs) g w ws =
    each_append (True A) (counter_input base (suc k) (neg x) (suc (suc i))) (counter base (suc k) (suc (suc (suc i))) xs)
    (later_true A base k i x n (cond (A x) (suc n) n) b g.0 w ws.0 (more_le (A x) n) (more_lt (A x) n))
    (rows_true A base k b (suc i) (cond (A x) (suc n) n) xs g.1 ws.0 ws.1)

all_rows_true : (A : Chosen) (base k : ℕ) → 1 ≤ base → (xs : List ℕ) → Each (λ x. 1 ≤ x) xs → Rows A base (suc k) 1 0 xs → Each (True A) (counter base (suc k) 1 xs)
all_rows_true A base k b [] g ws = tt
all_rows_true A base k b (x ∷ xs) g ws =
    each_append (True A) (counter_input base (suc k) (neg x) 1) (counter base (suc k) 2 xs)
    (first_true A base k x (cond (A x) 1 0) g.0 ws.0 (more_lt (A x) 0))
    (rows_true A base k b 0 (cond (A x) 1 0) xs g.1 ws.0 ws.1)

-- a counter up to 0 has no clause
none_true : (A : Chosen) (base i : ℕ) (xs : List ℕ) → Each (True A) (counter base 0 i xs)
none_true A base i [] = tt
none_true A base i (x ∷ xs) = none_true A base (suc i) xs

-- what the registers of a counter on the inputs xs are to say
abbrev pub Registers : Chosen → ℕ → ℕ → List ℕ → Type 0
Registers A base K xs = (i j : ℕ) → i < length xs → j < K → A (register base K (suc i) (suc j)) ≡ leb (suc j) (how_many A (take (suc i) xs))

pub one_more : (b : Bool) (n h : ℕ) → n + cond b (suc h) h ≡ cond b (suc n) n + h
one_more true n h = omega arith
one_more false n h = omega arith

rows_from : (A : Chosen) (base K m n : ℕ) (xs : List ℕ) →
    ((i e j : ℕ) → i ≡ m + e → e < length xs → j < K → A (register base K (suc i) (suc j)) ≡ leb (suc j) (n + how_many A (take (suc e) xs))) →
    Rows A base K (suc m) n xs
rows_from A base K m n [] h = tt
rows_from A base K m n (x ∷ xs) h = (
  (λ j u. h m 0 j (omega arith) (omega arith) u ∙ ap (leb (suc j)) (one_more (A x) n 0 ∙ omega arith)),
  rows_from A base K (suc m) (cond (A x) (suc n) n) xs (λ i e j p l u. h i (suc e) j (omega arith) (omega arith) u ∙ ap (leb (suc j)) (one_more (A x) n (how_many A (take (suc e) xs)))),
)

pub counter_true : (A : Chosen) (base K : ℕ) (xs : List ℕ) → 1 ≤ base → Each (λ x. 1 ≤ x) xs → Registers A base K xs → Each (True A) (counter base K 1 xs)
counter_true A base zero xs b g w = none_true A base 1 xs
counter_true A base (suc k) xs b g w =
    all_rows_true A base k b xs g (rows_from A base (suc k) 0 0 xs read)
  where
    read : (i e j : ℕ) → i ≡ 0 + e → e < length xs → j < suc k → A (register base (suc k) (suc i) (suc j)) ≡ leb (suc j) (0 + how_many A (take (suc e) xs))
    read i e j p l u =
        let same : e ≡ i = omega arith in
        subst (λ y. A (register base (suc k) (suc y) (suc j)) ≡ leb (suc j) (how_many A (take (suc e) xs))) same (w e j l u) ∙ ap (leb (suc j)) (omega arith)
