-- The lists of a store's rows, as they are built.
use Rattle.std.proofs.Common.{◌≡◌, ℕ, suc, ◌+◌, ◌-◌, ◌*◌, ◌^◌, ◌<◌, ◌≤◌, Bool, true, false, cond, eqb, ◌≢◌, ◌⊎◌, List, length, get_or, take, set, ℤ, pos, sym, refl, ap, ◌∙◌, subst, inl, inr, add-zero, add-one, arith, w32, SFits, to_z, of_z, below_more}
use Rattle.std.proofs.lemmas.Int.{to_z-of_z}
use Rattle.std.proofs.lemmas.List.{get_or-set_same, get_or-set_other, length-set, length-take, take_more, take_all}
use Rattle.text.specs.Literals.{variable_of, positive}
use Rattle.clauses.specs.Rows.{row_at}
use Rattle.clauses.specs.Codes.{code_of}
use Rattle.clauses.specs.Links.{Falling}
use Rattle.clauses.specs.Linked.{Linked}
use Rattle.clauses.specs.Events.{clause_at, Listed, Fit, Indexed, Entering}
use Rattle.clauses.specs.declared.store.Store.{Store}
use Rattle.clauses.specs.declared.index.Index.{Index}
use Rattle.clauses.proofs.Memory.{sound_of}
use Rattle.clauses.proofs.OneRow.{row_named}
use Rattle.std.proofs.lemmas.Bool.{cases_eq, eq-eqb, ne_eqb}
use Rattle.clauses.specs.Counting.{Tally, none, hits}
use Rattle.clauses.proofs.Tallies.{tally_kept, tally_new, how_many_push}
use Rattle.clauses.proofs.Links.{on_bound, on_enter, on_new, below_push}

-- an index's lists lead from entry to entry
pub linked_of : (x : Index) → Linked x
linked_of x =
    record { small = x.small; chained = x.chained; owned = x.owned; listed = x.listed; begins = x.begins; falling = x.falling }

pub clause_long : (s : Store) (k : ℕ) → length (clause_at s k) ≤ (row_at s.rows.now k).len
clause_long s k = simp length-take (omega arith)

-- the index x, and y with a new entry in front of the list of code
module _ (x y : Index) (code owner : ℕ) (ok : Linked x) (lt : code < x.lists) (nl : x.used < length x.next.now) (ol : x.used < length x.owners.now) (heads : y.heads.now ≡ set x.heads.now code (x.used + 1)) (next : y.next.now ≡ set x.next.now x.used (get_or x.heads.now code 0)) (owners : y.owners.now ≡ set x.owners.now x.used owner) where
  pub listed_kept : (c r : ℕ) → c < x.lists → Listed x c r → Listed y c r
  listed_kept c r cl h =
      let b : get_or x.heads.now c 0 ≤ x.used = ok.begins c cl in
      let e : ℕ = h.0 in
      let lt' : e < get_or x.heads.now c 0 = on_bound x.next.now x.used (get_or x.heads.now c 0) e ok.falling b h.1 in
      let ne : e ≢ x.used = omega arith in
      (e, rw (heads, next) (on_enter x.next.now x.heads.now x.used code c e ok.falling nl (omega (arith, ok.listed)) b h.1), rw owners (get_or-set_other x.owners.now x.used e owner 0 ne ∙ h.2))

  pub listed_new : Listed y code owner
  listed_new = (x.used, rw heads (on_new y.next.now x.heads.now x.used code 0 (omega (arith, ok.listed))), rw owners (get_or-set_same x.owners.now x.used owner 0 ol))

pub code_bound : (l : ℤ) → code_of l ≤ 2 * variable_of l + 1
code_bound l = go (positive l)
  where
    go : (b : Bool) → 2 * variable_of l + cond b 0 1 ≤ 2 * variable_of l + 1
    go true = omega arith
    go false = omega arith

pub code_fits : (s : Store) (x : Index) (k j : ℕ) → Fit s x → k < s.count → j < length (clause_at s k) → code_of (get_or (clause_at s k) j (pos 0)) < x.lists
code_fits s x k j fit lt h =
    let a : variable_of (get_or (clause_at s k) j (pos 0)) - 1 < s.variables = row_named s k (clause_at s k) refl lt (sound_of s) j h in
    omega (arith, code_bound (get_or (clause_at s k) j (pos 0)), fit.heads)

-- there is room for one more entry
pub entry_fits : (s : Store) (x₀ x : Index) (k i : ℕ) → k < s.count → i < length (clause_at s k) → Entering s x₀ x k i → (x.used < length x.next.now) × (x.used < length x.owners.now) × (x.used + 1 < 2 ^ 32)
entry_fits s x₀ x k i lt h e =
    let a : (row_at s.rows.now k).start + (row_at s.rows.now k).len ≤ s.filled = s.spans k lt in
    let b : length (clause_at s k) ≤ (row_at s.rows.now k).len = clause_long s k in
    (omega (arith, e.room, e.fit.next), omega (arith, e.room, e.fit.owners), omega (arith, e.room, s.within, s.small))

pub entering_none : (s : Store) (x : Index) (k : ℕ) → k < s.count → Fit s x → Indexed s x k → Entering s x x k 0
entering_none s x k lt fit h =
    record { fit = fit; same = record { heads = refl; next = refl; owners = refl }; whole = h.whole; part = λ j l. absurd (omega arith); owned = h.owned; room = omega (arith, h.room k (omega arith) lt); tallied = h.tallied; some = λ code cl. none }

-- the entries of row k on a list, after one more with this code
some_more : (next owners heads : List ℕ) (n code k c m : ℕ) → Falling next n → n < length next → n < length owners → code < length heads → get_or heads c 0 ≤ n → Tally next owners k (get_or heads c 0) m → Tally (set next n (get_or heads code 0)) (set owners n k) k (get_or (set heads code (n + 1)) c 0) (m + cond (eqb code c) 1 0)
some_more next owners heads n code k c m f nl ol cl le t = go (cases_eq code c)
  where
    go : (code ≡ c) ⊎ (code ≡ c → ⊥) → Tally (set next n (get_or heads code 0)) (set owners n k) k (get_or (set heads code (n + 1)) c 0) (m + cond (eqb code c) 1 0)
    go (inl q) =
        let a : m + cond (eqb code c) 1 0 ≡ suc m = rw (eq-eqb code c q) (add-one m) in
        let t' : Tally next owners k (get_or heads code 0) m = subst (λ (z : ℕ). Tally next owners k (get_or heads z 0) m) (sym q) t in
        let le' : get_or heads code 0 ≤ n = subst (λ (z : ℕ). get_or heads z 0 ≤ n) (sym q) le in
        rw a (subst (λ (z : ℕ). Tally (set next n (get_or heads code 0)) (set owners n k) k (get_or (set heads code (n + 1)) z 0) (suc m)) q (tally_new next owners heads n code k f nl ol cl m le' t'))
    go (inr q) =
        let a : m + cond (eqb code c) 1 0 ≡ m = rw (ne_eqb code c q) (add-zero m) in
        rw a (tally_kept next owners heads n code k f nl ol cl k c m le t)

pub entering_more : (s : Store) (x₀ x y : Index) (k i code : ℕ) → k < s.count → i < length (clause_at s k) → code ≡ code_of (get_or (clause_at s k) i (pos 0)) → y.used ≡ x.used + 1 → y.lists ≡ x.lists → y.heads.now ≡ set x.heads.now code (x.used + 1) → y.next.now ≡ set x.next.now x.used (get_or x.heads.now code 0) → y.owners.now ≡ set x.owners.now x.used k → Entering s x₀ x k i → Entering s x₀ y k (i + 1)
entering_more s x₀ x y k i code lt h is used lists heads next owners e =
    let room = entry_fits s x₀ x k i lt h e in
    let ok : Linked x = linked_of x in
    let cl : code < x.lists = rw is (code_fits s x k i e.fit lt h) in
    let hl : code < length x.heads.now = omega (arith, ok.listed) in
    let kept : (c r : ℕ) → c < x.lists → Listed x c r → Listed y c r = listed_kept x y code k ok cl room.0 room.1 heads next owners in
    let hn : length y.heads.now ≡ length x.heads.now = ap length heads ∙ length-set _ _ _ in
    let nn : length y.next.now ≡ length x.next.now = ap length next ∙ length-set _ _ _ in
    let on : length y.owners.now ≡ length x.owners.now = ap length owners ∙ length-set _ _ _ in
    record {
      fit = record { linked = linked_of y; next = omega (arith, e.fit.next); owners = omega (arith, e.fit.owners); heads = omega (arith, e.fit.heads) };
      same = record { heads = hn ∙ e.same.heads; next = nn ∙ e.same.next; owners = on ∙ e.same.owners };
      whole = λ r rk j jl. kept _ r (code_fits s x r j e.fit (omega arith) jl) (e.whole r rk j jl);
      part = below_more (λ j. Listed y (code_of (get_or (clause_at s k) j (pos 0))) k) i (λ j ji. kept _ k (code_fits s x k j e.fit lt (omega arith)) (e.part j ji)) (subst (λ (z : ℕ). Listed y z k) is (listed_new x y code k ok cl room.0 room.1 heads next owners));
      owned = rw (owners, used) (below_push x.owners.now x.used s.count k room.1 lt e.owned);
      room = omega (arith, e.room);
      tallied = λ r rk c cy. let cx : c < x.lists = omega arith in rw (next, owners, heads) (tally_kept x.next.now x.owners.now x.heads.now x.used code k ok.falling room.0 room.1 hl r c _ (ok.begins c cx) (e.tallied r rk c cx));
      some = λ c cy. let cx : c < x.lists = omega arith in rw (next, owners, heads, take_more (clause_at s k) i (pos 0) h, how_many_push (λ m. eqb (code_of m) c) (take i (clause_at s k)) (get_or (clause_at s k) i (pos 0)), ← is) (some_more x.next.now x.owners.now x.heads.now x.used code k c (hits c (take i (clause_at s k))) ok.falling room.0 room.1 hl (ok.begins c cx) (e.some c cx));
    }

pub entering_all : (s : Store) (x₀ x : Index) (k i : ℕ) → k < s.count → i ≤ length (clause_at s k) → length (clause_at s k) ≤ i → Entering s x₀ x k i → Indexed s x (k + 1)
entering_all s x₀ x k i lt le ge e =
    record {
      whole = below_more (λ r. (j : ℕ) → j < length (clause_at s r) → Listed x (code_of (get_or (clause_at s r) j (pos 0))) r) k e.whole (λ j jl. e.part j (omega arith));
      owned = e.owned;
      room = λ r kr rc. omega (arith, s.ordered k r (omega arith) rc, clause_long s k, e.room);
      tallied = below_more (λ r. (code : ℕ) → code < x.lists → Tally x.next.now x.owners.now r (get_or x.heads.now code 0) (hits code (clause_at s r))) k e.tallied (λ code cl. rw (take_all i (clause_at s k) ge) at (e.some code cl));
    }

-- the code of a literal that was read
pub read_code : (cl dl : List ℤ) (i code : ℕ) → SFits w32 (get_or cl i (pos 0)) → cl ≡ dl → code ≡ code_of (to_z w32 (of_z w32 (get_or cl i (pos 0)))) → code ≡ code_of (get_or dl i (pos 0))
read_code cl dl i code fits e h = h ∙ ap code_of (to_z-of_z w32 _ fits ∙ ap (λ (z : List ℤ). get_or z i (pos 0)) e)
