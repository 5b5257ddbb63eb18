-- The scan of a clause: its steps, and what its answer means.
use Rattle.std.proofs.Common.{◌≡◌, ℕ, ◌+◌, ◌<◌, ◌≤◌, Bool, true, false, [], length, get_or, drop, ℤ, pos, is_some, Some, None, Option, sym, ap, ◌∙◌, arith, w32, SFits, to_z, of_z}
use Rattle.std.proofs.lemmas.Int.{to_z-of_z}
use Rattle.std.proofs.lemmas.List.{drop_more, drop_all}
use Rattle.text.specs.Literals.{Clause}
use Rattle.clauses.specs.Propagation.{Values, value}
use Rattle.clauses.specs.Status.{status_at, status_from}
use Rattle.clauses.specs.declared.scan.Status.{Status}
use Rattle.clauses.specs.declared.scan.Status.TheVariants.{Conflict, Forced, Other}

-- The scan has come to the literal at i, and what is left gives r.
module _ (f : Values) (found : Option ℤ) (c : Clause) (i : ℕ) (r : Status) (inv : status_from f found (drop i c) ≡ r) where
  step : (o : Option Bool) → i < length c → SFits w32 (get_or c i (pos 0)) → o ≡ value f (to_z w32 (of_z w32 (get_or c i (pos 0)))) → status_at o found (get_or c i (pos 0)) (λ k. status_from f k (drop (i + 1) c)) ≡ r
  step o lt fits e =
      let z : to_z w32 (of_z w32 (get_or c i (pos 0))) ≡ get_or c i (pos 0) = to_z-of_z w32 _ fits in
      let d : status_from f found (drop i c) ≡ status_at o found (get_or c i (pos 0)) (λ k. status_from f k (drop (i + 1) c)) = ap (status_from f found) (drop_more c i (pos 0) lt) ∙ rw (e, z) in
      sym d ∙ inv

  pub scan_true : i < length c → SFits w32 (get_or c i (pos 0)) → Some true ≡ value f (to_z w32 (of_z w32 (get_or c i (pos 0)))) → Other ≡ r
  scan_true lt fits e = step (Some true) lt fits e

  pub scan_false : (found' : Option ℤ) → found' ≡ found → i < length c → SFits w32 (get_or c i (pos 0)) → Some false ≡ value f (to_z w32 (of_z w32 (get_or c i (pos 0)))) → status_from f found' (drop (i + 1) c) ≡ r
  scan_false found' same lt fits e = rw same (step (Some false) lt fits e)

  pub scan_second : true ≡ is_some found → i < length c → SFits w32 (get_or c i (pos 0)) → None ≡ value f (to_z w32 (of_z w32 (get_or c i (pos 0)))) → Other ≡ r
  scan_second has lt fits e = go found has (step None lt fits e)
    where
      go : (o : Option ℤ) → true ≡ is_some o → status_at None o (get_or c i (pos 0)) (λ k. status_from f k (drop (i + 1) c)) ≡ r → Other ≡ r
      go (Some l) h g = g
      go None h g = let z : ◌≡◌ {A = ℕ} 0 1 = cc in absurd (omega arith)

  pub scan_first : (found' : Option ℤ) → false ≡ is_some found → found' ≡ Some (to_z w32 (of_z w32 (get_or c i (pos 0)))) → i < length c → SFits w32 (get_or c i (pos 0)) → None ≡ value f (to_z w32 (of_z w32 (get_or c i (pos 0)))) → status_from f found' (drop (i + 1) c) ≡ r
  scan_first found' has new lt fits e = rw (new, to_z-of_z w32 _ fits) (go found has (step None lt fits e))
    where
      go : (o : Option ℤ) → false ≡ is_some o → status_at None o (get_or c i (pos 0)) (λ k. status_from f k (drop (i + 1) c)) ≡ r → status_from f (Some (get_or c i (pos 0))) (drop (i + 1) c) ≡ r
      go (Some l) h g = let z : ◌≡◌ {A = ℕ} 0 1 = cc in absurd (omega arith)
      go None h g = g

  pub scan_end : length c ≤ i → status_from f found [] ≡ r
  scan_end le = sym (ap (status_from f found) (drop_all i c le)) ∙ inv

  pub scan_none : length c ≤ i → found ≡ None → Conflict ≡ r
  scan_none le e = rw e at (scan_end le)

  pub scan_one : (l : ℤ) → length c ≤ i → found ≡ Some l → SFits w32 l → Forced (to_z w32 (of_z w32 l)) ≡ r
  scan_one l le e fits = rw (to_z-of_z w32 l fits) (rw e at (scan_end le))
