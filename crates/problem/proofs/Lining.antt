-- One line of a problem document.
use Rattle.std.proofs.Common.{◌≡◌, ℕ, ◌≤◌, Bool, false, not, eqb, ltb, List, [], ◌∷◌, map, length, take, IfSome, Some, None, Ok, Err, Option, Result, sym, refl, ap, ◌∙◌, arith}
use Rattle.std.proofs.lemmas.List.{length-map}
use Rattle.std.specs.Option.{option_map}
use Rattle.text.specs.Lists.{Each}
use Rattle.text.specs.Pieces.{property}
use Rattle.problem.specs.Drafts.{sought_of, then, WantedOk}
use Rattle.problem.specs.Growth.{ok_mapped}
use Rattle.problem.specs.Reading.{Limits, Place, State, placed, moved, step}
use Rattle.problem.specs.Rows.{PackageOk}
use Rattle.problem.specs.Sections.{place_of, place_at, given_of, state_of, SectionOk, Sound}
use Rattle.problem.specs.declared.fault.ProblemFault.{ProblemFault}
use Rattle.problem.specs.declared.rows.ConstraintRow.{ConstraintRow}
use Rattle.problem.specs.declared.rows.PackageRow.{PackageRow}
use Rattle.problem.specs.declared.section.Progress.{Progress}
use Rattle.problem.specs.declared.section.Section.{Section}
use Rattle.problem.specs.declared.wanted.Wanted.{Wanted}
use Rattle.problem.proofs.Drafting.{list_stays, conjuncts_stay, wanted_stays, spanned_more}

-- what was read before stays as it was
module _ (text : List ℕ) (cs ds : List ConstraintRow) (front : take (length cs) ds ≡ cs) where
  given_stays : (p : PackageRow) → PackageOk (length text) (length cs) p → given_of text ds p ≡ given_of text cs p
  given_stays p h = rw (list_stays text cs ds front p.conflicts h.conflicts, conjuncts_stay text cs ds front p.depends h.depends) refl

  pub givens_stay : (ps : List PackageRow) → Each (PackageOk (length text) (length cs)) ps → map (given_of text ds) ps ≡ map (given_of text cs) ps
  givens_stay [] h = refl
  givens_stay (p ∷ ps) h = ap (λ x. x ∷ map (given_of text ds) ps) (given_stays p h.0) ∙ ap (λ x. given_of text cs p ∷ x) (givens_stay ps h.1)

  pub request_stays : (w : Option Wanted) → IfSome w (WantedOk (length cs)) → option_map (sought_of text ds) w ≡ option_map (sought_of text cs) w
  request_stays None h = refl
  request_stays (Some w) h = ap Some (wanted_stays text cs ds front w h)

  pub stepped : (k : Limits) (n : ℕ) (ps : List PackageRow) (last : Progress) (l : List ℕ) (p : List ℕ × List ℕ) (full : Bool) (r : Result Section ProblemFault) → eqb (length l) 0 ≡ false → Some p ≡ property l → full ≡ not (ltb (length ps) k.packages) → Sound (length text) (length cs) ps last → ok_mapped (place_at text ds) r ≡ placed k.constraints n full (option_map (sought_of text cs) last.request) (length cs) p (place_of text cs last.section) → ok_mapped (state_of text ps ds) (ok_mapped (λ s. record { section = s; request = last.request }) r) ≡ step k n (state_of text ps cs last) l
  stepped k n ps last l p full r e q f h x =
      at r ∙ ap (λ y. then y after) x ∙ whole
    where
      s : State
      s = state_of text ps cs last

      after : Place × ℕ → Result State ProblemFault
      after y = Ok (moved s y.0 y.1)

      at : (r : Result Section ProblemFault) → ok_mapped (state_of text ps ds) (ok_mapped (λ s. record { section = s; request = last.request }) r) ≡ then (ok_mapped (place_at text ds) r) after
      at (Ok y) = rw (givens_stay ps h.packages, request_stays last.request h.request) refl
      at (Err y) = refl

      full_is : full ≡ not (ltb (length (map (given_of text cs) ps)) k.packages)
      full_is = f ∙ ap (λ m. not (ltb m k.packages)) (sym (length-map ps (given_of text cs)))

      whole : then (placed k.constraints n full (option_map (sought_of text cs) last.request) (length cs) p (place_of text cs last.section)) after ≡ step k n s l
      whole = ap (λ b. then (placed k.constraints n b (option_map (sought_of text cs) last.request) (length cs) p (place_of text cs last.section)) after) full_is ∙ rw (e, ← q) refl

packages_more : (bytes m n : ℕ) → m ≤ n → (ps : List PackageRow) → Each (PackageOk bytes m) ps → Each (PackageOk bytes n) ps
packages_more bytes m n l [] h = tt
packages_more bytes m n l (p ∷ ps) h =
    (record { name = h.0.name; least = h.0.least; most = h.0.most; depends = omega (arith, h.0.depends); conflicts = omega (arith, h.0.conflicts) }, packages_more bytes m n l ps h.1)

wanted_more : (m n : ℕ) → m ≤ n → (w : Option Wanted) → IfSome w (WantedOk m) → IfSome w (WantedOk n)
wanted_more m n l None h = tt
wanted_more m n l (Some w) h = record { install = spanned_more m n w.install l h.install; remove = spanned_more m n w.remove l h.remove }

pub sound_more : (bytes m n : ℕ) (ps : List PackageRow) (last : Progress) (s : Section) → m ≤ n → Sound bytes m ps last → SectionOk bytes n s → Sound bytes n ps (record { section = s; request = last.request })
sound_more bytes m n ps last s l h k = record { packages = packages_more bytes m n l ps h.packages; section = k; request = wanted_more m n l last.request h.request; few = h.few }
