-- The clauses of all indicators: the steps of a walk.
use Rattle.std.proofs.Common.{◌≡◌, ℕ, suc, ◌+◌, ◌<◌, true, false, List, ◌∷◌, length, get_or, Ok, Err, sym, ap, ◌∙◌, subst, arith}
use Rattle.std.specs.Result.{IsErr}
use Rattle.text.specs.Literals.{Clause}
use Rattle.text.specs.Word.{word_in}
use Rattle.problem.specs.Feeding.{Fed, Left}
use Rattle.problem.specs.Rows.{no_package}
use Rattle.problem.specs.declared.rows.PackageRow.{PackageRow}
use Rattle.problem.specs.declared.sink.Stopped.{Stopped}
use Rattle.problem.proofs.Feeds.{Taken, left_more, left_stop}
use Rattle.verdict.specs.Indicators.{of_name, of_names, listed_at, listed_from}
use Rattle.verdict.specs.declared.names.Indicator.{Indicator}
use Rattle.verdict.proofs.Listed.{listed_more, listed_same}

module _ {S : Type 0} (goes stops : S → Clause → S → Type 0) (k : Indicator) (text : List ℕ) (ps : List PackageRow) (v i : ℕ) (whole : List Clause) (start s : S) (left : Left goes stops whole start (of_names k text ps v (listed_from k text ps i)) s) where
  module _ (t : S) (l : i < length ps) where
    pub names_stop : (n : List ℕ) (w : Stopped) (r : Taken) → IsErr r → n ≡ word_in text (get_or ps i no_package).name → true ≡ listed_at k text ps i (get_or ps i no_package) → Fed goes stops (of_name k text ps v n) (Err w) s t → Fed goes stops whole r start t
    names_stop n w r j d e f =
        left_stop goes stops whole _ (of_names k text ps (suc v) (listed_from k text ps (i + 1))) w r start s t
        (subst (λ ns. Left goes stops whole start (of_names k text ps v ns) s) (listed_more k text ps i l e ∙ ap (λ m. m ∷ listed_from k text ps (i + 1)) (sym d)) left) j f

    pub names_more : (n : List ℕ) (w : ℕ) (m : S) → n ≡ word_in text (get_or ps i no_package).name → true ≡ listed_at k text ps i (get_or ps i no_package) → w ≡ v + 1 → Fed goes stops (of_name k text ps v n) (Ok tt) s m → t ≡ m →
        Left goes stops whole start (of_names k text ps w (listed_from k text ps (i + 1))) t
    names_more n w m d e x f y =
        let z : suc v ≡ w = omega arith in
        let g = left_more goes stops whole _ (of_names k text ps (suc v) (listed_from k text ps (i + 1))) start s m
        (subst (λ ns. Left goes stops whole start (of_names k text ps v ns) s) (listed_more k text ps i l e ∙ ap (λ a. a ∷ listed_from k text ps (i + 1)) (sym d)) left) f in
        subst (λ u. Left goes stops whole start (of_names k text ps w (listed_from k text ps (i + 1))) u) (sym y) (subst (λ u. Left goes stops whole start (of_names k text ps u (listed_from k text ps (i + 1))) m) z g)

    pub names_same : (w : ℕ) → false ≡ listed_at k text ps i (get_or ps i no_package) → w ≡ v → t ≡ s → Left goes stops whole start (of_names k text ps w (listed_from k text ps (i + 1))) t
    names_same w e x y =
        subst (λ u. Left goes stops whole start (of_names k text ps w (listed_from k text ps (i + 1))) u) (sym y)
        (subst (λ u. Left goes stops whole start (of_names k text ps u (listed_from k text ps (i + 1))) s) (sym x) (subst (λ ns. Left goes stops whole start (of_names k text ps v ns) s) (listed_same k text ps i l e) left))
