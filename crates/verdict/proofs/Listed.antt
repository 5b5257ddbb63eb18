-- The walk over the names that have an indicator.
use Rattle.std.proofs.Common.{◌≡◌, ℕ, suc, ◌+◌, ◌<◌, Bool, true, false, cond, not, ◌&&◌, List, [], ◌∷◌, length, get_or, take, drop, sym, refl, ap, ◌∙◌}
use Rattle.std.specs.List.{enumerate_from}
use Rattle.text.specs.Lists.{each, keep, how_many}
use Rattle.text.specs.Word.{word_in}
use Rattle.problem.proofs.Names.{rows_step, is_first, firsts_are}
use Rattle.problem.specs.Naming.{named, row_names}
use Rattle.problem.specs.Rows.{no_package}
use Rattle.problem.specs.declared.rows.PackageRow.{PackageRow}
use Rattle.verdict.specs.Indicators.{listed, listed_at, listed_from}
use Rattle.verdict.specs.declared.names.Indicator.{Indicator}

module _ (k : Indicator) (text : List ℕ) (ps : List PackageRow) where
  module _ (i : ℕ) (l : i < length ps) where
    abbrev row : PackageRow
    row = get_or ps i no_package

    step : (r : Bool) → r ≡ listed_at k text ps i row → listed_from k text ps i ≡ cond r (word_in text row.name ∷ listed_from k text ps (i + 1)) (listed_from k text ps (i + 1))
    step r e =
        ap (keep (listed k text ps)) (rows_step text ps i no_package l) ∙ pick (named text (word_in text row.name) (take i ps))
        ∙ ap (λ y. cond y (word_in text row.name ∷ listed_from k text ps (i + 1)) (listed_from k text ps (i + 1))) (sym e)
      where
        rest : List (List ℕ)
        rest = row_names text (each (λ p. word_in text p.name) (take (i + 1) ps)) (drop (i + 1) ps)

        pick : (b : Bool) → keep (listed k text ps) (cond b rest (word_in text row.name ∷ rest)) ≡
            cond (not b && listed k text ps (word_in text row.name)) (word_in text row.name ∷ keep (listed k text ps) rest) (keep (listed k text ps) rest)
        pick true = refl
        pick false = refl

    pub listed_more : true ≡ listed_at k text ps i row → listed_from k text ps i ≡ word_in text row.name ∷ listed_from k text ps (i + 1)
    listed_more e = step true e

    pub listed_same : false ≡ listed_at k text ps i row → listed_from k text ps i ≡ listed_from k text ps (i + 1)
    listed_same e = step false e

  pub listed_count : length (keep (is_first text (listed k text ps) ps) (enumerate_from 0 ps)) ≡ length (listed_from k text ps 0)
  listed_count = firsts_are text (listed k text ps) ps ∙ kept (row_names text [] ps)
    where
      kept : (ns : List (List ℕ)) → how_many (listed k text ps) ns ≡ length (keep (listed k text ps) ns)
      kept [] = refl
      kept (n ∷ ns) = ap (λ m. cond (listed k text ps n) (suc m) m) (kept ns) ∙ pick (listed k text ps n)
        where
          pick : (b : Bool) → cond b (suc (length (keep (listed k text ps) ns))) (length (keep (listed k text ps) ns)) ≡ length (cond b (n ∷ keep (listed k text ps) ns) (keep (listed k text ps) ns))
          pick true = refl
          pick false = refl
