-- The end of a stanza: its row holds what a row of a problem holds.
use Rattle.std.proofs.Common.{◌≡◌, ℕ, ◌≤◌, false, List, length, IfSome, IfOk, Some, None, Ok, Err, Option, Result, unwrap_or, refl, subst, ap, sym, arith}
use Rattle.std.proofs.ByRecursion.{All-push}
use Rattle.std.proofs.lemmas.List.{length_push}
use Rattle.text.specs.Lists.{Each}
use Rattle.problem.specs.Drafts.{DraftOk}
use Rattle.problem.specs.Growth.{ok_mapped}
use Rattle.problem.specs.Rows.{PackageOk, Spanned}
use Rattle.problem.specs.Sections.{row_of, Files, SectionOk, Sound}
use Rattle.problem.specs.declared.draft.Draft.{Draft}
use Rattle.problem.specs.declared.fault.ProblemFault.{ProblemFault}
use Rattle.problem.specs.declared.rows.PackageRow.{PackageRow}
use Rattle.problem.specs.declared.rows.Span.{Span}
use Rattle.problem.specs.declared.section.Progress.{Progress}
use Rattle.problem.specs.declared.section.Section.TheVariants.{Between, Package}

abbrev no_span : Span
no_span = record { first = 0; len = 0 }

pub spanned_given : (n : ℕ) (o : Option Span) → IfSome o (Spanned n) → Spanned n (unwrap_or o no_span)
spanned_given n None h = omega arith
spanned_given n (Some s) h = h

row_good : (bytes n : ℕ) (d : Draft) (o : Option ℕ) (row : PackageRow) → d.head.version ≡ o → row_of d o ≡ Ok row → DraftOk bytes n d → PackageOk bytes n row
row_good bytes n d None row v e h = absurd (let z : ◌≡◌ {A = ℕ} 0 1 = cc in omega arith)
row_good bytes n d (Some w) row v e h =
    let q : record { line = d.head.line; name = d.head.name; version = w; installed = unwrap_or d.head.installed false; depends = unwrap_or d.depends no_span; conflicts = unwrap_or d.conflicts no_span } ≡ row = cc in
    let k : (1 ≤ w) × (w ≤ 999999) = subst (λ o. IfSome o (λ v. (1 ≤ v) × (v ≤ 999999))) v h.head.version in
    subst (PackageOk bytes n) q (record { name = h.head.name; least = k.0; most = k.1; depends = spanned_given n d.depends h.depends; conflicts = spanned_given n d.conflicts h.conflicts })

pub closes_good : {U : Type 0} (limit : ℕ) (ps qs : List PackageRow) (d : Draft) (last : Progress) (r : Result U ProblemFault) → limit ≤ 256 → last.section ≡ Package d → Files limit ps d qs r → (bytes n : ℕ) → Sound bytes n ps last → IfOk (ok_mapped (λ _. record { section = Between; request = last.request }) r) (Sound bytes n qs)
closes_good limit ps qs d last (Ok u) m e f bytes n h =
    let ok = row_good bytes n d d.head.version f.0 refl f.1 (subst (SectionOk bytes n) e h.section) in
    record { packages = subst (Each (PackageOk bytes n)) (sym f.3) (All-push (PackageOk bytes n) ps f.0 h.packages ok); section = tt; request = h.request; few = omega (arith, ap length f.3, length_push ps f.0, f.2) }
closes_good limit ps qs d last (Err x) m e f bytes n h = tt
