use Rattle.std.proofs.Common.{◌≡◌, Some, refl, ap, ◌∙◌, rules}
use Rattle.std.specs.Result.{result_ok}
use Rattle.clauses.specs.Common.{Steady}
use Rattle.clauses.specs.Finding.{Found}
use Rattle.clauses.specs.declared.fault.Hinted.TheVariants.{Conflict}
use Rattle.clauses.proofs.Commons.{said_conflict, said_open}
use Rattle.clauses.proofs.common.Common.hint.Goals as goal

pub returns-then-eq : goal.returns-then-eq
returns-then-eq c =
    let a = c.args.self.now in
    let o : c.find.result ≡ Some c.in_ok-k.k = c.ok_or.ensures.ok_part ∙ ap result_ok c.in_ok-k.was in
    let f : Found a.store c.args.number (Some c.in_ok-k.k) = rw o at c.find.ensures in
    let h : c.follow-said.result ≡ Conflict = search rules in
    let e = c.follow-said.ensures in
    let s : Steady a _ = record { rows = refl; literals = refl; cells = e.cells; trail = refl } in
    let p = c.is_open.ensures.0 c.if-not-is_open.false in
    record { call = rw h (said_conflict a _ c.args.number c.in_ok-k.k p f.0 f.1 f.2 refl s refl (rw h at e.says)); steady = s }

pub returns-else-eq : goal.returns-else-eq
returns-else-eq c =
    let a = c.args.self.now in
    let o : c.find.result ≡ Some c.in_ok-k.k = c.ok_or.ensures.ok_part ∙ ap result_ok c.in_ok-k.was in
    let f : Found a.store c.args.number (Some c.in_ok-k.k) = rw o at c.find.ensures in
    let h : c.follow-said.result ≡ Conflict → ⊥ = search rules in
    let e = c.follow-said.ensures in
    let s : Steady a _ = record { rows = refl; literals = refl; cells = e.cells; trail = refl } in
    let p = c.is_open.ensures.0 c.if-not-is_open.false in
    record { call = said_open a _ c.args.number c.in_ok-k.k p f.0 f.1 f.2 refl s c.follow-said.result h p e.says; steady = s }
