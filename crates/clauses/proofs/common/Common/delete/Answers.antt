use Rattle.std.proofs.Common.{◌≡◌, Some, refl, ap, ◌∙◌, rules}
use Rattle.std.specs.Result.{result_ok}
use Rattle.clauses.specs.Common.{Steady}
use Rattle.clauses.specs.Finding.{Found}
use Rattle.clauses.proofs.Commons.{deleted}
use Rattle.clauses.proofs.common.Common.delete.Goals as goal

pub returns : goal.returns
returns c =
    let a = c.args.self.now in
    let o : c.find.result ≡ Some c.in_ok-k.k = c.ok_or.ensures.ok_part ∙ ap result_ok c.in_ok-k.was in
    let f : Found a.store c.args.number (Some c.in_ok-k.k) = rw o at c.find.ensures in
    let t = c.take_out.ensures in
    let s : Steady a _ = record { rows = t.kept.rows; literals = t.kept.literals; cells = refl; trail = refl } in
    record { call = deleted a _ c.args.number c.in_ok-k.k (search rules) f.0 f.1 f.2 t refl refl s; steady = s }
