use Rattle.std.proofs.Common.{length, ap, ◌∙◌, arith}
use Rattle.text.specs.Pieces.{upto}
use Rattle.text.proofs.Cuts.{part_cut}
use Rattle.text.proofs.find.split_once.Goals as goal

pub returns : goal.returns
returns c =
    let e = c.in_ok-n.ensures.0 ∙ ap (upto c.args.mark) c.bytes_of.ensures in
    part_cut c.args.mark c.args.text.now c.args.part c.clamped-part.result c.in_ok-n.n c.clamped-part.ensures.same c.clamped-part.ensures.inside e (omega (arith, c.in_ok-n.ensures.1, ap length c.bytes_of.ensures))
