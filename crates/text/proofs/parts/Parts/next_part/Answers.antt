use Rattle.std.proofs.Common.{refl, rules}
use Rattle.text.proofs.Cuts.{part_whole, part_first}
use Rattle.text.proofs.parts.Parts.next_part.Goals as goal

pub returns-in_default : goal.returns-in_default
returns-in_default c = (search (rules, part_whole), refl, c.args.self.now.within _ c.in_ok-rest.was)

pub returns : goal.returns
returns c =
    let h = c.in-Some.ensures in
    (part_first c.args.self.now.mark c.args.self.now.text.now c.args.self.now.rest c.in_ok-rest.rest _ c.in_ok-rest.was h.0 h.1, refl, h.1.before_in)
