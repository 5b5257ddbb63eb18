use Rattle.std.proofs.Common.{◌≡◌, false, not, eqb, length, IfOk, sym, ap, ◌∙◌, subst, rules}
use Rattle.std.proofs.lemmas.Bool.{ne_eqb}
use Rattle.text.proofs.Clamps.{word_length}
use Rattle.text.specs.Left.{shown}
use Rattle.text.specs.Rows.{items}
use Rattle.text.specs.Word.{word_in}
use Rattle.problem.specs.Growth.{ok_mapped}
use Rattle.problem.specs.Sections.{limits_of, state_of, SectionOk, Sound}
use Rattle.problem.proofs.Drafting.{made_mapped, mapped_is}
use Rattle.problem.proofs.Growing.{front_short}
use Rattle.problem.proofs.Lining.{stepped, sound_more}
use Rattle.problem.proofs.lines.read_line.Goals as goal

pub returns-clause-state : goal.returns-clause-state
returns-clause-state c =
    let text = c.args.text.now in
    let ps = items c.args.packages.now in
    let ds = items c.take_property.new.constraints in
    let t = c.in-Some.ensures.place.0 in
    let n = c.in-Some.ensures.place.1 in
    let v = rw t at c.in-Some.ensures.value in
    let p = rw (t, n) at c.take_property.ensures.place in
    let e : eqb (length (word_in text c.args.line)) 0 ≡ false = ne_eqb (length (word_in text c.args.line)) 0 (λ z. c.if-line-eq0.false (sym (word_length text c.args.line c.requires.inside) ∙ z)) in
    ap (ok_mapped (state_of text ps ds)) (mapped_is (λ s. record { section = s; request = c.args.last.request }) c.take_property.result _ c.map.ensures.cases (λ s q k. search rules))
    ∙ stepped text (items c.args.constraints.now) ds c.take_property.ensures.grown.front (limits_of c.args.packages.now c.args.constraints.now) c.args.number ps c.args.last (word_in text c.args.line) (shown text c.in-Some.line.property) _ c.take_property.result e v (ap not c.has_room-full.ensures) c.requires.sound p

pub returns-clause-sound : goal.returns-clause-sound
returns-clause-sound c =
    let text = c.args.text.now in
    let ps = items c.args.packages.now in
    let cs = items c.args.constraints.now in
    let ds = items c.take_property.new.constraints in
    let t = c.in-Some.ensures.place.0 in
    let g = rw t at c.take_property.ensures.good in
    subst (λ x. IfOk x (Sound (length text) (length ds) ps)) (sym (mapped_is (λ s. record { section = s; request = c.args.last.request }) c.take_property.result _ c.map.ensures.cases (λ s q k. search rules)))
    (made_mapped (SectionOk (length text) (length ds)) (Sound (length text) (length ds) ps) _ c.take_property.result (λ s k. sound_more (length text) (length cs) (length ds) ps c.args.last s (front_short cs ds c.take_property.ensures.grown.front) c.requires.sound k) g)
