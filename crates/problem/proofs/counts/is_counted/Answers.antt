use Rattle.std.proofs.Common.{not, ◌&&◌, take, sym, refl, ap, ◌∙◌}
use Rattle.std.proofs.lemmas.Fn.{says_at}
use Rattle.text.specs.Word.{word_in}
use Rattle.problem.specs.Naming.{named}
use Rattle.problem.proofs.counts.is_counted.Goals as goal

pub returns-then-is_new : goal.returns-then-is_new
returns-then-is_new g c = λ t h.
    let n = c.bytes_of-name.ensures in
    h _ _ (says_at g.F.Fn c.test.ensures refl) ∙ ap t n
    ∙ ap (λ b. b && t (word_in c.args.stanzas.now.text.now c.args.row.now.name))
    (sym c.if-is_new.true ∙ c.is_new.ensures ∙ ap (λ m. not (named c.args.stanzas.now.text.now m (take c.args.place c.args.stanzas.now.rows.now))) n)
