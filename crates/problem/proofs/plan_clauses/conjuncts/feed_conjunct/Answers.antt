use Rattle.std.proofs.Common.{◌+◌, [], ◌∷◌, ◌++◌, sym, ap, ◌∙◌, w32, rules}
use Rattle.std.proofs.lemmas.Int.{to_z-of_z}
use Rattle.text.specs.Lists.{each}
use Rattle.text.specs.Literals.{lit, neg}
use Rattle.text.specs.Rows.{items}
use Rattle.problem.specs.Stanzas.{row_satisfies_one, passing}
use Rattle.problem.specs.Rows.{no_package}
use Rattle.problem.proofs.Feeds.{fed_none, fed_one}
use Rattle.problem.proofs.Passing.{needs-none, needs-written}
use Rattle.problem.proofs.plan_clauses.conjuncts.feed_conjunct.Goals as goal

pub returns-then-satisfies_one : goal.returns-then-satisfies_one
returns-then-satisfies_one g c = fed_none _ _ _ _ (needs-none _ c.args.stanzas.now.rows.now c.args.place no_package c.requires (sym c.if-satisfies_one.ensures))

pub returns : goal.returns
returns g c =
    let ps = c.args.stanzas.now.rows.now in
    let t = row_satisfies_one c.args.stanzas.now.text.now c.args.group.now in
    fed_one _ _ _ _ _ _ _
    (needs-written t ps c.args.place no_package c.requires _ _ _ _ _ _ (sym c.if-satisfies_one.ensures) c.around.ensures.before c.around.ensures.after c.new-clause.ensures.items
    (c.write_met.ensures.items ∙ ap (λ x. items c.new-clause.result ++ each lit (passing (row_satisfies_one x c.args.group.now) 0 c.around.result.0.rows.now)) c.around.ensures.before_text)
    (c.put.ensures.items ∙ ap (λ z. items c.write_met.new.clause ++ z ∷ []) (to_z-of_z w32 c.no.result (search rules) ∙ c.no.ensures ∙ ap neg c.variable_at.ensures))
    (c.as_slice.ensures ∙ c.write_met-2.ensures.items ∙ ap (λ x. items c.put.new.clause ++ each lit (passing (row_satisfies_one x c.args.group.now) (c.args.place + 1) c.around.result.1.rows.now)) c.around.ensures.after_text))
    c.take.ensures
