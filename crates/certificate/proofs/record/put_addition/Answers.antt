use Rattle.std.proofs.Common.{length, Some, ap, ◌∙◌, arith}
use Rattle.certificate.specs.Hinted.{hinted_addition}
use Rattle.certificate.specs.Reading.{memory_of}
use Rattle.certificate.proofs.FourBytes.{length-words}
use Rattle.certificate.proofs.Kept.{kept_none, shape_kept, words_in, words_out, words_shape}
use Rattle.certificate.proofs.record.put_addition.Goals as goal

pub returns-then-n-literals : goal.returns-then-n-literals
returns-then-n-literals c =
    let k = memory_of c.args.literals.now c.args.hints.now in
    let out = words_out k c.args.clause.now c.args.chain.now c.then-n-literals.either in
    let h = kept_none k (hinted_addition c.args.clause.now c.args.chain.now) _ _ out c.blank.ensures.literals c.blank.ensures.hints in
    record { shape = h.0; memory = h.1 }

pub push_words-requires : goal.push_words-requires
push_words-requires c =
    omega (arith, length-words c.args.clause.now, ap length c.new-rows.ensures.items, c.new-rows.ensures.room)

pub push_words-requires-2 : goal.push_words-requires-2
push_words-requires-2 c =
    omega (arith, length-words c.args.chain.now, ap length c.new-rows-2.ensures.items, c.new-rows-2.ensures.room)

pub returns-clause-shape : goal.returns-clause-shape
returns-clause-shape c =
    let k = memory_of c.args.literals.now c.args.hints.now in
    let fits = words_in k c.args.clause.now c.args.chain.now c.if-n-literals.false c.if-k-hints.false in
    ap Some (words_shape c.args.clause.now c.args.chain.now) ∙ shape_kept k (hinted_addition c.args.clause.now c.args.chain.now) fits
