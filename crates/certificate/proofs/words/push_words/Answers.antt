use Rattle.std.proofs.Common.{◌≡◌, ◌++◌, length, arith, rules}
use Rattle.text.specs.Lists.{each}
use Rattle.text.specs.Rows.{items, room}
use Rattle.certificate.specs.Hinted.{words}
use Rattle.certificate.proofs.FourBytes.{words_more, words_fit, pushed}
use Rattle.certificate.proofs.words.push_words.Goals as goal

pub returns-then-is_err : goal.returns-then-is_err
returns-then-is_err g c =
    let f = g.T.Word.meant in
    let l = words_fit f c.loop-rest.rest.now c.args.bytes.now (items c.loop-rest.rows) (items c.args.rows.now) (room c.args.rows.now) (search rules) c.requires c.loop-rest.invariant.0 in
    let full : length (items c.loop-rest.rows) ≡ room c.args.rows.now = search rules in
    absurd (omega (arith, l, full))

pub loop-rest-preserved : goal.loop-rest-preserved
loop-rest-preserved g c =
    let f = g.T.Word.meant in
    let xs = items c.loop-rest.rows in
    let ys = items c.args.rows.now in
    let n = room c.args.rows.now in
    let l = words_fit f c.loop-rest.rest.now c.args.bytes.now xs ys n (search rules) c.requires c.loop-rest.invariant.0 in
    let p = rw c.loop-rest.invariant.1.room at c.push.ensures.pushes in
    let e = pushed n xs (items c.push.new.self) c.of_bytes-word.result c.push.result l p in
    (words_more f c.loop-rest.rest.now xs (items c.push.new.self) (ys ++ each f (words c.args.bytes.now)) c.of_bytes-word.result (search rules) c.of_bytes-word.ensures e c.loop-rest.invariant.0, search rules)
