use Rattle.std.proofs.Common.{◌≡◌, ◌<◌, length, get_or, pos, ap, arith, w32, SFits, rules}
use Rattle.clauses.specs.Events.{clause_at}
use Rattle.clauses.proofs.Entries.{code_fits, entry_fits, entering_none, entering_more, entering_all, read_code}
use Rattle.clauses.proofs.indexing.index_row.Goals as goal

pub enter-requires : goal.enter-requires
enter-requires c =
    let s = c.args.store.now in
    let i = c.loop-literal.literal-index in
    let e = c.loop-literal.invariant in
    let n : length c.clause-literals.result.now ≡ length (clause_at s c.args.k) = ap length c.clause-literals.ensures in
    let h : i < length (clause_at s c.args.k) = omega arith in
    let fits : SFits w32 (get_or c.clause-literals.result.now i (pos 0)) = search rules in
    let q = read_code c.clause-literals.result.now (clause_at s c.args.k) i c.code_of.result fits c.clause-literals.ensures c.code_of.ensures.value in
    let r = entry_fits s c.args.index.now c.loop-literal.index c.args.k i c.requires.k h e in
    record { code = rw q (code_fits s c.loop-literal.index c.args.k i e.fit c.requires.k h); next = r.0; owners = r.1; small = r.2 }

pub loop-literal-preserved : goal.loop-literal-preserved
loop-literal-preserved c =
    let s = c.args.store.now in
    let i = c.loop-literal.literal-index in
    let n : length c.clause-literals.result.now ≡ length (clause_at s c.args.k) = ap length c.clause-literals.ensures in
    let fits : SFits w32 (get_or c.clause-literals.result.now i (pos 0)) = search rules in
    let q = read_code c.clause-literals.result.now (clause_at s c.args.k) i c.code_of.result fits c.clause-literals.ensures c.code_of.ensures.value in
    entering_more s c.args.index.now c.loop-literal.index c.enter.new.self c.args.k i c.code_of.result c.requires.k (omega arith) q c.enter.ensures.used c.enter.ensures.lists c.enter.ensures.heads c.enter.ensures.next c.enter.ensures.owners c.loop-literal.invariant

pub returns : goal.returns
returns c =
    let n : length c.clause-literals.result.now ≡ length (clause_at c.args.store.now c.args.k) = ap length c.clause-literals.ensures in
    record { fit = c.loop-literal.invariant.fit; indexed = entering_all c.args.store.now c.args.index.now c.loop-literal.index c.args.k c.loop-literal.literal-index c.requires.k (omega arith) (omega arith) c.loop-literal.invariant; same = c.loop-literal.invariant.same }

pub loop-literal-init : goal.loop-literal-init
loop-literal-init c = entering_none c.args.store.now c.args.index.now c.args.k c.requires.k c.requires.fit c.requires.indexed
