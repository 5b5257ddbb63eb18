use Rattle.std.proofs.Common.{arith, rules}
use Rattle.clauses.proofs.Memory.{sound_of}
use Rattle.clauses.proofs.OneRow.{row_placed, row_literal}
use Rattle.clauses.proofs.Commons.{judged_conflict, judged_forced, judged_other}
use Rattle.clauses.proofs.common.trial.judge.Goals as goal

pub assign-requires : goal.assign-requires
assign-requires c =
    omega (arith, row_literal c.args.store.now c.args.k _ c.clause.ensures c.requires.k (sound_of c.args.store.now) _ c.in-Forced.literal (search rules) c.in-Forced.ensures, c.requires.placed)

pub returns-in-Conflict : goal.returns-in-Conflict
returns-in-Conflict c = judged_conflict c.args.cells.now _ _ c.clause.ensures c.in-Conflict.ensures

pub returns-in-Forced : goal.returns-in-Forced
returns-in-Forced c =
    judged_forced c.args.cells.now _ _ c.clause.ensures _ c.in-Forced.literal (row_placed c.args.store.now c.args.k _ c.clause.ensures c.requires.k (sound_of c.args.store.now) _ c.requires.placed) (search rules) c.in-Forced.ensures c.assign.ensures

pub returns-in-Other : goal.returns-in-Other
returns-in-Other c = judged_other c.args.cells.now _ _ c.clause.ensures c.in-Other.ensures
