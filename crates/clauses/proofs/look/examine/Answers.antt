use Rattle.std.proofs.Common.{refl, w32, SFits, rules}
use Rattle.clauses.proofs.Theory.{reached_none}
use Rattle.clauses.proofs.OneRow.{row_placed, row_conflict}
use Rattle.clauses.proofs.Advance.{forced_placed, forced_step, forced_fits, forced_ready}
use Rattle.clauses.proofs.Examining.{other_examined, forced_examined}
use Rattle.clauses.proofs.look.examine.Goals as goal

pub status_of-requires : goal.status_of-requires
status_of-requires c = row_placed c.args.store.now c.args.k _ c.clause.ensures c.requires.k c.requires.ready.sound _ c.requires.ready.enough

pub returns-in-Conflict : goal.returns-in-Conflict
returns-in-Conflict c =
    let r = c.requires.ready in
    record { goes = row_conflict c.args.store.now c.args.k _ c.clause.ensures c.requires.k r.sound _ _ (r.dense _ c.requires.k) (reached_none _ _) c.in-Conflict.ensures; ready = r; examined = tt; room = refl }

pub assign-requires : goal.assign-requires
assign-requires c =
    forced_placed c.args.store.now c.args.k _ c.clause.ensures c.requires.k _ c.args.trail.now c.requires.ready c.in-Forced.literal (search rules) c.in-Forced.ensures

pub push-requires : goal.push-requires
push-requires c =
    forced_fits c.args.store.now c.args.k _ c.clause.ensures c.requires.k _ c.args.trail.now c.requires.ready c.in-Forced.literal (search rules) c.in-Forced.ensures _ c.assign.ensures

pub returns-in-Forced : goal.returns-in-Forced
returns-in-Forced c =
    let fits : SFits w32 c.in-Forced.literal = search rules in
    let e = c.push.ensures in
    record {
      goes = (forced_step c.args.store.now c.args.k _ c.clause.ensures c.requires.k _ c.args.trail.now c.requires.ready c.in-Forced.literal fits c.in-Forced.ensures _ c.assign.ensures).0;
      ready = forced_ready c.args.store.now c.args.k _ c.clause.ensures c.requires.k _ c.args.trail.now c.requires.ready c.in-Forced.literal fits c.in-Forced.ensures _ c.assign.ensures c.push.new.self e.tail e.literals;
      examined = forced_examined c.args.store.now c.args.k _ c.clause.ensures c.requires.k _ c.args.trail.now c.requires.ready c.in-Forced.literal fits c.in-Forced.ensures _ c.assign.ensures c.push.new.self e.tail e.literals;
      room = e.room;
    }

pub returns-in-Other : goal.returns-in-Other
returns-in-Other c =
    record { goes = reached_none _ _; ready = c.requires.ready; examined = other_examined c.args.store.now c.args.k _ c.clause.ensures c.requires.k _ c.args.trail.now c.requires.ready.sound c.in-Other.ensures; room = refl }
