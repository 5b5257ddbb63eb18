use Rattle.clauses.proofs.Spaces.{spacious}
use Rattle.clauses.proofs.store.Store.make_room.Goals as goal

pub returns-then-has_room : goal.returns-then-has_room
returns-then-has_room c = spacious c.args.self.now c.args.len c.if-has_room.ensures
