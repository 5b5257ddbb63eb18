use Rattle.verdict.proofs.Witness.{worked}
use Rattle.verdict.proofs.lawful.worked_session.Goals as goal

pub returns : goal.returns
returns c = worked
