use Rattle.verdict.proofs.Law.{law}
use Rattle.verdict.proofs.OnwardLaw.{onward_law}
use Rattle.verdict.proofs.lawful.law_holds.Goals as goal

pub returns : goal.returns
returns c = record { law = law; onward = onward_law }
