use Rattle.std.proofs.Common.{rules}
use Rattle.certificate.specs.TextState.{text_rest}
use Rattle.certificate.proofs.Opening.{opened_hinted}
use Rattle.certificate.proofs.form.open.Goals as goal

pub returns-clause-hinted : goal.returns-clause-hinted
returns-clause-hinted c = opened_hinted c.args.bytes.now (text_rest c.new-2.result) (search rules)
