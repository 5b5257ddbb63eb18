use Rattle.std.proofs.Common.{refl}
use Rattle.certificate.specs.Lines.{textual}
use Rattle.certificate.proofs.TextHolding.{textual_held}
use Rattle.certificate.proofs.TextWriting.{text_back, text_first}
use Rattle.certificate.proofs.textual.TextSource.new.Goals as goal

pub returns : goal.returns
returns c = record { meaning = refl; back = text_back c.args.bytes.now (textual c.args.bytes.now) refl; first = text_first c.args.bytes.now (textual c.args.bytes.now) refl; held = textual_held c.args.bytes.now }
