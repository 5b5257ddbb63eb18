use Rattle.std.proofs.Common.{rules}
use Rattle.certificate.specs.Stream.{unreadable}
use Rattle.certificate.proofs.HintedWriting.{hinted_back, hinted_first}
use Rattle.certificate.proofs.Records.{trailer_read, trailer_cut}
use Rattle.certificate.proofs.hinted.HintedSource.new.Goals as goal

pub returns : goal.returns
returns c =
    let e = trailer_read c.args.bytes.now c.from_le_bytes.result (search rules) c.from_le_bytes.ensures in
    record { meaning = e; back = hinted_back c.args.bytes.now _ e; first = hinted_first c.args.bytes.now _ e }

pub returns-in_default : goal.returns-in_default
returns-in_default c =
    let e = trailer_cut c.args.bytes.now (search rules) in
    record { meaning = e; back = hinted_back c.args.bytes.now (unreadable 0) e; first = hinted_first c.args.bytes.now (unreadable 0) e }
