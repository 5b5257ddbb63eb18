-- text_rest: what a source in the text form still has.
use Rattle.text.specs.Pieces.{pieces}
use Rattle.certificate.specs.declared.textual.TextSource.{TextSource}
use Rattle.certificate.specs.Lines.{lines_of}
use Rattle.certificate.specs.Stream.{Stream}

abbrev pub text_rest : TextSource → Stream
text_rest s = lines_of s.number (pieces 10 s.rest.now)
