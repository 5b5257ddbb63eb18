-- Which form a certificate has.
-- mark: the last four bytes of the hinted form; is_hinted: whether bytes end so
-- certificate: the meaning of all bytes
-- certificate_rest: what an opened certificate still has
use Rattle.std.specs.Prelude.{ℕ, ◌-◌, Bool, cond, List, length, drop, codes}
use Rattle.std.specs.Str.{bytes_eq}
use Rattle.certificate.specs.declared.form.Certificate.{Certificate}
use Rattle.certificate.specs.declared.form.Certificate.TheVariants.{Text, Hinted}
use Rattle.certificate.specs.Hinted.{hinted}
use Rattle.certificate.specs.HintedState.{hinted_rest}
use Rattle.certificate.specs.TextState.{text_rest}
use Rattle.certificate.specs.Lines.{textual}
use Rattle.certificate.specs.Stream.{Stream}

abbrev pub mark : List ℕ
mark = codes "HINT"

abbrev pub is_hinted : List ℕ → Bool
is_hinted bs = bytes_eq (drop (length bs - 4) bs) mark

abbrev pub certificate : List ℕ → Stream
certificate bs = cond (is_hinted bs) (hinted bs) (textual bs)

abbrev pub certificate_rest : Certificate → Stream
certificate_rest (Text s) = text_rest s
certificate_rest (Hinted s) = hinted_rest s
