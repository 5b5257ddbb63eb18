-- What the values of the code mean, in the hinted form.
-- shown: the bytes of counted words, and those after them; step_of, entry_of: the step of an entry, and of a record
-- hinted_rest: what a source in the hinted form still has
use Rattle.std.specs.Prelude.{ℕ, List}
use Rattle.certificate.specs.declared.hinted.HintedSource.{HintedSource}
use Rattle.certificate.specs.declared.record.Counted.{Counted}
use Rattle.certificate.specs.declared.record.Entry.{Entry}
use Rattle.certificate.specs.declared.record.Entry.TheVariants.{Add, Delete}
use Rattle.certificate.specs.declared.record.Record.{Record}
use Rattle.certificate.specs.Hinted.{hinted_addition, records}
use Rattle.certificate.specs.Stream.{Step, delete, Stream}

abbrev pub shown : Counted → List ℕ × List ℕ
shown c = (c.words.now, c.rest.now)

abbrev pub step_of : Entry → Step
step_of (Add ls hs) = hinted_addition ls.now hs.now
step_of (Delete n) = delete n

abbrev pub entry_of : Record → Step × List ℕ
entry_of r = (step_of r.step, r.rest.now)

abbrev pub hinted_rest : HintedSource → Stream
hinted_rest s = records s.stated s.number s.rest.now
