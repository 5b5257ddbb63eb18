use Rattle.std.proofs.Common.{◌+◌, rules}
use Rattle.certificate.specs.TextState.{text_rest}
use Rattle.certificate.specs.Reading.{memory_of}
use Rattle.certificate.specs.Stream.{broken}
use Rattle.certificate.proofs.Answering.{reads_ended}
use Rattle.certificate.proofs.LineEnds.{lines_past, lines_open}
use Rattle.certificate.proofs.LineReads.{line_read, line_passed, line_refused_at}
use Rattle.certificate.proofs.textual.TextSourceSource.read.Goals as goal

pub returns-then-self-ge-PLACES : goal.returns-then-self-ge-PLACES
returns-then-self-ge-PLACES c =
    let s = c.args.self.now in
    let e = lines_past s.number s.rest.now (search rules) c.if-self-ge-PLACES.true in
    let b = c.blank-then-self-ge-PLACES in
    let h = reads_ended (memory_of c.args.literals.now c.args.hints.now) (text_rest s) (broken 4294967295) b.new.literals b.new.hints e b.ensures in
    record { memory = h.0; reads = h.1 }

pub returns-in_default : goal.returns-in_default
returns-in_default c =
    let s = c.args.self.now in
    let e = lines_open s.number s.rest.now c.if-self-ge-PLACES.false (search rules) c.in_default.ensures in
    let b = c.blank-in_default in
    let h = reads_ended (memory_of c.args.literals.now c.args.hints.now) (text_rest s) (broken (s.number + 1)) b.new.literals b.new.hints e b.ensures in
    record { memory = h.0; reads = h.1 }

pub returns-in-Err-Form : goal.returns-in-Err-Form
returns-in-Err-Form c =
    let s = c.args.self.now in
    let h = line_refused_at (memory_of c.args.literals.now c.args.hints.now) s.number c.in-Some.n s.rest.now c.read_line.new.literals c.read_line.new.hints c.if-self-ge-PLACES.false c.in-Some.ensures.0 c.in-Some.ensures.1 (search (rules, c.in-Err-Form.ensures.answer)) c.in-Err-Form.ensures.memory in
    record { memory = h.0; reads = h.1 }

pub returns-in-Err-TooMany : goal.returns-in-Err-TooMany
returns-in-Err-TooMany c =
    let s = c.args.self.now in
    let a = c.in-Err-TooMany.ensures in
    let h = line_passed (memory_of c.args.literals.now c.args.hints.now) s.number c.in-Some.n s.rest.now c.read_line.new.literals c.read_line.new.hints c.if-self-ge-PLACES.false c.in-Some.ensures.0 c.in-Some.ensures.1 (search (rules, a.answer)) a.memory in
    record { memory = h.0; reads = h.1 }

pub returns-in-Ok : goal.returns-in-Ok
returns-in-Ok c =
    let s = c.args.self.now in
    let a = c.in-Ok.ensures in
    let h = line_read (memory_of c.args.literals.now c.args.hints.now) s.number c.in-Some.n s.rest.now c.in-Ok.shape c.read_line.new.literals c.read_line.new.hints c.if-self-ge-PLACES.false c.in-Some.ensures.0 c.in-Some.ensures.1 a.answer a.memory in
    record { memory = h.0; reads = h.1 }
