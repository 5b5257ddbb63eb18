use Rattle.std.proofs.Common.{◌+◌}
use Rattle.certificate.specs.HintedState.{step_of, hinted_rest}
use Rattle.certificate.specs.Hinted.{records}
use Rattle.certificate.specs.Reading.{memory_of}
use Rattle.certificate.proofs.Answering.{reads_step, reads_over}
use Rattle.certificate.proofs.Unread.{records_first}
use Rattle.certificate.proofs.hinted.HintedSourceSource.read.Goals as goal

pub returns-in-Some-put_step : goal.returns-in-Some-put_step
returns-in-Some-put_step c =
    let s = c.args.self.now in
    let r = c.in-Some.record in
    let e = records_first s.stated s.number s.rest.now (step_of r.step) r.rest.now c.if-self-ge-PLACES.false c.in-Some.ensures in
    let h = reads_step (memory_of c.args.literals.now c.args.hints.now) (hinted_rest s) (records s.stated (s.number + 1) r.rest.now) (s.number + 1) (step_of r.step) c.in-Some-put_step.shape c.put_step.new.literals c.put_step.new.hints e c.in-Some-put_step.ensures.shape c.in-Some-put_step.ensures.memory in
    record { memory = h.0; reads = h.1 }

pub returns-in-None : goal.returns-in-None
returns-in-None c =
    let s = c.args.self.now in
    let r = c.in-Some.record in
    let e = records_first s.stated s.number s.rest.now (step_of r.step) r.rest.now c.if-self-ge-PLACES.false c.in-Some.ensures in
    let h = reads_over (memory_of c.args.literals.now c.args.hints.now) (hinted_rest s) (records s.stated (s.number + 1) r.rest.now) (s.number + 1) (step_of r.step) c.put_step.new.literals c.put_step.new.hints e c.in-None.ensures.shape c.in-None.ensures.memory in
    record { memory = h.0; reads = h.1 }
