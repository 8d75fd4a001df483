use Rattle.rv_machine.specs.Streams.{streams_of}
use Rattle.rv_machine.proofs.Finding.{steps-found, steps-stopped, found-decoded, calls-here}
use Rattle.rv_machine.proofs.machine.Machine.step_as.Goals as goal

pub interpret-requires-clause-decoded : goal.interpret-requires-clause-decoded
interpret-requires-clause-decoded g c = found-decoded c.args.self.now.mem c.args.self.now.pc _ _ c.in-Some.ensures.some

pub returns-in-Some-clause-steps : goal.returns-in-Some-clause-steps
returns-in-Some-clause-steps g c = rw (← c.find.ensures.unchanged)
    (steps-found c.args.isa _ _ _ _ _ c.in-Some.decoded.instr _ (rw c.find.ensures.unchanged c.in-Some.ensures.some) c.interpret.ensures.acts)

pub returns-in-Some-clause-input_asked : goal.returns-in-Some-clause-input_asked
returns-in-Some-clause-input_asked g c = λ asks. c.interpret.ensures.input_asked
    (λ d. rw c.find.ensures.unchanged
    (asks (calls-here c.args.isa c.args.self.now c.in-Some.decoded.word c.in-Some.decoded.instr c.in-Some.ensures.some d)))

pub returns-in-Some-clause-output_asked : goal.returns-in-Some-clause-output_asked
returns-in-Some-clause-output_asked g c = λ asks. c.interpret.ensures.output_asked
    (λ d. rw c.find.ensures.unchanged
    (asks (calls-here c.args.isa c.args.self.now c.in-Some.decoded.word c.in-Some.decoded.instr c.in-Some.ensures.some d)))

pub returns-in-None-clause-steps : goal.returns-in-None-clause-steps
returns-in-None-clause-steps g c = rw c.find.ensures.unchanged
    (steps-stopped c.args.isa c.args.self.now (streams_of (g.S.Source.left c.args.input.now) (g.K.Sink.written c.args.output.now))
    c.stop.result c.in-None.ensures.none (rw (← c.find.ensures.unchanged) c.stop.ensures))
