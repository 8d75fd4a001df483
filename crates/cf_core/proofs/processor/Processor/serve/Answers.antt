-- FENCE.I asks nothing of the outside. What the environment answered is what Serve makes of it; a call that asks
-- neither input nor output leaves both unchanged.
use Rattle.std.proofs.Common.{◌≡◌, ℕ, List, Some, false, ap, refl, subst, sym, arith}
use Rattle.rv_inst.specs.declared.instruction.Instr.TheVariants.{Ecall}
use Rattle.rv_machine.specs.Acts.{Serves}
use Rattle.rv_machine.specs.Call.{asks_input, asks_output}
use Rattle.rv_machine.specs.Streams.{Streams, streams_of}
use Rattle.cf_semantics.specs.state.Passengers.{instruction}
use Rattle.cf_stages.specs.Changes.{passenger_at}
use Rattle.cf_core.specs.Places.{with_memory}
use Rattle.cf_core.specs.Processors.{Processor}
use Rattle.cf_core.proofs.moves.KeptTemplates.{templates-served}
use Rattle.cf_core.proofs.moves.Served.{call-takes, fence-takes, serial-calls}
use Rattle.cf_core.proofs.moves.Asked.{input-unasked, output-unasked}
use Rattle.cf_core.proofs.processor.Processor.serve.Goals as goal

pub returns-in-FenceI-clause-serves : goal.returns-in-FenceI-clause-serves
returns-in-FenceI-clause-serves g c = fence-takes c.args.self.now c.synchronize.new.self c.in-Some.passenger c.in-FenceI.rd c.in-FenceI.rs1 c.in-FenceI.imm _ _
    (grind arith) (grind arith) (grind arith) refl

pub returns-in_default-instruction-clause-serves : goal.returns-in_default-instruction-clause-serves
returns-in_default-instruction-clause-serves g c =
    let here : passenger_at c.args.self.now.state.cells c.args.self.now.plan.stages ≡ Some c.in-Some.passenger = grind arith in
    let calls : instruction c.in-Some.passenger ≡ Ecall = grind (arith, serial-calls) in
    let before : Streams = streams_of (g.S.Source.left c.args.input.now) (g.K.Sink.written c.args.output.now) in
    let after : Streams = streams_of (g.S.Source.left c.serve-served.new.input) (g.K.Sink.written c.serve-served.new.output) in
    let serves : Serves c.self.inside.ends.regs c.self.inside.memory c.serve-served.new.mem before after c.serve-served.result =
    subst (λ (r : List ℕ). Serves r c.self.inside.memory c.serve-served.new.mem before after c.serve-served.result) c.regs.ensures.registers
    c.serve-served.ensures.serves in
    call-takes c.args.self.now _ c.take.new.self c.in-Some.passenger c.serve-served.new.mem before after c.serve-served.result c.take.result here calls
    (subst (λ (p : Processor). Serves p.state.regs p.state.mem c.serve-served.new.mem before after c.serve-served.result) c.self.view_is serves)
    (ap (λ (p : Processor). with_memory p c.serve-served.new.mem) c.self.view_is) c.take.ensures.state c.take.ensures.told

pub returns-in_default-instruction-clause-input : goal.returns-in_default-instruction-clause-input
returns-in_default-instruction-clause-input g c = (
  grind arith,
  λ unasked.
      let here : passenger_at c.args.self.now.state.cells c.args.self.now.plan.stages ≡ Some c.in-Some.passenger = grind arith in
      let calls : instruction c.in-Some.passenger ≡ Ecall = grind (arith, serial-calls) in
      let none : asks_input c.self.inside.ends.regs c.self.inside.memory ≡ false = subst (λ (p : Processor). asks_input p.state.regs p.state.mem ≡ false)
      (sym c.self.view_is) (input-unasked c.args.self.now c.in-Some.passenger here calls unasked) in
      c.serve-served.ensures.input_asked (rw c.regs.ensures.registers none),
)

pub returns-in_default-instruction-clause-output : goal.returns-in_default-instruction-clause-output
returns-in_default-instruction-clause-output g c = (
  grind arith,
  λ unasked.
      let here : passenger_at c.args.self.now.state.cells c.args.self.now.plan.stages ≡ Some c.in-Some.passenger = grind arith in
      let calls : instruction c.in-Some.passenger ≡ Ecall = grind (arith, serial-calls) in
      let none : asks_output c.self.inside.ends.regs c.self.inside.memory ≡ false = subst (λ (p : Processor). asks_output p.state.regs p.state.mem ≡ false)
      (sym c.self.view_is) (output-unasked c.args.self.now c.in-Some.passenger here calls unasked) in
      c.serve-served.ensures.output_asked (rw c.regs.ensures.registers none),
)

-- the call leaves what is fetched, and so the templates
pub invariant_of-self : goal.invariant_of-self
invariant_of-self g c =
    let before : Streams = streams_of (g.S.Source.left c.args.input.now) (g.K.Sink.written c.args.output.now) in
    let after : Streams = streams_of (g.S.Source.left c.serve-served.new.input) (g.K.Sink.written c.serve-served.new.output) in
    let kept = templates-served c.self.inside.isa c.self.inside.memory c.serve-served.new.mem c.self.inside.templates c.regs.result.now before after
    c.serve-served.result c.serve-served.ensures.serves c.self.invariant.1.1.1 in (
      c.self.invariant.0,
      (c.self.invariant.1.0, (c.self.invariant.1.1.0, kept)),
    )
