-- What Serve writes is what the environment writes when it answers the instruction of the highest stage.
use Rattle.std.proofs.Common.{◌≡◌, ◌∙◌, [], Some, sym, ap}
use Rattle.rv_inst.specs.declared.instruction.Instr.{Instr}
use Rattle.cf_semantics.specs.moves.Instructions.{serve_of}
use Rattle.cf_semantics.specs.state.State.{cell_at}
use Rattle.order_model.specs.ServeEffects.{output_added}
use Rattle.order_model.specs.Situations.{in_memory}
use Rattle.order_model.proofs.Written.{asked_output}
use Rattle.order_model.proofs.situation.Situation.output.Goals as goal

pub returns : goal.returns
returns c =
    let here : cell_at c.args.self.now.cells c.args.layout.now.stages ≡ Some c.in-Some.cell = ap (cell_at c.args.self.now.cells) (sym c.stages.ensures.stages)
    ∙ sym c.cell.ensures ∙ c.in-Some.is in
    c.output_of.ensures ∙ ap (λ r. output_added (serve_of c.instruction.result r c.args.mem.now [])) c.regs.ensures
    ∙ ap (λ (i : Instr). output_added (serve_of i c.args.self.now.regs c.args.mem.now [])) c.instruction.ensures
    ∙ sym (asked_output c.args.layout.now (in_memory c.args.self.now c.args.mem.now) c.in-Some.cell c.in-Some-passenger.passenger here c.in-Some-passenger.is)
