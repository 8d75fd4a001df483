-- If the call does not ask the input, or the output, the machine's test says so.
use Rattle.std.proofs.Common.{◌≡◌, Bool, true, false, Some, refl}
use Rattle.std.specs.Prelude.{IsTrue}
use Rattle.rv_inst.specs.declared.instruction.Instr.TheVariants.{Ecall}
use Rattle.rv_machine.specs.Call.{asks_input, asks_output}
use Rattle.cf_bind.specs.declared.passenger.Passenger.{Passenger}
use Rattle.cf_semantics.specs.state.Passengers.{instruction}
use Rattle.cf_stages.specs.Changes.{passenger_at}
use Rattle.cf_core.specs.Processors.{Processor}
use Rattle.cf_core.specs.Asking.{CallsInput, CallsOutput}
use Rattle.cf_core.proofs.moves.Served.{calls_here}

refuted : (b : Bool) → (IsTrue b → ⊥) → b ≡ false
refuted true h = absurd (h (cc))
refuted false h = refl

-- the ECALL of the highest stage makes no call that asks the input
pub input-unasked : (p : Processor) (q : Passenger) → passenger_at p.state.cells p.plan.stages ≡ Some q → instruction q ≡ Ecall → (CallsInput p → ⊥) →
    asks_input p.state.regs p.state.mem ≡ false
input-unasked p q here is unasked = refuted _ (λ asks. unasked (record { calls = calls_here p q here is; asks = asks }))

pub output-unasked : (p : Processor) (q : Passenger) → passenger_at p.state.cells p.plan.stages ≡ Some q → instruction q ≡ Ecall → (CallsOutput p → ⊥) →
    asks_output p.state.regs p.state.mem ≡ false
output-unasked p q here is unasked = refuted _ (λ asks. unasked (record { calls = calls_here p q here is; asks = asks }))
