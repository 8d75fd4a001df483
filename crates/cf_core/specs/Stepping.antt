-- What a step of a processor returns and leaves ("Counterflow Pipeline Processor Architecture", 1994: every change is
-- one local action).
use Rattle.std.specs.Prelude.{◌≡◌, ℕ, List, [], Some, None, true, Result, Ok, Err}
use Rattle.mem_regions.specs.Fetching.{synced}
use Rattle.rv_inst.specs.declared.instruction.Instr.TheVariants.{Ecall}
use Rattle.rv_machine.specs.declared.outcome.Served.{Served}
use Rattle.rv_machine.specs.declared.outcome.Served.TheVariants as served
use Rattle.rv_machine.specs.Streams.{Streams, IsTold, Leaves, IsSpent}
use Rattle.rv_machine.specs.Faults.{FailsReading, FailsWriting}
use Rattle.cf_bind.specs.declared.moves.Move.{Move}
use Rattle.cf_bind.specs.declared.moves.Move.TheVariants.{Serve}
use Rattle.cf_bind.specs.declared.passenger.End.TheVariants as ending
use Rattle.cf_bind.specs.declared.passenger.Passenger.{Passenger}
use Rattle.cf_semantics.specs.state.Options.{Where}
use Rattle.cf_semantics.specs.declared.event.Event.{Event}
use Rattle.cf_semantics.specs.state.State.{State}
use Rattle.cf_semantics.specs.moves.Bars.{bar}
use Rattle.cf_semantics.specs.moves.Events.{IsEvent}
use Rattle.cf_semantics.specs.moves.Moves.{next, answered, with_passenger}
use Rattle.cf_semantics.specs.state.Passengers.{instruction}
use Rattle.cf_stages.specs.Changes.{changed, passenger_at}
use Rattle.cf_core.specs.Places.{with_memory}
use Rattle.cf_core.specs.Processors.{Processor, in_state}
use Rattle.cf_core.specs.declared.step.Step.{Step}
use Rattle.cf_core.specs.declared.step.Step.TheVariants.{Moved, Barred, ReadFault, WriteFault}
use Rattle.cf_core.specs.declared.fault.Fault.{Fault}
use Rattle.cf_core.specs.declared.fault.Fault.TheVariants as fault

-- the move was made: the processor is at the next moment, over some rest of the input that agrees with what is known of
-- it; the output that the move adds was written
pub record Makes (old new : Processor) (mv : Move) (before after : Streams) : Type 0 where
  pub rest : List ℕ
  pub told : IsTold before.input rest
  pub later : List ℕ
  pub added : List ℕ
  pub is : next old.plan (record { state = old.state; rest = rest; output = [] }) mv ≡ record { state = new.state; rest = later; output = added }
  pub plan : new.plan ≡ old.plan
  pub leaves : Leaves before after later added
  pub spent : IsSpent before.input later

-- the instruction in the highest stage is ECALL
abbrev pub CallsAtTop : Processor → Type 0
CallsAtTop p = Where (passenger_at p.state.cells p.plan.stages) ⊥ (λ q. instruction q ≡ Ecall)

-- the input failed the call after some bytes: the buffer holds them, and the processor has failed
pub record FailsToRead (old new : Processor) (before after : Streams) : Type 0 where
  pub calls : CallsAtTop old
  pub fails : FailsReading old.state.regs old.state.mem new.state.mem before after
  pub processor : new ≡ in_state old (record old.state { mem = new.state.mem; failed = true })

-- the output failed the call after a prefix of the buffer's bytes, and the processor has failed
pub record FailsToWrite (old new : Processor) (before after : Streams) : Type 0 where
  pub calls : CallsAtTop old
  pub fails : FailsWriting old.state.regs old.state.mem before after
  pub processor : new ≡ in_state old (record old.state { failed = true })

-- Serve was made, or the input or the output failed it
abbrev pub ServesOrFails : Processor → Processor → Streams → Streams → Result (Unit {0}) Fault → Type 0
ServesOrFails old new before after (Ok done) = Makes old new Serve before after
ServesOrFails old new before after (Err fault.Read) = FailsToRead old new before after
ServesOrFails old new before after (Err fault.Write) = FailsToWrite old new before after

-- the state after the instruction in the highest stage took the answer of the environment
abbrev pub taken : Processor → Passenger → Served → State
taken old p (served.Value v) = record old.state { cells = changed old.state.cells old.plan.stages (λ c. with_passenger c (answered p v)) }
taken old p (served.Exit status) =
    record old.state { cells = changed old.state.cells old.plan.stages (λ c. with_passenger c (record p { done = true; ending = Some (ending.Exit status) })) }
taken old p served.ReadFault = record old.state { failed = true }
taken old p served.WriteFault = record old.state { failed = true }

-- the processor after FENCE.I in its highest stage: the code is what is in memory
abbrev pub synchronized : Processor → Passenger → Processor
synchronized old p = in_state old (taken (with_memory old (synced old.state.mem)) p (served.Value 0))

-- the result of Serve, given the answer
abbrev pub told_of : Served → Result (Unit {0}) Fault
told_of (served.Value v) = Ok tt
told_of (served.Exit status) = Ok tt
told_of served.ReadFault = Err fault.Read
told_of served.WriteFault = Err fault.Write

-- an allowed move was made, with its event; or the input or the output failed it, which only Serve asks
unfoldable pub MakesOrFails : Processor → Processor → Move → Streams → Streams → Result Event Fault → Type 0
MakesOrFails old new mv before after (Ok e) = Makes old new mv before after × IsEvent old.plan old.state mv e
MakesOrFails old new mv before after (Err fault.Read) = (mv ≡ Serve) × FailsToRead old new before after
MakesOrFails old new mv before after (Err fault.Write) = (mv ≡ Serve) × FailsToWrite old new before after

-- the move was made, with its event; or it was barred by the first bar of its row, and nothing changed; or the input or
-- the output failed it, which only Serve asks
unfoldable pub StepsOrBarred : Processor → Processor → Move → Streams → Streams → Step → Type 0
StepsOrBarred old new mv before after (Moved e) = (bar old.plan old.state mv ≡ None) × Makes old new mv before after × IsEvent old.plan old.state mv e
StepsOrBarred old new mv before after (Barred b) = (bar old.plan old.state mv ≡ Some b) × (new ≡ old) × (after ≡ before)
StepsOrBarred old new mv before after ReadFault = (bar old.plan old.state mv ≡ None) × (mv ≡ Serve) × FailsToRead old new before after
StepsOrBarred old new mv before after WriteFault = (bar old.plan old.state mv ≡ None) × (mv ≡ Serve) × FailsToWrite old new before after

-- an error if the input failed the step
abbrev pub input_at_step : Step → Result (Unit {0}) (Unit {0})
input_at_step ReadFault = Err tt
input_at_step WriteFault = Ok tt
input_at_step (Moved e) = Ok tt
input_at_step (Barred b) = Ok tt

-- an error where the output failed the step
abbrev pub output_at_step : Step → Result (Unit {0}) (Unit {0})
output_at_step ReadFault = Ok tt
output_at_step WriteFault = Err tt
output_at_step (Moved e) = Ok tt
output_at_step (Barred b) = Ok tt

-- the same for Serve alone
abbrev pub input_at_serve : Result (Unit {0}) Fault → Result (Unit {0}) (Unit {0})
input_at_serve (Ok done) = Ok tt
input_at_serve (Err fault.Read) = Err tt
input_at_serve (Err fault.Write) = Ok tt

abbrev pub output_at_serve : Result (Unit {0}) Fault → Result (Unit {0}) (Unit {0})
output_at_serve (Ok done) = Ok tt
output_at_serve (Err fault.Read) = Ok tt
output_at_serve (Err fault.Write) = Err tt

-- and for a move that is made
abbrev pub input_made : Result Event Fault → Result (Unit {0}) (Unit {0})
input_made (Ok e) = Ok tt
input_made (Err fault.Read) = Err tt
input_made (Err fault.Write) = Ok tt

abbrev pub output_made : Result Event Fault → Result (Unit {0}) (Unit {0})
output_made (Ok e) = Ok tt
output_made (Err fault.Read) = Ok tt
output_made (Err fault.Write) = Err tt
