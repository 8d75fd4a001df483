-- What a call of the machine does, by the definitions and by what the streams expose.
use Rattle.std.specs.Prelude.{◌≡◌, ℕ, ◌+◌, ◌%◌, List, Some, Ok}
use Rattle.mem_regions.specs.Memory.{Memory}
use Rattle.mem_regions.specs.Fetching.{fetch_at}
use Rattle.rv_inst.specs.declared.isa.Isa.{Isa}
use Rattle.rv_inst.specs.declared.instruction.Instr.TheVariants.{Ecall}
use Rattle.rv_inst.specs.Decoding.{decoded_as}
use Rattle.rv_machine.specs.declared.outcome.Retired.{Retired}
use Rattle.rv_machine.specs.declared.outcome.Stepped.{Stepped}
use Rattle.rv_machine.specs.declared.outcome.Stepped.TheVariants as stepped
use Rattle.rv_machine.specs.declared.outcome.Served.{Served}
use Rattle.rv_machine.specs.declared.outcome.Served.TheVariants as served
use Rattle.rv_machine.specs.Hart.{Hart}
use Rattle.rv_machine.specs.Machine.{Machine}
use Rattle.rv_machine.specs.Outcome.{Outcome, Next, Trap, Exit}
use Rattle.rv_machine.specs.Call.{Called, call}
use Rattle.rv_machine.specs.Call as called
use Rattle.rv_machine.specs.Step.{step_on}
use Rattle.rv_machine.specs.Streams.{Streams, IsTold, Leaves, IsSpent}
use Rattle.rv_machine.specs.Faults.{FailsReading, FailsWriting}

-- the hart did this, without using the streams
abbrev pub HartDoes : Outcome Hart → Hart → Hart → Stepped → Type 0
HartDoes (Next h line) old new result = (new ≡ h) × (result ≡ stepped.Next line)
HartDoes (Trap cause pc detail) old new result = (new ≡ old) × (result ≡ stepped.Trap cause pc detail)
HartDoes (Exit status) old new result = (new ≡ old) × (result ≡ stepped.Exit status)

-- an instruction retired: the outcome is this on some input that agrees with what is known
pub record Retires (outcome : List ℕ → Outcome Machine) (new : Hart) (before after : Streams)
    (line : Retired) : Type 0 where
  pub rest : List ℕ
  pub told : IsTold before.input rest
  pub next : Machine
  pub is : outcome rest ≡ Next next line
  pub hart : new ≡ next.hart
  pub leaves : Leaves before after next.rest next.output
  pub spent : IsSpent before.input next.rest

-- a trap or an exit, which leaves everything unchanged: the outcome is this on some input that agrees with what is
-- known
pub record StopsUnchanged (outcome : List ℕ → Outcome Machine) (end : Outcome Machine) (old new : Hart)
    (before after : Streams) : Type 0 where
  pub rest : List ℕ
  pub told : IsTold before.input rest
  pub is : outcome rest ≡ end
  pub hart : new ≡ old
  pub streams : after ≡ before

-- the outcome happened; or a stream failed the instruction, and then `calls` holds
unfoldable pub Acts : Type 0 → (List ℕ → Outcome Machine) → Hart → Hart → Streams → Streams →
    Stepped → Type 0
Acts calls outcome old new before after (stepped.Next line) = Retires outcome new before after line
Acts calls outcome old new before after (stepped.Trap cause pc detail) =
    StopsUnchanged outcome (Trap cause pc detail) old new before after
Acts calls outcome old new before after (stepped.Exit status) =
    StopsUnchanged outcome (Exit status) old new before after
Acts calls outcome old new before after stepped.ReadFault =
    calls × FailsReading old.regs old.mem new.mem before after
    × (new ≡ record old { mem = new.mem })
Acts calls outcome old new before after stepped.WriteFault =
    calls × FailsWriting old.regs old.mem before after × (new ≡ old)

-- the instruction at the program counter is ECALL
pub record CallsHere (isa : Isa) (h : Hart) : Type 0 where
  pub aligned : h.pc % 4 ≡ 0
  pub word : ℕ
  pub fetched : fetch_at h.mem h.pc ≡ Ok word
  pub decoded : decoded_as isa word ≡ Some Ecall

-- one step of a machine that has this instruction set; a stream fails only an environment call that uses it
abbrev pub Steps : Isa → Hart → Hart → Streams → Streams → Stepped → Type 0
Steps isa old new before after result =
    Acts (CallsHere isa old) (step_on isa old) old new before after result

-- the call answered: the answer is this on some input that agrees with what is known
pub record Returns (asked : List ℕ → Called) (new : Memory) (before after : Streams)
    (value : ℕ) : Type 0 where
  pub rest : List ℕ
  pub told : IsTold before.input rest
  pub later : List ℕ
  pub added : List ℕ
  pub is : asked rest
      ≡ called.Value (record { value = value; mem = new; rest = later; output = added })
  pub leaves : Leaves before after later added
  pub spent : IsSpent before.input later

-- the call ended the program, which leaves everything unchanged
pub record Quits (asked : List ℕ → Called) (status : ℕ) (mem new : Memory)
    (before after : Streams) : Type 0 where
  pub rest : List ℕ
  pub told : IsTold before.input rest
  pub is : asked rest ≡ called.Exit status
  pub memory : new ≡ mem
  pub streams : after ≡ before

-- the environment call that the registers request happened, or a stream that it uses failed it
unfoldable pub Serves : List ℕ → Memory → Memory → Streams → Streams → Served → Type 0
Serves regs mem new before after (served.Value value) =
    Returns (call regs mem) new before after value
Serves regs mem new before after (served.Exit status) =
    Quits (call regs mem) status mem new before after
Serves regs mem new before after served.ReadFault = FailsReading regs mem new before after
Serves regs mem new before after served.WriteFault =
    FailsWriting regs mem before after × (new ≡ mem)

-- the count is one higher if an instruction retired, and the same otherwise
abbrev pub RetiredCounted : ℕ → ℕ → Stepped → Type 0
RetiredCounted before now (stepped.Next line) = now ≡ before + 1
RetiredCounted before now (stepped.Trap cause pc detail) = now ≡ before
RetiredCounted before now (stepped.Exit status) = now ≡ before
RetiredCounted before now stepped.ReadFault = now ≡ before
RetiredCounted before now stepped.WriteFault = now ≡ before
