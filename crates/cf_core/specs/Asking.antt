-- What a move asks of the input and of the output: only the call of an ECALL asks anything ("Counterflow Pipeline Processor Architecture", 1994).
use Rattle.std.specs.Prelude.{◌≡◌, ℕ, IsTrue, None, Result}
use Rattle.cf_io.specs.Causes.{HasCause}
use Rattle.rv_machine.specs.Call.{asks_input, asks_output}
use Rattle.cf_bind.specs.declared.moves.Move.{Move}
use Rattle.cf_bind.specs.declared.moves.Move.TheVariants.{Serve}
use Rattle.cf_semantics.specs.moves.Bars.{bar}
use Rattle.cf_core.specs.Processors.{Processor}
use Rattle.cf_core.specs.Stepping.{CallsAtTop}

-- the instruction in the highest stage is ECALL, and its call asks the input
pub record CallsInput (p : Processor) : Type 0 where
  pub calls : CallsAtTop p
  pub asks : IsTrue (asks_input p.state.regs p.state.mem)

-- the same of the output
pub record CallsOutput (p : Processor) : Type 0 where
  pub calls : CallsAtTop p
  pub asks : IsTrue (asks_output p.state.regs p.state.mem)

-- the move asks the input: it is Serve, nothing bars it, and the call asks the input
pub record AsksInput (p : Processor) (mv : Move) : Type 0 where
  pub serves : mv ≡ Serve
  pub allowed : bar p.plan p.state mv ≡ None
  pub call : CallsInput p

-- the same of the output
pub record AsksOutput (p : Processor) (mv : Move) : Type 0 where
  pub serves : mv ≡ Serve
  pub allowed : bar p.plan p.state mv ≡ None
  pub call : CallsOutput p

-- what a call that may ask a stream leaves of it: its count of faults rose if and only if the stream failed the call,
-- and the stream is unchanged if the call asks nothing of it
abbrev pub LeavesStream : {A : Type 0} → (A → ℕ) → Type 0 → A → A → Result (Unit {0}) (Unit {0}) → Type 0
LeavesStream faults asks old new failed = HasCause (faults old) (faults new) failed × ((asks → ⊥) → new ≡ old)
