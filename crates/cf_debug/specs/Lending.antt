-- The debugger's state that a call borrows, before and after the call.
use Rattle.std.specs.Prelude.{ℕ, List, Option}
use Rattle.std.specs.Borrow.{MutBor}
use Rattle.cf_semantics.specs.moves.Kept.{Kept}
use Rattle.cf_core.specs.Processors.{Processor}
use Rattle.cf_debug.specs.declared.debugger_state.DebuggerState.{DebuggerState as Lent}
use Rattle.cf_debug.specs.Making.{processor_state}
use Rattle.cf_debug.specs.Replies.{DebuggerState, debugger_state}

-- the four objects as a call leaves them
abbrev pub Left : (C U : Type 0) → Type 0
Left C U = MutBor Processor × (MutBor C × (MutBor (List Kept) × (MutBor (Option ℕ) × U)))

-- the debugger's state with what the output exposes, before the call
abbrev pub debugger_state_lent : Lent → Option (List ℕ) → DebuggerState
debugger_state_lent lent output = debugger_state (processor_state lent.core.now lent.ring.now output) lent.stop.now

-- and after it
abbrev pub debugger_state_left : {C U : Type 0} → Left C U → Option (List ℕ) → DebuggerState
debugger_state_left left output = debugger_state (processor_state left.0.now left.1.1.0.now output) left.1.1.1.0.now
