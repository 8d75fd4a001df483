-- What enters at the two ends of the pipes, and what changes beside them ("Counterflow Pipeline Processor
-- Architecture", 1994).
use Rattle.std.specs.Prelude.{ℕ, List, ◌++◌, ◌+◌, Option, Some}
use Rattle.cf_layout.specs.Layout.{Plan}
use Rattle.cf_bind.specs.declared.binding.Binding.{Binding}
use Rattle.cf_bind.specs.declared.packet.Packet.{Packet}
use Rattle.cf_bind.specs.declared.passenger.End.{End}
use Rattle.cf_bind.specs.declared.passenger.Passenger.{Passenger}
use Rattle.cf_bind.specs.declared.passenger.Guess.{Guess}
use Rattle.cf_semantics.specs.moves.Instructions.{fetched}
use Rattle.cf_semantics.specs.state.Options.{on}
use Rattle.cf_semantics.specs.state.State.{State}
use Rattle.cf_semantics.specs.state.Layouts.{isa_of}
use Rattle.cf_semantics.specs.state.Passengers.{forgets, fresh, reg_in}
use Rattle.cf_semantics.specs.moves.Moves.{keeps, turned, written}

-- the instruction that is issued at an address with a guess
abbrev pub issued_at : Plan → State → ℕ → Guess → Passenger
issued_at plan s pc g = fresh s.cache (fetched (isa_of plan) s.mem pc) pc g

-- these registers are requested, after all others
abbrev pub requested : State → List ℕ → State
requested s registers = record s { lane = s.lane ++ registers }

-- no value is cached for the destination any more
abbrev pub forgotten : State → Option Binding → State
forgotten s destination = record s { cache = forgets (reg_in destination) s.cache }

-- fetch and the cache have taken in a result
abbrev pub taken_in : Plan → State → Packet → State
taken_in plan s k = record s { fetch = turned s.fetch k; cache = keeps plan.cache s.cache k }

-- the register file has the destination's value
abbrev pub written_back : State → Option Binding → State
written_back s destination = record s { regs = written s.regs destination }

-- a live instruction with this ending and this destination has left: it ended the program, or it retired
abbrev pub left_by : State → Option End → Option Binding → State
left_by s ending destination =
    on ending (record s { regs = written s.regs destination; retired = s.retired + 1 }) (λ e. record s { ending = Some e })
