-- A state of the table as a value, with its memory stored separately.
use Rattle.std.specs.Prelude.{[]}
use Rattle.mem_regions.specs.Memory.{Memory}
use Rattle.cf_semantics.specs.state.State.{State, Moment}

-- no region
abbrev pub no_memory : Memory
no_memory = record { areas = []; program_break = 0 }

-- the state, with this memory
abbrev pub in_memory : State → Memory → State
in_memory s mem = record s { mem = mem }

-- the moment of a state whose input is at its end, and before which nothing was written
abbrev pub lone_moment : State → Moment
lone_moment s = record { state = s; rest = []; output = [] }
