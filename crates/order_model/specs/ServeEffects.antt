-- What Serve does with the answer of the environment.
use Rattle.std.specs.Prelude.{ℕ, List, [], Some, true}
use Rattle.mem_regions.specs.Memory.{Memory}
use Rattle.rv_machine.specs.Call.{Called}
use Rattle.rv_machine.specs.Call as called
use Rattle.rv_machine.specs.declared.outcome.Served.{Served}
use Rattle.rv_machine.specs.declared.outcome.Served.TheVariants as served
use Rattle.cf_bind.specs.declared.passenger.Passenger.{Passenger}
use Rattle.cf_bind.specs.declared.passenger.End.TheVariants as ending
use Rattle.cf_semantics.specs.moves.Moves.{answered}

-- the answer without the memory and the streams that it leaves
abbrev pub told : Called → Served
told (called.Value a) = served.Value a.value
told (called.Exit status) = served.Exit status

-- memory after the call; a call that ends the program leaves memory as it was
abbrev pub memory_served : Called → Memory → Memory
memory_served (called.Value a) mem = a.mem
memory_served (called.Exit status) mem = mem

-- what the call adds to the output
abbrev pub output_added : Called → List ℕ
output_added (called.Value a) = a.output
output_added (called.Exit status) = []

-- the instruction after it is answered; or it ends the program when it leaves
abbrev pub passenger_served : Called → Passenger → Passenger
passenger_served (called.Value a) p = answered p a.value
passenger_served (called.Exit status) p = record p { done = true; ending = Some (ending.Exit status) }
