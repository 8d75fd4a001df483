-- What holds of an operation that was launched: memory permits it.
use Rattle.std.proofs.Common.{◌≡◌, List, Bool, true, None, refl}
use Rattle.std.specs.Prelude.{Option, if◌then◌else◌}
use Rattle.mem_regions.specs.Access.{Bounds, bounds_of}
use Rattle.rv_inst.specs.declared.classes.Class.{Class}
use Rattle.rv_inst.specs.declared.classes.Class.TheVariants.{Memory}
use Rattle.rv_inst.specs.Operands.{class_of}
use Rattle.cf_bind.specs.declared.passenger.Passenger.{Passenger}
use Rattle.cf_bind.specs.declared.passenger.End.{End}
use Rattle.cf_semantics.specs.moves.Instructions.{is_memory, access_trap}
use Rattle.cf_semantics.specs.state.State.{State}
use Rattle.cf_semantics.specs.state.Passengers.{instruction, kind, value_in}
use Rattle.cf_semantics.specs.moves.Moves.{launch_trap, operation}
use Rattle.cf_passengers.specs.Launching.{trap_at_launch}
use Rattle.cf_passengers.proofs.Classes.{kind-class}

-- the trap at launch depends only on the bounds of memory
pub launch_trap-bounds : (s : State) (p : Passenger) → launch_trap s p ≡ trap_at_launch p (bounds_of s.mem)
launch_trap-bounds s p = refl

is_memory-class : (c : Class) → is_memory c ≡ true → c ≡ Memory
is_memory-class Memory e = refl
is_memory-class c e = absurd (cc)

-- the operation is a load or a store if its Passenger is
pub operation-memory : (p : Passenger) → is_memory (kind p) ≡ true → class_of (operation p).instr ≡ Memory
operation-memory p e = rw (← kind-class p) (is_memory-class (kind p) e)

chosen : (b : Bool) (o : Option End) → b ≡ true → (if b then o else None) ≡ None → o ≡ None
chosen b o e h = cc

-- and memory permits it if there was no trap
pub operation-permitted : (p : Passenger) (bounds : List Bounds) → is_memory (kind p) ≡ true → trap_at_launch p bounds ≡ None →
    access_trap (operation p).instr (operation p).pc (operation p).a bounds ≡ None
operation-permitted p bounds e h = chosen (is_memory (kind p)) (access_trap (instruction p) p.pc (value_in p.src1) bounds) e h

pub ruleset permitted = (launch_trap-bounds, operation-memory, operation-permitted)
