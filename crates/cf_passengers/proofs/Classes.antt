-- The class of a Passenger is that of its decoded instruction.
use Rattle.std.proofs.Common.{◌≡◌, Option, Some, None, refl}
use Rattle.cf_bind.specs.declared.passenger.Passenger.{Passenger}
use Rattle.rv_inst.specs.Operands.{class_of}
use Rattle.cf_semantics.specs.state.Options.{on}
use Rattle.cf_semantics.specs.state.Passengers.{instruction, kind}
use Rattle.cf_semantics.specs.moves.Instructions.{kind_of}
use Rattle.rv_inst.specs.declared.instruction.Instr.{Instr}
use Rattle.rv_inst.specs.declared.instruction.Instr.TheVariants.{Ebreak}
use Rattle.rv_inst.specs.declared.classes.Class.TheVariants.{Free}

class_here : (what : Option Instr) → on what Free kind_of ≡ class_of (on what Ebreak (λ i. i))
unfolding kind_of
class_here None = refl
class_here (Some i) = refl

pub kind-class : (p : Passenger) → kind p ≡ class_of (instruction p)
kind-class p = class_here p.what

pub ruleset finishing = (kind-class)
