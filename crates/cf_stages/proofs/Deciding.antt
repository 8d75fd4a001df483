-- `==` decides whether two instructions or results in the pipes, or the contents of two stages, are the same.
use Rattle.std.proofs.Common.{◌≡◌, Bool, Option, Some, None, arith, refl, ap}
use Rattle.std.proofs.lemmas.Bool.Decides.{nat_tests, Decides-and, Decides-eqb}
use Rattle.std.specs.Bool.{Decides}
use Rattle.std.specs.Cmp.{booleans_Decides}
use Rattle.std.specs.Option.{option_eq}
use Rattle.rv_inst.specs.declared.instruction.Instr.{Instr}
use Rattle.rv_inst.specs.contracts.instruction.InstrPartialEq.TheImpl.{eq-value as instr_eq}
use Rattle.cf_bind.specs.declared.binding.Binding.{Binding}
use Rattle.cf_bind.specs.contracts.binding.BindingPartialEq.TheImpl.{eq-value as binding_eq}
use Rattle.cf_bind.specs.declared.cell.Cell.{Cell}
use Rattle.cf_bind.specs.contracts.cell.CellPartialEq.TheImpl.{eq-value as cell_eq}
use Rattle.cf_bind.specs.declared.packet.Packet.{Packet}
use Rattle.cf_bind.specs.contracts.packet.PacketPartialEq.TheImpl.{eq-value as packet_eq}
use Rattle.cf_bind.specs.declared.passenger.Guess.{Guess}
use Rattle.cf_bind.specs.contracts.passenger.GuessPartialEq.TheImpl.{eq-value as guess_eq}
use Rattle.cf_bind.specs.declared.passenger.End.{End}
use Rattle.cf_bind.specs.contracts.passenger.EndPartialEq.TheImpl.{eq-value as end_eq}
use Rattle.cf_bind.specs.declared.passenger.Passenger.{Passenger}
use Rattle.cf_bind.specs.contracts.passenger.PassengerPartialEq.TheImpl.{eq-value as passenger_eq}

-- if it decides for a type, it decides for the options of that type
pub option_decides : {X : Type 0} {E : X → X → Bool} → ((a b : X) → Decides (E a b) (a ≡ b)) → (o p : Option X) → Decides (option_eq E o p) (o ≡ p)
option_decides decides None None = (λ _. refl, λ _. refl)
option_decides decides None (Some b) = (λ t. absurd (cc), λ e. absurd (cc))
option_decides decides (Some a) None = (λ t. absurd (cc), λ e. absurd (cc))
option_decides decides (Some a) (Some b) = let d = decides a b in (λ t. ap Some (d.0 t), λ e. d.1 (cc))

-- two bindings
binding_decides : (a b : Binding) → Decides (binding_eq.it a b) (a ≡ b)
binding_decides a b = grind (arith, nat_tests)

-- two guesses
guess_decides : (a b : Guess) → Decides (guess_eq.it a b) (a ≡ b)
guess_decides a b = grind (arith, nat_tests)

-- two ends of the program
end_decides : (a b : End) → Decides (end_eq.it a b) (a ≡ b)
end_decides a b = grind (arith, nat_tests)

-- two results
pub packet_decides : (a b : Packet) → Decides (packet_eq.it a b) (a ≡ b)
packet_decides a b = grind (arith, nat_tests)

-- two instructions
pub instr_decides : (a b : Instr) → Decides (instr_eq.it a b) (a ≡ b)
instr_decides a b = grind (arith, nat_tests)

-- two Passengers
pub passenger_decides : (a b : Passenger) → Decides (passenger_eq.it a b) (a ≡ b)
passenger_decides a b =
    let d = Decides-and _ _ (Decides-eqb a.pc b.pc)
    (Decides-and _ _ (option_decides instr_decides a.what b.what)
    (Decides-and _ _ (guess_decides a.guess b.guess)
    (Decides-and _ _ (option_decides binding_decides a.src1 b.src1)
    (Decides-and _ _ (option_decides binding_decides a.src2 b.src2)
    (Decides-and _ _ (option_decides binding_decides a.dst b.dst)
    (Decides-and _ _ (booleans_Decides a.done b.done)
    (Decides-and _ _ (booleans_Decides a.launched b.launched)
    (Decides-and _ _ (booleans_Decides a.recovered b.recovered)
    (Decides-and _ _ (option_decides Decides-eqb a.next b.next)
    (Decides-and _ _ (option_decides end_decides a.ending b.ending)
    (Decides-and _ _ (option_decides packet_decides a.owes b.owes) (booleans_Decides a.dead b.dead)))))))))))) in (
      λ t. let f = d.0 t in
          λ i. record {
            pc = f.0 i;
            what = f.1.0 i;
            guess = f.1.1.0 i;
            src1 = f.1.1.1.0 i;
            src2 = f.1.1.1.1.0 i;
            dst = f.1.1.1.1.1.0 i;
            done =
                f.1.1.1.1.1.1.0 i;
            launched = f.1.1.1.1.1.1.1.0 i;
            recovered = f.1.1.1.1.1.1.1.1.0 i;
            next = f.1.1.1.1.1.1.1.1.1.0 i;
            ending =
                f.1.1.1.1.1.1.1.1.1.1.0 i;
            owes = f.1.1.1.1.1.1.1.1.1.1.1.0 i;
            dead = f.1.1.1.1.1.1.1.1.1.1.1.1 i;
          },
      λ e. d.1 (rw e (refl, (refl, (refl, (refl, (refl, (refl, (refl, (refl, (refl, (refl, (refl, (refl, refl))))))))))))),
    )

-- the contents of two stages
pub cell_decides : (a b : Cell) → Decides (cell_eq.it a b) (a ≡ b)
cell_decides a b =
    let d = Decides-and _ _ (option_decides passenger_decides a.passenger b.passenger)
    (Decides-and _ _ (option_decides packet_decides a.packet b.packet) (booleans_Decides a.met b.met)) in (
      λ t. let f = d.0 t in
          λ i. record { passenger = f.0 i; packet = f.1.0 i; met = f.1.1 i },
      λ e. d.1 (rw e (refl, (refl, refl))),
    )
