-- The invariants of instructions and results are preserved by all that happens to them.
use Rattle.std.proofs.Common.{◌≡◌, ◌≢◌, ℕ, List, Option, Some, None, Bool, true, false, refl}
use Rattle.std.specs.Prelude.{IfOk, IfSome, Result, Ok, Err, ◌==◌, if◌then◌else◌}
use Rattle.std.proofs.lemmas.Option.{IfSome_then}
use Rattle.rv_inst.specs.declared.classes.Class.{Class}
use Rattle.rv_inst.specs.declared.classes.Class.TheVariants as class
use Rattle.rv_inst.specs.declared.instruction.Instr.{Instr}
use Rattle.rv_inst.specs.declared.instruction.Instr.TheVariants.{Ebreak}
use Rattle.rv_inst.specs.Ranges.{Fits}
use Rattle.rv_inst.specs.Arithmetic.{next_pc}
use Rattle.rv_mul.specs.Values.{value_of}
use Rattle.rv_inst.specs.declared.isa.Isa.{Isa}
use Rattle.cf_bind.specs.declared.binding.Binding.{Binding}
use Rattle.cf_bind.specs.declared.packet.Packet.{Packet}
use Rattle.cf_bind.specs.declared.packet.Packet.TheVariants.{Value, Turn, Halt}
use Rattle.cf_bind.specs.declared.passenger.Passenger.{Passenger}
use Rattle.cf_bind.specs.declared.passenger.Guess.{Guess}
use Rattle.cf_bind.specs.declared.passenger.End.{End}
use Rattle.cf_bind.specs.declared.passenger.End.TheVariants.{Exit}
use Rattle.cf_bind.specs.Meeting.{Met, meeting, garnered, replaced, passed, passenger_met, packet_met}
use Rattle.cf_semantics.specs.state.Options.{on}
use Rattle.cf_semantics.specs.moves.Instructions.{Fetched, Got, Bad, kind_of, free_trap, finish_trap}
use Rattle.cf_semantics.specs.state.Passengers.{fresh, fresh_as, fresh_undone, fresh_fence, fresh_end, finish, finished, trapped, with_value, value_packet, instruction, guessed, is_place, value_in}
use Rattle.cf_semantics.specs.moves.Moves.{back_in, answered, operation}
use Rattle.cf_passengers.specs.Facts.{IsWritable, IsBinding, IsPacket, IsInstruction, IsFetched, IsOperation, IsPassenger}
use Rattle.cf_passengers.specs.Issuing.{meant}
use Rattle.cf_passengers.proofs.Registers.{issued-src1, issued-src2, issued-dst}

-- Issue --

-- an instruction of any class but Free is issued undone
pub undone_as : (c : Class) (cache : List (Option ℕ)) (i : Instr) (pc : ℕ) (g : Guess) → c ≢ class.Free → fresh_as c cache i pc g ≡ fresh_undone cache i pc g
undone_as class.Free cache i pc g h = absurd (h refl)
undone_as _ cache i pc g h = refl

-- the Passenger of an instruction of the set
pub undone-passenger : (isa : Isa) (cache : List (Option ℕ)) (i : Instr) (pc : ℕ) (g : Guess) → IsInstruction isa i →
    IsPassenger isa (fresh_undone cache i pc g)
undone-passenger isa cache i pc g h = record {
  instr = h;
  ended = λ e. absurd (cc);
  src1 = issued-src1 cache i h.fits;
  src2 = issued-src2 cache i h.fits;
  dst = issued-dst i h.fits;
  owes = tt;
}

pub fence-passenger : (isa : Isa) (i : Instr) (pc : ℕ) (g : Guess) → IsInstruction isa i → IsPassenger isa (fresh_fence i pc g)
fence-passenger isa i pc g h = record { instr = h; ended = λ e. absurd (cc); src1 = tt; src2 = tt; dst = tt; owes = tt }

pub end-passenger : (isa : Isa) (what : Option Instr) (pc : ℕ) (g : Guess) (e : End) → IfSome what (IsInstruction isa) → IsPassenger isa (fresh_end what pc g e)
end-passenger isa what pc g e h = record { instr = h; ended = λ n. (refl, refl); src1 = tt; src2 = tt; dst = tt; owes = tt }

free-passenger : (isa : Isa) (i : Instr) (pc : ℕ) (g : Guess) (trap : Option End) → IsInstruction isa i →
    IsPassenger isa (on trap (fresh_fence i pc g) (fresh_end (Some i) pc g))
free-passenger isa i pc g None h = fence-passenger isa i pc g h
free-passenger isa i pc g (Some e) h = end-passenger isa (Some i) pc g e h

passenger_as : (isa : Isa) (c : Class) (cache : List (Option ℕ)) (i : Instr) (pc : ℕ) (g : Guess) → IsInstruction isa i →
    IsPassenger isa (fresh_as c cache i pc g)
passenger_as isa class.Free cache i pc g h = free-passenger isa i pc g (free_trap i pc) h
passenger_as isa _ cache i pc g h = undone-passenger isa cache i pc g h

-- the Passenger of what was fetched
pub fresh-passenger : (isa : Isa) (cache : List (Option ℕ)) (f : Fetched) (pc : ℕ) (g : Guess) → IsFetched isa f → IsPassenger isa (fresh cache f pc g)
unfolding fresh
fresh-passenger isa cache (Got i) pc g h = passenger_as isa (kind_of i) cache i pc g h
fresh-passenger isa cache (Bad e) pc g h = end-passenger isa None pc g e tt

-- the same where fetch answers with an instruction of the set or with a trap
pub issued-passenger : (isa : Isa) (cache : List (Option ℕ)) (r : Result Instr End) (pc : ℕ) (g : Guess) → IfOk r (IsInstruction isa) →
    IsPassenger isa (fresh cache (meant r) pc g)
issued-passenger isa cache (Ok i) pc g h = fresh-passenger isa cache (Got i) pc g h
issued-passenger isa cache (Err e) pc g h = fresh-passenger isa cache (Bad e) pc g tt

-- Finish, and the other ways to finish an instruction --

binding-with_value : (v : ℕ) (b : Option Binding) → IfSome b IsBinding → IfSome (with_value v b) IsBinding
binding-with_value v None h = tt
binding-with_value v (Some b) h = h

packet-of_value : (v : ℕ) (b : Option Binding) → IfSome b IsBinding → IfSome (value_packet v b) IsPacket
packet-of_value v None h = tt
packet-of_value v (Some b) h = h

pub trapped-passenger : (isa : Isa) (p : Passenger) (e : End) → IsPassenger isa p → IsPassenger isa (trapped p e)
trapped-passenger isa p e h = record { instr = h.instr; ended = λ n. (refl, refl); src1 = h.src1; src2 = h.src2; dst = h.dst; owes = tt }

-- what holds of both cases holds of the choice
choice : {A : Type 0} (P : A → Type 0) (b : Bool) (x y : A) → P x → P y → P (if b then x else y)
choice P true x y f g = f
choice P false x y f g = g

finished-passenger : (isa : Isa) (p : Passenger) (n v : ℕ) → IsPassenger isa p → IsPassenger isa (finished p n v)
finished-passenger isa p n v h = record {
  instr = h.instr;
  ended = λ e. (refl, (h.ended e).1);
  src1 = h.src1;
  src2 = h.src2;
  dst = binding-with_value v p.dst h.dst;
  owes = choice (λ (o : Option Packet). IfSome o IsPacket) (is_place (guessed p.guess (instruction p) p.pc) n) (value_packet v p.dst) (Some (Turn n))
      (packet-of_value v p.dst h.dst) tt;
}

finished-unless : (isa : Isa) (p : Passenger) (trap : Option End) (n v : ℕ) → IsPassenger isa p → IsPassenger isa (on trap (finished p n v) (trapped p))
finished-unless isa p None n v h = finished-passenger isa p n v h
finished-unless isa p (Some e) n v h = trapped-passenger isa p e h

pub finish-passenger : (isa : Isa) (p : Passenger) (answer : Option ℕ) → IsPassenger isa p → IsPassenger isa (finish p answer)
unfolding finish
finish-passenger isa p answer h =
    let a = value_in p.src1 in
    let b = value_in p.src2 in
    finished-unless isa p (finish_trap (instruction p) p.pc a b) (next_pc (instruction p) p.pc a b) (on answer (value_of (instruction p) p.pc a b) (λ v. v)) h

recovered-passenger : (isa : Isa) (p : Passenger) → IsPassenger isa p → IsPassenger isa (record p { recovered = true })
recovered-passenger isa p h = record { instr = h.instr; ended = h.ended; src1 = h.src1; src2 = h.src2; dst = h.dst; owes = h.owes }

pub back_in-passenger : (isa : Isa) (p : Passenger) (answer : Option ℕ) → IsPassenger isa p → IsPassenger isa (back_in p answer)
back_in-passenger isa p answer h =
    choice (IsPassenger isa) p.dead (record p { recovered = true }) (finish (record p { recovered = true }) answer) (recovered-passenger isa p h)
    (finish-passenger isa (record p { recovered = true }) answer (recovered-passenger isa p h))

pub answered-passenger : (isa : Isa) (p : Passenger) (v : ℕ) → IsPassenger isa p → IsPassenger isa (answered p v)
answered-passenger isa p v h =
    record { instr = h.instr; ended = λ e. (refl, (h.ended e).1); src1 = h.src1; src2 = h.src2; dst = binding-with_value v p.dst h.dst; owes = tt }

pub quitting-passenger : (isa : Isa) (p : Passenger) (status : ℕ) → IsPassenger isa p → IsPassenger isa (record p { done = true; ending = Some (Exit status) })
quitting-passenger isa p status h = record { instr = h.instr; ended = λ e. (refl, refl); src1 = h.src1; src2 = h.src2; dst = h.dst; owes = h.owes }

-- the rest of an instruction is unchanged when it sends a result or launches its operation
pub sent-passenger : (isa : Isa) (p : Passenger) → IsPassenger isa p → IsPassenger isa (record p { owes = None })
sent-passenger isa p h = record { instr = h.instr; ended = h.ended; src1 = h.src1; src2 = h.src2; dst = h.dst; owes = tt }

pub launched-passenger : (isa : Isa) (p : Passenger) → IsPassenger isa p → IsPassenger isa (record p { launched = true })
launched-passenger isa p h = record { instr = h.instr; ended = h.ended; src1 = h.src1; src2 = h.src2; dst = h.dst; owes = h.owes }

-- A meeting --

binding-garnered : (r v : ℕ) (b : Option Binding) → IfSome b IsBinding → IfSome (garnered r v b) IsBinding
binding-garnered r v None h = tt
binding-garnered r v (Some b) h = h

passenger-met : (isa : Isa) (k : Packet) (p : Passenger) → IsPassenger isa p → IsPassenger isa (passenger_met k p)
passenger-met isa (Value r v) p h =
    record {
      instr = h.instr;
      ended = h.ended;
      src1 = binding-garnered r v p.src1 h.src1;
      src2 = binding-garnered r v p.src2 h.src2;
      dst = h.dst;
      owes =
          h.owes;
    }
passenger-met isa (Turn pc) p h = record { instr = h.instr; ended = h.ended; src1 = h.src1; src2 = h.src2; dst = h.dst; owes = tt }
passenger-met isa Halt p h = record { instr = h.instr; ended = h.ended; src1 = h.src1; src2 = h.src2; dst = h.dst; owes = tt }

pub meeting-passenger : (isa : Isa) (p : Passenger) (k : Packet) → IsPassenger isa p → IsPassenger isa (meeting p k).passenger
unfolding meeting
meeting-passenger isa p k h = choice (λ (m : Met). IsPassenger isa m.passenger) p.dead (record { passenger = p; packet = Some k })
    (record { passenger = passenger_met k p; packet = packet_met k p }) h (passenger-met isa k p h)

packet-replaced : (r : ℕ) (v : Option ℕ) → IsWritable r → IfSome (replaced r v) IsPacket
packet-replaced r None h = tt
packet-replaced r (Some w) h = h

packet-passed : (r v : ℕ) (b : Option Binding) → IsWritable r → IfSome (passed r v b) IsPacket
packet-passed r v None h = h
packet-passed r v (Some b) h = choice (λ (o : Option Packet). IfSome o IsPacket) (b.reg == r) (replaced r b.value) (Some (Value r v))
    (packet-replaced r b.value h) h

packet-met : (k : Packet) (p : Passenger) → IsPacket k → IfSome (packet_met k p) IsPacket
packet-met (Value r v) p h = packet-passed r v p.dst h
packet-met (Turn pc) p h = tt
packet-met Halt p h = tt

pub meeting-packet : (p : Passenger) (k : Packet) → IsPacket k → IfSome (meeting p k).packet IsPacket
unfolding meeting
meeting-packet p k h = choice (λ (m : Met). IfSome m.packet IsPacket) p.dead (record { passenger = p; packet = Some k })
    (record { passenger = passenger_met k p; packet = packet_met k p }) h (packet-met k p h)

-- The operation of an instruction, and what it is known by --

pub passenger-fits : (isa : Isa) (p : Passenger) → IsPassenger isa p → IfSome p.what (λ i. Fits i)
passenger-fits isa p h = IfSome_then p.what h.instr (λ i g. g.fits)

pub undone-instruction : (isa : Isa) (p : Passenger) → IsPassenger isa p → p.done ≡ false → p.what ≢ None
undone-instruction isa p h d e = let t : p.done ≡ true = (h.ended e).0 in absurd (cc)

instruction-in : (isa : Isa) (what : Option Instr) → IfSome what (IsInstruction isa) → IsInstruction isa (on what Ebreak (λ i. i))
instruction-in isa None h = record { fits = tt; base = λ e. refl }
instruction-in isa (Some i) h = h

-- the instruction that is used if there is none belongs to each set
pub passenger-instruction : (isa : Isa) (p : Passenger) → IsPassenger isa p → IsInstruction isa (instruction p)
passenger-instruction isa p h = instruction-in isa p.what h.instr

pub operation-of_set : (isa : Isa) (p : Passenger) → IsPassenger isa p → IsOperation isa (operation p)
operation-of_set isa p h = passenger-instruction isa p h

pub ruleset issuing = (undone_as, issued-passenger)

pub ruleset kept = (
  trapped-passenger,
  finish-passenger,
  back_in-passenger,
  answered-passenger,
  quitting-passenger,
  sent-passenger,
  launched-passenger,
  meeting-passenger,
  meeting-packet,
  passenger-fits,
  passenger-instruction,
)
