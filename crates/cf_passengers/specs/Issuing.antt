-- What is fetched at an address: an instruction, or the trap of that address (RISC-V Unprivileged ISA Manual,
-- instruction fetch). And what is issued before it is fetched.
use Rattle.std.specs.Prelude.{ℕ, Result, Ok, Err, None, false}
use Rattle.rv_inst.specs.declared.instruction.Instr.{Instr}
use Rattle.cf_bind.specs.declared.passenger.End.{End}
use Rattle.cf_bind.specs.declared.passenger.Guess.{Guess}
use Rattle.cf_bind.specs.declared.passenger.Passenger.{Passenger}
use Rattle.cf_semantics.specs.moves.Instructions.{Fetched, Got, Bad}

-- the meaning of fetch's answer
abbrev pub meant : Result Instr End → Fetched
meant (Ok i) = Got i
meant (Err e) = Bad e

-- what is issued at an address with a guess, before anything else of it is known
abbrev pub blank : ℕ → Guess → Passenger
blank pc g = record {
  pc = pc;
  what = None;
  guess = g;
  src1 = None;
  src2 = None;
  dst = None;
  done = false;
  launched = false;
  recovered = false;
  next = None;
  ending = None;
  owes = None;
  dead = false;
}
