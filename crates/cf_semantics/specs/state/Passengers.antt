-- An instruction's life: it is issued, gets its sources, is executed, and determines where the program goes on
-- ("Counterflow Pipeline Processor Architecture", 1994).
use Rattle.std.specs.Prelude.{ℕ, List, [], ◌∷◌, Option, Some, None, Bool, true, false, ◌==◌, if◌then◌else◌, slice_get, slice_set}
use Rattle.rv_inst.specs.declared.classes.Class.{Class}
use Rattle.rv_inst.specs.declared.classes.Class.TheVariants.{Serial, Free}
use Rattle.rv_inst.specs.declared.instruction.Instr.{Instr}
use Rattle.rv_inst.specs.declared.instruction.Instr.TheVariants.{Ebreak}
use Rattle.rv_inst.specs.Arithmetic.{next_pc}
use Rattle.rv_mul.specs.Values.{value_of}
use Rattle.cf_bind.specs.declared.binding.Binding.{Binding}
use Rattle.cf_bind.specs.declared.packet.Packet.{Packet}
use Rattle.cf_bind.specs.declared.packet.Packet.TheVariants.{Value, Turn, Halt}
use Rattle.cf_bind.specs.declared.passenger.Passenger.{Passenger}
use Rattle.cf_bind.specs.declared.passenger.Guess.{Guess}
use Rattle.cf_bind.specs.declared.passenger.Guess.TheVariants.{Next, Taken, Wait, To}
use Rattle.cf_bind.specs.declared.passenger.End.{End}
use Rattle.cf_semantics.specs.state.Options.{on}
use Rattle.cf_semantics.specs.moves.Instructions.{kind_of, src1_of, src2_of, dst_of, word_after, target_of, finish_trap, free_trap, Fetched, Got, Bad}

-- the decoded instruction of a Passenger; one without it ended when it was issued, and counts as EBREAK, which does so
-- too
abbrev pub instruction : Passenger → Instr
instruction p = on p.what Ebreak (λ i. i)

-- its class
abbrev pub kind : Passenger → Class
kind p = on p.what Free kind_of

-- the register of a source that has no value yet
abbrev pub unknown : ℕ → Option ℕ → Option ℕ
unknown r None = Some r
unknown r (Some v) = None

abbrev pub missing : Option Binding → Option ℕ
missing None = None
missing (Some b) = unknown b.reg b.value

-- the value of a source; 0 if there is no source or no value
abbrev pub value_in : Option Binding → ℕ
value_in None = 0
value_in (Some b) = on b.value 0 (λ v. v)

-- the register of a binding
abbrev pub reg_in : Option Binding → Option ℕ
reg_in None = None
reg_in (Some b) = Some b.reg

-- the address, if any, where the program goes on by the guess after the instruction at pc
abbrev pub guessed : Guess → Instr → ℕ → Option ℕ
guessed Next i pc = Some (word_after pc)
guessed Taken i pc = Some (target_of i pc)
guessed Wait i pc = None
guessed (To t) i pc = Some t

-- the guess was this address
abbrev pub is_place : Option ℕ → ℕ → Bool
is_place None n = false
is_place (Some g) n = g == n

-- a destination gets its value
abbrev pub with_value : ℕ → Option Binding → Option Binding
with_value v None = None
with_value v (Some b) = Some (record b { value = Some v })

-- the Packet of a destination's value
abbrev pub value_packet : ℕ → Option Binding → Option Packet
value_packet v None = None
value_packet v (Some b) = Some (Value b.reg v)

-- it traps: it will halt what is below it. Right only in reached states: there an instruction that is not done owes
-- nothing that would be lost
abbrev pub trapped : Passenger → End → Passenger
trapped p e = record p { done = true; ending = Some e; owes = Some Halt }

-- it is executed, with the value v, and the program goes on at n: it owes a turn if the guess was another address, and
-- otherwise its value. Right only in reached states: there an instruction that is not done owes nothing, and its
-- destination has no value, so that nothing is lost
abbrev pub finished : Passenger → ℕ → ℕ → Passenger
finished p n v = record p {
  done = true;
  next = Some n;
  dst = with_value v p.dst;
  owes = if is_place (guessed p.guess (instruction p) p.pc) n then value_packet v p.dst else Some (Turn n);
}

-- it finishes, with what its unit computes, or with the answer of memory if there is one. A source without a value
-- counts as 0 here; Execute and Launch wait until every source has one
unfoldable pub finish : Passenger → Option ℕ → Passenger
finish p answer =
    let a = value_in p.src1 in
    let b = value_in p.src2 in
    on (finish_trap (instruction p) p.pc a b)
    (finished p (next_pc (instruction p) p.pc a b) (on answer (value_of (instruction p) p.pc a b) (λ v. v)))
    (trapped p)

-- the value that the cache at the bottom holds for a register
abbrev pub cached : List (Option ℕ) → ℕ → Option ℕ
cached cache r = on (slice_get cache r) None (λ o. o)

-- a destination is about to change: the cache forgets it
abbrev pub forgets : Option ℕ → List (Option ℕ) → List (Option ℕ)
forgets None cache = cache
forgets (Some r) cache = slice_set cache r None

-- the empty cache
abbrev pub cleared : List (Option ℕ) → List (Option ℕ)
cleared [] = []
cleared (o ∷ cache) = None ∷ cleared cache

-- a source, with the cached value, if any
abbrev pub source : List (Option ℕ) → Option ℕ → Option Binding
source cache None = None
source cache (Some r) = Some (record { reg = r; value = cached cache r })

-- a destination, whose value is not known yet
abbrev pub destination : Option ℕ → Option Binding
destination None = None
destination (Some r) = Some (record { reg = r; value = None })

-- a new instruction that ends the program when it is issued
abbrev pub fresh_end : Option Instr → ℕ → Guess → End → Passenger
fresh_end what pc g e = record {
  pc = pc;
  what = what;
  guess = g;
  src1 = None;
  src2 = None;
  dst = None;
  done = true;
  launched = false;
  recovered = false;
  next = None;
  ending = Some e;
  owes = None;
  dead = false;
}

-- FENCE, which has nothing to do
abbrev pub fresh_fence : Instr → ℕ → Guess → Passenger
fresh_fence i pc g = record {
  pc = pc;
  what = Some i;
  guess = g;
  src1 = None;
  src2 = None;
  dst = None;
  done = true;
  launched = false;
  recovered = false;
  next = Some (word_after pc);
  ending = None;
  owes = None;
  dead = false;
}

-- any other instruction
abbrev pub fresh_undone : List (Option ℕ) → Instr → ℕ → Guess → Passenger
fresh_undone cache i pc g = record {
  pc = pc;
  what = Some i;
  guess = g;
  src1 = source cache (src1_of i);
  src2 = source cache (src2_of i);
  dst = destination (dst_of i);
  done = false;
  launched = false;
  recovered = false;
  next = None;
  ending = None;
  owes = None;
  dead = false;
}

abbrev pub fresh_as : Class → List (Option ℕ) → Instr → ℕ → Guess → Passenger
fresh_as Free cache i pc g = on (free_trap i pc) (fresh_fence i pc g) (fresh_end (Some i) pc g)
fresh_as _ cache i pc g = fresh_undone cache i pc g

-- the instruction that is issued at pc
unfoldable pub fresh : List (Option ℕ) → Fetched → ℕ → Guess → Passenger
fresh cache (Bad e) pc g = fresh_end None pc g e
fresh cache (Got i) pc g = fresh_as (kind_of i) cache i pc g

-- where the program goes after an instruction that is not executed yet: by its guess; after ECALL and FENCE.I nowhere
abbrev pub goto_undone : Class → Passenger → Option ℕ
goto_undone Serial p = None
goto_undone _ p = guessed p.guess (instruction p) p.pc

-- after an instruction that is executed: to its next address, or nowhere if it ends the program
abbrev pub goto_done : Option End → Option ℕ → Option ℕ
goto_done None n = n
goto_done (Some e) n = None

-- where the program goes after an instruction, if anywhere
abbrev pub goto : Passenger → Option ℕ
goto p = if p.done then goto_done p.ending p.next else goto_undone (kind p) p

-- the registers to request, each once, beginning with that of the first source
abbrev pub both : Option ℕ → Option ℕ → List ℕ
both None None = []
both (Some r) None = r ∷ []
both None (Some s) = s ∷ []
both (Some r) (Some s) = if r == s then r ∷ [] else r ∷ s ∷ []

abbrev pub requests : Passenger → List ℕ
requests p = both (missing p.src1) (missing p.src2)
