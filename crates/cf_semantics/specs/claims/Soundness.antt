-- Soundness of a moment over the sequential machine: twelve claims, which every move preserves together. x is the
-- machine after the instructions that have retired.
use Rattle.std.specs.Prelude.{◌≡◌, ◌≢◌, ℕ, ◌≤◌, ◌<◌, ◌==◌, if◌then◌else◌, List, [], ◌∷◌, ◌++◌, Option, Some, None, Bool, true, false, ◌&&◌, ◌||◌, not, slice_index}
use Rattle.std.specs.List.{list_any}
use Rattle.rv_inst.specs.declared.isa.Isa.{Isa}
use Rattle.rv_inst.specs.declared.classes.Class.{Class}
use Rattle.rv_inst.specs.declared.classes.Class.TheVariants.{Branch, Jump, Serial}
use Rattle.rv_machine.specs.Machine.{Machine}
use Rattle.cf_layout.specs.Layout.{Plan, siding_of, launch_stage, recover_stage, last_stage}
use Rattle.cf_layout.specs.Accepted.{memory_launch}
use Rattle.cf_bind.specs.declared.binding.Binding.{Binding}
use Rattle.cf_bind.specs.declared.cell.Op.{Op}
use Rattle.cf_bind.specs.declared.packet.Packet.{Packet}
use Rattle.cf_bind.specs.declared.packet.Packet.TheVariants.{Value, Turn, Halt}
use Rattle.cf_bind.specs.declared.packet.Fetch.TheVariants.{Waiting}
use Rattle.cf_bind.specs.declared.passenger.Guess.TheVariants.{Wait}
use Rattle.cf_bind.specs.declared.passenger.Guess.{Guess}
use Rattle.cf_bind.specs.declared.passenger.Passenger.{Passenger}
use Rattle.cf_bind.specs.declared.passenger.End.{End}
use Rattle.cf_semantics.specs.state.Options.{on, is_some, When, Where}
use Rattle.cf_semantics.specs.moves.Instructions.{is_memory, is_serial, is_free, Fetched, Got, Bad, fetched, StepResult, Goes, Stops, step_at, after_step}
use Rattle.cf_semantics.specs.state.State.{State, Moment, siding_at}
use Rattle.cf_semantics.specs.state.Column.{Item, Up, Down, column}
use Rattle.cf_semantics.specs.state.Passengers.{kind, missing, cached}
use Rattle.cf_semantics.specs.state.Layouts.{isa_of, port}
use Rattle.cf_semantics.specs.moves.Moves.{fetch_from, operation}
use Rattle.cf_semantics.specs.claims.Path.{Walk, is_sure, is_trap, turns, has_reg, among, top}
use Rattle.cf_semantics.specs.claims.Ahead.{flies, served_count, ported_count, answer_there}
use Rattle.cf_semantics.specs.state.Places.{Standing, Lying, known, IsHarmless, machine_after}

-- a known value is that of the registers
abbrev pub HasValue : Option Binding → List ℕ → Type 0
HasValue None regs = Unit {0}
HasValue (Some b) regs = (v : ℕ) → b.value ≡ Some v → v ≡ slice_index regs b.reg

-- the value is known, if there is a binding
abbrev pub IsKnown : Option Binding → Type 0
IsKnown None = Unit {0}
IsKnown (Some b) = (v : ℕ) × (b.value ≡ Some v)

-- an owed value is the destination's
abbrev pub OwesValue : Option Packet → Option Binding → Type 0
OwesValue (Some (Value r v)) dst = dst ≡ Some (record { reg = r; value = Some v })
OwesValue owed dst = Unit {0}

-- for a sure instruction, where x is the machine before it and s that machine's step at its address
pub record HasValues (p : Passenger) (x : Machine) (s : StepResult) : Type 0 where
  pub first : HasValue p.src1 x.hart.regs
  pub second : HasValue p.src2 x.hart.regs
  pub destination : HasValue p.dst (after_step s x).hart.regs
  pub owed : OwesValue p.owes p.dst
  pub goes : p.done ≡ true → p.ending ≡ None → s ≡ Goes (after_step s x)
  pub next : p.done ≡ true → p.ending ≡ None → p.next ≡ Some (after_step s x).hart.pc
  pub done : p.done ≡ true → p.ending ≡ None → IsKnown p.dst
  pub ends : (e : End) → p.ending ≡ Some e → s ≡ Stops e

-- for a result, with what is known above it: a value is the register's
abbrev pub PacketHasValue : Packet → Walk → Type 0
PacketHasValue (Value r v) w = v ≡ slice_index w.machine.hart.regs r
PacketHasValue k w = Unit {0}

-- (a) Values: the values of the register file, of instructions and of results are the sequential machine's
pub record Values (isa : Isa) (s : State) (x : Machine) : Type 0 where
  pub registers : s.regs ≡ x.hart.regs
  pub passengers : (p : Standing s) → When (is_sure p.who (known isa s x p.above)) (HasValues p.who (known isa s x p.above).machine
      (step_at isa (known isa s x p.above).machine p.who.pc))
  pub packets : (k : Lying s) → When (not (known isa s x k.above).barred) (PacketHasValue k.what (known isa s x k.above))

-- it holds what is fetched at its address: the instruction, or the trap
abbrev pub Holds : Passenger → Fetched → Type 0
Holds p (Got i) = p.what ≡ Some i
Holds p (Bad e) = (p.what ≡ None) × (p.ending ≡ Some e)

-- (b) Path: each sure instruction is where the program goes after the one above it, and holds what the machine fetches
-- there
abbrev pub IsPath : Isa → State → Machine → Type 0
IsPath isa s x = (p : Standing s) → When (is_sure p.who (known isa s x p.above))
    (((known isa s x p.above).goto ≡ Some p.who.pc) × Holds p.who (fetched isa (known isa s x p.above).machine.hart.mem p.who.pc))

-- (c) Fetch: with no barrier fetch runs where the program goes after the last sure instruction, or waits if the program
-- goes nowhere
abbrev pub FetchesOn : Isa → State → Machine → Type 0
FetchesOn isa s x = When (not (known isa s x (column s)).barred) (s.fetch ≡ fetch_from (known isa s x (column s)).goto)

-- the result turns to where the machine is, after a sure instruction that is done without an ending; or it halts, after
-- one that traps
abbrev pub IsFirstBarrier : Packet → Machine → Bool → Bool → Type 0
IsFirstBarrier (Value r v) x settled trapped = Unit {0}
IsFirstBarrier (Turn pc) x settled trapped = (pc ≡ x.hart.pc) × (settled ≡ true)
IsFirstBarrier Halt x settled trapped = trapped ≡ true

-- (d) First barrier: the first from the top is right, whether it is a result or still owed
pub record FirstBarrier (isa : Isa) (s : State) (x : Machine) : Type 0 where
  pub lying : (k : Lying s) → When (not (known isa s x k.above).barred)
      (IsFirstBarrier k.what (known isa s x k.above).machine (known isa s x k.above).settled (known isa s x k.above).trapped)
  pub owed : (p : Standing s) (k : Packet) → p.who.owes ≡ Some k → When (is_sure p.who (known isa s x p.above))
      (IsFirstBarrier k (after_step (step_at isa (known isa s x p.above).machine p.who.pc) (known isa s x p.above).machine)
      (p.who.done && not (is_some p.who.ending)) (is_trap p.who.ending))

-- (e) Stops: no instruction has climbed past what it needs
pub record StopsInTime (plan : Plan) (s : State) : Type 0 where
  -- a live instruction that is neither executed nor launched is at or below its last unit, or its siding's launch stage
  pub low : (p : Standing s) → p.who.dead ≡ false → p.who.done ≡ false → p.who.launched ≡ false →
      Where (siding_of plan (kind p.who)) (p.stage ≤ last_stage plan (kind p.who)) (λ k. p.stage ≤ launch_stage plan k)
  -- an instruction whose operation is in a siding is between its launch stage and its recovery stage, both included
  pub out : (p : Standing s) → p.who.launched ≡ true → p.who.recovered ≡ false →
      Where (siding_of plan (kind p.who)) ⊥ (λ k. (launch_stage plan k ≤ p.stage) × (p.stage ≤ recover_stage plan k))
  -- an instruction whose operation is back is at or above the recovery stage, and is done if it is live
  pub back : (p : Standing s) → p.who.recovered ≡ true →
      Where (siding_of plan (kind p.who)) ⊥ (λ k. recover_stage plan k ≤ p.stage)
  pub back_done : (p : Standing s) → p.who.recovered ≡ true → p.who.dead ≡ false → p.who.done ≡ true
  -- an instruction that owes a result is live and done
  pub owing : (p : Standing s) → is_some p.who.owes ≡ true → (p.who.dead ≡ false) × (p.who.done ≡ true)

-- the operation of an instruction that is in siding k
abbrev pub in_siding : Plan → ℕ → Passenger → Bool
in_siding plan k p = p.launched && not p.recovered && on (siding_of plan (kind p)) false (λ j. j == k)

-- the operations that the items have in siding k, from the top
abbrev pub operations_of : Plan → ℕ → List Item → List Op
operations_of plan k [] = []
operations_of plan k (Up i p ∷ xs) = if in_siding plan k p then operation p ∷ operations_of plan k xs else operations_of plan k xs
operations_of plan k (Down i q ∷ xs) = operations_of plan k xs

-- an operation as it was launched
abbrev pub as_launched : Option Op → List Op
as_launched None = []
as_launched (Some op) = record op { answer = None } ∷ []

-- the operations of a siding, from its last cell to its first
abbrev pub operations_in : List (Option Op) → List Op
operations_in [] = []
operations_in (o ∷ ops) = operations_in ops ++ as_launched o

-- no operation is answered
abbrev pub IsUnanswered : Option Op → Type 0
IsUnanswered None = Unit {0}
IsUnanswered (Some op) = op.answer ≡ None

abbrev pub AreUnanswered : List (Option Op) → Type 0
AreUnanswered [] = Unit {0}
AreUnanswered (o ∷ ops) = IsUnanswered o × AreUnanswered ops

-- no operation but the one in the last cell is answered
abbrev pub LastAnswered : List (Option Op) → Type 0
LastAnswered [] = Unit {0}
LastAnswered (o ∷ []) = Unit {0}
LastAnswered (o ∷ q ∷ ops) = IsUnanswered o × LastAnswered (q ∷ ops)

-- the answer is the destination's value
abbrev pub IsAnswer : Option Binding → List ℕ → ℕ → Type 0
IsAnswer None regs a = Unit {0}
IsAnswer (Some b) regs a = slice_index regs b.reg ≡ a

-- no item has a load or a store in Memory's siding
abbrev pub NoneFlies : List Item → Type 0
NoneFlies [] = Unit {0}
NoneFlies (Up i p ∷ xs) = (flies p ≡ false) × NoneFlies xs
NoneFlies (Down i k ∷ xs) = NoneFlies xs

-- (f) Sidings: their operations belong, in order, to the instructions that launched them; an answer is only at the end
-- of Memory's siding, and is the sequential machine's
pub record SidingsAgree (plan : Plan) (s : State) (x : Machine) : Type 0 where
  pub operations : (k : ℕ) → operations_in (siding_at s k) ≡ operations_of plan k (column s)
  pub memory_alone : (k : ℕ) → k ≢ port plan → AreUnanswered (siding_at s k)
  pub last_alone : LastAnswered (siding_at s (port plan))
  pub answers : (p : Standing s) (a : ℕ) → flies p.who ≡ true → NoneFlies p.above → answer_there plan s ≡ Some a →
      When (is_sure p.who (known (isa_of plan) s x p.above))
      (IsAnswer p.who.dst (after_step (step_at (isa_of plan) (known (isa_of plan) s x p.above).machine p.who.pc)
      (known (isa_of plan) s x p.above).machine).hart.regs a)

-- it owes the value of r
abbrev pub owes_value : Option Packet → ℕ → Bool
owes_value None r = false
owes_value (Some (Value q v)) r = q == r
owes_value (Some (Turn pc)) r = false
owes_value (Some Halt) r = false

-- the item will give a value of r to those below it
abbrev pub brings_value : ℕ → Item → Bool
brings_value r (Up i p) = not p.dead && has_reg p.dst r && (not p.done || owes_value p.owes r)
brings_value r (Down i (Value q v)) = q == r
brings_value r (Down i (Turn pc)) = false
brings_value r (Down i Halt) = false

-- (g) Sources: a value that a sure instruction waits for is requested, or comes from an item above it
abbrev pub IsOnItsWay : State → List Item → Option Binding → Type 0
IsOnItsWay s above source = (r : ℕ) → missing source ≡ Some r → (among r s.lane || list_any (brings_value r) above) ≡ true

abbrev pub SourcesCome : Isa → State → Machine → Type 0
SourcesCome isa s x = (p : Standing s) → When (is_sure p.who (known isa s x p.above)) (IsOnItsWay s p.above p.who.src1 × IsOnItsWay s p.above p.who.src2)

-- the guess is that fetch waits
abbrev pub waits : Guess → Bool
waits Wait = true
waits _ = false

-- a live instruction that nothing may follow: it is not executed, and fetch waits for it, or it ended the program when
-- it was issued or served
abbrev pub is_lone : Passenger → Bool
is_lone p = not p.dead && ((not p.done && (is_serial (kind p) || waits p.guess)) || (is_some p.ending && (is_free (kind p) || is_serial (kind p))))

-- (h) No follower: below such an instruction there is no instruction and no barrier, and fetch waits
abbrev pub NoFollower : State → Type 0
NoFollower s = (p : Standing s) → is_lone p.who ≡ true → IsHarmless p.below × (s.fetch ≡ Waiting)

-- (i) High barriers: below a barrier that is above the stage where memory operations launch there is no instruction and
-- no other barrier, and fetch waits
pub record HighBarriers (plan : Plan) (s : State) : Type 0 where
  pub lying : (k : Lying s) → turns (Some k.what) ≡ true → memory_launch plan < k.stage → IsHarmless k.below × (s.fetch ≡ Waiting)
  pub owed : (p : Standing s) → turns p.who.owes ≡ true → memory_launch plan < p.stage → IsHarmless p.below × (s.fetch ≡ Waiting)

-- the classes that decide where the program goes
abbrev pub steers : Class → Bool
steers Branch = true
steers Jump = true
steers Serial = true
steers _ = false

-- a barrier, or a live instruction that still has to decide where the program goes or that ends it
abbrev pub may_turn : Item → Bool
may_turn (Up i p) = (not p.dead && ((not p.done && steers (kind p)) || is_some p.ending)) || turns p.owes
may_turn (Down i k) = turns (Some k)

-- (j) Memory order: a load or a store that was launched is live, and nothing above it may still turn the program
abbrev pub MemoryOrder : State → Type 0
MemoryOrder s = (p : Standing s) → is_memory (kind p.who) ≡ true → p.who.launched ≡ true → (p.who.dead ≡ false) × (list_any may_turn p.above ≡ false)

-- (k) Port: memory is that of the machine after the instructions that have passed the port; input and output are those
-- after the call that was served
pub record PortAgrees (plan : Plan) (m : Moment) (x : Machine) : Type 0 where
  pub memory : m.state.mem ≡ (machine_after (isa_of plan) (ported_count plan m.state) (column m.state) (top m.state x)).hart.mem
  pub input : m.rest ≡ (machine_after (isa_of plan) (served_count plan m.state) (column m.state) (top m.state x)).rest
  pub output : m.output ≡ (machine_after (isa_of plan) (served_count plan m.state) (column m.state) (top m.state x)).output

-- (l) Cache: with no barrier, each cached value is that of the machine after all sure instructions
abbrev pub CacheAgrees : Isa → State → Machine → Type 0
CacheAgrees isa s x = When (not (known isa s x (column s)).barred)
    ((r v : ℕ) → cached s.cache r ≡ Some v → v ≡ slice_index (known isa s x (column s)).machine.hart.regs r)

-- the moment is sound
pub record IsSound (plan : Plan) (m : Moment) (x : Machine) : Type 0 where
  pub values : Values (isa_of plan) m.state x
  pub path : IsPath (isa_of plan) m.state x
  pub fetch : FetchesOn (isa_of plan) m.state x
  pub first_barrier : FirstBarrier (isa_of plan) m.state x
  pub stops : StopsInTime plan m.state
  pub sidings : SidingsAgree plan m.state x
  pub sources : SourcesCome (isa_of plan) m.state x
  pub no_follower : NoFollower m.state
  pub high_barriers : HighBarriers plan m.state
  pub memory_order : MemoryOrder m.state
  pub port : PortAgrees plan m x
  pub cache : CacheAgrees (isa_of plan) m.state x
