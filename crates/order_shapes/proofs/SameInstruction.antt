-- No move replaces the decoded instruction of one that is on its way; a new one is what was fetched.
use Rattle.std.proofs.Common.{◌≡◌, ℕ, ◌%◌, Option, Some, None, Bool, true, false, Result, Ok, Err, refl, sym, subst, ◌∙◌}
use Rattle.std.specs.Prelude.{if◌then◌else◌, IfSome, ◌==◌, ◌&&◌, ◌||◌}
use Rattle.mem_regions.specs.Memory.{Memory}
use Rattle.mem_regions.specs.Fetching.{fetch_at as fetched_at}
use Rattle.mem_regions.specs.declared.access.MemErr.{MemErr}
use Rattle.rv_inst.specs.Decoding.{decoded_as}
use Rattle.rv_inst.specs.Ranges.{Fits}
use Rattle.rv_inst.specs.declared.instruction.Instr.{Instr}
use Rattle.rv_inst.specs.declared.instruction.Instr.TheVariants.{Ebreak}
use Rattle.rv_inst.specs.declared.isa.Isa.{Isa}
use Rattle.cf_bind.specs.Meeting.{Met, cancelled}
use Rattle.cf_bind.specs.declared.cell.Op.{Op}
use Rattle.cf_bind.specs.declared.packet.Packet.{Packet}
use Rattle.cf_bind.specs.declared.packet.Packet.TheVariants.{Value, Turn, Halt}
use Rattle.cf_bind.specs.declared.passenger.End.{End}
use Rattle.cf_bind.specs.declared.passenger.End.TheVariants.{Trap}
use Rattle.cf_bind.specs.declared.passenger.Guess.{Guess}
use Rattle.cf_bind.specs.declared.passenger.Passenger.{Passenger}
use Rattle.cf_semantics.specs.moves.Instructions.{Bad, fetched, finish_trap, read_as, word_read}
use Rattle.cf_semantics.specs.moves.Moves.{back_in}
use Rattle.cf_semantics.specs.state.Options.{on}
use Rattle.cf_semantics.specs.state.Passengers.{finish, finished, fresh, instruction, trapped, value_in}
use Rattle.cf_passengers.specs.Facts.{IsFetched}
use Rattle.cf_passengers.proofs.Decoded.{decoded-instruction}
use Rattle.cf_passengers.proofs.Kept.{fresh-passenger, passenger-fits}
use Rattle.order_rules.specs.declared.rule.Rule.{Rule}
use Rattle.order_rules.specs.declared.rule.Rule.TheVariants.{ExecuteDead, LaunchDead, LeaveNotDone, MeetDie}
use Rattle.order_rules.specs.Rules.{rule_holds}
use Rattle.order_model.specs.RuleMoves.{answer_without, leaving_without, meeting_without, passenger_met_without, sources_without}
use Rattle.order_shapes.specs.Shapes.{IsEncodable}

-- one of two, each with this instruction
either : (b : Bool) (p q : Passenger) (what : Option Instr) → p.what ≡ what → q.what ≡ what → (if b then p else q).what ≡ what
either true p q what h k = h
either false p q what h k = k

either_met : (b : Bool) (x y : Met) (what : Option Instr) → x.passenger.what ≡ what → y.passenger.what ≡ what → (if b then x else y).passenger.what ≡ what
either_met true x y what h k = h
either_met false x y what h k = k

chosen : (o : Option End) (p : Passenger) (f : End → Passenger) (what : Option Instr) → p.what ≡ what → ((e : End) → (f e).what ≡ what) →
    (on o p f).what ≡ what
chosen None p f what h k = h
chosen (Some e) p f what h k = k e

pub finish_same : (p : Passenger) (answer : Option ℕ) → (finish p answer).what ≡ p.what
unfolding finish
finish_same p answer = chosen (finish_trap (instruction p) p.pc (value_in p.src1) (value_in p.src2)) (finished p _ _) (trapped p) p.what refl (λ e. refl)

back_same : (p : Passenger) (answer : Option ℕ) → (back_in p answer).what ≡ p.what
back_same p answer = either p.dead (record p { recovered = true }) (finish (record p { recovered = true }) answer) p.what refl
    (finish_same (record p { recovered = true }) answer)

pub recovers_same : (away : Option Rule) (p : Passenger) (op : Op) → (back_in (sources_without away p op) (answer_without away p op)).what ≡ p.what
recovers_same away p op = back_same (sources_without away p op) (answer_without away p op)
    ∙ either (rule_holds away LaunchDead && rule_holds away ExecuteDead) p _ p.what refl refl

met_so : (away : Option Rule) (k : Packet) (p : Passenger) → (passenger_met_without away k p).what ≡ p.what
met_so away (Value r v) p = refl
met_so away (Turn pc) p = either (rule_holds away MeetDie) (cancelled p) p p.what refl refl
met_so away Halt p = either (rule_holds away MeetDie) (cancelled p) p p.what refl refl

pub met_same : (away : Option Rule) (p : Passenger) (k : Packet) → (meeting_without away p k).passenger.what ≡ p.what
unfolding meeting_without
met_same away p k = either_met p.dead _ _ p.what refl (met_so away k p)

pub leaving_same : (away : Option Rule) (p : Passenger) → (leaving_without away p).what ≡ p.what
leaving_same away p = either (rule_holds away LeaveNotDone || p.done) p (record p { dst = None }) p.what refl refl

-- so it can still be encoded
pub still_encodable : (p q : Passenger) → q.what ≡ p.what → IsEncodable p → IsEncodable q
still_encodable p q same h = subst (λ (o : Option Instr). IfSome o (λ i. Fits i)) (sym same) h

-- what was fetched can be encoded
choice : {A : Type 0} (P : A → Type 0) (b : Bool) (x y : A) → P x → P y → P (if b then x else y)
choice P true x y f g = f
choice P false x y f g = g

read_so : (isa : Isa) (pc word : ℕ) (o : Option Instr) → decoded_as isa word ≡ o → IsFetched isa (read_as pc word o)
read_so isa pc word None e = tt
read_so isa pc word (Some i) e = decoded-instruction isa word i e

word_so : (isa : Isa) (pc : ℕ) (r : Result ℕ MemErr) → IsFetched isa (word_read isa pc r)
word_so isa pc (Ok word) = read_so isa pc word (decoded_as isa word) refl
word_so isa pc (Err e) = tt

fetched_so : (isa : Isa) (mem : Memory) (pc : ℕ) → IsFetched isa (fetched isa mem pc)
unfolding fetched
fetched_so isa mem pc = choice (IsFetched isa) (pc % 4 == 0) (word_read isa pc (fetched_at mem pc)) (Bad (Trap 0 pc pc)) (word_so isa pc (fetched_at mem pc)) tt

pub fresh_encodable : (isa : Isa) (cache : _) (mem : Memory) (pc : ℕ) (g : Guess) → IsEncodable (fresh cache (fetched isa mem pc) pc g)
fresh_encodable isa cache mem pc g =
    passenger-fits isa (fresh cache (fetched isa mem pc) pc g) (fresh-passenger isa cache (fetched isa mem pc) pc g (fetched_so isa mem pc))

-- and an instruction that cannot be decoded counts as one that can
pub instruction_fits : (what : Option Instr) → IfSome what (λ i. Fits i) → Fits (on what Ebreak (λ i. i))
instruction_fits None h = tt
instruction_fits (Some i) h = h
