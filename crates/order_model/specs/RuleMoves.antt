-- The table of moves without a rule, second half: what each move does, and what it shows. Only the rows that a rule
-- changes are repeated. A source without a value counts as 0 in the table's own rows.
use Rattle.std.specs.Prelude.{ℕ, Option, Some, None, Bool, true, false, ◌==◌, ◌&&◌, ◌||◌, not, if◌then◌else◌}
use Rattle.cf_layout.specs.Layout.{Plan, siding_of}
use Rattle.cf_bind.specs.declared.binding.Binding.{Binding}
use Rattle.cf_bind.specs.declared.cell.Cell.{Cell}
use Rattle.cf_bind.specs.declared.cell.Op.{Op}
use Rattle.cf_bind.specs.declared.packet.Packet.{Packet}
use Rattle.cf_bind.specs.declared.packet.Packet.TheVariants.{Value, Turn, Halt}
use Rattle.cf_bind.specs.declared.passenger.Passenger.{Passenger}
use Rattle.cf_bind.specs.declared.moves.Move.{Move}
use Rattle.cf_bind.specs.declared.moves.Move.TheVariants.{Meet, Access, Recover, Leave, Serve}
use Rattle.cf_bind.specs.Meeting.{Met, garnered, cancelled}
use Rattle.cf_semantics.specs.state.Options.{on, is_some}
use Rattle.cf_semantics.specs.state.State.{State, Moment, cell_at, siding_at, with_cell, with_siding}
use Rattle.cf_semantics.specs.state.Passengers.{kind, with_value}
use Rattle.cf_semantics.specs.moves.Instructions.{is_memory}
use Rattle.cf_semantics.specs.moves.Bars.{last_op}
use Rattle.cf_semantics.specs.moves.Moves.{set_last, on_passenger, with_passenger, back_in, left, moved, next}
use Rattle.cf_semantics.specs.runs.Lines.{Line, line_of}
use Rattle.order_rules.specs.declared.rule.Rule.{Rule}
use Rattle.order_rules.specs.declared.rule.Rule.TheVariants.{MeetDie, MeetGarner, MeetKill, MeetUpdate, LaunchDead, ExecuteDead, RecoverNotDone, LeaveNotDone}
use Rattle.order_rules.specs.Rules.{rule_holds}

-- meet:garner: a source of the value's register without a value gets it
abbrev pub garnered_without : Option Rule → ℕ → ℕ → Option Binding → Option Binding
garnered_without away r v source = if rule_holds away MeetGarner then garnered r v source else source

-- meet:kill: a value of a register whose new value is unknown is killed; meet:update: once it is known, the value
-- becomes the new one
abbrev pub replaced_without : Option Rule → ℕ → ℕ → Option ℕ → Option Packet
replaced_without away r v None = if rule_holds away MeetKill then None else Some (Value r v)
replaced_without away r v (Some w) = Some (Value r (if rule_holds away MeetUpdate then w else v))

abbrev pub passed_without : Option Rule → ℕ → ℕ → Option Binding → Option Packet
passed_without away r v None = Some (Value r v)
passed_without away r v (Some b) = if b.reg == r then replaced_without away r v b.value else Some (Value r v)

-- meet:die: what meets a turn or a halt is dead from then on
abbrev pub cancelled_without : Option Rule → Passenger → Passenger
cancelled_without away p = if rule_holds away MeetDie then cancelled p else p

abbrev pub passenger_met_without : Option Rule → Packet → Passenger → Passenger
passenger_met_without away (Value r v) p = record p { src1 = garnered_without away r v p.src1; src2 = garnered_without away r v p.src2 }
passenger_met_without away (Turn pc) p = cancelled_without away p
passenger_met_without away Halt p = cancelled_without away p

abbrev pub packet_met_without : Option Rule → Packet → Passenger → Option Packet
packet_met_without away (Value r v) p = passed_without away r v p.dst
packet_met_without away (Turn pc) p = Some (Turn pc)
packet_met_without away Halt p = Some Halt

-- what a meeting leaves, with or without a step taken away; a dead instruction changes nothing, and is not changed
unfoldable pub meeting_without : Option Rule → Passenger → Packet → Met
meeting_without away p k = if p.dead
    then record { passenger = p; packet = Some k }
    else record { passenger = passenger_met_without away k p; packet = packet_met_without away k p }

abbrev pub cell_met_without : Option Rule → Cell → Passenger → Packet → Cell
cell_met_without away c p k =
    let m = meeting_without away p k in record { passenger = Some m.passenger; packet = m.packet; met = is_some m.packet }

-- recover:NotDone: without the rule a load or a store that has no answer is answered with 0
abbrev pub answer_without : Option Rule → Passenger → Op → Option ℕ
answer_without away p op = if rule_holds away RecoverNotDone || not (is_memory (kind p)) then op.answer else Some (on op.answer 0 (λ v. v))

-- launch:Dead, execute:Dead: without the rule an instruction finishes with the source values of the operation that it
-- takes back
abbrev pub sources_without : Option Rule → Passenger → Op → Passenger
sources_without away p op = if rule_holds away LaunchDead && rule_holds away ExecuteDead then p
    else record p { src1 = with_value op.a p.src1; src2 = with_value op.b p.src2 }

abbrev pub recovered_without : Option Rule → Plan → State → ℕ → Cell → Passenger → State
recovered_without away plan s i c p = on (siding_of plan (kind p)) s (λ k. on (last_op (siding_at s k)) s (λ op.
    with_siding (with_cell s i (with_passenger c (back_in (sources_without away p op) (answer_without away p op)))) k
    (set_last (siding_at s k) None)))

-- leave:NotDone: without the rule a live instruction that is not done leaves as one without a destination
abbrev pub leaving_without : Option Rule → Passenger → Passenger
leaving_without away p = if rule_holds away LeaveNotDone || p.done then p else record p { dst = None }

abbrev pub left_without : Option Rule → State → ℕ → Cell → Passenger → State
left_without away s n c p = left s n c (leaving_without away p)

-- the state after an allowed move other than Serve; a row that no rule changes is the table's
unfoldable pub moved_without : Option Rule → Plan → State → Move → State
moved_without away plan s (Meet i) = on_passenger s i (λ c p. on c.packet s (λ k. with_cell s i (cell_met_without away c p k)))
moved_without away plan s (Recover i) = on_passenger s i (recovered_without away plan s i)
moved_without away plan s Leave = on_passenger s plan.stages (left_without away s plan.stages)
moved_without away plan s mv = moved plan s mv

-- the moves that read or write memory, or call the environment
abbrev pub is_of_memory : Move → Bool
is_of_memory Access = true
is_of_memory Serve = true
is_of_memory mv = false

-- the moment after an allowed move; Serve is the table's, whichever rule is taken away
unfoldable pub next_without : Option Rule → Plan → Moment → Move → Moment
next_without away plan m (Meet i) = record m { state = moved_without away plan m.state (Meet i) }
next_without away plan m (Recover i) = record m { state = moved_without away plan m.state (Recover i) }
next_without away plan m Leave = record m { state = moved_without away plan m.state Leave }
next_without away plan m mv = next plan m mv

-- a live instruction that leaves without ending the program retires
abbrev pub line_without : Option Rule → Passenger → Option Line
line_without away p = if p.dead then None else on p.ending (Some (line_of (leaving_without away p))) (λ e. None)

-- the line of a move, if it retires an instruction
unfoldable pub retires_without : Option Rule → Plan → State → Move → Option Line
retires_without away plan s Leave = on (cell_at s.cells plan.stages) None (λ c. on c.passenger None (line_without away))
retires_without away plan s mv = None
