-- The table of moves without a rule, first half: what bars each move. Only the rows that a rule changes are repeated,
-- each as in the table; a test that counts only while its rule holds says so, and a rule that is not in a row does not
-- change it.
use Rattle.std.specs.Prelude.{ℕ, ◌+◌, ◌*◌, ◌-◌, max, [], ◌∷◌, Option, Some, None, Bool, ◌&&◌, ◌||◌, not, length, nat_lt, if◌then◌else◌}
use Rattle.cf_layout.specs.Layout.{Plan, siding_of, unit_at}
use Rattle.cf_bind.specs.declared.cell.Cell.{Cell}
use Rattle.cf_bind.specs.declared.passenger.Passenger.{Passenger}
use Rattle.cf_bind.specs.declared.passenger.Guess.{Guess}
use Rattle.cf_bind.specs.declared.moves.Move.{Move}
use Rattle.cf_bind.specs.declared.moves.Move.TheVariants.{Issue, Climb, Fall, Execute, Launch, Recover, Leave, Exit, Serve}
use Rattle.cf_bind.specs.declared.moves.Bar.{Bar}
use Rattle.cf_bind.specs.declared.moves.Bar.TheVariants.{Halted, Failed, NoSuchSite, NoPacket, Occupied, NotMet, NoUnit, NotDone, Owes, OpNotThere, LaneFull, FetchWaiting, BadGuess, Dead, AlreadyDone, SourceMissing}
use Rattle.cf_semantics.specs.state.Options.{on, is_some}
use Rattle.cf_semantics.specs.state.State.{State, cell_at, siding_at}
use Rattle.cf_semantics.specs.state.Passengers.{kind, requests, fresh}
use Rattle.cf_semantics.specs.state.Layouts.{isa_of, launches, recovers}
use Rattle.cf_semantics.specs.moves.Instructions.{is_memory, is_serial, fetched}
use Rattle.cf_semantics.specs.moves.Bars.{first_bar_of, at, of_passenger, is_full, stops_at, last_op, running, source_bar, may_guess, entry_bar, row_bar}
use Rattle.order_rules.specs.declared.rule.Rule.{Rule}
use Rattle.order_rules.specs.declared.rule.Rule.TheVariants.{IssueLaneFull, ClimbNotMet, ClimbOwes, ClimbNotDone, FallNotMet, ExecuteSourceMissing, ExecuteDead, LaunchDead, LaunchNotMet, LaunchSourceMissing, RecoverNotDone, LeaveNotMet, LeaveOwes, LeaveNotDone, ExitNotMet, ServeNotMet}
use Rattle.order_rules.specs.Rules.{rule_holds}

-- issue:LaneFull: how many requests the lane can hold; without the rule at least two for each stage
abbrev pub lane_room : Option Rule → Plan → ℕ
lane_room away plan = if rule_holds away IssueLaneFull then plan.lane else max plan.lane (2 * plan.stages)

abbrev pub issue_bar_without : Option Rule → Plan → State → Guess → Cell → Option Bar
issue_bar_without away plan s g c = on (running s.fetch) (Some FetchWaiting) (λ pc.
    let p = fresh s.cache (fetched (isa_of plan) s.mem pc) pc g in
    first_bar_of (
    (is_some c.passenger, Occupied) ∷
    (not (may_guess g p), BadGuess) ∷
    (nat_lt (lane_room away plan) (length s.lane + length (requests p)), LaneFull) ∷ []) None)

abbrev pub climb_bar_without : Option Rule → Plan → Cell → ℕ → Option Cell → Option Bar
climb_bar_without away plan c i above = on above (Some NoSuchSite) (λ d. of_passenger c (λ p. first_bar_of (
    (rule_holds away ClimbNotMet && is_full c, NotMet) ∷
    (rule_holds away ClimbOwes && is_some p.owes, Owes) ∷
    (rule_holds away ClimbNotDone && stops_at plan p i, NotDone) ∷
    (is_some d.passenger, Occupied) ∷ []) None))

abbrev pub fall_bar_without : Option Rule → Cell → Option Cell → Option Bar
fall_bar_without away c below = on below (Some NoSuchSite) (λ d. first_bar_of (
    (not (is_some c.packet), NoPacket) ∷
    (rule_holds away FallNotMet && is_full c, NotMet) ∷
    (is_some d.packet, Occupied) ∷ []) None)

-- the bar of a source without a value, if the rule is kept
abbrev pub source_bar_under : Bool → Passenger → Option Bar → Option Bar
source_bar_under keeps p rest = if keeps then source_bar p rest else rest

abbrev pub execute_bar_without : Option Rule → Plan → Cell → ℕ → Option Bar
execute_bar_without away plan c i = of_passenger c (λ p. first_bar_of (
    (rule_holds away ExecuteDead && p.dead, Dead) ∷
    (p.done, AlreadyDone) ∷
    (not (unit_at plan (kind p) i), NoUnit) ∷ []) (source_bar_under (rule_holds away ExecuteSourceMissing) p None))

abbrev pub launch_bar_without : Option Rule → Plan → State → Cell → ℕ → Option Bar
launch_bar_without away plan s c i = of_passenger c (λ p. first_bar_of (
    (rule_holds away LaunchDead && p.dead, Dead) ∷
    (p.done || p.launched, AlreadyDone) ∷
    (not (launches plan (kind p) i), NoUnit) ∷
    (rule_holds away LaunchNotMet && (is_memory (kind p) && is_full c), NotMet) ∷ [])
    (source_bar_under (rule_holds away LaunchSourceMissing) p (entry_bar plan s p)))

abbrev pub exit_op_bar_without : Option Rule → Plan → State → Passenger → Option Bar
exit_op_bar_without away plan s p = on (siding_of plan (kind p)) (Some NoUnit) (λ k.
    on (last_op (siding_at s k)) (Some OpNotThere) (λ op. first_bar_of (
    (rule_holds away RecoverNotDone && (is_memory (kind p) && not (is_some op.answer)), NotDone) ∷ []) None))

abbrev pub recover_bar_without : Option Rule → Plan → State → Cell → ℕ → Option Bar
recover_bar_without away plan s c i = of_passenger c (λ p. first_bar_of (
    (not (recovers plan (kind p) i), NoUnit) ∷
    (not p.launched || p.recovered, AlreadyDone) ∷ []) (exit_op_bar_without away plan s p))

abbrev pub leave_bar_without : Option Rule → Cell → Option Bar
leave_bar_without away c = of_passenger c (λ p. first_bar_of (
    (rule_holds away LeaveNotMet && is_full c, NotMet) ∷
    (rule_holds away LeaveOwes && is_some p.owes, Owes) ∷
    (rule_holds away LeaveNotDone && ((not p.dead && not p.done) || (p.launched && not p.recovered)), NotDone) ∷ []) None)

abbrev pub exit_bar_without : Option Rule → Cell → Option Bar
exit_bar_without away c = first_bar_of (
    (not (is_some c.packet), NoPacket) ∷
    (rule_holds away ExitNotMet && is_full c, NotMet) ∷ []) None

abbrev pub serve_bar_without : Option Rule → Cell → Option Bar
serve_bar_without away c = of_passenger c (λ p. first_bar_of (
    (p.dead, Dead) ∷
    (p.done, AlreadyDone) ∷
    (not (is_serial (kind p)), NoUnit) ∷
    (rule_holds away ServeNotMet && is_full c, NotMet) ∷ []) None)

-- the row of a move; a row that no rule changes is the table's
abbrev pub row_bar_without : Option Rule → Plan → State → Move → Option Bar
row_bar_without away plan s (Issue g) = at s.cells 1 (issue_bar_without away plan s g)
row_bar_without away plan s (Climb i) = at s.cells i (λ c. climb_bar_without away plan c i (cell_at s.cells (i + 1)))
row_bar_without away plan s (Fall i) = at s.cells i (λ c. fall_bar_without away c (cell_at s.cells (i - 1)))
row_bar_without away plan s (Execute i) = at s.cells i (λ c. execute_bar_without away plan c i)
row_bar_without away plan s (Launch i) = at s.cells i (λ c. launch_bar_without away plan s c i)
row_bar_without away plan s (Recover i) = at s.cells i (λ c. recover_bar_without away plan s c i)
row_bar_without away plan s Leave = at s.cells plan.stages (leave_bar_without away)
row_bar_without away plan s Exit = at s.cells 1 (exit_bar_without away)
row_bar_without away plan s Serve = at s.cells plan.stages (serve_bar_without away)
row_bar_without away plan s mv = row_bar plan s mv

-- the first bar of a move, or none if it is allowed
unfoldable pub bar_without : Option Rule → Plan → State → Move → Option Bar
bar_without away plan s mv = first_bar_of ((is_some s.ending, Halted) ∷ (s.failed, Failed) ∷ []) (row_bar_without away plan s mv)

-- the rule whose bar of a row this is, if any
abbrev pub rule_of_bar : Move → Bar → Option Rule
rule_of_bar (Issue g) LaneFull = Some IssueLaneFull
rule_of_bar (Climb i) NotMet = Some ClimbNotMet
rule_of_bar (Climb i) Owes = Some ClimbOwes
rule_of_bar (Climb i) NotDone = Some ClimbNotDone
rule_of_bar (Fall i) NotMet = Some FallNotMet
rule_of_bar (Execute i) (SourceMissing r) = Some ExecuteSourceMissing
rule_of_bar (Execute i) Dead = Some ExecuteDead
rule_of_bar (Launch i) Dead = Some LaunchDead
rule_of_bar (Launch i) NotMet = Some LaunchNotMet
rule_of_bar (Launch i) (SourceMissing r) = Some LaunchSourceMissing
rule_of_bar (Recover i) NotDone = Some RecoverNotDone
rule_of_bar Leave NotMet = Some LeaveNotMet
rule_of_bar Leave Owes = Some LeaveOwes
rule_of_bar Leave NotDone = Some LeaveNotDone
rule_of_bar Exit NotMet = Some ExitNotMet
rule_of_bar Serve NotMet = Some ServeNotMet
rule_of_bar mv b = None
