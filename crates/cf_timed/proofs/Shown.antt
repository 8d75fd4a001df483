-- What a watcher that writes the lines of moves has written.
use Rattle.std.proofs.Common.{◌≡◌, ◌∙◌, refl, ap, subst, ℕ, ◌+◌, ◌-◌, ◌^◌, ◌<◌, List, [], ◌∷◌, ◌++◌, length, min, Option, Ok, Err, arith}
use Rattle.std.specs.Prelude.{Result}
use Rattle.cf_io.specs.declared.failed.Failed.{Failed}
use Rattle.run_options.specs.declared.guess_rule.GuessRule.{GuessRule}
use Rattle.cf_io.specs.Puts.{Writes, WritesFront}
use Rattle.rv_machine.specs.Streams.{Streams}
use Rattle.cf_layout.specs.Layout.{Plan}
use Rattle.cf_layout.specs.Accepted.{IsAccepted}
use Rattle.cf_core.specs.Processors.{Processor}
use Rattle.cf_run.specs.Made.{Made}
use Rattle.cf_timed.specs.declared.answer.Timed.{Timed}
use Rattle.cf_timed.specs.declared.answer.TimedRun.{TimedRun}
use Rattle.cf_timed.specs.declared.move_lines.MoveLines.{MoveLines}
use Rattle.cf_timed.specs.declared.timed_move.TimedMove.{TimedMove}
use Rattle.cf_timed.specs.Clocks.{SiteTimes}
use Rattle.cf_timed.specs.DelayedRuns.{DelayRule, delayed_at}
use Rattle.cf_timed.specs.Earliest.{TimedTurn, after_turn}
use Rattle.cf_timed.specs.MoveLines.{timed_move_lines, timed_line}
use Rattle.cf_timed.specs.TimedRuns.{BreaksTimed, BreaksWatched, CanRunTimed, GoesShown, GoesWatched, RunsShown, RunsWatched, begins, timed_start, timed_lines_from}
use Rattle.cf_timed.specs.Times.{done_after}
use Rattle.cf_timed.specs.Watching.{watched_text}
use Rattle.cf_timed.proofs.Few.{moves-few}

-- how it notes a move, and what it writes
abbrev pub counts : MoveLines → Made → TimedMove → MoveLines
counts lines made done = record { count = min (lines.count + 1) (2 ^ 64 - 1) }

abbrev pub writes : MoveLines → Made → TimedMove → List ℕ
writes lines made done = timed_line (min (lines.count + 1) (2 ^ 64 - 1)) done

lines-watched : (plan : Plan) (rule : DelayRule) (t : TimedTurn) (count : ℕ) (trace : List Made) → count + length trace < 2 ^ 64 →
    watched_text counts writes plan rule t (record { count = count }) trace ≡ timed_move_lines (count + 1) plan rule t trace
unfolding watched_text timed_move_lines
lines-watched plan rule t count [] few = refl
lines-watched plan rule t count (made ∷ trace) few =
    let done = done_after plan t.earlier (delayed_at rule t.state t.earlier made.move) in
    let one : min (count + 1) (2 ^ 64 - 1) ≡ count + 1 = omega (arith, few) in
    ap (λ (n : ℕ). timed_line n done ++ watched_text counts writes plan rule (after_turn plan rule t made) (record { count = n }) trace) one
    ∙ ap (λ (text : List ℕ). timed_line (count + 1) done ++ text)
    (lines-watched plan rule (after_turn plan rule t made) (count + 1) trace (omega (arith, few)))

-- so a run that it watched has the lines of its moves
runs-shown : (r : GuessRule) (rule : DelayRule) (limit : ℕ) (core new : Processor) (before after : Streams) (clock : SiteTimes) (first later : MoveLines)
    (blank full : Option (List ℕ)) (moves : ℕ) (answer : Timed) → IsAccepted core.plan → length core.state.regs ≡ 32 → CanRunTimed limit core →
    first ≡ record { count = 0 } → RunsWatched counts writes r rule limit (begins core before) new after clock first later blank full moves answer →
    RunsShown r rule limit (begins core before) new after clock blank full moves answer
runs-shown r rule limit core new before after clock first later blank full moves answer acc wide can fresh_is h =
    let runs = h.run.right.runs in
    let small = moves-few r limit (begins core before) runs.now h.run.picks runs.at acc wide can runs.reaches runs.picks in
    record {
      run = h.run;
      put = subst (Writes blank full)
          (ap (λ (w : MoveLines). watched_text counts writes core.plan rule (timed_start core.state) w runs.reaches.trace) fresh_is
          ∙ lines-watched core.plan rule (timed_start core.state) 0 runs.reaches.trace (omega (arith, small))) h.put;
    }

breaks-shown : (r : GuessRule) (rule : DelayRule) (limit : ℕ) (core : Processor) (before : Streams) (first : MoveLines)
    (blank full : Option (List ℕ)) → IsAccepted core.plan → length core.state.regs ≡ 32 → CanRunTimed limit core →
    first ≡ record { count = 0 } → BreaksWatched counts writes r rule limit (begins core before) first blank full →
    BreaksTimed (timed_lines_from (begins core before) rule) r rule limit (begins core before) blank full
breaks-shown r rule limit core before first blank full acc wide can fresh_is h =
    let small = moves-few r limit (begins core before) h.now h.picks h.last acc wide can h.reached h.picked in
    record {
      now = h.now;
      reached = h.reached;
      picks = h.picks;
      last = h.last;
      picked = h.picked;
      are_earliest = h.are_earliest;
      sequential = h.sequential;
      bounded = h.bounded;
      front = subst (WritesFront blank full)
          (ap (λ (w : MoveLines). watched_text counts writes core.plan rule (timed_start core.state) w h.reached.trace) fresh_is
          ∙ lines-watched core.plan rule (timed_start core.state) 0 h.reached.trace (omega (arith, small))) h.front;
    }

-- both
pub goes-shown : (r : GuessRule) (rule : DelayRule) (limit : ℕ) (core new : Processor) (before after : Streams) (clock : SiteTimes) (first later : MoveLines)
    (blank full : Option (List ℕ)) (result : Result TimedRun Failed) → IsAccepted core.plan → length core.state.regs ≡ 32 → CanRunTimed limit core →
    first ≡ record { count = 0 } → GoesWatched counts writes r rule limit (begins core before) new after clock first later blank full result →
    GoesShown r rule limit (begins core before) new after clock blank full result
goes-shown r rule limit core new before after clock first later blank full (Ok run) acc wide can fresh_is h =
    runs-shown r rule limit core new before after clock first later blank full run.moves run.answer acc wide can fresh_is h
goes-shown r rule limit core new before after clock first later blank full (Err failed) acc wide can fresh_is h =
    breaks-shown r rule limit core before first blank full acc wide can fresh_is h
