-- How the instructions that retire are counted by their classes, move after move.
use Rattle.std.specs.Prelude.{ℕ, ◌+◌, ◌-◌, ◌^◌, List, min, replicate, slice_set, nat_lt, if◌then◌else◌}
use Rattle.rv_inst.specs.declared.classes.Class.{Class}
use Rattle.cf_layout.specs.Layout.{Plan, place_of}
use Rattle.cf_bind.specs.declared.moves.Move.{Move}
use Rattle.cf_bind.specs.declared.moves.Move.TheVariants.{Issue, Climb}
use Rattle.cf_semantics.specs.declared.event.Event.{Event}
use Rattle.cf_semantics.specs.state.Options.{on}
use Rattle.cf_timed.specs.Numbers.{number_at}
use Rattle.cf_timed.specs.declared.timed_move.TimedMove.{TimedMove}
use Rattle.run_ledger.specs.Latencies.{class_retired}
use Rattle.run_ledger.specs.Ledgers.{plus}
use Rattle.run_ledger.specs.SeenMoves.{move_start}
use Rattle.run_ledger.specs.declared.latencies.Latencies.{Latencies}

-- no move was made
abbrev pub no_latencies : Latencies
no_latencies = record { issued = replicate 34 0; retired = replicate 11 0; ticks = replicate 11 0 }

-- a sum, capped at the maximum number of 128 bits
abbrev pub wide_plus : ℕ → ℕ → ℕ
wide_plus a b = min (a + b) (2 ^ 128 - 1)

-- one more instruction of the class retired
abbrev pub one_retired : Class → List ℕ → List ℕ
one_retired class counts = slice_set counts (place_of class) (plus (number_at counts (place_of class)) 1)

-- the instruction took this long
abbrev pub ticks_added : Class → ℕ → List ℕ → List ℕ
ticks_added class more ticks = slice_set ticks (place_of class) (wide_plus (number_at ticks (place_of class)) more)

-- an instruction of the class leaves the last stage with a move
unfoldable pub passage_noted : Plan → TimedMove → Latencies → Class → Latencies
passage_noted plan done l class = record {
  issued = l.issued;
  retired = one_retired class l.retired;
  ticks = ticks_added class (done.time - number_at l.issued plan.stages) l.ticks;
}

-- the same for the move's event, if an instruction retires with it
abbrev pub leaving_noted : Plan → TimedMove → Event → Latencies → Latencies
leaving_noted plan done e l = on (class_retired e) l (passage_noted plan done l)

-- when the instructions in the stages were issued, after a move
abbrev pub issues_after : TimedMove → Move → List ℕ → List ℕ
issues_after done (Issue g) starts = slice_set starts 1 (move_start done)
issues_after done (Climb j) starts = if nat_lt j 33 then slice_set starts (j + 1) (number_at starts j) else starts
issues_after done mv starts = starts

-- the move has brought its instruction into another stage
abbrev pub entered : TimedMove → Latencies → Latencies
entered done l = record { issued = issues_after done done.mv l.issued; retired = l.retired; ticks = l.ticks }

-- everything that a move changes
unfoldable pub latencies_noted : Plan → TimedMove → Event → Latencies → Latencies
latencies_noted plan done e l = entered done (leaving_noted plan done e l)
