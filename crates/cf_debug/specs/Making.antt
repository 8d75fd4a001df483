-- A move of the debugger: it is made, and what it writes is kept; or the output fails its call.
use Rattle.std.specs.Prelude.{◌≡◌, ◌≢◌, ℕ, List, [], Option, Some, None, Result, Ok, Err}
use Rattle.rv_machine.specs.Streams.{Streams, streams_of}
use Rattle.cf_io.specs.declared.failed.Failed.{Failed}
use Rattle.cf_bind.specs.declared.moves.Move.{Move}
use Rattle.cf_bind.specs.declared.moves.Move.TheVariants.{Serve}
use Rattle.cf_semantics.specs.declared.event.Event.{Event}
use Rattle.cf_semantics.specs.moves.Bars.{bar}
use Rattle.cf_semantics.specs.moves.Events.{IsEvent}
use Rattle.cf_semantics.specs.moves.Kept.{Kept}
use Rattle.cf_core.specs.Processors.{Processor}
use Rattle.cf_core.specs.Stepping.{Makes, FailsToWrite}
use Rattle.cf_core.specs.Undo.{CanStand}
use Rattle.cf_debug.specs.Rings.{ring_after}

-- what a move changes: the processor, the ring, and what the output exposes
pub record ProcessorState : Type 0 where
  pub core : Processor
  pub ring : List Kept
  pub output : Option (List ℕ)

abbrev pub processor_state : Processor → List Kept → Option (List ℕ) → ProcessorState
processor_state core ring output = record { core = core; ring = ring; output = output }

-- the guest's input is empty
abbrev pub streams_at : ProcessorState → Streams
streams_at b = streams_of (Some []) b.output

-- nothing bars the move, which can be taken back unless it is Serve; it was made with this event, and kept
pub record MakesAndKeeps (mv : Move) (event : Event) (now new : ProcessorState) : Type 0 where
  pub allowed : bar now.core.plan now.core.state mv ≡ None
  pub stood : mv ≢ Serve → CanStand now.core.plan now.core.state
  pub makes : Makes now.core new.core mv (streams_at now) (streams_at new)
  pub is_event : IsEvent now.core.plan now.core.state mv event
  pub ring : new.ring ≡ ring_after now.core.plan now.core.state mv now.ring

-- nothing bars the move, which is Serve, and the output failed its call; no move that can be taken back is lost
pub record FailsOne (mv : Move) (now new : ProcessorState) : Type 0 where
  pub allowed : bar now.core.plan now.core.state mv ≡ None
  pub serves : mv ≡ Serve
  pub fails : FailsToWrite now.core new.core (streams_at now) (streams_at new)
  pub ring : new.ring ≡ now.ring

-- what the move does
unfoldable pub MakesKeptOrFails : Move → (now new : ProcessorState) → Result Event Failed → Type 0
MakesKeptOrFails mv now new (Ok event) = MakesAndKeeps mv event now new
MakesKeptOrFails mv now new (Err failed) = FailsOne mv now new
