-- How many instructions of each class retire, and how long they take from the start of their Issue to the end of their
-- Leave.
use Rattle.std.specs.Prelude.{ℕ, ◌+◌, ◌-◌, List, [], ◌∷◌, ◌++◌, filter, length, Option, Some, None, ◌==◌, if◌then◌else◌}
use Rattle.rv_inst.specs.declared.classes.Class.{Class}
use Rattle.rv_inst.specs.declared.classes.Class.TheVariants.{Serial, Free}
use Rattle.rv_inst.specs.Decoding.{decoded_m}
use Rattle.rv_inst.specs.Operands.{class_of}
use Rattle.cf_layout.specs.Layout.{Plan, computed_classes, place_of}
use Rattle.cf_bind.specs.declared.moves.Move.{Move}
use Rattle.cf_bind.specs.declared.moves.Move.TheVariants.{Issue, Climb}
use Rattle.cf_semantics.specs.declared.event.Event.{Event}
use Rattle.cf_semantics.specs.declared.event.Event.TheVariants as event
use Rattle.cf_semantics.specs.state.Options.{on}
use Rattle.cf_timed.specs.declared.timed_move.TimedMove.{TimedMove}
use Rattle.run_ledger.specs.SeenMoves.{SeenMove, move_start}

-- all classes, in class order
abbrev pub classes : List Class
classes = computed_classes ++ Serial ∷ Free ∷ []

-- how a move that starts at a time changes when the instruction in each stage was issued: an Issue brings one into
-- stage 1, and a Climb brings the one in its stage into the next stage
abbrev pub brought : Move → ℕ → (ℕ → ℕ) → ℕ → ℕ
brought (Issue g) start issued i = if i == 1 then start else issued i
brought (Climb j) start issued i = if i == j + 1 then issued j else issued i
brought mv start issued i = issued i

-- when the Issue of the instruction in a stage started, by the earlier moves, of which the last comes first
abbrev pub issue_started : List TimedMove → ℕ → ℕ
issue_started [] i = 0
issue_started (done ∷ earlier) i = brought done.mv (move_start done) (issue_started earlier) i

-- the class of the instruction that retired with a move, if one did
abbrev pub class_retired : Event → Option Class
class_retired (event.Retired line) = on (decoded_m line.word) None (λ what. Some (class_of what))
class_retired event.Plain = None
class_retired event.Killed = None
class_retired event.Died = None
class_retired (event.Ended e) = None

-- an instruction that retired: its class, and how long it took from the start of its Issue to the end of its Leave
pub record Passage : Type 0 where
  pub class : Class
  pub ticks : ℕ

-- the instruction that retires with a move, which leaves the last stage, as a list
abbrev pub passage_of : Plan → List TimedMove → SeenMove → List Passage
passage_of plan earlier m =
    on (class_retired m.event) [] (λ class. record { class = class; ticks = m.done.time - issue_started earlier plan.stages } ∷ [])

-- the passages that end with the moves after others
abbrev pub passages_after : Plan → List TimedMove → List SeenMove → List Passage
passages_after plan earlier [] = []
passages_after plan earlier (m ∷ moves) = passage_of plan earlier m ++ passages_after plan (m.done ∷ earlier) moves

-- the passages of a run
unfoldable pub passages : Plan → List SeenMove → List Passage
passages plan moves = passages_after plan [] moves

-- the passages of the class at a place
abbrev pub of_class : ℕ → List Passage → List Passage
of_class place some = filter (λ p. place_of p.class == place) some

-- the total time that some take
abbrev pub total_ticks : List Passage → ℕ
total_ticks [] = 0
total_ticks (p ∷ more) = p.ticks + total_ticks more

-- how many instructions of the class at a place retire
unfoldable pub retired_count : Plan → List SeenMove → ℕ → ℕ
retired_count plan moves place = length (of_class place (passages plan moves))

-- and the total time that they take
unfoldable pub latency : Plan → List SeenMove → ℕ → ℕ
latency plan moves place = total_ticks (of_class place (passages plan moves))
