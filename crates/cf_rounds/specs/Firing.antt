-- Making a round: its moves are made one after the other, each counted and seen by the pace.
use Rattle.std.specs.Prelude.{◌≡◌, ℕ, List, [], ◌∷◌, ◌++◌, Bool, true, false, Result, Ok, Err}
use Rattle.std.specs.List.{AllByRecursion}
use Rattle.run_options.specs.declared.guess_rule.GuessRule.{GuessRule}
use Rattle.run_options.specs.Reportings as show
use Rattle.cf_bind.specs.declared.moves.Move.{Move}
use Rattle.cf_bind.specs.declared.moves.Move.TheVariants.{Serve}
use Rattle.cf_semantics.specs.declared.event.Event.{Event}
use Rattle.cf_semantics.specs.declared.event.Event.TheVariants as event
use Rattle.cf_semantics.specs.state.Drained.{is_drained}
use Rattle.cf_semantics.specs.moves.Holding.{paced}
use Rattle.cf_sched.specs.Paces.{PaceCount, HasCounted}
use Rattle.run_finishes.specs.declared.finish.Ran.TheVariants as ran
use Rattle.cf_run.specs.Made.{Made, moves_of}
use Rattle.cf_run.specs.Moving.{RunPlace, MakesAndShows, MoveDoes}
use Rattle.cf_rounds.specs.declared.answer.Fired.{Fired}
use Rattle.cf_rounds.specs.declared.answer.Fired.TheVariants.{Plain, Retired, Ended, ReadFault, WriteFault}

-- the moves were made one after the other, each with its event, and led from one RunPlace to another
unfoldable pub MakesAll : List Made → (now new : RunPlace) → Type 0
MakesAll [] now new = new ≡ now
MakesAll (made ∷ trace) now new =
    (next : RunPlace) × MakesAndShows show.report made.move made.event now next × (made.state ≡ next.core.state)
    × MakesAll trace next new

-- the count of Issue moves after these
unfoldable pub paced_by : ℕ → List Made → ℕ
paced_by count [] = count
paced_by count (made ∷ trace) = paced_by (paced count made.move made.event (is_drained made.state)) trace

-- one of the moves has this event
abbrev pub HasEvent : Event → List Made → Type 0
HasEvent e trace =
    (front : List Made) × (made : Made) × (after : List Made) × (trace ≡ front ++ made ∷ after) × (made.event ≡ e)

-- an instruction retired, or ended the program
abbrev pub is_seen : Event → Bool
is_seen (event.Retired line) = true
is_seen (event.Ended end) = true
is_seen e = false

-- what the moves show: the instruction that retired with one of them, the end of the program, or neither
abbrev pub IsSeen : List Made → Fired → Type 0
IsSeen trace (Retired line) = HasEvent (event.Retired line) trace
IsSeen trace (Ended end) = HasEvent (event.Ended end) trace
IsSeen trace Plain = AllByRecursion (λ made. is_seen made.event ≡ false) trace
IsSeen trace ReadFault = ⊥
IsSeen trace WriteFault = ⊥

-- what is shown with one more event
abbrev pub seen : Fired → Event → Fired
seen fired (event.Retired line) = Retired line
seen fired (event.Ended end) = Ended end
seen fired e = fired

-- all moves of the round were made
pub record FiresAll (round : List Move) (now new : RunPlace) (pace later : PaceCount) (answer : Fired) : Type 0 where
  pub trace : List Made
  pub moves : moves_of trace ≡ round
  pub makes : MakesAll trace now new
  pub seen : IsSeen trace answer
  pub paced : (rule : GuessRule) (stages count : ℕ) → HasCounted rule stages count pace → HasCounted rule stages (paced_by count trace) later

-- the round was made; or it is Serve alone, and the input or the output failed its call
unfoldable pub Fires : List Move → (now new : RunPlace) → (pace later : PaceCount) → Fired → Type 0
Fires round now new pace later ReadFault =
    (round ≡ Serve ∷ []) × MoveDoes show.report Serve now new (Err ran.ReadFault) × (later ≡ pace)
Fires round now new pace later WriteFault =
    (round ≡ Serve ∷ []) × MoveDoes show.report Serve now new (Err ran.WriteFault) × (later ≡ pace)
Fires round now new pace later answer = FiresAll round now new pace later answer

-- an error if the input failed the round
abbrev pub input_fired : Fired → Result (Unit {0}) (Unit {0})
input_fired ReadFault = Err tt
input_fired answer = Ok tt

-- an error if the output failed the round
abbrev pub output_fired : Fired → Result (Unit {0}) (Unit {0})
output_fired WriteFault = Err tt
output_fired answer = Ok tt
