-- How far the output and the memory are ahead of the retired count. The output is ahead by a served call, the memory by
-- the accesses that have passed the memory port.
use Rattle.std.specs.Prelude.{ℕ, ◌+◌, Option, None, Bool, true, false, ◌&&◌, ◌||◌, not, if◌then◌else◌}
use Rattle.cf_layout.specs.Layout.{Plan}
use Rattle.cf_bind.specs.declared.passenger.Passenger.{Passenger}
use Rattle.cf_semantics.specs.state.Options.{on, is_some}
use Rattle.cf_semantics.specs.moves.Instructions.{is_memory, is_serial}
use Rattle.cf_semantics.specs.state.State.{State, cell_at, siding_at}
use Rattle.cf_semantics.specs.state.Column.{Item, Up, Down, column}
use Rattle.cf_semantics.specs.state.Passengers.{kind}
use Rattle.cf_semantics.specs.state.Layouts.{port}
use Rattle.cf_semantics.specs.moves.Bars.{last_op}
use Rattle.cf_semantics.specs.claims.Walks.{walk}

-- 1 if the test holds, otherwise 0
abbrev pub one : Bool → ℕ
one true = 1
one false = 0

-- its call was served, and did not end the program
abbrev pub has_served : Passenger → Bool
has_served p = not p.dead && is_serial (kind p) && p.done && not (is_some p.ending)

-- its load or store is in Memory's siding
abbrev pub flies : Passenger → Bool
flies p = is_memory (kind p) && p.launched && not p.recovered

-- it is live and has passed the port: its call was served, or its load or store is recovered, or answered at the end of
-- the siding. Right only in reached states, and if the answer at the siding's end is given only for the highest
-- instruction whose load or store is in the siding. There that operation is its own, and what was recovered was
-- answered
abbrev pub has_ported : Passenger → Option ℕ → Bool
has_ported p answer = has_served p || (not p.dead && is_memory (kind p) && (p.recovered || (p.launched && is_some answer)))

-- the answer at the end of Memory's siding
abbrev pub answer_there : Plan → State → Option ℕ
answer_there plan s = on (last_op (siding_at s (port plan))) None (λ o. o.answer)

-- 1 if the highest stage holds a call that was served, otherwise 0
abbrev pub served_count : Plan → State → ℕ
served_count plan s = on (cell_at s.cells plan.stages) 0 (λ c. on c.passenger 0 (λ p. one (has_served p)))

-- what is counted so far from the top: the number of live instructions; their number down to the lowest that has passed
-- the port; and the answer at the end of Memory's siding, until its own instruction is passed
pub record PortTally : Type 0 where
  pub live : ℕ
  pub ported : ℕ
  pub answer : Option ℕ

-- one item further down
unfoldable pub counted : Item → PortTally → PortTally
counted (Up i p) t = record {
  live = t.live + one (not p.dead);
  ported = if has_ported p t.answer then t.live + 1 else t.ported;
  answer = if flies p then None else t.answer;
}
counted (Down i k) t = t

-- at the top
abbrev pub uncounted : Plan → State → PortTally
uncounted plan s = record { live = 0; ported = 0; answer = answer_there plan s }

-- the number of live instructions from the top down to the lowest that has passed the port, or 0 if none has passed it
abbrev pub ported_count : Plan → State → ℕ
ported_count plan s = (walk counted (column s) (uncounted plan s)).ported
