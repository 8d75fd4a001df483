-- A move of an instruction that nothing in its row bars has an instruction in its stage.
use Rattle.std.proofs.Common.{◌≡◌, ℕ, Option, Some, None, refl}
use Rattle.std.specs.Prelude.{IsSome}
use Rattle.cf_bind.specs.declared.cell.Cell.{Cell}
use Rattle.cf_bind.specs.declared.moves.Bar.{Bar}
use Rattle.cf_bind.specs.declared.moves.Bar.TheVariants.{NoPassenger, NoSuchSite}
use Rattle.cf_bind.specs.declared.moves.Move.TheVariants.{Execute, Send}
use Rattle.cf_bind.specs.declared.passenger.Passenger.{Passenger}
use Rattle.cf_layout.specs.Layout.{Plan}
use Rattle.cf_semantics.specs.moves.Bars.{row_bar}
use Rattle.cf_semantics.specs.state.Options.{on}
use Rattle.cf_semantics.specs.state.State.{State, cell_at}
use Rattle.cf_stages.specs.Changes.{passenger_at}

rides_in : (o : Option Passenger) (f : Passenger → Option Bar) → on o (Some NoPassenger) f ≡ None → IsSome o
rides_in None f e = absurd (cc)
rides_in (Some p) f e = refl

rides_at : (o : Option Cell) (f : Cell → Passenger → Option Bar) → on o (Some NoSuchSite) (λ c. on c.passenger (Some NoPassenger) (f c)) ≡ None →
    IsSome (on o None (λ c. c.passenger))
rides_at None f e = absurd (cc)
rides_at (Some c) f e = rides_in c.passenger (f c) e

pub execute-rides : (plan : Plan) (s : State) (i : ℕ) → row_bar plan s (Execute i) ≡ None → IsSome (passenger_at s.cells i)
execute-rides plan s i e = rides_at (cell_at s.cells i) _ e

pub send-rides : (plan : Plan) (s : State) (i : ℕ) → row_bar plan s (Send i) ≡ None → IsSome (passenger_at s.cells i)
send-rides plan s i e = rides_at (cell_at s.cells i) _ e

pub ruleset riding = (execute-rides, send-rides)
