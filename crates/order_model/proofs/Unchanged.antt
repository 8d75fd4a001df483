-- If no rule is taken away, the table is unchanged.
use Rattle.std.proofs.Common.{◌≡◌, ℕ, Option, Some, None, refl, ap}
use Rattle.cf_layout.specs.Layout.{Plan}
use Rattle.cf_bind.specs.declared.binding.Binding.{Binding}
use Rattle.cf_bind.specs.declared.cell.Cell.{Cell}
use Rattle.cf_bind.specs.declared.packet.Packet.{Packet}
use Rattle.cf_bind.specs.declared.packet.Packet.TheVariants.{Value, Turn, Halt}
use Rattle.cf_bind.specs.declared.passenger.Passenger.{Passenger}
use Rattle.cf_bind.specs.declared.moves.Move.TheVariants.{Issue, Emit, Climb, Fall, Meet, Execute, Send, Launch, Slide, Access, Recover, Leave, Exit, Serve}
use Rattle.cf_bind.specs.Meeting.{meeting, passed, replaced}
use Rattle.cf_semantics.specs.state.State.{State, cell_at, with_cell}
use Rattle.cf_semantics.specs.state.Options.{on}
use Rattle.cf_semantics.specs.moves.Bars.{bar}
use Rattle.cf_semantics.specs.moves.Moves.{moved, next, cell_met}
use Rattle.order_rules.specs.Rules.{rule_holds}
use Rattle.order_model.specs.RuleBars.{bar_without}
use Rattle.order_model.specs.RuleMoves.{replaced_without, passed_without, meeting_without, cell_met_without, moved_without, next_without}
use Rattle.order_model.specs.RuleClaims.{HasTheBars, HasTheMoves}

pub bars_unchanged : HasTheBars
unfolding bar_without bar rule_holds
bars_unchanged plan s (Issue g) = refl
bars_unchanged plan s Emit = refl
bars_unchanged plan s (Climb i) = refl
bars_unchanged plan s (Fall i) = refl
bars_unchanged plan s (Meet i) = refl
bars_unchanged plan s (Execute i) = refl
bars_unchanged plan s (Send i) = refl
bars_unchanged plan s (Launch i) = refl
bars_unchanged plan s (Slide k c) = refl
bars_unchanged plan s Access = refl
bars_unchanged plan s (Recover i) = refl
bars_unchanged plan s Leave = refl
bars_unchanged plan s Exit = refl
bars_unchanged plan s Serve = refl

replacing : (r v : ℕ) (o : Option ℕ) → replaced_without None r v o ≡ replaced r o
unfolding rule_holds
replacing r v None = refl
replacing r v (Some w) = refl

passing : (r v : ℕ) (o : Option Binding) → passed_without None r v o ≡ passed r v o
passing r v None = refl
passing r v (Some b) = rw (replacing r v b.value) refl

pub meeting_unchanged : (p : Passenger) (k : Packet) → meeting_without None p k ≡ meeting p k
unfolding meeting_without meeting rule_holds
meeting_unchanged p (Value r v) = rw (passing r v p.dst) refl
meeting_unchanged p (Turn pc) = refl
meeting_unchanged p Halt = refl

meet_there : (plan : Plan) (s : State) (i : ℕ) → moved_without None plan s (Meet i) ≡ moved plan s (Meet i)
unfolding moved_without moved
meet_there plan s i = go (cell_at s.cells i) where
  meet_packet : (c : Cell) (p : Passenger) (o : Option Packet) →
      on o s (λ k. with_cell s i (cell_met_without None c p k)) ≡ on o s (λ k. with_cell s i (cell_met c p k))
  meet_packet c p None = refl
  meet_packet c p (Some k) = rw (meeting_unchanged p k) refl

  meet_passenger : (c : Cell) (o : Option Passenger) →
      on o s (λ p. on c.packet s (λ k. with_cell s i (cell_met_without None c p k))) ≡ on o s (λ p. on c.packet s (λ k. with_cell s i (cell_met c p k)))
  meet_passenger c None = refl
  meet_passenger c (Some p) = meet_packet c p c.packet

  go : (o : Option Cell) →
      on o s (λ c. on c.passenger s (λ p. on c.packet s (λ k. with_cell s i (cell_met_without None c p k))))
      ≡ on o s (λ c. on c.passenger s (λ p. on c.packet s (λ k. with_cell s i (cell_met c p k))))
  go None = refl
  go (Some c) = meet_passenger c c.passenger

pub moves_unchanged : HasTheMoves
unfolding next_without next moved_without moved rule_holds
moves_unchanged plan m (Issue g) = refl
moves_unchanged plan m Emit = refl
moves_unchanged plan m (Climb i) = refl
moves_unchanged plan m (Fall i) = refl
moves_unchanged plan m (Meet i) = ap (λ (t : State). record m { state = t }) (meet_there plan m.state i)
moves_unchanged plan m (Execute i) = refl
moves_unchanged plan m (Send i) = refl
moves_unchanged plan m (Launch i) = refl
moves_unchanged plan m (Slide k c) = refl
moves_unchanged plan m Access = refl
moves_unchanged plan m (Recover i) = refl
moves_unchanged plan m Leave = refl
moves_unchanged plan m Exit = refl
moves_unchanged plan m Serve = refl

pub ruleset unchanged = (bars_unchanged, moves_unchanged)
