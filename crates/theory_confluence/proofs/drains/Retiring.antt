-- The count of a state rises only by retirements.
use Rattle.std.proofs.Common.{◌≡◌, ℕ, ◌+◌, Option, Some, None, Bool, true, false, refl, ap, ◌∙◌, arith}
use Rattle.std.specs.Prelude.{not, ◌&&◌, if◌then◌else◌}
use Rattle.cf_layout.specs.Layout.{Plan}
use Rattle.cf_bind.specs.Meeting.{meeting}
use Rattle.cf_bind.specs.declared.cell.Cell.{Cell}
use Rattle.cf_bind.specs.declared.moves.Move.{Move}
use Rattle.cf_bind.specs.declared.moves.Move.TheVariants.{Issue, Emit, Climb, Fall, Meet, Execute, Send, Launch, Slide, Access, Recover, Leave, Exit, Serve}
use Rattle.cf_bind.specs.declared.packet.Packet.{Packet}
use Rattle.cf_bind.specs.declared.passenger.Passenger.{Passenger}
use Rattle.cf_semantics.specs.declared.event.Event.{Event}
use Rattle.cf_semantics.specs.declared.event.Event.TheVariants as event
use Rattle.cf_semantics.specs.moves.Bars.{bar}
use Rattle.cf_semantics.specs.moves.Events.{IsEvent, IsLeaving, meeting_event}
use Rattle.cf_semantics.specs.moves.Holding.{is_retirement}
use Rattle.cf_semantics.specs.moves.Moves.{left, moved, next}
use Rattle.cf_semantics.specs.state.Options.{is_some, on}
use Rattle.cf_semantics.specs.state.State.{State, Moment, cell_at}
use Rattle.cf_semantics.specs.claims.Weight.{counts, is_issue}
use Rattle.theory_refinement.proofs.moves.Rows.{bar_row}
use Rattle.theory_refinement.proofs.moves.Leave.{leave_ready, left_dead, left_on, left_over, next_leave}
use Rattle.theory_refinement.proofs.claims.Runs as runs

-- Leave
leave_retires : (l : Plan) (s : State) (e : Event) → bar l s Leave ≡ None → IsEvent l s Leave e →
    (moved l s Leave).retired ≡ s.retired + counts (is_retirement e) 1
leave_retires l s e b v =
    let r = leave_ready l s (bar_row l s Leave b) in
    rw (next_leave l s r.here r.who r.at_here r.sits) (go l.stages r.here r.who e (v r.here r.who r.at_here r.sits))
  where
    go : (n : ℕ) (c : Cell) (p : Passenger) (e : Event) → IsLeaving p e → (left s n c p).retired ≡ s.retired + counts (is_retirement e) 1
    go n c p (event.Retired shown) w = rw (left_on s n c p w.0 w.1) (omega arith)
    go n c p (event.Ended z) w = rw (left_over s n c p z w.0 w.1) (omega arith)
    go n c p event.Plain w = rw (left_dead s n c p w) (omega arith)
    go n c p event.Killed w = absurd w
    go n c p event.Died w = absurd w

-- no other move retires
on_quiet : {A : Type 0} → (o : Option A) (f : A → Event) → ((a : A) → is_retirement (f a) ≡ false) → is_retirement (on o event.Plain f) ≡ false
on_quiet None f h = refl
on_quiet (Some a) f h = h a

meeting_quiet : (p : Passenger) (k : Packet) → is_retirement (meeting_event p k) ≡ false
meeting_quiet p k = go (not (is_some (meeting p k).packet)) (not p.dead && (meeting p k).passenger.dead)
  where
    go : (a b : Bool) → is_retirement (if a then event.Killed else if b then event.Died else event.Plain) ≡ false
    go true b = refl
    go false true = refl
    go false false = refl

meet_quiet : (o : Option Cell) → is_retirement (on o event.Plain (λ c. on c.passenger event.Plain (λ p. on c.packet event.Plain (meeting_event p)))) ≡ false
meet_quiet o = on_quiet o _ (λ c. on_quiet c.passenger _ (λ p. on_quiet c.packet _ (λ k. meeting_quiet p k)))

quiet : (a b : ℕ) (e : Event) → is_retirement e ≡ false → b ≡ a → b ≡ a + counts (is_retirement e) 1
quiet a b e q h = rw (q, h) (omega arith)

plain : (e : Event) → e ≡ event.Plain → is_retirement e ≡ false
plain e h = rw h refl

-- a move whose event is a retirement counts one, and any other counts none
pub retires_so : (l : Plan) (m : Moment) (mv : Move) (e : Event) → bar l m.state mv ≡ None → IsEvent l m.state mv e →
    (next l m mv).state.retired ≡ m.state.retired + counts (is_retirement e) 1
unfolding next
retires_so l m Leave e b v = leave_retires l m.state e b v
retires_so l m (Meet i) e b v = quiet m.state.retired _ e (ap is_retirement v ∙ meet_quiet (cell_at m.state.cells i)) (runs.meet_counts l m.state i).retired
retires_so l m (Issue g) e b v = quiet m.state.retired _ e (plain e v) (runs.issue_counts l m.state g).retired
retires_so l m Emit e b v = quiet m.state.retired _ e (plain e v) (runs.emit_counts l m.state).retired
retires_so l m (Climb i) e b v = quiet m.state.retired _ e (plain e v) (runs.climb_counts l m.state i).retired
retires_so l m (Fall i) e b v = quiet m.state.retired _ e (plain e v) (runs.fall_counts l m.state i).retired
retires_so l m (Execute i) e b v = quiet m.state.retired _ e (plain e v) (runs.execute_counts l m.state i).retired
retires_so l m (Send i) e b v = quiet m.state.retired _ e (plain e v) (runs.send_counts l m.state i).retired
retires_so l m (Launch i) e b v = quiet m.state.retired _ e (plain e v) (runs.launch_counts l m.state i).retired
retires_so l m (Slide k c) e b v = quiet m.state.retired _ e (plain e v) (runs.slide_counts l m.state k c).retired
retires_so l m Access e b v = quiet m.state.retired _ e (plain e v) (runs.access_counts l m.state).retired
retires_so l m (Recover i) e b v = quiet m.state.retired _ e (plain e v) (runs.recover_counts l m.state i).retired
retires_so l m Exit e b v = quiet m.state.retired _ e (plain e v) (runs.exit_counts l m.state).retired
retires_so l m Serve e b v = quiet m.state.retired _ e (plain e v) (runs.serve_counts l m).retired

-- an Issue is not a retirement
pub issue_quiet : (l : Plan) (s : State) (mv : Move) (e : Event) → is_issue mv ≡ true → IsEvent l s mv e → is_retirement e ≡ false
issue_quiet l s (Issue g) e i v = plain e v
issue_quiet l s Emit e i v = absurd (cc)
issue_quiet l s (Climb j) e i v = absurd (cc)
issue_quiet l s (Fall j) e i v = absurd (cc)
issue_quiet l s (Meet j) e i v = absurd (cc)
issue_quiet l s (Execute j) e i v = absurd (cc)
issue_quiet l s (Send j) e i v = absurd (cc)
issue_quiet l s (Launch j) e i v = absurd (cc)
issue_quiet l s (Slide k c) e i v = absurd (cc)
issue_quiet l s Access e i v = absurd (cc)
issue_quiet l s (Recover j) e i v = absurd (cc)
issue_quiet l s Leave e i v = absurd (cc)
issue_quiet l s Exit e i v = absurd (cc)
issue_quiet l s Serve e i v = absurd (cc)
