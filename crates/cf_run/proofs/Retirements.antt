-- The lines that are shown of retiring instructions are those of the run.
use Rattle.std.proofs.Common.{◌≡◌, ℕ, ◌+◌, List, [], ◌∷◌, ◌++◌, ◌⊎◌, inl, inr, Option, Some, None, true, false, refl, sym, ap, subst, ◌∙◌, arith}
use Rattle.run_options.specs.Reportings as show
use Rattle.rv_inst.proofs.OneWord.{Encodes-inj}
use Rattle.rv_machine.specs.declared.outcome.Retired.{Retired}
use Rattle.cf_layout.specs.Layout.{Plan}
use Rattle.cf_bind.specs.declared.moves.Move.{Move}
use Rattle.cf_bind.specs.declared.moves.Move.TheVariants.{Issue, Emit, Climb, Fall, Meet, Execute, Send, Launch, Slide, Access, Recover, Leave, Exit, Serve}
use Rattle.cf_bind.specs.declared.passenger.End.{End}
use Rattle.cf_bind.specs.declared.passenger.Passenger.{Passenger}
use Rattle.cf_bind.specs.declared.cell.Cell.{Cell}
use Rattle.cf_bind.specs.declared.packet.Packet.{Packet}
use Rattle.cf_semantics.specs.declared.event.Event.{Event}
use Rattle.cf_semantics.specs.declared.event.Event.TheVariants as event
use Rattle.cf_semantics.specs.moves.Bars.{bar}
use Rattle.cf_semantics.specs.moves.Events.{IsEvent, IsLeaving, Shows, meeting_event}
use Rattle.cf_semantics.specs.runs.Lines.{Line, line_of, lines, retired_by, retires}
use Rattle.cf_semantics.specs.moves.Moves.{left, next}
use Rattle.cf_semantics.specs.state.Options.{on}
use Rattle.cf_semantics.specs.state.State.{State, Moment, cell_at}
use Rattle.theory_refinement.proofs.moves.Rows.{bar_row}
use Rattle.theory_refinement.proofs.moves.Leave.{Leaves, leave_ready, next_leave}
use Rattle.theory_refinement.proofs.claims.Runs.{going, access_counts, climb_counts, emit_counts, execute_counts, exit_counts, fall_counts, issue_counts, launch_counts, meet_counts, recover_counts, send_counts, serve_counts, slide_counts}
use Rattle.cf_report.specs.Lines.{retired_line}
use Rattle.cf_run.specs.Made.{Made, moves_of, retirement, shown, all_shown}
use Rattle.cf_run.specs.Going.{IsMade, Leads}
use Rattle.cf_run.specs.Headline.{AreTexts}

-- no instruction retires with the move, and its event is not a retirement
record Keeps (plan : Plan) (m : Moment) (mv : Move) (e : Event) : Type 0 where
  lines : retires plan m.state mv ≡ []
  text : (k : ℕ) → retirement k e ≡ []
  count : (next plan m mv).state.retired ≡ m.state.retired

-- an instruction retires with it, and its event says which
record Retires (plan : Plan) (m : Moment) (mv : Move) (e : Event) : Type 0 where
  line : Line
  shown : Retired
  lines : retires plan m.state mv ≡ line ∷ []
  shows : Shows line shown
  text : (k : ℕ) → retirement k e ≡ retired_line k shown
  count : (next plan m mv).state.retired ≡ m.state.retired + 1
  ending : (next plan m mv).state.ending ≡ m.state.ending

abbrev Tells : Plan → Moment → Move → Event → Type 0
Tells plan m mv e = Keeps plan m mv e ⊎ Retires plan m mv e

-- a move whose event is plain
quiet : (plan : Plan) (m : Moment) (mv : Move) (e : Event) → retires plan m.state mv ≡ [] → (next plan m mv).state.retired ≡ m.state.retired → e ≡ event.Plain →
    Tells plan m mv e
quiet plan m mv e none same plain = inl (record { lines = none; text = λ k. ap (retirement k) plain; count = same })

-- a meeting retires nothing
meets : (k : ℕ) (p : Passenger) (q : Packet) → retirement k (meeting_event p q) ≡ []
meets k p q = grind arith

meets_here : (k : ℕ) (cell : Option Cell) → retirement k (on cell event.Plain (λ c. on c.passenger event.Plain
    (λ p. on c.packet event.Plain (meeting_event p)))) ≡ []
meets_here k None = refl
meets_here k (Some c) = of c.passenger c.packet
  where
    of : (p : Option Passenger) (q : Option Packet) → retirement k (on p event.Plain (λ p. on q event.Plain (meeting_event p))) ≡ []
    of None q = refl
    of (Some p) None = refl
    of (Some p) (Some q) = meets k p q

-- what leaves
left_dead : (s : State) (n : ℕ) (c : Cell) (p : Passenger) → p.dead ≡ true → (left s n c p).retired ≡ s.retired
left_dead s n c p d = rw d refl

left_ended : (s : State) (n : ℕ) (c : Cell) (p : Passenger) (e : End) → p.dead ≡ false → p.ending ≡ Some e → (left s n c p).retired ≡ s.retired
left_ended s n c p e d f = rw (d, f) refl

left_retired : (s : State) (n : ℕ) (c : Cell) (p : Passenger) → p.dead ≡ false → p.ending ≡ None → (left s n c p).retired ≡ s.retired + 1
left_retired s n c p d f = rw (d, f) refl

left_going : (s : State) (n : ℕ) (c : Cell) (p : Passenger) → p.dead ≡ false → p.ending ≡ None → (left s n c p).ending ≡ s.ending
left_going s n c p d f = rw (d, f) refl

leaving : (plan : Plan) (m : Moment) (c : Cell) (p : Passenger) (e : Event) → retires plan m.state Leave ≡ retired_by p →
    (next plan m Leave).state ≡ left m.state plan.stages c p → IsLeaving p e → Tells plan m Leave e
leaving plan m c p (event.Retired shown) lines is h = inr (record {
  line = line_of p;
  shown = shown;
  lines = lines ∙ rw (h.0, h.1) refl;
  shows = h.2;
  text = λ k. refl;
  count = ap (λ (s : State). s.retired) is ∙ left_retired m.state plan.stages c p h.0 h.1;
  ending = ap (λ (s : State). s.ending) is ∙ left_going m.state plan.stages c p h.0 h.1;
})
leaving plan m c p (event.Ended end) lines is h = inl (record {
  lines = lines ∙ rw (h.0, h.1) refl;
  text = λ k. refl;
  count = ap (λ (s : State). s.retired) is ∙ left_ended m.state plan.stages c p end h.0 h.1;
})
leaving plan m c p event.Plain lines is h = inl (record {
  lines = lines ∙ rw h refl;
  text = λ k. refl;
  count = ap (λ (s : State). s.retired) is ∙ left_dead m.state plan.stages c p h;
})
leaving plan m c p event.Killed lines is h = absurd h
leaving plan m c p event.Died lines is h = absurd h

leaves : (plan : Plan) (m : Moment) (e : Event) → bar plan m.state Leave ≡ None → IsEvent plan m.state Leave e → Tells plan m Leave e
unfolding next
leaves plan m e free is =
    let r : Leaves plan m.state = leave_ready plan m.state (bar_row plan m.state Leave free) in
    leaving plan m r.here r.who e (rw (r.at_here, r.sits) refl) (next_leave plan m.state r.here r.who r.at_here r.sits) (is r.here r.who r.at_here r.sits)

-- what an allowed move retires is what its event says
tells : (plan : Plan) (m : Moment) (mv : Move) (e : Event) → bar plan m.state mv ≡ None → IsEvent plan m.state mv e → Tells plan m mv e
unfolding next
tells plan m (Issue g) e free is = quiet plan m (Issue g) e refl (issue_counts plan m.state g).retired is
tells plan m Emit e free is = quiet plan m Emit e refl (emit_counts plan m.state).retired is
tells plan m (Climb i) e free is = quiet plan m (Climb i) e refl (climb_counts plan m.state i).retired is
tells plan m (Fall i) e free is = quiet plan m (Fall i) e refl (fall_counts plan m.state i).retired is
tells plan m (Meet i) e free is = inl (record {
  lines = refl;
  text = λ k. ap (retirement k) is ∙ meets_here k (cell_at m.state.cells i);
  count = (meet_counts plan m.state i).retired;
})
tells plan m (Execute i) e free is = quiet plan m (Execute i) e refl (execute_counts plan m.state i).retired is
tells plan m (Send i) e free is = quiet plan m (Send i) e refl (send_counts plan m.state i).retired is
tells plan m (Launch i) e free is = quiet plan m (Launch i) e refl (launch_counts plan m.state i).retired is
tells plan m (Slide k c) e free is = quiet plan m (Slide k c) e refl (slide_counts plan m.state k c).retired is
tells plan m Access e free is = quiet plan m Access e refl (access_counts plan m.state).retired is
tells plan m (Recover i) e free is = quiet plan m (Recover i) e refl (recover_counts plan m.state i).retired is
tells plan m Leave e free is = leaves plan m e free is
tells plan m Exit e free is = quiet plan m Exit e refl (exit_counts plan m.state).retired is
tells plan m Serve e free is = quiet plan m Serve e refl (serve_counts plan m).retired is

-- a move that ends the program retires nothing
pub ended-kept : (plan : Plan) (m : Moment) (mv : Move) (e : Event) (end : End) → bar plan m.state mv ≡ None → IsEvent plan m.state mv e →
    (next plan m mv).state.ending ≡ Some end → (next plan m mv).state.retired ≡ m.state.retired
ended-kept plan m mv e end free is ended = of (tells plan m mv e free is)
  where
    of : Tells plan m mv e → (next plan m mv).state.retired ≡ m.state.retired
    of (inl h) = h.count
    of (inr h) = absurd (let none : Some end ≡ None = sym ended ∙ h.ending ∙ going plan m.state mv free in cc)

-- the texts of a move's lines and of those after it
joined : (plan : Plan) (m : Moment) (mv : Move) (e : Event) (k : ℕ) (more : List Line) (text : List ℕ) → Tells plan m mv e →
    k ≡ (next plan m mv).state.retired → AreTexts ((next plan m mv).state.retired + 1) more text
    → AreTexts (m.state.retired + 1) (retires plan m.state mv ++ more) (retirement k e ++ text)
joined plan m mv e k more text (inl h) same texts =
    rw (h.lines, h.text k) (subst (λ (n : ℕ). AreTexts (n + 1) more text) h.count texts)
joined plan m mv e k more text (inr h) same texts =
    let number : k ≡ m.state.retired + 1 = same ∙ h.count in
    rw (h.lines, h.text k, number) (h.shown, text, h.shows, refl, subst (λ (n : ℕ). AreTexts (n + 1) more text) h.count texts)

-- the same for a move that was made
pub made-texts : (plan : Plan) (limit : ℕ) (m : Moment) (made : Made) (more : List Line) (text : List ℕ) → IsMade plan limit m made →
    AreTexts ((next plan m made.move).state.retired + 1) more text
    → AreTexts (m.state.retired + 1) (retires plan m.state made.move ++ more) (retirement made.state.retired made.event ++ text)
made-texts plan limit m made more text is texts =
    joined plan m made.move made.event made.state.retired more text (tells plan m made.move made.event is.allowed is.event)
    (ap (λ (s : State). s.retired) is.state) texts

-- if retirements are shown, what is shown of the moves is a text of the lines of the run
pub shown-lines : (plan : Plan) (limit : ℕ) (told : List ℕ) (m : Moment) (n : ℕ) (trace : List Made) (last : Moment) →
    Leads plan limit (Some told) m trace last → AreTexts (m.state.retired + 1) (lines plan m (moves_of trace)) (all_shown show.retired plan n trace)
unfolding Leads lines all_shown shown next
shown-lines plan limit told m n [] last h = refl
shown-lines plan limit told m n (made ∷ trace) last (rest, same, is, h) =
    let t : Moment = next plan (record m { rest = rest }) made.move in
    let later : AreTexts (t.state.retired + 1) (lines plan t (moves_of trace)) (all_shown show.retired plan (n + 1) trace) =
    shown-lines plan limit told t (n + 1) trace last h in
    let P : List ℕ → Type 0 = λ r. AreTexts (m.state.retired + 1) (retires plan m.state made.move
    ++ lines plan (next plan (record m { rest = r }) made.move) (moves_of trace)) (retirement made.state.retired made.event
    ++ all_shown show.retired plan (n + 1) trace) in
    let here : P rest = made-texts plan limit (record m { rest = rest }) made (lines plan t (moves_of trace))
    (all_shown show.retired plan (n + 1) trace) is later in
    subst P same here

-- a line is shown in one way
shown_once : (line : Line) (a b : Retired) → Shows line a → Shows line b → a ≡ b
shown_once line a b h k =
    let pc : a.pc ≡ b.pc = h.pc ∙ sym k.pc in
    let word : a.word ≡ b.word = Encodes-inj a.word b.word line.what h.is_word k.is_word h.word k.word in
    let register : a.reg ≡ b.reg = h.register ∙ sym k.register in
    let value : a.value ≡ b.value = h.value ∙ sym k.value in
    ap (λ (n : ℕ). record a { pc = n }) pc
    ∙ ap (λ (n : ℕ). record a { pc = b.pc; word = n }) word
    ∙ ap (λ (n : ℕ). record { pc = b.pc; word = b.word; reg = n; value = a.value }) register
    ∙ ap (λ (n : ℕ). record { pc = b.pc; word = b.word; reg = b.reg; value = n }) value

-- so the text of some lines is unique
pub one-text : (n : ℕ) (written : List Line) (a b : List ℕ) → AreTexts n written a → AreTexts n written b → a ≡ b
one-text n [] a b h k = h ∙ sym k
one-text n (line ∷ more) a b (shown, later, shows, is, rest) (other, after, tells, same, left) =
    is ∙ ap (λ (r : Retired). retired_line n r ++ later) (shown_once line shown other shows tells)
    ∙ ap (λ (text : List ℕ). retired_line n other ++ text) (one-text (n + 1) more later after rest left) ∙ sym same
