-- The words that are kept are those of the state after a move, made or failed.
use Rattle.std.proofs.Common.{◌≡◌, ◌∙◌, ℕ, [], Bool, Option, Some, None, Result, Ok, Err, refl, sym, ap, subst}
use Rattle.cf_bind.specs.declared.cell.Cell.{Cell}
use Rattle.cf_bind.specs.declared.moves.Move.{Move}
use Rattle.cf_bind.specs.declared.moves.Move.TheVariants.{Serve}
use Rattle.cf_bind.specs.declared.passenger.Passenger.{Passenger}
use Rattle.cf_layout.specs.Layout.{Plan}
use Rattle.cf_semantics.specs.moves.Bars.{bar, row_bar}
use Rattle.cf_semantics.specs.declared.event.Event.{Event}
use Rattle.cf_semantics.specs.moves.Instructions.{serve_of}
use Rattle.cf_semantics.specs.moves.Moves.{next, moved, served, with_passenger}
use Rattle.cf_semantics.specs.moves.Moves as moves
use Rattle.cf_semantics.specs.state.Options.{on}
use Rattle.cf_semantics.specs.state.Passengers.{instruction}
use Rattle.cf_semantics.specs.state.State.{Moment, State, cell_at, with_cell}
use Rattle.cf_stages.proofs.Bits.{word-agrees}
use Rattle.rv_machine.specs.Call.{Called, Value, Exit}
use Rattle.rv_machine.specs.Streams.{Streams}
use Rattle.cf_core.specs.Marks.{Within, mark_at, marks_of, remarked, touched}
use Rattle.cf_core.specs.Processors.{Processor, IsProcessor}
use Rattle.cf_core.specs.Stepping.{MakesOrFails}
use Rattle.cf_core.specs.declared.fault.Fault.{Fault}
use Rattle.cf_core.specs.declared.fault.Fault.TheVariants as fault
use Rattle.cf_core.specs.declared.marks.StageMark.{StageMark}
use Rattle.cf_core.specs.declared.marks.Marks.{Marks}
use Rattle.cf_core.specs.declared.touching.Touched.{Touched}
use Rattle.cf_core.proofs.Bits.{SameBut, marks-two}
use Rattle.cf_core.proofs.SameStages.{Same}
use Rattle.cf_core.proofs.moves.KeptServe.{unbarred}
use Rattle.cf_core.proofs.SameMarks.{cell-but, rest-but}
use Rattle.cf_core.proofs.Sites.{touched-within}
use Rattle.cf_core.proofs.Steps.{next_moved}
use Rattle.cf_core.proofs.Touched.{moved-but}

-- what the environment answers changes only the highest stage
served_but : (plan : Plan) (m : Moment) (n : ℕ) (c : Cell) (p : Passenger) (o : Called) → SameBut plan m.state (served m n c p o).state n n
served_but plan m n c p (Value a) k off far =
    let t = with_cell m.state n (with_passenger c (moves.answered p a.value)) in
    rest-but plan t (served m n c p (Value a)).state n n refl refl k off far ∙ cell-but plan m.state n n (with_passenger c (moves.answered p a.value)) k off far
served_but plan m n c p (Exit status) k off far = cell-but plan m.state n n _ k off far

moment_but : {A : Type 0} (plan : Plan) (o : Option A) (m : Moment) (n : ℕ) (f : A → Moment) → ((a : A) → SameBut plan m.state (f a).state n n) →
    SameBut plan m.state (on o m f).state n n
moment_but plan None m n f same k off far = refl
moment_but plan (Some a) m n f same k off far = same a k off far

serve_but : (plan : Plan) (m : Moment) → SameBut plan m.state (next plan m Serve).state plan.stages plan.stages
unfolding next
serve_but plan m =
    moment_but plan (cell_at m.state.cells plan.stages) m plan.stages _ (λ c. moment_but plan c.passenger m plan.stages _ (λ p.
    served_but plan m plan.stages c p (serve_of (instruction p) m.state.regs m.state.mem m.rest)))

next_but : (plan : Plan) (m : Moment) (mv : Move) → row_bar plan m.state mv ≡ None → SameBut plan m.state (next plan m mv).state (touched plan m.state mv).low
    (touched plan m.state mv).high
unfolding touched
next_but plan m Serve free = serve_but plan m
next_but plan m mv free = subst (λ (q : Moment). SameBut plan m.state q.state (touched plan m.state mv).low (touched plan m.state mv).high)
    (sym (next_moved plan m mv (λ e. absurd (cc)))) (moved-but plan m.state mv free)

made_but : (old new : Processor) (mv : Move) (before after : Streams) (r : Result Event Fault) → row_bar old.plan old.state mv ≡ None →
    MakesOrFails old new mv before after r →
    SameBut old.plan old.state new.state (touched old.plan old.state mv).low (touched old.plan old.state mv).high
unfolding MakesOrFails
made_but old new mv before after (Ok e) free h =
    let m : Moment = record { state = old.state; rest = h.0.rest; output = [] } in
    subst (λ (q : Moment). SameBut old.plan old.state q.state (touched old.plan old.state mv).low (touched old.plan old.state mv).high) h.0.is
    (next_but old.plan m mv free)
made_but old new mv before after (Err fault.Read) free h = rest-but old.plan old.state new.state _ _ (ap (λ (p : Processor). p.state.cells) h.1.processor)
    (ap (λ (p : Processor). p.state.sidings) h.1.processor)
made_but old new mv before after (Err fault.Write) free h = rest-but old.plan old.state new.state _ _ (ap (λ (p : Processor). p.state.cells) h.1.processor)
    (ap (λ (p : Processor). p.state.sidings) h.1.processor)

pub same-plan : (old new : Processor) (mv : Move) (before after : Streams) (r : Result Event Fault) → MakesOrFails old new mv before after r →
    new.plan ≡ old.plan
unfolding MakesOrFails
same-plan old new mv before after (Ok e) h = h.0.plan
same-plan old new mv before after (Err fault.Read) h = ap (λ (p : Processor). p.plan) h.1.processor
same-plan old new mv before after (Err fault.Write) h = ap (λ (p : Processor). p.plan) h.1.processor

pub made-marks : (old new : Processor) (marks : Marks) (mv : Move) (before after : Streams) (r : Result Event Fault) (t : Touched) →
    IsProcessor old.plan old.state → bar old.plan old.state mv ≡ None → MakesOrFails old new mv before after r → marks ≡ marks_of old.plan old.state →
    t ≡ touched old.plan old.state mv → remarked new.plan new.state marks t ≡ marks_of new.plan new.state
made-marks old new marks mv before after r t h free made is touches =
    let row = unbarred old.plan old.state mv free in
    let w = touched-within old.plan old.state mv h row in
    let same = same-plan old new mv before after r made in
    let at = touched old.plan old.state mv in
    let two = marks-two old.plan old.state new.state at.low at.high h.accepted.stages.1 w.low w.low_in w.high w.high_in
    (made_but old new mv before after r row made) in
    rw (is, touches, same) (sym two)

pub made-within : (old new : Processor) (mv : Move) (before after : Streams) (r : Result Event Fault) (t : Touched) → IsProcessor old.plan old.state →
    bar old.plan old.state mv ≡ None → MakesOrFails old new mv before after r → t ≡ touched old.plan old.state mv → Within new.plan t
made-within old new mv before after r t h free made touches =
    rw (touches, same-plan old new mv before after r made) (touched-within old.plan old.state mv h (unbarred old.plan old.state mv free))

-- The words of a state for whose stages the same holds --

pub marks-same : (plan : Plan) (s t : State) → Same plan s t → marks_of plan s ≡ marks_of plan t
unfolding marks_of
marks-same plan s t same =
    let word = λ (field : StageMark → Bool). word-agrees (λ k. field (mark_at plan s k)) (λ k. field (mark_at plan t k)) plan.stages
    (λ k low high. sym (ap field (same k))) in
    let owes = word (λ m. m.owes) in
    let stops = word (λ m. m.stops) in
    let execute = word (λ m. m.execute) in
    let launch = word (λ m. m.launch) in
    let recover = word (λ m. m.recover) in
    λ x. record { owes = owes x; stops = stops x; execute = execute x; launch = launch x; recover = recover x }
