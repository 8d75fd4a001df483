-- Each move keeps the shape of a state.
use Rattle.std.proofs.Common.{◌≡◌, ℕ, zero, suc, ◌+◌, ◌-◌, List, [], ◌∷◌, All, length, map, Option, Some, None, Bool, true, false, refl, ap, subst, ◌∙◌}
use Rattle.std.specs.Prelude.{slice_get, slice_set, slice_index, IfSome, if◌then◌else◌}
use Rattle.std.proofs.lemmas.List.{length-set, length-replicate}
use Rattle.std.proofs.lemmas.List.Elements.{All-set, All-replicate}
use Rattle.std.proofs.lemmas.Option.{slice_get_within, get_or_from_slice_get}
use Rattle.rv_inst.specs.Ranges.{Fits}
use Rattle.rv_machine.specs.Call.{Called}
use Rattle.rv_machine.specs.Call as called
use Rattle.rv_machine.specs.Machine.{Machine}
use Rattle.cf_layout.specs.Layout.{Plan, SidingPlan, siding_of}
use Rattle.cf_bind.specs.declared.cell.Cell.{Cell}
use Rattle.cf_bind.specs.declared.cell.Op.{Op}
use Rattle.cf_bind.specs.declared.moves.Move.{Move}
use Rattle.cf_bind.specs.declared.moves.Move.TheVariants.{Issue, Emit, Climb, Fall, Meet, Execute, Send, Launch, Slide, Access, Recover, Leave, Exit, Serve}
use Rattle.cf_bind.specs.declared.packet.Packet.TheVariants.{Value}
use Rattle.cf_bind.specs.declared.passenger.End.{End}
use Rattle.cf_bind.specs.declared.passenger.End.TheVariants as ending
use Rattle.cf_bind.specs.declared.passenger.Guess.{Guess}
use Rattle.cf_bind.specs.declared.passenger.Passenger.{Passenger}
use Rattle.cf_semantics.specs.moves.Bars.{last_op, running}
use Rattle.cf_semantics.specs.moves.Instructions.{fetched, serve_of}
use Rattle.cf_semantics.specs.moves.Moves.{accessed, answered, asked, back_in, climbed, emitted, exited, fallen, issued, launch_trap, launched, left_live, moved, next, sent, served, set_last, with_passenger, without_passenger, without_packet}
use Rattle.cf_semantics.specs.runs.Lines.{Line, line_of}
use Rattle.cf_semantics.specs.runs.Runs.{empty_cell, empty_siding, opened, start}
use Rattle.cf_semantics.specs.state.Layouts.{isa_of, port}
use Rattle.cf_semantics.specs.state.Options.{on}
use Rattle.cf_semantics.specs.state.Passengers.{finish, fresh, instruction, kind, trapped}
use Rattle.cf_semantics.specs.state.State.{State, Moment, cell_at, put_cell, siding_at, with_cell}
use Rattle.order_rules.specs.declared.rule.Rule.{Rule}
use Rattle.order_model.specs.RuleMoves.{answer_without, cell_met_without, leaving_without, left_without, line_without, meeting_without, moved_without, next_without, recovered_without, retires_without, sources_without}
use Rattle.order_claims.specs.MoveLists.{moment_after_without}
use Rattle.order_shapes.specs.Shapes.{AreShaped, HoldsEncodable, IsEncodable, IsShaped, KeepsShape, RetiresEncodable}
use Rattle.order_shapes.proofs.SameInstruction.{finish_same, fresh_encodable, instruction_fits, leaving_same, met_same, recovers_same, still_encodable}

-- a stage with other contents
put : (plan : Plan) (cells : List Cell) (sidings : List (List (Option Op))) (i : ℕ) (c : Cell) → HoldsEncodable c → AreShaped plan cells sidings →
    AreShaped plan (put_cell cells i c) sidings
put plan cells sidings zero c p h = h
put plan cells sidings (suc k) c p h =
    record { stages = length-set cells k c ∙ h.stages; as_long = h.as_long; riders = All-set HoldsEncodable cells k c p h.riders }

-- a siding with other contents, of the same length
lengths_set : (sidings : List (List (Option Op))) (k : ℕ) (ops : List (Option Op)) → length ops ≡ length (on (slice_get sidings k) [] (λ os. os)) →
    map length (slice_set sidings k ops) ≡ map length sidings
lengths_set [] k ops e = refl
lengths_set (o ∷ os) zero ops e = ap (λ (n : ℕ). n ∷ map length os) e
lengths_set (o ∷ os) (suc k) ops e = ap (λ (ns : List ℕ). length o ∷ ns) (lengths_set os k ops e)

put_ops : (plan : Plan) (cells : List Cell) (sidings : List (List (Option Op))) (k : ℕ) (ops : List (Option Op)) →
    length ops ≡ length (on (slice_get sidings k) [] (λ os. os)) → AreShaped plan cells sidings → AreShaped plan cells (slice_set sidings k ops)
put_ops plan cells sidings k ops e h =
    record { stages = h.stages; as_long = lengths_set sidings k ops e ∙ h.as_long; riders = h.riders }

last_length : (ops : List (Option Op)) (o : Option Op) → length (set_last ops o) ≡ length ops
last_length [] o = refl
last_length (p ∷ []) o = refl
last_length (p ∷ q ∷ ops) o = ap suc (last_length (q ∷ ops) o)

-- the contents of a stage
stage_in : (cells : List Cell) (i : ℕ) (c : Cell) → All HoldsEncodable cells → cell_at cells i ≡ Some c → HoldsEncodable c
stage_in cells zero c h e = absurd (cc)
stage_in cells (suc i) c h e = subst HoldsEncodable (get_or_from_slice_get cells i c c e) (h i c (slice_get_within cells i c e))

rider_in : (c : Cell) (p : Passenger) → HoldsEncodable c → c.passenger ≡ Some p → IsEncodable p
rider_in c p h e = subst (λ (o : Option Passenger). IfSome o IsEncodable) e h

-- the state that a choice leads to has the shape if it has it in both cases
chosen : {A : Type 0} (plan : Plan) (o : Option A) (d : State) (f : A → State) → IsShaped plan d → ((a : A) → o ≡ Some a → IsShaped plan (f a)) →
    IsShaped plan (on o d f)
chosen plan None d f h k = h
chosen plan (Some a) d f h k = k a refl

-- an instruction that leaves changes only the registers, the count and the ending
either : (plan : Plan) (b : Bool) (s t : State) → IsShaped plan s → IsShaped plan t → IsShaped plan (if b then s else t)
either plan true s t h k = h
either plan false s t h k = k

leaving : (plan : Plan) (t : State) (p : Passenger) → IsShaped plan t → IsShaped plan (if p.dead then t else left_live t p)
leaving plan t p h = either plan p.dead t (left_live t p) h (chosen plan p.ending _ _ h (λ e is. h))

module _ (plan : Plan) (s : State) (h : IsShaped plan s) where
  -- for a stage, and for a stage and its instruction
  at_stage : (i : ℕ) (f : Cell → State) → ((c : Cell) → HoldsEncodable c → IsShaped plan (f c)) → IsShaped plan (on (cell_at s.cells i) s f)
  at_stage i f k = chosen plan (cell_at s.cells i) s f h (λ c there. k c (stage_in s.cells i c h.riders there))

  at_rider : (i : ℕ) (f : Cell → Passenger → State) → ((c : Cell) (p : Passenger) → HoldsEncodable c → IsEncodable p → IsShaped plan (f c p)) →
      IsShaped plan (on (cell_at s.cells i) s (λ c. on c.passenger s (f c)))
  at_rider i f k = at_stage i (λ c. on c.passenger s (f c)) (λ c holds. chosen plan c.passenger s (f c) h (λ p sits. k c p holds (rider_in c p holds sits)))

  -- the stage with other contents
  stage_put : (i : ℕ) (c : Cell) → HoldsEncodable c → IsShaped plan (with_cell s i c)
  stage_put i c p = put plan s.cells s.sidings i c p h

  issue_shaped : (g : Guess) → IsShaped plan (moved plan s (Issue g))
  unfolding moved
  issue_shaped g = at_stage 1 (λ c. on (running s.fetch) s (issued plan s g c))
      (λ c holds. chosen plan (running s.fetch) s (issued plan s g c) h
      (λ pc runs. stage_put 1 (record c { passenger = Some (fresh s.cache (fetched (isa_of plan) s.mem pc) pc g); met = false })
      (fresh_encodable (isa_of plan) s.cache s.mem pc g)))

  emitting : (n : ℕ) (lane : List ℕ) (c : Cell) → HoldsEncodable c → IsShaped plan (emitted s n lane c)
  emitting n [] c holds = h
  emitting n (r ∷ lane) c holds = stage_put n (record c { packet = Some (Value r (slice_index s.regs r)); met = false }) holds

  emit_shaped : IsShaped plan (moved plan s Emit)
  unfolding moved
  emit_shaped = at_stage plan.stages (emitted s plan.stages s.lane) (λ c holds. emitting plan.stages s.lane c holds)

  climb_shaped : (i : ℕ) → IsShaped plan (moved plan s (Climb i))
  unfolding moved
  climb_shaped i = at_stage i (λ c. on (cell_at s.cells (i + 1)) s (climbed s i c))
      (λ c low. at_stage (i + 1) (climbed s i c) (λ d high. put plan (put_cell s.cells i (without_passenger c)) s.sidings (i + 1)
      (record d { passenger = c.passenger; met = false }) low (stage_put i (without_passenger c) tt)))

  fall_shaped : (i : ℕ) → IsShaped plan (moved plan s (Fall i))
  unfolding moved
  fall_shaped i = at_stage i (λ c. on (cell_at s.cells (i - 1)) s (fallen s i c))
      (λ c high. at_stage (i - 1) (fallen s i c) (λ d low. put plan (put_cell s.cells i (without_packet c)) s.sidings (i - 1)
      (record d { packet = c.packet; met = false }) low (stage_put i (without_packet c) high)))

  meet_shaped : (away : Option Rule) (i : ℕ) → IsShaped plan (moved_without away plan s (Meet i))
  unfolding moved_without
  meet_shaped away i = at_rider i (λ c p. on c.packet s (λ k. with_cell s i (cell_met_without away c p k)))
      (λ c p holds fits. chosen plan c.packet s (λ k. with_cell s i (cell_met_without away c p k)) h
      (λ k lies. stage_put i (cell_met_without away c p k) (still_encodable p (meeting_without away p k).passenger (met_same away p k) fits)))

  execute_shaped : (i : ℕ) → IsShaped plan (moved plan s (Execute i))
  unfolding moved
  execute_shaped i = at_rider i (λ c p. with_cell s i (with_passenger c (finish p None)))
      (λ c p holds fits. stage_put i (with_passenger c (finish p None)) (still_encodable p (finish p None) (finish_same p None) fits))

  send_shaped : (i : ℕ) → IsShaped plan (moved plan s (Send i))
  unfolding moved
  send_shaped i = at_rider i (λ c p. with_cell s i (sent p)) (λ c p holds fits. stage_put i (sent p) fits)

  launching : (i : ℕ) (c : Cell) (p : Passenger) → IsEncodable p → IsShaped plan (launched plan s i c p)
  launching i c p fits = chosen plan (launch_trap s p) _ _
      (chosen plan (siding_of plan (kind p)) s _ h
      (λ k is. put_ops plan (put_cell s.cells i (with_passenger c (record p { launched = true }))) s.sidings k (slice_set (siding_at s k) 0 _)
      (length-set (siding_at s k) 0 _) (stage_put i (with_passenger c (record p { launched = true })) fits)))
      (λ e is. stage_put i (with_passenger c (trapped p e)) fits)

  launch_shaped : (i : ℕ) → IsShaped plan (moved plan s (Launch i))
  unfolding moved
  launch_shaped i = at_rider i (launched plan s i) (λ c p holds fits. launching i c p fits)

  slide_shaped : (k c : ℕ) → IsShaped plan (moved plan s (Slide k c))
  unfolding moved
  slide_shaped k c = chosen plan (slice_get (siding_at s k) c) s _ h
      (λ o is. put_ops plan s.cells s.sidings k (slice_set (slice_set (siding_at s k) c None) (c + 1) o)
      (length-set (slice_set (siding_at s k) c None) (c + 1) o ∙ length-set (siding_at s k) c None) h)

  access_shaped : IsShaped plan (moved plan s Access)
  unfolding moved
  access_shaped = chosen plan (last_op (siding_at s (port plan))) s (accessed plan s) h
      (λ op is. put_ops plan s.cells s.sidings (port plan) _ (last_length (siding_at s (port plan)) _) h)

  recovering : (away : Option Rule) (i : ℕ) (c : Cell) (p : Passenger) → IsEncodable p → IsShaped plan (recovered_without away plan s i c p)
  recovering away i c p fits = chosen plan (siding_of plan (kind p)) s _ h
      (λ k is. chosen plan (last_op (siding_at s k)) s _ h
      (λ op lies. put_ops plan (put_cell s.cells i _) s.sidings k _ (last_length (siding_at s k) None)
      (stage_put i _ (still_encodable p (back_in (sources_without away p op) (answer_without away p op)) (recovers_same away p op) fits))))

  recover_shaped : (away : Option Rule) (i : ℕ) → IsShaped plan (moved_without away plan s (Recover i))
  unfolding moved_without
  recover_shaped away i = at_rider i (recovered_without away plan s i) (λ c p holds fits. recovering away i c p fits)

  leave_shaped : (away : Option Rule) → IsShaped plan (moved_without away plan s Leave)
  unfolding moved_without
  leave_shaped away = at_rider plan.stages (left_without away s plan.stages)
      (λ c p holds fits. leaving plan (with_cell s plan.stages (without_passenger c)) (leaving_without away p) (stage_put plan.stages (without_passenger c) tt))

  exit_shaped : IsShaped plan (moved plan s Exit)
  unfolding moved
  exit_shaped = at_stage 1 (exited plan s) (λ c holds. chosen plan c.packet s _ h (λ k lies. stage_put 1 (without_packet c) holds))

-- the same for a moment
chosen_moment : {A : Type 0} (plan : Plan) (o : Option A) (d : Moment) (f : A → Moment) → IsShaped plan d.state →
    ((a : A) → o ≡ Some a → IsShaped plan (f a).state) → IsShaped plan (on o d f).state
chosen_moment plan None d f h k = h
chosen_moment plan (Some a) d f h k = k a refl

serving : (plan : Plan) (m : Moment) (n : ℕ) (c : Cell) (p : Passenger) (o : Called) → IsShaped plan m.state → IsEncodable p →
    IsShaped plan (served m n c p o).state
serving plan m n c p (called.Value a) h fits = put plan m.state.cells m.state.sidings n (with_passenger c (answered p a.value)) fits h
serving plan m n c p (called.Exit status) h fits =
    put plan m.state.cells m.state.sidings n (with_passenger c (record p { done = true; ending = Some (ending.Exit status) })) fits h

serve_shaped : (plan : Plan) (m : Moment) → IsShaped plan m.state → IsShaped plan (next plan m Serve).state
unfolding next
serve_shaped plan m h = chosen_moment plan (cell_at m.state.cells plan.stages) m (λ c. on c.passenger m (asked m plan.stages c)) h
    (λ c there. chosen_moment plan c.passenger m (asked m plan.stages c) h
    (λ p sits. serving plan m plan.stages c p (serve_of (instruction p) m.state.regs m.state.mem m.rest) h
    (rider_in c p (stage_in m.state.cells plan.stages c h.riders there) sits)))

-- each move
move_shaped : (away : Option Rule) (plan : Plan) (m : Moment) (mv : Move) → IsShaped plan m.state → IsShaped plan (next_without away plan m mv).state
unfolding next_without next
move_shaped away plan m (Issue g) h = issue_shaped plan m.state h g
move_shaped away plan m Emit h = emit_shaped plan m.state h
move_shaped away plan m (Climb i) h = climb_shaped plan m.state h i
move_shaped away plan m (Fall i) h = fall_shaped plan m.state h i
move_shaped away plan m (Meet i) h = meet_shaped plan m.state h away i
move_shaped away plan m (Execute i) h = execute_shaped plan m.state h i
move_shaped away plan m (Send i) h = send_shaped plan m.state h i
move_shaped away plan m (Launch i) h = launch_shaped plan m.state h i
move_shaped away plan m (Slide k c) h = slide_shaped plan m.state h k c
move_shaped away plan m Access h = access_shaped plan m.state h
move_shaped away plan m (Recover i) h = recover_shaped plan m.state h away i
move_shaped away plan m Leave h = leave_shaped plan m.state h away
move_shaped away plan m Exit h = exit_shaped plan m.state h
move_shaped away plan m Serve h = serve_shaped plan m h

-- the start, and what moves lead to
empty_sidings : (sidings : List SidingPlan) → map length (map empty_siding sidings) ≡ map (λ siding. siding.cells) sidings
empty_sidings [] = refl
empty_sidings (k ∷ ks) = ap (λ (n : ℕ). n ∷ map length (map empty_siding ks)) (length-replicate k.cells None)
    ∙ ap (λ (ns : List ℕ). k.cells ∷ ns) (empty_sidings ks)

start_shaped : (plan : Plan) (x : Machine) → IsShaped plan (start plan x).state
unfolding opened
start_shaped plan x = record {
  stages = length-replicate plan.stages empty_cell;
  as_long = empty_sidings plan.sidings;
  riders = All-replicate HoldsEncodable plan.stages empty_cell tt;
}

moves_shaped : (away : Option Rule) (plan : Plan) (m : Moment) (moves : List Move) → IsShaped plan m.state →
    IsShaped plan (moment_after_without away plan m moves).state
unfolding moment_after_without
moves_shaped away plan m [] h = h
moves_shaped away plan m (mv ∷ moves) h = moves_shaped away plan (next_without away plan m mv) moves (move_shaped away plan m mv h)

pub all_shaped : KeepsShape
all_shaped away plan x moves = moves_shaped away plan (start plan x) moves (start_shaped plan x)

-- what retires
some_line : {A : Type 0} (o : Option A) (f : A → Option Line) → ((a : A) → o ≡ Some a → IfSome (f a) (λ line. Fits line.what)) →
    IfSome (on o None f) (λ line. Fits line.what)
some_line None f k = tt
some_line (Some a) f k = k a refl

line_fits : (away : Option Rule) (p : Passenger) → IsEncodable p → IfSome (line_without away p) (λ line. Fits line.what)
line_fits away p fits = by p.dead
  where
    of : (o : Option End) → IfSome (on o (Some (line_of (leaving_without away p))) (λ e. None)) (λ line. Fits line.what)
    of None = instruction_fits (leaving_without away p).what (still_encodable p (leaving_without away p) (leaving_same away p) fits)
    of (Some e) = tt

    by : (b : Bool) → IfSome (if b then None else on p.ending (Some (line_of (leaving_without away p))) (λ e. None)) (λ line. Fits line.what)
    by true = tt
    by false = of p.ending

pub retires_encodable : RetiresEncodable
unfolding retires_without
retires_encodable away plan s Leave h = some_line (cell_at s.cells plan.stages) _
    (λ c there. some_line c.passenger (line_without away)
    (λ p sits. line_fits away p (rider_in c p (stage_in s.cells plan.stages c h.riders there) sits)))
retires_encodable away plan s (Issue g) h = tt
retires_encodable away plan s Emit h = tt
retires_encodable away plan s (Climb i) h = tt
retires_encodable away plan s (Fall i) h = tt
retires_encodable away plan s (Meet i) h = tt
retires_encodable away plan s (Execute i) h = tt
retires_encodable away plan s (Send i) h = tt
retires_encodable away plan s (Launch i) h = tt
retires_encodable away plan s (Slide k c) h = tt
retires_encodable away plan s Access h = tt
retires_encodable away plan s (Recover i) h = tt
retires_encodable away plan s Exit h = tt
retires_encodable away plan s Serve h = tt

pub ruleset shapes = (all_shaped, retires_encodable)
