-- Each move that the table without a rule allows lowers the weight, except Issue.
use Rattle.std.proofs.Common.{◌≡◌, ℕ, suc, ◌+◌, ◌-◌, ◌*◌, ◌<◌, ◌≤◌, List, [], ◌∷◌, Option, Some, None, Bool, true, false, cond, refl, sym, ap, subst, ◌∙◌, arith, length}
use Rattle.std.specs.Prelude.{slice_get, slice_set, slice_index, not, ◌==◌, ◌||◌}
use Rattle.std.proofs.lemmas.List.{length-set}
use Rattle.mem_regions.specs.Memory.{Memory}
use Rattle.rv_machine.specs.Call.{Called}
use Rattle.rv_machine.specs.Call as called
use Rattle.cf_layout.specs.Layout.{Plan, siding_of, launch_stage}
use Rattle.cf_bind.specs.declared.cell.Cell.{Cell}
use Rattle.cf_bind.specs.declared.cell.Op.{Op}
use Rattle.cf_bind.specs.declared.moves.Bar.{Bar}
use Rattle.cf_bind.specs.declared.moves.Bar.TheVariants.{NoSuchSite, NoPassenger, NoPacket, Occupied, NotMet, AlreadyMet, NoUnit, NotDone, Owes, OwesNothing, OpNotThere, FetchWaiting, Dead, AlreadyDone, Halted, Failed}
use Rattle.cf_bind.specs.declared.moves.Move.{Move}
use Rattle.cf_bind.specs.declared.moves.Move.TheVariants.{Issue, Emit, Climb, Fall, Meet, Execute, Send, Launch, Slide, Access, Recover, Leave, Exit, Serve}
use Rattle.cf_bind.specs.declared.packet.Packet.{Packet}
use Rattle.cf_bind.specs.declared.packet.Packet.TheVariants.{Value}
use Rattle.cf_bind.specs.declared.passenger.End.{End}
use Rattle.cf_bind.specs.declared.passenger.End.TheVariants as ending
use Rattle.cf_bind.specs.declared.passenger.Guess.{Guess}
use Rattle.cf_bind.specs.declared.passenger.Passenger.{Passenger}
use Rattle.cf_semantics.specs.claims.Weight.{counts, is_issue}
use Rattle.cf_semantics.specs.moves.Bars.{emit_bar, first, cell_is_taken, last_op, meet_bar, running, send_bar}
use Rattle.cf_semantics.specs.moves.Instructions.{fetched, serve_of}
use Rattle.cf_semantics.specs.moves.Moves.{accessed, answered, asked, back_in, climbed, emitted, exited, fallen, issued, launch_trap, launched, left_live, moved, next, operation, sent, served, set_last, with_passenger, without_packet, without_passenger, written}
use Rattle.cf_semantics.specs.state.Layouts.{isa_of, launches, port}
use Rattle.cf_semantics.specs.state.Options.{on, is_some}
use Rattle.cf_semantics.specs.state.Passengers.{finish, finished, fresh, instruction, kind, missing, requests, trapped, with_value}
use Rattle.cf_semantics.specs.state.State.{State, Moment, cell_at, siding_at, with_cell, with_siding}
use Rattle.theory_confluence.proofs.sites.Touches.{cell_other}
use Rattle.order_rules.specs.declared.rule.Rule.{Rule}
use Rattle.order_model.specs.RuleBars.{bar_without, climb_bar_without, execute_bar_without, exit_bar_without, fall_bar_without, issue_bar_without, launch_bar_without, leave_bar_without, recover_bar_without, row_bar_without, serve_bar_without}
use Rattle.order_model.specs.RuleMoves.{answer_without, cell_met_without, left_without, leaving_without, moved_without, next_without, recovered_without, sources_without}
use Rattle.order_claims.proofs.ending.OrderWeight.{stage_weight, flight_weight, flights_weight, lane_weight, order_weight, AreShort, issue_weight}
use Rattle.order_claims.proofs.ending.Weights.{asked_weight, entering, lane_behind, last_put, last_size, put_size, put_stage, siding_short, sliding, stage_number}
use Rattle.order_claims.proofs.ending.Lowers.{Lowers, alike_lowers, both_lower, climb_stages, emit_stage, exit_stage, fall_stages, issue_stage, leave_stage, meet_stage, rider_back, rider_done, rider_out, rider_put, send_stage, siding_lowers, stage_lowers, two_lower}

-- what an allowed move needs is there
found : {A : Type 0} (o : Option A) (b : Bar) (f : A → Option Bar) → on o (Some b) f ≡ None → (a : A) × (o ≡ Some a) × (f a ≡ None)
found None b f e = absurd (cc)
found (Some a) b f e = (a, refl, e)

passed : (t : Bool) (b : Bar) (rest : Option Bar) → first t b rest ≡ None → (t ≡ false) × (rest ≡ None)
passed true b rest e = absurd (cc)
passed false b rest e = (refl, e)

none_of : {A : Type 0} (o : Option A) → is_some o ≡ false → o ≡ None
none_of None e = refl
none_of (Some a) e = absurd (cc)

some_of : {A : Type 0} (o : Option A) → not (is_some o) ≡ false → (a : A) × (o ≡ Some a)
some_of None e = absurd (cc)
some_of (Some a) e = (a, refl)

neither : (a b : Bool) → (a || b) ≡ false → (a ≡ false) × (b ≡ false)
neither true b e = absurd (cc)
neither false b e = (refl, e)

stands : (a : Bool) → not a ≡ false → a ≡ true
stands true e = refl
stands false e = absurd (cc)

-- an instruction that is done, and whose launched operation is as before
record AreFinished (p q : Passenger) : Type 0 where
  pub done : q.done ≡ true
  pub launched : q.launched ≡ p.launched
  pub recovered : q.recovered ≡ p.recovered

finishes : (p : Passenger) (a : Option ℕ) → AreFinished p (finish p a)
unfolding finish
finishes p a = by _ _ _
  where
    by : (o : Option End) (pc v : ℕ) → AreFinished p (on o (finished p pc v) (trapped p))
    by None pc v = record { done = refl; launched = refl; recovered = refl }
    by (Some e) pc v = record { done = refl; launched = refl; recovered = refl }

-- an instruction that has taken its operation back
record IsBack (p q : Passenger) : Type 0 where
  pub recovered : q.recovered ≡ true
  pub launched : q.launched ≡ p.launched
  pub done : (m : ℕ) → counts (not q.done) m ≤ counts (not p.done) m

back_is : (p r : Passenger) (a : Option ℕ) → r.launched ≡ p.launched → r.done ≡ p.done → IsBack p (back_in r a)
back_is p r a launched done = by r.dead
  where
    by : (b : Bool) → IsBack p (cond b (record r { recovered = true }) (finish (record r { recovered = true }) a))
    by true = record { recovered = refl; launched = launched; done = λ m. subst (λ c. counts (not c) m ≤ counts (not p.done) m) (sym done) (omega arith) }
    by false =
        let f = finishes (record r { recovered = true }) a in
        record {
          recovered = f.recovered;
          launched = f.launched ∙ launched;
          done = λ m. subst (λ c. counts (not c) m ≤ counts (not p.done) m) (sym f.done) (omega arith);
        }

takes_back : (away : Option Rule) (p : Passenger) (op : Op) (a : Option ℕ) → IsBack p (back_in (sources_without away p op) a)
takes_back away p op a = back_is p (sources_without away p op) a (by _).0 (by _).1
  where
    by : (b : Bool) → ((cond b p (record p { src1 = with_value op.a p.src1; src2 = with_value op.b p.src2 })).launched ≡ p.launched)
        × ((cond b p (record p { src1 = with_value op.a p.src1; src2 = with_value op.b p.src2 })).done ≡ p.done)
    by true = (refl, refl)
    by false = (refl, refl)

taken_of : (q : Option (Option Op)) → not (cell_is_taken q) ≡ false → (op : Op) × (q ≡ Some (Some op))
taken_of None e = absurd (cc)
taken_of (Some None) e = absurd (cc)
taken_of (Some (Some op)) e = (op, refl)

-- a state that a choice leads to
chosen : {A : Type 0} (P : State → Type 0) (o : Option A) (s : State) (f : A → State) (a : A) → o ≡ Some a → P (f a) → P (on o s f)
chosen P o s f a e h = subst P (sym (ap (λ q. on q s f) e)) h

module _ (away : Option Rule) (plan : Plan) (n d : ℕ) (s : State) (few : length s.cells ≤ n) (short : AreShort d s.sidings) where
  climb_lowers : (i : ℕ) → row_bar_without away plan s (Climb i) ≡ None → Lowers n d s (moved plan s (Climb i)) 0
  unfolding moved
  climb_lowers i e =
      let c = found (cell_at s.cells i) NoSuchSite (λ c. climb_bar_without away plan c i (cell_at s.cells (i + 1))) e in
      let a = found (cell_at s.cells (i + 1)) NoSuchSite _ c.2 in
      let p = found c.0.passenger NoPassenger _ a.2 in
      let met = passed _ NotMet _ p.2 in
      let owes = passed _ Owes _ met.1 in
      let done = passed _ NotDone _ owes.1 in
      let empty = none_of a.0.passenger (passed _ Occupied _ done.1).0 in
      let inside = stage_number s.cells (i + 1) a.0 a.1 in
      let apart : i + 1 ≡ i → ⊥ = λ same. omega (arith, same) in
      let up : suc i ≡ i + 1 = omega arith in
      let less = subst (λ (j : ℕ). stage_weight n d i (without_passenger c.0) + stage_weight n d j (record a.0 { passenger = c.0.passenger; met = false })
      < stage_weight n d i c.0 + stage_weight n d j a.0) up (climb_stages n d i c.0 a.0 p.0 (omega (arith, inside.1, few)) p.1 empty) in
      chosen (λ t. Lowers n d s t 0) (cell_at s.cells i) s (λ c. on (cell_at s.cells (i + 1)) s (climbed s i c)) c.0 c.1
      (chosen (λ t. Lowers n d s t 0) (cell_at s.cells (i + 1)) s (climbed s i c.0) a.0 a.1
      (two_lower n d s i (i + 1) c.0 a.0 (without_passenger c.0) (record a.0 { passenger = c.0.passenger; met = false }) short c.1
      (cell_other s.cells i (i + 1) (without_passenger c.0) apart ∙ a.1)
      less))

  fall_lowers : (i : ℕ) → row_bar_without away plan s (Fall i) ≡ None → Lowers n d s (moved plan s (Fall i)) 0
  unfolding moved
  fall_lowers i e =
      let c = found (cell_at s.cells i) NoSuchSite (λ c. fall_bar_without away c (cell_at s.cells (i - 1))) e in
      let a = found (cell_at s.cells (i - 1)) NoSuchSite _ c.2 in
      let lies = passed _ NoPacket _ a.2 in
      let met = passed _ NotMet _ lies.1 in
      let empty = none_of a.0.packet (passed _ Occupied _ met.1).0 in
      let k = some_of c.0.packet lies.0 in
      let inside = stage_number s.cells (i - 1) a.0 a.1 in
      let apart : i - 1 ≡ i → ⊥ = λ same. omega (arith, same, inside.0) in
      let up : suc (i - 1) ≡ i = omega (arith, inside.0) in
      let less = subst (λ (j : ℕ). stage_weight n d (i - 1) (record a.0 { packet = c.0.packet; met = false }) + stage_weight n d j (without_packet c.0)
      < stage_weight n d (i - 1) a.0 + stage_weight n d j c.0) up (fall_stages n d (i - 1) a.0 c.0 k.0 inside.0 empty k.1) in
      chosen (λ t. Lowers n d s t 0) (cell_at s.cells i) s (λ c. on (cell_at s.cells (i - 1)) s (fallen s i c)) c.0 c.1
      (chosen (λ t. Lowers n d s t 0) (cell_at s.cells (i - 1)) s (fallen s i c.0) a.0 a.1
      (two_lower n d s i (i - 1) c.0 a.0 (without_packet c.0) (record a.0 { packet = c.0.packet; met = false }) short c.1
      (cell_other s.cells i (i - 1) (without_packet c.0) apart ∙ a.1) (omega (arith, less))))

  meet_lowers : (i : ℕ) → row_bar_without away plan s (Meet i) ≡ None → Lowers n d s (moved_without away plan s (Meet i)) 0
  unfolding moved_without
  meet_lowers i e =
      let c = found (cell_at s.cells i) NoSuchSite meet_bar e in
      let p = found c.0.passenger NoPassenger _ c.2 in
      let lies = passed _ NoPacket _ p.2 in
      let apart = passed _ AlreadyMet _ lies.1 in
      let k = some_of c.0.packet lies.0 in
      chosen (λ t. Lowers n d s t 0) (cell_at s.cells i) s (λ c. on c.passenger s (λ p. on c.packet s (λ k. with_cell s i (cell_met_without away c p k))))
      c.0 c.1
      (chosen (λ t. Lowers n d s t 0) c.0.passenger s (λ p. on c.0.packet s (λ k. with_cell s i (cell_met_without away c.0 p k))) p.0 p.1
      (chosen (λ t. Lowers n d s t 0) c.0.packet s (λ k. with_cell s i (cell_met_without away c.0 p.0 k)) k.0 k.1
      (stage_lowers n d s i c.0 (cell_met_without away c.0 p.0 k.0) short c.1 (meet_stage n d i away c.0 p.0 k.0 p.1 k.1 apart.0))))

  -- an instruction that is a different one afterwards
  changed : (i : ℕ) (c : Cell) (p q : Passenger) → cell_at s.cells i ≡ Some c → c.passenger ≡ Some p → p.done ≡ false → q.done ≡ true →
      q.launched ≡ p.launched → q.recovered ≡ p.recovered → Lowers n d s (with_cell s i (with_passenger c q)) 0
  changed i c p q at_c sits undone done launched recovered =
      let less = rider_done n d i p q undone done launched recovered in
      let put = rider_put n d i c p q sits in
      stage_lowers n d s i c (with_passenger c q) short at_c (omega (arith, less, put))

  execute_lowers : (i : ℕ) → row_bar_without away plan s (Execute i) ≡ None → Lowers n d s (moved plan s (Execute i)) 0
  unfolding moved
  execute_lowers i e =
      let c = found (cell_at s.cells i) NoSuchSite (λ c. execute_bar_without away plan c i) e in
      let p = found c.0.passenger NoPassenger _ c.2 in
      let live = passed _ Dead _ p.2 in
      let undone = passed _ AlreadyDone _ live.1 in
      let is = finishes p.0 None in
      chosen (λ t. Lowers n d s t 0) (cell_at s.cells i) s (λ c. on c.passenger s (λ p. with_cell s i (with_passenger c (finish p None)))) c.0 c.1
      (chosen (λ t. Lowers n d s t 0) c.0.passenger s (λ p. with_cell s i (with_passenger c.0 (finish p None))) p.0 p.1
      (changed i c.0 p.0 (finish p.0 None) c.1 p.1 undone.0 is.done is.launched is.recovered))

  send_lowers : (i : ℕ) → row_bar_without away plan s (Send i) ≡ None → Lowers n d s (moved plan s (Send i)) 0
  unfolding moved
  send_lowers i e =
      let c = found (cell_at s.cells i) NoSuchSite send_bar e in
      let p = found c.0.passenger NoPassenger _ c.2 in
      let owes = passed _ OwesNothing _ p.2 in
      let free = passed _ Occupied _ owes.1 in
      let k = some_of p.0.owes owes.0 in
      let inside = stage_number s.cells i c.0 c.1 in
      chosen (λ t. Lowers n d s t 0) (cell_at s.cells i) s (λ c. on c.passenger s (λ p. with_cell s i (sent p))) c.0 c.1
      (chosen (λ t. Lowers n d s t 0) c.0.passenger s (λ p. with_cell s i (sent p)) p.0 p.1
      (stage_lowers n d s i c.0 (sent p.0) short c.1
      (send_stage n d i c.0 p.0 k.0 inside.0 (omega (arith, inside.1, few)) p.1 k.1 (none_of c.0.packet free.0))))

  -- Launch
  enters : (i : ℕ) (c : Cell) (p : Passenger) → cell_at s.cells i ≡ Some c → c.passenger ≡ Some p → p.launched ≡ false → (k : ℕ) →
      Lowers n d s (with_siding (with_cell s i (with_passenger c (record p { launched = true }))) k (slice_set (siding_at s k) 0 (Some (operation p)))) 0
  enters i c p at_c sits out k =
      let put = rider_put n d i c p (record p { launched = true }) sits in
      let less = rider_out n d i p out in
      let size = siding_short d s k short in
      let more = entering (siding_at s k) (operation p) in
      both_lower n d s i c (with_passenger c (record p { launched = true })) k (slice_set (siding_at s k) 0 (Some (operation p))) short at_c
      (omega (arith, size, length-set (siding_at s k) 0 (Some (operation p)))) (omega (arith, put, less, size, more))

  launching : (i : ℕ) (c : Cell) (p : Passenger) → cell_at s.cells i ≡ Some c → c.passenger ≡ Some p → p.done ≡ false → p.launched ≡ false →
      launches plan (kind p) i ≡ true → Lowers n d s (launched plan s i c p) 0
  launching i c p at_c sits undone out enters_here = by (launch_trap s p) (siding_of plan (kind p)) refl
    where
      by : (o : Option End) (q : Option ℕ) → siding_of plan (kind p) ≡ q → Lowers n d s (on o (on q s (λ k.
          with_siding (with_cell s i (with_passenger c (record p { launched = true }))) k (slice_set (siding_at s k) 0 (Some (operation p)))))
          (λ b. with_cell s i (with_passenger c (trapped p b)))) 0
      by (Some b) q same = changed i c p (trapped p b) at_c sits undone refl refl refl
      by None (Some k) same = enters i c p at_c sits out k
      by None None same = absurd (let never : on (siding_of plan (kind p)) false (λ k. launch_stage plan k == i) ≡ false
          = ap (λ o. on o false (λ k. launch_stage plan k == i)) same in cc)

  launch_lowers : (i : ℕ) → row_bar_without away plan s (Launch i) ≡ None → Lowers n d s (moved plan s (Launch i)) 0
  unfolding moved
  launch_lowers i e =
      let c = found (cell_at s.cells i) NoSuchSite (λ c. launch_bar_without away plan s c i) e in
      let p = found c.0.passenger NoPassenger _ c.2 in
      let live = passed _ Dead _ p.2 in
      let undone = passed _ AlreadyDone _ live.1 in
      let unit = passed _ NoUnit _ undone.1 in
      let both = neither p.0.done p.0.launched undone.0 in
      chosen (λ t. Lowers n d s t 0) (cell_at s.cells i) s (λ c. on c.passenger s (launched plan s i c)) c.0 c.1
      (chosen (λ t. Lowers n d s t 0) c.0.passenger s (launched plan s i c.0) p.0 p.1
      (launching i c.0 p.0 c.1 p.1 both.0 both.1 (stands (launches plan (kind p.0) i) unit.0)))

  slide_lowers : (k c : ℕ) → row_bar_without away plan s (Slide k c) ≡ None → Lowers n d s (moved plan s (Slide k c)) 0
  unfolding moved
  slide_lowers k c e =
      let o = found (slice_get (siding_at s k) (c + 1)) NoSuchSite _ e in
      let taken = passed _ OpNotThere _ o.2 in
      let free = passed _ Occupied _ taken.1 in
      let op = taken_of (slice_get (siding_at s k) c) taken.0 in
      let up : suc c ≡ c + 1 = omega arith in
      let next : slice_get (siding_at s k) (suc c) ≡ Some None = ap (slice_get (siding_at s k)) up ∙ o.1 ∙ ap Some (none_of o.0 free.0) in
      let less = subst (λ (j : ℕ). flights_weight (slice_set (slice_set (siding_at s k) c None) j (Some op.0)) < flights_weight (siding_at s k)) up
      (sliding (siding_at s k) c op.0 op.1 next) in
      let size = siding_short d s k short in
      let same = length-set (slice_set (siding_at s k) c None) (c + 1) (Some op.0) ∙ length-set (siding_at s k) c None in
      chosen (λ t. Lowers n d s t 0) (slice_get (siding_at s k) c) s (λ o. with_siding s k (slice_set (slice_set (siding_at s k) c None) (c + 1) o))
      (Some op.0) op.1 (siding_lowers n d s k (slice_set (slice_set (siding_at s k) c None) (c + 1) (Some op.0)) short (omega (arith, size, same))
      less)

  access_lowers : row_bar_without away plan s Access ≡ None → Lowers n d s (moved plan s Access) 0
  unfolding moved flight_weight
  access_lowers e =
      let k : ℕ = port plan in
      let op = found (last_op (siding_at s k)) OpNotThere _ e in
      let unanswered = none_of op.0.answer (passed _ AlreadyDone _ op.2).0 in
      chosen (λ t. Lowers n d s t 0) (last_op (siding_at s k)) s (accessed plan s) op.0 op.1 (by k op.0 op.1 unanswered _ _)
    where
      less : (ops : List (Option Op)) (op : Op) (v : ℕ) → last_op ops ≡ Some op → op.answer ≡ None →
          flights_weight (set_last ops (Some (record op { answer = Some v }))) < flights_weight ops
      less ops op v at f =
          let put = last_put ops (Some (record op { answer = Some v })) in
          let here : flight_weight 0 (last_op ops) ≡ 2 = rw (at, f) refl in
          omega (arith, put, here)

      by : (k : ℕ) (op : Op) → last_op (siding_at s k) ≡ Some op → op.answer ≡ None → (v : ℕ) (mem : Memory) →
          Lowers n d s (record (with_siding s k (set_last (siding_at s k) (Some (record op { answer = Some v })))) { mem = mem }) 0
      by k op at f v mem =
          let size = siding_short d s k short in
          let same = last_size (siding_at s k) (Some (record op { answer = Some v })) in
          alike_lowers n d s (with_siding s k (set_last (siding_at s k) (Some (record op { answer = Some v })))) _ 0
          (siding_lowers n d s k (set_last (siding_at s k) (Some (record op { answer = Some v }))) short (omega (arith, size, same))
          (less (siding_at s k) op v at f))
          refl refl refl

  -- Recover
  back_lowers : (i : ℕ) (c : Cell) (p q : Passenger) (k : ℕ) (op : Op) → cell_at s.cells i ≡ Some c → c.passenger ≡ Some p → p.recovered ≡ false → IsBack p q →
      last_op (siding_at s k) ≡ Some op → Lowers n d s (with_siding (with_cell s i (with_passenger c q)) k (set_last (siding_at s k) None)) 0
  unfolding flight_weight
  back_lowers i c p q k op at_c sits out back at =
      let put = rider_put n d i c p q sits in
      let less = rider_back n d i p q out back.recovered back.launched (back.done (2 * n + 1)) in
      let size = siding_short d s k short in
      let same = last_size (siding_at s k) None in
      let gone = last_put (siding_at s k) None in
      let here : 1 ≤ flight_weight 0 (last_op (siding_at s k)) = rw at (omega arith) in
      both_lower n d s i c (with_passenger c q) k (set_last (siding_at s k) None) short at_c (omega (arith, size, same)) (omega (arith, put, less, gone, here))

  recover_lowers : (i : ℕ) → row_bar_without away plan s (Recover i) ≡ None → Lowers n d s (moved_without away plan s (Recover i)) 0
  unfolding moved_without
  recover_lowers i e =
      let c = found (cell_at s.cells i) NoSuchSite (λ c. recover_bar_without away plan s c i) e in
      let p = found c.0.passenger NoPassenger _ c.2 in
      let unit = passed _ NoUnit _ p.2 in
      let out = passed _ AlreadyDone _ unit.1 in
      let k = found (siding_of plan (kind p.0)) NoUnit _ out.1 in
      let op = found (last_op (siding_at s k.0)) OpNotThere _ k.2 in
      chosen (λ t. Lowers n d s t 0) (cell_at s.cells i) s (λ c. on c.passenger s (recovered_without away plan s i c)) c.0 c.1
      (chosen (λ t. Lowers n d s t 0) c.0.passenger s (recovered_without away plan s i c.0) p.0 p.1
      (chosen (λ t. Lowers n d s t 0) (siding_of plan (kind p.0)) s _ k.0 k.1
      (chosen (λ t. Lowers n d s t 0) (last_op (siding_at s k.0)) s _ op.0 op.1
      (back_lowers i c.0 p.0 _ k.0 op.0 c.1 p.1 (neither (not p.0.launched) p.0.recovered out.0).1
      (takes_back away p.0 op.0 (answer_without away p.0 op.0)) op.1))))

  -- Leave
  gone : (t : State) (q : Passenger) → Lowers n d s t 0 → Lowers n d s (cond q.dead t (left_live t q)) 0
  gone t q h = by q.dead q.ending
    where
      by : (b : Bool) (o : Option End) → Lowers n d s (cond b t (on o (record t { regs = written t.regs q.dst; retired = t.retired + 1 })
          (λ e. record t { ending = Some e }))) 0
      by true o = h
      by false None = alike_lowers n d s t _ 0 h refl refl refl
      by false (Some e) = alike_lowers n d s t _ 0 h refl refl refl

  leave_lowers : row_bar_without away plan s Leave ≡ None → Lowers n d s (moved_without away plan s Leave) 0
  unfolding moved_without
  leave_lowers e =
      let c = found (cell_at s.cells plan.stages) NoSuchSite (leave_bar_without away) e in
      let p = found c.0.passenger NoPassenger _ c.2 in
      chosen (λ t. Lowers n d s t 0) (cell_at s.cells plan.stages) s (λ c. on c.passenger s (left_without away s plan.stages c)) c.0 c.1
      (chosen (λ t. Lowers n d s t 0) c.0.passenger s (left_without away s plan.stages c.0) p.0 p.1
      (gone (with_cell s plan.stages (without_passenger c.0)) (leaving_without away p.0)
      (stage_lowers n d s plan.stages c.0 (without_passenger c.0) short c.1 (leave_stage n d plan.stages c.0 p.0 p.1))))

  exit_lowers : row_bar_without away plan s Exit ≡ None → Lowers n d s (moved plan s Exit) 0
  unfolding moved
  exit_lowers e =
      let c = found (cell_at s.cells 1) NoSuchSite (exit_bar_without away) e in
      let lies = passed _ NoPacket _ c.2 in
      let k = some_of c.0.packet lies.0 in
      chosen (λ t. Lowers n d s t 0) (cell_at s.cells 1) s (exited plan s) c.0 c.1
      (chosen (λ t. Lowers n d s t 0) c.0.packet s _ k.0 k.1
      (alike_lowers n d s (with_cell s 1 (without_packet c.0)) _ 0
      (stage_lowers n d s 1 c.0 (without_packet c.0) short c.1 (exit_stage n d c.0 k.0 k.1)) refl refl refl))

  -- Emit
  emitting : (lane : List ℕ) (c : Cell) → s.lane ≡ lane → cell_at s.cells plan.stages ≡ Some c → emit_bar lane c ≡ None →
      Lowers n d s (emitted s plan.stages lane c) 0
  unfolding order_weight
  emitting [] c same at_c e = absurd (cc)
  emitting (r ∷ lane) c same at_c e =
      let free = passed _ Occupied _ e in
      let inside = stage_number s.cells plan.stages c at_c in
      let k : Packet = Value r (slice_index s.regs r) in
      let put = put_stage n d s.cells plan.stages c (record c { packet = Some k; met = false }) at_c in
      let less = emit_stage n d plan.stages c k inside.0 (omega (arith, inside.1, few)) (none_of c.packet free.0) in
      let more : lane_weight n s.lane ≡ (2 * n + 1) + lane_weight n lane = ap (lane_weight n) same in
      record {
        cells = put_size s.cells plan.stages (record c { packet = Some k; met = false });
        sidings = short;
        weight = omega (arith, put, less, more);
      }

  emit_lowers : row_bar_without away plan s Emit ≡ None → Lowers n d s (moved plan s Emit) 0
  unfolding moved
  emit_lowers e =
      let c = found (cell_at s.cells plan.stages) NoSuchSite (emit_bar s.lane) e in
      chosen (λ t. Lowers n d s t 0) (cell_at s.cells plan.stages) s (emitted s plan.stages s.lane) c.0 c.1 (emitting s.lane c.0 refl c.1 c.2)

  -- Issue
  issuing : (g : Guess) (c : Cell) (pc : ℕ) → cell_at s.cells 1 ≡ Some c → c.passenger ≡ None → Lowers n d s (issued plan s g c pc) (issue_weight n d)
  unfolding order_weight
  issuing g c pc at_c empty =
      let p : Passenger = fresh s.cache (fetched (isa_of plan) s.mem pc) pc g in
      let inside = stage_number s.cells 1 c at_c in
      let put = put_stage n d s.cells 1 c (record c { passenger = Some p; met = false }) at_c in
      let more = issue_stage n d c p (omega (arith, inside.1, few)) empty in
      let lane = lane_behind n s.lane (requests p) in
      let asked = asked_weight n (missing p.src1) (missing p.src2) in
      record {
        cells = put_size s.cells 1 (record c { passenger = Some p; met = false });
        sidings = short;
        weight = omega (arith, put, more, lane, asked);
      }

  issue_lowers : (g : Guess) → row_bar_without away plan s (Issue g) ≡ None → Lowers n d s (moved plan s (Issue g)) (issue_weight n d)
  unfolding moved
  issue_lowers g e =
      let c = found (cell_at s.cells 1) NoSuchSite (issue_bar_without away plan s g) e in
      let pc = found (running s.fetch) FetchWaiting _ c.2 in
      let empty = passed _ Occupied _ pc.2 in
      chosen (λ t. Lowers n d s t (issue_weight n d)) (cell_at s.cells 1) s (λ c. on (running s.fetch) s (issued plan s g c)) c.0 c.1
      (chosen (λ t. Lowers n d s t (issue_weight n d)) (running s.fetch) s (issued plan s g c.0) pc.0 pc.1
      (issuing g c.0 pc.0 c.1 (none_of c.0.passenger empty.0)))

-- Serve
module _ (away : Option Rule) (plan : Plan) (n d : ℕ) (m : Moment) (few : length m.state.cells ≤ n) (short : AreShort d m.state.sidings) where
  serving : (c : Cell) (p : Passenger) (o : Called) → cell_at m.state.cells plan.stages ≡ Some c → c.passenger ≡ Some p → p.done ≡ false →
      Lowers n d m.state (served m plan.stages c p o).state 0
  serving c p (called.Value a) at_c sits undone = alike_lowers n d m.state (with_cell m.state plan.stages (with_passenger c (answered p a.value))) _ 0
      (changed away plan n d m.state few short plan.stages c p (answered p a.value) at_c sits undone refl refl refl) refl refl refl
  serving c p (called.Exit status) at_c sits undone =
      changed away plan n d m.state few short plan.stages c p (record p { done = true; ending = Some (ending.Exit status) }) at_c sits undone refl refl refl

  serve_lowers : row_bar_without away plan m.state Serve ≡ None → Lowers n d m.state (next plan m Serve).state 0
  unfolding next
  serve_lowers e =
      let c = found (cell_at m.state.cells plan.stages) NoSuchSite (serve_bar_without away) e in
      let p = found c.0.passenger NoPassenger _ c.2 in
      let live = passed _ Dead _ p.2 in
      let undone = passed _ AlreadyDone _ live.1 in
      chosen_moment (cell_at m.state.cells plan.stages) (λ c. on c.passenger m (asked m plan.stages c)) c.0 c.1
      (chosen_moment c.0.passenger (asked m plan.stages c.0) p.0 p.1
      (serving c.0 p.0 (serve_of (instruction p.0) m.state.regs m.state.mem m.rest) c.1 p.1 undone.0))
    where
      chosen_moment : {A : Type 0} (o : Option A) (f : A → Moment) (a : A) → o ≡ Some a → Lowers n d m.state (f a).state 0 →
          Lowers n d m.state (on o m f).state 0
      chosen_moment o f a e h = subst (λ (q : Moment). Lowers n d m.state q.state 0) (sym (ap (λ q. on q m f) e)) h

  -- each move
  by_row : (mv : Move) → row_bar_without away plan m.state mv ≡ None →
      Lowers n d m.state (next_without away plan m mv).state (counts (is_issue mv) (issue_weight n d))
  unfolding next_without next
  by_row (Issue g) e = issue_lowers away plan n d m.state few short g e
  by_row Emit e = emit_lowers away plan n d m.state few short e
  by_row (Climb i) e = climb_lowers away plan n d m.state few short i e
  by_row (Fall i) e = fall_lowers away plan n d m.state few short i e
  by_row (Meet i) e = meet_lowers away plan n d m.state few short i e
  by_row (Execute i) e = execute_lowers away plan n d m.state few short i e
  by_row (Send i) e = send_lowers away plan n d m.state few short i e
  by_row (Launch i) e = launch_lowers away plan n d m.state few short i e
  by_row (Slide k c) e = slide_lowers away plan n d m.state few short k c e
  by_row Access e = access_lowers away plan n d m.state few short e
  by_row (Recover i) e = recover_lowers away plan n d m.state few short i e
  by_row Leave e = leave_lowers away plan n d m.state few short e
  by_row Exit e = exit_lowers away plan n d m.state few short e
  by_row Serve e = serve_lowers e

  pub lowers : (mv : Move) → bar_without away plan m.state mv ≡ None →
      Lowers n d m.state (next_without away plan m mv).state (counts (is_issue mv) (issue_weight n d))
  unfolding bar_without
  lowers mv e = by_row mv (passed _ Failed _ (passed _ Halted _ e).1).1
