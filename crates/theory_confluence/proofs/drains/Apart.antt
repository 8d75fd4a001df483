-- Between two drained moments of a program that goes on an instruction retires.
use Rattle.std.proofs.Common.{◌≡◌, ℕ, suc, ◌+◌, ◌*◌, ◌≤◌, List, [], ◌∷◌, ◌++◌, length, append_assoc, Option, Some, None, Bool, true, false, ◌&&◌, ◌==◌, not, refl, sym, ap, subst, ◌∙◌, arith, ◌⊎◌, inl, inr}
use Rattle.std.specs.List.{list_any}
use Rattle.rv_inst.specs.declared.isa.Isa.{Isa}
use Rattle.rv_machine.specs.Machine.{Machine}
use Rattle.cf_layout.specs.Layout.{Plan}
use Rattle.cf_bind.specs.declared.cell.Cell.{Cell}
use Rattle.cf_bind.specs.declared.cell.Op.{Op}
use Rattle.cf_bind.specs.declared.moves.Move.{Move}
use Rattle.cf_bind.specs.declared.moves.Move.TheVariants.{Issue, Emit, Climb, Fall, Meet, Execute, Send, Launch, Slide, Access, Recover, Leave, Exit, Serve}
use Rattle.cf_bind.specs.declared.packet.Fetch.TheVariants.{Running}
use Rattle.cf_bind.specs.declared.passenger.Passenger.{Passenger}
use Rattle.cf_bind.specs.declared.passenger.End.{End}
use Rattle.cf_bind.specs.declared.passenger.Guess.{Guess}
use Rattle.cf_semantics.specs.state.Options.{is_some}
use Rattle.cf_semantics.specs.moves.Instructions.{fetched, step_at}
use Rattle.cf_semantics.specs.state.State.{State, Moment}
use Rattle.cf_semantics.specs.moves.Bars.{bar}
use Rattle.cf_semantics.specs.state.Column.{Item, Up, column, column_from, items}
use Rattle.cf_semantics.specs.state.Layouts.{isa_of}
use Rattle.cf_semantics.specs.moves.Moves.{fetch_from, moved, next}
use Rattle.cf_semantics.specs.state.Passengers.{forgets, fresh, goto, reg_in, requests}
use Rattle.cf_semantics.specs.claims.Right.{Way, begin, follows, goes, past, stops, way}
use Rattle.cf_semantics.specs.runs.Runs.{IsRun, run}
use Rattle.cf_semantics.specs.claims.Walks.{walk}
use Rattle.cf_semantics.specs.claims.Weight.{cell_weight, cells_weight, counts, is_issue, most_cells, moves_per_issue, op_weight, siding_weight, sidings_weight, weight}
use Rattle.cf_semantics.specs.state.Drained.{is_drained, is_empty, is_occupied}
use Rattle.cf_semantics.specs.claims.Path as trail
use Rattle.theory_refinement.proofs.invariant.Invariant.{HoldsAfter, Sound}
use Rattle.theory_refinement.proofs.invariant.Suited.{Suits}
use Rattle.theory_refinement.proofs.invariant.Sure as sure
use Rattle.theory_refinement.proofs.column.Fold.{walk_append, walk_follows}
use Rattle.theory_refinement.proofs.walks.Fresh.{among_front, fresh_is, fresh_pc}
use Rattle.theory_refinement.proofs.moves.Issue.{Issues, issue_items, issue_ready, next_issue}
use Rattle.theory_refinement.proofs.moves.Rows.{bar_row}
use Rattle.theory_refinement.proofs.claims.Level.{empty_column}
use Rattle.theory_refinement.proofs.claims.Runs as runs
use Rattle.theory_confluence.proofs.weight.Bound.{costs, sound_at}
use Rattle.theory_confluence.proofs.drains.Determined.{EndsSo, GoesSo, Total, one_machine, so_kept}
use Rattle.theory_confluence.proofs.drains.Right.{Fits, Follows, way_walk}
use Rattle.theory_confluence.proofs.drains.Ways.{fits_way}
use Rattle.std.proofs.lemmas.Bool.{or_parts}

-- with a longer lane at least as much may be waited for
lane_way : (s t : State) (x : Machine) (more : List ℕ) → t.lane ≡ s.lane ++ more → Follows (begin s x) (begin t x)
lane_way s t x more e = record {
  path = record {
    barred = λ b. b;
    machine = λ _. refl;
    goto = λ _. refl;
    settled = λ _ a. a;
    trapped = λ _ a. a;
    coming =
        λ _ r c. rw e (among_front r s.lane more c);
  };
  count = refl;
  stop = refl;
  on = λ _. refl;
  lost = λ a b. absurd (cc);
}

-- the walk over the state after Issue
pub record Grown (isa : Isa) (s t : State) (x : Machine) (p : Passenger) : Type 0 where
  pub above : Way
  pub count : above.count ≡ (way isa s x).count
  pub stop : above.stop ≡ (way isa s x).stop
  pub is : way isa t x ≡ past isa (Up 1 p) above
  pub first : column s ≡ [] → above ≡ begin t x

grown : {rest out : List ℕ} (l : Plan) (s : State) (x : Machine) (g : Guess) (r : Issues l s g) → Sound l s rest out x →
    Grown (isa_of l) s (moved l s (Issue g)) x (fresh s.cache (fetched (isa_of l) s.mem r.pc) r.pc g)
grown {rest} {out} l s x g r h =
    let p : Passenger = fresh s.cache (fetched (isa_of l) s.mem r.pc) r.pc g in
    let new = Up 1 p ∷ [] in
    let t : State = record s {
      cells = record r.here { passenger = Some p; met = false } ∷ r.others;
      lane = s.lane ++ requests p;
      fetch = fetch_from (goto p);
      cache =
          forgets (reg_in p.dst) s.cache;
    } in
    let was : column s ≡ column_from 2 r.others ++ items 1 r.here = ap (column_from 1) r.cells in
    let is : column t ≡ column s ++ new = ap (λ (q : List Item). column_from 2 r.others ++ q) (issue_items r.here p r.free)
    ∙ sym (append_assoc (column_from 2 r.others) (items 1 r.here) new) ∙ ap (λ (q : List Item). q ++ new) (sym was) in
    let f = lane_way s t x (requests p) refl in
    let q = walk_follows _ (Fits (isa_of l)) (past (isa_of l)) Follows (way_walk (isa_of l)) (column s) _ _ f
    (fits_way (isa_of l) (column s) (trail.top s x) (begin s x) refl h.path_fit) in
    let w : way (isa_of l) t x ≡ past (isa_of l) (Up 1 p) (walk (past (isa_of l)) (column s) (begin t x)) =
    ap (λ (z : List Item). walk (past (isa_of l)) z (begin t x)) is ∙ walk_append (past (isa_of l)) (column s) new (begin t x) in
    rw (next_issue l s g r.here r.others r.pc p r.cells r.runs refl)
    (record {
      above = walk (past (isa_of l)) (column s) (begin t x);
      count = q.count;
      stop = q.stop;
      is = w;
      first =
          λ e. ap (λ (z : List Item). walk (past (isa_of l)) z (begin t x)) e;
    })

-- one more instruction takes nothing from the walk
pub past_grows : (isa : Isa) (i : ℕ) (p : Passenger) (w : Way) → (w.count ≤ (past isa (Up i p) w).count) × (w.stop ≡ true → (past isa (Up i p) w).stop ≡ true)
unfolding past
past_grows isa i p w = (grind arith, λ e. grind (arith, e))

-- an instruction at the machine's address adds to the walk's count, or ends the walk
pub past_first : (isa : Isa) (i : ℕ) (p : Passenger) (s : State) (x : Machine) → p.dead ≡ false → p.pc ≡ x.hart.pc →
    (1 ≤ (past isa (Up i p) (begin s x)).count) ⊎ ((past isa (Up i p) (begin s x)).stop ≡ true)
unfolding past follows stops
past_first isa i p s x d c = go (goes (step_at isa x p.pc)) refl
  where
    here : (p.pc == x.hart.pc) ≡ true
    here = grind (arith, c)

    go : (b : Bool) → goes (step_at isa x p.pc) ≡ b → (1 ≤ (past isa (Up i p) (begin s x)).count) ⊎ ((past isa (Up i p) (begin s x)).stop ≡ true)
    go true e = inl (grind (arith, d, e, here))
    go false e = inr (grind (arith, d, e, here))

-- n instructions are sure to retire, or the program is sure to end
pub record Reaching (l : Plan) (x0 : Machine) (m : Moment) (n : ℕ) : Type 0 where
  pub held : HoldsAfter l x0 m
  pub far : m.state.ending ≡ None → (n ≤ m.state.retired + (way (isa_of l) m.state held.machine).count) ⊎ ((way (isa_of l) m.state held.machine).stop ≡ true)

-- Issue
issue_keeps : (l : Plan) (x0 : Machine) (m : Moment) (g : Guess) (n : ℕ) → Suits l → bar l m.state (Issue g) ≡ None → Reaching l x0 m n →
    Reaching l x0 (next l m (Issue g)) n
unfolding next
issue_keeps l x0 m g n acc e h =
    let x = h.held.machine in
    let sound = sound_at l x0 m (Issue g) e h.held in
    let going = runs.going l m.state (Issue g) e in
    let c = runs.issue_counts l m.state g in
    let k = runs.kept l x0 m (Issue g) acc e h.held in
    let same = one_machine l x0 m _ c.retired h.held k in
    let r = issue_ready l m.state g (bar_row l m.state (Issue g) e) in
    let w = grown l m.state x g r sound in
    record {
      held = k;
      far = λ _. subst (λ (y : Machine). (n ≤ (moved l m.state (Issue g)).retired + (way (isa_of l) (moved l m.state (Issue g)) y).count)
          ⊎ ((way (isa_of l) (moved l m.state (Issue g)) y).stop ≡ true)) (sym same) (go w c.retired (h.far going));
    }
  where
    go : {p : Passenger} → Grown (isa_of l) m.state (moved l m.state (Issue g)) h.held.machine p → (moved l m.state (Issue g)).retired ≡ m.state.retired →
        (n ≤ m.state.retired + (way (isa_of l) m.state h.held.machine).count) ⊎ ((way (isa_of l) m.state h.held.machine).stop ≡ true) →
        (n ≤ (moved l m.state (Issue g)).retired + (way (isa_of l) (moved l m.state (Issue g)) h.held.machine).count)
        ⊎ ((way (isa_of l) (moved l m.state (Issue g)) h.held.machine).stop ≡ true)
    go {p} w c (inl z) =
        let a = (past_grows (isa_of l) 1 p w.above).0 in
        let b = w.count in
        let d : (way (isa_of l) (moved l m.state (Issue g)) h.held.machine).count ≡ (past (isa_of l) (Up 1 p) w.above).count = ap (λ (v : Way). v.count) w.is in
        inl (omega (arith, z, a, b, c, d))
    go {p} w c (inr z) = inr (ap (λ (v : Way). v.stop) w.is ∙ (past_grows (isa_of l) 1 p w.above).1 (w.stop ∙ z))

-- the first Issue in a drained moment
first_issue : (l : Plan) (x0 : Machine) (m : Moment) (g : Guess) → Suits l → bar l m.state (Issue g) ≡ None → HoldsAfter l x0 m → is_drained m.state ≡ true →
    Reaching l x0 (next l m (Issue g)) (suc m.state.retired)
unfolding next
first_issue l x0 m g acc e h d =
    let sound = sound_at l x0 m (Issue g) e h in
    let c = runs.issue_counts l m.state g in
    let k = runs.kept l x0 m (Issue g) acc e h in
    let same = one_machine l x0 m _ c.retired h k in
    let r = issue_ready l m.state g (bar_row l m.state (Issue g) e) in
    let w = grown l m.state h.machine g r sound in
    let q = fetched (isa_of l) m.state.mem r.pc in
    let none = empty_column m.state d in
    let ends : m.state.fetch ≡ Running h.machine.hart.pc = subst (λ (z : List Item). sure.Ends
    (walk (trail.past (isa_of l)) z (trail.top m.state h.machine)) m.state.fetch) none sound.path_ends in
    let pc : (fresh m.state.cache q r.pc g).pc ≡ h.machine.hart.pc = fresh_pc q m.state.cache r.pc g ∙ same_pc r.pc h.machine.hart.pc (sym r.runs ∙ ends) in
    let first = past_first (isa_of l) 1 (fresh m.state.cache q r.pc g) (moved l m.state (Issue g)) h.machine (fresh_is q m.state.cache r.pc g).live pc in
    record {
      held = k;
      far = λ _. subst (λ (y : Machine). (suc m.state.retired ≤ (moved l m.state (Issue g)).retired +
          (way (isa_of l) (moved l m.state (Issue g)) y).count) ⊎ ((way (isa_of l) (moved l m.state (Issue g)) y).stop ≡ true)) (sym same)
          (go (fresh m.state.cache q r.pc g) c.retired (w.is ∙ ap (past (isa_of l) (Up 1 (fresh m.state.cache q r.pc g))) (w.first none)) first);
    }
  where
    same_pc : (a b : ℕ) → Running a ≡ Running b → a ≡ b
    same_pc a b e = cc

    go : (p : Passenger) → (moved l m.state (Issue g)).retired ≡ m.state.retired → way (isa_of l) (moved l m.state (Issue g)) h.machine
        ≡ past (isa_of l) (Up 1 p) (begin (moved l m.state (Issue g)) h.machine) →
        (1 ≤ (past (isa_of l) (Up 1 p) (begin (moved l m.state (Issue g)) h.machine)).count)
        ⊎ ((past (isa_of l) (Up 1 p) (begin (moved l m.state (Issue g)) h.machine)).stop ≡ true) →
        (suc m.state.retired ≤ (moved l m.state (Issue g)).retired + (way (isa_of l) (moved l m.state (Issue g)) h.machine).count)
        ⊎ ((way (isa_of l) (moved l m.state (Issue g)) h.machine).stop ≡ true)
    go p c is (inl z) = let d : (way (isa_of l) (moved l m.state (Issue g)) h.machine).count
        ≡ (past (isa_of l) (Up 1 p) (begin (moved l m.state (Issue g)) h.machine)).count = ap (λ (v : Way). v.count) is in inl (omega (arith, z, c, d))
    go p c is (inr z) = inr (ap (λ (v : Way). v.stop) is ∙ z)

-- any other move
other_keeps : (l : Plan) (x0 : Machine) (m : Moment) (mv : Move) (n : ℕ) → Suits l → is_issue mv ≡ false → bar l m.state mv ≡ None → Reaching l x0 m n →
    Reaching l x0 (next l m mv) n
other_keeps l x0 m mv n acc i e h =
    let x = h.held.machine in
    let going = runs.going l m.state mv e in
    let total : Total (isa_of l) m.state x (m.state.retired + (way (isa_of l) m.state x).count) (way (isa_of l) m.state x).stop =
    record { sum = refl; stop = refl } in
    let g = so_kept l x0 m mv (m.state.retired + (way (isa_of l) m.state x).count) (way (isa_of l) m.state x).stop acc i e
    (record {
      held = h.held;
      total = subst (λ (o : Option End). EndsSo (isa_of l) m.state x o (m.state.retired + (way (isa_of l) m.state x).count)
          (way (isa_of l) m.state x).stop) (sym going) total;
    }) in
    record { held = g.held; far = λ z. go g z (h.far going) }
  where
    go : (g : GoesSo l x0 (next l m mv) (m.state.retired + (way (isa_of l) m.state h.held.machine).count) (way (isa_of l) m.state h.held.machine).stop) →
        (next l m mv).state.ending ≡ None → (n ≤ m.state.retired + (way (isa_of l) m.state h.held.machine).count)
        ⊎ ((way (isa_of l) m.state h.held.machine).stop ≡ true) → (n ≤ (next l m mv).state.retired + (way (isa_of l) (next l m mv).state g.held.machine).count)
        ⊎ ((way (isa_of l) (next l m mv).state g.held.machine).stop ≡ true)
    go g z (inl y) = let t = subst (λ (o : Option End). EndsSo (isa_of l) (next l m mv).state g.held.machine o
        (m.state.retired + (way (isa_of l) m.state h.held.machine).count) (way (isa_of l) m.state h.held.machine).stop) z g.total in let s = t.sum in
        inl (omega (arith, s, y))
    go g z (inr y) = let t = subst (λ (o : Option End). EndsSo (isa_of l) (next l m mv).state g.held.machine o
        (m.state.retired + (way (isa_of l) m.state h.held.machine).count) (way (isa_of l) m.state h.held.machine).stop) z g.total in inr (t.stop ∙ y)

pub move_keeps : (l : Plan) (x0 : Machine) (m : Moment) (mv : Move) (n : ℕ) → Suits l → bar l m.state mv ≡ None → Reaching l x0 m n →
    Reaching l x0 (next l m mv) n
move_keeps l x0 m (Issue g) n acc e h = issue_keeps l x0 m g n acc e h
move_keeps l x0 m Emit n acc e h = other_keeps l x0 m Emit n acc refl e h
move_keeps l x0 m (Climb i) n acc e h = other_keeps l x0 m (Climb i) n acc refl e h
move_keeps l x0 m (Fall i) n acc e h = other_keeps l x0 m (Fall i) n acc refl e h
move_keeps l x0 m (Meet i) n acc e h = other_keeps l x0 m (Meet i) n acc refl e h
move_keeps l x0 m (Execute i) n acc e h = other_keeps l x0 m (Execute i) n acc refl e h
move_keeps l x0 m (Send i) n acc e h = other_keeps l x0 m (Send i) n acc refl e h
move_keeps l x0 m (Launch i) n acc e h = other_keeps l x0 m (Launch i) n acc refl e h
move_keeps l x0 m (Slide k c) n acc e h = other_keeps l x0 m (Slide k c) n acc refl e h
move_keeps l x0 m Access n acc e h = other_keeps l x0 m Access n acc refl e h
move_keeps l x0 m (Recover i) n acc e h = other_keeps l x0 m (Recover i) n acc refl e h
move_keeps l x0 m Leave n acc e h = other_keeps l x0 m Leave n acc refl e h
move_keeps l x0 m Exit n acc e h = other_keeps l x0 m Exit n acc refl e h
move_keeps l x0 m Serve n acc e h = other_keeps l x0 m Serve n acc refl e h

-- a drained state weighs nothing
vacant : (n d i : ℕ) (c : Cell) → is_occupied c ≡ false → cell_weight n d i c ≡ 0
unfolding cell_weight
vacant n d i c e = grind (arith, e)

vacant_cells : (n d i : ℕ) (cells : List Cell) → list_any is_occupied cells ≡ false → cells_weight n d i cells ≡ 0
vacant_cells n d i [] e = refl
vacant_cells n d i (c ∷ cells) e =
    let z = or_parts (is_occupied c) (list_any is_occupied cells) e in
    let a = vacant n d i c z.0 in
    let b = vacant_cells n d (suc i) cells z.1 in
    omega (arith, a, b)

vacant_op : (n c : ℕ) (o : Option Op) → is_some o ≡ false → op_weight n c o ≡ 0
unfolding op_weight
vacant_op n c None e = refl
vacant_op n c (Some op) e = absurd (cc)

vacant_ops : (n c : ℕ) (q : List (Option Op)) → list_any is_some q ≡ false → siding_weight n c q ≡ 0
vacant_ops n c [] e = refl
vacant_ops n c (o ∷ q) e =
    let z = or_parts (is_some o) (list_any is_some q) e in
    let a = vacant_op n c o z.0 in
    let b = vacant_ops n (suc c) q z.1 in
    omega (arith, a, b)

vacant_sidings : (ss : List (List (Option Op))) → list_any (list_any is_some) ss ≡ false → sidings_weight ss ≡ 0
vacant_sidings [] e = refl
vacant_sidings (q ∷ ss) e =
    let z = or_parts (list_any is_some q) (list_any (list_any is_some) ss) e in
    let a = vacant_ops (length q) 0 q z.0 in
    let b = vacant_sidings ss z.1 in
    omega (arith, a, b)

no_lane : (k : ℕ) (lane : List ℕ) → is_empty lane ≡ true → k * length lane ≡ 0
no_lane k [] e = grind arith
no_lane k (r ∷ lane) e = absurd (cc)

pub drained_weighs : (l : Plan) (s : State) → is_drained s ≡ true → weight l s ≡ 0
unfolding is_drained weight
drained_weighs l s d =
    let z = all (list_any is_occupied s.cells) (is_empty s.lane) (list_any (list_any is_some) s.sidings) d in
    let a = vacant_cells l.stages (most_cells l.sidings) 1 s.cells z.0 in
    let b = vacant_sidings s.sidings z.2 in
    let c = no_lane (2 * l.stages + 1) s.lane z.1 in
    omega (arith, a, b, c)
  where
    all : (a b c : Bool) → (not a && b && not c) ≡ true → (a ≡ false) × (b ≡ true) × (c ≡ false)
    all false true false e = (refl, refl, refl)
    all false true true e = absurd (cc)
    all false false c e = absurd (cc)
    all true b c e = absurd (cc)

-- in a drained moment only Issue is allowed
pub only_issue : (l : Plan) (x0 : Machine) (m : Moment) (mv : Move) → Suits l → bar l m.state mv ≡ None → HoldsAfter l x0 m → is_drained m.state ≡ true →
    is_issue mv ≡ true
only_issue l x0 m mv acc e h d = go (is_issue mv) refl
  where
    go : (b : Bool) → is_issue mv ≡ b → is_issue mv ≡ true
    go true i = i
    go false i =
        let c = costs l m h.machine mv acc e (sound_at l x0 m mv e h) in
        let w = drained_weighs l m.state d in
        let n : moves_per_issue l * counts (is_issue mv) 1 ≡ 0 = ap (λ (b : Bool). moves_per_issue l * counts b 1) i ∙ times_zero (moves_per_issue l) in
        absurd (omega (arith, c, w, n))
      where
        times_zero : (a : ℕ) → a * 0 ≡ 0
        times_zero a = grind arith

pub first_move : (l : Plan) (x0 : Machine) (m : Moment) (mv : Move) → Suits l → bar l m.state mv ≡ None → HoldsAfter l x0 m → is_drained m.state ≡ true →
    Reaching l x0 (next l m mv) (suc m.state.retired)
first_move l x0 m mv acc e h d = go mv e (only_issue l x0 m mv acc e h d)
  where
    go : (mv : Move) → bar l m.state mv ≡ None → is_issue mv ≡ true → Reaching l x0 (next l m mv) (suc m.state.retired)
    go (Issue g) e i = first_issue l x0 m g acc e h d
    go Emit e i = absurd (cc)
    go (Climb j) e i = absurd (cc)
    go (Fall j) e i = absurd (cc)
    go (Meet j) e i = absurd (cc)
    go (Execute j) e i = absurd (cc)
    go (Send j) e i = absurd (cc)
    go (Launch j) e i = absurd (cc)
    go (Slide k c) e i = absurd (cc)
    go Access e i = absurd (cc)
    go (Recover j) e i = absurd (cc)
    go Leave e i = absurd (cc)
    go Exit e i = absurd (cc)
    go Serve e i = absurd (cc)

pub run_keeps : (l : Plan) (x0 : Machine) (m : Moment) (moves : List Move) (n : ℕ) → Suits l → IsRun l m moves → Reaching l x0 m n →
    Reaching l x0 (run l m moves) n
unfolding IsRun run
run_keeps l x0 m [] n acc r h = h
run_keeps l x0 m (mv ∷ moves) n acc r h = run_keeps l x0 (next l m mv) moves n acc r.1 (move_keeps l x0 m mv n acc r.0 h)

-- once drained, they have retired
pub all_retired : (l : Plan) (x0 : Machine) (t : Moment) (n : ℕ) → Reaching l x0 t n → t.state.ending ≡ None → is_drained t.state ≡ true → n ≤ t.state.retired
all_retired l x0 t n h e d = go (h.far e)
  where
    w : way (isa_of l) t.state h.held.machine ≡ begin t.state h.held.machine
    w = ap (λ (u : List Item). walk (past (isa_of l)) u (begin t.state h.held.machine)) (empty_column t.state d)

    go : (n ≤ t.state.retired + (way (isa_of l) t.state h.held.machine).count) ⊎ ((way (isa_of l) t.state h.held.machine).stop ≡ true) → n ≤ t.state.retired
    go (inl z) = let c : (way (isa_of l) t.state h.held.machine).count ≡ 0 = ap (λ (u : Way). u.count) w in omega (arith, z, c)
    go (inr z) = absurd (clash (sym (ap (λ (u : Way). u.stop) w) ∙ z))
      where
        clash : false ≡ true → ⊥
        clash e = cc
