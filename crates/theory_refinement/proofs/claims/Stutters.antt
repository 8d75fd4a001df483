-- Move by move: seen from outside, a move either is not a step of the sequential machine or is exactly its next one.
use Rattle.std.proofs.Common.{◌≡◌, ℕ, suc, ◌+◌, List, [], ◌∷◌, ◌++◌, Some, None, Bool, true, false, refl, sym, ap, subst, ◌∙◌, arith, ◌⊎◌, inl, inr}
use Rattle.rv_machine.specs.After.{after}
use Rattle.rv_machine.specs.Call.{Called}
use Rattle.rv_machine.specs.Call as called
use Rattle.rv_machine.specs.Machine.{Machine}
use Rattle.cf_layout.specs.Layout.{Plan}
use Rattle.cf_bind.specs.declared.moves.Move.{Move}
use Rattle.cf_bind.specs.declared.moves.Move.TheVariants.{Access, Climb, Emit, Execute, Exit, Fall, Issue, Launch, Leave, Meet, Recover, Send, Serve, Slide}
use Rattle.cf_bind.specs.declared.passenger.End.{End}
use Rattle.cf_semantics.specs.moves.Bars.{bar}
use Rattle.cf_semantics.specs.state.Column.{Down, Item, Up, column}
use Rattle.cf_semantics.specs.moves.Instructions.{Goes, after_step, serve_of, step_at, step_here}
use Rattle.cf_semantics.specs.state.Layouts.{isa_of}
use Rattle.cf_semantics.specs.runs.Lines.{lines_at, retires}
use Rattle.cf_semantics.specs.moves.Moves.{moved, next, served}
use Rattle.cf_semantics.specs.state.Passengers.{instruction}
use Rattle.cf_semantics.specs.claims.Refines.{gained}
use Rattle.cf_semantics.specs.state.State.{Moment, State}
use Rattle.cf_semantics.specs.claims.Stutters.{NothingRetires, OneStored, StepsRetired, StepsSpoken, StepsStored, Stutters}
use Rattle.cf_semantics.specs.claims.Walks.{Everywhere, walk}
use Rattle.cf_semantics.specs.claims.Ahead as ahead
use Rattle.cf_semantics.specs.claims.Path as trail
use Rattle.theory_refinement.proofs.invariant.Invariant.{HoldsAfter, HoldsAt, IsOver, Sound}
use Rattle.theory_refinement.proofs.invariant.Stands.{Each}
use Rattle.theory_refinement.proofs.invariant.Suited.{Suits}
use Rattle.theory_refinement.proofs.invariant.Port as dock
use Rattle.theory_refinement.proofs.invariant.Sure as sure
use Rattle.theory_refinement.proofs.walks.Answering.{walk_risky}
use Rattle.theory_refinement.proofs.moves.Access.{access_scene, next_access}
use Rattle.theory_refinement.proofs.claims.Ahead.{OnPath, dead_on, live_on, result_past, sure_pc}
use Rattle.theory_refinement.proofs.column.Change.{past_safe}
use Rattle.theory_refinement.proofs.column.Fold.{fit_front}
use Rattle.theory_refinement.proofs.claims.OnPath.{Out, out_above, quiet_unmoved}
use Rattle.theory_refinement.proofs.moves.Rows.{bar_row}
use Rattle.theory_refinement.proofs.moves.Leave.{Left, at_top, leave_kept}
use Rattle.theory_refinement.proofs.claims.Lines.{gained_is}
use Rattle.theory_refinement.proofs.walks.Order.{past_path}
use Rattle.theory_refinement.proofs.walks.PathServe.{after_call}
use Rattle.theory_refinement.proofs.claims.Runs.{Counts, access_counts, climb_counts, emit_counts, execute_counts, exit_counts, fall_counts, going, issue_counts, launch_counts, meet_counts, recover_counts, send_counts, serve_counts, slide_counts}
use Rattle.theory_refinement.proofs.moves.Serve.{Serves, next_serve, scene, serve_ready, sure_step}
use Rattle.theory_refinement.proofs.column.Sorted.{Sorted, over, sorted}
use Rattle.theory_refinement.proofs.walks.Stands.{each_front}

-- count, registers and ending
access_regs : (l : Plan) (s : State) → (moved l s Access).regs ≡ s.regs
unfolding moved
access_regs l s = grind arith

serve_regs : (l : Plan) (m : Moment) → (next l m Serve).state.regs ≡ m.state.regs
unfolding next
serve_regs l m = grind arith

nothing : (s t : State) → Counts s t → t.regs ≡ s.regs → NothingRetires s t
nothing s t c r = record { retired = c.retired; regs = r; ending = c.ending }

leave_steps : (l : Plan) (m : Moment) (x : Machine) → m.state.regs ≡ x.hart.regs → Left l m.state (moved l m.state Leave) m.rest m.output x →
    StepsRetired (isa_of l) x m Leave (record m { state = moved l m.state Leave })
leave_steps l m x r h = go h.how
  where
    s : State
    s = m.state

    t : State
    t = moved l m.state Leave

    go : ((t.ending ≡ s.ending) × (t.retired ≡ s.retired) × (retires l s Leave ≡ []) × Sound l t m.rest m.output x)
        ⊎ (((y : Machine) × (step_here (isa_of l) x ≡ Goes y) × (t.ending ≡ s.ending) × (t.retired ≡ suc s.retired)
        × (retires l s Leave ≡ lines_at (isa_of l) x) × Sound l t m.rest m.output y) ⊎ ((e : End) × (t.ending ≡ Some e) × (t.retired ≡ s.retired)
        × (retires l s Leave ≡ []) × IsOver l t m.rest m.output x e)) → StepsRetired (isa_of l) x m Leave (record m { state = t })
    go (inl q) = inl (record { retired = q.1; regs = q.3.regs ∙ sym r; ending = q.0 })
    go (inr (inl q)) = inr (refl, inl (record { later = q.0; step = q.1; retired = q.3 ∙ omega arith; before = r; regs = q.5.regs; ending = q.2 }))
    go (inr (inr q)) = inr (refl, inr (record { end = q.0; step = q.4.stops; ending = q.1; retired = q.2; regs = q.4.regs ∙ sym r }))

retired_steps : (l : Plan) (m : Moment) (x : Machine) (mv : Move) → bar l m.state mv ≡ None → Sound l m.state m.rest m.output x →
    StepsRetired (isa_of l) x m mv (next l m mv)
unfolding next
retired_steps l m x (Issue g) e h = inl (nothing m.state _ (issue_counts l m.state g) (quiet_unmoved l m.state (Issue g) (λ z. absurd (cc)) (λ z. absurd (cc))
    (λ z. absurd (cc))).regs)
retired_steps l m x Emit e h = inl (nothing m.state _ (emit_counts l m.state) (quiet_unmoved l m.state Emit (λ z. absurd (cc)) (λ z. absurd (cc))
    (λ z. absurd (cc))).regs)
retired_steps l m x (Climb i) e h = inl (nothing m.state _ (climb_counts l m.state i) (quiet_unmoved l m.state (Climb i) (λ z. absurd (cc)) (λ z. absurd (cc))
    (λ z. absurd (cc))).regs)
retired_steps l m x (Fall i) e h = inl (nothing m.state _ (fall_counts l m.state i) (quiet_unmoved l m.state (Fall i) (λ z. absurd (cc)) (λ z. absurd (cc))
    (λ z. absurd (cc))).regs)
retired_steps l m x (Meet i) e h = inl (nothing m.state _ (meet_counts l m.state i) (quiet_unmoved l m.state (Meet i) (λ z. absurd (cc)) (λ z. absurd (cc))
    (λ z. absurd (cc))).regs)
retired_steps l m x (Execute i) e h = inl (nothing m.state _ (execute_counts l m.state i) (quiet_unmoved l m.state (Execute i) (λ z. absurd (cc))
    (λ z. absurd (cc)) (λ z. absurd (cc))).regs)
retired_steps l m x (Send i) e h = inl (nothing m.state _ (send_counts l m.state i) (quiet_unmoved l m.state (Send i) (λ z. absurd (cc)) (λ z. absurd (cc))
    (λ z. absurd (cc))).regs)
retired_steps l m x (Launch i) e h = inl (nothing m.state _ (launch_counts l m.state i) (quiet_unmoved l m.state (Launch i) (λ z. absurd (cc))
    (λ z. absurd (cc)) (λ z. absurd (cc))).regs)
retired_steps l m x (Slide j c) e h = inl (nothing m.state _ (slide_counts l m.state j c) (quiet_unmoved l m.state (Slide j c) (λ z. absurd (cc))
    (λ z. absurd (cc)) (λ z. absurd (cc))).regs)
retired_steps l m x Access e h = inl (nothing m.state _ (access_counts l m.state) (access_regs l m.state))
retired_steps l m x (Recover i) e h = inl (nothing m.state _ (recover_counts l m.state i) (quiet_unmoved l m.state (Recover i) (λ z. absurd (cc))
    (λ z. absurd (cc)) (λ z. absurd (cc))).regs)
retired_steps l m x Leave e h = leave_steps l m x h.regs (leave_kept l m.state x e h)
retired_steps l m x Exit e h = inl (nothing m.state _ (exit_counts l m.state) (quiet_unmoved l m.state Exit (λ z. absurd (cc)) (λ z. absurd (cc))
    (λ z. absurd (cc))).regs)
retired_steps l m x Serve e h = inl (nothing m.state _ (serve_counts l m) (serve_regs l m))

-- what a Serve does: the environment answers as it answers the machine, or ends the program
record Served (l : Plan) (m : Moment) (x : Machine) : Type 0 where
  spoken : StepsSpoken (isa_of l) x m Serve (next l m Serve)
  stored : (start : Machine) → after (isa_of l) start (gained start m.state) ≡ Some x → StepsStored (isa_of l) start m Serve (next l m Serve)

serve_steps : (l : Plan) (m : Moment) (x : Machine) → bar l m.state Serve ≡ None → Sound l m.state m.rest m.output x → Served l m x
serve_steps l m x e h =
    let r = serve_ready l m.state (bar_row l m.state Serve e) in
    let c = scene l m.state x r h in
    let a = serve_of (instruction r.who) m.state.regs m.state.mem m.rest in
    let f : serve_of (instruction r.who) x.hart.regs x.hart.mem x.rest ≡ a = rw (← h.regs, ← c.mem, ← c.input) refl in
    by r a (next_serve l m r.here r.who a r.at_here r.sits refl) f c.certain c.mem c.input c.output
  where
    by : (r : Serves l m.state) (a : Called) → next l m Serve ≡ served m l.stages r.here r.who a →
        serve_of (instruction r.who) x.hart.regs x.hart.mem x.rest ≡ a
        → sure.SureAt (isa_of l) r.who (trail.top m.state x) → m.state.mem ≡ x.hart.mem → m.rest ≡ x.rest → m.output ≡ x.output → Served l m x
    by r (called.Value a) n f certain mem input output =
        let y : Machine = after_call x (instruction r.who) r.who.pc a in
        let g : step_here (isa_of l) x ≡ Goes y = at_top (isa_of l) r.who (trail.top m.state x) refl certain
        ∙ sure_step (isa_of l) r.who (trail.top m.state x) a r.serial f certain in
        record {
          spoken = inr (
            refl,
            record {
              later = y;
              step = g;
              rest_before = input;
              output_before = output;
              rest = ap (λ (z : Moment). z.rest) n;
              output = ap (λ (z : Moment). z.output) n ∙ ap (λ (o : List ℕ). o ++ a.output) output;
            },
          );
          stored = λ start count. inr (
            inr refl,
            record {
              number = gained start m.state;
              ahead = omega arith;
              at = x;
              count = count;
              later = y;
              step = g;
              before = mem;
              mem = ap (λ (z : Moment). z.state.mem) n;
            },
          );
        }
    by r (called.Exit z) n f certain mem input output = record {
      spoken = inl (record { rest = ap (λ (z : Moment). z.rest) n; output = ap (λ (z : Moment). z.output) n });
      stored = λ start count. inl (ap (λ (z : Moment). z.state.mem) n);
    }

-- input and output
spoken_steps : (l : Plan) (m : Moment) (x : Machine) (mv : Move) → bar l m.state mv ≡ None → Sound l m.state m.rest m.output x →
    StepsSpoken (isa_of l) x m mv (next l m mv)
unfolding next
spoken_steps l m x (Issue g) e h = inl (record { rest = refl; output = refl })
spoken_steps l m x Emit e h = inl (record { rest = refl; output = refl })
spoken_steps l m x (Climb i) e h = inl (record { rest = refl; output = refl })
spoken_steps l m x (Fall i) e h = inl (record { rest = refl; output = refl })
spoken_steps l m x (Meet i) e h = inl (record { rest = refl; output = refl })
spoken_steps l m x (Execute i) e h = inl (record { rest = refl; output = refl })
spoken_steps l m x (Send i) e h = inl (record { rest = refl; output = refl })
spoken_steps l m x (Launch i) e h = inl (record { rest = refl; output = refl })
spoken_steps l m x (Slide j c) e h = inl (record { rest = refl; output = refl })
spoken_steps l m x Access e h = inl (record { rest = refl; output = refl })
spoken_steps l m x (Recover i) e h = inl (record { rest = refl; output = refl })
spoken_steps l m x Leave e h = inl (record { rest = refl; output = refl })
spoken_steps l m x Exit e h = inl (record { rest = refl; output = refl })
spoken_steps l m x Serve e h = (serve_steps l m x e h).spoken

-- the machine after the live instructions of the column, as long as nothing bars the path
path_on : (l : Plan) (m : Machine) (n : ℕ) (xs : List Item) (w : dock.Dock) (t : ahead.PortTally) → Each l xs →
    Everywhere (sure.Fits (isa_of l)) (trail.past (isa_of l)) xs w.path → Everywhere (dock.Fits (isa_of l)) (dock.past (isa_of l)) xs w →
    (w.path.barred ≡ true → w.risky ≡ true) → Out xs → (walk (dock.past (isa_of l)) xs w).risky ≡ false → OnPath (isa_of l) m n w t →
    OnPath (isa_of l) m n (walk (dock.past (isa_of l)) xs w) (walk ahead.counted xs t)
path_on l m n [] w t ea fp fd g out r h = h
path_on l m n (Up i p ∷ xs) w t ea fp fd g out r h =
    path_on l m n xs (dock.past (isa_of l) (Up i p) w) (ahead.counted (Up i p) t) ea.1 (rw (past_path (isa_of l) (Up i p) w) fp.1) fd.1
    (past_safe (isa_of l) (Up i p) w g) out.1 r (by p.dead refl)
  where
    by : (d : Bool) → p.dead ≡ d → OnPath (isa_of l) m n (dock.past (isa_of l) (Up i p) w) (ahead.counted (Up i p) t)
    by true d = dead_on (isa_of l) m n i p w t d h
    by false d = live_on l m n i p w t ea.0 fp.0 fd.0 g d (walk_risky (isa_of l) xs (dock.past (isa_of l) (Up i p) w) r) out.0 h
path_on l m n (Down i k ∷ xs) w t ea fp fd g out r h =
    let q = result_past (isa_of l) i k w t in
    path_on l m n xs (dock.past (isa_of l) (Down i k) w) (ahead.counted (Down i k) t) ea (rw (past_path (isa_of l) (Down i k) w) fp.1) fd.1
    (past_safe (isa_of l) (Down i k) w g) out r
    (record {
      so_far = ap (λ (y : ahead.PortTally). after (isa_of l) m (n + y.live)) q.4 ∙ h.so_far ∙ ap Some (sym q.0);
      goto = q.1 ∙ h.goto
          ∙ ap (λ (y : Machine). Some y.hart.pc) (sym q.0);
    })

-- the memory
access_steps : {rest out : List ℕ} (l : Plan) (start : Machine) (s : State) (x : Machine) → Suits l → after (isa_of l) start (gained start s) ≡ Some x →
    bar l s Access ≡ None → Sound l s rest out x → OneStored (isa_of l) start s (moved l s Access)
access_steps {rest} {out} l start s x acc count e h =
    let z = access_scene l s x acc e h in
    let f = z.first in
    let p = f.who in
    let i = f.stage in
    let was : column s ≡ f.above ++ ((Up i p ∷ []) ++ f.below) = f.was in
    let each = rw was at h.stands in
    let ea = each_front l f.above ((Up i p ∷ []) ++ f.below) each in
    let out = out_above l i f.above acc z.range.0 (over f.above f.below i p (subst Sorted was (sorted 1 s.cells))) ea in
    let u = walk (dock.past (isa_of l)) f.above (dock.top l s x) in
    let none : gained start s + 0 ≡ gained start s = omega arith in
    let on = path_on l start (gained start s) f.above (dock.top l s x) (ahead.uncounted l s) ea
    (fit_front _ (sure.Fits (isa_of l)) (trail.past (isa_of l)) f.above ((Up i p ∷ []) ++ f.below) _ (rw was at h.path_fit))
    (fit_front _ (dock.Fits (isa_of l)) (dock.past (isa_of l)) f.above ((Up i p ∷ []) ++ f.below) _ (rw was at h.port_fit)) (λ b. absurd (cc)) out z.calm
    (record { so_far = ap (after (isa_of l) start) none ∙ count; goto = refl }) in
    let y = after_step (step_at (isa_of l) u.path.machine p.pc) u.path.machine in
    record {
      number = gained start s + (walk ahead.counted f.above (ahead.uncounted l s)).live;
      ahead = omega arith;
      at = u.path.machine;
      count = on.so_far;
      later = y;
      step = ap (step_at (isa_of l) u.path.machine) (sym (sure_pc (isa_of l) p u.path u.path.machine.hart.pc on.goto z.certain)) ∙ z.goes;
      before = z.before;
      mem = ap (λ (t : State). t.mem) (next_access l s z.ready.what z.ready.lies) ∙ z.stored;
    }

stored_steps : (l : Plan) (start : Machine) (m : Moment) (x : Machine) (mv : Move) → Suits l → after (isa_of l) start (gained start m.state) ≡ Some x →
    bar l m.state mv ≡ None → Sound l m.state m.rest m.output x → StepsStored (isa_of l) start m mv (next l m mv)
unfolding next
stored_steps l start m x (Issue g) acc c e h = inl (quiet_unmoved l m.state (Issue g) (λ z. absurd (cc)) (λ z. absurd (cc)) (λ z. absurd (cc))).mem
stored_steps l start m x Emit acc c e h = inl (quiet_unmoved l m.state Emit (λ z. absurd (cc)) (λ z. absurd (cc)) (λ z. absurd (cc))).mem
stored_steps l start m x (Climb i) acc c e h = inl (quiet_unmoved l m.state (Climb i) (λ z. absurd (cc)) (λ z. absurd (cc)) (λ z. absurd (cc))).mem
stored_steps l start m x (Fall i) acc c e h = inl (quiet_unmoved l m.state (Fall i) (λ z. absurd (cc)) (λ z. absurd (cc)) (λ z. absurd (cc))).mem
stored_steps l start m x (Meet i) acc c e h = inl (quiet_unmoved l m.state (Meet i) (λ z. absurd (cc)) (λ z. absurd (cc)) (λ z. absurd (cc))).mem
stored_steps l start m x (Execute i) acc c e h = inl (quiet_unmoved l m.state (Execute i) (λ z. absurd (cc)) (λ z. absurd (cc)) (λ z. absurd (cc))).mem
stored_steps l start m x (Send i) acc c e h = inl (quiet_unmoved l m.state (Send i) (λ z. absurd (cc)) (λ z. absurd (cc)) (λ z. absurd (cc))).mem
stored_steps l start m x (Launch i) acc c e h = inl (quiet_unmoved l m.state (Launch i) (λ z. absurd (cc)) (λ z. absurd (cc)) (λ z. absurd (cc))).mem
stored_steps l start m x (Slide j k) acc c e h = inl (quiet_unmoved l m.state (Slide j k) (λ z. absurd (cc)) (λ z. absurd (cc)) (λ z. absurd (cc))).mem
stored_steps l start m x Access acc c e h = inr (inl refl, access_steps l start m.state x acc c e h)
stored_steps l start m x (Recover i) acc c e h = inl (quiet_unmoved l m.state (Recover i) (λ z. absurd (cc)) (λ z. absurd (cc)) (λ z. absurd (cc))).mem
stored_steps l start m x Leave acc c e h = inl (leave_mem l m.state)
  where
    leave_mem : (l : Plan) (s : State) → (moved l s Leave).mem ≡ s.mem
    leave_mem l s = unfold moved in grind arith
stored_steps l start m x Exit acc c e h = inl (quiet_unmoved l m.state Exit (λ z. absurd (cc)) (λ z. absurd (cc)) (λ z. absurd (cc))).mem
stored_steps l start m x Serve acc c e h = (serve_steps l m x e h).stored start c

-- of every allowed move of a moment at which the invariant holds
pub stutters : (l : Plan) (start : Machine) (m : Moment) (mv : Move) → Suits l → bar l m.state mv ≡ None → HoldsAfter l start m → Stutters l start m mv
stutters l start m mv acc e h =
    let sound : Sound l m.state m.rest m.output h.machine = subst (HoldsAt l m.state m.rest m.output h.machine) (going l m.state mv e) h.stage in
    let count : after (isa_of l) start (gained start m.state) ≡ Some h.machine = ap (after (isa_of l) start) (gained_is l start m h) ∙ h.after in
    record {
      at = h.machine;
      count = count;
      retired = retired_steps l m h.machine mv e sound;
      spoken = spoken_steps l m h.machine mv e sound;
      stored = stored_steps l start m h.machine mv acc count e sound;
    }
