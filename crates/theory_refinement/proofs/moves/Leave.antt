-- Leave keeps the invariant, or ends the program.
use Rattle.rv_inst.specs.declared.instruction.Instr.{Instr}
use Rattle.cf_semantics.specs.moves.Fetches.{code_of}
use Rattle.std.proofs.Common.{◌≡◌, ℕ, zero, suc, ◌+◌, ◌<◌, List, [], ◌∷◌, ◌++◌, Option, Some, None, Bool, true, false, ◌||◌, refl, sym, ap, subst, ◌∙◌, arith, length, ◌⊎◌, inl, inr}
use Rattle.std.specs.Prelude.{if◌then◌else◌, slice_index}
use Rattle.std.proofs.lemmas.List.{get_or-set_same}
use Rattle.cf_bind.specs.declared.binding.Binding.{Binding}
use Rattle.cf_bind.specs.declared.cell.Cell.{Cell}
use Rattle.cf_bind.specs.declared.moves.Bar.TheVariants.{NoSuchSite}
use Rattle.cf_bind.specs.declared.moves.Move.TheVariants.{Leave}
use Rattle.cf_bind.specs.declared.passenger.End.{End}
use Rattle.cf_bind.specs.declared.passenger.Passenger.{Passenger}
use Rattle.cf_layout.specs.Layout.{Plan}
use Rattle.theory_refinement.proofs.walks.Answering.{sure_mem}
use Rattle.theory_refinement.proofs.column.Change.{ends_lone, ends_path, ends_port, keeps_path}
use Rattle.theory_refinement.proofs.column.Column.{rider_first, rider_gone, top_cell}
use Rattle.theory_refinement.proofs.column.Fold.{fit_follows, walk_follows}
use Rattle.theory_refinement.proofs.moves.Rows.{bar_row, put_size}
use Rattle.theory_refinement.proofs.instructions.Memory.{memory_steps}
use Rattle.theory_refinement.proofs.walks.Port.{ported_calm}
use Rattle.theory_refinement.proofs.walks.Quiet.{Unchanged, quiet}
use Rattle.theory_refinement.proofs.instructions.OwnLines.{got, own_line}
use Rattle.theory_refinement.proofs.instructions.Steps.{step_wide, step_writes, sure_dst_below, sure_leaves, word_is}
use Rattle.theory_refinement.proofs.invariant.Invariant.{IsOver, Sound}
use Rattle.theory_refinement.proofs.invariant.Stands.{Stands}
use Rattle.cf_semantics.specs.moves.Bars.{bar, is_full, leave_bar, row_bar}
use Rattle.cf_semantics.specs.state.Column.{Down, Item, Up, column, column_from, packet_in}
use Rattle.cf_semantics.specs.moves.Instructions.{Bad, Fetched, Goes, Got, StepResult, Stops, after_step, dst_of, fetched, is_memory, is_serial, step_at, step_here, value_written}
use Rattle.cf_semantics.specs.state.Layouts.{isa_of}
use Rattle.cf_semantics.specs.runs.Lines.{Line, line_of, lines_at, retired_by, retires, row}
use Rattle.cf_semantics.specs.moves.Moves.{left, moved, without_passenger, written}
use Rattle.cf_semantics.specs.state.Options.{on}
use Rattle.cf_semantics.specs.state.Passengers.{kind, missing, reg_in}
use Rattle.cf_semantics.specs.state.State.{State, cell_at, put_cell, with_cell}
use Rattle.cf_semantics.specs.claims.Walks.{Everywhere, walk}
use Rattle.rv_inst.specs.declared.isa.Isa.{Isa}
use Rattle.rv_machine.specs.Machine.{Machine}
use Rattle.cf_semantics.specs.claims.Ahead as ahead
use Rattle.theory_refinement.proofs.invariant.Port as dock
use Rattle.theory_refinement.proofs.invariant.Lone as lone
use Rattle.theory_refinement.proofs.walks.Lone as lones
use Rattle.theory_refinement.proofs.walks.Path as paths
use Rattle.theory_refinement.proofs.walks.Port as ports
use Rattle.theory_refinement.proofs.invariant.Sure as sure
use Rattle.cf_semantics.specs.claims.Path as trail
use Rattle.cf_semantics.specs.claims.Soundness.{HasValue, Holds, IsKnown, in_siding, operations_of}
use Rattle.theory_refinement.proofs.walks.Path.{sure_at}

pub record Leaves (l : Plan) (s : State) : Type 0 where
  pub here : Cell
  pub who : Passenger
  pub at_here : cell_at s.cells l.stages ≡ Some here
  pub sits : here.passenger ≡ Some who
  pub clear : is_full here ≡ false
  pub nothing : who.owes ≡ None
  pub over : who.dead ≡ false → who.done ≡ true
  pub back : who.launched ≡ true → who.recovered ≡ true

pub leave_ready : (l : Plan) (s : State) → row_bar l s Leave ≡ None → Leaves l s
leave_ready l s e = go (cell_at s.cells l.stages) refl e
  where
    inner : (c : Cell) (o : Option Passenger) → cell_at s.cells l.stages ≡ Some c → c.passenger ≡ o → leave_bar c ≡ None → Leaves l s
    inner c None f h e = absurd (grind arith)
    inner c (Some p) f h e =
        record { here = c; who = p; at_here = f; sits = h; clear = grind arith; nothing = grind arith; over = λ d. grind arith; back = λ d. grind arith }

    go : (a : Option Cell) → cell_at s.cells l.stages ≡ a → on a (Some NoSuchSite) leave_bar ≡ None → Leaves l s
    go None f e = absurd (cc)
    go (Some c) f e = inner c c.passenger f refl e

pub next_leave : (l : Plan) (s : State) (c : Cell) (p : Passenger) → cell_at s.cells l.stages ≡ Some c → c.passenger ≡ Some p →
    moved l s Leave ≡ left s l.stages c p
unfolding moved
next_leave l s c p e f = rw (e, f)

-- the registers after it
written_is : (o : Option Binding) (d : Option ℕ) (v : ℕ) (regs : List ℕ) → length regs ≡ 32 → ((r : ℕ) → d ≡ Some r → r < 32) → reg_in o ≡ d → IsKnown o →
    HasValue o (value_written regs d v) → written regs o ≡ value_written regs d v
written_is None d v regs l b e k a = rw (← e)
written_is (Some o) d v regs l b e k a =
    let u = a k.0 k.1 in
    let u' : k.0 ≡ v = u ∙ rw (← e) (get_or-set_same regs o.reg v 0 (rw l (b o.reg (sym e)))) in
    rw (k.1, ← e, u')

leave_regs : (isa : Isa) (p : Passenger) (x : Machine) (g : Option ℕ) → length x.hart.regs ≡ 32 → p.done ≡ true → p.ending ≡ None →
    sure.IsSure isa p x (step_at isa x p.pc) g → written x.hart.regs p.dst ≡ (after_step (step_at isa x p.pc) x).hart.regs
leave_regs isa p x g l d n h = go (fetched isa x.hart.mem p.pc) refl h.reads
  where
    go : (q : Fetched) → fetched isa x.hart.mem p.pc ≡ q → Holds p q → written x.hart.regs p.dst ≡ (after_step (step_at isa x p.pc) x).hart.regs
    go (Got i) f w =
        let y = step_writes isa x p.pc i (after_step (step_at isa x p.pc) x) f (h.values.goes d n) in
        written_is p.dst (dst_of i) y.0 x.hart.regs l (sure_dst_below isa p x (step_at isa x p.pc) g i w h) (h.shape i w).three (h.values.done d n)
        (rw y.1 at h.values.destination) ∙ sym y.1
    go (Bad b) f w = absurd (let z = sym n ∙ w.1 in cc)

sure_regs : (isa : Isa) (p : Passenger) (w : trail.Walk) → length w.machine.hart.regs ≡ 32 → p.done ≡ true → p.ending ≡ None → sure.SureAt isa p w →
    written w.machine.hart.regs p.dst ≡ (after_step (step_at isa w.machine p.pc) w.machine).hart.regs
unfolding sure.SureAt
sure_regs isa p w l d n h = leave_regs isa p w.machine w.goto l d n h.0

-- the machine's step is that of the instruction
pub at_top : (isa : Isa) (p : Passenger) (w : trail.Walk) → w.goto ≡ Some w.machine.hart.pc → sure.SureAt isa p w →
    step_here isa w.machine ≡ step_at isa w.machine p.pc
unfolding sure.SureAt
at_top isa p w e h = let q : w.machine.hart.pc ≡ p.pc = same (sym e ∙ h.0.path) in ap (λ (a : ℕ). step_at isa w.machine a) q
  where
    same : Some w.machine.hart.pc ≡ Some p.pc → w.machine.hart.pc ≡ p.pc
    same e = cc

pub sure_goes : (isa : Isa) (p : Passenger) (w : trail.Walk) → p.done ≡ true → p.ending ≡ None → sure.SureAt isa p w →
    (step_at isa w.machine p.pc ≡ Goes (after_step (step_at isa w.machine p.pc) w.machine))
    × (p.next ≡ Some (after_step (step_at isa w.machine p.pc) w.machine).hart.pc)
unfolding sure.SureAt
sure_goes isa p w d n h = (h.0.values.goes d n, h.0.values.next d n)

pub sure_stops : (isa : Isa) (p : Passenger) (w : trail.Walk) (e : End) → p.ending ≡ Some e → sure.SureAt isa p w → step_at isa w.machine p.pc ≡ Stops e
unfolding sure.SureAt
sure_stops isa p w e n h = h.0.values.ends e n

-- what is left of the invariant once the highest instruction is gone
gone : {rest out : List ℕ} (l : Plan) (s t : State) (x y : Machine) (n : ℕ) (p : Passenger) (below : List Item) → column s ≡ Up n p ∷ below → column t ≡ below →
    t.fetch ≡ s.fetch → t.cache ≡ s.cache → length t.cells ≡ length s.cells → t.regs ≡ y.hart.regs → length y.hart.regs ≡ 32 → t.sidings ≡ s.sidings →
    t.mem ≡ s.mem → ((k : ℕ) → in_siding l k p ≡ false) → paths.Follows (trail.past (isa_of l) (Up n p) (trail.top s x)) (trail.top t y) →
    ports.Follows (dock.past (isa_of l) (Up n p) (dock.top l s x)) (dock.top l t y) → Sound l s rest out x → Sound l t rest out y
gone {rest} {out} l s t x y n p below was is ef ec es er el ei em nf fp fd h =
    let fit = rw was at h.path_fit in
    let shut = rw was at h.lone_fit in
    let docks = rw was at h.port_fit in
    let a = walk_follows _ (sure.Fits (isa_of l)) (trail.past (isa_of l)) paths.Follows (paths.path_walk (isa_of l)) below _ _ fp fit.1 in
    let fl : lones.Follows (lone.past l (Up n p) false) false = record { shut = λ e. absurd (cc) } in
    let b = walk_follows _ lone.Fits (lone.past l) lones.Follows (lones.lone_walk l) below _ _ fl shut.1 in
    let d = walk_follows _ (dock.Fits (isa_of l)) (dock.past (isa_of l)) ports.Follows (ports.port_walk (isa_of l)) below _ _ fd docks.1 in
    let stands = rw was at h.stands in
    record {
      regs = er;
      wide = el;
      size = es ∙ h.size;
      path_fit = rw is (fit_follows _ (sure.Fits (isa_of l)) (trail.past (isa_of l)) paths.Follows (paths.path_walk (isa_of l)) below _ _ fp fit.1);
      path_ends = rw (is, ef) (ends_path _ _ s.fetch a (rw was at h.path_ends));
      cache = rw (is, ec) (keeps_path _ _ s.cache a (rw was at h.cache));
      lone_fit = rw is (fit_follows _ lone.Fits (lone.past l) lones.Follows (lones.lone_walk l) below _ _ fl shut.1);
      lone_ends = rw (is, ef) (ends_lone _ _ s.fetch b (rw was at h.lone_ends));
      stands = rw is stands.1;
      port_fit = rw is (fit_follows _ (dock.Fits (isa_of l)) (dock.past (isa_of l)) ports.Follows (ports.port_walk (isa_of l)) below _ _ fd docks.1);
      port_ends = rw (is, em) (ends_port _ _ s.mem rest out d (rw was at h.port_ends));
      moored = rw (is, ei) (record {
        operations = λ k. h.moored.operations k ∙ ap (operations_of l k) was ∙ skip k (nf k);
        front = h.moored.front;
        plain = h.moored.plain;
        berths =
            h.moored.berths;
      });
    }
  where
    skip : (k : ℕ) → in_siding l k p ≡ false → operations_of l k (Up n p ∷ below) ≡ operations_of l k below
    skip k e = rw e refl

not_out : (l : Plan) (k : ℕ) (p : Passenger) → (p.launched ≡ true → p.recovered ≡ true) → in_siding l k p ≡ false
not_out l k p f = go p.launched refl
  where
    go : (b : Bool) → p.launched ≡ b → in_siding l k p ≡ false
    go true e = let z = f e in rw (e, z) refl
    go false e = rw e refl

-- a dead instruction
pub dead_path : (isa : Isa) (s t : State) (n : ℕ) (p : Passenger) (x : Machine) → t.lane ≡ s.lane → p.dead ≡ true →
    paths.Follows (trail.past isa (Up n p) (trail.top s x)) (trail.top t x)
unfolding trail.past
dead_path isa s t n p x e d = grind arith

dead_port : (l : Plan) (s t : State) (n : ℕ) (p : Passenger) (x : Machine) → t.sidings ≡ s.sidings → p.dead ≡ true → ahead.flies p ≡ false →
    paths.Follows (trail.past (isa_of l) (Up n p) (trail.top s x)) (trail.top t x) → ports.Follows (dock.past (isa_of l) (Up n p) (dock.top l s x))
    (dock.top l t x)
unfolding dock.past
dead_port l s t n p x e d f q =
    let a : ahead.has_ported p (dock.top l s x).answer ≡ false = grind arith in
    let b : ahead.has_served p ≡ false = grind arith in
    record {
      path = q;
      safe = λ z. absurd (cc);
      risky = λ z. absurd (cc);
      mem = rw a refl;
      code = rw b refl;
      rest = rw b refl;
      out = rw b refl;
      answer =
          rw (e, f) refl;
    }

not_flies : (p : Passenger) → (p.launched ≡ true → p.recovered ≡ true) → ahead.flies p ≡ false
not_flies p f = go p.launched refl
  where
    go : (b : Bool) → p.launched ≡ b → ahead.flies p ≡ false
    go true e = let z = f e in grind arith
    go false e = grind arith

-- a live instruction that goes on
pub live_path : (isa : Isa) (s t : State) (n : ℕ) (p : Passenger) (x y : Machine) → y ≡ after_step (step_at isa x p.pc) x → t.lane ≡ s.lane → p.dead ≡ false →
    p.done ≡ true → p.ending ≡ None → p.owes ≡ None → p.next ≡ Some y.hart.pc → paths.Follows (trail.past isa (Up n p) (trail.top s x)) (trail.top t y)
unfolding trail.past
live_path isa s t n p x y e l d u z o m = grind arith

-- the port is ahead by this one step
kept_if : {A : Type 0} (b : Bool) (y x : A) → (b ≡ false → y ≡ x) → y ≡ (if b then y else x)
kept_if true y x f = refl
kept_if false y x f = f refl

unported_mem : (l : Plan) (p : Passenger) (w : trail.Walk) (n : ℕ) (a : Option ℕ) → p.dead ≡ false → p.done ≡ true → p.ending ≡ None →
    (p.launched ≡ true → p.recovered ≡ true) → Stands l n p → sure.SureAt (isa_of l) p w → ahead.has_ported p a ≡ false →
    (after_step (step_at (isa_of l) w.machine p.pc) w.machine).hart.mem ≡ w.machine.hart.mem
unported_mem l p w n a d u z b s h e = go (is_memory (kind p)) (is_serial (kind p)) refl refl
  where
    go : (c q : Bool) → is_memory (kind p) ≡ c → is_serial (kind p) ≡ q → (after_step (step_at (isa_of l) w.machine p.pc) w.machine).hart.mem
        ≡ w.machine.hart.mem
    go true q f g = absurd (out p.launched refl)
      where
        out : (o : Bool) → p.launched ≡ o → ⊥
        out true k = let j = b k in grind arith
        out false k = let j = s.faulted d f u k in grind arith
    go false true f g = absurd (grind arith)
    go false false f g = sure_mem (isa_of l) p w h f g

unserved : (isa : Isa) (p : Passenger) (w : trail.Walk) → p.dead ≡ false → p.done ≡ true → p.ending ≡ None → sure.SureAt isa p w → ahead.has_served p ≡ false →
    (code_of (after_step (step_at isa w.machine p.pc) w.machine).hart.mem ≡ code_of w.machine.hart.mem)
    × ((after_step (step_at isa w.machine p.pc) w.machine).rest ≡ w.machine.rest) × ((after_step (step_at isa w.machine p.pc) w.machine).output
    ≡ w.machine.output)
unfolding sure.SureAt
unserved isa p w d u z h e =
    let c : is_serial (kind p) ≡ false = go (is_serial (kind p)) refl in
    let k = sure_leaves isa p w.machine w.goto h.0 c in
    (k.code, k.rest, k.out)
  where
    go : (b : Bool) → is_serial (kind p) ≡ b → is_serial (kind p) ≡ false
    go false f = f
    go true f = absurd (grind arith)

live_port : (l : Plan) (s t : State) (n : ℕ) (p : Passenger) (x : Machine) → t.sidings ≡ s.sidings → p.dead ≡ false → p.done ≡ true → p.ending ≡ None →
    (p.launched ≡ true → p.recovered ≡ true) → Stands l n p → sure.SureAt (isa_of l) p (trail.top s x) →
    paths.Follows (trail.past (isa_of l) (Up n p) (trail.top s x)) (trail.top t (after_step (step_at (isa_of l) x p.pc) x)) →
    ports.Follows (dock.past (isa_of l) (Up n p) (dock.top l s x)) (dock.top l t (after_step (step_at (isa_of l) x p.pc) x))
unfolding dock.past
live_port l s t n p x e d u z b k h q =
    let f = not_flies p b in
    let w = trail.top s x in
    record {
      path = q;
      safe = λ a. absurd (cc);
      risky = λ a. absurd (cc);
      mem = kept_if (ahead.has_ported p (dock.top l s x).answer) _ x.hart.mem (unported_mem l p w n (dock.top l s x).answer d u z b k h);
      code = kept_if (ahead.has_served p) _ (code_of x.hart.mem) (λ a. (unserved (isa_of l) p w d u z h a).0);
      rest = kept_if (ahead.has_served p) _ x.rest (λ a. (unserved (isa_of l) p w d u z h a).1);
      out = kept_if (ahead.has_served p) _ x.output (λ a. (unserved (isa_of l) p w d u z h a).2);
      answer = rw (e, f) refl;
    }

-- an instruction that ends the program has not passed the port
ended_out : (isa : Isa) (p : Passenger) (w : dock.Dock) (e : End) → p.ending ≡ Some e → sure.SureAt isa p w.path → dock.DockedAt isa p w →
    missing p.src1 ≡ None → missing p.src2 ≡ None → is_memory (kind p) ≡ true → (p.launched || p.recovered) ≡ true → ⊥
unfolding sure.SureAt dock.DockedAt
ended_out isa p w e n h k m1 m2 c o =
    let q = memory_steps isa p w.path.machine w.path.goto c m1 m2 h.0 in
    let t = k.permitted c o in
    let z = sym (h.0.values.ends e n) ∙ (rw t at q.1) in
    cc

ended_unported : (l : Plan) (n : ℕ) (p : Passenger) (w : dock.Dock) (e : End) → p.ending ≡ Some e → Stands l n p → sure.SureAt (isa_of l) p w.path →
    dock.Fits (isa_of l) (Up n p) w → ahead.has_ported p w.answer ≡ false
unfolding dock.Fits
ended_unported l n p w e f s h k = go (ahead.has_ported p w.answer) refl
  where
    go : (b : Bool) → ahead.has_ported p w.answer ≡ b → ahead.has_ported p w.answer ≡ false
    go false g = g
    go true g = absurd (out p.launched refl)
      where
        out : (o : Bool) → p.launched ≡ o → ⊥
        out true z = ended_out (isa_of l) p w e f h k (s.sourced1 z) (s.sourced2 z) (grind arith) (rw z refl)
        out false z = back p.recovered refl
          where
            back : (q : Bool) → p.recovered ≡ q → ⊥
            back true y = let j = s.back_launched y in cc
            back false y = grind arith

ended_past : (isa : Isa) (n : ℕ) (p : Passenger) (w : dock.Dock) (e : End) → p.dead ≡ false → p.ending ≡ Some e → ahead.has_ported p w.answer ≡ false →
    Unchanged w (dock.past isa (Up n p) w) × ((dock.past isa (Up n p) w).risky ≡ true)
unfolding dock.past
ended_past isa n p w e d f g =
    let s : ahead.has_served p ≡ false = grind arith in
    (record { mem = rw g refl; code = rw s refl; rest = rw s refl; out = rw s refl }, grind arith)

ended_answer : (isa : Isa) (n : ℕ) (p : Passenger) (w : dock.Dock) → ahead.flies p ≡ false → w.answer ≡ (dock.past isa (Up n p) w).answer
unfolding dock.past
ended_answer isa n p w e = rw e refl

past_ported : (isa : Isa) (i : ℕ) (p : Passenger) (w : dock.Dock) (t : ahead.PortTally) → w.risky ≡ true → dock.Fits isa (Up i p) w → t.answer ≡ w.answer →
    ((ahead.counted (Up i p) t).ported ≡ t.ported) × ((ahead.counted (Up i p) t).answer ≡ (dock.past isa (Up i p) w).answer)
unfolding dock.past dock.Fits ahead.counted
past_ported isa i p w t r h e = go (ahead.has_ported p w.answer) refl
  where
    go : (b : Bool) → ahead.has_ported p w.answer ≡ b → ((if ahead.has_ported p t.answer then t.live + 1 else t.ported) ≡ t.ported)
        × ((if ahead.flies p then None else t.answer) ≡ (if ahead.flies p then None else w.answer))
    go true f = absurd (let z = ported_calm isa p w h f in cc)
    go false f = rw (e, f) (refl, refl)

past_result : (isa : Isa) (i : ℕ) (k : _) (w : dock.Dock) (t : ahead.PortTally) → w.risky ≡ true → t.answer ≡ w.answer →
    ((ahead.counted (Down i k) t) ≡ t) × (t.answer ≡ (dock.past isa (Down i k) w).answer) × ((dock.past isa (Down i k) w).risky ≡ true)
unfolding dock.past ahead.counted
past_result isa i k w t r e = (refl, e, rw r refl)

past_risk : (isa : Isa) (i : ℕ) (p : Passenger) (w : dock.Dock) → w.risky ≡ true → (dock.past isa (Up i p) w).risky ≡ true
unfolding dock.past
past_risk isa i p w r = rw r refl

-- below a risk no instruction has passed the port
none_ported : (isa : Isa) (xs : List Item) (w : dock.Dock) (t : ahead.PortTally) → w.risky ≡ true → Everywhere (dock.Fits isa) (dock.past isa) xs w →
    t.answer ≡ w.answer → (walk ahead.counted xs t).ported ≡ t.ported
none_ported isa [] w t r h e = refl
none_ported isa (Up i p ∷ xs) w t r h e =
    let a = past_ported isa i p w t r h.0 e in
    none_ported isa xs (dock.past isa (Up i p) w) (ahead.counted (Up i p) t) (past_risk isa i p w r) h.1 a.1 ∙ a.0
none_ported isa (Down i k ∷ xs) w t r h e =
    let a = past_result isa i k w t r e in
    subst (λ (z : ahead.PortTally). (walk ahead.counted xs z).ported ≡ t.ported) (sym a.0) (none_ported isa xs (dock.past isa (Down i k) w) t a.2 h.1 a.1)

nobody : (l : Plan) (s : State) (c : Cell) → cell_at s.cells l.stages ≡ Some c → on (cell_at (put_cell s.cells l.stages (without_passenger c)) l.stages) 0
    (λ d. on d.passenger 0 (λ p. ahead.one (ahead.has_served p))) ≡ 0
nobody l s c e = go s.cells l.stages c e
  where
    go : (cells : List Cell) (n : ℕ) (c : Cell) → cell_at cells n ≡ Some c → on (cell_at (put_cell cells n (without_passenger c)) n) 0
        (λ d. on d.passenger 0 (λ p. ahead.one (ahead.has_served p))) ≡ 0
    go cells zero c e = absurd (cc)
    go [] (suc n) c e = absurd (cc)
    go (a ∷ cells) (suc zero) c e = refl
    go (a ∷ cells) (suc (suc n)) c e = go cells (suc n) c e

-- the machine stays, it makes a step, or it ends
pub record Left (l : Plan) (s t : State) (rest out : List ℕ) (x : Machine) : Type 0 where
  pub how : ((t.ending ≡ s.ending) × (t.retired ≡ s.retired) × (retires l s Leave ≡ []) × Sound l t rest out x)
      ⊎ (((y : Machine) × (step_here (isa_of l) x ≡ Goes y) × (t.ending ≡ s.ending) × (t.retired ≡ suc s.retired) × (retires l s Leave ≡ lines_at (isa_of l) x)
      × Sound l t rest out y) ⊎ ((e : End) × (t.ending ≡ Some e) × (t.retired ≡ s.retired) × (retires l s Leave ≡ []) × IsOver l t rest out x e))

-- its line
retires_is : (l : Plan) (s : State) (c : Cell) (p : Passenger) → cell_at s.cells l.stages ≡ Some c → c.passenger ≡ Some p → retires l s Leave ≡ retired_by p
retires_is l s c p e f = rw (e, f) refl

dead_line : (p : Passenger) → p.dead ≡ true → retired_by p ≡ []
dead_line p d = rw d refl

live_line : (p : Passenger) → p.dead ≡ false → p.ending ≡ None → retired_by p ≡ line_of p ∷ []
live_line p d e = subst (λ (b : Bool). (if b then [] else on p.ending (line_of p ∷ []) (λ e. [])) ≡ line_of p ∷ []) (sym d)
    (subst (λ (o : Option End). on o (line_of p ∷ []) (λ e. []) ≡ line_of p ∷ []) (sym e) refl)

over_line : (p : Passenger) (b : End) → p.dead ≡ false → p.ending ≡ Some b → retired_by p ≡ []
over_line p b d e = subst (λ (b : Bool). (if b then [] else on p.ending (line_of p ∷ []) (λ e. [])) ≡ []) (sym d)
    (subst (λ (o : Option End). on o (line_of p ∷ []) (λ e. []) ≡ []) (sym e) refl)

dst_got : (o : Option Binding) (d : Option ℕ) (regs : List ℕ) → reg_in o ≡ d → IsKnown o → HasValue o regs → o ≡ got regs d
dst_got None d regs e k a = rw (← e) refl
dst_got (Some b) d regs e k a =
    let v : k.0 ≡ slice_index regs b.reg = a k.0 k.1 in
    rw (← e) (ap (λ (o : Option ℕ). Some (record { reg = b.reg; value = o })) (k.1 ∙ ap Some v))

same_line : {a b : ℕ} {i j : Instr} {u v : Option Binding} → a ≡ b → i ≡ j → u ≡ v → row a i u ≡ row b j v
same_line e f g = rw (e, f, g) refl

line_sure : (isa : Isa) (p : Passenger) (x y : Machine) (g : Option ℕ) → length x.hart.regs ≡ 32 → step_here isa x ≡ Goes y → p.pc ≡ x.hart.pc → p.done ≡ true →
    p.ending ≡ None → sure.IsSure isa p x (step_at isa x p.pc) g → line_of p ∷ [] ≡ lines_at isa x
line_sure isa p x y g wide goes c d n h = go (fetched isa x.hart.mem p.pc) refl h.reads
  where
    go : (q : Fetched) → fetched isa x.hart.mem p.pc ≡ q → Holds p q → line_of p ∷ [] ≡ lines_at isa x
    go (Got i) f w =
        let z = dst_got p.dst (dst_of i) (after_step (step_at isa x p.pc) x).hart.regs (h.shape i w).three (h.values.done d n) h.values.destination in
        let f' : fetched isa x.hart.mem x.hart.pc ≡ Got i = ap (fetched isa x.hart.mem) (sym c) ∙ f in
        let z' : p.dst ≡ got (after_step (step_here isa x) x).hart.regs (dst_of i) = subst (λ (a : ℕ). p.dst
        ≡ got (after_step (step_at isa x a) x).hart.regs (dst_of i)) c z in
        let z'' : p.dst ≡ got y.hart.regs (dst_of i) = z' ∙ ap (λ (s : StepResult). got (after_step s x).hart.regs (dst_of i)) goes in
        ap (λ (l : Line). l ∷ []) (same_line c (word_is p i w) z'') ∙ sym (own_line isa x y i wide f' goes)
    go (Bad b) f w = absurd (let z = sym n ∙ w.1 in cc)

sure_line : (isa : Isa) (p : Passenger) (w : trail.Walk) (y : Machine) → length w.machine.hart.regs ≡ 32 → step_here isa w.machine ≡ Goes y →
    w.goto ≡ Some w.machine.hart.pc → p.done ≡ true → p.ending ≡ None → sure.SureAt isa p w → line_of p ∷ [] ≡ lines_at isa w.machine
unfolding sure.SureAt
sure_line isa p w y wide goes e d n h = line_sure isa p w.machine y w.goto wide goes (pc_of (sym e ∙ h.0.path)) d n h.0
  where
    pc_of : Some w.machine.hart.pc ≡ Some p.pc → p.pc ≡ w.machine.hart.pc
    pc_of e = cc

pub left_dead : (s : State) (n : ℕ) (c : Cell) (p : Passenger) → p.dead ≡ true → left s n c p ≡ with_cell s n (without_passenger c)
left_dead s n c p d = rw d

pub left_on : (s : State) (n : ℕ) (c : Cell) (p : Passenger) → p.dead ≡ false → p.ending ≡ None →
    left s n c p ≡ record s { cells = put_cell s.cells n (without_passenger c); regs = written s.regs p.dst; retired = s.retired + 1 }
left_on s n c p d e = rw (d, e)

pub left_over : (s : State) (n : ℕ) (c : Cell) (p : Passenger) (e : End) → p.dead ≡ false → p.ending ≡ Some e →
    left s n c p ≡ record s { cells = put_cell s.cells n (without_passenger c); ending = Some e }
left_over s n c p e d f = rw (d, f)

pub leave_kept : {rest out : List ℕ} (l : Plan) (s : State) (x : Machine) → bar l s Leave ≡ None → Sound l s rest out x → Left l s (moved l s Leave) rest out x
leave_kept {rest} {out} l s x e h =
    let r = leave_ready l s (bar_row l s Leave e) in
    let n = l.stages in
    let c = top_cell s.cells n r.here h.size r.at_here in
    let below = packet_in n r.here.packet ++ column_from 1 c.below in
    let was : column s ≡ Up n r.who ∷ below = c.was ∙ ap (λ (q : List Item). q ++ column_from 1 c.below) (rider_first n r.here r.who r.sits r.clear) in
    let is : column_from 1 (put_cell s.cells n (without_passenger r.here)) ≡ below = c.set (without_passenger r.here)
    ∙ ap (λ (q : List Item). q ++ column_from 1 c.below) (rider_gone n r.here) in
    rw (next_leave l s r.here r.who r.at_here r.sits) (go r below was is r.who.dead r.who.ending refl refl)
  where
    go : (r : Leaves l s) (below : List Item) → column s ≡ Up l.stages r.who ∷ below → column_from 1 (put_cell s.cells l.stages (without_passenger r.here))
        ≡ below → (d : Bool) (o : Option End) → r.who.dead ≡ d → r.who.ending ≡ o → Left l s (left s l.stages r.here r.who) rest out x
    go r below was is true o d n =
        let p = r.who in
        let t : State = record s { cells = put_cell s.cells l.stages (without_passenger r.here) } in
        let f = dead_path (isa_of l) s t l.stages p x refl d in
        rw (left_dead s l.stages r.here p d)
        (record {
          how = inl (
            refl,
            refl,
            retires_is l s r.here r.who r.at_here r.sits ∙ dead_line r.who d,
            gone l s t x x l.stages p below was is refl refl (put_size s.cells l.stages (without_passenger r.here)) h.regs h.wide refl refl
                (λ k. not_out l k p r.back) f (dead_port l s t l.stages p x refl d (not_flies p r.back) f) h,
          );
        })
    go r below was is false None d n =
        let p = r.who in
        let t : State = record s { cells = put_cell s.cells l.stages (without_passenger r.here); regs = written s.regs p.dst; retired = s.retired + 1 } in
        let y = after_step (step_at (isa_of l) x p.pc) x in
        let u = r.over d in
        let fit = rw was at h.path_fit in
        let stand = rw was at h.stands in
        let certain = sure_at (isa_of l) l.stages p (trail.top s x) d refl fit.0 in
        let g = sure_goes (isa_of l) p (trail.top s x) u n certain in
        let f = live_path (isa_of l) s t l.stages p x y refl refl d u n r.nothing g.1 in
        let steps : step_here (isa_of l) x ≡ Goes y = at_top (isa_of l) p (trail.top s x) refl certain ∙ g.0 in
        rw (left_on s l.stages r.here p d n)
        (record {
          how = inr (inl (
            y,
            steps,
            refl,
            omega arith,
            retires_is l s r.here r.who r.at_here r.sits ∙ live_line r.who d n
                ∙ sure_line (isa_of l) p (trail.top s x) y h.wide steps refl u n certain,
            gone l s t x y l.stages p below was is refl refl
                (put_size s.cells l.stages (without_passenger r.here)) (rw h.regs (sure_regs (isa_of l) p (trail.top s x) h.wide u n certain))
                (step_wide (isa_of l) x p.pc ∙ h.wide) refl refl (λ k. not_out l k p r.back) f
                (live_port l s t l.stages p x refl d u n r.back stand.0 certain f) h,
          ));
        })
    go r below was is false (Some b) d n =
        let p = r.who in
        let fit = rw was at h.path_fit in
        let stand = rw was at h.stands in
        let docks = rw was at h.port_fit in
        let ends = rw was at h.port_ends in
        let certain = sure_at (isa_of l) l.stages p (trail.top s x) d refl fit.0 in
        let q = ended_past (isa_of l) l.stages p (dock.top l s x) b d n (ended_unported l l.stages p (dock.top l s x) b n stand.0 certain docks.0) in
        let k = quiet (isa_of l) below (dock.past (isa_of l) (Up l.stages p) (dock.top l s x)) q.1 docks.1 in
        rw (left_over s l.stages r.here p b d n) (record {
          how = inr (inr (
            b,
            refl,
            refl,
            retires_is l s r.here r.who r.at_here r.sits ∙ over_line r.who b d n,
            record {
              regs = h.regs;
              mem = ends.is_mem ∙ k.mem ∙ q.0.mem;
              input = ends.is_rest ∙ k.rest ∙ q.0.rest;
              output = ends.is_out ∙ k.out ∙ q.0.out;
              stops = at_top (isa_of l) p (trail.top s x) refl certain ∙ sure_stops (isa_of l) p (trail.top s x) b n certain;
              unserved = nobody l s r.here r.at_here;
              unported = ap (λ (z : List Item). (walk ahead.counted z (ahead.uncounted l s)).ported) is
                  ∙ none_ported (isa_of l) below _ (ahead.uncounted l s) q.1 docks.1 (ended_answer (isa_of l) l.stages p (dock.top l s x) (not_flies p r.back));
            },
          ));
        })

-- the cells once the highest instruction has left
pub left_cells : (s : State) (n : ℕ) (c : Cell) (p : Passenger) → (left s n c p).cells ≡ put_cell s.cells n (without_passenger c)
left_cells s n c p = grind arith
