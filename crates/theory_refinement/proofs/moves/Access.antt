-- Access keeps the invariant.
use Rattle.rv_inst.specs.declared.instruction.Instr.{Instr}
use Rattle.theory_refinement.proofs.instructions.Steps.{code_after}
use Rattle.mem_regions.specs.Memory as memory
use Rattle.cf_semantics.specs.moves.Fetches.{code_of}
use Rattle.std.proofs.Common.{◌≡◌, ℕ, suc, ◌<◌, ◌≤◌, List, [], ◌∷◌, ◌++◌, Option, Some, None, Bool, true, false, refl, sym, ap, subst, ◌∙◌, arith, length}
use Rattle.std.proofs.lemmas.List.{get_or-set_same}
use Rattle.cf_bind.specs.declared.binding.Binding.{Binding}
use Rattle.cf_bind.specs.declared.cell.Op.{Op}
use Rattle.cf_bind.specs.declared.moves.Move.TheVariants.{Access}
use Rattle.cf_bind.specs.declared.passenger.Passenger.{Passenger}
use Rattle.cf_layout.specs.Layout.{Plan, launch_stage, recover_stage, siding_of}
use Rattle.theory_refinement.proofs.walks.Answering.{Landed, Settled, fresh_above, walk_landed}
use Rattle.theory_refinement.proofs.walks.Accessing.{Waiting, access_fits, walk_waiting}
use Rattle.theory_refinement.proofs.column.Change.{beside, here}
use Rattle.theory_refinement.proofs.column.Flown.{operations_last}
use Rattle.theory_refinement.proofs.column.Fold.{fit_front, walk_append}
use Rattle.theory_refinement.proofs.moves.Rows.{bar_row}
use Rattle.theory_refinement.proofs.walks.Launching.{flies_out, past_none}
use Rattle.theory_refinement.proofs.instructions.Memory.{after_access, memory_steps}
use Rattle.theory_refinement.proofs.moves.Recover.{docked_live, landed}
use Rattle.theory_refinement.proofs.column.Sidings.{berthed, front_set_last, last_answer, last_set, put_here, rehung, set_last_size}
use Rattle.theory_refinement.proofs.column.Sorted.{Riders, Sorted, over, sorted, under}
use Rattle.theory_refinement.proofs.walks.Stands.{each_back, each_front}
use Rattle.theory_refinement.proofs.instructions.Steps.{sure_dst_below}
use Rattle.theory_refinement.proofs.invariant.Invariant.{Sound}
use Rattle.theory_refinement.proofs.invariant.Stands.{Each, Stands}
use Rattle.theory_refinement.proofs.invariant.Suited.{Suits}
use Rattle.cf_semantics.specs.moves.Bars.{access_bar, bar, last_op, row_bar}
use Rattle.cf_semantics.specs.state.Column.{Down, Item, Up, column}
use Rattle.cf_semantics.specs.moves.Instructions.{Goes, StepResult, access_trap, answer_of, after_step, dst_of, is_memory, mem_after, step_at, value_written}
use Rattle.cf_semantics.specs.state.Layouts.{isa_of, port}
use Rattle.cf_semantics.specs.moves.Moves.{accessed, moved, operation, set_last}
use Rattle.cf_semantics.specs.state.Options.{is_some, on}
use Rattle.cf_semantics.specs.state.Passengers.{instruction, kind, missing, reg_in, value_in}
use Rattle.cf_semantics.specs.state.State.{State, siding_at}
use Rattle.cf_semantics.specs.claims.Walks.{Everywhere, walk}
use Rattle.mem_regions.specs.Access.{bounds_of}
use Rattle.rv_inst.specs.declared.classes.Class.TheVariants.{Memory}
use Rattle.rv_inst.specs.declared.isa.Isa.{Isa}
use Rattle.rv_machine.specs.Machine.{Machine}
use Rattle.cf_semantics.specs.claims.Ahead as ahead
use Rattle.theory_refinement.proofs.invariant.Port as dock
use Rattle.theory_refinement.proofs.invariant.Sure as sure
use Rattle.cf_semantics.specs.claims.Path as trail
use Rattle.cf_semantics.specs.claims.Soundness.{IsAnswer, in_siding, operations_in, operations_of}
use Rattle.theory_refinement.proofs.instructions.Classes.{memory_is}
use Rattle.theory_refinement.proofs.walks.Path.{sure_at}
use Rattle.theory_refinement.proofs.walks.Port.{open_of}

pub record Accesses (l : Plan) (s : State) : Type 0 where
  pub what : Op
  pub lies : last_op (siding_at s (port l)) ≡ Some what
  pub unanswered : what.answer ≡ None

pub access_ready : (l : Plan) (s : State) → row_bar l s Access ≡ None → Accesses l s
access_ready l s e = go (last_op (siding_at s (port l))) refl e
  where
    inner : (op : Op) (o : Option ℕ) → last_op (siding_at s (port l)) ≡ Some op → op.answer ≡ o → access_bar (Some op) ≡ None → Accesses l s
    inner op None f g e = record { what = op; lies = f; unanswered = g }
    inner op (Some a) f g e = absurd (let z = rw g at e in cc)

    go : (o : Option Op) → last_op (siding_at s (port l)) ≡ o → access_bar o ≡ None → Accesses l s
    go None f e = absurd (cc)
    go (Some op) f e = inner op op.answer f refl e

pub next_access : (l : Plan) (s : State) (op : Op) → last_op (siding_at s (port l)) ≡ Some op → moved l s Access ≡ accessed l s op
unfolding moved
next_access l s op e = rw e refl

-- the first operation is that of the topmost instruction whose operation is out
pub record First (l : Plan) (k : ℕ) (xs : List Item) (o : Op) : Type 0 where
  pub above : List Item
  pub below : List Item
  pub stage : ℕ
  pub who : Passenger
  pub was : xs ≡ above ++ (Up stage who ∷ below)
  pub out : in_siding l k who ≡ true
  pub op : operation who ≡ o
  pub none : operations_of l k above ≡ []

pub first_out : (l : Plan) (k : ℕ) (xs : List Item) (o : Op) (os : List Op) → operations_of l k xs ≡ o ∷ os → First l k xs o
first_out l k [] o os e = absurd (cc)
first_out l k (Up i p ∷ xs) o os e = go (in_siding l k p) refl (λ z. first_out l k xs o os z)
  where
    heads : (a b : Op) (u v : List Op) → a ∷ u ≡ b ∷ v → a ≡ b
    heads a b u v e = cc

    go : (b : Bool) → in_siding l k p ≡ b → (operations_of l k xs ≡ o ∷ os → First l k xs o) → First l k (Up i p ∷ xs) o
    go true f w = record {
      above = [];
      below = xs;
      stage = i;
      who = p;
      was = refl;
      out = f;
      op = heads (operation p) o (operations_of l k xs) os (rw f at e);
      none = refl;
    }
    go false f w = let r = w (rw f at e) in
        record {
          above = Up i p ∷ r.above;
          below = r.below;
          stage = r.stage;
          who = r.who;
          was = ap (λ (z : List Item). Up i p ∷ z) r.was;
          out = r.out;
          op =
              r.op;
          none = rw f r.none;
        }
first_out l k (Down i q ∷ xs) o os e =
    let r = first_out l k xs o os e in
    record {
      above = Down i q ∷ r.above;
      below = r.below;
      stage = r.stage;
      who = r.who;
      was = ap (λ (z : List Item). Down i q ∷ z) r.was;
      out = r.out;
      op =
          r.op;
      none = r.none;
    }

-- it is a launched memory operation between the port's two stages
pub out_is : (l : Plan) (p : Passenger) → in_siding l (port l) p ≡ true → (p.launched ≡ true) × (p.recovered ≡ false)
out_is l p e = (grind arith, grind arith)

port_siding : (l : Plan) (p : Passenger) → Suits l → is_memory (kind p) ≡ true → siding_of l (kind p) ≡ Some (port l)
port_siding l p acc m = rw (memory_is (kind p) m) acc.memory

pub between : (l : Plan) (i : ℕ) (p : Passenger) → Suits l → is_memory (kind p) ≡ true → p.launched ≡ true → p.recovered ≡ false → Stands l i p →
    (launch_stage l (port l) ≤ i) × (i ≤ recover_stage l (port l))
between l i p acc m a b h = rw (port_siding l p acc m) at (h.out a b)

-- below it nothing has passed the port
unported : (l : Plan) (i j : ℕ) (p : Passenger) → Suits l → i ≤ recover_stage l (port l) → j < i → Stands l j p → ahead.has_ported p None ≡ false
unported l i j p acc e f h = go (ahead.has_served p) (is_memory (kind p)) p.recovered refl refl refl
  where
    go : (a m c : Bool) → ahead.has_served p ≡ a → is_memory (kind p) ≡ m → p.recovered ≡ c → ahead.has_ported p None ≡ false
    go true m c x y z = absurd (let w = h.served x in let q = acc.in_pipe Memory (port l) acc.memory in omega arith)
    go false false c x y z = grind arith
    go false true false x y z = grind arith
    go false true true x y z = absurd (let w = rw (port_siding l p acc y) at (h.back z) in omega arith)

waiting : (l : Plan) (i : ℕ) (xs : List Item) → Suits l → i ≤ recover_stage l (port l) → Riders (λ j. j < i) xs → Each l xs → Waiting xs
waiting l i [] acc e r h = tt
waiting l i (Up j p ∷ xs) acc e r h = (unported l i j p acc e r.0 h.0, waiting l i xs acc e r.1 h.1)
waiting l i (Down j k ∷ xs) acc e r h = waiting l i xs acc e r h

-- above it every memory operation has come back or has a trap
settled_one : (l : Plan) (i j : ℕ) (p : Passenger) → Suits l → launch_stage l (port l) ≤ i → i < j → ahead.flies p ≡ false → Stands l j p → p.dead ≡ false →
    is_memory (kind p) ≡ true → p.recovered ≡ false → is_some p.ending ≡ true
settled_one l i j p acc e f g h d m n = go p.launched p.done refl refl
  where
    go : (a b : Bool) → p.launched ≡ a → p.done ≡ b → is_some p.ending ≡ true
    go true b x y = absurd (grind arith)
    go false true x y = h.faulted d m y x
    go false false x y = absurd (let w = rw (port_siding l p acc m) at (h.low d y x) in omega arith)

settled : (l : Plan) (i : ℕ) (xs : List Item) → Suits l → launch_stage l (port l) ≤ i → Riders (λ j. i < j) xs → Landed xs → Each l xs → Settled xs
settled l i [] acc e r g h = tt
settled l i (Up j p ∷ xs) acc e r g h = (settled_one l i j p acc e r.0 g.0 h.0, settled l i xs acc e r.1 g.1 h.1)
settled l i (Down j k ∷ xs) acc e r g h = settled l i xs acc e r g h

-- the answer is the destination's value after the step
write_answers : (o : Option Binding) (d : Option ℕ) (v : ℕ) (regs : List ℕ) → length regs ≡ 32 → ((r : ℕ) → d ≡ Some r → r < 32) → reg_in o ≡ d →
    IsAnswer o (value_written regs d v) v
write_answers None d v regs l b e = tt
write_answers (Some q) d v regs l b e = rw (← e) (get_or-set_same regs q.reg v 0 (rw l (b q.reg (sym e))))

made : (isa : Isa) (p : Passenger) (w : trail.Walk) → length w.machine.hart.regs ≡ 32 → is_memory (kind p) ≡ true → missing p.src1 ≡ None →
    missing p.src2 ≡ None → access_trap (instruction p) p.pc (value_in p.src1) (bounds_of w.machine.hart.mem) ≡ None → sure.SureAt isa p w →
    (step_at isa w.machine p.pc ≡ Goes (after_step (step_at isa w.machine p.pc) w.machine))
    × ((after_step (step_at isa w.machine p.pc) w.machine).hart.mem ≡ mem_after (instruction p) (value_in p.src1) (value_in p.src2) w.machine.hart.mem)
    × IsAnswer p.dst (after_step (step_at isa w.machine p.pc) w.machine).hart.regs (answer_of (instruction p) (value_in p.src1)
    (value_in p.src2) w.machine.hart.mem)
unfolding sure.SureAt
made isa p w l m m1 m2 t h =
    let q = memory_steps isa p w.machine w.goto m m1 m2 h.0 in
    let s : step_at isa w.machine p.pc ≡ Goes (after_access w.machine (instruction p) p.pc (value_in p.src1) (value_in p.src2)) = rw t at q.1 in (
      s ∙ ap (λ (z : StepResult). Goes (after_step z w.machine)) (sym s),
      rw s refl,
      rw s (write_answers p.dst (dst_of (instruction p)) _ w.machine.hart.regs l
          (sure_dst_below isa p w.machine (step_at isa w.machine p.pc) w.goto (instruction p) q.0 h.0) (h.0.shape (instruction p) q.0).three),
    )

unanswered : (p : Passenger) (o : Option ℕ) → o ≡ None → is_memory (kind p) ≡ true → p.recovered ≡ false → ahead.has_ported p o ≡ false
unanswered p o e m n = grind arith

past_unported : (isa : Isa) (i : ℕ) (p : Passenger) (w : dock.Dock) → ahead.has_ported p w.answer ≡ false → (dock.past isa (Up i p) w).mem ≡ w.mem
unfolding dock.past
past_unported isa i p w e = rw e refl

waiting_mem : (isa : Isa) (xs : List Item) (w : dock.Dock) → Waiting xs → w.answer ≡ None → (walk (dock.past isa) xs w).mem ≡ w.mem
waiting_mem isa xs w h e = ap (λ (z : dock.Dock). z.mem) (walk_waiting isa xs w w.mem h e)

-- the siding
set_twice : (q : List (Option Op)) (o : Option Op) → set_last (set_last q o) None ≡ set_last q None
set_twice [] o = refl
set_twice (a ∷ []) o = refl
set_twice (a ∷ b ∷ []) o = refl
set_twice (a ∷ b ∷ c ∷ q) o = ap (λ (z : List (Option Op)). a ∷ z) (set_twice (b ∷ c ∷ q) o)

answered_operations : (q : List (Option Op)) (n : ℕ) (op : Op) (a : Option ℕ) → length q ≡ suc n → last_op q ≡ Some op →
    operations_in (set_last q (Some (record op { answer = a }))) ≡ operations_in q
answered_operations q n op a e f =
    operations_last (set_last q (Some (record op { answer = a }))) (record op { answer = a }) (last_set q n (Some (record op { answer = a })) e)
    ∙ ap (λ (z : List (Option Op)). (record op { answer = None } ∷ []) ++ operations_in z) (set_twice q (Some (record op { answer = a })))
    ∙ sym (operations_last q op f)

access_alike : {A : Type 0} → (f : Instr → ℕ → ℕ → memory.Memory → A) → {i j : Instr} {a c b d : ℕ} {m n : memory.Memory} → i ≡ j → a ≡ c → b ≡ d → m ≡ n →
    f i a b m ≡ f j c d n
access_alike f e g h k = rw (e, g, h, k) refl

-- the scene of an access: the operation, its instruction, which is the topmost whose operation is out, and the machine
-- where that is
pub record Scene (l : Plan) (s : State) (x : Machine) : Type 0 where
  pub ready : Accesses l s
  pub first : First l (port l) (column s) (record ready.what { answer = None })
  pub memory : is_memory (kind first.who) ≡ true
  pub flies : ahead.flies first.who ≡ true
  pub live : first.who.dead ≡ false
  pub calm : (walk (dock.past (isa_of l)) first.above (dock.top l s x)).risky ≡ false
  pub landed : Landed first.above
  pub waiting : Waiting first.below
  pub unanswered : (walk (dock.past (isa_of l)) first.above (dock.top l s x)).answer ≡ None
  pub range : (launch_stage l (port l) ≤ first.stage) × (first.stage ≤ recover_stage l (port l))
  pub certain : sure.SureAt (isa_of l) first.who (walk (dock.past (isa_of l)) first.above (dock.top l s x)).path
  pub before : s.mem ≡ (walk (dock.past (isa_of l)) first.above (dock.top l s x)).path.machine.hart.mem
  pub goes : step_at (isa_of l) (walk (dock.past (isa_of l)) first.above (dock.top l s x)).path.machine first.who.pc
      ≡ Goes (after_step (step_at (isa_of l) (walk (dock.past (isa_of l)) first.above (dock.top l s x)).path.machine first.who.pc)
      (walk (dock.past (isa_of l)) first.above (dock.top l s x)).path.machine)
  pub stored : mem_after ready.what.instr ready.what.a ready.what.b s.mem ≡ (after_step (step_at (isa_of l)
      (walk (dock.past (isa_of l)) first.above (dock.top l s x)).path.machine first.who.pc)
      (walk (dock.past (isa_of l)) first.above (dock.top l s x)).path.machine).hart.mem
  pub answers : IsAnswer first.who.dst (after_step (step_at (isa_of l) (walk (dock.past (isa_of l)) first.above (dock.top l s x)).path.machine first.who.pc)
      (walk (dock.past (isa_of l)) first.above (dock.top l s x)).path.machine).hart.regs (answer_of ready.what.instr ready.what.a ready.what.b s.mem)

pub access_scene : {rest out : List ℕ} (l : Plan) (s : State) (x : Machine) → Suits l → bar l s Access ≡ None → Sound l s rest out x → Scene l s x
access_scene {rest} {out} l s x acc e h =
    let r = access_ready l s (bar_row l s Access e) in
    let k = (port l) in
    let q = siding_at s k in
    let f = first_out l k (column s) (record r.what { answer = None }) (operations_in (set_last q None)) (sym (h.moored.operations k)
    ∙ operations_last q r.what r.lies) in
    let p = f.who in
    let i = f.stage in
    let was : column s ≡ f.above ++ ((Up i p ∷ []) ++ f.below) = f.was in
    let y = here l s x f.above (Up i p ∷ []) f.below was h in
    let each = rw was at h.stands in
    let o = out_is l p f.out in
    let flies = flies_out l acc p f.out in
    let m : is_memory (kind p) ≡ true = grind arith in
    let known = docked_live (isa_of l) p i _ y.port_fit.0 o.0 m in
    let order = subst Sorted was (sorted 1 s.cells) in
    let range = between l i p acc m o.0 o.1 y.stands.0 in
    let w0 = dock.top l s x in
    let u = walk (dock.past (isa_of l)) f.above w0 in
    let land = landed l acc f.above f.none in
    let none : u.answer ≡ None = ap (λ (z : dock.Dock). z.answer) (walk_landed (isa_of l) f.above w0 w0.answer land)
    ∙ ap (λ (z : Option Op). on z None (λ z. z.answer)) r.lies ∙ r.unanswered in
    let wait = waiting l i f.below acc range.1 (under f.above f.below i p order) (each_back l (Up i p ∷ []) f.below
    (each_back l f.above ((Up i p ∷ []) ++ f.below) each)) in
    let settle = settled l i f.above acc range.0 (over f.above f.below i p order) land (each_front l f.above ((Up i p ∷ []) ++ f.below) each) in
    let fresh = fresh_above (isa_of l) f.above w0 settle (fit_front _ (sure.Fits (isa_of l)) (trail.past (isa_of l)) f.above ((Up i p ∷ []) ++ f.below) _
    (rw was at h.path_fit)) (λ b. absurd (cc)) known.1 refl in
    let unbarred = open_of u y.safe known.1 in
    let certain : sure.SureAt (isa_of l) p u.path = sure_at (isa_of l) i p u.path known.0 unbarred
    (subst (λ (z : trail.Walk). sure.Fits (isa_of l) (Up i p) z) (sym y.same) y.path_fit.0) in
    let wide : length u.path.machine.hart.regs ≡ 32 = subst (λ (z : trail.Walk). length z.machine.hart.regs ≡ 32) (sym y.same) y.wide in
    let did = made (isa_of l) p u.path wide m (y.stands.0.sourced1 o.0) (y.stands.0.sourced2 o.0) known.2 certain in
    let past = waiting_mem (isa_of l) f.below (dock.past (isa_of l) (Up i p) u) wait (past_none (isa_of l) (Up i p) u none) in
    let mem : s.mem ≡ u.path.machine.hart.mem = h.port_ends.is_mem ∙ ap (λ (z : List Item). (walk (dock.past (isa_of l)) z w0).mem) was
    ∙ ap (λ (z : dock.Dock). z.mem) (walk_append (dock.past (isa_of l)) f.above ((Up i p ∷ []) ++ f.below) w0) ∙ past
    ∙ past_unported (isa_of l) i p u (unanswered p u.answer none m o.1) ∙ fresh in
    let code = ap (λ (z : Op). z.instr) (sym f.op) in
    let a1 = ap (λ (z : Op). z.a) (sym f.op) in
    let a2 = ap (λ (z : Op). z.b) (sym f.op) in
    record {
      ready = r;
      first = f;
      memory = m;
      flies = flies;
      live = known.0;
      calm = known.1;
      landed = land;
      waiting = wait;
      unanswered = none;
      range = range;
      certain = certain;
      before = mem;
      goes = did.0;
      stored = access_alike mem_after code a1 a2 mem ∙ sym did.1;
      answers = subst (λ (v : ℕ). IsAnswer p.dst (after_step (step_at (isa_of l) u.path.machine p.pc) u.path.machine).hart.regs v)
          (sym (access_alike answer_of code a1 a2 mem)) did.2;
    }

pub access_kept : {rest out : List ℕ} (l : Plan) (s : State) (x : Machine) → Suits l → bar l s Access ≡ None → Sound l s rest out x →
    Sound l (moved l s Access) rest out x
access_kept {rest} {out} l s x acc e h =
    let z = access_scene l s x acc e h in
    let r = z.ready in
    let f = z.first in
    let k = (port l) in
    let q = siding_at s k in
    let n = berthed l acc s (column s) k h.moored Memory acc.memory in
    let p = f.who in
    let i = f.stage in
    let was : column s ≡ f.above ++ ((Up i p ∷ []) ++ f.below) = f.was in
    let w0 = dock.top l s x in
    let u = walk (dock.past (isa_of l)) f.above w0 in
    let fits = rw was at h.port_fit in
    let a = answer_of r.what.instr r.what.a r.what.b s.mem in
    let all = access_fits (isa_of l) i p f.above f.below w0 a z.landed z.waiting z.live z.flies z.unanswered z.answers fits in
    let op : Op = record r.what { answer = Some a } in
    let t : State = accessed l s r.what in
    let cell : last_answer (siding_at t k) ≡ Some a = ap last_answer (put_here s.sidings k (set_last q (Some op)) n.0 n.1)
    ∙ ap (λ (z : Option Op). on z None (λ z. z.answer)) (last_set q n.0 (Some op) n.1) in
    let top : dock.top l t x ≡ record w0 { answer = Some a } = ap (λ (z : Option ℕ). record w0 { answer = z }) cell in
    rw (next_access l s r.what r.lies) (beside l s x t.sidings t.mem (record {
      fit = subst (λ (z : dock.Dock). Everywhere (dock.Fits (isa_of l)) (dock.past (isa_of l)) (column s) z) (sym top)
          (subst (λ (z : List Item). Everywhere (dock.Fits (isa_of l)) (dock.past (isa_of l)) z (record w0 { answer = Some a })) (sym was) all.0);
      ends = subst (λ (z : dock.Dock). dock.Ends z (mem_after r.what.instr r.what.a r.what.b s.mem) rest out)
          (sym (ap (λ (z : dock.Dock). walk (dock.past (isa_of l)) (column s) z) top ∙ ap (λ (z : List Item). walk (dock.past (isa_of l)) z
          (record w0 { answer = Some a })) was ∙ all.1)) (stored_ends l s x f.above f.below i p was z.stored
          (code_after r.what.instr r.what.a r.what.b s.mem) h);
    }) (rehung l s t (column s) (column s) k (set_last q (Some op)) refl n.0 n.1 (set_last_size q (Some op))
    (answered_operations q n.0 r.what (Some a) n.1 r.lies ∙ h.moored.operations k) (λ j z. refl) (front_set_last q (Some op) (h.moored.front k))
    (λ z. absurd (z refl)) h.moored) h)
  where
    stored_ends : (l : Plan) (s : State) (x : Machine) (above below : List Item) (i : ℕ) (p : Passenger) → column s ≡ above ++ ((Up i p ∷ []) ++ below) →
        {m n : memory.Memory} → m ≡ n → code_of m ≡ code_of s.mem → Sound l s rest out x →
        dock.Ends (record (walk (dock.past (isa_of l)) (above ++ (Up i p ∷ below)) (dock.top l s x)) { mem = n }) m rest out
    stored_ends l s x above below i p was e c h =
        let z = rw was at h.port_ends in
        record { is_mem = e; is_code = c ∙ z.is_code; is_rest = z.is_rest; is_out = z.is_out }
