-- Issue keeps the invariant.
use Rattle.theory_refinement.proofs.walks.Fresh.{fresh_what, fresh_nothing}
use Rattle.theory_refinement.proofs.instructions.Steps.{kind_is}
use Rattle.cf_semantics.specs.moves.Instructions.{Fetched, Got, Bad, kind_of}
use Rattle.rv_inst.specs.declared.classes.Class.TheVariants.{Free}
use Rattle.rv_inst.specs.declared.instruction.Instr.{Instr}
use Rattle.cf_layout.specs.Layout.{is_homed}
use Rattle.theory_refinement.proofs.invariant.Suited.{is_plain}
use Rattle.theory_refinement.proofs.instructions.Fetches.{fetched_alike}
use Rattle.theory_refinement.proofs.instructions.Homes.{fetched_homed}
use Rattle.cf_semantics.specs.moves.Fetches.{code_of}
use Rattle.mem_regions.specs.Memory.{Memory}
use Rattle.std.proofs.Common.{◌≡◌, ◌≢◌, ℕ, List, [], ◌∷◌, ◌++◌, Option, Some, None, Bool, true, false, ◌==◌, ◌||◌, ◌&&◌, not, refl, sym, ap, subst, ◌∙◌, arith, append_assoc, append-nil}
use Rattle.std.specs.Prelude.{slice_index}
use Rattle.cf_bind.specs.declared.binding.Binding.{Binding}
use Rattle.cf_bind.specs.declared.cell.Cell.{Cell}
use Rattle.cf_bind.specs.declared.moves.Bar.TheVariants.{NoSuchSite}
use Rattle.cf_bind.specs.declared.moves.Move.TheVariants.{Issue}
use Rattle.cf_bind.specs.declared.packet.Fetch.{Fetch}
use Rattle.cf_bind.specs.declared.packet.Fetch.TheVariants.{Running, Waiting}
use Rattle.cf_bind.specs.declared.passenger.Guess.{Guess}
use Rattle.cf_bind.specs.declared.passenger.Guess.TheVariants.{Next, Taken, To, Wait}
use Rattle.cf_bind.specs.declared.passenger.Passenger.{Passenger}
use Rattle.cf_layout.specs.Layout.{Plan, siding_of}
use Rattle.theory_refinement.proofs.walks.Cache.{forget_holds}
use Rattle.theory_refinement.proofs.column.Change.{ends_path, ends_port, flown_append, keeps_path, walk_path}
use Rattle.theory_refinement.proofs.column.Fold.{fit_append, fit_follows, walk_append, walk_follows}
use Rattle.theory_refinement.proofs.walks.Fresh.{IsFresh, among_back, among_front, fresh_at, fresh_is}
use Rattle.theory_refinement.proofs.moves.Rows.{bar_row}
use Rattle.theory_refinement.proofs.walks.Program.{code_fresh}
use Rattle.theory_refinement.proofs.walks.Stands.{each_append}
use Rattle.theory_refinement.proofs.instructions.Steps.{sure_keeps}
use Rattle.theory_refinement.proofs.invariant.Invariant.{Sound}
use Rattle.theory_refinement.proofs.invariant.Operations.{IsMoored}
use Rattle.theory_refinement.proofs.invariant.Stands.{Blank, Low, Stands}
use Rattle.theory_refinement.proofs.invariant.Suited.{Suits}
use Rattle.cf_semantics.specs.moves.Bars.{bar, issue_bar, may_guess, row_bar}
use Rattle.cf_semantics.specs.state.Column.{Item, Up, column, column_from, items}
use Rattle.cf_layout.specs.Accepted.{is_control}
use Rattle.cf_semantics.specs.moves.Instructions.{after_step, dst_of, fetched, is_free, is_serial, step_at}
use Rattle.cf_semantics.specs.state.Layouts.{isa_of}
use Rattle.cf_semantics.specs.moves.Moves.{fetch_from, moved}
use Rattle.cf_semantics.specs.state.Options.{When, is_some, on}
use Rattle.cf_semantics.specs.state.Passengers.{destination, forgets, fresh, goto, instruction, kind, reg_in, requests}
use Rattle.cf_semantics.specs.state.State.{State, cell_at}
use Rattle.cf_semantics.specs.claims.Walks.{walk}
use Rattle.rv_inst.specs.declared.isa.Isa.{Isa}
use Rattle.rv_machine.specs.Machine.{Machine}
use Rattle.cf_semantics.specs.claims.Ahead as ahead
use Rattle.theory_refinement.proofs.invariant.Port as dock
use Rattle.theory_refinement.proofs.invariant.Lone as lone
use Rattle.theory_refinement.proofs.walks.Path as paths
use Rattle.theory_refinement.proofs.walks.Port as ports
use Rattle.theory_refinement.proofs.invariant.Sure as sure
use Rattle.cf_semantics.specs.claims.Path as trail
use Rattle.cf_semantics.specs.claims.Soundness.{is_lone, operations_of, waits}

pub record Issues (l : Plan) (s : State) (g : Guess) : Type 0 where
  pub here : Cell
  pub others : List Cell
  pub pc : ℕ
  pub cells : s.cells ≡ here ∷ others
  pub runs : s.fetch ≡ Running pc
  pub free : here.passenger ≡ None
  pub guess : may_guess g (fresh s.cache (fetched (isa_of l) s.mem pc) pc g) ≡ true

pub issue_ready : (l : Plan) (s : State) (g : Guess) → row_bar l s (Issue g) ≡ None → Issues l s g
issue_ready l s g e = go s.cells s.fetch refl refl e
  where
    go : (q : List Cell) (f : Fetch) → s.cells ≡ q → s.fetch ≡ f → on (cell_at q 1) (Some NoSuchSite) (issue_bar l (record s { fetch = f }) g) ≡ None →
        Issues l s g
    go [] f h k e = absurd (cc)
    go (c ∷ cs) Waiting h k e = absurd (cc)
    go (c ∷ cs) (Running pc) h k e = record { here = c; others = cs; pc = pc; cells = h; runs = k; free = grind arith; guess = grind arith }

pub next_issue : (l : Plan) (s : State) (g : Guess) (c : Cell) (cs : List Cell) (pc : ℕ) (p : Passenger) → s.cells ≡ c ∷ cs → s.fetch ≡ Running pc →
    p ≡ fresh s.cache (fetched (isa_of l) s.mem pc) pc g → moved l s (Issue g)
    ≡ record s {
      cells = record c { passenger = Some p; met = false } ∷ cs;
      lane = s.lane ++ requests p;
      fetch = fetch_from (goto p);
      cache =
          forgets (reg_in p.dst) s.cache;
    }
unfolding moved
next_issue l s g c cs pc p e f h = rw (e, f, h)

pub issue_items : (c : Cell) (p : Passenger) → c.passenger ≡ None → items 1 (record c { passenger = Some p; met = false }) ≡ items 1 c ++ Up 1 p ∷ []
issue_items c p e = grind arith

running_goto : (o : Option ℕ) (pc : ℕ) → Running pc ≡ fetch_from o → o ≡ Some pc
running_goto o pc e = grind arith

-- fetch runs, so that nothing is shut
open_end : (b : Bool) (f : Fetch) (pc : ℕ) → f ≡ Running pc → lone.Ends b f → b ≡ false
open_end true f pc e h = absurd (let q = sym e ∙ h refl in cc)
open_end false f pc e h = refl

past_coming : (isa : Isa) (i : Item) (w : trail.Walk) (r : ℕ) → w.coming r ≡ true → (trail.past isa i w).coming r ≡ true
unfolding trail.past
past_coming isa i w r e = grind arith

walk_coming : (isa : Isa) (xs : List Item) (w : trail.Walk) (r : ℕ) → w.coming r ≡ true → (walk (trail.past isa) xs w).coming r ≡ true
walk_coming isa [] w r e = e
walk_coming isa (i ∷ xs) w r e = walk_coming isa xs (trail.past isa i w) r (past_coming isa i w r e)

lane_follows : (s t : State) (x : Machine) (more : List ℕ) → t.lane ≡ s.lane ++ more → paths.Follows (trail.top s x) (trail.top t x)
lane_follows s t x more e =
    record {
      barred = λ b. b;
      machine = λ _. refl;
      goto = λ _. refl;
      settled = λ _ a. a;
      trapped = λ _ a. a;
      coming =
          λ _ r c. rw e (among_front r s.lane more c);
    }

lane_port : (l : Plan) (s t : State) (x : Machine) → t.sidings ≡ s.sidings → paths.Follows (trail.top s x) (trail.top t x) →
    ports.Follows (dock.top l s x) (dock.top l t x)
lane_port l s t x e f = record { path = f; safe = λ b. absurd (cc); risky = λ b. b; mem = refl; code = refl; rest = refl; out = refl; answer = rw e }

-- at the bottom: the path
fits_path : (isa : Isa) (p : Passenger) (w : trail.Walk) → p.dead ≡ false → (w.barred ≡ false → sure.SureAt isa p w) → sure.Fits isa (Up 1 p) w
unfolding sure.Fits
fits_path isa p w d f = (λ e. absurd (cc), go w.barred refl)
  where
    go : (b : Bool) → w.barred ≡ b → When (not p.dead && not b) (sure.SureAt isa p w)
    go true e = subst (λ (z : Bool). When (not z && not true) (sure.SureAt isa p w)) (sym d) tt
    go false e = subst (λ (z : Bool). When (not z && not false) (sure.SureAt isa p w)) (sym d) (f e)

below_ends : (isa : Isa) (p : Passenger) (w : trail.Walk) → p.dead ≡ false → sure.Ends (trail.past isa (Up 1 p) w) (fetch_from (goto p))
unfolding trail.past
below_ends isa p w d = subst (λ (z : Bool). sure.Ends (trail.past_passenger isa (not z && not w.barred) p w) (fetch_from (goto p))) (sym d) (go w.barred refl)
  where
    go : (b : Bool) → w.barred ≡ b → sure.Ends (trail.past_passenger isa (not false && not b) p w) (fetch_from (goto p))
    go true e = subst (λ (z : Bool). When (not z) (fetch_from (goto p) ≡ fetch_from w.goto)) (sym e) tt
    go false e = turn (trail.turns p.owes)
      where
        turn : (c : Bool) → When (not c) (fetch_from (goto p) ≡ fetch_from (goto p))
        turn true = tt
        turn false = refl

keeps_reg : (isa : Isa) (p : Passenger) (w : trail.Walk) → sure.SureAt isa p w → (r : ℕ) → reg_in p.dst ≢ Some r →
    slice_index (after_step (step_at isa w.machine p.pc) w.machine).hart.regs r ≡ slice_index w.machine.hart.regs r
unfolding sure.SureAt
keeps_reg isa p w h r f = sure_keeps isa p w.machine w.goto h.0 r (no_reg p.dst f)
  where
    no_reg : (o : Option Binding) → reg_in o ≢ Some r → trail.has_reg o r ≡ false
    no_reg None f = refl
    no_reg (Some b) f = go (b.reg == r) refl
      where
        go : (q : Bool) → (b.reg == r) ≡ q → (b.reg == r) ≡ false
        go false e = e
        go true e = absurd (f (ap Some (grind arith)))

below_keeps : (isa : Isa) (p : Passenger) (w : trail.Walk) (c : List (Option ℕ)) → p.dead ≡ false → (w.barred ≡ false → sure.SureAt isa p w) → sure.Keeps w c →
    sure.Keeps (trail.past isa (Up 1 p) w) (forgets (reg_in p.dst) c)
unfolding trail.past
below_keeps isa p w c d f k = subst (λ (z : Bool). sure.Keeps (trail.past_passenger isa (not z && not w.barred) p w) (forgets (reg_in p.dst) c)) (sym d)
    (go w.barred refl k)
  where
    go : (b : Bool) → w.barred ≡ b → When (not b) (sure.AreRegisters c w.machine.hart.regs) →
        sure.Keeps (trail.past_passenger isa (not false && not b) p w) (forgets (reg_in p.dst) c)
    go true e k = subst (λ (z : Bool). When (not z) (sure.AreRegisters (forgets (reg_in p.dst) c) w.machine.hart.regs)) (sym e) tt
    go false e k = turn (trail.turns p.owes)
      where
        turn : (q : Bool) → When (not q) (sure.AreRegisters (forgets (reg_in p.dst) c) (after_step (step_at isa w.machine p.pc) w.machine).hart.regs)
        turn true = tt
        turn false = forget_holds c (reg_in p.dst) w.machine.hart.regs (after_step (step_at isa w.machine p.pc) w.machine).hart.regs (keeps_reg isa p w (f e)) k

-- what nothing may follow
lone_fits : (p : Passenger) (b : Bool) → b ≡ false → lone.Fits (Up 1 p) b
unfolding lone.Fits
lone_fits p b e = e

serial_goto : (p : Passenger) → p.done ≡ false → (is_serial (kind p) || waits p.guess) ≡ true → goto p ≡ None
serial_goto p d e = grind arith

lone_ends : (l : Plan) (p : Passenger) (g : Guess) (b : Bool) → IsFresh p g → b ≡ false → lone.Ends (lone.past l (Up 1 p) b) (fetch_from (goto p))
unfolding lone.past
lone_ends l p g b n e = λ h. rw (go p.done (is_some p.ending) refl refl h)
  where
    go : (d q : Bool) → p.done ≡ d → is_some p.ending ≡ q → (b || (is_lone p || (trail.turns p.owes && lone.is_high l 1))) ≡ true → goto p ≡ None
    go false q f k h = let u = n.undone f in let o = n.owes in let v = serial_goto p f in grind (arith, v)
    go true true f k h = n.waits f k
    go true false f k h = let o = n.owes in absurd (grind arith)

-- its stage
free_is : (p : Passenger) (g : Guess) → IsFresh p g → is_free (kind p) ≡ true → p.done ≡ true
free_is p g n e = n.free e

stands_first : (l : Plan) (p : Passenger) (g : Guess) → Suits l → IsFresh p g → may_guess g p ≡ true → (is_plain (kind p) ≡ true → is_homed l (kind p) ≡ true) →
    Stands l 1 p
stands_first l p g acc n m home =
    let live = n.live in
    let owes = n.owes in
    let here = n.here in
    let never = n.never in
    record {
      low = λ _ _ _. low (siding_of l (kind p)) refl;
      out = λ e. absurd (cc);
      back = λ e. absurd (cc);
      back_done = λ e. absurd (cc);
      back_launched = λ e. absurd (cc);
      owes_live = λ e. live;
      owes_done = λ e. absurd (let q = rw owes at e in cc);
      owes_quiet = λ e. absurd (let q = rw owes at e in cc);
      guess = λ e. n.guess ∙ only g m e;
      served = λ e. absurd (served e);
      unended = λ e. (n.undone e).0;
      blank = λ e. rw (n.undone e).1 (empty (dst_of (instruction p)));
      free_done = λ e. free_is p g n e;
      out_undone = λ _ e. absurd (cc);
      faulted = λ _ e f _. absurd (let q = n.done f in grind arith);
      sourced1 = λ e. absurd (cc);
      sourced2 = λ e. absurd (cc);
      homed = home;
    }
  where
    low : (o : Option ℕ) → siding_of l (kind p) ≡ o → Low l (kind p) 1
    low None e = rw e (acc.first_last (kind p) e)
    low (Some k) e = rw e (acc.first_launch (kind p) k e)

    only : (g : Guess) → may_guess g p ≡ true → is_control (kind p) ≡ false → g ≡ Next
    only Next a e = refl
    only Wait a e = absurd (cc)
    only Taken a e = absurd (grind arith)
    only (To t) a e = absurd (grind arith)

    served : ahead.has_served p ≡ true → ⊥
    served e = go p.done refl
      where
        go : (d : Bool) → p.done ≡ d → ⊥
        go true f = let q = n.done f in grind arith
        go false f = grind arith

    empty : (o : Option ℕ) → Blank (destination o)
    empty None = tt
    empty (Some r) = refl

-- the port's walk is unchanged
not_served : (p : Passenger) (g : Guess) → IsFresh p g → ahead.has_served p ≡ false
not_served p g n = go p.done refl
  where
    go : (d : Bool) → p.done ≡ d → ahead.has_served p ≡ false
    go true f = let q = n.done f in grind arith
    go false f = grind arith

port_fits : (isa : Isa) (p : Passenger) (g : Guess) (w : dock.Dock) → IsFresh p g → dock.Fits isa (Up 1 p) w
unfolding dock.Fits dock.DockedAt
port_fits isa p g w n =
    let here = n.here in
    let never = n.never in
    let s = not_served p g n in
    record {
      live = λ a b. absurd (grind arith);
      order = λ a b. absurd (grind arith);
      served = λ a. absurd (cc);
      permitted = λ a b. absurd (grind arith);
      answered = λ a. absurd (grind arith);
    }

port_ends : (isa : Isa) (p : Passenger) (g : Guess) (w : dock.Dock) (m : Memory) (r o : List ℕ) → IsFresh p g → dock.Ends w m r o →
    dock.Ends (dock.past isa (Up 1 p) w) m r o
unfolding dock.past
port_ends isa p g w m r o n e =
    let here = n.here in
    let never = n.never in
    let s = not_served p g n in
    let q : ahead.has_ported p w.answer ≡ false = grind arith in
    record { is_mem = rw q e.is_mem; is_code = rw s e.is_code; is_rest = rw s e.is_rest; is_out = rw s e.is_out }

not_flown : (l : Plan) (k : ℕ) (p : Passenger) → p.launched ≡ false → operations_of l k (Up 1 p ∷ []) ≡ []
not_flown l k p e = rw e

moored : (l : Plan) (s t : State) (col : List Item) (p : Passenger) → t.sidings ≡ s.sidings → p.launched ≡ false → IsMoored l s col →
    IsMoored l t (col ++ Up 1 p ∷ [])
moored l s t col p e f h =
    rw e (record {
      operations = λ k. h.operations k ∙ sym (flown_append l k col (Up 1 p ∷ []) ∙ ap (λ q. operations_of l k col ++ q) (not_flown l k p f)
          ∙ append-nil (operations_of l k col));
      front = h.front;
      plain = h.plain;
      berths = h.berths;
    })

-- it has units or a siding
fresh_homed : (l : Plan) → Suits l → (mem : Memory) (c : List (Option ℕ)) (pc : ℕ) (g : Guess) →
    is_plain (kind (fresh c (fetched (isa_of l) mem pc) pc g)) ≡ true → is_homed l (kind (fresh c (fetched (isa_of l) mem pc) pc g)) ≡ true
fresh_homed l acc mem c pc g e = go (fetched (isa_of l) mem pc) refl e
  where
    go : (q : Fetched) → fetched (isa_of l) mem pc ≡ q → is_plain (kind (fresh c q pc g)) ≡ true → is_homed l (kind (fresh c q pc g)) ≡ true
    go (Got i) f k =
        let y : kind (fresh c (Got i) pc g) ≡ kind_of i = kind_is (fresh c (Got i) pc g) i (fresh_what i c pc g) in
        rw y (fetched_homed l acc mem pc i f (rw y at k))
    go (Bad b) f k =
        let y : kind (fresh c (Bad b) pc g) ≡ Free = ap (λ (o : Option Instr). on o Free kind_of) (fresh_nothing b c pc g) in
        absurd (let z = rw y at k in cc)

pub issue_kept : {rest out : List ℕ} (l : Plan) (s : State) (x : Machine) (g : Guess) → Suits l → bar l s (Issue g) ≡ None → Sound l s rest out x →
    Sound l (moved l s (Issue g)) rest out x
issue_kept {rest} {out} l s x g acc e h =
    let r = issue_ready l s g (bar_row l s (Issue g) e) in
    let p : Passenger = fresh s.cache (fetched (isa_of l) s.mem r.pc) r.pc g in
    let new = Up 1 p ∷ [] in
    let n : IsFresh p g = fresh_is (fetched (isa_of l) s.mem r.pc) s.cache r.pc g in
    let c : Cell = record r.here { passenger = Some p; met = false } in
    let t : State = record s { cells = c ∷ r.others; lane = s.lane ++ requests p; fetch = fetch_from (goto p); cache = forgets (reg_in p.dst) s.cache } in
    let was : column s ≡ column_from 2 r.others ++ items 1 r.here = ap (column_from 1) r.cells in
    let is : column t ≡ column s ++ new = ap (λ (q : List Item). column_from 2 r.others ++ q) (issue_items r.here p r.free)
    ∙ sym (append_assoc (column_from 2 r.others) (items 1 r.here) new) ∙ ap (λ (q : List Item). q ++ new) (sym was) in
    let f = lane_follows s t x (requests p) refl in
    let fp = lane_port l s t x refl f in
    let w = walk (trail.past (isa_of l)) (column s) (trail.top t x) in
    let wf = walk_follows _ (sure.Fits (isa_of l)) (trail.past (isa_of l)) paths.Follows (paths.path_walk (isa_of l)) (column s) _ _ f h.path_fit in
    let ends : sure.Ends w s.fetch = ends_path _ _ s.fetch wf h.path_ends in
    let keeps : sure.Keeps w s.cache = keeps_path _ _ s.cache wf h.cache in
    let shut = open_end _ s.fetch r.pc r.runs h.lone_ends in
    let d = walk (dock.past (isa_of l)) (column s) (dock.top l t x) in
    let df = walk_follows _ (dock.Fits (isa_of l)) (dock.past (isa_of l)) ports.Follows (ports.port_walk (isa_of l)) (column s) _ _ fp h.port_fit in
    let docks = fit_follows _ (dock.Fits (isa_of l)) (dock.past (isa_of l)) ports.Follows (ports.port_walk (isa_of l)) (column s) _ _ fp h.port_fit in
    let path_fit = fit_follows _ (sure.Fits (isa_of l)) (trail.past (isa_of l)) paths.Follows (paths.path_walk (isa_of l)) (column s) _ _ f h.path_fit in
    let ended = ends_port _ _ s.mem rest out df h.port_ends in
    let same : code_of s.mem ≡ code_of w.machine.hart.mem = ended.is_code ∙ code_fresh l (column s) (dock.top l t x) false shut path_fit docks
    (λ b. absurd (cc)) refl ∙ ap (λ (q : trail.Walk). code_of q.machine.hart.mem) (walk_path (isa_of l) (column s) (dock.top l t x)) in
    let certain : w.barred ≡ false → sure.SureAt (isa_of l) p w = λ b. sure_new s.cache (fetched (isa_of l) s.mem r.pc) r.pc g s.fetch w r.runs
    (fetched_alike (isa_of l) s.mem w.machine.hart.mem r.pc same) (λ a i. walk_coming (isa_of l) (column s) (trail.top t x) a
    (among_back a s.lane (requests p) i)) b ends keeps in
    rw (next_issue l s g r.here r.others r.pc p r.cells r.runs refl) (record {
      regs = h.regs;
      wide = h.wide;
      size = rw r.cells at h.size;
      path_fit = rw is (fit_append _ (sure.Fits (isa_of l)) (trail.past (isa_of l)) (column s) new _ path_fit (fits_path (isa_of l) p w n.live certain, tt));
      path_ends = rw (is, walk_append (trail.past (isa_of l)) (column s) new (trail.top t x)) (below_ends (isa_of l) p w n.live);
      cache = rw (is, walk_append (trail.past (isa_of l)) (column s) new (trail.top t x)) (below_keeps (isa_of l) p w s.cache n.live certain keeps);
      lone_fit = rw is (fit_append _ lone.Fits (lone.past l) (column s) new _ h.lone_fit (lone_fits p _ shut, tt));
      lone_ends = rw (is, walk_append (lone.past l) (column s) new false) (lone_ends l p g _ n shut);
      stands = rw is (each_append l (column s) new h.stands (stands_first l p g acc n r.guess (fresh_homed l acc s.mem s.cache r.pc g), tt));
      port_fit = rw is (fit_append _ (dock.Fits (isa_of l)) (dock.past (isa_of l)) (column s) new _ docks (port_fits (isa_of l) p g d n, tt));
      port_ends = rw (is, walk_append (dock.past (isa_of l)) (column s) new (dock.top l t x)) (port_ends (isa_of l) p g d s.mem rest out n ended);
      moored = rw is (moored l s t (column s) p refl n.here h.moored);
    })
  where
    sure_new : (c : List (Option ℕ)) (q : Fetched) (pc : ℕ) (g : Guess) (f : Fetch) (w : trail.Walk) → f ≡ Running pc →
        q ≡ fetched (isa_of l) w.machine.hart.mem pc → ((r : ℕ) → trail.among r (requests (fresh c q pc g)) ≡ true → w.coming r ≡ true) → w.barred ≡ false →
        sure.Ends w f → sure.Keeps w c → sure.SureAt (isa_of l) (fresh c q pc g) w
    sure_new c q pc g f w e y a b n k =
        let n' : f ≡ fetch_from w.goto = subst (λ (z : Bool). When (not z) (f ≡ fetch_from w.goto)) b n in
        let k' : sure.AreRegisters c w.machine.hart.regs = subst (λ (z : Bool). When (not z) (sure.AreRegisters c w.machine.hart.regs)) b k in
        subst (λ (z : Fetched). sure.SureAt (isa_of l) (fresh c z pc g) w) (sym y) (fresh_at (isa_of l) w c pc g k' (running_goto w.goto pc (sym e ∙ n'))
        (subst (λ (z : Fetched). (r : ℕ) → trail.among r (requests (fresh c z pc g)) ≡ true → w.coming r ≡ true) y a))
