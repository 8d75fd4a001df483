-- A change of the cells alone, through all parts of the invariant.
use Rattle.mem_regions.specs.Memory.{Memory}
use Rattle.std.proofs.Common.{Bool, List, Option, [], ap, arith, false, length, not, refl, sym, true, true≢false, ℕ, ◌++◌, ◌∙◌, ◌∷◌, ◌≡◌}
use Rattle.std.specs.Prelude.{if◌then◌else◌}
use Rattle.cf_bind.specs.declared.cell.Cell.{Cell}
use Rattle.cf_bind.specs.declared.packet.Fetch.{Fetch}
use Rattle.cf_layout.specs.Layout.{Plan}
use Rattle.theory_refinement.proofs.column.Fold.{Replaces, fit_back, fit_front, replaced}
use Rattle.theory_refinement.proofs.walks.Stands.{each_append, each_back, each_front}
use Rattle.theory_refinement.proofs.instructions.Steps.{step_wide}
use Rattle.theory_refinement.proofs.invariant.Invariant.{Sound}
use Rattle.theory_refinement.proofs.invariant.Operations.{IsMoored}
use Rattle.theory_refinement.proofs.invariant.Stands.{Each}
use Rattle.cf_semantics.specs.state.Column.{Down, Item, Up, column, column_from}
use Rattle.cf_semantics.specs.state.Layouts.{isa_of}
use Rattle.cf_semantics.specs.moves.Moves.{operation}
use Rattle.cf_semantics.specs.state.Options.{When}
use Rattle.cf_semantics.specs.state.State.{State}
use Rattle.cf_semantics.specs.claims.Walks.{Everywhere, walk}
use Rattle.rv_inst.specs.declared.isa.Isa.{Isa}
use Rattle.rv_machine.specs.Machine.{Machine}
use Rattle.theory_refinement.proofs.invariant.Port as dock
use Rattle.theory_refinement.proofs.invariant.Lone as lone
use Rattle.theory_refinement.proofs.walks.Lone as lones
use Rattle.theory_refinement.proofs.walks.Path as paths
use Rattle.theory_refinement.proofs.walks.Port as ports
use Rattle.theory_refinement.proofs.invariant.Sure as sure
use Rattle.cf_semantics.specs.claims.Path as trail
use Rattle.cf_semantics.specs.claims.Soundness.{in_siding, operations_of}
use Rattle.cf_bind.specs.declared.cell.Op.{Op}
use Rattle.theory_refinement.proofs.walks.Order.{past_path}

past_wide : (isa : Isa) (i : Item) (w : trail.Walk) → length w.machine.hart.regs ≡ 32 → length (trail.past isa i w).machine.hart.regs ≡ 32
unfolding trail.past
past_wide isa i w e = grind (arith, step_wide)

pub walk_wide : (isa : Isa) (xs : List Item) (w : trail.Walk) → length w.machine.hart.regs ≡ 32 → length (walk (trail.past isa) xs w).machine.hart.regs ≡ 32
walk_wide isa [] w e = e
walk_wide isa (i ∷ xs) w e = walk_wide isa xs (trail.past isa i w) (past_wide isa i w e)

-- the port's walk contains the path's
pub walk_path : (isa : Isa) (xs : List Item) (w : dock.Dock) → (walk (dock.past isa) xs w).path ≡ walk (trail.past isa) xs w.path
walk_path isa [] w = refl
walk_path isa (i ∷ xs) w = walk_path isa xs (dock.past isa i w) ∙ ap (λ (q : trail.Walk). walk (trail.past isa) xs q) (past_path isa i w)

pub past_safe : (isa : Isa) (i : Item) (w : dock.Dock) → (w.path.barred ≡ true → w.risky ≡ true) → (dock.past isa i w).path.barred ≡ true →
    (dock.past isa i w).risky ≡ true
unfolding dock.past trail.past
past_safe isa i w s e = grind arith

pub walk_safe : (isa : Isa) (xs : List Item) (w : dock.Dock) → (w.path.barred ≡ true → w.risky ≡ true) → (walk (dock.past isa) xs w).path.barred ≡ true →
    (walk (dock.past isa) xs w).risky ≡ true
walk_safe isa [] w s e = s e
walk_safe isa (i ∷ xs) w s e = walk_safe isa xs (dock.past isa i w) (past_safe isa i w s) e

pub flown_append : (l : Plan) (k : ℕ) (xs ys : List Item) → operations_of l k (xs ++ ys) ≡ operations_of l k xs ++ operations_of l k ys
flown_append l k [] ys = refl
flown_append l k (Up i p ∷ xs) ys = go (in_siding l k p) (flown_append l k xs ys)
  where
    go : (b : Bool) → operations_of l k (xs ++ ys) ≡ operations_of l k xs ++ operations_of l k ys →
        (if b then operation p ∷ operations_of l k (xs ++ ys) else operations_of l k (xs ++ ys))
        ≡ (if b then operation p ∷ operations_of l k xs else operations_of l k xs) ++ operations_of l k ys
    go true e = ap (λ q. operation p ∷ q) e
    go false e = e
flown_append l k (Down i q ∷ xs) ys = flown_append l k xs ys

-- what is known at a position
pub record Here (l : Plan) (s : State) (x : Machine) (above old : List Item) : Type 0 where
  pub path_fit : Everywhere (sure.Fits (isa_of l)) (trail.past (isa_of l)) old (walk (trail.past (isa_of l)) above (trail.top s x))
  pub lone_fit : Everywhere lone.Fits (lone.past l) old (walk (lone.past l) above false)
  pub stands : Each l old
  pub port_fit : Everywhere (dock.Fits (isa_of l)) (dock.past (isa_of l)) old (walk (dock.past (isa_of l)) above (dock.top l s x))
  pub wide : length (walk (trail.past (isa_of l)) above (trail.top s x)).machine.hart.regs ≡ 32
  pub same : (walk (dock.past (isa_of l)) above (dock.top l s x)).path ≡ walk (trail.past (isa_of l)) above (trail.top s x)
  pub safe : (walk (dock.past (isa_of l)) above (dock.top l s x)).path.barred ≡ true → (walk (dock.past (isa_of l)) above (dock.top l s x)).risky ≡ true

pub here : {rest out : List ℕ} (l : Plan) (s : State) (x : Machine) (above old below : List Item) → column s ≡ above ++ (old ++ below) → Sound l s rest out x →
    Here l s x above old
here {rest} {out} l s x above old below e h = record {
  path_fit = fit_front _ (sure.Fits (isa_of l)) (trail.past (isa_of l)) old below _ (fit_back _ (sure.Fits (isa_of l)) (trail.past (isa_of l)) above (old
      ++ below) _ (rw e at h.path_fit));
  lone_fit = fit_front _ lone.Fits (lone.past l) old below _ (fit_back _ lone.Fits (lone.past l) above (old ++ below) _ (rw e at h.lone_fit));
  stands = each_front l old below (each_back l above (old ++ below) (rw e at h.stands));
  port_fit = fit_front _ (dock.Fits (isa_of l)) (dock.past (isa_of l)) old below _ (fit_back _ (dock.Fits (isa_of l)) (dock.past (isa_of l)) above (old
      ++ below) _ (rw e at h.port_fit));
  wide = walk_wide (isa_of l) above (trail.top s x) h.wide;
  same = walk_path (isa_of l) above (dock.top l s x);
  safe = walk_safe (isa_of l) above (dock.top l s x) (λ b. absurd (cc));
}

-- what has to be shown of a change at its position
pub record Owes (l : Plan) (s : State) (x : Machine) (above old new : List Item) : Type 0 where
  pub path : Replaces trail.Walk (sure.Fits (isa_of l)) (trail.past (isa_of l)) paths.Follows old new (walk (trail.past (isa_of l)) above (trail.top s x))
  pub lone : Replaces Bool lone.Fits (lone.past l) lones.Follows old new (walk (lone.past l) above false)
  pub stands : Each l new
  pub port : Replaces dock.Dock (dock.Fits (isa_of l)) (dock.past (isa_of l)) ports.Follows old new (walk (dock.past (isa_of l)) above (dock.top l s x))
  pub operations : (k : ℕ) → operations_of l k old ≡ operations_of l k new

pub ends_path : (w v : trail.Walk) (f : Fetch) → paths.Follows w v → sure.Ends w f → sure.Ends v f
ends_path w v f h e = grind arith

pub keeps_path : (w v : trail.Walk) (c : List (Option ℕ)) → paths.Follows w v → sure.Keeps w c → sure.Keeps v c
keeps_path w v c h e = go w.barred v.barred refl refl e
  where
    go : (a b : Bool) → w.barred ≡ a → v.barred ≡ b → When (not a) (sure.AreRegisters c w.machine.hart.regs) →
        When (not b) (sure.AreRegisters c v.machine.hart.regs)
    go a true f g e = tt
    go true false f g e = absurd (let q = h.barred f in true≢false (sym q ∙ g))
    go false false f g e = rw (h.machine g) e

pub ends_lone : (w v : Bool) (f : Fetch) → lones.Follows w v → lone.Ends w f → lone.Ends v f
ends_lone w v f h e = λ a. e (h.shut a)

pub ends_port : (w v : dock.Dock) (m : Memory) (r o : List ℕ) → ports.Follows w v → dock.Ends w m r o → dock.Ends v m r o
ends_port w v m r o h e =
    record { is_mem = e.is_mem ∙ sym h.mem; is_code = e.is_code ∙ sym h.code; is_rest = e.is_rest ∙ sym h.rest; is_out = e.is_out ∙ sym h.out }

-- what no change of cells and sidings touches
pub record Same (s t : State) : Type 0 where
  pub regs : t.regs ≡ s.regs
  pub lane : t.lane ≡ s.lane
  pub fetch : t.fetch ≡ s.fetch
  pub cache : t.cache ≡ s.cache
  pub size : length t.cells ≡ length s.cells

-- the port's part of the invariant
pub record Docks (l : Plan) (s : State) (rest out : List ℕ) (x : Machine) : Type 0 where
  pub fit : Everywhere (dock.Fits (isa_of l)) (dock.past (isa_of l)) (column s) (dock.top l s x)
  pub ends : dock.Ends (walk (dock.past (isa_of l)) (column s) (dock.top l s x)) s.mem rest out

each_changed : (l : Plan) (above old new below : List Item) → Each l new → Each l (above ++ (old ++ below)) → Each l (above ++ (new ++ below))
each_changed l above old new below n h = each_append l above (new ++ below) (each_front l above (old ++ below) h)
    (each_append l new below n (each_back l old below (each_back l above (old ++ below) h)))

pub flown_changed : (l : Plan) (k : ℕ) (above old new below : List Item) → operations_of l k old ≡ operations_of l k new →
    operations_of l k (above ++ (old ++ below)) ≡ operations_of l k (above ++ (new ++ below))
flown_changed l k above old new below e =
    rw (flown_append l k above (new ++ below), flown_append l k new below, flown_append l k above (old ++ below), flown_append l k old below, e)

-- a change in the middle of the column, with the port and the sidings apart
pub reshaped : {rest out r o : List ℕ} (l : Plan) (s t : State) (x : Machine) (above old new below : List Item) → column s ≡ above ++ (old ++ below) →
    column t ≡ above ++ (new ++ below) → Same s t → Replaces trail.Walk (sure.Fits (isa_of l)) (trail.past (isa_of l)) paths.Follows old new
    (walk (trail.past (isa_of l)) above (trail.top s x)) → Replaces Bool lone.Fits (lone.past l) lones.Follows old new (walk (lone.past l) above false) →
    Each l new → Docks l t r o x → IsMoored l t (column t) → Sound l s rest out x → Sound l t r o x
reshaped {rest} {out} {r} {o} l s t x above old new below was is q fp fl n d m h =
    let a = replaced _ (sure.Fits (isa_of l)) (trail.past (isa_of l)) paths.Follows (paths.path_walk (isa_of l)) above old new below (trail.top s x) fp
    (rw was at h.path_fit) in
    let b = replaced _ lone.Fits (lone.past l) lones.Follows (lones.lone_walk l) above old new below false fl (rw was at h.lone_fit) in
    record {
      regs = q.regs ∙ h.regs;
      wide = h.wide;
      size = q.size ∙ h.size;
      path_fit = rw (is, q.lane) a.0;
      path_ends = rw (is, q.lane, q.fetch) (ends_path _ _ s.fetch a.1 (rw was at h.path_ends));
      cache = rw (is, q.lane, q.cache) (keeps_path _ _ s.cache a.1 (rw was at h.cache));
      lone_fit = rw is b.0;
      lone_ends = rw (is, q.fetch) (ends_lone _ _ s.fetch b.1 (rw was at h.lone_ends));
      stands = rw is (each_changed l above old new below n (rw was at h.stands));
      port_fit = d.fit;
      port_ends = d.ends;
      moored = m;
    }

-- the port's part, if its walk begins as before and memory, input and output are unchanged
pub docked : {rest out : List ℕ} (l : Plan) (s t : State) (x : Machine) (above old new below : List Item) → column s ≡ above ++ (old ++ below) →
    column t ≡ above ++ (new ++ below) → dock.top l t x ≡ dock.top l s x → t.mem ≡ s.mem →
    Replaces dock.Dock (dock.Fits (isa_of l)) (dock.past (isa_of l)) ports.Follows old new (walk (dock.past (isa_of l)) above (dock.top l s x)) →
    Sound l s rest out x → Docks l t rest out x
docked {rest} {out} l s t x above old new below was is e m f h =
    let d = replaced _ (dock.Fits (isa_of l)) (dock.past (isa_of l)) ports.Follows (ports.port_walk (isa_of l)) above old new below (dock.top l s x) f
    (rw was at h.port_fit) in
    record { fit = rw (is, e) d.0; ends = rw (is, e, m) (ends_port _ _ s.mem rest out d.1 (rw was at h.port_ends)) }

pub changed : {rest out : List ℕ} (l : Plan) (s : State) (x : Machine) (cells : List Cell) (above old new below : List Item) →
    column s ≡ above ++ (old ++ below) → column_from 1 cells ≡ above ++ (new ++ below) → length cells ≡ length s.cells →
    (Here l s x above old → Owes l s x above old new) → Sound l s rest out x → Sound l (record s { cells = cells }) rest out x
changed {rest} {out} l s x cells above old new below was is n f h =
    let o = f (here l s x above old below was h) in
    let t : State = record s { cells = cells } in
    reshaped l s t x above old new below was is (record { regs = refl; lane = refl; fetch = refl; cache = refl; size = n }) o.path o.lone o.stands
    (docked l s t x above old new below was is refl refl o.port h)
    (record {
      operations = λ k. h.moored.operations k ∙ ap (operations_of l k) was ∙ flown_changed l k above old new below (o.operations k)
          ∙ ap (operations_of l k) (sym is);
      front = h.moored.front;
      plain = h.moored.plain;
      berths = h.moored.berths;
    })
    h

-- a change of the sidings and the memory alone
pub beside : {rest out : List ℕ} (l : Plan) (s : State) (x : Machine) (sidings : List (List (Option Op))) (mem : Memory) →
    Docks l (record s { sidings = sidings; mem = mem }) rest out x → IsMoored l (record s { sidings = sidings; mem = mem }) (column s) → Sound l s rest out x →
    Sound l (record s { sidings = sidings; mem = mem }) rest out x
beside {rest} {out} l s x sidings mem d m h = record {
  regs = h.regs;
  wide = h.wide;
  size = h.size;
  path_fit = h.path_fit;
  path_ends = h.path_ends;
  cache = h.cache;
  lone_fit = h.lone_fit;
  lone_ends = h.lone_ends;
  stands = h.stands;
  port_fit = d.fit;
  port_ends = d.ends;
  moored = m;
}
