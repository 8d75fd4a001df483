-- What was kept of a move can be put back into the processor that has made it.
use Rattle.std.proofs.Common.{◌≡◌, ◌∙◌, ℕ, zero, suc, ◌+◌, ◌-◌, ◌<◌, ◌≤◌, List, [], ◌∷◌, All, Option, Some, None, length, map, refl, sym, ap, subst, arith}
use Rattle.std.specs.Prelude.{IfSome, slice_get, slice_index, slice_index_or}
use Rattle.rv_inst.specs.declared.isa.Isa.{Isa}
use Rattle.cf_bind.specs.declared.binding.Binding.{Binding}
use Rattle.cf_bind.specs.declared.cell.Cell.{Cell}
use Rattle.cf_bind.specs.declared.cell.Op.{Op}
use Rattle.cf_bind.specs.declared.moves.Move.{Move}
use Rattle.cf_bind.specs.declared.moves.Move.TheVariants.{Issue, Emit, Climb, Fall, Meet, Execute, Send, Launch, Slide, Access, Recover, Leave, Exit, Serve}
use Rattle.cf_bind.specs.declared.passenger.Passenger.{Passenger}
use Rattle.cf_layout.specs.Layout.{Plan}
use Rattle.cf_passengers.specs.Facts.{IsBinding, IsPassenger, IsWritable}
use Rattle.cf_semantics.specs.moves.Kept.{Kept, KeptCell, KeptOp, KeptRegister, kept, kept_cell, kept_cells, kept_op, kept_ops, kept_register, lane_back, last_place, restored, siding_there}
use Rattle.cf_semantics.specs.state.Layouts.{isa_of, port}
use Rattle.cf_semantics.specs.moves.Moves.{moved}
use Rattle.cf_semantics.specs.state.Options.{on}
use Rattle.cf_semantics.specs.state.Passengers.{reg_in}
use Rattle.cf_semantics.specs.state.State.{State, cell_at, siding_at}
use Rattle.cf_stages.proofs.Parts.{stage-high, stage-low}
use Rattle.theory_confluence.proofs.back.TakenBack.{state_back}
use Rattle.cf_core.specs.Places.{CanReturn, Each, FitsLane, IsOldCell, IsOldOp}
use Rattle.cf_core.specs.Processors.{Processor, IsProcessor, IsCellOfSet}
use Rattle.cf_core.specs.Undo.{HasJustMade, cell_kept, kept_by, lane_kept, list_of_few, op_kept, register_kept}
use Rattle.cf_core.specs.declared.undo.Few.{Few}
use Rattle.cf_core.specs.declared.undo.Few.TheVariants.{Nothing, One, Two}
use Rattle.cf_core.specs.declared.undo.OldCell.{OldCell}
use Rattle.cf_core.specs.declared.undo.OldLane.{OldLane}
use Rattle.cf_core.specs.declared.undo.OldLane.TheVariants as old
use Rattle.cf_core.specs.declared.undo.OldOp.{OldOp}
use Rattle.cf_core.specs.declared.undo.OldRegister.{OldRegister}
use Rattle.cf_core.specs.declared.undo.Undo.{Undo}
use Rattle.cf_core.proofs.Cells.{cell-stage}

-- The move is taken back --

pub earlier-restored : (p : Processor) (k : Kept) → (h : HasJustMade p k) → restored p.state k ≡ h.earlier
earlier-restored p k h =
    ap (λ (s : State). restored s k) h.made
    ∙ ap (restored (moved p.plan h.earlier k.move)) h.is
    ∙ state_back p.plan h.earlier k.move h.allowed h.other

-- Lists of what is kept --

-- this holds of each element
abbrev Holds : {A : Type 0} → (A → Type 0) → List A → Type 0
Holds P [] = Unit {0}
Holds P (x ∷ xs) = P x × Holds P xs

each_held : {A B : Type 0} (f : A → B) (P : B → Type 0) (few : Few A) → Holds P (map f (list_of_few few)) → Each (λ a. P (f a)) few
each_held f P Nothing h = tt
each_held f P (One a) h = h.0
each_held f P (Two a b) h = (h.0, h.1.0)

each_weaker : {A : Type 0} (P Q : A → Type 0) (few : Few A) → ((a : A) → P a → Q a) → Each P few → Each Q few
each_weaker P Q Nothing f h = tt
each_weaker P Q (One a) f h = f a h
each_weaker P Q (Two a b) f h = (f a h.0, f b h.1)

on_held : {A B : Type 0} (P : B → Type 0) (o : Option A) (f : A → List B) → ((a : A) → o ≡ Some a → Holds P (f a)) → Holds P (on o [] f)
on_held P None f h = tt
on_held P (Some a) f h = h a refl

-- Stages --

-- what is kept of a stage is what is there
abbrev StandsIn : State → KeptCell → Type 0
StandsIn s k = cell_at s.cells k.stage ≡ Some k.cell

one_cell : (s : State) (i : ℕ) → Holds (StandsIn s) (kept_cell s i)
one_cell s i = on_held (StandsIn s) (cell_at s.cells i) _ (λ c e. (e, tt))

two_cells : (s : State) (i j : ℕ) → Holds (StandsIn s) (on (cell_at s.cells i) [] (λ c. record { stage = i; cell = c } ∷ kept_cell s j))
two_cells s i j = on_held (StandsIn s) (cell_at s.cells i) _ (λ c e. (e, one_cell s j))

cells_stand : (plan : Plan) (s : State) (mv : Move) → Holds (StandsIn s) (kept_cells plan s mv)
cells_stand plan s (Issue g) = one_cell s 1
cells_stand plan s Emit = one_cell s plan.stages
cells_stand plan s (Climb i) = two_cells s i (i + 1)
cells_stand plan s (Fall i) = two_cells s i (i - 1)
cells_stand plan s (Meet i) = one_cell s i
cells_stand plan s (Execute i) = one_cell s i
cells_stand plan s (Send i) = one_cell s i
cells_stand plan s (Launch i) = one_cell s i
cells_stand plan s (Slide k c) = tt
cells_stand plan s Access = tt
cells_stand plan s (Recover i) = one_cell s i
cells_stand plan s Leave = one_cell s plan.stages
cells_stand plan s Exit = one_cell s 1
cells_stand plan s Serve = tt

old_cell : (plan : Plan) (s : State) (c : OldCell) → IsProcessor plan s → StandsIn s (cell_kept c) → IsOldCell plan.stages c
old_cell plan s c h e =
    let high = stage-high s.cells c.stage c.cell e in
    let n = h.stages in
    record {
      above = stage-low s.cells c.stage c.cell e;
      within = omega (arith, high, n);
      met = (cell-stage (isa_of plan) s.cells c.stage c.cell h.cells (sym e)).met;
    }

old_cells : (plan : Plan) (s : State) (mv : Move) (few : Few OldCell) → IsProcessor plan s → map cell_kept (list_of_few few) ≡ kept_cells plan s mv →
    Each (IsOldCell plan.stages) few
old_cells plan s mv few h e =
    each_weaker (λ c. StandsIn s (cell_kept c)) (IsOldCell plan.stages) few (λ c stands. old_cell plan s c h stands)
    (each_held cell_kept (StandsIn s) few (subst (Holds (StandsIn s)) (sym e) (cells_stand plan s mv)))

-- Sidings --

-- what is kept of a siding's cell is what is there
abbrev StandsBeside : State → KeptOp → Type 0
StandsBeside s k = slice_get (siding_at s k.siding) k.place ≡ Some k.op

one_op : (s : State) (k c : ℕ) → Holds (StandsBeside s) (kept_op s k c)
one_op s k c = on_held (StandsBeside s) (slice_get (siding_at s k) c) _ (λ o e. (e, tt))

ops_stand : (plan : Plan) (s : State) (mv : Move) → Holds (StandsBeside s) (kept_ops plan s mv)
ops_stand plan s (Issue g) = tt
ops_stand plan s Emit = tt
ops_stand plan s (Climb i) = tt
ops_stand plan s (Fall i) = tt
ops_stand plan s (Meet i) = tt
ops_stand plan s (Execute i) = tt
ops_stand plan s (Send i) = tt
ops_stand plan s (Launch i) = on_held (StandsBeside s) (siding_there plan s i) _ (λ k e. one_op s k 0)
ops_stand plan s (Slide k c) = on_held (StandsBeside s) (slice_get (siding_at s k) c) _ (λ o e. (e, one_op s k (c + 1)))
ops_stand plan s Access = one_op s (port plan) (last_place s (port plan))
ops_stand plan s (Recover i) = on_held (StandsBeside s) (siding_there plan s i) _ (λ k e. one_op s k (last_place s k))
ops_stand plan s Leave = tt
ops_stand plan s Exit = tt
ops_stand plan s Serve = tt

-- a cell of a siding that exists
record HasPlace (sizes : List ℕ) (k c : ℕ) : Type 0 where
  siding : k < length sizes
  place : c < slice_index_or sizes k 0

cell_within : (ops : List (Option Op)) (c : ℕ) (o : Option Op) → slice_get ops c ≡ Some o → c < length ops
cell_within [] c o e = absurd (cc)
cell_within (q ∷ ops) zero o e = omega arith
cell_within (q ∷ ops) (suc c) o e = let w = cell_within ops c o e in omega (arith, w)

has_place : (ss : List (List (Option Op))) (k c : ℕ) (o : Option Op) → slice_get (on (slice_get ss k) [] (λ q. q)) c ≡ Some o → HasPlace (map length ss) k c
has_place [] k c o e = absurd (cc)
has_place (q ∷ ss) zero c o e = record { siding = omega arith; place = cell_within q c o e }
has_place (q ∷ ss) (suc k) c o e = let h = has_place ss k c o e in let w = h.siding in record { siding = omega (arith, w); place = h.place }

old_op : (s : State) (o : OldOp) → StandsBeside s (op_kept o) → IsOldOp (map length s.sidings) o
old_op s o e = let h = has_place s.sidings o.siding o.place o.op e in record { siding = h.siding; place = h.place }

old_ops : (plan : Plan) (s : State) (mv : Move) (few : Few OldOp) → map op_kept (list_of_few few) ≡ kept_ops plan s mv →
    Each (IsOldOp (map length s.sidings)) few
old_ops plan s mv few e =
    each_weaker (λ o. StandsBeside s (op_kept o)) (IsOldOp (map length s.sidings)) few (λ o stands. old_op s o stands)
    (each_held op_kept (StandsBeside s) few (subst (Holds (StandsBeside s)) (sym e) (ops_stand plan s mv)))

-- The lane and the register --

first_below : (l : List ℕ) (r : ℕ) (rest : List ℕ) → All IsWritable l → r ∷ rest ≡ l → r < 32
first_below [] r rest all e = absurd (cc)
first_below (x ∷ xs) r rest all e = let is : r ≡ x = cc in let w = (all 0 x (omega arith)).1 in rw is w

fits_lane : (p : Processor) (l : OldLane) (before : List ℕ) → All IsWritable before → length before ≤ p.plan.lane →
    lane_back (lane_kept l) p.state.lane ≡ before → FitsLane p l
fits_lane p old.Same before all room e = tt
fits_lane p (old.Taken r) before all room e =
    let long : suc (length p.state.lane) ≡ length before = ap length e in
    (first_below before r p.state.lane all e, omega (arith, long, room))
fits_lane p (old.Added n) before all room e = tt

dst_register : (s : State) (d : Option Binding) → IfSome d IsBinding → IfSome {T = KeptRegister}
    (on (reg_in d) None (λ r. Some (record { reg = r; value = slice_index s.regs r }))) (λ k. IsWritable k.reg)
dst_register s None h = tt
dst_register s (Some b) h = h

if_on : {A B : Type 0} (P : B → Type 0) (o : Option A) (f : A → Option B) → ((a : A) → o ≡ Some a → IfSome (f a) P) → IfSome (on o None f) P
if_on P None f h = tt
if_on P (Some a) f h = h a refl

rider : (isa : Isa) (c : Cell) (p : Passenger) → IsCellOfSet isa c → c.passenger ≡ Some p → IsPassenger isa p
rider isa c p h e = subst (λ (o : Option Passenger). IfSome o (IsPassenger isa)) e h.passenger

left_register : (plan : Plan) (s : State) → IsProcessor plan s → IfSome (kept_register plan s Leave) (λ k. IsWritable k.reg)
left_register plan s h =
    if_on (λ k. IsWritable k.reg) (cell_at s.cells plan.stages) _ (λ c e.
    if_on (λ k. IsWritable k.reg) c.passenger _ (λ p rides.
    dst_register s p.dst (rider (isa_of plan) c p (cell-stage (isa_of plan) s.cells plan.stages c h.cells (sym e)) rides).dst))

kept_writable : (plan : Plan) (s : State) (mv : Move) → IsProcessor plan s → IfSome (kept_register plan s mv) (λ k. IsWritable k.reg)
kept_writable plan s Leave h = left_register plan s h
kept_writable plan s mv h = tt

old_writable : (o : Option OldRegister) → IfSome (register_kept o) (λ k. IsWritable k.reg) → IfSome o (λ r. IsWritable r.reg)
old_writable None h = tt
old_writable (Some r) h = h

-- All of it --

same_sizes : (plan : Plan) (s t : State) → IsProcessor plan s → IsProcessor plan t → map length s.sidings ≡ map length t.sidings
same_sizes plan s t h k = h.sidings ∙ sym k.sidings

pub can-return : (p : Processor) (u : Undo) → IsProcessor p.plan p.state → HasJustMade p (kept_by u) → CanReturn p u
unfolding kept_by kept restored
can-return p u now h =
    let s = h.earlier in
    let mv = u.made in
    let k = h.is in
    record {
      cells = subst (λ (n : ℕ). Each (IsOldCell n) u.cells) (sym now.stages) (old_cells p.plan s mv u.cells h.stood.facts (ap (λ (x : Kept). x.cells) k));
      ops = subst (λ (sizes : List ℕ). Each (IsOldOp sizes) u.ops) (same_sizes p.plan s p.state h.stood.facts now)
          (old_ops p.plan s mv u.ops (ap (λ (x : Kept). x.ops) k));
      lane = fits_lane p u.lane s.lane h.stood.facts.lane h.stood.room (ap (λ (t : State). t.lane) (earlier-restored p (kept_by u) h));
      zero = subst (λ (l : List (Option ℕ)). slice_get l 0 ≡ Some None) (sym (ap (λ (x : Kept). x.cache) k)) h.stood.zero;
      register = old_writable u.register (subst (λ (o : Option KeptRegister). IfSome o (λ r. IsWritable r.reg)) (sym (ap (λ (x : Kept). x.register) k))
          (kept_writable p.plan s mv h.stood.facts));
    }
