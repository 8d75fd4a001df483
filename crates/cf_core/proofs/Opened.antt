-- What holds of every processor holds of one in which nothing is.
use Rattle.std.proofs.Common.{◌≡◌, ℕ, zero, suc, List, [], ◌∷◌, Option, Some, None, Bool, false, map, length, refl, sym, ap, ◌∙◌}
use Rattle.std.specs.Prelude.{replicate, IfSome, slice_get}
use Rattle.std.proofs.lemmas.List.{length-replicate}
use Rattle.std.proofs.lemmas.List.Elements.{All-nil, All-replicate}
use Rattle.mem_regions.specs.Access.{Bounds, bounds_of}
use Rattle.mem_regions.specs.Memory.{Memory}
use Rattle.cf_layout.specs.Accepted.{IsAccepted}
use Rattle.cf_layout.specs.Layout.{Plan, SidingPlan}
use Rattle.cf_bind.specs.declared.cell.Op.{Op}
use Rattle.cf_bind.specs.declared.packet.Fetch.{Fetch}
use Rattle.cf_bind.specs.declared.passenger.End.{End}
use Rattle.cf_semantics.specs.state.Layouts.{isa_of}
use Rattle.cf_semantics.specs.state.Options.{on}
use Rattle.cf_semantics.specs.runs.Runs.{empty_cell, empty_siding}
use Rattle.cf_bind.specs.declared.cell.Cell.{Cell}
use Rattle.cf_semantics.specs.state.State.{State, cell_at}
use Rattle.cf_stages.specs.Words.{word_of}
use Rattle.cf_stages.proofs.Bits.{word-agrees}
use Rattle.cf_stages.proofs.Empty.{word-none}
use Rattle.cf_core.specs.Marks.{mark_at, marks_of}
use Rattle.cf_core.specs.declared.marks.StageMark.{StageMark}
use Rattle.cf_passengers.specs.Facts.{IsWritable}
use Rattle.cf_sidings.specs.Sidings.{empty_sidings}
use Rattle.cf_core.specs.Processors.{AreOps, IsOp, IsProcessor, IsCellOfSet}

-- the marks of a stage of which nothing holds
abbrev no_mark : StageMark
no_mark = record { owes = false; stops = false; execute = false; launch = false; recover = false }

-- a cell without an operation
no_op : Option Op
no_op = None

cells_empty : (siding : SidingPlan) → length (empty_siding siding) ≡ siding.cells
unfolding no_op
cells_empty siding = length-replicate siding.cells no_op

-- each siding has as many cells as the layout says
cells_laid : (sidings : List SidingPlan) → map length (map empty_siding sidings) ≡ map (λ siding. siding.cells) sidings
cells_laid [] = refl
cells_laid (s ∷ ss) = rw (cells_empty s, cells_laid ss) refl

-- none of these cells holds an operation
none_holds : (plan : Plan) (bounds : List Bounds) (n : ℕ) (sidings : List SidingPlan) (k : ℕ) →
    AreOps plan bounds n (on (slice_get (map empty_siding sidings) k) [] (λ ops. ops))
none_holds plan bounds n [] k = All-nil (λ (o : Option Op). IfSome o (IsOp plan bounds n))
none_holds plan bounds n (s ∷ ss) zero = All-replicate (λ (o : Option Op). IfSome o (IsOp plan bounds n)) s.cells None tt
none_holds plan bounds n (s ∷ ss) (suc k) = none_holds plan bounds n ss k

pub opened-processor : (plan : Plan) (fetch : Fetch) (cache : List (Option ℕ)) (regs : List ℕ) (mem : Memory) (retired : ℕ) (ending : Option End)
    (failed : Bool) → IsAccepted plan →
    IsProcessor plan (record {
      cells = replicate plan.stages empty_cell;
      sidings = empty_sidings plan;
      lane = [];
      fetch = fetch;
      cache = cache;
      regs = regs;
      mem = mem;
      retired =
          retired;
      ending = ending;
      failed = failed;
    })
unfolding empty_sidings
opened-processor plan fetch cache regs mem retired ending failed acc = record {
  accepted = acc;
  stages = length-replicate plan.stages empty_cell;
  sidings = cells_laid plan.sidings;
  cells = All-replicate (IsCellOfSet (isa_of plan)) plan.stages empty_cell (record { passenger = tt; packet = tt; met = λ h. absurd (cc) });
  ops = λ k. none_holds plan (bounds_of mem) k plan.sidings k;
  lane = All-nil IsWritable;
}

-- so it holds of each processor whose stages, sidings and lane are empty
pub opened-is : (plan : Plan) (s : State) → IsAccepted plan → s.cells ≡ replicate plan.stages empty_cell → s.sidings ≡ empty_sidings plan → s.lane ≡ [] →
    IsProcessor plan s
opened-is plan s acc stages sidings lane = rw (← stages, ← sidings, ← lane) at (opened-processor plan s.fetch s.cache s.regs s.mem s.retired s.ending s.failed
    acc)

pub ruleset opening = (opened-processor)

-- nothing holds of an empty stage
nothing_at : (plan : Plan) (s : State) (n i : ℕ) (o : Option Cell) → s.cells ≡ replicate n empty_cell → cell_at s.cells i ≡ o → mark_at plan s i ≡ no_mark
unfolding mark_at
nothing_at plan s n i None e here = rw here refl
nothing_at plan s n i (Some c) e here =
    let empty : c ≡ empty_cell = only_empty n i c (rw e at here) in
    rw (here, empty) refl
  where
    only_empty : (n i : ℕ) (c : Cell) → cell_at (replicate n empty_cell) i ≡ Some c → c ≡ empty_cell
    only_empty n zero c g = absurd (cc)
    only_empty zero (suc k) c g = absurd (cc)
    only_empty (suc n) (suc zero) c g = cc
    only_empty (suc n) (suc (suc k)) c g = only_empty n (suc k) c g

nowhere : (plan : Plan) (s : State) (field : StageMark → Bool) → field no_mark ≡ false → s.cells ≡ replicate plan.stages empty_cell →
    0 ≡ word_of (λ i. field (mark_at plan s i)) plan.stages
nowhere plan s field off e =
    sym (word-agrees (λ i. field (mark_at plan s i)) (λ i. false) plan.stages (λ i low high. ap field
    (nothing_at plan s plan.stages i (cell_at s.cells i) e refl) ∙ off) ∙ word-none plan.stages)

pub opened-marks : (plan : Plan) (s : State) → s.cells ≡ replicate plan.stages empty_cell →
    record { owes = 0; stops = 0; execute = 0; launch = 0; recover = 0 } ≡ marks_of plan s
unfolding marks_of
opened-marks plan s e =
    let owes = nowhere plan s (λ m. m.owes) refl e in
    let stops = nowhere plan s (λ m. m.stops) refl e in
    let execute = nowhere plan s (λ m. m.execute) refl e in
    let launch = nowhere plan s (λ m. m.launch) refl e in
    let recover = nowhere plan s (λ m. m.recover) refl e in
    λ x. record { owes = owes x; stops = stops x; execute = execute x; launch = launch x; recover = recover x }
