-- A processor is as one that was just opened if and only if nothing is in it, fetch runs, no value is cached, and the
-- program has neither ended nor failed.
use Rattle.std.proofs.Common.{◌≡◌, ℕ, zero, suc, List, [], ◌∷◌, All, Option, Some, None, Bool, true, false, map, length, refl, ap, ◌∙◌}
use Rattle.std.specs.Prelude.{replicate, not, ◌&&◌, ◌||◌, IsTrue}
use Rattle.std.specs.List.{list_any}
use Rattle.std.proofs.lemmas.List.Elements.{All-head, All-tail}
use Rattle.rv_machine.specs.Hart.{Hart}
use Rattle.rv_inst.specs.declared.isa.Isa.{Isa}
use Rattle.cf_layout.specs.Layout.{Plan, SidingPlan}
use Rattle.cf_bind.specs.declared.cell.Cell.{Cell}
use Rattle.cf_bind.specs.declared.cell.Op.{Op}
use Rattle.cf_bind.specs.declared.packet.Packet.{Packet}
use Rattle.cf_bind.specs.declared.passenger.End.{End as Ending}
use Rattle.cf_bind.specs.declared.passenger.Passenger.{Passenger}
use Rattle.cf_bind.specs.declared.packet.Fetch.{Fetch}
use Rattle.cf_bind.specs.declared.packet.Fetch.TheVariants.{Running, Waiting}
use Rattle.cf_semantics.specs.moves.Bars.{running}
use Rattle.cf_semantics.specs.runs.Runs.{empty_cell, empty_siding, opened as opened_on}
use Rattle.cf_semantics.specs.state.Drained.{is_drained, is_empty, is_occupied}
use Rattle.cf_semantics.specs.state.Layouts.{isa_of}
use Rattle.cf_semantics.specs.state.Options.{is_some}
use Rattle.cf_core.specs.Processors.{IsCellOfSet, IsOpened, IsProcessor, Processor, opened_processor}

-- a cell without an operation
no_op : Option Op
no_op = None

neither : (a b : Bool) → (a || b) ≡ false → (a ≡ false) × (b ≡ false)
neither true b e = absurd (cc)
neither false b e = (refl, e)

-- a stage with neither an instruction nor a result is empty: nothing has met there
bare : (p : Option Passenger) (k : Option Packet) (met : Bool) → (IsTrue met → IsTrue (is_some p && is_some k)) → (is_some p || is_some k) ≡ false →
    record { passenger = p; packet = k; met = met } ≡ empty_cell
bare (Some p) k met h e = absurd (cc)
bare None (Some k) met h e = absurd (cc)
bare None None false h e = refl
bare None None true h e =
    let none : false ≡ true = h refl in
    absurd (cc)

-- so all stages are empty if none has either
cells_bare : (isa : Isa) (cells : List Cell) → All (IsCellOfSet isa) cells → list_any is_occupied cells ≡ false → cells ≡ replicate (length cells) empty_cell
cells_bare isa [] facts none = refl
cells_bare isa (c ∷ cells) facts none =
    let both = neither (is_occupied c) (list_any is_occupied cells) none in
    let here : c ≡ empty_cell = bare c.passenger c.packet c.met (All-head (IsCellOfSet isa) c cells facts).met both.0 in
    rw (here, ← cells_bare isa cells (All-tail (IsCellOfSet isa) c cells facts) both.1) refl

-- a list of entries that are all empty
all_none : {A : Type 0} (xs : List (Option A)) → list_any is_some xs ≡ false → xs ≡ replicate (length xs) None
all_none [] none = refl
all_none (Some x ∷ xs) none = absurd (cc)
all_none (None ∷ xs) none = rw (← all_none xs none) refl

-- and all sidings of a layout
sidings_bare : (plans : List SidingPlan) (sidings : List (List (Option Op))) → map length sidings ≡ map (λ siding. siding.cells) plans →
    list_any (list_any is_some) sidings ≡ false → sidings ≡ map empty_siding plans
sidings_bare [] [] same none = refl
sidings_bare [] (ops ∷ sidings) same none = absurd (cc)
sidings_bare (plan ∷ plans) [] same none = absurd (cc)
sidings_bare (plan ∷ plans) (ops ∷ sidings) same none =
    let both = neither (list_any is_some ops) (list_any (list_any is_some) sidings) none in
    let count : length ops ≡ plan.cells = cc in
    let later : map length sidings ≡ map (λ siding. siding.cells) plans = cc in
    rw (all_none ops both.0 ∙ ap (λ (n : ℕ). replicate n None) count, sidings_bare plans sidings later both.1) refl

no_request : (lane : List ℕ) → is_empty lane ≡ true → lane ≡ []
no_request [] e = refl
no_request (r ∷ lane) e = absurd (cc)

all_three : (a b c : Bool) → (not a && b && not c) ≡ true → (a ≡ false) × (b ≡ true) × (c ≡ false)
all_three true b c e = absurd (cc)
all_three false false c e = absurd (cc)
all_three false true true e = absurd (cc)
all_three false true false e = (refl, refl, refl)

opened_at : (p : Processor) (pc : ℕ) → p.state.cells ≡ replicate p.plan.stages empty_cell → p.state.sidings ≡ map empty_siding p.plan.sidings →
    p.state.lane ≡ [] → p.state.fetch ≡ Running pc → p.state.cache ≡ replicate 32 None → p.state.ending ≡ None → p.state.failed ≡ false → IsOpened p
unfolding opened_processor opened_on
opened_at p pc cells sidings lane fetch cache ending failed = record {
  hart = record { pc = pc; regs = p.state.regs; mem = p.state.mem; retired = p.state.retired };
  is = λ x. record {
    plan = p.plan;
    state = record {
      cells = cells x;
      sidings = sidings x;
      lane = lane x;
      fetch = fetch x;
      cache = cache x;
      regs = p.state.regs;
      mem = p.state.mem;
      retired = p.state.retired;
      ending = ending x;
      failed = failed x;
    };
  };
}

runs_at : (fetch : Fetch) → is_some (running fetch) ≡ true → (pc : ℕ) × (fetch ≡ Running pc)
runs_at (Running pc) e = (pc, refl)
runs_at Waiting e = absurd (cc)

both_none : (ending : Option Ending) (failed : Bool) → (not (is_some ending) && not failed) ≡ true → (ending ≡ None) × (failed ≡ false)
both_none (Some e) failed h = absurd (cc)
both_none None true h = absurd (cc)
both_none None false h = (refl, refl)

pub opened-if : (p : Processor) → IsProcessor p.plan p.state → is_drained p.state ≡ true → is_some (running p.state.fetch) ≡ true →
    list_any is_some p.state.cache ≡ false → length p.state.cache ≡ 32 → (not (is_some p.state.ending) && not p.state.failed) ≡ true → IsOpened p
unfolding is_drained
opened-if p facts drained runs cached wide goes =
    let s = p.state in
    let cache : s.cache ≡ replicate 32 None = all_none s.cache cached ∙ ap (λ (n : ℕ). replicate n None) wide in
    let on = both_none s.ending s.failed goes in
    let parts = all_three (list_any is_occupied s.cells) (is_empty s.lane) (list_any (list_any is_some) s.sidings) drained in
    let cells = cells_bare (isa_of p.plan) s.cells facts.cells parts.0 ∙ ap (λ (n : ℕ). replicate n empty_cell) facts.stages in
    let at = runs_at s.fetch runs in
    opened_at p at.0 cells (sidings_bare p.plan.sidings s.sidings facts.sidings parts.2) (no_request s.lane parts.1) at.1 cache on.0 on.1

-- and a processor that was opened has these properties
none_there : (n : ℕ) → list_any is_occupied (replicate n empty_cell) ≡ false
none_there zero = refl
none_there (suc n) = none_there n

no_ops : (n : ℕ) → list_any is_some (replicate n no_op) ≡ false
unfolding no_op
no_ops zero = refl
no_ops (suc n) = no_ops n

neither_so : (a b : Bool) → a ≡ false → b ≡ false → (a || b) ≡ false
neither_so a b h g = rw (h, g) refl

none_held : (plans : List SidingPlan) → list_any (list_any is_some) (map empty_siding plans) ≡ false
unfolding no_op
none_held [] = refl
none_held (plan ∷ plans) = neither_so (list_any is_some (empty_siding plan)) (list_any (list_any is_some) (map empty_siding plans)) (no_ops plan.cells)
    (none_held plans)

drained_on : (plan : Plan) (hart : Hart) → is_drained (opened_processor plan hart).state ≡ true
unfolding is_drained opened_processor opened_on
drained_on plan hart = rw (none_there plan.stages, none_held plan.sidings) refl

pub opened-drained : (p : Processor) → IsOpened p → is_drained p.state ≡ true
opened-drained p o = ap (λ (q : Processor). is_drained q.state) o.is ∙ drained_on p.plan o.hart

pub opened-runs : (p : Processor) → IsOpened p → is_some (running p.state.fetch) ≡ true
unfolding opened_processor opened_on
opened-runs p o = ap (λ (q : Processor). is_some (running q.state.fetch)) o.is

pub opened-cache : (p : Processor) → IsOpened p → list_any is_some p.state.cache ≡ false
unfolding opened_processor opened_on
opened-cache p o = ap (λ (q : Processor). list_any is_some q.state.cache) o.is

pub opened-goes-on : (p : Processor) → IsOpened p → (not (is_some p.state.ending) && not p.state.failed) ≡ true
unfolding opened_processor opened_on
opened-goes-on p o = ap (λ (q : Processor). not (is_some q.state.ending) && not q.state.failed) o.is

pub ruleset openings = (opened-if, opened-drained, opened-runs, opened-cache, opened-goes-on)
