-- The siding of Memory, and the operation at its end.
use Rattle.std.proofs.Common.{◌≡◌, ℕ, ◌<◌, List, [], ◌∷◌, All, Option, Some, None, length, refl, sym, ap, ◌∙◌, arith}
use Rattle.std.specs.Prelude.{IfSome}
use Rattle.std.proofs.lemmas.List.Elements.{All-tail}
use Rattle.mem_regions.specs.Memory.{Memory}
use Rattle.mem_regions.specs.Access.{bounds_of}
use Rattle.rv_inst.specs.declared.classes.Class.{Class}
use Rattle.rv_inst.specs.declared.classes.Class.TheVariants.{Memory as MemoryClass}
use Rattle.rv_inst.specs.Operands.{class_of}
use Rattle.cf_bind.specs.declared.cell.Op.{Op}
use Rattle.cf_bind.specs.declared.moves.Move.TheVariants.{Access}
use Rattle.cf_layout.specs.Layout.{Plan, siding_of}
use Rattle.cf_layout.specs.Accepted.{IsAccepted}
use Rattle.cf_layout.proofs.Facts.{has_cells, memory_siding, memory_alone}
use Rattle.cf_semantics.specs.moves.Instructions.{kind_of}
use Rattle.cf_semantics.specs.state.Layouts.{port}
use Rattle.cf_semantics.specs.moves.Bars.{last_op, access_bar, row_bar}
use Rattle.cf_semantics.specs.state.Options.{on}
use Rattle.cf_semantics.specs.state.State.{State, siding_at}
use Rattle.cf_sidings.specs.Sidings.{CanAccess, IsReadyOperation, last_in}
use Rattle.cf_core.specs.Processors.{IsProcessor, IsOp}
use Rattle.cf_core.specs.Stations.{station_of}
use Rattle.cf_core.specs.declared.stations.SidingStages.{SidingStages}
use Rattle.cf_core.specs.declared.stations.Station.{Station}
use Rattle.cf_core.proofs.Berths.{length-siding}
use Rattle.cf_core.proofs.Tabled.{found-none, found-site}

-- Memory has a siding, at whose end the port is
pub memory-port : (plan : Plan) → IsAccepted plan → siding_of plan MemoryClass ≡ Some (port plan)
unfolding port
memory-port plan a = let m = memory_siding plan a in m.1 ∙ ap (λ (o : Option ℕ). Some (on o 0 (λ k. k))) (sym m.1)

-- the siding of a class has cells
pub siding-cells : (plan : Plan) (s : State) (c : Class) (k : ℕ) → IsProcessor plan s → siding_of plan c ≡ Some k → 0 < length (siding_at s k)
siding-cells plan s c k h e = let n = has_cells plan h.accepted c k e in let l = length-siding plan s k h in omega arith

pub port-cells : (plan : Plan) (s : State) → IsProcessor plan s → 0 < length (siding_at s (port plan))
port-cells plan s h = siding-cells plan s MemoryClass (port plan) h (memory-port plan h.accepted)

-- what holds of each cell of a siding holds of the last one
pub last-all : (P : Op → Type 0) (ops : List (Option Op)) → All (λ o. IfSome o P) ops → IfSome (last_op ops) P
last-all P [] h = tt
last-all P (o ∷ []) h = h 0 None (omega arith)
last-all P (o ∷ p ∷ ops) h = last-all P (p ∷ ops) (All-tail (λ o. IfSome o P) o (p ∷ ops) h)

-- an operation in Memory's siding is a load or a store
memory-op : (plan : Plan) → IsAccepted plan → (c : Class) → siding_of plan c ≡ Some (port plan) → c ≡ MemoryClass
memory-op plan a c e = memory_alone plan a (port plan) c (memory-port plan a) e

ready : (plan : Plan) (mem : Memory) (op : Op) → IsAccepted plan → IsOp plan (bounds_of mem) (port plan) op → op.answer ≡ None → IsReadyOperation op mem
unfolding kind_of
ready plan mem op a h e =
    let m : class_of op.instr ≡ MemoryClass = memory-op plan a (class_of op.instr) h.siding in
    record { memory = m; unanswered = e; permitted = h.permitted (rw m refl) }

-- and its access can be made if nothing bars that
ready_last : (plan : Plan) (mem : Memory) (o : Option Op) → IsAccepted plan → IfSome o (IsOp plan (bounds_of mem) (port plan)) → access_bar o ≡ None →
    CanAccess o mem
ready_last plan mem None a h e = absurd (cc)
ready_last plan mem (Some op) a h e = ready plan mem op a h (grind arith)

pub port-ready : (plan : Plan) (s : State) (k : ℕ) (sidings : List (List (Option Op))) (mem : Memory) → IsProcessor plan s → row_bar plan s Access ≡ None →
    k ≡ port plan → sidings ≡ s.sidings → mem ≡ s.mem → CanAccess (last_in sidings k) mem
port-ready plan s k sidings mem h e at same kept = rw (at, same, kept) (ready_last plan s.mem (last_op (siding_at s (port plan))) h.accepted
    (last-all (IsOp plan (bounds_of s.mem) (port plan)) (siding_at s (port plan)) (h.ops (port plan))) e)

pub ruleset ported = (port-cells, siding-cells, port-ready)

-- its number, by the table of stations
pub site-port : (plan : Plan) (station : Station) (site : SidingStages) → station ≡ station_of plan MemoryClass → station.siding ≡ Some site →
    site.number ≡ port plan
unfolding port
site-port plan station site e here = rw (found-site plan MemoryClass station site e here).siding refl

pub none-port : (plan : Plan) (station : Station) → station ≡ station_of plan MemoryClass → station.siding ≡ None → 0 ≡ port plan
unfolding port
none-port plan station e here = rw (found-none plan MemoryClass station e here) refl

pub ruleset port_number = (site-port, none-port)
