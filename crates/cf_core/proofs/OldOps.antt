-- The cells of sidings that an allowed move writes exist.
use Rattle.std.proofs.Common.{◌≡◌, ℕ, ◌+◌, ◌<◌, ◌≤◌, List, Option, Some, None, length, refl, sym, subst, arith}
use Rattle.std.specs.Prelude.{IfSome, slice_get}
use Rattle.std.proofs.lemmas.Option.{slice_get_within}
use Rattle.cf_bind.specs.declared.cell.Cell.{Cell}
use Rattle.cf_bind.specs.declared.cell.Op.{Op}
use Rattle.cf_bind.specs.declared.moves.Move.TheVariants.{Slide}
use Rattle.cf_bind.specs.declared.passenger.Passenger.{Passenger}
use Rattle.cf_layout.specs.Layout.{Plan, siding_of}
use Rattle.cf_layout.proofs.Facts.{memory_alone, siding_found}
use Rattle.mem_regions.specs.Access.{bounds_of}
use Rattle.rv_inst.specs.Operands.{class_of}
use Rattle.rv_inst.specs.declared.classes.Class.TheVariants.{Memory as MemoryClass}
use Rattle.cf_semantics.specs.moves.Instructions.{kind_of}
use Rattle.cf_semantics.specs.moves.Bars.{last_op, row_bar, slide_bar}
use Rattle.cf_semantics.specs.moves.Kept.{siding_there}
use Rattle.cf_semantics.specs.state.Layouts.{port}
use Rattle.cf_semantics.specs.state.Options.{on}
use Rattle.cf_semantics.specs.state.Passengers.{kind}
use Rattle.cf_semantics.specs.state.State.{State, cell_at, siding_at}
use Rattle.cf_core.specs.Processors.{IsOp, IsProcessor}
use Rattle.cf_core.proofs.Berths.{length-siding}
use Rattle.cf_core.proofs.Ported.{last-all, memory-port, siding-cells}
use Rattle.cf_core.proofs.Weights.{few-cells}

-- Slide: both of its cells exist, and a siding has few cells
slides_within : (ops : List (Option Op)) (c : ℕ) (o : Option (Option Op)) → slice_get ops (c + 1) ≡ o → slide_bar ops c ≡ None → c + 1 < length ops
slides_within ops c None e free = absurd (grind arith)
slides_within ops c (Some op) e free = slice_get_within ops (c + 1) op e

pub slide-cells : (plan : Plan) (s : State) (k c : ℕ) → row_bar plan s (Slide k c) ≡ None → c + 1 < length (siding_at s k)
slide-cells plan s k c free = slides_within (siding_at s k) c (slice_get (siding_at s k) (c + 1)) refl free

pub slide-few : (plan : Plan) (s : State) (k c : ℕ) → IsProcessor plan s → row_bar plan s (Slide k c) ≡ None → c + 1 ≤ 8
slide-few plan s k c h free = let within = slide-cells plan s k c free in let n = length-siding plan s k h in let few = few-cells plan k h.accepted in
    omega (arith, within, n, few)

-- Launch and Recover: the cells of the instruction's siding exist
passengers_siding : (plan : Plan) (s : State) (k : ℕ) (o : Option Passenger) → IsProcessor plan s → on o None (λ p. siding_of plan (kind p)) ≡ Some k →
    (k < length plan.sidings) × (0 < length (siding_at s k))
passengers_siding plan s k None h e = absurd (cc)
passengers_siding plan s k (Some p) h e = ((siding_found plan (kind p) k e).0, siding-cells plan s (kind p) k h e)

there_siding : (plan : Plan) (s : State) (k : ℕ) (o : Option Cell) → IsProcessor plan s → on o None (λ c. on c.passenger None (λ p. siding_of plan (kind p)))
    ≡ Some k → (k < length plan.sidings) × (0 < length (siding_at s k))
there_siding plan s k None h e = absurd (cc)
there_siding plan s k (Some c) h e = passengers_siding plan s k c.passenger h e

pub there-number : (plan : Plan) (s : State) (i k : ℕ) → IsProcessor plan s → Some k ≡ siding_there plan s i → k < length plan.sidings
there-number plan s i k h e = (there_siding plan s k (cell_at s.cells i) h (sym e)).0

pub there-cells : (plan : Plan) (s : State) (i k : ℕ) → IsProcessor plan s → Some k ≡ siding_there plan s i → 0 < length (siding_at s k)
there-cells plan s i k h e = (there_siding plan s k (cell_at s.cells i) h (sym e)).1

-- the operation at the end of Memory's siding
op_is_memory : (plan : Plan) (s : State) (op : Op) → IsProcessor plan s → siding_of plan (class_of op.instr) ≡ Some (port plan) →
    class_of op.instr ≡ MemoryClass
op_is_memory plan s op h e = memory_alone plan h.accepted (port plan) (class_of op.instr) (memory-port plan h.accepted) e

op_in_port : (plan : Plan) (s : State) (op : Op) (o : Option Op) → IsProcessor plan s → IfSome o (IsOp plan (bounds_of s.mem) (port plan)) → Some op ≡ o →
    class_of op.instr ≡ MemoryClass
unfolding kind_of
op_in_port plan s op o h facts e = op_is_memory plan s op h (subst (λ (q : Option Op). IfSome q (IsOp plan (bounds_of s.mem) (port plan))) (sym e) facts).siding

pub port-op : (plan : Plan) (s : State) (op : Op) → IsProcessor plan s → Some op ≡ last_op (siding_at s (port plan)) → class_of op.instr ≡ MemoryClass
port-op plan s op h e = op_in_port plan s op (last_op (siding_at s (port plan))) h (last-all (IsOp plan (bounds_of s.mem) (port plan)) (siding_at s (port plan))
    (h.ops (port plan))) e
