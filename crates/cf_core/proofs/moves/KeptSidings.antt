-- What holds of every processor is kept by the moves into the sidings, along them and out of them.
use Rattle.std.proofs.Common.{◌≡◌, ℕ, ◌+◌, List, [], ◌∷◌, All, Bool, true, false, Option, Some, None, length-set, refl, ◌∙◌}
use Rattle.std.specs.Prelude.{IfSome, if◌then◌else◌, slice_get, slice_set}
use Rattle.std.proofs.lemmas.List.Elements.{All-cons, All-head, All-nil, All-set, All-tail}
use Rattle.mem_regions.specs.Memory.{Memory}
use Rattle.mem_regions.specs.Access.{bounds_of}
use Rattle.mem_regions.specs.Writing.{stored}
use Rattle.mem_regions.proofs.Kept.{bounds-stored}
use Rattle.rv_inst.specs.declared.accesses.Access.{Access as AccessMade}
use Rattle.rv_inst.specs.declared.instruction.Instr.{Instr}
use Rattle.rv_inst.specs.Accesses.{access_made}
use Rattle.cf_bind.specs.declared.cell.Cell.{Cell}
use Rattle.cf_bind.specs.declared.cell.Op.{Op}
use Rattle.cf_bind.specs.declared.moves.Move.TheVariants.{Launch, Slide, Access, Recover}
use Rattle.cf_bind.specs.declared.passenger.Passenger.{Passenger}
use Rattle.cf_layout.specs.Layout.{Plan, siding_of}
use Rattle.cf_semantics.specs.moves.Bars.{last_op}
use Rattle.cf_semantics.specs.moves.Instructions.{answer_of, kind_of, mem_after}
use Rattle.cf_semantics.specs.state.Layouts.{isa_of, port}
use Rattle.cf_semantics.specs.moves.Moves.{moved, accessed, back_in, launch_trap, launched, operation, recovered, set_last, with_passenger}
use Rattle.cf_semantics.specs.state.Passengers.{instruction, kind, trapped}
use Rattle.cf_semantics.specs.state.State.{State, siding_at, with_cell, with_siding}
use Rattle.cf_passengers.specs.Facts.{IsPassenger}
use Rattle.cf_passengers.proofs.Classes.{kind-class}
use Rattle.cf_passengers.proofs.Kept.{back_in-passenger, launched-passenger, operation-of_set, trapped-passenger}
use Rattle.cf_passengers.proofs.Permitted.{operation-permitted}
use Rattle.cf_sidings.proofs.Last.{length-set_last}
use Rattle.cf_core.specs.Processors.{IsOp, IsProcessor, IsCellOfSet}
use Rattle.cf_core.proofs.KeptParts.{all-at, cell-kept, kept-or, kept-where, kept_bounds, siding-kept}
use Rattle.cf_core.proofs.moves.KeptStages.{change-kept, passenger-changed}
use Rattle.cf_core.proofs.Ported.{last-all}

-- What a siding holds --

-- the last cell has other contents
last-set : (P : Option Op → Type 0) (ops : List (Option Op)) (q : Option Op) → P q → All P ops → All P (set_last ops q)
last-set P [] q p h = All-nil P
last-set P (o ∷ []) q p h = All-cons P q [] p (All-nil P)
last-set P (o ∷ r ∷ ops) q p h = All-cons P o (set_last (r ∷ ops) q) (All-head P o (r ∷ ops) h) (last-set P (r ∷ ops) q p (All-tail P o (r ∷ ops) h))

-- the class of a Passenger is that of its decoded instruction
kind-instruction : (p : Passenger) → kind p ≡ kind_of (instruction p)
unfolding kind_of
kind-instruction p = kind-class p

-- the operation of an instruction that does not trap
operation-in : (plan : Plan) (s : State) (k : ℕ) (p : Passenger) → IsPassenger (isa_of plan) p → siding_of plan (kind p) ≡ Some k → launch_trap s p ≡ None →
    IsOp plan (bounds_of s.mem) k (operation p)
operation-in plan s k p h e free = record {
  instr = operation-of_set (isa_of plan) p h;
  siding = rw (kind-instruction p) at e;
  permitted = λ m. operation-permitted p (bounds_of s.mem) (rw (← kind-instruction p) at m) free;
}

-- an answer leaves the rest of an operation as it was
answered-op : (plan : Plan) (s : State) (k : ℕ) (op : Op) (v : ℕ) → IsOp plan (bounds_of s.mem) k op →
    IsOp plan (bounds_of s.mem) k (record op { answer = Some v })
answered-op plan s k op v h = record { instr = h.instr; siding = h.siding; permitted = h.permitted }

-- a load or a store keeps the bounds and flags of the regions
chosen-bounds : (b : Bool) (stored mem : Memory) → bounds_of stored ≡ bounds_of mem → bounds_of (if b then stored else mem) ≡ bounds_of mem
chosen-bounds true stored mem e = e
chosen-bounds false stored mem e = refl

access-bounds : (access : AccessMade) (mem : Memory) → bounds_of (if access.write then stored mem access.addr access.width access.value else mem)
    ≡ bounds_of mem
access-bounds access mem = chosen-bounds access.write (stored mem access.addr access.width access.value) mem
    (bounds-stored mem access.addr access.width access.value)

pub bounds-after : (i : Instr) (a b : ℕ) (mem : Memory) → bounds_of (mem_after i a b mem) ≡ bounds_of mem
unfolding mem_after
bounds-after i a b mem = access-bounds (access_made i a b) mem

-- The moves --

entered-kept : (plan : Plan) (s : State) (i : ℕ) (c : Cell) (p : Passenger) (k : ℕ) → IsProcessor plan s → IsCellOfSet (isa_of plan) c →
    IsPassenger (isa_of plan) p → launch_trap s p ≡ None → siding_of plan (kind p) ≡ Some k →
    IsProcessor plan (with_siding (with_cell s i (with_passenger c (record p { launched = true }))) k (slice_set (siding_at s k) 0 (Some (operation p))))
entered-kept plan s i c p k h stage rider free home =
    let q = record p { launched = true } in
    siding-kept plan (with_cell s i (with_passenger c q)) k (slice_set (siding_at s k) 0 (Some (operation p)))
    (cell-kept plan s i (with_passenger c q) h (passenger-changed (isa_of plan) c q stage (launched-passenger (isa_of plan) p rider)))
    (length-set (siding_at s k) 0 (Some (operation p)))
    (All-set (λ o. IfSome o (IsOp plan (bounds_of s.mem) k)) (siding_at s k) 0 (Some (operation p)) (operation-in plan s k p rider home free) (h.ops k))

pub launch-kept : (plan : Plan) (s : State) (i : ℕ) → IsProcessor plan s → IsProcessor plan (moved plan s (Launch i))
unfolding moved
launch-kept plan s i h =
    change-kept plan s i (launched plan s i) h (λ c p stage there rider.
    kept-or plan (launch_trap s p) _ _
    (λ free. kept-where plan s (siding_of plan (kind p)) _ h (λ k home. entered-kept plan s i c p k h stage rider free home))
    (λ e trap. cell-kept plan s i (with_passenger c (trapped p e)) h (passenger-changed (isa_of plan) c (trapped p e) stage
    (trapped-passenger (isa_of plan) p e rider))))

pub slide-kept : (plan : Plan) (s : State) (k c : ℕ) → IsProcessor plan s → IsProcessor plan (moved plan s (Slide k c))
unfolding moved
slide-kept plan s k c h =
    kept-where plan s (slice_get (siding_at s k) c) _ h (λ o e.
    let ops = siding_at s k in
    siding-kept plan s k (slice_set (slice_set ops c None) (c + 1) o) h
    (length-set (slice_set ops c None) (c + 1) o ∙ length-set ops c None)
    (All-set (λ o. IfSome o (IsOp plan (bounds_of s.mem) k)) (slice_set ops c None) (c + 1) o
    (all-at (λ o. IfSome o (IsOp plan (bounds_of s.mem) k)) ops c o (h.ops k) e)
    (All-set (λ o. IfSome o (IsOp plan (bounds_of s.mem) k)) ops c None tt (h.ops k))))

accessed-kept : (plan : Plan) (s : State) (op : Op) → IsProcessor plan s → IsOp plan (bounds_of s.mem) (port plan) op → IsProcessor plan (accessed plan s op)
accessed-kept plan s op h p =
    let ops = siding_at s (port plan) in
    let answered = Some (record op { answer = Some (answer_of op.instr op.a op.b s.mem) }) in
    kept_bounds plan (with_siding s (port plan) (set_last ops answered)) (mem_after op.instr op.a op.b s.mem)
    (siding-kept plan s (port plan) (set_last ops answered) h (length-set_last ops answered)
    (last-set (λ o. IfSome o (IsOp plan (bounds_of s.mem) (port plan))) ops answered (answered-op plan s (port plan) op (answer_of op.instr op.a op.b s.mem) p)
    (h.ops (port plan))))
    (bounds-after op.instr op.a op.b s.mem)

pub access-kept : (plan : Plan) (s : State) → IsProcessor plan s → IsProcessor plan (moved plan s Access)
unfolding moved
access-kept plan s h =
    kept-where plan s (last_op (siding_at s (port plan))) (accessed plan s) h (λ op e.
    let last = last-all (IsOp plan (bounds_of s.mem) (port plan)) (siding_at s (port plan)) (h.ops (port plan)) in
    accessed-kept plan s op h (rw e at last))

returned-kept : (plan : Plan) (s : State) (i : ℕ) (c : Cell) (p : Passenger) (k : ℕ) (answer : Option ℕ) → IsProcessor plan s → IsCellOfSet (isa_of plan) c →
    IsPassenger (isa_of plan) p → IsProcessor plan (with_siding (with_cell s i (with_passenger c (back_in p answer))) k (set_last (siding_at s k) None))
returned-kept plan s i c p k answer h stage rider =
    let q = back_in p answer in
    siding-kept plan (with_cell s i (with_passenger c q)) k (set_last (siding_at s k) None)
    (cell-kept plan s i (with_passenger c q) h (passenger-changed (isa_of plan) c q stage (back_in-passenger (isa_of plan) p answer rider)))
    (length-set_last (siding_at s k) None)
    (last-set (λ o. IfSome o (IsOp plan (bounds_of s.mem) k)) (siding_at s k) None tt (h.ops k))

pub recover-kept : (plan : Plan) (s : State) (i : ℕ) → IsProcessor plan s → IsProcessor plan (moved plan s (Recover i))
unfolding moved
recover-kept plan s i h =
    change-kept plan s i (recovered plan s i) h (λ c p stage there rider.
    kept-where plan s (siding_of plan (kind p)) _ h (λ k home. kept-where plan s (last_op (siding_at s k)) _ h (λ op e.
    returned-kept plan s i c p k op.answer h stage rider)))
