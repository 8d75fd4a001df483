-- What holds of every processor is kept by the moves at the two ends of the pipes.
use Rattle.std.proofs.Common.{◌≡◌, ℕ, List, [], ◌∷◌, All, Option, Some, None, Bool, true, false, refl}
use Rattle.std.specs.Prelude.{IfSome, if◌then◌else◌, ◌%◌, ◌==◌, Result, Ok, Err, slice_index}
use Rattle.std.proofs.lemmas.List.Elements.{All-append, All-cons, All-head, All-nil, All-tail}
use Rattle.mem_regions.specs.Memory.{Memory}
use Rattle.mem_regions.specs.Fetching.{fetch_at as fetched_at}
use Rattle.mem_regions.specs.declared.access.MemErr.{MemErr}
use Rattle.rv_inst.specs.declared.instruction.Instr.{Instr}
use Rattle.rv_inst.specs.declared.isa.Isa.{Isa}
use Rattle.rv_inst.specs.Decoding.{decoded_as}
use Rattle.cf_bind.specs.declared.binding.Binding.{Binding}
use Rattle.cf_bind.specs.declared.cell.Cell.{Cell}
use Rattle.cf_bind.specs.declared.moves.Move.TheVariants.{Issue, Emit, Leave, Exit}
use Rattle.cf_bind.specs.declared.packet.Packet.TheVariants.{Value}
use Rattle.cf_bind.specs.declared.passenger.End.TheVariants.{Trap}
use Rattle.cf_bind.specs.declared.passenger.Guess.{Guess}
use Rattle.cf_bind.specs.declared.passenger.Passenger.{Passenger}
use Rattle.cf_layout.specs.Layout.{Plan}
use Rattle.cf_semantics.specs.moves.Bars.{running}
use Rattle.cf_semantics.specs.moves.Instructions.{Bad, fetched, read_as, word_read}
use Rattle.cf_semantics.specs.state.Layouts.{isa_of}
use Rattle.cf_semantics.specs.moves.Moves.{moved, emitted, exited, issued, left, left_live, without_packet, without_passenger}
use Rattle.cf_semantics.specs.state.Passengers.{both, fresh, missing, requests, unknown}
use Rattle.cf_semantics.specs.state.State.{State, cell_at, with_cell}
use Rattle.cf_passengers.specs.Facts.{IsBinding, IsFetched, IsPassenger, IsWritable}
use Rattle.cf_passengers.proofs.Decoded.{decoded-instruction}
use Rattle.cf_passengers.proofs.Kept.{fresh-passenger}
use Rattle.cf_core.specs.Processors.{IsProcessor, IsCellOfSet}
use Rattle.cf_core.proofs.KeptParts.{cell-kept, ends-kept, kept-or, kept-where, stage-at}
use Rattle.cf_core.proofs.moves.KeptStages.{change-kept, packet-gone, packet-new, passenger-gone, passenger-new}

-- What is fetched and requested --

-- what holds of both states holds of a choice between them
choice : {A : Type 0} (P : A → Type 0) (b : Bool) (x y : A) → P x → P y → P (if b then x else y)
choice P true x y f g = f
choice P false x y f g = g

-- what is read from a word
read_as-set : (isa : Isa) (pc word : ℕ) (o : Option Instr) → decoded_as isa word ≡ o → IsFetched isa (read_as pc word o)
read_as-set isa pc word None e = tt
read_as-set isa pc word (Some i) e = decoded-instruction isa word i e

word-set : (isa : Isa) (pc : ℕ) (r : Result ℕ MemErr) → IsFetched isa (word_read isa pc r)
word-set isa pc (Ok word) = read_as-set isa pc word (decoded_as isa word) refl
word-set isa pc (Err e) = tt

fetched-set : (isa : Isa) (mem : Memory) (pc : ℕ) → IsFetched isa (fetched isa mem pc)
unfolding fetched
fetched-set isa mem pc = choice (IsFetched isa) (pc % 4 == 0) (word_read isa pc (fetched_at mem pc)) (Bad (Trap 0 pc pc))
    (word-set isa pc (fetched_at mem pc)) tt

-- a source that waits is a register other than x0
unknown-writable : (r : ℕ) (v : Option ℕ) → IsWritable r → IfSome (unknown r v) IsWritable
unknown-writable r None h = h
unknown-writable r (Some v) h = tt

missing-writable : (o : Option Binding) → IfSome o IsBinding → IfSome (missing o) IsWritable
missing-writable None h = tt
missing-writable (Some b) h = unknown-writable b.reg b.value h

one-writable : (r : ℕ) → IsWritable r → All IsWritable (r ∷ [])
one-writable r h = All-cons IsWritable r [] h (All-nil IsWritable)

both-writable : (a b : Option ℕ) → IfSome a IsWritable → IfSome b IsWritable → All IsWritable (both a b)
both-writable None None h g = All-nil IsWritable
both-writable (Some r) None h g = one-writable r h
both-writable None (Some s) h g = one-writable s g
both-writable (Some r) (Some s) h g = choice (All IsWritable) (r == s) (r ∷ []) (r ∷ s ∷ []) (one-writable r h)
    (All-cons IsWritable r (s ∷ []) h (one-writable s g))

requests-writable : (isa : Isa) (p : Passenger) → IsPassenger isa p → All IsWritable (requests p)
requests-writable isa p h = both-writable (missing p.src1) (missing p.src2) (missing-writable p.src1 h.src1) (missing-writable p.src2 h.src2)

-- The moves --

issued-kept : (plan : Plan) (s : State) (g : Guess) (c : Cell) (pc : ℕ) → IsProcessor plan s → IsCellOfSet (isa_of plan) c →
    IsProcessor plan (issued plan s g c pc)
issued-kept plan s g c pc h stage =
    let isa = isa_of plan in
    let p = fresh s.cache (fetched isa s.mem pc) pc g in
    let rider : IsPassenger isa p = fresh-passenger isa s.cache (fetched isa s.mem pc) pc g (fetched-set isa s.mem pc) in
    let t = with_cell s 1 (record c { passenger = Some p; met = false }) in
    let k : IsProcessor plan t = cell-kept plan s 1 (record c { passenger = Some p; met = false }) h (passenger-new isa c (Some p) stage rider) in
    ends-kept plan t (issued plan s g c pc) k refl refl refl (All-append IsWritable s.lane (requests p) h.lane (requests-writable isa p rider))

pub issue-kept : (plan : Plan) (s : State) (g : Guess) → IsProcessor plan s → IsProcessor plan (moved plan s (Issue g))
unfolding moved
issue-kept plan s g h =
    kept-where plan s (cell_at s.cells 1) _ h (λ c e. kept-where plan s (running s.fetch) (issued plan s g c) h (λ pc f.
    issued-kept plan s g c pc h (stage-at plan s 1 c h e)))

emitted-kept : (plan : Plan) (s : State) (n : ℕ) (lane : List ℕ) (c : Cell) → IsProcessor plan s → All IsWritable lane → IsCellOfSet (isa_of plan) c →
    IsProcessor plan (emitted s n lane c)
emitted-kept plan s n [] c h all stage = h
emitted-kept plan s n (r ∷ lane) c h all stage =
    let value = record c { packet = Some (Value r (slice_index s.regs r)); met = false } in
    let k : IsProcessor plan (with_cell s n value) = cell-kept plan s n value h (packet-new (isa_of plan) c (Some (Value r (slice_index s.regs r))) stage
    (All-head IsWritable r lane all)) in
    ends-kept plan (with_cell s n value) (emitted s n (r ∷ lane) c) k refl refl refl (All-tail IsWritable r lane all)

pub emit-kept : (plan : Plan) (s : State) → IsProcessor plan s → IsProcessor plan (moved plan s Emit)
unfolding moved
emit-kept plan s h =
    kept-where plan s (cell_at s.cells plan.stages) (emitted s plan.stages s.lane) h (λ c e.
    emitted-kept plan s plan.stages s.lane c h h.lane (stage-at plan s plan.stages c h e))

left-kept : (plan : Plan) (t : State) (p : Passenger) → IsProcessor plan t → IsProcessor plan (if p.dead then t else left_live t p)
left-kept plan t p h =
    choice (IsProcessor plan) p.dead t (left_live t p) h
    (kept-or plan p.ending _ _ (λ e. ends-kept plan t _ h refl refl refl h.lane) (λ e f. ends-kept plan t _ h refl refl refl h.lane))

pub leave-kept : (plan : Plan) (s : State) → IsProcessor plan s → IsProcessor plan (moved plan s Leave)
unfolding moved
leave-kept plan s h =
    change-kept plan s plan.stages (left s plan.stages) h (λ c p stage there rider.
    left-kept plan (with_cell s plan.stages (without_passenger c)) p
    (cell-kept plan s plan.stages (without_passenger c) h (passenger-gone (isa_of plan) c stage)))

pub exit-kept : (plan : Plan) (s : State) → IsProcessor plan s → IsProcessor plan (moved plan s Exit)
unfolding moved
exit-kept plan s h =
    kept-where plan s (cell_at s.cells 1) (exited plan s) h (λ c e. kept-where plan s c.packet _ h (λ k there.
    ends-kept plan (with_cell s 1 (without_packet c)) _
    (cell-kept plan s 1 (without_packet c) h (packet-gone (isa_of plan) c (stage-at plan s 1 c h e)))
    refl refl refl h.lane))
