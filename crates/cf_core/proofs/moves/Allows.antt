-- What the rows of the moves at the ends and within the sidings test, each as one Boolean.
use Rattle.std.proofs.Common.{◌≡◌, ℕ, zero, suc, ◌∙◌, ◌+◌, ◌/◌, ◌%◌, ◌<◌, ◌≤◌, List, [], ◌∷◌, Option, Some, None, Bool, true, false, refl, sym, length, arith}
use Rattle.std.specs.Prelude.{◌&&◌, ◌||◌, not, nat_lt, slice_get}
use Rattle.std.proofs.lemmas.Bool.Decides.{nat_tests}
use Rattle.cf_bind.specs.declared.cell.Cell.{Cell}
use Rattle.cf_bind.specs.declared.cell.Op.{Op}
use Rattle.cf_bind.specs.declared.moves.Bar.{Bar}
use Rattle.cf_bind.specs.declared.moves.Bar.TheVariants.{Dead, AlreadyDone, NoSuchSite, NoUnit, NotMet, NotDone, Owes, Occupied, NoPacket, OpNotThere}
use Rattle.cf_bind.specs.declared.moves.Move.{Move}
use Rattle.cf_bind.specs.declared.moves.Move.TheVariants.{Emit, Leave, Exit, Serve, Access, Slide}
use Rattle.cf_bind.specs.declared.passenger.Passenger.{Passenger}
use Rattle.cf_layout.specs.Layout.{Plan}
use Rattle.cf_semantics.specs.moves.Bars.{access_bar, emit_bar, exit_bar, first, is_full, cell_is_taken, last_op, leave_bar, serve_bar, slide_bar}
use Rattle.cf_semantics.specs.moves.Instructions.{is_serial}
use Rattle.cf_semantics.specs.state.Layouts.{port}
use Rattle.cf_semantics.specs.state.Options.{on, is_some}
use Rattle.cf_semantics.specs.state.Passengers.{kind}
use Rattle.cf_semantics.specs.state.State.{State, cell_at, siding_at}
use Rattle.cf_stages.specs.Changes.{is_full_at, packet_at, passenger_at}
use Rattle.cf_layout.specs.Words.{has_bit}
use Rattle.cf_layout.proofs.Words.{no_bits}
use Rattle.cf_sidings.specs.Sidings.{slides_on}
use Rattle.cf_core.specs.Marks.{row_allows}
use Rattle.cf_core.specs.Masks.{is_allowed}
use Rattle.cf_core.specs.Processors.{IsProcessor}
use Rattle.cf_core.specs.Riders.{is_out, is_undone}
use Rattle.cf_core.proofs.Masked.{allowed-as}
use Rattle.cf_core.proofs.Rides.{here-by}

-- nothing is allowed once the program has ended or failed
pub allowed-is : (plan : Plan) (s : State) (mv : Move) → is_allowed plan s mv ≡ ((not (is_some s.ending) && not s.failed) && row_allows plan s mv)
allowed-is plan s mv = allowed-as plan s mv (is_some s.ending) s.failed refl refl

pub ruleset allowing = (allowed-is)

-- there is a highest stage
there : (cells : List Cell) (n : ℕ) → n < length cells → (c : Cell) × (slice_get cells n ≡ Some c)
there [] n within = absurd (omega arith)
there (c ∷ cells) zero within = (c, refl)
there (c ∷ cells) (suc n) within = there cells n (omega arith)

at_number : (cells : List Cell) (n : ℕ) → 0 < n → n ≤ length cells → (c : Cell) × (cell_at cells n ≡ Some c)
at_number cells zero some within = absurd (omega arith)
at_number cells (suc k) some within = there cells k (omega arith)

highest : (plan : Plan) (s : State) → IsProcessor plan s → (c : Cell) × (cell_at s.cells plan.stages ≡ Some c)
highest plan s h = at_number s.cells plan.stages (omega (arith, h.accepted.stages.0)) (omega (arith, h.stages))

-- a row of one test
one_row : (b : Bool) (x : Bar) → not (is_some (first b x None)) ≡ not b
one_row true x = refl
one_row false x = refl

emit_row : (lane : List ℕ) (c : Cell) → not (is_some (emit_bar lane c)) ≡ (nat_lt 0 (length lane) && not (is_some c.packet))
emit_row [] c = let e : nat_lt 0 (length {A = ℕ} []) ≡ false = grind (arith, nat_tests) in rw e refl
emit_row (r ∷ lane) c = let e : nat_lt 0 (length (r ∷ lane)) ≡ true = grind (arith, nat_tests) in rw e (one_row (is_some c.packet) Occupied)

pub emit-free : (plan : Plan) (s : State) → IsProcessor plan s → row_allows plan s Emit ≡ (nat_lt 0 (length s.lane)
    && not (is_some (packet_at s.cells plan.stages)))
emit-free plan s h = let t = highest plan s h in rw t.1 (emit_row s.lane t.0)

leave_row : (full owes : Bool) (p : Passenger) → not (is_some (first full NotMet (first owes Owes (first (is_undone p || is_out p) NotDone None))))
    ≡ (not full && (not owes && (not (is_undone p) && not (is_out p))))
leave_row full owes p = by full owes (is_undone p) (is_out p)
  where
    by : (a b c d : Bool) → not (is_some (first a NotMet (first b Owes (first (c || d) NotDone None)))) ≡ (not a && (not b && (not c && not d)))
    by true b c d = refl
    by false true c d = refl
    by false false true d = refl
    by false false false true = refl
    by false false false false = refl

pub leave-free : (plan : Plan) (s : State) (p : Passenger) → passenger_at s.cells plan.stages ≡ Some p →
    row_allows plan s Leave ≡ (not (is_full_at s.cells plan.stages) && (not (is_some p.owes) && (not (is_undone p) && not (is_out p))))
leave-free plan s p e = let h = here-by (cell_at s.cells plan.stages) p e in rw (h.1, h.2)
    (leave_row (is_full (record h.0 { passenger = Some p })) (is_some p.owes) p)

-- if there is no instruction
none_leaves : (o : Option Cell) → on o None (λ c. c.passenger) ≡ None → not (is_some (on o (Some NoSuchSite) leave_bar)) ≡ false
none_leaves None e = refl
none_leaves (Some c) e = rw e refl

none_serves : (o : Option Cell) → on o None (λ c. c.passenger) ≡ None → not (is_some (on o (Some NoSuchSite) serve_bar)) ≡ false
none_serves None e = refl
none_serves (Some c) e = rw e refl

pub leave-none : (plan : Plan) (s : State) → passenger_at s.cells plan.stages ≡ None → row_allows plan s Leave ≡ false
leave-none plan s e = none_leaves (cell_at s.cells plan.stages) e

pub ruleset leave_free = (leave-free, leave-none)

exit_row : (o : Option Cell) → not (is_some (on o (Some NoSuchSite) exit_bar)) ≡ (is_some (on o None (λ c. c.packet)) && not (on o false is_full))
exit_row None = refl
exit_row (Some c) = by (is_some c.packet) (is_full c)
  where
    by : (a b : Bool) → not (is_some (first (not a) NoPacket (first b NotMet None))) ≡ (a && not b)
    by false b = refl
    by true true = refl
    by true false = refl

pub exit-free : (plan : Plan) (s : State) → row_allows plan s Exit ≡ (is_some (packet_at s.cells 1) && not (is_full_at s.cells 1))
exit-free plan s = exit_row (cell_at s.cells 1)

serve_row : (dead done serial full : Bool) → not (is_some (first dead Dead (first done AlreadyDone (first (not serial) NoUnit (first full NotMet None)))))
    ≡ ((not dead && not done) && (serial && not full))
serve_row true done serial full = refl
serve_row false true serial full = refl
serve_row false false false full = refl
serve_row false false true true = refl
serve_row false false true false = refl

pub serve-free : (plan : Plan) (s : State) (p : Passenger) → passenger_at s.cells plan.stages ≡ Some p →
    row_allows plan s Serve ≡ (is_undone p && (is_serial (kind p) && not (is_full_at s.cells plan.stages)))
serve-free plan s p e = let h = here-by (cell_at s.cells plan.stages) p e in rw (h.1, h.2)
    (serve_row p.dead p.done (is_serial (kind p)) (is_full (record h.0 { passenger = Some p })))

pub serve-none : (plan : Plan) (s : State) → passenger_at s.cells plan.stages ≡ None → row_allows plan s Serve ≡ false
serve-none plan s e = none_serves (cell_at s.cells plan.stages) e

pub ruleset serve_free = (serve-free, serve-none)

access_row : (o : Option Op) → not (is_some (access_bar o)) ≡ on o false (λ op. not (is_some op.answer))
access_row None = refl
access_row (Some op) = one_row (is_some op.answer) AlreadyDone

pub access-free : (plan : Plan) (s : State) → row_allows plan s Access ≡ on (last_op (siding_at s (port plan))) false (λ op. not (is_some op.answer))
access-free plan s = access_row (last_op (siding_at s (port plan)))

slide_row : (ops : List (Option Op)) (c : ℕ) (next : Option (Option Op)) → slice_get ops (c + 1) ≡ next →
    not (is_some (slide_bar ops c)) ≡ (cell_is_taken (slice_get ops c) && on next false (λ o. not (is_some o)))
slide_row ops c None e = rw e (sym (never (cell_is_taken (slice_get ops c))))
  where
    never : (b : Bool) → (b && false) ≡ false
    never true = refl
    never false = refl
slide_row ops c (Some o) e = rw e (by (cell_is_taken (slice_get ops c)) (is_some o))
  where
    by : (a b : Bool) → not (is_some (first (not a) OpNotThere (first b Occupied None))) ≡ (a && not b)
    by false b = refl
    by true true = refl
    by true false = refl

pub slide-free : (plan : Plan) (s : State) (k c : ℕ) → row_allows plan s (Slide k c) ≡ (cell_is_taken (slice_get (siding_at s k) c)
    && on (slice_get (siding_at s k) (c + 1)) false (λ o. not (is_some o)))
slide-free plan s k c = slide_row (siding_at s k) c (slice_get (siding_at s k) (c + 1)) refl

pub ruleset emit_free = (emit-free)

pub ruleset exit_free = (exit-free)

pub ruleset access_free = (access-free)

-- the cells from which operations can move on, where the processor goes on
pub slide-bit : (plan : Plan) (s : State) (w : ℕ) → (not (is_some s.ending) && not s.failed) ≡ true →
    ((j : ℕ) → has_bit w j ≡ slides_on s.sidings j) → (j : ℕ) →
    has_bit w j ≡ is_allowed plan s (Slide (j / 8) (j % 8))
unfolding slides_on
slide-bit plan s w on bits j = bits j ∙ sym (allowed-is plan s (Slide (j / 8) (j % 8)) ∙ rw on (slide-free plan s (j / 8) (j % 8)))

-- and where it does not
pub slide-none : (plan : Plan) (s : State) → (not (is_some s.ending) && not s.failed) ≡ false → (j : ℕ) →
    has_bit 0 j ≡ is_allowed plan s (Slide (j / 8) (j % 8))
slide-none plan s off j = no_bits j ∙ sym (allowed-is plan s (Slide (j / 8) (j % 8)) ∙ rw off refl)

pub ruleset sliding = (slide-bit, slide-none)
