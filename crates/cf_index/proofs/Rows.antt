-- The words of a processor say at which stages nothing bars Climb, Fall, Meet and Send.
use Rattle.std.proofs.Common.{◌≡◌, ◌∙◌, refl, sym, ap, ℕ, zero, suc, ◌+◌, ◌-◌, ◌<◌, ◌≤◌, List, [], ◌∷◌, length, Option, Some, None, Bool, true, false, nat_lt, arith}
use Rattle.std.specs.Prelude.{◌&&◌, if◌then◌else◌, nat_eq, not, slice_get}
use Rattle.std.specs.Int.{bit_at}
use Rattle.std.proofs.Math.Bool.{and-false}
use Rattle.std.proofs.lemmas.Bool.Decides.{nat_tests}
use Rattle.std.proofs.lemmas.Nat.Bits.{bit_at-lt, same_from_bits}
use Rattle.std.proofs.lemmas.Option.{slice_get_within}
use Rattle.cf_bind.specs.declared.cell.Cell.{Cell}
use Rattle.cf_bind.specs.declared.moves.Bar.{Bar}
use Rattle.cf_bind.specs.declared.moves.Bar.TheVariants.{NoPacket, NoPassenger, NoSuchSite, NotDone, NotMet, Occupied, Owes}
use Rattle.cf_bind.specs.declared.moves.Move.{Move}
use Rattle.cf_bind.specs.declared.moves.Move.TheVariants.{Climb, Emit, Execute, Exit, Fall, Launch, Leave, Meet, Recover, Send, Serve}
use Rattle.cf_bind.specs.declared.passenger.Passenger.{Passenger}
use Rattle.cf_layout.specs.Layout.{Plan}
use Rattle.cf_layout.specs.Words.{has_bit}
use Rattle.cf_semantics.specs.moves.Bars.{bar, climb_bar, emit_bar, exit_bar, fall_bar, first, first_bar_of, is_full, leave_bar, meet_bar, row_bar, send_bar, serve_bar, stops_at}
use Rattle.cf_semantics.specs.moves.Moves.{moved, without_packet}
use Rattle.cf_semantics.specs.state.Options.{on, is_some}
use Rattle.cf_semantics.specs.state.State.{State, cell_at, put_cell}
use Rattle.cf_stages.specs.Changes.{passenger_at}
use Rattle.cf_stages.specs.Falling.{rests}
use Rattle.cf_stages.specs.Words.{word_of}
use Rattle.theory_refinement.proofs.moves.Rows.{bar_row}
use Rattle.cf_stages.proofs.Bits.{word-bit, word-bit-above}
use Rattle.cf_stages.proofs.Parts.{cell-put, cell-put-other}
use Rattle.cf_core.specs.Masks.{masks_of, stops_there}
use Rattle.cf_core.specs.declared.masks.Masks.{Masks}
use Rattle.cf_core.proofs.Masked.{allowed-as}
use Rattle.cf_layout.proofs.Words.{no_bits}
use Rattle.cf_index.specs.Allowed.{HasStages, is_allowed, word_allowed}
use Rattle.cf_index.specs.Words.{climb_bit, fall_bit, full_bit, goes_on, send_bit}

-- the bits of a word of tests
has_case : (test : ℕ → Bool) (n k : ℕ) (within : Bool) → nat_lt k n ≡ within → has_bit (word_of test n) k ≡ (within && test (k + 1))
has_case test n k true e = let below : k < n = grind (arith, nat_tests) in let z : k + 1 ≡ suc k = omega arith in rw z (word-bit test n k below)
has_case test n k false e = let high : n ≤ k = grind (arith, nat_tests) in word-bit-above test n k high

pub word-has : (test : ℕ → Bool) (n k : ℕ) → has_bit (word_of test n) k ≡ (nat_lt k n && test (k + 1))
word-has test n k = has_case test n k (nat_lt k n) refl

-- there is a stage for each number up to their count
some_case : (cells : List Cell) (k : ℕ) (within : Bool) → nat_lt k (length cells) ≡ within → is_some (slice_get cells k) ≡ within
some_case [] k true e = absurd (grind (arith, nat_tests))
some_case [] k false e = refl
some_case (c ∷ cells) zero true e = refl
some_case (c ∷ cells) zero false e = absurd (grind (arith, nat_tests))
some_case (c ∷ cells) (suc k) within e = some_case cells k within (sym (shifted k (length cells)) ∙ e)
  where
    shifted : (a b : ℕ) → nat_lt (suc a) (suc b) ≡ nat_lt a b
    shifted a b = grind (arith, nat_tests)

pub some-cell : (cells : List Cell) (k : ℕ) → is_some (cell_at cells (k + 1)) ≡ nat_lt k (length cells)
some-cell cells k = let z : k + 1 ≡ suc k = omega arith in rw z (some_case cells k (nat_lt k (length cells)) refl)

no_cell : (cells : List Cell) (k : ℕ) → is_some (cell_at cells (k + 1)) ≡ false → cell_at cells (k + 1) ≡ None
no_cell cells k e = none_there (cell_at cells (k + 1)) e
  where
    none_there : (o : Option Cell) → is_some o ≡ false → o ≡ None
    none_there None f = refl
    none_there (Some c) f = absurd (cc)

-- a test of what is in a stage fails if the stage does not exist
beyond : {A : Type 0} (o : Option A) (test : A → Bool) → (is_some o && on o false test) ≡ on o false test
beyond None test = refl
beyond (Some a) test = refl

pub cell-bit : (test : Cell → Bool) (cells : List Cell) (n k : ℕ) → n ≡ length cells → has_bit (word_of (λ i. on (cell_at cells i) false test) n) k
    ≡ on (cell_at cells (k + 1)) false test
cell-bit test cells n k e =
    rw e (word-has (λ i. on (cell_at cells i) false test) (length cells) k ∙ ap (λ (b : Bool). b && on (cell_at cells (k + 1)) false test)
    (sym (some-cell cells k)) ∙ beyond (cell_at cells (k + 1)) test)

-- what is in a stage
riding : Option Cell → Bool
riding o = on o false (λ c. is_some c.passenger)

flying : Option Cell → Bool
flying o = on o false (λ c. is_some c.packet)

together : Option Cell → Bool
together o = on o false (λ c. c.met)

owing : Option Cell → Bool
owing o = on o false (λ c. on c.passenger false (λ p. is_some p.owes))

stopping : Plan → ℕ → Option Cell → Bool
stopping plan i o = on o false (λ c. on c.passenger false (λ p. stops_at plan p i))

-- the bits of the words of a state
record Bits (plan : Plan) (s : State) (m : Masks) (k : ℕ) : Type 0 where
  riding : has_bit m.passengers k ≡ riding (cell_at s.cells (k + 1))
  flying : has_bit m.packets k ≡ flying (cell_at s.cells (k + 1))
  together : has_bit m.met k ≡ together (cell_at s.cells (k + 1))
  owing : has_bit m.owes k ≡ owing (cell_at s.cells (k + 1))
  stopping : has_bit m.stops k ≡ stopping plan (k + 1) (cell_at s.cells (k + 1))

-- a test of each stage, by its number
stopped_bit : (plan : Plan) (s : State) (k : ℕ) → length s.cells ≡ plan.stages → has_bit (word_of (stops_there plan s) plan.stages) k
    ≡ stopping plan (k + 1) (cell_at s.cells (k + 1))
unfolding stopping
stopped_bit plan s k same =
    word-has (stops_there plan s) plan.stages k
    ∙ ap (λ (n : ℕ). nat_lt k n && stops_there plan s (k + 1)) (sym same)
    ∙ ap (λ (b : Bool). b && stops_there plan s (k + 1)) (sym (some-cell s.cells k))
    ∙ beyond (cell_at s.cells (k + 1)) (λ c. on c.passenger false (λ p. stops_at plan p (k + 1)))

bits : (plan : Plan) (s : State) (m : Masks) (k : ℕ) → m ≡ masks_of plan s → length s.cells ≡ plan.stages → Bits plan s m k
unfolding masks_of riding flying together owing
bits plan s m k e same = rw e (record {
  riding = cell-bit (λ c. is_some c.passenger) s.cells (length s.cells) k refl;
  flying = cell-bit (λ c. is_some c.packet) s.cells (length s.cells) k refl;
  together = cell-bit (λ c. c.met) s.cells (length s.cells) k refl;
  owing = cell-bit (λ c. on c.passenger false (λ p. is_some p.owes)) s.cells plan.stages k (sym same);
  stopping = stopped_bit plan s k same;
})

-- no bar of a row applies if none of its tests holds
abbrev none_holds : List (Bool × Bar) → Bool
none_holds [] = true
none_holds (row ∷ rows) = not row.0 && none_holds rows

first_case : (b : Bool) (bar : Bar) (rest : Option Bar) (clear : Bool) → not (is_some rest) ≡ clear → not (is_some (first b bar rest)) ≡ (not b && clear)
first_case true bar rest clear e = refl
first_case false bar rest clear e = e

first_free : (rows : List (Bool × Bar)) → not (is_some (first_bar_of rows None)) ≡ none_holds rows
first_free [] = refl
first_free (row ∷ rows) = first_case row.0 row.1 (first_bar_of rows None) (none_holds rows) (first_free rows)

-- both are there, and have not met
full_in : Option Cell → Bool
full_in o = on o false is_full

full_is : (o : Option Cell) → (riding o && (flying o && not (together o))) ≡ full_in o
unfolding riding flying together full_in
full_is None = refl
full_is (Some c) = grind arith

full_has : (plan : Plan) (s : State) (m : Masks) (k : ℕ) → Bits plan s m k → full_bit m k ≡ full_in (cell_at s.cells (k + 1))
full_has plan s m k b = rw (b.riding, b.flying, b.together) (full_is (cell_at s.cells (k + 1)))

-- a result is in the stage, or one rests there
pub packet-has : (plan : Plan) (s : State) (m : Masks) (k : ℕ) → m ≡ masks_of plan s → length s.cells ≡ plan.stages →
    has_bit m.packets k ≡ on (cell_at s.cells (k + 1)) false (λ c. is_some c.packet)
unfolding flying
packet-has plan s m k e same = (bits plan s m k e same).flying

pub resting-has : (plan : Plan) (s : State) (m : Masks) (k : ℕ) → m ≡ masks_of plan s → length s.cells ≡ plan.stages →
    (has_bit m.packets k && not (full_bit m k)) ≡ rests s.cells (k + 1)
unfolding flying full_in
resting-has plan s m k e same = let b = bits plan s m k e same in rw (full_has plan s m k b, b.flying) (by (cell_at s.cells (k + 1)))
  where
    by : (o : Option Cell) → (flying o && not (full_in o)) ≡ on o false (λ c. is_some c.packet && not (is_full c))
    by None = refl
    by (Some c) = refl

-- Climb
climb_row : (plan : Plan) (i : ℕ) (o a : Option Cell) →
    not (is_some (on o (Some NoSuchSite) (λ c. climb_bar plan c i a))) ≡ (riding o && (not (full_in o)
    && (not (owing o) && (not (stopping plan i o) && (not (riding a) && is_some a)))))
unfolding riding full_in owing stopping
climb_row plan i None a = refl
climb_row plan i (Some c) None = by_rider c.passenger (not (is_full c)) (not (owing (Some c))) (not (stopping plan i (Some c)))
  where
    by_rider : (o : Option Passenger) (f q r : Bool) → false ≡ (is_some o && (f && (q && (r && (true && false)))))
    by_rider o f q r = grind arith
climb_row plan i (Some c) (Some d) = by_rider c.passenger (is_full c)
  where
    by_rider : (o : Option Passenger) (f : Bool) →
        not (is_some (on o (Some NoPassenger) (λ p. first_bar_of ((f, NotMet) ∷ (is_some p.owes, Owes) ∷ (stops_at plan p i, NotDone)
        ∷ (is_some d.passenger, Occupied) ∷ []) None)))
        ≡ (is_some o && (not f && (not (on o false (λ p. is_some p.owes)) && (not (on o false (λ p. stops_at plan p i))
        && (not (is_some d.passenger) && true)))))
    by_rider None f = refl
    by_rider (Some p) f = first_free ((f, NotMet) ∷ (is_some p.owes, Owes) ∷ (stops_at plan p i, NotDone) ∷ (is_some d.passenger, Occupied) ∷ [])

-- Fall
fall_row : (o a : Option Cell) → not (is_some (on o (Some NoSuchSite) (λ c. fall_bar c a))) ≡ (flying o && (not (full_in o) && (is_some a && not (flying a))))
unfolding flying full_in
fall_row None a = refl
fall_row (Some c) None = grind arith
fall_row (Some c) (Some d) = first_free ((not (is_some c.packet), NoPacket) ∷ (is_full c, NotMet) ∷ (is_some d.packet, Occupied) ∷ [])
    ∙ tests (is_some c.packet) (is_full c) (is_some d.packet)
  where
    tests : (k f o : Bool) → (not (not k) && (not f && (not o && true))) ≡ (k && (not f && not o))
    tests k f o = grind arith

-- Meet
meet_row : (o : Option Cell) → not (is_some (on o (Some NoSuchSite) meet_bar)) ≡ full_in o
unfolding full_in
meet_row None = refl
meet_row (Some c) = grind arith

-- Send
send_row : (o : Option Cell) → not (is_some (on o (Some NoSuchSite) send_bar)) ≡ (owing o && not (flying o))
unfolding owing flying
send_row None = refl
send_row (Some c) = grind arith

-- One stage after another --

-- a move that its row bars is not allowed
barred_row : (plan : Plan) (s : State) (mv : Move) → not (is_some (row_bar plan s mv)) ≡ false → is_allowed plan s mv ≡ false
barred_row plan s mv off =
    allowed-as plan s mv (is_some s.ending) s.failed refl refl ∙ ap (λ (b : Bool). goes_on s && b) off ∙ and-false (goes_on s)

free_row : (plan : Plan) (s : State) (mv : Move) → bar plan s mv ≡ None → true ≡ not (is_some (row_bar plan s mv))
free_row plan s mv free = rw (bar_row plan s mv free) refl

-- while the instruction of a stage can climb, there is none in the stage above that could
pub climb_alone : (plan : Plan) (s : State) (i : ℕ) → bar plan s (Climb i) ≡ None → is_allowed plan s (Climb (i + 1)) ≡ false
unfolding riding
climb_alone plan s i free =
    let here = free_row plan s (Climb i) free ∙ climb_row plan i (cell_at s.cells i) (cell_at s.cells (i + 1)) in
    let none = room _ (full_in (cell_at s.cells i)) _ _ (riding (cell_at s.cells (i + 1))) _ here in
    barred_row plan s (Climb (i + 1)) (climb_row plan (i + 1) (cell_at s.cells (i + 1)) (cell_at s.cells (i + 1 + 1)) ∙ rw none refl)
  where
    room : (p f o q a l : Bool) → true ≡ (p && (not f && (not o && (not q && (not a && l))))) → a ≡ false
    room p f o q a l e = grind arith

-- while the result of a stage can fall, the one of the stage above cannot
pub fall_alone : (plan : Plan) (s : State) (i : ℕ) → bar plan s (Fall i) ≡ None → is_allowed plan s (Fall (i + 1)) ≡ false
unfolding flying
fall_alone plan s i free =
    let z : i + 1 - 1 ≡ i = omega arith in
    let here = free_row plan s (Fall i) free ∙ fall_row (cell_at s.cells i) (cell_at s.cells (i - 1)) in
    let some = there (flying (cell_at s.cells i)) _ here in
    barred_row plan s (Fall (i + 1)) (rw z (fall_row (cell_at s.cells (i + 1)) (cell_at s.cells i) ∙ rw some (none (flying (cell_at s.cells (i + 1))) _ _)))
  where
    there : (k r : Bool) → true ≡ (k && r) → k ≡ true
    there k r e = grind arith

    none : (k f t : Bool) → (k && (f && (t && false))) ≡ false
    none k f t = grind arith

-- The words --

-- the next stage is there
next_there : (plan : Plan) (s : State) (k : ℕ) → length s.cells ≡ plan.stages → is_some (cell_at s.cells (k + 1 + 1)) ≡ nat_lt (k + 1) plan.stages
next_there plan s k same = some-cell s.cells (k + 1) ∙ ap (nat_lt (k + 1)) same

pub climb-free : (plan : Plan) (s : State) (m : Masks) (k : ℕ) → m ≡ masks_of plan s → length s.cells ≡ plan.stages →
    climb_bit m plan.stages k ≡ not (is_some (row_bar plan s (Climb (k + 1))))
climb-free plan s m k e same =
    let b = bits plan s m k e same in
    let a = bits plan s m (k + 1) e same in
    rw (full_has plan s m k b, b.riding, b.owing, b.stopping, a.riding, ← next_there plan s k same)
    (sym (climb_row plan (k + 1) (cell_at s.cells (k + 1)) (cell_at s.cells (k + 1 + 1))))

-- the last stage is there
last_there : (s : State) (k : ℕ) → is_some (cell_at s.cells k) ≡ true → nat_lt 0 k ≡ true
last_there s zero h = absurd (cc)
last_there s (suc k) h = grind (arith, nat_tests)

fall_below : (plan : Plan) (s : State) (m : Masks) (k : ℕ) → m ≡ masks_of plan s → length s.cells ≡ plan.stages → k < suc (length s.cells) →
    (nat_lt 0 k && not (has_bit m.packets (k - 1))) ≡ (is_some (cell_at s.cells k) && not (flying (cell_at s.cells k)))
fall_below plan s m zero e same within = let z : nat_lt 0 zero ≡ false = grind (arith, nat_tests) in rw z refl
fall_below plan s m (suc k) e same within =
    let z : suc k - 1 ≡ k = omega arith in
    let y : k + 1 ≡ suc k = omega arith in
    let p : nat_lt 0 (suc k) ≡ true = grind (arith, nat_tests) in
    let t : is_some (cell_at s.cells (suc k)) ≡ true = rw y at (some-cell s.cells k) ∙ grind (arith, nat_tests) in
    let b = bits plan s m k e same in
    let f : has_bit m.packets k ≡ flying (cell_at s.cells (suc k)) = rw y at b.flying in
    rw (z, p, t, f) refl

fall_case : (plan : Plan) (s : State) (m : Masks) (k : ℕ) (within : Bool) → nat_lt k (length s.cells) ≡ within → m ≡ masks_of plan s →
    length s.cells ≡ plan.stages → fall_bit m k ≡ not (is_some (row_bar plan s (Fall (k + 1))))
unfolding flying
fall_case plan s m k true low e same =
    let b = bits plan s m k e same in
    let z : k + 1 - 1 ≡ k = omega arith in
    rw (full_has plan s m k b, b.flying, fall_below plan s m k e same (grind (arith, nat_tests)), z)
    (sym (fall_row (cell_at s.cells (k + 1)) (cell_at s.cells k)))
fall_case plan s m k false high e same =
    let b = bits plan s m k e same in
    let none : cell_at s.cells (k + 1) ≡ None = no_cell s.cells k (some-cell s.cells k ∙ high) in
    let f : has_bit m.packets k ≡ false = b.flying ∙ ap flying none in
    rw (f, none) refl

pub fall-free : (plan : Plan) (s : State) (m : Masks) (k : ℕ) → m ≡ masks_of plan s → length s.cells ≡ plan.stages →
    fall_bit m k ≡ not (is_some (row_bar plan s (Fall (k + 1))))
fall-free plan s m k e same = fall_case plan s m k (nat_lt k (length s.cells)) refl e same

pub meet-free : (plan : Plan) (s : State) (m : Masks) (k : ℕ) → m ≡ masks_of plan s → length s.cells ≡ plan.stages →
    full_bit m k ≡ not (is_some (row_bar plan s (Meet (k + 1))))
meet-free plan s m k e same = full_has plan s m k (bits plan s m k e same) ∙ sym (meet_row (cell_at s.cells (k + 1)))

pub send-free : (plan : Plan) (s : State) (m : Masks) (k : ℕ) → m ≡ masks_of plan s → length s.cells ≡ plan.stages →
    send_bit m k ≡ not (is_some (row_bar plan s (Send (k + 1))))
send-free plan s m k e same =
    let b = bits plan s m k e same in
    rw (b.owing, b.flying) (sym (send_row (cell_at s.cells (k + 1))))

-- if a word says of each stage whether the row bars the move, it says where the move is allowed, as long as the
-- processor goes on
in_stages : (plan : Plan) (s : State) (kind : ℕ → Move) (k : ℕ) (on within free : Bool) → nat_lt k plan.stages ≡ within →
    not (is_some (row_bar plan s (kind (k + 1)))) ≡ free → goes_on s ≡ on → (within ≡ false → free ≡ false) →
    (on && free) ≡ (nat_lt k plan.stages && is_allowed plan s (kind (k + 1)))
in_stages plan s kind k on within free e f g outside =
    let a = allowed-as plan s (kind (k + 1)) (is_some s.ending) s.failed refl refl in
    rw (e, a, f, g) (tests on within free outside)
  where
    tests : (on within free : Bool) → (within ≡ false → free ≡ false) → (on && free) ≡ (within && (on && free))
    tests on true free outside = refl
    tests true false free outside = outside refl
    tests false false free outside = refl

-- the bits of a word, if the processor goes on
bits_on : (on : Bool) (w k : ℕ) → has_bit (if on then w else 0) k ≡ (on && has_bit w k)
bits_on true w k = refl
bits_on false w k = no_bits k

pub stages_are : (plan : Plan) (s : State) (kind : ℕ → Move) (w v : ℕ) → ((k : ℕ) → has_bit w k ≡ not (is_some (row_bar plan s (kind (k + 1))))) →
    ((k : ℕ) → cell_at s.cells (k + 1) ≡ None → not (is_some (row_bar plan s (kind (k + 1)))) ≡ false) → length s.cells ≡ plan.stages →
    v ≡ (if goes_on s then w else 0) → HasStages plan s kind v
stages_are plan s kind w v has outside same is k =
    rw is (bits_on (goes_on s) w k
    ∙ ap (λ (b : Bool). goes_on s && b) (has k)
    ∙ in_stages plan s kind k (goes_on s) (nat_lt k plan.stages) (not (is_some (row_bar plan s (kind (k + 1))))) refl refl refl
    (λ e. outside k (no_cell s.cells k (some-cell s.cells k ∙ ap (nat_lt k) same ∙ e))))

-- a word that says where a kind of move is allowed is the word of the stages where it is
same_bit : (a b : ℕ) → a < 2 → b < 2 → nat_eq a 1 ≡ nat_eq b 1 → a ≡ b
same_bit a b small less e = grind (arith, nat_tests)

same_bits : (a b : ℕ) → ((k : ℕ) → has_bit a k ≡ has_bit b k) → a ≡ b
unfolding has_bit
same_bits a b same = same_from_bits a b (λ k. same_bit (bit_at a k) (bit_at b k) (bit_at-lt a k) (bit_at-lt b k) (same k))

pub allowed-has : (plan : Plan) (s : State) (kind : ℕ → Move) → HasStages plan s kind (word_allowed plan s kind)
allowed-has plan s kind k = word-has (λ i. is_allowed plan s (kind i)) plan.stages k

pub word-is : (plan : Plan) (s : State) (kind : ℕ → Move) (w : ℕ) → HasStages plan s kind w → w ≡ word_allowed plan s kind
word-is plan s kind w has = same_bits w (word_allowed plan s kind) (λ k. has k ∙ sym (allowed-has plan s kind k))

-- the words of the four kinds
pub climb-stages : (plan : Plan) (s : State) (m : Masks) (w v : ℕ) → m ≡ masks_of plan s → length s.cells ≡ plan.stages →
    ((k : ℕ) → has_bit w k ≡ climb_bit m plan.stages k) → v ≡ (if goes_on s then w else 0) → HasStages plan s Climb v
climb-stages plan s m w v e same has is = stages_are plan s Climb w v (λ k. has k ∙ climb-free plan s m k e same) (λ k none. rw none refl) same is

pub fall-stages : (plan : Plan) (s : State) (m : Masks) (w v : ℕ) → m ≡ masks_of plan s → length s.cells ≡ plan.stages →
    ((k : ℕ) → has_bit w k ≡ fall_bit m k) → v ≡ (if goes_on s then w else 0) → HasStages plan s Fall v
fall-stages plan s m w v e same has is = stages_are plan s Fall w v (λ k. has k ∙ fall-free plan s m k e same) (λ k none. rw none refl) same is

pub meet-stages : (plan : Plan) (s : State) (m : Masks) (w v : ℕ) → m ≡ masks_of plan s → length s.cells ≡ plan.stages →
    ((k : ℕ) → has_bit w k ≡ full_bit m k) → v ≡ (if goes_on s then w else 0) → HasStages plan s Meet v
meet-stages plan s m w v e same has is = stages_are plan s Meet w v (λ k. has k ∙ meet-free plan s m k e same) (λ k none. rw none refl) same is

pub send-stages : (plan : Plan) (s : State) (m : Masks) (w v : ℕ) → m ≡ masks_of plan s → length s.cells ≡ plan.stages →
    ((k : ℕ) → has_bit w k ≡ send_bit m k) → v ≡ (if goes_on s then w else 0) → HasStages plan s Send v
send-stages plan s m w v e same has is = stages_are plan s Send w v (λ k. has k ∙ send-free plan s m k e same) (λ k none. rw none refl) same is

-- and of the three whose marks are kept
pub execute-stages : (plan : Plan) (s : State) (m : Masks) → m ≡ masks_of plan s → HasStages plan s Execute m.execute
unfolding masks_of
execute-stages plan s m e k = rw e (word-has (λ i. is_allowed plan s (Execute i)) plan.stages k)

pub launch-stages : (plan : Plan) (s : State) (m : Masks) → m ≡ masks_of plan s → HasStages plan s Launch m.launch
unfolding masks_of
launch-stages plan s m e k = rw e (word-has (λ i. is_allowed plan s (Launch i)) plan.stages k)

pub recover-stages : (plan : Plan) (s : State) (m : Masks) → m ≡ masks_of plan s → HasStages plan s Recover m.recover
unfolding masks_of
recover-stages plan s m e k = rw e (word-has (λ i. is_allowed plan s (Recover i)) plan.stages k)

-- The ends of the pipes, where the processor goes on --

pub going_free : (plan : Plan) (s : State) (mv : Move) → goes_on s ≡ true → is_allowed plan s mv ≡ not (is_some (row_bar plan s mv))
going_free plan s mv on = allowed-as plan s mv (is_some s.ending) s.failed refl refl ∙ ap (λ (b : Bool). b && not (is_some (row_bar plan s mv))) on

exit_row : (o : Option Cell) → not (is_some (on o (Some NoSuchSite) exit_bar)) ≡ (flying o && not (full_in o))
unfolding flying full_in
exit_row None = refl
exit_row (Some c) = grind arith

pub exit_allowed : (plan : Plan) (s : State) (m : Masks) → goes_on s ≡ true → m ≡ masks_of plan s → length s.cells ≡ plan.stages →
    (has_bit m.packets 0 && not (full_bit m 0)) ≡ is_allowed plan s Exit
exit_allowed plan s m on e same =
    let b = bits plan s m 0 e same in
    rw (full_has plan s m 0 b, b.flying, going_free plan s Exit on) (sym (exit_row (cell_at s.cells 1)))

-- the word of instructions says whether the lowest stage has one
ridden : (o : Option Cell) → riding o ≡ is_some (on o None (λ c. c.passenger))
unfolding riding
ridden None = refl
ridden (Some c) = refl

pub lowest_rider : (plan : Plan) (s : State) (m : Masks) → m ≡ masks_of plan s → length s.cells ≡ plan.stages →
    has_bit m.passengers 0 ≡ is_some (passenger_at s.cells 1)
lowest_rider plan s m e same = let b = bits plan s m 0 e same in b.riding ∙ ridden (cell_at s.cells 1)

-- the highest stage is there
top_there : (plan : Plan) (s : State) → length s.cells ≡ plan.stages → 1 ≤ plan.stages → is_some (cell_at s.cells plan.stages) ≡ true
top_there plan s same some =
    let z : plan.stages - 1 + 1 ≡ plan.stages = omega arith in
    rw z at (some-cell s.cells (plan.stages - 1)) ∙ grind (arith, nat_tests)

emit_row : (lane : List ℕ) (o : Option Cell) → is_some o ≡ true →
    not (is_some (on o (Some NoSuchSite) (emit_bar lane))) ≡ (nat_lt 0 (length lane) && not (flying o))
unfolding flying
emit_row lane None there = absurd (cc)
emit_row [] (Some c) there = refl
emit_row (r ∷ lane) (Some c) there = grind arith

pub emit_allowed : (plan : Plan) (s : State) (m : Masks) → goes_on s ≡ true → m ≡ masks_of plan s → length s.cells ≡ plan.stages → 1 ≤ plan.stages →
    (nat_lt 0 (length s.lane) && not (has_bit m.packets (plan.stages - 1))) ≡ is_allowed plan s Emit
emit_allowed plan s m on e same some =
    let b = bits plan s m (plan.stages - 1) e same in
    let z : plan.stages - 1 + 1 ≡ plan.stages = omega arith in
    let f : has_bit m.packets (plan.stages - 1) ≡ flying (cell_at s.cells plan.stages) = rw z at b.flying in
    rw (f, going_free plan s Emit on) (sym (emit_row s.lane (cell_at s.cells plan.stages) (top_there plan s same some)))

-- no instruction is there to leave or to be served
no_rider : (o : Option Passenger) (test : Passenger → Option Bar) → is_some o ≡ false → not (is_some (on o (Some NoPassenger) test)) ≡ false
no_rider None test none = refl
no_rider (Some p) test none = absurd (cc)

leave_row : (o : Option Cell) → riding o ≡ false → not (is_some (on o (Some NoSuchSite) leave_bar)) ≡ false
unfolding riding
leave_row None none = refl
leave_row (Some c) none = no_rider c.passenger _ none

serve_row : (o : Option Cell) → riding o ≡ false → not (is_some (on o (Some NoSuchSite) serve_bar)) ≡ false
unfolding riding
serve_row None none = refl
serve_row (Some c) none = no_rider c.passenger _ none

pub top_free : (plan : Plan) (s : State) (m : Masks) → goes_on s ≡ true → m ≡ masks_of plan s → length s.cells ≡ plan.stages → 1 ≤ plan.stages →
    has_bit m.passengers (plan.stages - 1) ≡ false → (is_allowed plan s Leave ≡ false) × (is_allowed plan s Serve ≡ false)
top_free plan s m on e same some none =
    let b = bits plan s m (plan.stages - 1) e same in
    let z : plan.stages - 1 + 1 ≡ plan.stages = omega arith in
    let f : riding (cell_at s.cells plan.stages) ≡ false = sym (rw z at b.riding) ∙ none in
    (going_free plan s Leave on ∙ leave_row (cell_at s.cells plan.stages) f, going_free plan s Serve on ∙ serve_row (cell_at s.cells plan.stages) f)

-- After a Fall --

-- its stage has no result
fell : (plan : Plan) (s : State) (i : ℕ) → bar plan s (Fall i) ≡ None → flying (cell_at (moved plan s (Fall i)).cells i) ≡ false
unfolding moved flying
fell plan s zero free = absurd (let e = bar_row plan s (Fall zero) free in cc)
fell plan s (suc k) free = go (slice_get s.cells k) (cell_at s.cells (suc k - 1)) refl refl
  where
    go : (o a : Option Cell) → slice_get s.cells k ≡ o → cell_at s.cells (suc k - 1) ≡ a → flying (cell_at (moved plan s (Fall (suc k))).cells (suc k)) ≡ false
    go None a e f = absurd (let r = bar_row plan s (Fall (suc k)) free in cc)
    go (Some c) None e f = absurd (let r = bar_row plan s (Fall (suc k)) free in cc)
    go (Some c) (Some d) e f =
        let within : k < length s.cells = slice_get_within s.cells k c e in
        let cells = put_cell s.cells (suc k) (without_packet c) in
        rw (
          e,
          f,
          cell-put-other cells (suc k - 1) (suc k) (record d { packet = c.packet; met = false }) (λ same. absurd (omega (arith, same))),
          cell-put s.cells (suc k) (without_packet c) (omega arith) (omega (arith, within)),
        ) refl

-- so the result of the stage above can fall now, if it need not meet an instruction first
above_fallen : (k f : Bool) → (k && (not f && (true && not false))) ≡ (k && not f)
above_fallen k f = grind arith

fallen_row : (plan : Plan) (old s : State) (m : Masks) (i : ℕ) → bar plan old (Fall i) ≡ None → s ≡ moved plan old (Fall i) → m ≡ masks_of plan s →
    length s.cells ≡ plan.stages → 0 < i → not (is_some (row_bar plan s (Fall (i + 1)))) ≡ (has_bit m.packets i && not (full_bit m i))
fallen_row plan old s m i free is e same low =
    let z : i - 1 + 1 ≡ i = omega (arith, low) in
    let none : has_bit m.packets (i - 1) ≡ false =
    (bits plan s m (i - 1) e same).flying ∙ rw z (ap (λ (t : State). flying (cell_at t.cells i)) is ∙ fell plan old i free) in
    let some : nat_lt 0 i ≡ true = grind (arith, nat_tests) in
    sym (fall-free plan s m i e same) ∙ rw (some, none) (above_fallen (has_bit m.packets i) (full_bit m i))

no_packet : (plan : Plan) (s : State) (m : Masks) (i : ℕ) → m ≡ masks_of plan s → length s.cells ≡ plan.stages → nat_lt i plan.stages ≡ false →
    has_bit m.packets i ≡ false
unfolding flying
no_packet plan s m i e same above =
    (bits plan s m i e same).flying ∙ rw (no_cell s.cells i (some-cell s.cells i ∙ ap (nat_lt i) same ∙ above)) refl

pub fallen_next : (plan : Plan) (old s : State) (m : Masks) (i : ℕ) → bar plan old (Fall i) ≡ None → s ≡ moved plan old (Fall i) → goes_on s ≡ true →
    m ≡ masks_of plan s → length s.cells ≡ plan.stages → 0 < i → has_bit (word_allowed plan s Fall) i ≡ (has_bit m.packets i && not (full_bit m i))
fallen_next plan old s m i free is on e same low =
    allowed-has plan s Fall i
    ∙ ap (λ (b : Bool). nat_lt i plan.stages && b) (going_free plan s (Fall (i + 1)) on ∙ fallen_row plan old s m i free is e same low)
    ∙ within (nat_lt i plan.stages) refl
  where
    within : (b : Bool) → nat_lt i plan.stages ≡ b → (b && (has_bit m.packets i && not (full_bit m i))) ≡ (has_bit m.packets i && not (full_bit m i))
    within true f = refl
    within false f = rw (no_packet plan s m i e same f) refl
