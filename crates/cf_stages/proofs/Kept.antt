-- The pipes and the words still agree after one stage was changed, and the contents of the stages then.
use Rattle.std.proofs.Common.{◌≡◌, ◌∙◌, ℕ, zero, suc, ◌-◌, ◌<◌, ◌≤◌, List, [], ◌∷◌, All, Option, Some, None, Bool, true, false, IsTrue, length, length-set, refl, sym, ap, subst, arith}
use Rattle.std.specs.Prelude.{IsSome, slice_get, slice_index_or, slice_set}
use Rattle.std.proofs.lemmas.Option.{slice_get-get_or}
use Rattle.cf_bind.specs.declared.cell.Cell.{Cell}
use Rattle.cf_bind.specs.declared.packet.Packet.{Packet}
use Rattle.cf_bind.specs.declared.passenger.Passenger.{Passenger}
use Rattle.cf_layout.specs.Words.{has_bit}
use Rattle.cf_semantics.specs.moves.Moves.{with_passenger}
use Rattle.cf_semantics.specs.state.Options.{on, is_some}
use Rattle.cf_semantics.specs.state.State.{cell_at, put_cell}
use Rattle.cf_stages.specs.Changes.{IsCell, changed, has_met_at, packet_at, passenger_at, with_new_passenger}
use Rattle.cf_stages.specs.Parts.{AreParts, all_cells, with_place}
use Rattle.cf_stages.specs.Words.{word_where, with_bit}
use Rattle.cf_stages.proofs.Bits.{bit-other, bit-same}
use Rattle.cf_stages.proofs.Cells.{cell-in, cells-put}
use Rattle.cf_stages.proofs.Parts.{cell-parts, length-cells, put-parts, set-same, stage-high, stage-low, word-put, word-put-same}

-- what is at an index
record There {A : Type 0} (xs : List A) (j : ℕ) : Type 0 where
  value : A
  is : slice_get xs j ≡ Some value

there : {A : Type 0} (xs : List A) (j : ℕ) → j < length xs → There xs j
there [] j within = absurd (omega arith)
there (x ∷ xs) zero within = record { value = x; is = refl }
there (x ∷ xs) (suc j) within = let r = there xs j (omega arith) in record { value = r.value; is = r.is }

-- both entries of a stage get new contents, and its bit says whether they have met
parts_put : (ps : List (Option Passenger)) (qs : List (Option Packet)) (met i : ℕ) (p : Option Passenger) (q : Option Packet) (b : Bool) → 0 < i →
    i ≤ length ps → length qs ≡ length ps → length ps ≤ 32 →
    all_cells (slice_set ps (i - 1) p) (slice_set qs (i - 1) q) (with_bit met (i - 1) b) ≡ put_cell (all_cells ps qs met) i
    (record { passenger = p; packet = q; met = b })
parts_put ps qs met i p q b low within e most =
    put-parts ps qs met (with_bit met (i - 1) b) i p q low within e most (λ k below off. bit-other met (i - 1) k b (omega arith) below off)
    ∙ ap (λ (m : Bool). put_cell (all_cells ps qs met) i (record { passenger = p; packet = q; met = m })) (bit-same met (i - 1) b (omega arith))

-- the parts agree with the contents of the stages then
agree_put : (ps ps1 : List (Option Passenger)) (qs qs1 : List (Option Packet)) (riding flying met riding1 flying1 met1 i : ℕ) (c : Cell) →
    AreParts ps qs riding flying met → 0 < i → i ≤ length ps →
    length ps1 ≡ length ps → length qs1 ≡ length qs → all_cells ps1 qs1 met1 ≡ put_cell (all_cells ps qs met) i c → IsCell c →
    riding1 ≡ with_bit riding (i - 1) (is_some c.passenger) → flying1 ≡ with_bit flying (i - 1) (is_some c.packet) → met1 ≡ with_bit met (i - 1) c.met →
    AreParts ps1 qs1 riding1 flying1 met1
agree_put ps ps1 qs qs1 riding flying met riding1 flying1 met1 i c h low within a b is one r f m =
    let n = length-cells 0 ps qs met h.pipes in
    let cells = all_cells ps qs met in
    let put = λ (test : Cell → Bool). word-put test cells i c low (omega arith) (omega (arith, h.most)) in
    record {
      pipes = b ∙ h.pipes ∙ sym a;
      least = omega (arith, h.least);
      most = omega (arith, h.most);
      cells = subst (All IsCell) (sym is) (cells-put cells i c one h.cells);
      passenger_bits = r ∙ ap (λ (w : ℕ). with_bit w (i - 1) (is_some c.passenger)) h.passenger_bits ∙ sym (put (λ d. is_some d.passenger))
          ∙ ap (word_where (λ d. is_some d.passenger)) (sym is);
      packet_bits = f ∙ ap (λ (w : ℕ). with_bit w (i - 1) (is_some c.packet)) h.packet_bits ∙ sym (put (λ d. is_some d.packet))
          ∙ ap (word_where (λ d. is_some d.packet)) (sym is);
      met_bits = m ∙ ap (λ (w : ℕ). with_bit w (i - 1) c.met) h.met_bits ∙ sym (put (λ d. d.met)) ∙ ap (word_where (λ d. d.met)) (sym is);
    }

-- a word is unchanged if the bit of the stage already is what is put there
bit_kept : (test : Cell → Bool) (cells : List Cell) (i w : ℕ) (b c : Cell) → 0 < i → i ≤ length cells → length cells ≤ 32 → cell_at cells i ≡ Some b →
    test c ≡ test b → w ≡ word_where test cells → w ≡ with_bit w (i - 1) (test c)
bit_kept test cells i w b c low within few here same is =
    is ∙ sym (word-put-same test cells i b c here same) ∙ word-put test cells i c low within few ∙ ap (λ (v : ℕ). with_bit v (i - 1) (test c)) (sym is)

-- the contents of a stage
record Stood (ps : List (Option Passenger)) (qs : List (Option Packet)) (met i : ℕ) : Type 0 where
  rider : Option Passenger
  result : Option Packet
  rides : slice_get ps (i - 1) ≡ Some rider
  flies : slice_get qs (i - 1) ≡ Some result
  here : cell_at (all_cells ps qs met) i ≡ Some (record { passenger = rider; packet = result; met = has_bit met (i - 1) })

stood : (ps : List (Option Passenger)) (qs : List (Option Packet)) (met i : ℕ) → 0 < i → i ≤ length ps → length qs ≡ length ps → Stood ps qs met i
stood ps qs met i low within same =
    let p = there ps (i - 1) (omega arith) in
    let q = there qs (i - 1) (omega arith) in
    record { rider = p.value; result = q.value; rides = p.is; flies = q.is; here = cell-parts ps qs met i p.value q.value low p.is q.is }

-- the stages with one changed, if it exists
changed_there : (cells : List Cell) (i : ℕ) (c : Cell) (f : Cell → Cell) → cell_at cells i ≡ Some c → changed cells i f ≡ put_cell cells i (f c)
changed_there cells i c f here = rw here refl

-- an instruction comes or goes
passenger_put : (ps : List (Option Passenger)) (qs : List (Option Packet)) (met i : ℕ) (p : Option Passenger) (s : Stood ps qs met i) → 0 < i → i ≤ length ps →
    length qs ≡ length ps → length ps ≤ 32 →
    all_cells (slice_set ps (i - 1) p) qs (with_bit met (i - 1) false) ≡ put_cell (all_cells ps qs met) i
    (record { passenger = p; packet = s.result; met = false })
passenger_put ps qs met i p s low within same most =
    ap (λ (l : List (Option Packet)). all_cells (slice_set ps (i - 1) p) l (with_bit met (i - 1) false)) (sym (set-same qs (i - 1) s.result s.flies))
    ∙ parts_put ps qs met i p s.result false low within same most

pub passenger-placed : (ps : List (Option Passenger)) (qs : List (Option Packet)) (riding flying met met1 i : ℕ) (p : Option Passenger) →
    AreParts ps qs riding flying met → 0 < i → i ≤ length ps → met1 ≡ with_bit met (i - 1) false →
    all_cells (slice_set ps (i - 1) p) qs met1 ≡ changed (all_cells ps qs met) i (with_new_passenger p)
passenger-placed ps qs riding flying met met1 i p h low within m =
    let s = stood ps qs met i low within h.pipes in
    rw m (passenger_put ps qs met i p s low within h.pipes h.most ∙ sym (changed_there (all_cells ps qs met) i _ (with_new_passenger p) s.here))

pub passenger-parts : (ps : List (Option Passenger)) (qs : List (Option Packet)) (riding flying met riding1 met1 i : ℕ) (p : Option Passenger) (rides : Bool) →
    AreParts ps qs riding flying met → 0 < i → i ≤ length ps →
    rides ≡ is_some p → riding1 ≡ with_bit riding (i - 1) rides → met1 ≡ with_bit met (i - 1) false → AreParts (slice_set ps (i - 1) p) qs riding1 flying met1
passenger-parts ps qs riding flying met riding1 met1 i p rides h low within is r m =
    let s = stood ps qs met i low within h.pipes in
    let n = length-cells 0 ps qs met h.pipes in
    let c : Cell = record { passenger = p; packet = s.result; met = false } in
    agree_put ps (slice_set ps (i - 1) p) qs qs riding flying met riding1 flying met1 i c h low within (length-set ps (i - 1) p) refl
    (ap (λ (w : ℕ). all_cells (slice_set ps (i - 1) p) qs w) m ∙ passenger_put ps qs met i p s low within h.pipes h.most)
    (λ g. absurd (cc)) (r ∙ ap (with_bit riding (i - 1)) is) (bit_kept (λ d. is_some d.packet) (all_cells ps qs met) i flying _ c low (omega arith)
    (omega (arith, h.most)) s.here refl h.packet_bits) m

-- a result comes or goes, or what is known of the meeting changes
packet_put : (ps : List (Option Passenger)) (qs : List (Option Packet)) (met i : ℕ) (q : Option Packet) (b : Bool) (s : Stood ps qs met i) → 0 < i →
    i ≤ length ps → length qs ≡ length ps → length ps ≤ 32 →
    all_cells ps (slice_set qs (i - 1) q) (with_bit met (i - 1) b) ≡ put_cell (all_cells ps qs met) i (record { passenger = s.rider; packet = q; met = b })
packet_put ps qs met i q b s low within same most =
    ap (λ (l : List (Option Passenger)). all_cells l (slice_set qs (i - 1) q) (with_bit met (i - 1) b)) (sym (set-same ps (i - 1) s.rider s.rides))
    ∙ parts_put ps qs met i s.rider q b low within same most

pub packet-placed : (ps : List (Option Passenger)) (qs : List (Option Packet)) (riding flying met met1 i : ℕ) (q : Option Packet) (b : Bool) →
    AreParts ps qs riding flying met → 0 < i → i ≤ length ps → met1 ≡ with_bit met (i - 1) b →
    all_cells ps (slice_set qs (i - 1) q) met1 ≡ changed (all_cells ps qs met) i (with_place q b)
packet-placed ps qs riding flying met met1 i q b h low within m =
    let s = stood ps qs met i low within h.pipes in
    rw m (packet_put ps qs met i q b s low within h.pipes h.most ∙ sym (changed_there (all_cells ps qs met) i _ (with_place q b) s.here))

rides_there : (ps : List (Option Passenger)) (qs : List (Option Packet)) (met i : ℕ) (s : Stood ps qs met i) → IsSome (passenger_at (all_cells ps qs met) i) →
    is_some s.rider ≡ true
rides_there ps qs met i s h = some_true s.rider (subst (λ (o : Option Cell). IsSome (on o None (λ c. c.passenger))) s.here h)
  where
    some_true : (o : Option Passenger) → IsSome o → is_some o ≡ true
    some_true None g = absurd (cc)
    some_true (Some p) g = refl

pub packet-parts : (ps : List (Option Passenger)) (qs : List (Option Packet)) (riding flying met flying1 met1 i : ℕ) (q : Option Packet) (b flies : Bool) →
    AreParts ps qs riding flying met → 0 < i → i ≤ length ps →
    (IsTrue b → IsTrue (is_some q)) → (IsTrue b → IsSome (passenger_at (all_cells ps qs met) i)) →
    flies ≡ is_some q → flying1 ≡ with_bit flying (i - 1) flies → met1 ≡ with_bit met (i - 1) b → AreParts ps (slice_set qs (i - 1) q) riding flying1 met1
packet-parts ps qs riding flying met flying1 met1 i q b flies h low within both rides is f m =
    let s = stood ps qs met i low within h.pipes in
    let n = length-cells 0 ps qs met h.pipes in
    let c : Cell = record { passenger = s.rider; packet = q; met = b } in
    agree_put ps ps qs (slice_set qs (i - 1) q) riding flying met riding flying1 met1 i c h low within refl (length-set qs (i - 1) q)
    (ap (λ (w : ℕ). all_cells ps (slice_set qs (i - 1) q) w) m ∙ packet_put ps qs met i q b s low within h.pipes h.most)
    (λ g. rw (rides_there ps qs met i s (rides g)) (both g)) (bit_kept (λ d. is_some d.passenger) (all_cells ps qs met) i riding _ c low (omega arith)
    (omega (arith, h.most)) s.here refl h.passenger_bits) (f ∙ ap (with_bit flying (i - 1)) is) m

-- another instruction replaces the one in the stage
renew_put : (ps : List (Option Passenger)) (qs : List (Option Packet)) (met i : ℕ) (p : Option Passenger) (s : Stood ps qs met i) → 0 < i → i ≤ length ps →
    length qs ≡ length ps → length ps ≤ 32 →
    all_cells (slice_set ps (i - 1) p) qs met ≡ put_cell (all_cells ps qs met) i (record { passenger = p; packet = s.result; met = has_bit met (i - 1) })
renew_put ps qs met i p s low within same most =
    ap (λ (l : List (Option Packet)). all_cells (slice_set ps (i - 1) p) l met) (sym (set-same qs (i - 1) s.result s.flies))
    ∙ put-parts ps qs met met i p s.result low within same most (λ k below off. refl)

pub passenger-renewed : (ps : List (Option Passenger)) (qs : List (Option Packet)) (riding flying met i : ℕ) (p : Passenger) →
    AreParts ps qs riding flying met → 0 < i → i ≤ length ps →
    all_cells (slice_set ps (i - 1) (Some p)) qs met ≡ changed (all_cells ps qs met) i (λ c. with_passenger c p)
passenger-renewed ps qs riding flying met i p h low within =
    let s = stood ps qs met i low within h.pipes in
    renew_put ps qs met i (Some p) s low within h.pipes h.most ∙ sym (changed_there (all_cells ps qs met) i _ (λ c. with_passenger c p) s.here)

-- what has met still has
still_cell : (o : Option Passenger) (q : Option Packet) (b : Bool) (p : Passenger) → IsCell (record { passenger = o; packet = q; met = b }) →
    IsCell (record { passenger = Some p; packet = q; met = b })
still_cell o q b p h = grind arith

pub renewed-parts : (ps : List (Option Passenger)) (qs : List (Option Packet)) (riding flying met i : ℕ) (p : Passenger) → AreParts ps qs riding flying met →
    0 < i → i ≤ length ps → IsSome (passenger_at (all_cells ps qs met) i) →
    AreParts (slice_set ps (i - 1) (Some p)) qs riding flying met
renewed-parts ps qs riding flying met i p h low within rides =
    let s = stood ps qs met i low within h.pipes in
    let n = length-cells 0 ps qs met h.pipes in
    let c : Cell = record { passenger = Some p; packet = s.result; met = has_bit met (i - 1) } in
    let cells = all_cells ps qs met in
    agree_put ps (slice_set ps (i - 1) (Some p)) qs qs riding flying met riding flying met i c h low within (length-set ps (i - 1) (Some p)) refl
    (renew_put ps qs met i (Some p) s low within h.pipes h.most)
    (still_cell s.rider s.result (has_bit met (i - 1)) p (cell-in cells i _ h.cells s.here))
    (bit_kept (λ d. is_some d.passenger) cells i riding _ c low (omega arith) (omega (arith, h.most)) s.here
    (sym (rides_there ps qs met i s rides)) h.passenger_bits)
    (bit_kept (λ d. is_some d.packet) cells i flying _ c low (omega arith) (omega (arith, h.most)) s.here refl h.packet_bits)
    (bit_kept (λ d. d.met) cells i met _ c low (omega arith) (omega (arith, h.most)) s.here refl h.met_bits)

pub ruleset coming_and_going = (passenger-placed, passenger-parts)

pub ruleset replacing = (packet-placed, packet-parts)

-- what was read of a stage
pub at_index : {A : Type 0} (xs : List A) (k : ℕ) (x : A) → k < length xs → x ≡ slice_index_or xs k x → slice_get xs k ≡ Some x
at_index xs k x within e = slice_get-get_or xs k x within ∙ ap Some (sym e)

pub cell-read : (ps : List (Option Passenger)) (qs : List (Option Packet)) (riding flying met i : ℕ) (p : Option Passenger) (q : Option Packet) (b : Bool) →
    AreParts ps qs riding flying met → 0 < i → i ≤ length ps →
    p ≡ slice_index_or ps (i - 1) p → q ≡ slice_index_or qs (i - 1) q → b ≡ has_bit met (i - 1) →
    Some (record { passenger = p; packet = q; met = b }) ≡ cell_at (all_cells ps qs met) i
cell-read ps qs riding flying met i p q b h low within e f is =
    rw is (sym (cell-parts ps qs met i p q low (at_index ps (i - 1) p (omega arith) e) (at_index qs (i - 1) q (omega (arith, h.pipes)) f)))

pub cell-has : (ps : List (Option Passenger)) (qs : List (Option Packet)) (riding flying met i : ℕ) (p : Option Passenger) (q : Option Packet) (b : Bool) →
    AreParts ps qs riding flying met → 0 < i → i ≤ length ps →
    p ≡ slice_index_or ps (i - 1) p → q ≡ slice_index_or qs (i - 1) q → b ≡ has_bit met (i - 1) → IsCell (record { passenger = p; packet = q; met = b })
cell-has ps qs riding flying met i p q b h low within e f is = cell-in (all_cells ps qs met) i _ h.cells
    (sym (cell-read ps qs riding flying met i p q b h low within e f is))

pub passenger-read : (ps : List (Option Passenger)) (qs : List (Option Packet)) (riding flying met i : ℕ) (p : Option Passenger) →
    AreParts ps qs riding flying met → 0 < i → i ≤ length ps →
    p ≡ slice_index_or ps (i - 1) p → p ≡ passenger_at (all_cells ps qs met) i
passenger-read ps qs riding flying met i p h low within e =
    let s = stood ps qs met i low within h.pipes in
    let a : Some p ≡ Some s.rider = sym (at_index ps (i - 1) p (omega arith) e) ∙ s.rides in
    let b : p ≡ s.rider = cc in
    b ∙ sym (ap (λ (o : Option Cell). on o None (λ c. c.passenger)) s.here)

-- the entry of a stage with an instruction has it
pub rider-there : (ps : List (Option Passenger)) (qs : List (Option Packet)) (riding flying met i : ℕ) → AreParts ps qs riding flying met →
    0 < i → i ≤ length ps → IsSome (passenger_at (all_cells ps qs met) i) → IsSome (slice_index_or ps (i - 1) None)
rider-there ps qs riding flying met i h low within there =
    let s = stood ps qs met i low within h.pipes in
    let a : Some (slice_index_or ps (i - 1) None) ≡ Some s.rider = sym (slice_get-get_or ps (i - 1) None (omega arith)) ∙ s.rides in
    let b : slice_index_or ps (i - 1) None ≡ s.rider = cc in
    subst (λ (o : Option Passenger). IsSome o) (ap (λ (o : Option Cell). on o None (λ c. c.passenger)) s.here ∙ sym b) there

pub packet-read : (ps : List (Option Passenger)) (qs : List (Option Packet)) (riding flying met i : ℕ) (q : Option Packet) → AreParts ps qs riding flying met →
    0 < i → i ≤ length ps →
    q ≡ slice_index_or qs (i - 1) q → q ≡ packet_at (all_cells ps qs met) i
packet-read ps qs riding flying met i q h low within e =
    let s = stood ps qs met i low within h.pipes in
    let a : Some q ≡ Some s.result = sym (at_index qs (i - 1) q (omega (arith, h.pipes)) e) ∙ s.flies in
    let b : q ≡ s.result = cc in
    b ∙ sym (ap (λ (o : Option Cell). on o None (λ c. c.packet)) s.here)

pub met-read : (ps : List (Option Passenger)) (qs : List (Option Packet)) (riding flying met i : ℕ) (b : Bool) → AreParts ps qs riding flying met → 0 < i →
    i ≤ length ps →
    b ≡ has_bit met (i - 1) → b ≡ has_met_at (all_cells ps qs met) i
met-read ps qs riding flying met i b h low within is =
    let s = stood ps qs met i low within h.pipes in
    is ∙ sym (ap (λ (o : Option Cell). on o false (λ c. c.met)) s.here)

-- there are as many stages as entries in each pipe
pub count-read : (ps : List (Option Passenger)) (qs : List (Option Packet)) (riding flying met : ℕ) → AreParts ps qs riding flying met →
    length (all_cells ps qs met) ≡ length ps
count-read ps qs riding flying met h = length-cells 0 ps qs met h.pipes

pub few-read : (ps : List (Option Passenger)) (qs : List (Option Packet)) (riding flying met : ℕ) → AreParts ps qs riding flying met →
    length (all_cells ps qs met) ≤ 32
few-read ps qs riding flying met h = let n = length-cells 0 ps qs met h.pipes in omega (arith, h.most)

pub least-read : (ps : List (Option Passenger)) (qs : List (Option Packet)) (riding flying met : ℕ) → AreParts ps qs riding flying met →
    2 ≤ length (all_cells ps qs met)
least-read ps qs riding flying met h = let n = length-cells 0 ps qs met h.pipes in omega (arith, h.least)

pub pipes-read : (ps : List (Option Passenger)) (qs : List (Option Packet)) (riding flying met : ℕ) → AreParts ps qs riding flying met →
    length (all_cells ps qs met) ≡ length qs
pipes-read ps qs riding flying met h = length-cells 0 ps qs met h.pipes ∙ sym h.pipes

-- the stage of an instruction exists
pub stage-ridden : (cells : List Cell) (i : ℕ) → IsSome (passenger_at cells i) → (0 < i) × (i ≤ length cells)
stage-ridden cells i rides = by (cell_at cells i) refl rides
  where
    by : (o : Option Cell) → cell_at cells i ≡ o → IsSome (on o None (λ c. c.passenger)) → (0 < i) × (i ≤ length cells)
    by None here rides = absurd (cc)
    by (Some c) here rides = (stage-low cells i c here, stage-high cells i c here)

-- a stage of those that are seen has its entry in each pipe
pub within-pipe : (ps : List (Option Passenger)) (qs : List (Option Packet)) (riding flying met i : ℕ) (now : List Cell) → AreParts ps qs riding flying met →
    all_cells ps qs met ≡ now → i ≤ length now → i ≤ length ps
within-pipe ps qs riding flying met i now h e within = let n = length-cells 0 ps qs met h.pipes in let m = ap length e in omega arith

pub ruleset counting = (count-read, pipes-read, least-read, few-read)

pub ruleset reading = (count-read, pipes-read, few-read, cell-read, cell-has, passenger-read, packet-read, met-read)
