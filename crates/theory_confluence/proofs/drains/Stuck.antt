-- A sound state in which no move but Issue is allowed is drained.
use Rattle.std.proofs.Common.{◌≡◌, ◌≢◌, ℕ, zero, suc, ◌+◌, ◌-◌, List, [], ◌∷◌, ◌++◌, Option, Some, None, Bool, true, false, ◌&&◌, ◌||◌, not, refl, sym, ap, subst, ◌∙◌, arith, add-one, sub-one, ◌⊎◌, inl, inr}
use Rattle.std.specs.Prelude.{slice_get}
use Rattle.cf_bind.specs.declared.binding.Binding.{Binding}
use Rattle.cf_bind.specs.declared.cell.Cell.{Cell}
use Rattle.cf_bind.specs.declared.cell.Op.{Op}
use Rattle.cf_bind.specs.declared.moves.Move.{Move}
use Rattle.cf_bind.specs.declared.moves.Move.TheVariants.{Exit, Fall, Meet, Slide}
use Rattle.cf_bind.specs.declared.packet.Packet.{Packet}
use Rattle.cf_bind.specs.declared.passenger.Passenger.{Passenger}
use Rattle.cf_layout.specs.Layout.{Plan}
use Rattle.cf_semantics.specs.moves.Bars.{bar, climb_bar, emit_bar, exit_bar, fall_bar, last_op, leave_bar, meet_bar, row_bar, send_bar, stops_at}
use Rattle.cf_semantics.specs.state.Column.{Item, Up, column_from, items, passenger_in}
use Rattle.cf_semantics.specs.state.Passengers.{missing}
use Rattle.cf_semantics.specs.state.State.{State, cell_at, siding_at}
use Rattle.cf_semantics.specs.claims.Weight.{is_issue}
use Rattle.cf_semantics.specs.claims.Soundness.{as_launched, operations_in}
use Rattle.theory_refinement.proofs.invariant.Sure as sure

-- only the row bars
pub bar_is : (l : Plan) (s : State) (m : Move) → s.ending ≡ None → s.failed ≡ false → bar l s m ≡ row_bar l s m
unfolding bar
bar_is l s m e f = rw (e, f) refl

-- results, from the lowest stage up
lowest : (c : Cell) → meet_bar c ≢ None → exit_bar c ≢ None → c.packet ≡ None
lowest c m e = go c.packet refl
  where
    go : (o : Option Packet) → c.packet ≡ o → c.packet ≡ None
    go None f = f
    go (Some k) f = absurd (grind (arith, m, e))

higher : (c d : Cell) → d.packet ≡ None → meet_bar c ≢ None → fall_bar c (Some d) ≢ None → c.packet ≡ None
higher c d n m f = go c.packet refl
  where
    go : (o : Option Packet) → c.packet ≡ o → c.packet ≡ None
    go None e = e
    go (Some k) e = absurd (grind (arith, m, f))

cell_below : (cells : List Cell) (k : ℕ) (c : Cell) → cell_at cells (suc (suc k)) ≡ Some c → (d : Cell) × (cell_at cells (suc k) ≡ Some d)
cell_below [] k c e = absurd (cc)
cell_below (x ∷ cells) zero c e = (x, refl)
cell_below (x ∷ []) (suc k) c e = absurd (cc)
cell_below (x ∷ y ∷ cells) (suc k) c e = cell_below (y ∷ cells) k c e

row_meet : (l : Plan) (s : State) (i : ℕ) (c : Cell) → cell_at s.cells i ≡ Some c → row_bar l s (Meet i) ≡ meet_bar c
row_meet l s i c e = rw e refl

row_exit : (l : Plan) (s : State) (c : Cell) → cell_at s.cells 1 ≡ Some c → row_bar l s Exit ≡ exit_bar c
row_exit l s c e = rw e refl

row_fall : (l : Plan) (s : State) (i : ℕ) (c d : Cell) → cell_at s.cells (suc i) ≡ Some c → cell_at s.cells i ≡ Some d →
    row_bar l s (Fall (suc i)) ≡ fall_bar c (Some d)
row_fall l s i c d e f = let g : cell_at s.cells (suc i - 1) ≡ Some d = rw sub-one f in rw (e, g) refl

-- what is not allowed, by the row
pub record Barred (l : Plan) (s : State) : Type 0 where
  pub row : (m : Move) → is_issue m ≡ false → row_bar l s m ≢ None

pub no_packet : (l : Plan) (s : State) → Barred l s → (i : ℕ) (c : Cell) → cell_at s.cells (suc i) ≡ Some c → c.packet ≡ None
no_packet l s h zero c e = lowest c (λ z. h.row (Meet 1) refl (row_meet l s 1 c e ∙ z)) (λ z. h.row Exit refl (row_exit l s c e ∙ z))
no_packet l s h (suc i) c e =
    let b = cell_below s.cells i c e in
    higher c b.0 (no_packet l s h i b.0 b.1) (λ z. h.row (Meet (suc (suc i))) refl (row_meet l s (suc (suc i)) c e ∙ z))
    (λ z. h.row (Fall (suc (suc i))) refl (row_fall l s (suc i) c b.0 e b.1 ∙ z))

-- the topmost instruction
pub record Head (i : ℕ) (cells : List Cell) : Type 0 where
  pub k : ℕ
  pub here : Cell
  pub who : Passenger
  pub rest : List Item
  pub at_here : slice_get cells k ≡ Some here
  pub sits : here.passenger ≡ Some who
  pub was : column_from i cells ≡ Up (i + k) who ∷ rest
  pub clear : (d : Cell) → slice_get cells (suc k) ≡ Some d → d.passenger ≡ None

bare_items : (i : ℕ) (c : Cell) → c.packet ≡ None → items i c ≡ passenger_in i c.passenger
bare_items i c e = grind arith

pub first_clear : (i : ℕ) (cs : List Cell) → column_from i cs ≡ [] → (d : Cell) → slice_get cs 0 ≡ Some d → d.passenger ≡ None
first_clear i [] e d f = absurd (cc)
first_clear i (c ∷ cs) e d f =
    let z : c ≡ d = cc in
    subst (λ (y : Cell). y.passenger ≡ None) z (nobody c (back (column_from (suc i) cs) (items i c) e))
  where
    back : (a b : List Item) → a ++ b ≡ [] → b ≡ []
    back [] b e = e
    back (x ∷ a) b e = absurd (cc)

    nobody : (c : Cell) → items i c ≡ [] → c.passenger ≡ None
    nobody c e = grind arith

pub top_of : (i : ℕ) (cells : List Cell) → ((k : ℕ) (c : Cell) → slice_get cells k ≡ Some c → c.packet ≡ None) → (column_from i cells ≡ []) ⊎ Head i cells
top_of i [] f = inl refl
top_of i (c ∷ cs) f = go (top_of (suc i) cs (λ k d e. f (suc k) d e)) c.passenger refl
  where
    go : (column_from (suc i) cs ≡ []) ⊎ Head (suc i) cs → (o : Option Passenger) → c.passenger ≡ o → (column_from i (c ∷ cs) ≡ []) ⊎ Head i (c ∷ cs)
    go (inl e) None g = inl (rw e (bare_items i c (f 0 c refl) ∙ ap (passenger_in i) g))
    go (inl e) (Some p) g =
        let z : i + 0 ≡ i = omega arith in
        inr (record {
          k = 0;
          here = c;
          who = p;
          rest = [];
          at_here = refl;
          sits = g;
          was = ap (λ (q : List Item). q ++ items i c) e
              ∙ bare_items i c (f 0 c refl) ∙ ap (passenger_in i) g ∙ ap (λ (j : ℕ). Up j p ∷ []) (sym z);
          clear = λ d y. first_clear (suc i) cs e d y;
        })
    go (inr h) o g =
        let z : suc i + h.k ≡ i + suc h.k = omega arith in
        inr (record {
          k = suc h.k;
          here = h.here;
          who = h.who;
          rest = h.rest ++ items i c;
          at_here = h.at_here;
          sits = h.sits;
          was =
              ap (λ (q : List Item). q ++ items i c) h.was ∙ ap (λ (j : ℕ). Up j h.who ∷ (h.rest ++ items i c)) z;
          clear = h.clear;
        })

-- bars of the topmost instruction's moves
pub known : (o : Option Binding) (coming : ℕ → Bool) → ((r : ℕ) → coming r ≡ false) → sure.Comes o coming → missing o ≡ None
known o coming f h = go (missing o) refl
  where
    go : (m : Option ℕ) → missing o ≡ m → missing o ≡ None
    go None e = e
    go (Some r) e = absurd (let z = sym (f r) ∙ h r e in cc)

pub owes_none : (c : Cell) (p : Passenger) → c.passenger ≡ Some p → c.packet ≡ None → send_bar c ≢ None → p.owes ≡ None
owes_none c p e f n = go p.owes refl
  where
    go : (o : Option Packet) → p.owes ≡ o → p.owes ≡ None
    go None k = k
    go (Some q) k = absurd (n (grind arith))

pub lane_none : (q : List ℕ) (c : Cell) → c.packet ≡ None → emit_bar q c ≢ None → q ≡ []
lane_none [] c e n = refl
lane_none (r ∷ q) c e n = absurd (n (grind arith))

-- an instruction that cannot go on is launched and not recovered, or live, not done and not launched
pub record Held (p : Passenger) : Type 0 where
  pub how : ((p.launched ≡ true) × (p.recovered ≡ false)) ⊎ ((p.dead ≡ false) × (p.done ≡ false) × (p.launched ≡ false))

pub held_top : (c : Cell) (p : Passenger) → c.passenger ≡ Some p → c.packet ≡ None → p.owes ≡ None → leave_bar c ≢ None →
    ((p.launched && not p.recovered) || (not p.dead && not p.done)) ≡ true
held_top c p e f o n = go ((p.launched && not p.recovered) || (not p.dead && not p.done)) refl
  where
    go : (b : Bool) → ((p.launched && not p.recovered) || (not p.dead && not p.done)) ≡ b →
        ((p.launched && not p.recovered) || (not p.dead && not p.done)) ≡ true
    go true k = k
    go false k = absurd (n (grind arith))

pub stops_here : (l : Plan) (c d : Cell) (p : Passenger) (i : ℕ) → c.passenger ≡ Some p → c.packet ≡ None → p.owes ≡ None → d.passenger ≡ None →
    climb_bar l c i (Some d) ≢ None → stops_at l p i ≡ true
stops_here l c d p i e f o g n = go (stops_at l p i) refl
  where
    go : (b : Bool) → stops_at l p i ≡ b → stops_at l p i ≡ true
    go true k = k
    go false k = absurd (n (grind arith))

-- an operation that could go on in its siding
pub record Slides (q : List (Option Op)) : Type 0 where
  pub c : ℕ
  pub op : Op
  pub here : slice_get q c ≡ Some (Some op)
  pub there : slice_get q (suc c) ≡ Some None

pub slides : (q : List (Option Op)) → operations_in q ≢ [] → last_op q ≡ None → Slides q
slides [] n e = absurd (n refl)
slides (o ∷ []) n e = absurd (n (ap as_launched e))
slides (Some op ∷ None ∷ q) n e = record { c = 0; op = op; here = refl; there = refl }
slides (None ∷ p ∷ q) n e =
    let r = slides (p ∷ q) (λ z. n (empty (operations_in (p ∷ q)) z)) e in
    record { c = suc r.c; op = r.op; here = r.here; there = r.there }
  where
    empty : (a : List Op) → a ≡ [] → a ++ [] ≡ []
    empty a z = rw z refl
slides (Some op ∷ Some o ∷ q) n e =
    let r = slides (Some o ∷ q) (λ z. full (operations_in q) z) e in
    record { c = suc r.c; op = r.op; here = r.here; there = r.there }
  where
    full : (a : List Op) → a ++ (record o { answer = None } ∷ []) ≡ [] → ⊥
    full [] z = cc
    full (x ∷ a) z = cc

pub row_slide : (l : Plan) (s : State) (k c : ℕ) (op : Op) → slice_get (siding_at s k) c ≡ Some (Some op) → slice_get (siding_at s k) (suc c) ≡ Some None →
    row_bar l s (Slide k c) ≡ None
row_slide l s k c op e f = rw (add-one, f, e) refl
