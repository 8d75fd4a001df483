-- Memory order at Launch: what is above a live instruction at Memory's launch stage.
use Rattle.std.proofs.Common.{◌≡◌, ℕ, suc, ◌<◌, ◌≤◌, List, [], ◌∷◌, ◌++◌, Option, Some, None, Bool, true, false, refl, sym, subst, ◌∙◌, arith}
use Rattle.cf_bind.specs.declared.cell.Cell.{Cell}
use Rattle.cf_bind.specs.declared.packet.Packet.{Packet}
use Rattle.cf_bind.specs.declared.passenger.Passenger.{Passenger}
use Rattle.cf_layout.specs.Layout.{Plan, launch_stage, siding_of}
use Rattle.theory_refinement.proofs.invariant.Stands.{Each, Stands}
use Rattle.theory_refinement.proofs.invariant.Suited.{Suits}
use Rattle.cf_semantics.specs.state.Column.{Down, Item, Up, column_from, in_order, items, packet_in, passenger_in}
use Rattle.cf_layout.specs.Accepted.{is_control}
use Rattle.cf_semantics.specs.moves.Instructions.{is_serial}
use Rattle.cf_semantics.specs.state.Layouts.{isa_of, port}
use Rattle.cf_semantics.specs.state.Options.{is_some}
use Rattle.cf_semantics.specs.state.Passengers.{kind}
use Rattle.cf_semantics.specs.claims.Walks.{Everywhere, walk}
use Rattle.rv_inst.specs.declared.isa.Isa.{Isa}
use Rattle.theory_refinement.proofs.invariant.Port as dock
use Rattle.theory_refinement.proofs.invariant.Lone as lone
use Rattle.theory_refinement.proofs.invariant.Sure as sure
use Rattle.cf_semantics.specs.claims.Path as trail
use Rattle.cf_semantics.specs.claims.Soundness.{is_lone, steers}

-- each item is at a stage from n on
abbrev pub From : ℕ → List Item → Type 0
From n [] = Unit {0}
From n (Up i p ∷ xs) = (n ≤ i) × From n xs
From n (Down i k ∷ xs) = (n ≤ i) × From n xs

from_append : (n : ℕ) (xs ys : List Item) → From n xs → From n ys → From n (xs ++ ys)
from_append n [] ys a b = b
from_append n (Up i p ∷ xs) ys a b = (a.0, from_append n xs ys a.1 b)
from_append n (Down i k ∷ xs) ys a b = (a.0, from_append n xs ys a.1 b)

from_items : (n i : ℕ) (m : Bool) (p : Option Passenger) (k : Option Packet) → n ≤ i → From n (in_order m (passenger_in i p) (packet_in i k))
from_items n i true None None h = tt
from_items n i true None (Some k) h = (h, tt)
from_items n i true (Some p) None h = (h, tt)
from_items n i true (Some p) (Some k) h = (h, (h, tt))
from_items n i false None None h = tt
from_items n i false None (Some k) h = (h, tt)
from_items n i false (Some p) None h = (h, tt)
from_items n i false (Some p) (Some k) h = (h, (h, tt))

pub from_column : (n i : ℕ) (cells : List Cell) → n ≤ i → From n (column_from i cells)
from_column n i [] h = tt
from_column n i (c ∷ cs) h = from_append n (column_from (suc i) cs) (items i c) (from_column n (suc i) cs (omega arith))
    (from_items n i c.met c.passenger c.packet h)

pub past_open : (l : Plan) (i : Item) (b : Bool) → lone.past l i b ≡ false → b ≡ false
unfolding lone.past
past_open l i b e = grind arith

pub walk_open : (l : Plan) (xs : List Item) (b : Bool) → walk (lone.past l) xs b ≡ false → b ≡ false
walk_open l [] b e = e
walk_open l (i ∷ xs) b e = past_open l i b (walk_open l xs (lone.past l i b) e)

pub open_rider : (l : Plan) (i : ℕ) (p : Passenger) (b : Bool) → launch_stage l (port l) < i → lone.past l (Up i p) b ≡ false →
    (is_lone p ≡ false) × (trail.turns p.owes ≡ false)
unfolding lone.past
open_rider l i p b n e = grind arith

pub open_packet : (l : Plan) (i : ℕ) (k : Packet) (b : Bool) → launch_stage l (port l) < i → lone.past l (Down i k) b ≡ false → trail.turns (Some k) ≡ false
unfolding lone.past
open_packet l i k b n e = grind arith

-- after the point from which the program goes nowhere, no instruction is sure
pub nowhere_rider : (isa : Isa) (i : ℕ) (p : Passenger) (w : trail.Walk) → w.barred ≡ false → w.goto ≡ None → sure.Fits isa (Up i p) w →
    trail.past isa (Up i p) w ≡ w
unfolding sure.Fits trail.past sure.SureAt
nowhere_rider isa i p w b g h = grind arith

pub nowhere_packet : (isa : Isa) (i : ℕ) (k : Packet) (w : trail.Walk) → trail.turns (Some k) ≡ false →
    ((trail.past isa (Down i k) w).barred ≡ w.barred) × ((trail.past isa (Down i k) w).goto ≡ w.goto)
unfolding trail.past
nowhere_packet isa i k w e = grind arith

nowhere : (l : Plan) (xs : List Item) (w : trail.Walk) (b : Bool) → From (suc (launch_stage l (port l))) xs →
    Everywhere (sure.Fits (isa_of l)) (trail.past (isa_of l)) xs w → walk (lone.past l) xs b ≡ false → w.barred ≡ false → w.goto ≡ None →
    (walk (trail.past (isa_of l)) xs w).goto ≡ None
nowhere l [] w b f h o c g = g
nowhere l (Up i p ∷ xs) w b f h o c g =
    let e = nowhere_rider (isa_of l) i p w c g h.0 in
    subst (λ (v : trail.Walk). (walk (trail.past (isa_of l)) xs v).goto ≡ None) (sym e) (nowhere l xs w (lone.past l (Up i p) b) f.1
    (subst (λ (v : trail.Walk). Everywhere (sure.Fits (isa_of l)) (trail.past (isa_of l)) xs v) e h.1) o c g)
nowhere l (Down i k ∷ xs) w b f h o c g =
    let e = nowhere_packet (isa_of l) i k w (open_packet l i k b f.0 (walk_open l xs _ o)) in
    nowhere l xs (trail.past (isa_of l) (Down i k) w) (lone.past l (Down i k) b) f.1 h.1 o (e.0 ∙ c) (e.1 ∙ g)

-- no live branch, jump or environment call that is not done is above Memory's launch stage
steady : (l : Plan) (i : ℕ) (p : Passenger) → Suits l → launch_stage l (port l) < i → Stands l i p → is_lone p ≡ false → p.dead ≡ false → p.done ≡ false →
    steers (kind p) ≡ false
steady l i p acc n h o d u = go (is_control (kind p)) (is_serial (kind p)) refl refl
  where
    far : (k : Option ℕ) → siding_of l (kind p) ≡ k → is_control (kind p) ≡ true → (b c : Bool) → p.launched ≡ b → p.recovered ≡ c → ⊥
    far None e a false c f g = let w = rw e at (h.low d u f) in let m = acc.control_last (kind p) a e in omega arith
    far (Some k) e a false c f g = let w = rw e at (h.low d u f) in let m = acc.control_siding (kind p) k a e in let q = acc.order (kind p) k e in omega arith
    far None e a true false f g = let w = rw e at (h.out f g) in w
    far (Some k) e a true false f g = let w = rw e at (h.out f g) in let m = acc.control_siding (kind p) k a e in omega (arith, w.1)
    far k e a true true f g = let w = h.back_done g d in absurd (cc)

    go : (a b : Bool) → is_control (kind p) ≡ a → is_serial (kind p) ≡ b → steers (kind p) ≡ false
    go true b e f = absurd (far (siding_of l (kind p)) refl e p.launched p.recovered refl refl)
    go false true e f = absurd (grind arith)
    go false false e f = grind arith

-- what is known once an instruction is passed
calm_rider : (isa : Isa) (i : ℕ) (p : Passenger) (w : dock.Dock) → w.path.barred ≡ false → w.risky ≡ false → trail.turns p.owes ≡ false →
    (p.dead ≡ false → p.done ≡ false → steers (kind p) ≡ false) → (p.dead ≡ false → is_some p.ending ≡ false) →
    ((dock.past isa (Up i p) w).path.barred ≡ false) × ((dock.past isa (Up i p) w).risky ≡ false)
unfolding dock.past trail.past
calm_rider isa i p w b r t s e = grind arith

ended_goto : (isa : Isa) (i : ℕ) (p : Passenger) (w : trail.Walk) → p.dead ≡ false → w.barred ≡ false → p.done ≡ true → is_some p.ending ≡ true →
    trail.turns p.owes ≡ false → ((trail.past isa (Up i p) w).goto ≡ None) × ((trail.past isa (Up i p) w).barred ≡ false)
unfolding trail.past
ended_goto isa i p w d b u e t = grind arith

ended_done : (l : Plan) (i : ℕ) (p : Passenger) → Stands l i p → is_some p.ending ≡ true → p.done ≡ true
ended_done l i p h e = go p.done refl
  where
    go : (b : Bool) → p.done ≡ b → p.done ≡ true
    go true d = d
    go false d = let n = h.unended d in absurd (cc)

pub past_path : (isa : Isa) (i : Item) (w : dock.Dock) → (dock.past isa i w).path ≡ trail.past isa i w.path
unfolding dock.past
past_path isa (Up i p) w = refl
past_path isa (Down i k) w = refl

calm_packet : (isa : Isa) (i : ℕ) (k : Packet) (w : dock.Dock) → w.path.barred ≡ false → w.risky ≡ false → trail.turns (Some k) ≡ false →
    ((dock.past isa (Down i k) w).path.barred ≡ false) × ((dock.past isa (Down i k) w).risky ≡ false)
unfolding dock.past trail.past
calm_packet isa i k w b r t = grind arith

-- part (j), at Launch: above a live instruction with nothing shut above it, nothing is risky
pub calm : (l : Plan) (xs : List Item) (w : dock.Dock) (b : Bool) (pc : ℕ) → Suits l → From (suc (launch_stage l (port l))) xs → Each l xs →
    Everywhere (sure.Fits (isa_of l)) (trail.past (isa_of l)) xs w.path → walk (lone.past l) xs b ≡ false →
    (walk (trail.past (isa_of l)) xs w.path).goto ≡ Some pc → w.path.barred ≡ false → w.risky ≡ false →
    ((walk (dock.past (isa_of l)) xs w).path.barred ≡ false) × ((walk (dock.past (isa_of l)) xs w).risky ≡ false)
calm l [] w b pc acc f s h o g c r = (c, r)
calm l (Up i p ∷ xs) w b pc acc f s h o g c r =
    let op = open_rider l i p b f.0 (walk_open l xs _ o) in
    let live : p.dead ≡ false → is_some p.ending ≡ false = λ d. go (is_some p.ending) refl d op.1 in
    let k = calm_rider (isa_of l) i p w c r op.1 (λ d u. steady l i p acc f.0 s.0 op.0 d u) live in
    let e = past_path (isa_of l) (Up i p) w in
    calm l xs (dock.past (isa_of l) (Up i p) w) (lone.past l (Up i p) b) pc acc f.1 s.1 (rw e h.1) o (rw e g) k.0 k.1
  where
    go : (q : Bool) → is_some p.ending ≡ q → p.dead ≡ false → trail.turns p.owes ≡ false → is_some p.ending ≡ false
    go false e d t = e
    go true e d t =
        let n = ended_goto (isa_of l) i p w.path d c (ended_done l i p s.0 e) e t in
        let z = nowhere l xs (trail.past (isa_of l) (Up i p) w.path) (lone.past l (Up i p) b) f.1 h.1 o n.1 n.0 in
        absurd (none_some pc (sym z ∙ g))
      where
        none_some : (a : ℕ) → None ≡ Some a → ⊥
        none_some a e = cc
calm l (Down i k ∷ xs) w b pc acc f s h o g c r =
    let t = open_packet l i k b f.0 (walk_open l xs _ o) in
    let q = calm_packet (isa_of l) i k w c r t in
    let e = past_path (isa_of l) (Down i k) w in
    calm l xs (dock.past (isa_of l) (Down i k) w) (lone.past l (Down i k) b) pc acc f.1 s (rw e h.1) o (rw e g) q.0 q.1
