-- From the invariant: values, path, first barrier and sources, parts (a), (b), (d) and (g) of soundness.
use Rattle.std.proofs.Common.{◌≡◌, ℕ, List, [], ◌∷◌, Option, Some, None, Bool, true, false, ◌||◌, ◌&&◌, ◌==◌, not, refl, sym, ap, subst, ◌∙◌, arith}
use Rattle.std.specs.List.{list_any}
use Rattle.rv_inst.specs.declared.isa.Isa.{Isa}
use Rattle.rv_machine.specs.Machine.{Machine}
use Rattle.cf_layout.specs.Layout.{Plan}
use Rattle.cf_bind.specs.declared.packet.Packet.{Packet}
use Rattle.cf_bind.specs.declared.packet.Packet.TheVariants.{Value, Turn, Halt}
use Rattle.cf_bind.specs.declared.passenger.End.{End}
use Rattle.cf_bind.specs.declared.passenger.Passenger.{Passenger}
use Rattle.cf_semantics.specs.state.Column.{Down, Item, Up}
use Rattle.cf_semantics.specs.moves.Instructions.{after_step, fetched, step_at}
use Rattle.cf_semantics.specs.state.Layouts.{isa_of}
use Rattle.cf_semantics.specs.state.Options.{When, is_some}
use Rattle.cf_semantics.specs.state.Passengers.{goto}
use Rattle.cf_semantics.specs.claims.Path as trail
use Rattle.cf_semantics.specs.claims.Path.{Walk, has_reg, is_sure, is_trap, turns}
use Rattle.cf_semantics.specs.state.Places.{known}
use Rattle.cf_semantics.specs.claims.Soundness.{FirstBarrier, HasValues, Holds, IsFirstBarrier, IsOnItsWay, IsPath, OwesValue, PacketHasValue, SourcesCome, Values, brings_value, owes_value}
use Rattle.cf_semantics.specs.state.State.{State}
use Rattle.cf_semantics.specs.claims.Walks.{Everywhere, walk}
use Rattle.theory_refinement.proofs.invariant.Invariant.{Sound}
use Rattle.theory_refinement.proofs.invariant.Sure as sure
use Rattle.theory_refinement.proofs.column.Change.{here}
use Rattle.theory_refinement.proofs.column.Fold.{fit_front}
use Rattle.theory_refinement.proofs.walks.Order.{nowhere_packet, nowhere_rider}

-- a claim under a test follows from a stronger one
pub under : {A B : Type 0} (b : Bool) → (A → B) → When b A → When b B
under true f a = f a
under false f a = tt

-- what is known of each instruction
pub certain : (isa : Isa) (i : ℕ) (p : Passenger) (w : Walk) → sure.Fits isa (Up i p) w → When (is_sure p w) (sure.SureAt isa p w)
unfolding sure.Fits
certain isa i p w h = h.1

fitting : (isa : Isa) (i : ℕ) (k : Packet) (w : Walk) → sure.Fits isa (Down i k) w → When (not w.barred) (sure.PacketFits k w)
unfolding sure.Fits
fitting isa i k w h = h

-- (a) values
has_values : (isa : Isa) (p : Passenger) (w : Walk) → sure.SureAt isa p w → HasValues p w.machine (step_at isa w.machine p.pc)
unfolding sure.SureAt
has_values isa p w h = h.0.values

packet_value : (k : Packet) (w : Walk) → sure.PacketFits k w → PacketHasValue k w
packet_value (Value r v) w h = h
packet_value (Turn pc) w h = tt
packet_value Halt w h = tt

pub values : {rest out : List ℕ} (plan : Plan) (s : State) (x : Machine) → Sound plan s rest out x → Values (isa_of plan) s x
values plan s x h = record {
  registers = h.regs;
  passengers = λ p.
      let w = known (isa_of plan) s x p.above in
      let k = here plan s x p.above (Up p.stage p.who ∷ []) p.below p.split h in
      under (is_sure p.who w) (has_values (isa_of plan) p.who w) (certain (isa_of plan) p.stage p.who w k.path_fit.0);
  packets = λ k.
      let w = known (isa_of plan) s x k.above in
      let q = here plan s x k.above (Down k.stage k.what ∷ []) k.below k.split h in
      under (not w.barred) (packet_value k.what w) (fitting (isa_of plan) k.stage k.what w q.path_fit.0);
}

-- (b) path
on_path : (isa : Isa) (p : Passenger) (w : Walk) → sure.SureAt isa p w → (w.goto ≡ Some p.pc) × Holds p (fetched isa w.machine.hart.mem p.pc)
unfolding sure.SureAt
on_path isa p w h = (h.0.path, h.0.reads)

pub path : {rest out : List ℕ} (plan : Plan) (s : State) (x : Machine) → Sound plan s rest out x → IsPath (isa_of plan) s x
path plan s x h p =
    let w = known (isa_of plan) s x p.above in
    let k = here plan s x p.above (Up p.stage p.who ∷ []) p.below p.split h in
    under (is_sure p.who w) (on_path (isa_of plan) p.who w) (certain (isa_of plan) p.stage p.who w k.path_fit.0)

-- (d) first barrier: if the last sure instruction is executed without ending the program, the program goes on at the
-- machine's address
Level : Walk → Type 0
Level w = w.barred ≡ false → w.settled ≡ true → w.goto ≡ Some w.machine.hart.pc

sure_level : (isa : Isa) (p : Passenger) (w : Walk) → sure.SureAt isa p w → (p.done && not (is_some p.ending)) ≡ true →
    goto p ≡ Some (after_step (step_at isa w.machine p.pc) w.machine).hart.pc
unfolding sure.SureAt
sure_level isa p w h s = go p.done p.ending refl refl
  where
    go : (b : Bool) (o : Option End) → p.done ≡ b → p.ending ≡ o → goto p ≡ Some (after_step (step_at isa w.machine p.pc) w.machine).hart.pc
    go true None e f = let n = h.0.values.next e f in rw (e, f) n
    go true (Some z) e f = absurd (let q = rw (e, f) at s in cc)
    go false o e f = absurd (let q = rw e at s in cc)

past_level : (isa : Isa) (i : Item) (w : Walk) → sure.Fits isa i w → Level w → Level (trail.past isa i w)
unfolding trail.past Level
past_level isa (Up i p) w f h = by (is_sure p w) (certain isa i p w f) h
  where
    by : (b : Bool) → When b (sure.SureAt isa p w) → (w.barred ≡ false → w.settled ≡ true → w.goto ≡ Some w.machine.hart.pc) →
        (trail.past_passenger isa b p w).barred ≡ false → (trail.past_passenger isa b p w).settled ≡ true →
        (trail.past_passenger isa b p w).goto ≡ Some (trail.past_passenger isa b p w).machine.hart.pc
    by true g h e s = sure_level isa p w g s
    by false g h e s = h e s
past_level isa (Down i (Value r v)) w f h = h
past_level isa (Down i (Turn pc)) w f h = λ e. absurd (cc)
past_level isa (Down i Halt) w f h = λ e. absurd (cc)

level : (isa : Isa) (xs : List Item) (w : Walk) → Everywhere (sure.Fits isa) (trail.past isa) xs w → Level w → Level (walk (trail.past isa) xs w)
level isa [] w f h = h
level isa (i ∷ xs) w f h = level isa xs (trail.past isa i w) f.1 (past_level isa i w f.0 h)

first_packet : (k : Packet) (w : Walk) → (w.settled ≡ true → w.goto ≡ Some w.machine.hart.pc) → sure.PacketFits k w →
    IsFirstBarrier k w.machine w.settled w.trapped
first_packet (Value r v) w g h = tt
first_packet (Turn pc) w g h = (same pc w.machine.hart.pc (sym h.0 ∙ g h.1), h.1)
  where
    same : (a b : ℕ) → Some a ≡ Some b → a ≡ b
    same a b e = cc
first_packet Halt w g h = h.1

first_owed : (isa : Isa) (p : Passenger) (w : Walk) (k : Packet) → p.owes ≡ Some k → sure.SureAt isa p w →
    IsFirstBarrier k (after_step (step_at isa w.machine p.pc) w.machine) (p.done && not (is_some p.ending)) (is_trap p.ending)
unfolding sure.SureAt
first_owed isa p w k e h = by k e (subst (λ (o : Option Packet). sure.Owed o p.next p.ending) e h.0.owed)
  where
    done : (b : Bool) → p.done ≡ b → p.done ≡ true
    done true d = d
    done false d = absurd (let z = h.0.unowing d in cc)

    by : (k : Packet) → p.owes ≡ Some k → sure.Owed (Some k) p.next p.ending → IsFirstBarrier k (after_step (step_at isa w.machine p.pc) w.machine) (p.done
        && not (is_some p.ending)) (is_trap p.ending)
    by (Value r v) e o = tt
    by (Turn pc) e o =
        let d = done p.done refl in
        let n = h.0.values.next d o.1 in
        (same pc (after_step (step_at isa w.machine p.pc) w.machine).hart.pc (sym o.0 ∙ n), rw (d, o.1) refl)
      where
        same : (a b : ℕ) → Some a ≡ Some b → a ≡ b
        same a b e = cc
    by Halt e o = o

pub first_barrier : {rest out : List ℕ} (plan : Plan) (s : State) (x : Machine) → Sound plan s rest out x → FirstBarrier (isa_of plan) s x
unfolding Level
first_barrier plan s x h = record {
  lying = λ k.
      let w = known (isa_of plan) s x k.above in
      let q = here plan s x k.above (Down k.stage k.what ∷ []) k.below k.split h in
      let above = fit_front _ (sure.Fits (isa_of plan)) (trail.past (isa_of plan)) k.above (Down k.stage k.what ∷ k.below) _ (rw k.split at h.path_fit) in
      let even = level (isa_of plan) k.above (trail.top s x) above (λ _ _. refl) in
      lying w.barred k.what w refl even (fitting (isa_of plan) k.stage k.what w q.path_fit.0);
  owed = λ p k e.
      let w = known (isa_of plan) s x p.above in
      let q = here plan s x p.above (Up p.stage p.who ∷ []) p.below p.split h in
      under (is_sure p.who w) (first_owed (isa_of plan) p.who w k e) (certain (isa_of plan) p.stage p.who w q.path_fit.0);
}
  where
    lying : (b : Bool) (k : Packet) (w : Walk) → w.barred ≡ b → Level w → When (not b) (sure.PacketFits k w) →
        When (not b) (IsFirstBarrier k w.machine w.settled w.trapped)
    lying true k w e l h = tt
    lying false k w e l h = first_packet k w (l e) h

-- (g) sources: after an end no instruction is sure, so a value that comes is from an item without an ending
open_past : (isa : Isa) (i : Item) (w : Walk) → (trail.past isa i w).barred ≡ false → w.barred ≡ false
unfolding trail.past
open_past isa i w e = grind arith

open_walk : (isa : Isa) (xs : List Item) (w : Walk) → (walk (trail.past isa) xs w).barred ≡ false → w.barred ≡ false
open_walk isa [] w e = e
open_walk isa (i ∷ xs) w e = open_past isa i w (open_walk isa xs (trail.past isa i w) e)

packet_open : (isa : Isa) (i : ℕ) (k : Packet) (w : Walk) → (trail.past isa (Down i k) w).barred ≡ false → turns (Some k) ≡ false
unfolding trail.past
packet_open isa i k w e = grind arith

nowhere : (isa : Isa) (xs : List Item) (w : Walk) → Everywhere (sure.Fits isa) (trail.past isa) xs w → w.goto ≡ None →
    (walk (trail.past isa) xs w).barred ≡ false → (walk (trail.past isa) xs w).goto ≡ None
nowhere isa [] w h g e = g
nowhere isa (Up i p ∷ xs) w h g e =
    let o = open_walk isa (Up i p ∷ xs) w e in
    let same = nowhere_rider isa i p w o g h.0 in
    let n = nowhere isa xs (trail.past isa (Up i p) w) h.1 (ap (λ (v : Walk). v.goto) same ∙ g) e in
    n
nowhere isa (Down i k ∷ xs) w h g e =
    let q = nowhere_packet isa i k w (packet_open isa i k w (open_walk isa xs _ e)) in
    nowhere isa xs (trail.past isa (Down i k) w) h.1 (q.1 ∙ g) e

-- the values that come from one item
from_packet : (isa : Isa) (i r : ℕ) (k : Packet) (w : Walk) (b : Bool) → ((trail.past isa (Down i k) w).coming r || b) ≡ true →
    (w.coming r || (brings_value r (Down i k) || b)) ≡ true
unfolding trail.past
from_packet isa i r k w b e = grind arith

from_rider : (isa : Isa) (i r : ℕ) (p : Passenger) (w : Walk) (b : Bool) → (is_sure p w ≡ true → is_some p.ending ≡ false) →
    (is_sure p w ≡ true → has_reg p.dst r ≡ true → is_some p.owes ≡ true → owes_value p.owes r ≡ true) → ((trail.past isa (Up i p) w).coming r || b) ≡ true →
    (w.coming r || (brings_value r (Up i p) || b)) ≡ true
unfolding trail.past
from_rider isa i r p w b s o e = grind arith

ended_nowhere : (isa : Isa) (i : ℕ) (p : Passenger) (w : Walk) → sure.Fits isa (Up i p) w → is_sure p w ≡ true → is_some p.ending ≡ true →
    (trail.past isa (Up i p) w).goto ≡ None
unfolding trail.past sure.Fits sure.SureAt
ended_nowhere isa i p w h s e = go p.done refl
  where
    known : When true (sure.IsSure isa p w.machine (step_at isa w.machine p.pc) w.goto × sure.IsSourced p w.coming)
    known = rw s at h.1

    go : (b : Bool) → p.done ≡ b → (trail.past_passenger isa (is_sure p w) p w).goto ≡ None
    go true d = grind arith
    go false d = absurd (let z = known.0.unended d in grind arith)

-- what a sure instruction owes, with no barrier, is its destination's value
barred_by : (isa : Isa) (i : ℕ) (p : Passenger) (w : Walk) → is_sure p w ≡ true → turns p.owes ≡ true → (trail.past isa (Up i p) w).barred ≡ true
unfolding trail.past
barred_by isa i p w s t = rw s t

owed_is : (isa : Isa) (i r : ℕ) (p : Passenger) (w : Walk) → sure.Fits isa (Up i p) w → (trail.past isa (Up i p) w).barred ≡ false → is_sure p w ≡ true →
    has_reg p.dst r ≡ true → is_some p.owes ≡ true → owes_value p.owes r ≡ true
unfolding sure.SureAt
owed_is isa i r p w h o s d e = by p.owes refl (rw s at (certain isa i p w h)).0.values.owed
  where
    value : (q v : ℕ) → p.dst ≡ Some (record { reg = q; value = Some v }) → (q == r) ≡ true
    value q v f = rw f at d

    barrier : turns p.owes ≡ true → ⊥
    barrier t = let z = barred_by isa i p w s t in cc

    by : (k : Option Packet) → p.owes ≡ k → OwesValue p.owes p.dst → owes_value k r ≡ true
    by None f g = absurd (cc)
    by (Some (Value q v)) f g = value q v (subst (λ (z : Option Packet). OwesValue z p.dst) f g)
    by (Some (Turn pc)) f g = absurd (barrier (rw f refl))
    by (Some Halt) f g = absurd (barrier (rw f refl))

comes : (isa : Isa) (r pc : ℕ) (xs : List Item) (w : Walk) → Everywhere (sure.Fits isa) (trail.past isa) xs w → (walk (trail.past isa) xs w).barred ≡ false →
    (walk (trail.past isa) xs w).goto ≡ Some pc → (walk (trail.past isa) xs w).coming r ≡ true → (w.coming r || list_any (brings_value r) xs) ≡ true
comes isa r pc [] w h o g e = rw e refl
comes isa r pc (Up i p ∷ xs) w h o g e =
    from_rider isa i r p w (list_any (brings_value r) xs) (λ s. unended (is_some p.ending) refl s)
    (owed_is isa i r p w h.0 (open_walk isa xs (trail.past isa (Up i p) w) o)) (comes isa r pc xs (trail.past isa (Up i p) w) h.1 o g e)
  where
    unended : (b : Bool) → is_some p.ending ≡ b → is_sure p w ≡ true → is_some p.ending ≡ false
    unended false f s = f
    unended true f s = absurd (let z = nowhere isa xs (trail.past isa (Up i p) w) h.1 (ended_nowhere isa i p w h.0 s f) o in cc)
comes isa r pc (Down i k ∷ xs) w h o g e = from_packet isa i r k w (list_any (brings_value r) xs) (comes isa r pc xs (trail.past isa (Down i k) w) h.1 o g e)

-- the sources that have no value
both_come : (isa : Isa) (s : State) (p : Passenger) (w : Walk) (above : List Item) → ((r : ℕ) → w.goto ≡ Some p.pc → w.coming r ≡ true →
    (trail.among r s.lane || list_any (brings_value r) above) ≡ true) → sure.SureAt isa p w → IsOnItsWay s above p.src1 × IsOnItsWay s above p.src2
unfolding sure.SureAt
both_come isa s p w above f h = (λ r e. f r h.0.path (h.1.source1 r e), λ r e. f r h.0.path (h.1.source2 r e))

pub sources : {rest out : List ℕ} (plan : Plan) (s : State) (x : Machine) → Sound plan s rest out x → SourcesCome (isa_of plan) s x
sources plan s x h p =
    let w = known (isa_of plan) s x p.above in
    let k = here plan s x p.above (Up p.stage p.who ∷ []) p.below p.split h in
    let above = fit_front _ (sure.Fits (isa_of plan)) (trail.past (isa_of plan)) p.above (Up p.stage p.who ∷ p.below) _ (rw p.split at h.path_fit) in
    by (is_sure p.who w) refl (λ o r g e. comes (isa_of plan) r p.who.pc p.above (trail.top s x) above o g e)
    (certain (isa_of plan) p.stage p.who w k.path_fit.0)
  where
    open' : (p : Passenger) (w : Walk) → is_sure p w ≡ true → w.barred ≡ false
    open' p w e = grind arith

    by : (b : Bool) → is_sure p.who (known (isa_of plan) s x p.above) ≡ b → ((known (isa_of plan) s x p.above).barred ≡ false → (r : ℕ) →
        (known (isa_of plan) s x p.above).goto ≡ Some p.who.pc → (known (isa_of plan) s x p.above).coming r ≡ true →
        (trail.among r s.lane || list_any (brings_value r) p.above) ≡ true) → When b (sure.SureAt (isa_of plan) p.who (known (isa_of plan) s x p.above)) →
        When b (IsOnItsWay s p.above p.who.src1 × IsOnItsWay s p.above p.who.src2)
    by true e f h = both_come (isa_of plan) s p.who (known (isa_of plan) s x p.above) p.above (f (open' p.who (known (isa_of plan) s x p.above) e)) h
    by false e f h = tt
