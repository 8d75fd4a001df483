-- The port's walk: what a change leaves.
use Rattle.std.proofs.Common.{◌≡◌, ℕ, Option, Some, Bool, true, false, ◌||◌, refl, sym, ◌∙◌, arith}
use Rattle.std.specs.Prelude.{if◌then◌else◌}
use Rattle.cf_bind.specs.declared.packet.Packet.{Packet}
use Rattle.cf_bind.specs.declared.passenger.Passenger.{Passenger}
use Rattle.theory_refinement.proofs.column.Fold.{IsWalk}
use Rattle.cf_semantics.specs.moves.Fetches.{code_of}
use Rattle.theory_refinement.proofs.invariant.Port.{Dock, DockedAt, Fits, past, past_passenger}
use Rattle.cf_semantics.specs.claims.Ahead.{flies, has_ported, has_served}
use Rattle.cf_semantics.specs.state.Column.{Down, Item, Up}
use Rattle.cf_semantics.specs.moves.Instructions.{after_step, is_memory, step_at}
use Rattle.cf_semantics.specs.state.Passengers.{kind}
use Rattle.rv_inst.specs.declared.isa.Isa.{Isa}
use Rattle.rv_machine.specs.Machine.{Machine}
use Rattle.theory_refinement.proofs.walks.Path as paths
use Rattle.cf_semantics.specs.claims.Path as trail
use Rattle.cf_semantics.specs.claims.Soundness.{may_turn}

pub record Follows (w v : Dock) : Type 0 where
  pub path : paths.Follows w.path v.path
  pub safe : v.path.barred ≡ true → v.risky ≡ true
  pub risky : v.risky ≡ true → w.risky ≡ true
  pub mem : v.mem ≡ w.mem
  pub code : v.code ≡ w.code
  pub rest : v.rest ≡ w.rest
  pub out : v.out ≡ w.out
  pub answer : v.answer ≡ w.answer

not_risky : (w v : Dock) → Follows w v → w.risky ≡ false → (v.risky ≡ false) × (v.path.barred ≡ false) × (v.path.machine ≡ w.path.machine)
not_risky w v f e = let a : v.risky ≡ false = grind (arith, f.risky) in let b : v.path.barred ≡ false = grind (arith, f.safe) in (a, b, f.path.machine b)

flown : (p : Passenger) → flies p ≡ true → (is_memory (kind p) ≡ true) × ((p.launched || p.recovered) ≡ true)
flown p e = grind arith

ported_by : (p : Passenger) (answer : Option ℕ) → has_ported p answer ≡ true → has_served p ≡ false →
    (is_memory (kind p) ≡ true) × ((p.launched || p.recovered) ≡ true)
ported_by p answer e f = grind arith

docked_follows : (isa : Isa) (p : Passenger) (w v : Dock) → Follows w v → DockedAt isa p w → DockedAt isa p v
unfolding DockedAt
docked_follows isa p w v f h = record {
  live = h.live;
  order = λ a b. (not_risky w v f (h.order a b)).0;
  served = λ a. (not_risky w v f (h.served a)).0;
  permitted = λ a c. rw (not_risky w v f (h.order a c)).2 (h.permitted a c);
  answered = λ a c e. let m = flown p a in let q = not_risky w v f (h.order m.0 m.1) in rw q.2 (h.answered a c (sym f.answer ∙ e));
}

pub ported_calm : (isa : Isa) (p : Passenger) (w : Dock) → DockedAt isa p w → has_ported p w.answer ≡ true → w.risky ≡ false
unfolding DockedAt
ported_calm isa p w h e = go (has_served p) refl
  where
    go : (b : Bool) → has_served p ≡ b → w.risky ≡ false
    go true f = h.served f
    go false f = let m = ported_by p w.answer e f in h.order m.0 m.1

pub served_calm : (isa : Isa) (p : Passenger) (w : Dock) → DockedAt isa p w → has_served p ≡ true → w.risky ≡ false
unfolding DockedAt
served_calm isa p w h e = h.served e

-- if the test holds, the machines are the same
either : {A : Type 0} (isa : Isa) (b : Bool) (x y : Machine) (pc : ℕ) (part : Machine → A) (o o' : A) → (b ≡ true → x ≡ y) → o ≡ o' →
    (if b then part (after_step (step_at isa x pc) x) else o) ≡ (if b then part (after_step (step_at isa y pc) y) else o')
either isa true x y pc part o o' f e = rw (f refl)
either isa false x y pc part o o' f e = e

item_follows : (isa : Isa) (i : Item) (w v : Dock) → Follows w v → Fits isa i w → Fits isa i v
unfolding Fits
item_follows isa (Up i p) w v f h = docked_follows isa p w v f h
item_follows isa (Down i k) w v f h = tt

safe_rider : (isa : Isa) (i : ℕ) (p : Passenger) (v : trail.Walk) (risky : Bool) → (v.barred ≡ true → risky ≡ true) →
    (trail.past isa (Up i p) v).barred ≡ true → (risky || may_turn (Up i p)) ≡ true
unfolding trail.past
safe_rider isa i p v risky f e = grind arith

safe_packet : (isa : Isa) (i : ℕ) (k : Packet) (v : trail.Walk) (risky : Bool) → (v.barred ≡ true → risky ≡ true) →
    (trail.past isa (Down i k) v).barred ≡ true → (risky || may_turn (Down i k)) ≡ true
unfolding trail.past
safe_packet isa i k v risky f e = grind arith

past_rider_follows : (isa : Isa) (i : ℕ) (p : Passenger) (w v : Dock) → Follows w v → DockedAt isa p w →
    paths.Follows (trail.past isa (Up i p) w.path) (trail.past isa (Up i p) v.path) → Follows (past_passenger isa i p (trail.past isa (Up i p) w.path) w)
    (past_passenger isa i p (trail.past isa (Up i p) v.path) v)
past_rider_follows isa i p w v f h q = record {
  path = q;
  safe = safe_rider isa i p v.path v.risky f.safe;
  risky = more (may_turn (Up i p));
  mem = rw f.answer (either isa (has_ported p w.answer) v.path.machine w.path.machine p.pc (λ m. m.hart.mem) v.mem w.mem
      (λ e. (not_risky w v f (ported_calm isa p w h e)).2) f.mem);
  code = either isa (has_served p) v.path.machine w.path.machine p.pc (λ m. code_of m.hart.mem) v.code w.code
      (λ e. (not_risky w v f (served_calm isa p w h e)).2) f.code;
  rest = either isa (has_served p) v.path.machine w.path.machine p.pc (λ m. m.rest) v.rest w.rest (λ e. (not_risky w v f (served_calm isa p w h e)).2) f.rest;
  out = either isa (has_served p) v.path.machine w.path.machine p.pc (λ m. m.output) v.out w.out (λ e. (not_risky w v f (served_calm isa p w h e)).2) f.out;
  answer = rw f.answer;
}
  where
    more : (b : Bool) → (v.risky || b) ≡ true → (w.risky || b) ≡ true
    more b e = grind (arith, f.risky)

past_packet_follows : (isa : Isa) (i : ℕ) (k : Packet) (w v : Dock) → Follows w v → paths.Follows (trail.past isa (Down i k) w.path)
    (trail.past isa (Down i k) v.path) → Follows (record w { path = trail.past isa (Down i k) w.path; risky = w.risky || trail.turns (Some k) })
    (record v { path = trail.past isa (Down i k) v.path; risky = v.risky || trail.turns (Some k) })
past_packet_follows isa i k w v f q = record {
  path = q;
  safe = safe_packet isa i k v.path v.risky f.safe;
  risky = more (trail.turns (Some k));
  mem = f.mem;
  code = f.code;
  rest = f.rest;
  out = f.out;
  answer = f.answer;
}
  where
    more : (b : Bool) → (v.risky || b) ≡ true → (w.risky || b) ≡ true
    more b e = grind (arith, f.risky)

past_follows : (isa : Isa) (i : Item) (w v : Dock) → Follows w v → Fits isa i w → Follows (past isa i w) (past isa i v)
unfolding Fits past
past_follows isa (Up i p) w v f h = past_rider_follows isa i p w v f h (paths.past_on isa (Up i p) w.path v.path f.path)
past_follows isa (Down i k) w v f h = past_packet_follows isa i k w v f (paths.past_on isa (Down i k) w.path v.path f.path)

pub port_walk : (isa : Isa) → IsWalk Dock (Fits isa) (past isa) Follows
port_walk isa = record { stays = item_follows isa; goes_on = past_follows isa }

-- if nothing may turn the program, there is no barrier
pub open_of : (w : Dock) → (w.path.barred ≡ true → w.risky ≡ true) → w.risky ≡ false → w.path.barred ≡ false
open_of w f e = go w.path.barred refl
  where
    go : (b : Bool) → w.path.barred ≡ b → w.path.barred ≡ false
    go false d = d
    go true d = absurd (let z = f d in cc)
