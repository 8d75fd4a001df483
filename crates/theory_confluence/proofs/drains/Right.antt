-- A change leaves the number of instructions on the sequential path unchanged.
use Rattle.std.proofs.Common.{◌≡◌, ℕ, Bool, true, false, ◌&&◌, refl, sym, ap, ◌∙◌, arith, true≢false}
use Rattle.cf_bind.specs.declared.packet.Packet.{Packet}
use Rattle.cf_bind.specs.declared.passenger.Passenger.{Passenger}
use Rattle.theory_refinement.proofs.column.Fold.{IsWalk}
use Rattle.cf_semantics.specs.state.Column.{Down, Item, Up}
use Rattle.cf_semantics.specs.state.Passengers.{is_place}
use Rattle.cf_semantics.specs.claims.Right.{Way, follows, past, past_passenger, stops}
use Rattle.rv_inst.specs.declared.isa.Isa.{Isa}
use Rattle.theory_refinement.proofs.walks.Path as paths
use Rattle.theory_refinement.proofs.invariant.Sure as sure
use Rattle.cf_semantics.specs.claims.Path as trail

-- the next sure instruction would be on the path
abbrev pub ahead : Way → Bool
ahead w = w.on && is_place w.path.goto w.path.machine.hart.pc

pub record Follows (w v : Way) : Type 0 where
  pub path : paths.Follows w.path v.path
  pub count : v.count ≡ w.count
  pub stop : v.stop ≡ w.stop
  pub on : v.path.barred ≡ false → v.on ≡ w.on
  pub lost : w.path.barred ≡ false → v.path.barred ≡ true → ahead w ≡ false

-- off the path, or after a wrong guess, no instruction counts
after_lost : (isa : Isa) (i : ℕ) (p : Passenger) (w : Way) → w.path.barred ≡ false → ahead w ≡ false → sure.Fits isa (Up i p) w.path →
    ((past isa (Up i p) w).count ≡ w.count) × (ahead (past isa (Up i p) w) ≡ false) × ((past isa (Up i p) w).stop ≡ w.stop)
unfolding past sure.Fits trail.past sure.SureAt follows stops
after_lost isa i p w b a h = grind arith

-- an instruction is not counted below a barrier
barred_count : (isa : Isa) (i : ℕ) (p : Passenger) (w : Way) → w.path.barred ≡ true → ((past isa (Up i p) w).count ≡ w.count)
    × ((past isa (Up i p) w).on ≡ w.on) × ((past isa (Up i p) w).stop ≡ w.stop)
unfolding past
barred_count isa i p w b = grind arith

same_count : (isa : Isa) (i : ℕ) (p : Passenger) (w v : Way) → v.count ≡ w.count → v.on ≡ w.on → v.path.barred ≡ w.path.barred →
    v.path.machine ≡ w.path.machine → v.stop ≡ w.stop → ((past isa (Up i p) v).count ≡ (past isa (Up i p) w).count)
    × ((past isa (Up i p) v).on ≡ (past isa (Up i p) w).on) × ((past isa (Up i p) v).stop ≡ (past isa (Up i p) w).stop)
unfolding past
same_count isa i p w v c o b x s = grind arith

pub past_path : (isa : Isa) (i : Item) (w : Way) → (past isa i w).path ≡ trail.past isa i w.path
unfolding past
past_path isa (Up i p) w = go (trail.is_sure p w.path && w.on)
  where
    go : (b : Bool) → (past_passenger isa b p (trail.past isa (Up i p) w.path) w).path ≡ trail.past isa (Up i p) w.path
    go true = refl
    go false = refl
past_path isa (Down i k) w = refl

barred_stays : (isa : Isa) (i : ℕ) (p : Passenger) (q : trail.Walk) → q.barred ≡ true → (trail.past isa (Up i p) q).barred ≡ true
unfolding trail.past
barred_stays isa i p q b = grind arith

same_barred : (isa : Isa) (i : ℕ) (p : Passenger) (q r : trail.Walk) → q.barred ≡ false → r.barred ≡ false →
    (trail.past isa (Up i p) r).barred ≡ (trail.past isa (Up i p) q).barred
unfolding trail.past
same_barred isa i p q r a b = grind arith

rider_follows : (isa : Isa) (i : ℕ) (p : Passenger) (w v : Way) → Follows w v → sure.Fits isa (Up i p) w.path →
    Follows (past isa (Up i p) w) (past isa (Up i p) v)
rider_follows isa i p w v f h = go w.path.barred v.path.barred refl refl
  where
    q : paths.Follows (past isa (Up i p) w).path (past isa (Up i p) v).path
    q = rw (past_path isa (Up i p) w, past_path isa (Up i p) v) (paths.past_on isa (Up i p) w.path v.path f.path)

    go : (a b : Bool) → w.path.barred ≡ a → v.path.barred ≡ b → Follows (past isa (Up i p) w) (past isa (Up i p) v)
    go true b a c =
        let vb = f.path.barred a in
        let m = barred_count isa i p w a in
        let n = barred_count isa i p v vb in
        let vc : (past isa (Up i p) v).path.barred ≡ true = rw (past_path isa (Up i p) v) (barred_stays isa i p v.path vb) in
        let wc : (past isa (Up i p) w).path.barred ≡ true = rw (past_path isa (Up i p) w) (barred_stays isa i p w.path a) in
        record { path = q; count = n.0 ∙ f.count ∙ sym m.0; stop = n.2 ∙ f.stop ∙ sym m.2; on = λ e. absurd (cc); lost = λ e. absurd (cc) }
    go false true a c =
        let m = after_lost isa i p w a (f.lost a c) h in
        let n = barred_count isa i p v c in
        let vc : (past isa (Up i p) v).path.barred ≡ true = rw (past_path isa (Up i p) v) (barred_stays isa i p v.path c) in
        record { path = q; count = n.0 ∙ f.count ∙ sym m.0; stop = n.2 ∙ f.stop ∙ sym m.2; on = λ e. absurd (cc); lost = λ _ _. m.1 }
    go false false a c =
        let m = same_count isa i p w v f.count (f.on c) (c ∙ sym a) (f.path.machine c) f.stop in
        record {
          path = q;
          count = m.0;
          stop = m.2;
          on = λ _. m.1;
          lost = λ e d. let z = same_barred isa i p w.path v.path a c in
              absurd (true≢false (sym d ∙ ap (λ (u : trail.Walk). u.barred) (past_path isa (Up i p) v) ∙ z
              ∙ sym (ap (λ (u : trail.Walk). u.barred) (past_path isa (Up i p) w)) ∙ e));
        }

packet_follows : (isa : Isa) (i : ℕ) (k : Packet) (w v : Way) → Follows w v → Follows (past isa (Down i k) w) (past isa (Down i k) v)
unfolding past trail.past
packet_follows isa i k w v f = grind arith

-- what fits on the path
abbrev pub Fits : (isa : Isa) → Item → Way → Type 0
Fits isa i w = sure.Fits isa i w.path

item_stays : (isa : Isa) (i : Item) (w v : Way) → Follows w v → Fits isa i w → Fits isa i v
item_stays isa i w v f h = (paths.path_walk isa).stays i w.path v.path f.path h

item_goes_on : (isa : Isa) (i : Item) (w v : Way) → Follows w v → Fits isa i w → Follows (past isa i w) (past isa i v)
item_goes_on isa (Up i p) w v f h = rider_follows isa i p w v f h
item_goes_on isa (Down i k) w v f h = packet_follows isa i k w v f

pub way_walk : (isa : Isa) → IsWalk Way (Fits isa) (past isa) Follows
way_walk isa = record { stays = item_stays isa; goes_on = item_goes_on isa }

-- Execute, Recover: if a turn is owed, the guess was wrong and what follows is off the path
pub finish_way : (isa : Isa) (i : ℕ) (p q : Passenger) (w : Way) → q.pc ≡ p.pc → q.dead ≡ p.dead →
    paths.Follows (trail.past isa (Up i p) w.path) (trail.past isa (Up i q) w.path) → (w.path.barred ≡ false → p.dead ≡ false → trail.turns q.owes ≡ true →
    ahead (past isa (Up i p) w) ≡ false) → trail.turns p.owes ≡ false → Follows (past isa (Up i p) w) (past isa (Up i q) w)
unfolding past trail.past follows stops
finish_way isa i p q w e d f t u = grind arith
