-- The path's walk: what a change leaves.
use Rattle.std.proofs.Common.{◌≡◌, ℕ, [], ◌∷◌, Some, None, Bool, true, false, arith}
use Rattle.cf_bind.specs.declared.packet.Packet.{Packet}
use Rattle.cf_bind.specs.declared.passenger.Passenger.{Passenger}
use Rattle.theory_refinement.proofs.column.Fold.{IsWalk}
use Rattle.theory_refinement.proofs.invariant.Sure.{Fits, IsSourced, SureAt}
use Rattle.cf_semantics.specs.state.Column.{Down, Item, Up}
use Rattle.cf_semantics.specs.claims.Path.{Walk, is_sure, past, past_packet, past_passenger}
use Rattle.cf_semantics.specs.claims.Walks.{Everywhere, walk}
use Rattle.rv_inst.specs.declared.isa.Isa.{Isa}

pub record Follows (w v : Walk) : Type 0 where
  pub barred : w.barred ≡ true → v.barred ≡ true
  pub machine : v.barred ≡ false → v.machine ≡ w.machine
  pub goto : v.barred ≡ false → v.goto ≡ w.goto
  pub settled : v.barred ≡ false → w.settled ≡ true → v.settled ≡ true
  pub trapped : v.barred ≡ false → w.trapped ≡ true → v.trapped ≡ true
  pub coming : v.barred ≡ false → (r : ℕ) → w.coming r ≡ true → v.coming r ≡ true

packet_follows : (isa : Isa) (i : ℕ) (k : Packet) (w v : Walk) → Follows w v → Fits isa (Down i k) w → Fits isa (Down i k) v
unfolding Fits
packet_follows isa i k w v f h = grind arith

sourced_more : (p : Passenger) (c d : ℕ → Bool) → ((r : ℕ) → c r ≡ true → d r ≡ true) → IsSourced p c → IsSourced p d
sourced_more p c d m h = record { source1 = λ r e. m r (h.source1 r e); source2 = λ r e. m r (h.source2 r e) }

sure_follows : (isa : Isa) (p : Passenger) (w v : Walk) → Follows w v → v.barred ≡ false → SureAt isa p w → SureAt isa p v
unfolding SureAt
sure_follows isa p w v f b h = (rw (f.machine b, f.goto b) h.0, sourced_more p w.coming v.coming (f.coming b) h.1)

rider_follows : (isa : Isa) (i : ℕ) (p : Passenger) (w v : Walk) → Follows w v → Fits isa (Up i p) w → Fits isa (Up i p) v
unfolding Fits
rider_follows isa i p w v f h = grind (arith, sure_follows)

past_packet_follows : (k : Packet) (w v : Walk) → Follows w v → Follows (past_packet k w) (past_packet k v)
past_packet_follows k w v f = grind arith

past_rider_follows : (isa : Isa) (p : Passenger) (w v : Walk) → Follows w v → Follows (past_passenger isa (is_sure p w) p w)
    (past_passenger isa (is_sure p v) p v)
past_rider_follows isa p w v f = grind arith

item_follows : (isa : Isa) (i : Item) (w v : Walk) → Follows w v → Fits isa i w → Fits isa i v
item_follows isa (Up i p) w v f h = rider_follows isa i p w v f h
item_follows isa (Down i k) w v f h = packet_follows isa i k w v f h

pub past_follows : (isa : Isa) (i : Item) (w v : Walk) → Follows w v → Fits isa i w → Follows (past isa i w) (past isa i v)
unfolding past
past_follows isa (Up i p) w v f h = past_rider_follows isa p w v f
past_follows isa (Down i k) w v f h = past_packet_follows k w v f

pub past_on : (isa : Isa) (i : Item) (w v : Walk) → Follows w v → Follows (past isa i w) (past isa i v)
unfolding past
past_on isa (Up i p) w v f = past_rider_follows isa p w v f
past_on isa (Down i k) w v f = past_packet_follows k w v f

pub path_walk : (isa : Isa) → IsWalk Walk (Fits isa) (past isa) Follows
path_walk isa = record { stays = item_follows isa; goes_on = past_follows isa }

-- Send
pub send_fits : (isa : Isa) (i : ℕ) (p : Passenger) (k : Packet) (w : Walk) → p.owes ≡ Some k → Everywhere (Fits isa) (past isa) (Up i p ∷ []) w →
    Everywhere (Fits isa) (past isa) (Up i (record p { owes = None }) ∷ Down i k ∷ []) w
unfolding Fits past SureAt
send_fits isa i p k w e h = grind arith

pub send_walk : (isa : Isa) (i : ℕ) (p : Passenger) (k : Packet) (w : Walk) → p.owes ≡ Some k → Everywhere (Fits isa) (past isa) (Up i p ∷ []) w →
    Follows (walk (past isa) (Up i p ∷ []) w) (walk (past isa) (Up i (record p { owes = None }) ∷ Down i k ∷ []) w)
unfolding Fits past SureAt
send_walk isa i p k w e h = grind arith

-- a live instruction with no barrier above it is sure
pub sure_at : (isa : Isa) (i : ℕ) (p : Passenger) (w : Walk) → p.dead ≡ false → w.barred ≡ false → Fits isa (Up i p) w → SureAt isa p w
unfolding Fits
sure_at isa i p w d b h = grind arith

pub sure_is : (p : Passenger) (w : Walk) → p.dead ≡ false → w.barred ≡ false → is_sure p w ≡ true
sure_is p w d b = grind arith
