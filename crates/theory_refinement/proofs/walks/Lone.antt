-- What nothing may follow: the walk, and each move's change.
use Rattle.std.proofs.Common.{◌≡◌, ℕ, [], ◌∷◌, Some, None, Bool, true, false, arith, suc, refl}
use Rattle.cf_bind.specs.Meeting.{meeting}
use Rattle.cf_bind.specs.declared.packet.Packet.{Packet}
use Rattle.cf_bind.specs.declared.passenger.Passenger.{Passenger}
use Rattle.cf_layout.specs.Layout.{Plan}
use Rattle.theory_refinement.proofs.column.Fold.{IsWalk, Replaces}
use Rattle.theory_refinement.proofs.walks.PathMeet.{met_items}
use Rattle.theory_refinement.proofs.invariant.Lone.{Fits, past}
use Rattle.theory_refinement.proofs.invariant.Stands.{Stands}
use Rattle.cf_semantics.specs.state.Column.{Down, Item, Up}
use Rattle.cf_semantics.specs.state.Options.{is_some}

pub record Follows (b v : Bool) : Type 0 where
  pub shut : v ≡ true → b ≡ true

item_follows : (i : Item) (w v : Bool) → Follows w v → Fits i w → Fits i v
unfolding Fits
item_follows i w v f h = grind arith

past_follows : (l : Plan) (i : Item) (w v : Bool) → Follows w v → Fits i w → Follows (past l i w) (past l i v)
unfolding past
past_follows l i w v f h = grind arith

pub lone_walk : (l : Plan) → IsWalk Bool Fits (past l) Follows
lone_walk l = record { stays = item_follows; goes_on = past_follows l }

pub climb_lone : (l : Plan) (i j : ℕ) (p : Passenger) (w : Bool) → is_some p.owes ≡ false → Replaces Bool Fits (past l) Follows (Up i p ∷ []) (Up j p ∷ []) w
unfolding Fits past
climb_lone l i j p w e = record { fit = λ h. grind arith; follows = λ h. grind arith }

pub fall_lone : (l : Plan) (i : ℕ) (k : Packet) (w : Bool) → Replaces Bool Fits (past l) Follows (Down (suc i) k ∷ []) (Down i k ∷ []) w
unfolding Fits past
fall_lone l i k w = record { fit = λ h. grind arith; follows = λ h. grind arith }

pub send_lone : (l : Plan) (i : ℕ) (p : Passenger) (k : Packet) (w : Bool) → p.owes ≡ Some k → Stands l i p →
    Replaces Bool Fits (past l) Follows (Up i p ∷ []) (Up i (record p { owes = None }) ∷ Down i k ∷ []) w
unfolding Fits past
send_lone l i p k w e s = record { fit = λ h. grind arith; follows = λ h. grind arith }

pub meet_lone : (l : Plan) (i : ℕ) (p : Passenger) (k : Packet) (w : Bool) → Stands l i p →
    Replaces Bool Fits (past l) Follows (Down i k ∷ Up i p ∷ []) (met_items i (meeting p k).passenger (meeting p k).packet) w
unfolding Fits past meeting
meet_lone l i p k w s = record { fit = λ h. grind arith; follows = λ h. grind arith }

-- below what nothing may follow
pub shut_past : (l : Plan) (i : Item) → past l i true ≡ true
unfolding past
shut_past l (Up i p) = refl
shut_past l (Down i k) = refl

pub no_rider : (i : ℕ) (p : Passenger) → Fits (Up i p) true → ⊥
unfolding Fits
no_rider i p h = cc

-- nothing that nothing may follow is above an instruction
pub lone_open : (i : ℕ) (p : Passenger) (b : Bool) → Fits (Up i p) b → b ≡ false
unfolding Fits
lone_open i p b h = h
