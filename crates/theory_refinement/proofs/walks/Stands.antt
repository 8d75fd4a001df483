-- Where instructions are: each move's change.
use Rattle.std.proofs.Common.{◌≡◌, ℕ, ◌<◌, List, [], ◌∷◌, ◌++◌, None, true, false, arith, suc}
use Rattle.cf_bind.specs.Meeting.{meeting}
use Rattle.cf_bind.specs.declared.packet.Packet.{Packet}
use Rattle.cf_bind.specs.declared.passenger.Passenger.{Passenger}
use Rattle.cf_layout.specs.Layout.{Plan}
use Rattle.theory_refinement.proofs.invariant.Stands.{Behind, Between, Each, Low, Stands}
use Rattle.cf_semantics.specs.moves.Bars.{stops_at}
use Rattle.cf_semantics.specs.state.Column.{Down, Item, Up}
use Rattle.cf_semantics.specs.state.Passengers.{kind}

pub each_append : (l : Plan) (xs ys : List Item) → Each l xs → Each l ys → Each l (xs ++ ys)
each_append l [] ys a b = b
each_append l (Up i p ∷ xs) ys a b = (a.0, each_append l xs ys a.1 b)
each_append l (Down i k ∷ xs) ys a b = each_append l xs ys a b

pub each_front : (l : Plan) (xs ys : List Item) → Each l (xs ++ ys) → Each l xs
each_front l [] ys a = tt
each_front l (Up i p ∷ xs) ys a = (a.0, each_front l xs ys a.1)
each_front l (Down i k ∷ xs) ys a = each_front l xs ys a

pub each_back : (l : Plan) (xs ys : List Item) → Each l (xs ++ ys) → Each l ys
each_back l [] ys a = a
each_back l (Up i p ∷ xs) ys a = each_back l xs ys a.1
each_back l (Down i k ∷ xs) ys a = each_back l xs ys a

climb_low : (l : Plan) (p : Passenger) (i : ℕ) → stops_at l p i ≡ false → p.dead ≡ false → p.done ≡ false → p.launched ≡ false → Low l (kind p) i →
    Low l (kind p) (suc i)
climb_low l p i e d u n h = grind arith

climb_out : (l : Plan) (p : Passenger) (i : ℕ) → stops_at l p i ≡ false → p.launched ≡ true → p.recovered ≡ false → Between l (kind p) i →
    Between l (kind p) (suc i)
climb_out l p i e u n h = grind arith

climb_back : (l : Plan) (p : Passenger) (i : ℕ) → Behind l (kind p) i → Behind l (kind p) (suc i)
climb_back l p i h = grind arith

pub climb_stands : (l : Plan) (i : ℕ) (p : Passenger) → i < l.stages → stops_at l p i ≡ false → Stands l i p → Stands l (suc i) p
climb_stands l i p n e h = record {
  low = λ a b c. climb_low l p i e a b c (h.low a b c);
  out = λ a b. climb_out l p i e a b (h.out a b);
  back = λ a. climb_back l p i (h.back a);
  back_done = h.back_done;
  back_launched = h.back_launched;
  owes_live = h.owes_live;
  owes_done = h.owes_done;
  owes_quiet = h.owes_quiet;
  guess = h.guess;
  served = λ a. let q = h.served a in absurd (omega arith);
  unended = h.unended;
  blank = h.blank;
  free_done = h.free_done;
  out_undone = h.out_undone;
  faulted = h.faulted;
  sourced1 = h.sourced1;
  sourced2 = h.sourced2;
  homed = h.homed;
}

pub send_stands : (l : Plan) (i : ℕ) (p : Passenger) → Stands l i p → Stands l i (record p { owes = None })
send_stands l i p h = record {
  low = h.low;
  out = h.out;
  back = h.back;
  back_done = h.back_done;
  back_launched = h.back_launched;
  owes_live = λ e. absurd (cc);
  owes_done = λ e. absurd (cc);
  owes_quiet = λ e. absurd (cc);
  guess = h.guess;
  served = h.served;
  unended = h.unended;
  blank = h.blank;
  free_done = h.free_done;
  out_undone = h.out_undone;
  faulted = h.faulted;
  sourced1 = h.sourced1;
  sourced2 = h.sourced2;
  homed = h.homed;
}

pub meet_rider : (l : Plan) (i : ℕ) (p : Passenger) (k : Packet) → Stands l i p → Stands l i (meeting p k).passenger
unfolding meeting
meet_rider l i p k h = grind arith
