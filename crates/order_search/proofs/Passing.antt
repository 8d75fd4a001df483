-- Visiting an edge.
use Rattle.std.proofs.Common.{◌≡◌, ℕ, List, Option, Some, None, Bool, true, false, refl, inl, inr}
use Rattle.std.specs.Prelude.{MatchOption}
use Rattle.order_search.specs.declared.trail.Entered.{Entered}
use Rattle.order_search.specs.declared.trail.Passed.TheVariants.{Node}
use Rattle.order_search.specs.Exploring.{GoesAlong, entered_if}
use Rattle.order_search.specs.Numbers.{AddsNode, node_at}
use Rattle.order_search.specs.Paths.{EdgeView, EdgeFaults, NodeFaults, HasEdgeFault, IsFaultless}

-- nothing is wrong with an edge without a fault, nor with its node
pub faultless : {L F : Type 0} (wrong : EdgeFaults L F) (flawed : NodeFaults F) (from : List ℕ) (e : EdgeView L) →
    ((fault : F) → HasEdgeFault wrong flawed from e fault → ⊥) → IsFaultless wrong flawed from e
unfolding HasEdgeFault
faultless wrong flawed from e none = record {
  edge = λ fault own. none fault (inl own);
  node = λ fault there. none fault (inr (λ other own. none other (inl own), there));
}

-- it leads to a node, which is added unless it is already there
pub passed_on : {L F : Type 0} (wrong : EdgeFaults L F) (flawed : NodeFaults F) (old new : List (List ℕ)) (entered after : List (Entered L)) (at : ℕ)
    (e : EdgeView L) (number : ℕ) (is_new : Bool) → ((fault : F) → HasEdgeFault wrong flawed (node_at old at) e fault → ⊥) →
    AddsNode old new e.node number is_new → after ≡ entered_if is_new entered (record { from = at; label = e.label }) →
    GoesAlong wrong flawed old new entered after at e (Node number)
unfolding GoesAlong
passed_on wrong flawed old new entered after at e number true none (more, last, fresh) so =
    let sound = faultless wrong flawed (node_at old at) e none in
    (sound, inr (record { fresh = fresh; sound = sound.node; last = last; nodes = more; more = so }))
passed_on wrong flawed old new entered after at e number false none (same, within, is) so =
    (faultless wrong flawed (node_at old at) e none, inl (record { within = within; node = is; nodes = same; same = so }))

-- an edge that reports no fault has none
pub said_none : {L F : Type 0} (wrong : EdgeFaults L F) (flawed : NodeFaults F) (from : List ℕ) (e : EdgeView L) (said : Option F) →
    ((fault : F) → said ≡ Some fault → ⊥) →
    MatchOption said ((fault : F) → HasEdgeFault wrong flawed from e fault → ⊥) (λ fault. HasEdgeFault wrong flawed from e fault) →
    (fault : F) → HasEdgeFault wrong flawed from e fault → ⊥
said_none wrong flawed from e None none judged = judged
said_none wrong flawed from e (Some fault) none judged = absurd (none fault refl)
