-- Every order of a round is a run, and all lead to one moment.
use Rattle.std.proofs.Common.{◌≡◌, List, [], ◌∷◌, ◌++◌, sym, ap, subst, ◌∙◌}
use Rattle.cf_layout.specs.Layout.{Plan}
use Rattle.cf_bind.specs.declared.moves.Move.{Move}
use Rattle.cf_semantics.specs.runs.Runs.{IsRun, run}
use Rattle.cf_semantics.specs.state.State.{Moment}
use Rattle.cf_index.specs.Alone.{HasSidings}
use Rattle.cf_rounds.specs.Rounds.{IsOrderOf, IsRound}
use Rattle.cf_rounds.proofs.Chosen.{Form, alone, together, round_form}
use Rattle.cf_rounds.proofs.Free.{free_ordered, free_orders, free_run}

-- one move has one order
one_order : (mv : Move) (order : List Move) → IsOrderOf (mv ∷ []) order → order ≡ mv ∷ []
one_order mv order (front, after, is, none) = is ∙ go front after none
  where
    go : (front after : List Move) → front ++ after ≡ [] → front ++ mv ∷ after ≡ mv ∷ []
    go [] after e = ap (λ (moves : List Move). mv ∷ moves) e
    go (first ∷ front) after e = absurd (cc)

pub orders_run : (plan : Plan) (m : Moment) (round order : List Move) → HasSidings plan m.state → IsRound plan m.state round → IsOrderOf round order →
    IsRun plan m order
unfolding IsRun
orders_run plan m round order sidings r o = by (round_form plan m.state round sidings r)
  where
    by : Form plan m.state round → IsRun plan m order
    by (alone mv free stands is) = subst (IsRun plan m) (sym (one_order mv order (subst (λ (moves : List Move). IsOrderOf moves order) is o))) (free, tt)
    by (together f) = free_run plan m order (free_ordered plan m.state round order o f)

pub orders_same : (plan : Plan) (m : Moment) (round order : List Move) → HasSidings plan m.state → IsRound plan m.state round → IsOrderOf round order →
    run plan m order ≡ run plan m round
orders_same plan m round order sidings r o = by (round_form plan m.state round sidings r)
  where
    by : Form plan m.state round → run plan m order ≡ run plan m round
    by (alone mv free stands is) = ap (run plan m) (one_order mv order (subst (λ (moves : List Move). IsOrderOf moves order) is o) ∙ sym is)
    by (together f) = free_orders plan m round order o f
