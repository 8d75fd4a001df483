-- The moves of a run are taken back, beginning with the last.
use Rattle.std.proofs.Common.{◌≡◌, ◌≢◌, ◌∙◌, List, [], ◌∷◌, All, refl, ap, arith}
use Rattle.std.proofs.lemmas.List.Elements.{All-tail}
use Rattle.cf_bind.specs.declared.moves.Move.{Move}
use Rattle.cf_bind.specs.declared.moves.Move.TheVariants.{Serve}
use Rattle.theory_confluence.proofs.back.TakenBack.{moment_back}
use Rattle.cf_layout.specs.Layout.{Plan}
use Rattle.cf_semantics.specs.moves.Kept.{kept, taken_back}
use Rattle.cf_semantics.specs.moves.Moves.{next}
use Rattle.cf_semantics.specs.runs.Runs.{IsRun, run}
use Rattle.cf_semantics.specs.state.State.{Moment}
use Rattle.cf_core.specs.Undo.{all_taken_back, kept_along}

pub run-back : (plan : Plan) (m : Moment) (moves : List Move) → IsRun plan m moves → All (λ mv. mv ≢ Serve) moves →
    all_taken_back (run plan m moves) (kept_along plan m moves) ≡ m
unfolding IsRun run kept_along all_taken_back
run-back plan m [] runs other = refl
run-back plan m (mv ∷ moves) runs other =
    let later = run-back plan (next plan m mv) moves runs.1 (All-tail (λ x. x ≢ Serve) mv moves other) in
    ap (λ (n : Moment). taken_back n (kept plan m.state mv)) later ∙ moment_back plan m mv runs.0 (other 0 mv (omega arith))
