-- The words that are kept of the stages are those of the state after a move was taken back.
use Rattle.std.proofs.Common.{◌≡◌, ◌∙◌, None, sym, ap, subst}
use Rattle.cf_bind.specs.declared.moves.Move.{Move}
use Rattle.cf_layout.specs.Layout.{Plan}
use Rattle.cf_semantics.specs.moves.Bars.{row_bar}
use Rattle.cf_semantics.specs.moves.Kept.{Kept, restored}
use Rattle.cf_semantics.specs.moves.Moves.{moved}
use Rattle.cf_semantics.specs.state.State.{State}
use Rattle.cf_core.specs.Marks.{Within, marks_of, remarked, touched}
use Rattle.cf_core.specs.Processors.{Processor, IsProcessor}
use Rattle.cf_core.specs.Undo.{HasJustMade}
use Rattle.cf_core.specs.declared.marks.Marks.{Marks}
use Rattle.cf_core.specs.declared.touching.Touched.{Touched}
use Rattle.cf_core.proofs.Bits.{marks-two}
use Rattle.cf_core.proofs.moves.KeptServe.{unbarred}
use Rattle.cf_core.proofs.Places.{earlier-restored}
use Rattle.cf_core.proofs.Sites.{touched-within}
use Rattle.cf_core.proofs.Touched.{moved-but}

-- what holds of the state after that, in which the move can be made
pub back-facts : (p : Processor) (k : Kept) → HasJustMade p k → IsProcessor p.plan (restored p.state k)
back-facts p k h = subst (IsProcessor p.plan) (sym (earlier-restored p k h)) h.stood.facts

pub back-free : (p : Processor) (k : Kept) → HasJustMade p k → row_bar p.plan (restored p.state k) k.move ≡ None
back-free p k h = subst (λ (s : State). row_bar p.plan s k.move ≡ None) (sym (earlier-restored p k h)) (unbarred p.plan h.earlier k.move h.allowed)

pub back-within : (p : Processor) (k : Kept) (t : Touched) → HasJustMade p k → t ≡ touched p.plan (restored p.state k) k.move → Within p.plan t
back-within p k t h e = subst (Within p.plan) (sym e) (touched-within p.plan (restored p.state k) k.move (back-facts p k h) (back-free p k h))

-- the stages that the move touched are those for which what holds can have changed
marks_back : (plan : Plan) (s : State) (mv : Move) → IsProcessor plan s → row_bar plan s mv ≡ None →
    remarked plan s (marks_of plan (moved plan s mv)) (touched plan s mv) ≡ marks_of plan s
marks_back plan s mv h free =
    let w = touched-within plan s mv h free in
    let at = touched plan s mv in
    sym (marks-two plan (moved plan s mv) s at.low at.high h.accepted.stages.1 w.low w.low_in w.high w.high_in
    (λ j off far. sym (moved-but plan s mv free j off far)))

pub back-marks : (p : Processor) (k : Kept) (marks : Marks) (t : Touched) → HasJustMade p k → marks ≡ marks_of p.plan p.state →
    t ≡ touched p.plan (restored p.state k) k.move →
    remarked p.plan (restored p.state k) marks t ≡ marks_of p.plan (restored p.state k)
back-marks p k marks t h is touches =
    let back = earlier-restored p k h in
    let before : marks ≡ marks_of p.plan (moved p.plan h.earlier k.move) = is ∙ ap (marks_of p.plan) h.made in
    let at : t ≡ touched p.plan h.earlier k.move = touches ∙ ap (λ (s : State). touched p.plan s k.move) back in
    rw (back, before, at) (marks_back p.plan h.earlier k.move h.stood.facts (unbarred p.plan h.earlier k.move h.allowed))
