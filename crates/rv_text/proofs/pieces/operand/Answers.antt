use Rattle.rv_text.specs.Pieces.{is_comma, pieces}
use Rattle.rv_text.proofs.Cuts.{next_piece}
use Rattle.rv_text.proofs.pieces.operand.Goals as goal

pub loop-skipped-preserved : goal.loop-skipped-preserved
loop-skipped-preserved c =
    rw c.after_comma-rest.ensures (next_piece is_comma c.loop-skipped.rest.now (pieces c.args.text.now) _ c.loop-skipped.invariant)
