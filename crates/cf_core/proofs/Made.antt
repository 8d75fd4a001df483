-- What holds of a processor, and of its words, after a move other than Serve.
use Rattle.std.proofs.Common.{◌≡◌, None, true, sym}
use Rattle.cf_bind.specs.declared.moves.Move.{Move}
use Rattle.cf_semantics.specs.moves.Bars.{row_bar}
use Rattle.cf_semantics.specs.moves.Moves.{moved}
use Rattle.cf_core.specs.Marks.{Within, keeps_marks, marks_of, remarked, touched}
use Rattle.cf_core.specs.Processors.{IsProcessor, Processor, after_move}
use Rattle.cf_core.specs.declared.marks.Marks.{Marks}
use Rattle.cf_core.specs.declared.touching.Touched.{Touched}
use Rattle.cf_core.proofs.Bits.{marks-two}
use Rattle.cf_core.proofs.KeptMarks.{marks-same}
use Rattle.cf_core.proofs.Sites.{touched-within}
use Rattle.cf_core.proofs.StillMarks.{moved-same}
use Rattle.cf_core.proofs.Touched.{moved-but}
use Rattle.cf_core.proofs.moves.KeptMoves.{kept_moved}

pub facts-after : (old new : Processor) (mv : Move) → IsProcessor old.plan old.state → row_bar old.plan old.state mv ≡ None → new ≡ after_move old mv →
    IsProcessor new.plan new.state
facts-after old new mv h free made = rw made (kept_moved old.plan old.state mv h free)

-- the stages that it touches are still stages of the pipeline
pub within-after : (old new : Processor) (mv : Move) (t : Touched) → IsProcessor old.plan old.state → row_bar old.plan old.state mv ≡ None →
    new ≡ after_move old mv → t ≡ touched old.plan old.state mv → Within new.plan t
within-after old new mv t h free made touches = rw (touches, made) (touched-within old.plan old.state mv h free)

-- the words with those of the touched stages brought up to date
pub marks-after : (old new : Processor) (marks : Marks) (mv : Move) (t : Touched) → IsProcessor old.plan old.state →
    row_bar old.plan old.state mv ≡ None → new ≡ after_move old mv → marks ≡ marks_of old.plan old.state → t ≡ touched old.plan old.state mv →
    remarked new.plan new.state marks t ≡ marks_of new.plan new.state
marks-after old new marks mv t h free made is touches =
    let w = touched-within old.plan old.state mv h free in
    let at = touched old.plan old.state mv in
    let two = marks-two old.plan old.state (moved old.plan old.state mv) at.low at.high h.accepted.stages.1 w.low w.low_in w.high w.high_in
    (moved-but old.plan old.state mv free) in
    rw (made, is, touches) (sym two)

-- the words after a move that leaves them as they are
pub marks-stay : (old new : Processor) (marks : Marks) (mv : Move) → row_bar old.plan old.state mv ≡ None → new ≡ after_move old mv →
    marks ≡ marks_of old.plan old.state → keeps_marks old.plan old.state mv ≡ true → marks ≡ marks_of new.plan new.state
marks-stay old new marks mv free made is keeps =
    rw (made, is) (marks-same old.plan old.state (moved old.plan old.state mv) (moved-same old.plan old.state mv free keeps))
