-- What holds of every processor is kept by each move that nothing bars.
use Rattle.std.proofs.Common.{◌≡◌, None}
use Rattle.cf_bind.specs.declared.moves.Move.{Move}
use Rattle.cf_bind.specs.declared.moves.Move.TheVariants.{Issue, Emit, Climb, Fall, Meet, Execute, Send, Launch, Slide, Access, Recover, Leave, Exit, Serve}
use Rattle.cf_layout.specs.Layout.{Plan}
use Rattle.cf_semantics.specs.moves.Bars.{row_bar}
use Rattle.cf_semantics.specs.moves.Moves.{moved}
use Rattle.cf_semantics.specs.state.State.{State}
use Rattle.cf_core.specs.Processors.{Processor, after_move, IsProcessor}
use Rattle.cf_core.proofs.moves.KeptStages.{climb-kept, execute-kept, fall-kept, meet-kept, send-kept}
use Rattle.cf_core.proofs.moves.KeptEnds.{emit-kept, exit-kept, issue-kept, leave-kept}
use Rattle.cf_core.proofs.moves.KeptSidings.{access-kept, launch-kept, recover-kept, slide-kept}

-- the table changes nothing for Serve, which asks the outside
serve-kept : (plan : Plan) (s : State) → IsProcessor plan s → IsProcessor plan (moved plan s Serve)
unfolding moved
serve-kept plan s h = h

pub kept_moved : (plan : Plan) (s : State) (mv : Move) → IsProcessor plan s → row_bar plan s mv ≡ None → IsProcessor plan (moved plan s mv)
kept_moved plan s (Issue g) h free = issue-kept plan s g h
kept_moved plan s Emit h free = emit-kept plan s h
kept_moved plan s (Climb i) h free = climb-kept plan s i h
kept_moved plan s (Fall i) h free = fall-kept plan s i h
kept_moved plan s (Meet i) h free = meet-kept plan s i h
kept_moved plan s (Execute i) h free = execute-kept plan s i h
kept_moved plan s (Send i) h free = send-kept plan s i h free
kept_moved plan s (Launch i) h free = launch-kept plan s i h
kept_moved plan s (Slide k c) h free = slide-kept plan s k c h
kept_moved plan s Access h free = access-kept plan s h
kept_moved plan s (Recover i) h free = recover-kept plan s i h
kept_moved plan s Leave h free = leave-kept plan s h
kept_moved plan s Exit h free = exit-kept plan s h
kept_moved plan s Serve h free = serve-kept plan s h

-- so this holds of a processor that was in this state and has made the move
pub kept_after : (before now after : Processor) (mv : Move) → after ≡ after_move before mv → before ≡ now → row_bar now.plan now.state mv ≡ None →
    IsProcessor before.plan before.state → IsProcessor after.plan after.state
kept_after before now after mv made same free h = rw made (kept_moved before.plan before.state mv h (rw same free))
