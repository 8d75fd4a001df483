-- Every move keeps clear what is below an instruction that is still to be answered.
use Rattle.std.proofs.Common.{◌≡◌, None}
use Rattle.cf_bind.specs.declared.moves.Move.{Move}
use Rattle.cf_bind.specs.declared.moves.Move.TheVariants.{Access, Climb, Emit, Execute, Exit, Fall, Issue, Launch, Leave, Meet, Recover, Send, Serve, Slide}
use Rattle.cf_layout.specs.Layout.{Plan}
use Rattle.theory_refinement.proofs.invariant.Invariant.{Sound}
use Rattle.theory_refinement.proofs.invariant.Suited.{Suits}
use Rattle.cf_semantics.specs.moves.Bars.{bar}
use Rattle.cf_semantics.specs.moves.Moves.{next}
use Rattle.cf_semantics.specs.state.State.{Moment}
use Rattle.rv_machine.specs.Machine.{Machine}
use Rattle.theory_unknown_input.proofs.ClearChanged.{access_clear, climb_clear, execute_clear, fall_clear, launch_clear, meet_clear, recover_clear, serve_clear, slide_clear}
use Rattle.theory_unknown_input.proofs.ClearEnds.{emit_clear, exit_clear, issue_clear, leave_clear}
use Rattle.theory_unknown_input.proofs.ClearSend.{send_clear}
use Rattle.theory_unknown_input.proofs.Clear.{IsClear}

-- every move that is allowed keeps it
pub clear_kept : (l : Plan) (m : Moment) (x : Machine) (mv : Move) → Suits l → bar l m.state mv ≡ None → Sound l m.state m.rest m.output x → IsClear m.state →
    IsClear (next l m mv).state
unfolding next
clear_kept l m x (Issue g) acc e h k = issue_clear l m.state x g acc e h k
clear_kept l m x Emit acc e h k = emit_clear l m.state x acc e h k
clear_kept l m x (Climb i) acc e h k = climb_clear l m.state i e k
clear_kept l m x (Fall i) acc e h k = fall_clear l m.state i e k
clear_kept l m x (Meet i) acc e h k = meet_clear l m.state x i e h k
clear_kept l m x (Execute i) acc e h k = execute_clear l m.state i e k
clear_kept l m x (Send i) acc e h k = send_clear l m.state x i acc e h k
clear_kept l m x (Launch i) acc e h k = launch_clear l m.state i e k
clear_kept l m x (Slide j c) acc e h k = slide_clear l m.state j c e k
clear_kept l m x Access acc e h k = access_clear l m.state e k
clear_kept l m x (Recover i) acc e h k = recover_clear l m.state i e k
clear_kept l m x Leave acc e h k = leave_clear l m.state x acc e h k
clear_kept l m x Exit acc e h k = exit_clear l m.state x acc e h k
clear_kept l m x Serve acc e h k = serve_clear l m e k
