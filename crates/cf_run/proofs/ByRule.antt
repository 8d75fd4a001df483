-- The moves that a policy is offered under a guess rule: all are allowed, there is at least one while the program goes
-- on, and an Issue only if the hold rule permits it.
use Rattle.std.proofs.Common.{◌≡◌, ℕ, ◌≤◌, List, length, Some, None, true}
use Rattle.std.specs.Prelude.{slice_get}
use Rattle.run_options.specs.declared.guess_rule.GuessRule.{GuessRule}
use Rattle.rv_machine.specs.Machine.{Machine}
use Rattle.cf_layout.specs.Accepted.{IsAccepted}
use Rattle.cf_layout.specs.Layout.{Plan}
use Rattle.cf_bind.specs.declared.moves.Move.{Move}
use Rattle.cf_semantics.specs.claims.Weight.{is_issue}
use Rattle.cf_semantics.specs.moves.Bars.{bar}
use Rattle.cf_semantics.specs.moves.Holding.{is_held}
use Rattle.cf_semantics.specs.runs.Lines.{Line}
use Rattle.cf_semantics.specs.state.Drained.{IsStuck}
use Rattle.cf_semantics.specs.state.State.{Moment, State}
use Rattle.theory_confluence.proofs.Candidates.{HasShape}
use Rattle.theory_unknown_input.proofs.Invariant.{HoldsAnew}
use Rattle.theory_unknown_input.proofs.Offered.{offered_allowed, offered_held, offered_some}
use Rattle.cf_sched.specs.Paces.{offered_by}
use Rattle.cf_sched.proofs.ByRule.{among-offered, some-offered}

-- each move that is offered is allowed
pub ruled-allowed : (r : GuessRule) (plan : Plan) (count : ℕ) (s : State) (k : ℕ) (mv : Move) → slice_get (offered_by r plan count s) k ≡ Some mv →
    bar plan s mv ≡ None
ruled-allowed r plan count s k mv there = let h = among-offered r plan count s k mv there in offered_allowed plan count s h.place mv h.there

-- while the candidates are held, an Issue is offered only if no other move is allowed
pub ruled-held : (r : GuessRule) (plan : Plan) (count : ℕ) (s : State) (k : ℕ) (mv : Move) → HasShape plan s →
    slice_get (offered_by r plan count s) k ≡ Some mv → is_held plan count ≡ true → is_issue mv ≡ true → IsStuck plan s
ruled-held r plan count s k mv shape there held issue =
    let h = among-offered r plan count s k mv there in
    offered_held plan count s h.place mv shape h.there held issue

-- and at least one move is offered, whatever is counted
pub ruled-some : (r : GuessRule) (plan : Plan) (begin : Machine) (m : Moment) (count : ℕ) (written : List Line) → IsAccepted plan →
    HoldsAnew plan begin written m → m.state.ending ≡ None → 1 ≤ length (offered_by r plan count m.state)
ruled-some r plan begin m count written accepted h going = some-offered r plan count m.state (offered_some plan begin m count written accepted h going)
