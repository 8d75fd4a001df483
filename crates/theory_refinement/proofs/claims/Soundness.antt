-- The invariant has all of soundness.
use Rattle.std.proofs.Common.{◌≡◌, ℕ, List, None, ap, subst, ◌∙◌, length}
use Rattle.rv_machine.specs.After.{after}
use Rattle.rv_machine.specs.Machine.{Machine}
use Rattle.cf_layout.specs.Layout.{Plan}
use Rattle.cf_bind.specs.declared.moves.Move.{Move}
use Rattle.cf_semantics.specs.state.Layouts.{isa_of}
use Rattle.cf_semantics.specs.runs.Runs.{IsRun, run, start}
use Rattle.cf_semantics.specs.claims.SoundAfter.{IsSoundAfter}
use Rattle.cf_semantics.specs.claims.Soundness.{IsSound}
use Rattle.cf_semantics.specs.state.State.{State}
use Rattle.theory_refinement.proofs.invariant.Invariant.{HoldsAt, Sound}
use Rattle.theory_refinement.proofs.invariant.Suited.{Suits}
use Rattle.theory_refinement.proofs.claims.Lines.{gained_is}
use Rattle.theory_refinement.proofs.claims.Runs.{holds_after}
use Rattle.theory_refinement.proofs.claims.SoundnessLone.{high_barriers, no_follower}
use Rattle.theory_refinement.proofs.claims.SoundnessPath.{first_barrier, path, sources, values}
use Rattle.theory_refinement.proofs.claims.SoundnessPort.{memory_order, port}
use Rattle.theory_refinement.proofs.claims.SoundnessSidings.{sidings, stops}

-- the twelve parts
pub sound_is : {rest out : List ℕ} (plan : Plan) (s : State) (x : Machine) → Sound plan s rest out x →
    IsSound plan (record { state = s; rest = rest; output = out }) x
sound_is plan s x h = record {
  values = values plan s x h;
  path = path plan s x h;
  fetch = h.path_ends;
  first_barrier = first_barrier plan s x h;
  stops = stops plan s x h;
  sidings = sidings plan s x h;
  sources = sources plan s x h;
  no_follower = no_follower plan s x h;
  high_barriers = high_barriers plan s x h;
  memory_order = memory_order plan s x h;
  port = port plan s x h;
  cache = h.cache;
}

-- every moment of a run that has not ended is sound
pub run_sound : (plan : Plan) (x0 : Machine) (moves : List Move) → Suits plan → length x0.hart.regs ≡ 32 → IsRun plan (start plan x0) moves →
    (run plan (start plan x0) moves).state.ending ≡ None → IsSoundAfter plan x0 (run plan (start plan x0) moves)
run_sound plan x0 moves acc wide allowed e =
    let m = run plan (start plan x0) moves in
    let h = holds_after plan x0 moves acc wide allowed in
    record {
      at = h.machine;
      count = ap (after (isa_of plan) x0) (gained_is plan x0 m h) ∙ h.after;
      sound = sound_is plan m.state h.machine (subst (HoldsAt plan m.state m.rest m.output h.machine) e h.stage);
    }
