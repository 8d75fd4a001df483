-- The theorems, for accepted layouts.
use Rattle.std.proofs.Common.{◌≡◌, ◌⊎◌, List, None, length}
use Rattle.rv_machine.specs.Machine.{Machine}
use Rattle.cf_layout.specs.Accepted.{IsAccepted}
use Rattle.cf_layout.specs.Layout.{Plan}
use Rattle.cf_bind.specs.declared.moves.Move.{Move}
use Rattle.cf_semantics.specs.moves.Bars.{bar}
use Rattle.cf_semantics.specs.claims.OnPath.{KeepsOrActsOnPath}
use Rattle.cf_semantics.specs.runs.Lines.{lines}
use Rattle.cf_semantics.specs.claims.Refines.{IsPrefix, Refines}
use Rattle.cf_semantics.specs.runs.Runs.{IsRun, run, start}
use Rattle.cf_semantics.specs.claims.SoundAfter.{IsSoundAfter}
use Rattle.theory_refinement.proofs.invariant.Invariant.{HoldsAfter}
use Rattle.theory_refinement.proofs.layouts.Accepted.{accepted_suits}
use Rattle.theory_refinement.proofs.claims.OnPath as heeds
use Rattle.theory_refinement.proofs.claims.Refines as refines
use Rattle.theory_refinement.proofs.claims.Runs as runs
use Rattle.theory_refinement.proofs.claims.Soundness as soundness

-- the invariant holds after every run
pub holds_after : (plan : Plan) (x0 : Machine) (moves : List Move) → IsAccepted plan → length x0.hart.regs ≡ 32 → IsRun plan (start plan x0) moves →
    HoldsAfter plan x0 (run plan (start plan x0) moves)
holds_after plan x0 moves acc wide allowed = runs.holds_after plan x0 moves (accepted_suits plan acc) wide allowed

-- what every run shows from outside is what the sequential machine does
pub run_refines : (plan : Plan) (x0 : Machine) (moves : List Move) → IsAccepted plan → length x0.hart.regs ≡ 32 → IsRun plan (start plan x0) moves →
    Refines plan x0 (lines plan (start plan x0) moves) (run plan (start plan x0) moves)
run_refines plan x0 moves acc wide allowed = refines.run_refines plan x0 moves (accepted_suits plan acc) wide allowed

-- of the lines of two runs, under any two accepted layouts, one list is a prefix of the other
pub lines_prefix : (plan other : Plan) (x0 : Machine) (moves others : List Move) → IsAccepted plan → IsAccepted other → length x0.hart.regs ≡ 32 →
    IsRun plan (start plan x0) moves → IsRun other (start other x0) others → IsPrefix (lines plan (start plan x0) moves) (lines other (start other x0) others)
    ⊎ IsPrefix (lines other (start other x0) others) (lines plan (start plan x0) moves)
lines_prefix plan other x0 moves others acc accepted wide allowed permitted = refines.lines_prefix plan other x0 moves others (accepted_suits plan acc)
    (accepted_suits other accepted) wide allowed permitted

-- off the sequential path no move changes anything that shows from outside
pub run_heeds : (plan : Plan) (x0 : Machine) (moves : List Move) (mv : Move) → IsAccepted plan → length x0.hart.regs ≡ 32 → IsRun plan (start plan x0) moves →
    bar plan (run plan (start plan x0) moves).state mv ≡ None → KeepsOrActsOnPath plan x0 (run plan (start plan x0) moves) mv
run_heeds plan x0 moves mv acc wide allowed free = heeds.run_heeds plan x0 moves mv (accepted_suits plan acc) wide allowed free

-- every moment of a run that has not ended is sound, over the machine after as many steps as have retired
pub run_sound : (plan : Plan) (x0 : Machine) (moves : List Move) → IsAccepted plan → length x0.hart.regs ≡ 32 → IsRun plan (start plan x0) moves →
    (run plan (start plan x0) moves).state.ending ≡ None → IsSoundAfter plan x0 (run plan (start plan x0) moves)
run_sound plan x0 moves acc wide allowed going = soundness.run_sound plan x0 moves (accepted_suits plan acc) wide allowed going
