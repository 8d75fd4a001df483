use Rattle.std.proofs.Common.{◌≡◌, ◌+◌, ◌-◌, ◌≤◌, ◌==◌, drop}
use Rattle.std.specs.List.{prefix_len}
use Rattle.rv_text.proofs.writing.count_zeros.Given as goal

abbrev pub invariant-loop-zeros : goal.invariant-loop-zeros
invariant-loop-zeros l =
    (l.zeros ≤ 7)
    × (l.zeros + prefix_len (λ digit. digit == 48) (drop l.zeros l.digits) ≡ prefix_len (λ digit. digit == 48) l.digits)

abbrev pub decreases-loop-zeros : goal.decreases-loop-zeros
decreases-loop-zeros l = 8 - l.zeros
