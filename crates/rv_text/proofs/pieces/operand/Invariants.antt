use Rattle.std.proofs.Common.{◌≡◌, ◌+◌, ℕ, []}
use Rattle.std.specs.Prelude.{slice_index_or}
use Rattle.rv_text.specs.Pieces.{pieces}
use Rattle.rv_text.proofs.pieces.operand.Given as goal

-- the remaining pieces are those from the index on
abbrev pub invariant-loop-skipped : goal.invariant-loop-skipped
invariant-loop-skipped l =
    (k : ℕ) → slice_index_or (pieces l.rest) k [] ≡ slice_index_or (pieces l.text) (k + l.skipped) []
