use Rattle.std.proofs.Common.{◌≡◌, ◌+◌, ◌==◌, drop}
use Rattle.std.specs.List.{position_or_len}
use Rattle.rv_text.proofs.pieces.find_byte.Given as goal

abbrev pub invariant-loop-index : goal.invariant-loop-index
invariant-loop-index l =
    l.index + position_or_len (λ b. b == l.byte) (drop l.index l.text)
    ≡ position_or_len (λ b. b == l.byte) l.text
