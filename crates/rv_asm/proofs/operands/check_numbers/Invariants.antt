use Rattle.std.proofs.Common.{◌≡◌}
use Rattle.std.specs.Prelude.{option_map}
use Rattle.rv_asm.specs.Operands.{operands_left, left_length, operand_texts, are_placeable}
use Rattle.rv_asm.proofs.operands.check_numbers.Given as goal

abbrev pub invariant-loop-rest : goal.invariant-loop-rest
invariant-loop-rest l =
    are_placeable l.width (operands_left (option_map (λ rest. rest.now) l.rest))
    ≡ are_placeable l.width (operand_texts l.text)

abbrev pub decreases-loop-rest : goal.decreases-loop-rest
decreases-loop-rest l = left_length (option_map (λ rest. rest.now) l.rest)
