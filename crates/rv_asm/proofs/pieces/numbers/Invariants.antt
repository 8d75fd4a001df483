use Rattle.std.proofs.Common.{◌≡◌, []}
use Rattle.std.specs.Prelude.{option_map}
use Rattle.rv_asm.specs.Operands.{operands_left, left_length, operand_texts}
use Rattle.rv_asm.specs.Pieces.{bytes_from}
use Rattle.rv_asm.proofs.pieces.numbers.Given as goal

abbrev pub invariant-loop-rest : goal.invariant-loop-rest
invariant-loop-rest l =
    bytes_from l.labels l.width l.bytes.items (operands_left (option_map (λ rest. rest.now) l.rest))
    ≡ bytes_from l.labels l.width [] (operand_texts l.text)

abbrev pub decreases-loop-rest : goal.decreases-loop-rest
decreases-loop-rest l = left_length (option_map (λ rest. rest.now) l.rest)
