-- The quotient of two signed words, as bits.
use Rattle.std.proofs.Common.{◌∙◌}
use Rattle.rv_mul.proofs.Bits.{quotient_bits}
use Rattle.rv_mul.proofs.products.quotient_signed.Goals as goal

pub returns : goal.returns
returns c = c.cast_unsigned.ensures ∙ quotient_bits c.args.a c.args.b _ c.wrapping_div.ensures c.ranges.a c.ranges.b
