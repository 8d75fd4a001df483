-- The upper half of the bits of a product of a signed and an unsigned word.
use Rattle.std.proofs.Common.{◌∙◌, ◌/◌, ◌^◌, ap}
use Rattle.rv_mul.proofs.Bits.{high_bits_mixed}
use Rattle.rv_mul.proofs.products.high_product_mixed.Goals as goal

pub returns : goal.returns
returns c =
    c.upper_half.ensures ∙ ap (λ n. n / 2 ^ 32) c.cast_unsigned.ensures
    ∙ high_bits_mixed c.args.a _ c.args.b _ c.from.ensures c.from-2.ensures c.ranges.a (c.ranges.b).fits
