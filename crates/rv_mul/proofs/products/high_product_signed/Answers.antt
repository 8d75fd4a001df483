-- The upper half of the bits of a product of two signed words.
use Rattle.std.proofs.Common.{◌∙◌, ◌/◌, ◌^◌, ap}
use Rattle.rv_mul.proofs.Bits.{high_bits_signed}
use Rattle.rv_mul.proofs.products.high_product_signed.Goals as goal

pub returns : goal.returns
returns c =
    c.upper_half.ensures ∙ ap (λ n. n / 2 ^ 32) c.cast_unsigned.ensures
    ∙ high_bits_signed c.args.a c.args.b _ _ c.from.ensures c.from-2.ensures c.ranges.a c.ranges.b
