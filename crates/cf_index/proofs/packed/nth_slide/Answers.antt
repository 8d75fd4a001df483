use Rattle.std.proofs.Common.{arith}
use Rattle.cf_index.proofs.Parts.{length-slides_of, of_slides}
use Rattle.cf_index.proofs.packed.nth_slide.Goals as goal

pub nth-place-requires : goal.nth-place-requires
nth-place-requires c = let same = length-slides_of c.args.slides in omega (arith, same)

pub returns : goal.returns
returns c = of_slides c.args.slides c.nth-place.result c.args.i c.nth-place.ensures.number
