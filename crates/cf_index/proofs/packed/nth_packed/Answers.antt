use Rattle.std.proofs.Common.{◌∙◌, ap, arith, Some}
use Rattle.cf_bind.specs.declared.moves.Move.{Move}
use Rattle.cf_index.proofs.PackedWords.{length_packed, picked}
use Rattle.cf_index.proofs.packed.nth_packed.Goals as goal

pub nth-requires : goal.nth-requires
nth-requires c = let same = length_packed c.args.word in omega (arith, same)

pub returns : goal.returns
returns c = ap (λ (m : Move). Some m) c.unpacked.ensures ∙ picked c.args.word c.nth.result c.args.i c.nth.ensures.number
