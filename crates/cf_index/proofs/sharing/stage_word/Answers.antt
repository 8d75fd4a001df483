use Rattle.std.proofs.Common.{◌∙◌}
use Rattle.cf_index.proofs.SiteWords.{one_stage}
use Rattle.cf_index.proofs.sharing.stage_word.Goals as goal

pub returns : goal.returns
returns c = λ k. c.with_bit.ensures k ∙ one_stage k c.args.i c.requires.first
