use Rattle.std.proofs.Common.{◌∙◌, sym}
use Rattle.cf_index.proofs.EmptySidings.{no_slides}
use Rattle.cf_index.proofs.Parts.{slides_of-zero}
use Rattle.cf_index.proofs.packing.slides_unless.Goals as goal

pub returns-then-idle : goal.returns-then-idle
returns-then-idle c = slides_of-zero ∙ sym (no_slides c.args.core.now.plan c.args.core.now.state (c.requires c.if-idle.true))
