use Rattle.cf_index.proofs.Filled.{slides_chosen}
use Rattle.cf_index.proofs.fill.slides.Goals as goal

pub returns : goal.returns
returns c = slides_chosen c.args.core.now.plan c.args.core.now.state c.slides.result c.layout-layout.ensures.facts c.slides.ensures
