use Rattle.cf_layout.specs.Layout.{no_siding}
use Rattle.cf_layout.specs.Asked.{siding_plan}
use Rattle.cf_layout.proofs.Places.{place_taken}
use Rattle.cf_layout.proofs.laying.lay_sidings.Goals as goal

pub loop-index-preserved : goal.loop-index-preserved
loop-index-preserved c = place_taken siding_plan c.args.sidings.now c.loop-index.index c.index-sidings-index.result no_siding c.loop-index.places
    c.lay_siding.result c.loop-index-test.true c.requires.few c.index-sidings-index.is c.loop-index.invariant c.lay_siding.ensures
