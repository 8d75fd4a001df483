use Rattle.std.proofs.Common.{◌≡◌, ◌-◌, ◌++◌, take, map, replicate}
use Rattle.cf_layout.specs.Layout.{no_siding}
use Rattle.cf_layout.specs.Asked.{siding_plan}
use Rattle.cf_layout.proofs.laying.lay_sidings.Given as goal

abbrev pub invariant-loop-index : goal.invariant-loop-index
invariant-loop-index l = l.places ≡ map siding_plan (take l.index l.sidings) ++ replicate (8 - l.index) no_siding
