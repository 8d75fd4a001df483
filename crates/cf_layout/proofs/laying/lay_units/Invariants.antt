use Rattle.std.proofs.Common.{◌≡◌, length, take, map}
use Rattle.cf_layout.specs.Layout.{computed_classes}
use Rattle.cf_layout.specs.Asked.{ascending, stages_listed}
use Rattle.cf_layout.proofs.laying.lay_units.Given as goal

abbrev pub invariant-loop-place : goal.invariant-loop-place
invariant-loop-place l = record {
  laid : take l.place l.sets ≡ map (λ c. ascending (stages_listed l.units c)) (take l.place computed_classes);
  room : length l.sets ≡ 9;
}
