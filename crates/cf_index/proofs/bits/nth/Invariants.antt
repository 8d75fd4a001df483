use Rattle.std.proofs.Common.{◌≡◌, ◌<◌, length}
use Rattle.std.specs.Prelude.{slice_get}
use Rattle.cf_index.specs.Places.{set_places}
use Rattle.cf_index.proofs.bits.nth.Given as goal

-- among what is left, the number that is wanted is the one after as many as have still to be passed
abbrev pub invariant-loop-left : goal.invariant-loop-left
invariant-loop-left l =
    record {
      same : slice_get (set_places 64 l.rest) l.left ≡ slice_get (set_places 64 l.word) l.i;
      more : l.left < length (set_places 64 l.rest);
    }

abbrev pub decreases-loop-left : goal.decreases-loop-left
decreases-loop-left l = l.left
