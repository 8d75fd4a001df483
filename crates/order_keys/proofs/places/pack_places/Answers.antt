-- The places that are still empty at the end are noted last.
use Rattle.order_keys.proofs.PlaceSteps.{all_packed}
use Rattle.order_keys.proofs.places.pack_places.Goals as goal

pub returns : goal.returns
returns c =
    all_packed c.args.places.now c.loop-place.place-index c.loop-place.empty c.loop-place.key.items c.pack-2.new.key.items _
    c.loop-place-test.false c.in_ok-pack-2.ensures c.loop-place.invariant.whole
