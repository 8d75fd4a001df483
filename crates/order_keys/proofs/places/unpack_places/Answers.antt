-- One more place.
use Rattle.order_keys.proofs.PlacesRead.{one_read}
use Rattle.order_keys.proofs.places.unpack_places.Goals as goal

pub loop-i-preserved : goal.loop-i-preserved
loop-i-preserved c = record {
  read = one_read c.args.key.now c.loop-i.i c.loop-i.empty c.unpack_place.new.empty c.loop-i.key c.unpack_place.new.key c.unpack_place.result
      c.loop-i.places c.loop-i-test.true c.loop-i.invariant.read c.unpack_place.ensures;
}
