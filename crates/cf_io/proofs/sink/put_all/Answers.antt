use Rattle.std.proofs.Common.{arith, ◌∙◌}
use Rattle.cf_io.proofs.PutLoop.{writes-add, rest-from}
use Rattle.cf_io.proofs.sink.put_all.Goals as goal

pub loop-done-preserved : goal.loop-done-preserved
loop-done-preserved g c = record {
  within = omega (arith, c.in_ok-done.ensures.bytes.count);
  told = writes-add _ _ _ _ _ _ c.loop-done.invariant.told
      (rw rest-from at c.in_ok-done.ensures.bytes.told);
  still = c.in_ok-done.ensures.cause.still ∙ c.loop-done.invariant.still;
}
