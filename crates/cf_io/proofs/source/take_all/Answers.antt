use Rattle.std.proofs.Common.{arith, refl, ◌∙◌}
use Rattle.std.proofs.lemmas.List.{length-take, length-drop}
use Rattle.cf_io.proofs.TakeLoop.{takes_more, most_at_end, length-put_mid}
use Rattle.cf_io.proofs.source.take_all.Goals as goal

pub loop-done-preserved : goal.loop-done-preserved
loop-done-preserved g c = let before = c.loop-done.invariant in let take = c.in_ok-count.ensures in record {
  taken = takes_more _ _ _ _ c.loop-done.into c.take.new.into c.loop-done.done c.in_ok-count.count _
      before.same_length c.take.auto.into before.taken take.bytes refl;
  same_length = length-put_mid c.loop-done.done c.loop-done.into c.take.new.into
      (omega (arith, before.taken.count, before.same_length)) c.take.auto.into ∙ before.same_length;
  still = take.cause.still ∙ before.still;
}

pub returns-then-count-eq0-clause-bytes : goal.returns-then-count-eq0-clause-bytes
returns-then-count-eq0-clause-bytes g c = let before = c.loop-done.invariant in let take = c.in_ok-count.ensures in record {
  taken = takes_more _ _ _ _ c.loop-done.into c.take.new.into c.loop-done.done c.in_ok-count.count _
      before.same_length c.take.auto.into before.taken take.bytes refl;
  most = most_at_end _ _ _ _ _ _ before.taken.count c.if-count-eq0.true before.taken.told
      (take.bytes.end c.if-count-eq0.true (rw (length-take, length-drop) (omega arith)));
  failed = tt;
}
