use Rattle.std.proofs.Common.{refl, ◌∙◌}
use Rattle.cf_run.specs.Moving.{MoveDoes}
use Rattle.cf_index.proofs.There.{has_sidings}
use Rattle.cf_rounds.proofs.Making.{fired-allowed, fired-more, fired-none, fired-room, fired-unread, fired-unwritten}
use Rattle.cf_rounds.proofs.firing.fire.Goals as goal

pub loop-place-init : goal.loop-place-init
loop-place-init g c = record {
  fired = fired-none _ _ _ c.layout.ensures.facts (has_sidings _ _ c.layout.ensures.facts) c.requires.round;
  input = refl;
  output = refl;
}

pub make_and_show-requires-clause-allowed : goal.make_and_show-requires-clause-allowed
make_and_show-requires-clause-allowed g c = fired-allowed _ _ _ _ _ _ _ _ _ c.loop-place.invariant.fired c.get-mv.ensures

pub make_and_show-requires-clause-retired : goal.make_and_show-requires-clause-retired
make_and_show-requires-clause-retired g c = fired-room _ _ _ _ _ _ _ _ _ _ c.loop-place.invariant.fired c.get-mv.ensures c.requires.retired

pub returns-in-Err-ReadFault-clause-fires : goal.returns-in-Err-ReadFault-clause-fires
returns-in-Err-ReadFault-clause-fires g c =
    fired-unread _ _ _ _ _ _ _ _ _ _ c.loop-place.invariant.fired c.get-mv.ensures (rw c.in-Err-ReadFault.field-0-is at c.in-Err-ReadFault.ensures.does)

pub returns-in-Err-WriteFault-clause-fires : goal.returns-in-Err-WriteFault-clause-fires
returns-in-Err-WriteFault-clause-fires g c =
    fired-unwritten _ _ _ _ _ _ _ _ _ _ c.loop-place.invariant.fired c.get-mv.ensures (rw c.in-Err-WriteFault.field-0-is at c.in-Err-WriteFault.ensures.does)

pub unreachable-requires-in-Err-Exit : goal.unreachable-requires-in-Err-Exit
unfolding MoveDoes
unreachable-requires-in-Err-Exit g c = rw c.in-Err-Exit.field-0-is at c.in-Err-Exit.ensures.does

pub unreachable-requires-in-Err-Trap : goal.unreachable-requires-in-Err-Trap
unfolding MoveDoes
unreachable-requires-in-Err-Trap g c = rw c.in-Err-Trap.field-0-is at c.in-Err-Trap.ensures.does

pub unreachable-requires-in-Err-Limit : goal.unreachable-requires-in-Err-Limit
unfolding MoveDoes
unreachable-requires-in-Err-Limit g c = rw c.in-Err-Limit.field-0-is at c.in-Err-Limit.ensures.does

pub loop-place-preserved : goal.loop-place-preserved
loop-place-preserved g c = record {
  fired = fired-more _ _ _ _ _ _ _ _ _ _ _ _ _ _ c.loop-place.invariant.fired c.get-mv.ensures c.in-Ok.ensures.does c.drained.ensures c.saw.ensures.counted
      c.with_event-fired.ensures;
  input = c.in-Ok.ensures.input.still ∙ c.loop-place.invariant.input;
  output = c.in-Ok.ensures.output.still ∙ c.loop-place.invariant.output;
}
