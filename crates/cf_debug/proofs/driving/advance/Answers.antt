use Rattle.cf_debug.specs.Making.{processor_state}
use Rattle.cf_debug.proofs.InTurn.{chosen-allowed, chosen-next, chosen-pick, offered-offers, steers-aground, steers-on, steers-unshown}
use Rattle.cf_debug.proofs.driving.advance.Goals as goal

pub choose-mv-requires : goal.choose-mv-requires
choose-mv-requires g c = offered-offers _ _ _ c.requires.stages c.requires.rule c.requires.some

pub make-requires-clause-allowed : goal.make-requires-clause-allowed
make-requires-clause-allowed g c = chosen-allowed _ _ (processor_state c.args.core.now c.args.ring.now (g.K.Sink.written c.args.output.now)) _
    c.requires.stages c.requires.rule
    c.choose-mv.ensures.choice

pub returns-in-Ok-put_retirement-clause-steers : goal.returns-in-Ok-put_retirement-clause-steers
returns-in-Ok-put_retirement-clause-steers g c =
    steers-on _ _ _ _ _ _ _ _ _ _ _ _ _ c.requires.goes (chosen-pick _ _ (processor_state c.args.core.now c.args.ring.now (g.K.Sink.written c.args.output.now))
    _ c.requires.stages c.requires.rule c.choose-mv.ensures.choice) c.in-Ok.ensures.makes c.breaks-last.ensures
    (chosen-next _ _ _ _ (processor_state c.args.core.now c.args.ring.now (g.K.Sink.written c.args.output.now))
    (processor_state c.make.new.core c.make.new.ring (g.K.Sink.written c.make.new.output)) _ _ _ c.requires.stages c.requires.rule c.drained.ensures
    c.saw.ensures.value
    c.choose-mv.ensures.onward) c.in-Ok-put_retirement.ensures

pub returns-in-Err-put_retirement-clause-steers : goal.returns-in-Err-put_retirement-clause-steers
returns-in-Err-put_retirement-clause-steers g c =
    steers-unshown _ _ _ _ _ _ _ _ _ _ _ _ c.requires.goes (chosen-pick _ _ (processor_state c.args.core.now c.args.ring.now
    (g.K.Sink.written c.args.output.now)) _ c.requires.stages c.requires.rule c.choose-mv.ensures.choice) c.in-Ok.ensures.makes c.in-Err-put_retirement.ensures

pub returns-in-Err-clause-steers : goal.returns-in-Err-clause-steers
returns-in-Err-clause-steers g c = steers-aground _ _ _ _ _ _ _ _ c.requires.goes (chosen-pick _ _
    (processor_state c.args.core.now c.args.ring.now (g.K.Sink.written c.args.output.now)) _ c.requires.stages c.requires.rule c.choose-mv.ensures.choice)
    c.in-Err.ensures.makes
