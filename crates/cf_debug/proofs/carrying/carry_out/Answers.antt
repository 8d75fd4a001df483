use Rattle.std.proofs.Common.{refl, ap, subst}
use Rattle.cf_debug.specs.Commands.{AsksFew}
use Rattle.cf_debug.specs.Making.{processor_state}
use Rattle.cf_debug.specs.Replies.{CommandAnswers, CommandAnswersPart, debugger_state}
use Rattle.cf_debug.proofs.Answering.{as-command, as-told, carries-back, carries-nothing, carries-told}
use Rattle.cf_debug.proofs.carrying.carry_out.Goals as goal

pub show-requires : goal.show-requires
show-requires g c = subst AsksFew c.in-Show.is c.requires.few

pub returns-in-Nothing-clause-carries : goal.returns-in-Nothing-clause-carries
unfolding CommandAnswers
returns-in-Nothing-clause-carries g c = as-command _ _ _ _ _ _ _ c.in-Nothing.is (carries-nothing _ _ _ (refl, refl))

pub returns-in-Move-clause-carries : goal.returns-in-Move-clause-carries
returns-in-Move-clause-carries g c = as-command _ _ _ _ _ _ _ c.in-Move.is c.carry_move.ensures.carries

pub returns-in-Show-clause-carries : goal.returns-in-Show-clause-carries
unfolding CommandAnswers CommandAnswersPart
returns-in-Show-clause-carries g c = as-command _ _ _ _ _ _ _ c.in-Show.is (as-told _ _ _ _ _ _ _ c.told.ensures
    (carries-told _ _ _ _ _ _ _ _ _ (refl, refl) (refl, refl) c.show.ensures))

pub returns-in-Break-clause-carries : goal.returns-in-Break-clause-carries
unfolding CommandAnswers CommandAnswersPart
returns-in-Break-clause-carries g c =
    let set = ap (debugger_state (processor_state c.args.debugger.core.now c.args.debugger.ring.now (g.K.Sink.written c.args.output.now)))
    c.carry_break.ensures.stop in
    as-command _ _ _ _ _ _ _ c.in-Break.is (as-told _ _ _ _ _ _ _ c.told-in-Break.ensures (carries-told _ _ _ _ _ _ _ _ _ (set, refl)
    (set, refl) c.carry_break.ensures.puts))

pub returns-in-Back-clause-carries : goal.returns-in-Back-clause-carries
returns-in-Back-clause-carries g c = as-command _ _ _ _ _ _ _ c.in-Back.is (as-told _ _ _ _ _ _ _ c.told-in-Back.ensures
    (carries-back _ _ _ _ _ _ _ _ _ _ c.carry_back.ensures.puts))

pub returns-in-End-clause-carries : goal.returns-in-End-clause-carries
unfolding CommandAnswers
returns-in-End-clause-carries g c = as-command _ _ _ _ _ _ _ c.in-End.is (carries-nothing _ _ _ (refl, refl))
