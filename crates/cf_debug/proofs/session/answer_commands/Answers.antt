use Rattle.std.proofs.Common.{refl, ◌∙◌}
use Rattle.cf_debug.proofs.Answering.{finishes-fed, uses-fed}
use Rattle.cf_debug.proofs.OnRun.{finishes-on_run, uses-on_run, uses-stand}
use Rattle.cf_debug.proofs.Sessions.{comes-first, comes-more, comes-nearer, ends-at_line, ends-byte, ends-fault, ends-last, ends-limit, goes-more}
use Rattle.cf_debug.proofs.Standing.{stands-first, stands-on_run}
use Rattle.cf_debug.proofs.session.answer_commands.Goals as goal

pub loop-byte-init : goal.loop-byte-init
loop-byte-init g c = record {
  same = refl;
  comes = comes-first _ _ _ _ c.new-line.ensures c.new-feed.ensures c.requires.left;
  going = c.requires.going;
  stands = stands-first _ _ _ c.requires.opened c.known.ensures.registers c.requires.ring;
  accepted = c.known.ensures.accepted;
  commands = refl;
  output = refl;
  report = refl;
}

pub returns-in-Some-clause-session : goal.returns-in-Some-clause-session
returns-in-Some-clause-session g c = record {
  stop = c.use_byte.new.debugger.1.1.1.0;
  ends = ends-at_line _ _ _ _ _ (ends-byte _ _ _ _ _ _ _ _ _ _ _ _ _ _ c.loop-byte.invariant.comes c.in-Byte.ensures.feeds c.in-Some.ensures.uses);
}

pub returns-in-Some-clause-on_run : goal.returns-in-Some-clause-on_run
returns-in-Some-clause-on_run g c = uses-on_run _ _ _ _ _ _ _ _ _ _ c.loop-byte.invariant.accepted c.loop-byte.invariant.stands c.in-Some.ensures.uses

pub returns-in-Some-clause-commands : goal.returns-in-Some-clause-commands
returns-in-Some-clause-commands g c = uses-fed _ _ _ _ _ _ _ _ _ _ (c.in-Byte.ensures.cause.still ∙ c.loop-byte.invariant.commands) c.in-Some.ensures.uses

pub loop-byte-smaller : goal.loop-byte-smaller
loop-byte-smaller g c = comes-nearer _ _ _ _ _ c.in-Byte.ensures.feeds

pub loop-byte-preserved : goal.loop-byte-preserved
loop-byte-preserved g c = record {
  same = c.in-Byte.ensures.same ∙ c.loop-byte.invariant.same;
  comes = comes-more _ _ _ _ _ _ _ _ _ _ _ _ _ c.loop-byte.invariant.comes c.in-Byte.ensures.feeds c.in_default.ensures.uses;
  going = goes-more _ _ _ _ _ c.in-Byte.ensures.feeds;
  stands = uses-stand _ _ _ _ _ _ _ _ _ c.loop-byte.invariant.stands c.in_default.ensures.uses;
  accepted = c.loop-byte.invariant.accepted;
  commands = c.in-Byte.ensures.cause.still ∙ c.loop-byte.invariant.commands;
  output = c.in_default.ensures.output.still ∙ c.loop-byte.invariant.output;
  report = c.in_default.ensures.report.still ∙ c.loop-byte.invariant.report;
}

pub returns-in-AtEnd-clause-session : goal.returns-in-AtEnd-clause-session
returns-in-AtEnd-clause-session g c = record {
  stop = c.finish.new.debugger.1.1.1.0;
  ends = ends-last _ _ _ _ _ _ _ _ _ _ _ _ c.loop-byte.invariant.comes c.in-AtEnd.ensures.feeds c.finish.ensures.finishes;
}

pub returns-in-AtEnd-clause-on_run : goal.returns-in-AtEnd-clause-on_run
returns-in-AtEnd-clause-on_run g c = finishes-on_run _ _ _ _ _ _ _ _ c.loop-byte.invariant.accepted c.loop-byte.invariant.stands c.finish.ensures.finishes

pub returns-in-AtEnd-clause-commands : goal.returns-in-AtEnd-clause-commands
returns-in-AtEnd-clause-commands g c = finishes-fed _ _ _ _ _ _ _ _ (c.in-AtEnd.ensures.cause.still ∙ c.loop-byte.invariant.commands) c.finish.ensures.finishes

pub returns-in-TooMany-clause-session : goal.returns-in-TooMany-clause-session
returns-in-TooMany-clause-session g c = record {
  stop = c.loop-byte.stop;
  ends = ends-limit _ _ _ _ _ _ _ _ _ c.loop-byte.invariant.comes c.in-TooMany.ensures.feeds;
}

pub returns-in-TooMany-clause-on_run : goal.returns-in-TooMany-clause-on_run
returns-in-TooMany-clause-on_run g c = stands-on_run _ _ _ _ _ _ c.loop-byte.invariant.accepted (λ x m begin new s. s) c.loop-byte.invariant.stands

pub returns-in-Fault-clause-session : goal.returns-in-Fault-clause-session
returns-in-Fault-clause-session g c = record {
  stop = c.loop-byte.stop;
  ends = ends-fault _ _ _ _ _ _ _ _ _ c.loop-byte.invariant.comes c.in-Fault.ensures.feeds;
}

pub returns-in-Fault-clause-on_run : goal.returns-in-Fault-clause-on_run
returns-in-Fault-clause-on_run g c = stands-on_run _ _ _ _ _ _ c.loop-byte.invariant.accepted (λ x m begin new s. s) c.loop-byte.invariant.stands
