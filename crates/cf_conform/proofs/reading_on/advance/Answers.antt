use Rattle.std.proofs.Common.{refl}
use Rattle.cf_conform.proofs.Causes.{ends-log, ends-output}
use Rattle.cf_conform.proofs.Going.{line-within}
use Rattle.cf_conform.proofs.Turning.{turns-end, turns-last, turns-last-stop, turns-limit, turns-line, turns-long, turns-stop, turns-unread}
use Rattle.cf_conform.proofs.reading_on.advance.Goals as goal

pub returns-then-is_limited-clause-turns : goal.returns-then-is_limited-clause-turns
returns-then-is_limited-clause-turns g c = turns-limit _ _ _ _ _ (c.is_limited.ensures.yes c.if-is_limited.true)

pub returns-in-Ok-clause-turns : goal.returns-in-Ok-clause-turns
returns-in-Ok-clause-turns g c =
    turns-line _ _ _ _ _ _ _ _ _ (c.is_limited.ensures.no c.if-is_limited.false) c.in-Line.ensures.feeds c.line.ensures c.in-Ok.ensures.does

pub returns-in-Err-clause-turns : goal.returns-in-Err-clause-turns
returns-in-Err-clause-turns g c =
    turns-stop _ _ _ _ _ _ _ _ _ _ _ (c.is_limited.ensures.no c.if-is_limited.false) c.in-Line.ensures.feeds c.line.ensures c.in-Err.ensures.does
    c.stopped_at.ensures

pub at_end-requires : goal.at_end-requires
at_end-requires g c =
    line-within _ _ _ _ c.requires.retired (c.is_limited.ensures.no c.if-is_limited.false) c.in-Ok-judge_line.ensures.does

pub returns-in-Ok-judge_line-clause-turns : goal.returns-in-Ok-judge_line-clause-turns
returns-in-Ok-judge_line-clause-turns g c =
    turns-last _ _ _ _ _ _ _ _ _ _ (c.is_limited.ensures.no c.if-is_limited.false) c.in-Last.ensures.feeds c.line-in-Last.ensures
    c.in-Ok-judge_line.ensures.does c.at_end.ensures

pub returns-in-Ok-judge_line-clause-log : goal.returns-in-Ok-judge_line-clause-log
returns-in-Ok-judge_line-clause-log g c = ends-log _ _ _ _ _ c.at_end.ensures c.in-Last.ensures.cause.still

pub returns-in-Ok-judge_line-clause-output : goal.returns-in-Ok-judge_line-clause-output
returns-in-Ok-judge_line-clause-output g c = ends-output _ _ _ _ _ c.at_end.ensures c.in-Ok-judge_line.ensures.output.still

pub returns-in-Err-judge_line-clause-turns : goal.returns-in-Err-judge_line-clause-turns
returns-in-Err-judge_line-clause-turns g c =
    turns-last-stop _ _ _ _ _ _ _ _ _ _ _ (c.is_limited.ensures.no c.if-is_limited.false) c.in-Last.ensures.feeds c.line-in-Last.ensures
    c.in-Err-judge_line.ensures.does c.stopped_at-in-Err-judge_line.ensures

pub returns-in-TooLong-clause-turns : goal.returns-in-TooLong-clause-turns
returns-in-TooLong-clause-turns g c =
    turns-long _ _ _ _ _ _ _ _ (c.is_limited.ensures.no c.if-is_limited.false) c.in-TooLong.ensures.feeds c.stopped_at-in-TooLong.ensures

pub returns-in-AtEnd-clause-turns : goal.returns-in-AtEnd-clause-turns
returns-in-AtEnd-clause-turns g c = turns-end _ _ _ _ _ _ _ _ c.in-AtEnd.ensures.feeds c.at_end-in-AtEnd.ensures

pub returns-in-AtEnd-clause-log : goal.returns-in-AtEnd-clause-log
returns-in-AtEnd-clause-log g c = ends-log _ _ _ _ _ c.at_end-in-AtEnd.ensures c.in-AtEnd.ensures.cause.still

pub returns-in-AtEnd-clause-output : goal.returns-in-AtEnd-clause-output
returns-in-AtEnd-clause-output g c = ends-output _ _ _ _ _ c.at_end-in-AtEnd.ensures refl

pub returns-in-Fault-clause-turns : goal.returns-in-Fault-clause-turns
returns-in-Fault-clause-turns g c = turns-unread _ _ _ _ _ _ _ (c.is_limited.ensures.no c.if-is_limited.false) c.in-Fault.ensures.feeds
