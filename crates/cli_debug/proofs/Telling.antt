-- What a session wrote to its report, as if the report had been empty before.
use Rattle.std.proofs.Common.{◌≢◌, ℕ, List, [], ◌++◌, Option, Some, refl, sym, subst, inl, inr}
use Rattle.cf_io.specs.Puts.{Writes}
use Rattle.cf_io.proofs.Owing.{writes-again}
use Rattle.cf_debug.specs.declared.answer.Debugged.{Debugged}
use Rattle.cf_debug.specs.declared.answer.Debugged.TheVariants.{Done, Limit, ReadFault, WriteFault, ReportFault}
use Rattle.cf_debug.specs.Replies.{DebuggerState}
use Rattle.cf_debug.specs.Sessions.{AnswersWhole, LineLeaves, EndsAtFault, EndsAtLast, EndsAtLimit, EndsAtLine, EndsSession, Session}

-- the session with this in its report
abbrev pub reporting : Session → List ℕ → Session
reporting s told = record s { report = Some told }

-- this was written to the report, and the session ends in the same way over an empty one
pub record Tells (before after : Session) (begin new : DebuggerState) (ended : Debugged) : Type 0 where
  pub lines : List ℕ
  pub put : Writes before.report after.report lines
  pub ends : EndsSession (reporting before []) (reporting after lines) begin new ended

-- by `end`
tells-end : (before after : Session) (begin new : DebuggerState) → EndsAtLine before after begin new Done → Tells before after begin new Done
unfolding LineLeaves EndsSession
tells-end before after begin new e =
    let text : List ℕ = e.answers.0 in
    record {
      lines = text;
      put = subst (λ (told : Option (List ℕ)). Writes before.report told text) (sym e.ends.2) e.answers.2;
      ends = inl (record {
        bytes = e.bytes;
        taken = e.taken;
        lines = e.lines;
        line = e.line;
        is_next = e.is_next;
        now = e.now;
        written = Some text;
        answers = (text, e.answers.1, refl);
        ends = (e.ends.0, e.ends.1, refl);
      });
    }

-- at the end of the commands
tells-last : (before after : Session) (begin new : DebuggerState) → EndsAtLast before after begin new → Tells before after begin new Done
unfolding EndsSession
tells-last before after begin new e = record {
  lines = e.answers.0;
  put = e.answers.2;
  ends = inr (record {
    bytes = e.bytes;
    taken = e.taken;
    all = e.all;
    lines = e.lines;
    unfinished = e.unfinished;
    has = e.has;
    answers = (e.answers.0, e.answers.1, refl);
  });
}

-- the whole lines, over an empty report
whole : (bytes : List ℕ) (begin now : DebuggerState) (written after : Option (List ℕ)) (a : AnswersWhole bytes begin now written after) →
    AnswersWhole bytes begin now (Some []) (Some a.answers.0)
whole bytes begin now written after a = record {
  lines = a.lines;
  unfinished = a.unfinished;
  has = a.has;
  answers = (a.answers.0, a.answers.1, refl);
}

-- if a take failed
tells-fault : (before after : Session) (begin new : DebuggerState) → EndsAtFault before after begin new → Tells before after begin new ReadFault
unfolding EndsSession
tells-fault before after begin new e = record {
  lines = e.answers.answers.0;
  put = e.answers.answers.2;
  ends = record {
    bytes = e.bytes;
    taken = e.taken;
    answers = whole e.bytes begin new before.report after.report e.answers;
  };
}

-- at the limit
tells-limit : (before after : Session) (begin new : DebuggerState) → EndsAtLimit before after begin new → Tells before after begin new Limit
unfolding EndsSession
tells-limit before after begin new e = record {
  lines = e.answers.answers.0;
  put = e.answers.answers.2;
  ends = record {
    bytes = e.bytes;
    more = e.more;
    gives = e.gives;
    size = e.size;
    answers = whole e.bytes begin new before.report after.report e.answers;
  };
}

-- if the output failed
tells-output : (before after : Session) (begin new : DebuggerState) → EndsAtLine before after begin new WriteFault → Tells before after begin new WriteFault
unfolding LineLeaves EndsSession
tells-output before after begin new e =
    let text : List ℕ = e.answers.0 in
    let more : List ℕ = e.ends.0 in
    record {
      lines = text ++ more;
      put = writes-again before.report e.written after.report text more e.answers.2 e.ends.2;
      ends = record {
        bytes = e.bytes;
        taken = e.taken;
        lines = e.lines;
        line = e.line;
        is_next = e.is_next;
        now = e.now;
        written = Some text;
        answers = (text, e.answers.1, refl);
        ends = (more, e.ends.1, refl);
      };
    }

pub tells : (before after : Session) (begin new : DebuggerState) (ended : Debugged) → ended ≢ ReportFault →
    EndsSession before after begin new ended → Tells before after begin new ended
unfolding EndsSession
tells before after begin new Done works (inl e) = tells-end before after begin new e
tells before after begin new Done works (inr e) = tells-last before after begin new e
tells before after begin new Limit works e = tells-limit before after begin new e
tells before after begin new ReadFault works e = tells-fault before after begin new e
tells before after begin new WriteFault works e = tells-output before after begin new e
tells before after begin new ReportFault works e = absurd (works refl)
