-- The progress of a session: one more byte, and how it ends.
use Rattle.std.proofs.Common.{◌≡◌, ◌≢◌, ℕ, ◌+◌, ◌<◌, ◌≤◌, List, [], ◌∷◌, ◌++◌, length, Option, Some, None, Ok, Err, refl, sym, ap, subst, ◌∙◌, append-nil, append_assoc, inl, inr, arith}
use Rattle.std.specs.Prelude.{◌⊎◌, Result, false}
use Rattle.std.proofs.lemmas.List.{length-append}
use Rattle.cf_io.specs.Causes.{HasCause}
use Rattle.cf_io.specs.Puts.{Writes}
use Rattle.cf_io.specs.Takes.{IsAtEnd}
use Rattle.cf_io.proofs.Owing.{writes-again, front-again}
use Rattle.rv_machine.specs.Streams.{GivesInput, IsTold}
use Rattle.rv_text.specs.Lines.{without_return}
use Rattle.cf_core.specs.Processors.{Processor}
use Rattle.cf_debug.specs.declared.answer.Debugged.{Debugged}
use Rattle.cf_debug.specs.declared.answer.Debugged.TheVariants.{Done, Limit, ReadFault, WriteFault, ReportFault}
use Rattle.cf_debug.specs.declared.feed.Next.TheVariants.{Byte, AtEnd, TooMany, Fault}
use Rattle.cf_debug.specs.Commands.{command_in}
use Rattle.cf_debug.specs.Cutting.{Feeding, Feeds, HasLines, held_line, last_line}
use Rattle.cf_debug.specs.Limits.{most_bytes, most_taken}
use Rattle.cf_debug.specs.Making.{ProcessorState}
use Rattle.cf_debug.specs.Replies.{DebuggerState, debugger_state, AnswersAll}
use Rattle.cf_debug.specs.Sessions.{AnswersLines, AnswersWhole, Debugs, LineLeaves, EndsAtFault, EndsAtLast, EndsAtLimit, EndsAtLine, EndsSession, FinishesSession, IsNext, Session, Taken, UsesByte, session_of}
use Rattle.cf_debug.proofs.Answering.{answers-more, ends-same}
use Rattle.cf_debug.proofs.Standing.{nothing-written}
use Rattle.cf_debug.proofs.Cutting.{gives-again, gives-none, has-byte, has-end, has-none, held-last, held-more, held-none, held-some, held-whole}

-- the bytes that were used so far: their whole lines are answered, and this is kept of the unfinished one
pub record Comes (before : Session) (begin now : DebuggerState) (commands report : Option (List ℕ)) (line : List ℕ) (feed : Feeding) : Type 0 where
  pub used : List ℕ
  pub gives : GivesInput before.commands commands (used ++ feed.rest)
  pub size : length (used ++ feed.rest) + feed.left ≡ most_bytes
  pub few : length feed.rest < most_taken
  pub lines : List (List ℕ)
  pub unfinished : List ℕ
  pub has : HasLines used lines unfinished
  pub line_is : line ≡ held_line unfinished
  pub answers : AnswersLines lines begin now before.report report

-- before the first byte
pub comes-first : (before : Session) (begin : DebuggerState) (line : List ℕ) (feed : Feeding) → line ≡ [] → feed.rest ≡ [] → feed.left ≡ most_bytes →
    Comes before begin begin before.commands before.report line feed
unfolding AnswersAll
comes-first before begin line feed empty none all =
    record {
      used = [];
      gives = subst (GivesInput before.commands before.commands) (sym none) (gives-none before.commands);
      size = omega (arith, ap length none, all);
      few = omega (arith, ap length none);
      lines = [];
      unfinished = [];
      has = has-none;
      line_is = empty;
      answers = ([], (refl, refl), nothing-written before.report);
    }

-- what was taken, with the byte that is used next
record Fed (before : Session) (after : Option (List ℕ)) (used : List ℕ) (byte : ℕ) (feed : Feeding) : Type 0 where
  gives : GivesInput before.commands after ((used ++ byte ∷ []) ++ feed.rest)
  size : length ((used ++ byte ∷ []) ++ feed.rest) + feed.left ≡ most_bytes
  few : length feed.rest < most_taken

fed : (before : Session) (begin now : DebuggerState) (commands after report : Option (List ℕ)) (line : List ℕ) (feed next : Feeding) (byte : ℕ) →
    (c : Comes before begin now commands report line feed) → Feeds commands after feed next (Byte byte) → Fed before after c.used byte next
unfolding Feeds
fed before begin now commands after report line feed next byte c (taken, gives, is, left, few, going) =
    let all : (c.used ++ feed.rest) ++ taken ≡ (c.used ++ byte ∷ []) ++ next.rest =
    append_assoc c.used feed.rest taken ∙ ap (λ (r : List ℕ). c.used ++ r) is ∙ sym (append_assoc c.used (byte ∷ []) next.rest) in
    record {
      gives = subst (GivesInput before.commands after) all (gives-again before.commands commands after (c.used ++ feed.rest) taken c.gives gives);
      size = omega (arith, c.size, left, ap length all, length-append (c.used ++ feed.rest) taken);
      few = few;
    }

-- answers with one more line
answers_again : (lines : List (List ℕ)) (line : List ℕ) (begin now new : DebuggerState) (written between after : Option (List ℕ)) →
    AnswersLines lines begin now written between → LineLeaves line now new between after None → AnswersLines (lines ++ line ∷ []) begin new written after
unfolding LineLeaves
answers_again lines line begin now new written between after (first, all, put) (text, h, more) =
    (first ++ text, answers-more lines line begin now new first text all h, writes-again written between after first text put more)

-- one more byte, with which the session goes on
pub comes-more : (before : Session) (begin now new : DebuggerState) (commands fed_commands report after : Option (List ℕ)) (line later : List ℕ)
    (feed next : Feeding) (byte : ℕ) → Comes before begin now commands report line feed → Feeds commands fed_commands feed next (Byte byte) →
    UsesByte byte line later now new report after None
    → Comes before begin new fed_commands after later next
comes-more before begin now new commands fed_commands report after line later feed next byte c feeds (inl (other, held_is, same, still, goes)) =
    let f = fed before begin now commands fed_commands report line feed next byte c feeds in
    record {
      used = c.used ++ byte ∷ [];
      gives = f.gives;
      size = f.size;
      few = f.few;
      lines = c.lines;
      unfinished = c.unfinished ++ byte ∷ [];
      has = has-byte c.used c.lines c.unfinished byte c.has other;
      line_is = held_is ∙ ap (λ (l : List ℕ). held_line (l ++ byte ∷ [])) c.line_is ∙ held-more c.unfinished byte;
      answers = subst (λ (d : DebuggerState). AnswersLines c.lines begin d before.report after) (sym same)
          (subst (λ (o : Option (List ℕ)). AnswersLines c.lines begin now before.report o) (sym still) c.answers);
    }
comes-more before begin now new commands fed_commands report after line later feed next byte c feeds (inr (end, empty, ends)) =
    let f = fed before begin now commands fed_commands report line feed next byte c feeds in
    let whole : List ℕ = without_return c.unfinished in
    let same : command_in (without_return line) ≡ command_in whole = ap (λ (l : List ℕ). command_in (without_return l)) c.line_is ∙ held-whole c.unfinished in
    record {
      used = c.used ++ byte ∷ [];
      gives = f.gives;
      size = f.size;
      few = f.few;
      lines = c.lines ++ whole ∷ [];
      unfinished = [];
      has = subst (λ (b : ℕ). HasLines (c.used ++ b ∷ []) (c.lines ++ whole ∷ []) []) (sym end) (has-end c.used c.lines c.unfinished c.has);
      line_is = empty;
      answers = answers_again c.lines whole begin now new before.report report after c.answers
          (ends-same (without_return line) whole now new report after None same ends);
    }

-- the session is shorter by it
pub comes-nearer : (commands after : Option (List ℕ)) (feed next : Feeding) (byte : ℕ) → Feeds commands after feed next (Byte byte) →
    next.left + length next.rest < feed.left + length feed.rest
unfolding Feeds
comes-nearer commands after feed next byte (taken, gives, is, left, few, going) = omega (arith, left, ap length is, length-append feed.rest taken)

-- a byte is not the end
pub goes-more : (commands after : Option (List ℕ)) (feed next : Feeding) (byte : ℕ) → Feeds commands after feed next (Byte byte) → next.ended ≡ false
unfolding Feeds
goes-more commands after feed next byte (taken, gives, is, left, few, going) = going

-- one more byte, with which the session ends
pub ends-byte : (before : Session) (begin now new : DebuggerState) (commands fed_commands report after : Option (List ℕ)) (line later : List ℕ)
    (feed next : Feeding) (byte : ℕ) (answer : Debugged) → Comes before begin now commands report line feed →
    Feeds commands fed_commands feed next (Byte byte) → UsesByte byte line later now new report after (Some answer)
    → EndsAtLine before (session_of new.processor fed_commands after) begin new answer
ends-byte before begin now new commands fed_commands report after line later feed next byte answer c feeds (inl (other, held_is, same, still, goes)) =
    absurd (cc)
ends-byte before begin now new commands fed_commands report after line later feed next byte answer c feeds (inr (end, empty, ends)) =
    let f = fed before begin now commands fed_commands report line feed next byte c feeds in
    let whole : List ℕ = without_return c.unfinished in
    let same : command_in (without_return line) ≡ command_in whole = ap (λ (l : List ℕ). command_in (without_return l)) c.line_is ∙ held-whole c.unfinished in
    record {
      bytes = (c.used ++ byte ∷ []) ++ next.rest;
      taken = (f.gives, omega (arith, f.size));
      lines = c.lines;
      line = whole;
      is_next = inl (
        c.used ++ byte ∷ [],
        next.rest,
        refl,
        f.few,
        subst (λ (b : ℕ). HasLines (c.used ++ b ∷ []) (c.lines ++ whole ∷ []) []) (sym end) (has-end c.used c.lines c.unfinished c.has),
      );
      now = now;
      written = report;
      answers = c.answers;
      ends = ends-same (without_return line) whole now new report after (Some answer) same ends;
    }

-- how a line that ends the session ends it
pub ends-at_line : (before after : Session) (begin new : DebuggerState) (answer : Debugged) → EndsAtLine before after begin new answer →
    EndsSession before after begin new answer
unfolding EndsSession LineLeaves
ends-at_line before after begin new Done e = inl e
ends-at_line before after begin new Limit e = absurd e.ends
ends-at_line before after begin new ReadFault e = absurd e.ends
ends-at_line before after begin new WriteFault e = e
ends-at_line before after begin new ReportFault e = e

-- all that was taken is used
all_used : (used rest : List ℕ) → rest ≡ [] → used ++ rest ≡ used
all_used used rest none = ap (λ (r : List ℕ). used ++ r) none ∙ append-nil used

-- it is all that there is
all_told : (before now : Option (List ℕ)) (bytes : List ℕ) → GivesInput before now bytes → IsAtEnd now → IsTold before bytes
all_told None now bytes gives end = tt
all_told (Some told) now bytes (rest, is, left) end =
    let none : rest ≡ [] = subst IsAtEnd left end in
    sym (is ∙ ap (λ (r : List ℕ). bytes ++ r) none ∙ append-nil bytes)

-- what was taken, if all of it is used and nothing more was taken
record Ended (before : Session) (commands after : Option (List ℕ)) (used : List ℕ) : Type 0 where
  had : GivesInput before.commands commands used
  gives : GivesInput before.commands after used
  few : length used ≤ most_bytes

ended : (before : Session) (begin now : DebuggerState) (commands after report : Option (List ℕ)) (line : List ℕ) (feed : Feeding) →
    (c : Comes before begin now commands report line feed) → feed.rest ≡ [] → GivesInput commands after [] → Ended before commands after c.used
ended before begin now commands after report line feed c none gives =
    let used : c.used ++ feed.rest ≡ c.used = all_used c.used feed.rest none in
    let had : GivesInput before.commands commands c.used = subst (GivesInput before.commands commands) used c.gives in
    record {
      had = had;
      gives = subst (GivesInput before.commands after) (append-nil c.used) (gives-again before.commands commands after c.used [] had gives);
      few = omega (arith, c.size, ap length used);
    }

-- the commands are at their end, and so is the session
pub ends-last : (before : Session) (begin now new : DebuggerState) (commands fed_commands report after : Option (List ℕ)) (line : List ℕ) (feed next : Feeding)
    (answer : Debugged) → Comes before begin now commands report line feed → Feeds commands fed_commands feed next AtEnd →
    FinishesSession line now new report after answer
    → EndsSession before (session_of new.processor fed_commands after) begin new answer
unfolding Feeds EndsSession
ends-last before begin now new commands fed_commands report after line feed next answer c (none, end, gives, same_feed) (inl (empty, done, same, still)) =
    let e = ended before begin now commands fed_commands report line feed c none gives in
    let no_line : c.unfinished ≡ [] = held-none c.unfinished (sym c.line_is ∙ empty) in
    let last : EndsAtLast before (session_of new.processor fed_commands after) begin new = record {
      bytes = c.used;
      taken = (e.gives, e.few);
      all = all_told before.commands commands c.used e.had end;
      lines = c.lines;
      unfinished = [];
      has = subst (HasLines c.used c.lines) no_line c.has;
      answers = subst (λ (ls : List (List ℕ)). AnswersLines ls begin new before.report after) (sym (append-nil c.lines))
          (subst (λ (d : DebuggerState). AnswersLines c.lines begin d before.report after) (sym same)
          (subst (λ (o : Option (List ℕ)). AnswersLines c.lines begin now before.report o) (sym still) c.answers));
    } in
    subst (EndsSession before (session_of new.processor fed_commands after) begin new) (sym done) (inr last)
ends-last before begin now new commands fed_commands report after line feed next answer c (none, end, gives, same_feed) (inr (inl (some, done, ends))) =
    let e = ended before begin now commands fed_commands report line feed c none gives in
    let told : command_in line ≡ command_in c.unfinished = ap command_in c.line_is ∙ held-last c.unfinished in
    let last : EndsAtLast before (session_of new.processor fed_commands after) begin new = record {
      bytes = c.used;
      taken = (e.gives, e.few);
      all = all_told before.commands commands c.used e.had end;
      lines = c.lines;
      unfinished = c.unfinished;
      has = c.has;
      answers = subst (λ (ls : List (List ℕ)). AnswersLines (c.lines ++ ls) begin new before.report after)
          (sym (one_line c.unfinished (held-some c.unfinished (subst (λ (l : List ℕ). 0 < length l) c.line_is some))))
          (answers_again c.lines c.unfinished begin now new before.report report after c.answers
          (ends-same line c.unfinished now new report after None told ends));
    } in
    subst (EndsSession before (session_of new.processor fed_commands after) begin new) (sym done) (inr last)
  where
    one_line : (line : List ℕ) → 0 < length line → last_line line ≡ line ∷ []
    one_line [] some = absurd (omega (arith, some))
    one_line (byte ∷ line) some = refl
ends-last before begin now new commands fed_commands report after line feed next answer c (none, end, gives, same_feed) (inr (inr (some, ends))) =
    let e = ended before begin now commands fed_commands report line feed c none gives in
    let told : command_in line ≡ command_in c.unfinished = ap command_in c.line_is ∙ held-last c.unfinished in
    ends-at_line before (session_of new.processor fed_commands after) begin new answer (record {
      bytes = c.used;
      taken = (e.gives, e.few);
      lines = c.lines;
      line = c.unfinished;
      is_next = inr (all_told before.commands commands c.used e.had end, held-some c.unfinished (subst (λ (l : List ℕ). 0 < length l) c.line_is some), c.has);
      now = now;
      written = report;
      answers = c.answers;
      ends = ends-same line c.unfinished now new report after (Some answer) told ends;
    })

-- there are more bytes than the limit allows
pub ends-limit : (before : Session) (begin now : DebuggerState) (commands after report : Option (List ℕ)) (line : List ℕ) (feed next : Feeding) →
    Comes before begin now commands report line feed → Feeds commands after feed next TooMany →
    EndsSession before (session_of now.processor after report) begin now Limit
unfolding Feeds EndsSession
ends-limit before begin now commands after report line feed next c (none, spent, (byte, gives), same) =
    let used : c.used ++ feed.rest ≡ c.used = all_used c.used feed.rest none in
    record {
      bytes = c.used;
      more = byte;
      gives = gives-again before.commands commands after c.used (byte ∷ []) (subst (GivesInput before.commands commands) used c.gives) gives;
      size = omega (arith, c.size, ap length used, spent);
      answers = record { lines = c.lines; unfinished = c.unfinished; has = c.has; answers = c.answers };
    }

-- a take failed
pub ends-fault : (before : Session) (begin now : DebuggerState) (commands after report : Option (List ℕ)) (line : List ℕ) (feed next : Feeding) →
    Comes before begin now commands report line feed → Feeds commands after feed next Fault →
    EndsSession before (session_of now.processor after report) begin now ReadFault
unfolding Feeds EndsSession
ends-fault before begin now commands after report line feed next c (none, gives, same) =
    let e = ended before begin now commands after report line feed c none gives in
    record {
      bytes = c.used;
      taken = (e.gives, e.few);
      answers = record { lines = c.lines; unfinished = c.unfinished; has = c.has; answers = c.answers };
    }
