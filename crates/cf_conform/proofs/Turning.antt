-- How the processing of a log stops, and what its judgement says then.
use Rattle.std.proofs.Common.{◌≡◌, ℕ, zero, suc, ◌+◌, ◌-◌, ◌<◌, ◌≤◌, ◌^◌, List, [], ◌∷◌, ◌++◌, All, length, map, Option, Some, None, Result, Ok, Err, refl, sym, ap, subst, ◌∙◌, inl, inr, append-nil, append_assoc, arith}
use Rattle.std.specs.Prelude.{◌⊎◌}
use Rattle.std.proofs.lemmas.List.{length-append, map-append}
use Rattle.std.proofs.lemmas.List.Elements.{All-append}
use Rattle.run_options.specs.Reportings as show
use Rattle.rv_machine.specs.Streams.{GivesInput, IsTold}
use Rattle.rv_text.specs.Lines.{without_return}
use Rattle.cf_layout.specs.Accepted.{IsAccepted}
use Rattle.cf_bind.specs.declared.moves.Move.{Move}
use Rattle.cf_core.specs.Processors.{Processor}
use Rattle.cf_log.specs.declared.feed.NextLine.TheVariants.{Line, Last, TooLong, AtEnd, Fault}
use Rattle.cf_log.specs.declared.kind.LogKind.{LogKind}
use Rattle.cf_log.specs.declared.kind.LogKind.TheVariants as kind
use Rattle.cf_log.specs.declared.said.ObservedPart.{ObservedPart}
use Rattle.cf_log.specs.declared.said.Said.{Said}
use Rattle.cf_log.specs.declared.said.Said.TheVariants.{Makes, Observes}
use Rattle.cf_log.specs.declared.said.TimedLine.{TimedLine}
use Rattle.cf_log.specs.Cutting.{LogFeeding, HasLogLines, IsCut, IsLogPiece, FeedsLog, ended}
use Rattle.cf_log.specs.Lines.{log_line_read}
use Rattle.cf_log.proofs.Holding.{gives-again}
use Rattle.run_finishes.specs.declared.finish.Ran.{Ran as Answer}
use Rattle.run_finishes.specs.declared.finish.Ran.TheVariants as ran
use Rattle.run_finishes.specs.declared.finish.Scripted.{Scripted}
use Rattle.run_finishes.specs.declared.finish.Scripted.TheVariants as scripted
use Rattle.cf_run.specs.Ending.{EndsAlike, EndsSequentially}
use Rattle.cf_run.specs.Headline.{RunsSequentially, StandsAt, StopsAt, Gets}
use Rattle.cf_run.specs.Made.{moves_of, CanCount}
use Rattle.cf_run.specs.Moving.{RunPlace, MoveDoes}
use Rattle.cf_run.specs.Reaching.{Reaches, IsOver}
use Rattle.cf_run.proofs.Ending.{ends-sequentially, same_place}
use Rattle.cf_run.proofs.Headline.{comes_sequentially, opened_here, opened_regs}
use Rattle.cf_run.proofs.Runs.{can-count}
use Rattle.cf_run.proofs.Stopping.{ComesTo, comes_here, comes_over, comes_unwritten}
use Rattle.cf_conform.specs.declared.answer.Conformed.{Conformed}
use Rattle.cf_conform.specs.declared.answer.Conformed.TheVariants.{Ran, LogEnd, BadLog}
use Rattle.cf_conform.specs.declared.answer.Conformed.TheVariants as conformed
use Rattle.cf_conform.specs.declared.answer.LineStop.{LineStop}
use Rattle.cf_conform.specs.declared.answer.LineStop.TheVariants.{Refused, Differs, WriteFault}
use Rattle.cf_conform.specs.declared.progress.LogProgress.{LogProgress}
use Rattle.cf_conform.specs.Conforming.{ComesNext, EndsLogAt, EndsUnfinished, EndsWithLine, GoesThrough, IsLimited, JudgesLog, LogTurns, StopsAfter, StopsAtLine, StopsAtLimit, StopsAtLogEnd, StopsAtMost, StopsLog, StopsTooLong, StopsUnread, TurnsOn, answer_at, as_script, logged_moves}
use Rattle.cf_conform.specs.Judging.{JudgesPart, JudgesPartAt, JudgesLine, JudgesReading, JudgesSaid, FailsLogged, TriesMove}
use Rattle.cf_conform.specs.LogPlaces.{LogPlace, as_run, at_time}
use Rattle.cf_conform.proofs.Going.{LogArrives, arrives-more}

-- The bytes of the log --

no_pieces : {X : Type 0} (P : X → Type 0) → All P []
no_pieces P i x low = absurd (omega (arith, low))

alone : {X : Type 0} (P : X → Type 0) (x : X) → P x → All P (x ∷ [])
alone P x h zero y low = h
alone P x h (suc i) y low = absurd (omega (arith, low))

ended_more : (pieces : List (List ℕ)) (piece : List ℕ) → ended (pieces ++ piece ∷ []) ≡ ended pieces ++ (piece ++ 10 ∷ [])
unfolding ended
ended_more [] piece = refl
ended_more (first ∷ pieces) piece = ap (λ (rest : List ℕ). first ++ 10 ∷ rest) (ended_more pieces piece)
    ∙ sym (append_assoc first (10 ∷ ended pieces) (piece ++ 10 ∷ []))

-- no byte was taken
pub lines-none : HasLogLines [] [] []
unfolding ended
lines-none = record { pieces = []; are_pieces = no_pieces IsLogPiece; bytes_are = refl; lines_are = refl }

-- some more bytes
lines_on : (bytes more : List ℕ) (lines : List (List ℕ)) (rest : List ℕ) → HasLogLines bytes lines rest → HasLogLines (bytes ++ more) lines (rest ++ more)
lines_on bytes more lines rest h = record {
  pieces = h.pieces;
  are_pieces = h.are_pieces;
  bytes_are = ap (λ (b : List ℕ). b ++ more) h.bytes_are ∙ append_assoc (ended h.pieces) rest more;
  lines_are = h.lines_are;
}

-- one more line
lines_cut : (bytes : List ℕ) (lines : List (List ℕ)) (rest : List ℕ) (feed : LogFeeding) → HasLogLines bytes lines rest → IsCut rest feed →
    HasLogLines bytes (lines ++ feed.line ∷ []) feed.rest
lines_cut bytes lines rest feed h cut = record {
  pieces = h.pieces ++ cut.piece ∷ [];
  are_pieces = All-append IsLogPiece h.pieces (cut.piece ∷ []) h.are_pieces (alone IsLogPiece cut.piece cut.is_piece);
  bytes_are = h.bytes_are ∙ ap (λ (r : List ℕ). ended h.pieces ++ r) cut.parts
      ∙ sym (ap (λ (e : List ℕ). e ++ feed.rest) (ended_more h.pieces cut.piece)
      ∙ append_assoc (ended h.pieces) (cut.piece ++ 10 ∷ []) feed.rest
      ∙ ap (λ (r : List ℕ). ended h.pieces ++ r) (append_assoc cut.piece (10 ∷ []) feed.rest));
  lines_are = ap (λ (l : List (List ℕ)). l ++ feed.line ∷ []) h.lines_are ∙ ap (λ (l : List ℕ). map without_return h.pieces ++ l ∷ []) cut.line
      ∙ sym (map-append without_return h.pieces (cut.piece ∷ []));
}

-- what is exposed after some bytes were taken
told_again : (a b : Option (List ℕ)) (x y : List ℕ) → GivesInput a b x → IsTold b y → IsTold a (x ++ y)
told_again None b x y h told = tt
told_again (Some bytes) b x y (rest, is, left) told =
    let same : y ≡ rest = subst (λ (o : Option (List ℕ)). IsTold o y) left told in
    ap (λ (r : List ℕ). x ++ r) same ∙ sym is

-- Where the processing has arrived --

-- these lines are processed, and these are the bytes left of those taken
pub record LogComes (limit : ℕ) (before after : Option (List ℕ)) (start now : LogPlace) (rest : List ℕ) (count : ℕ) : Type 0 where
  pub taken : List ℕ
  pub gives : GivesInput before after taken
  pub lines : List (List ℕ)
  pub cut : HasLogLines taken lines rest
  pub count_is : length lines ≡ count
  pub arrives : LogArrives limit start lines now

gives_none : (told : Option (List ℕ)) → GivesInput told told []
gives_none None = tt
gives_none (Some told) = (told, refl, refl)

pub log-first : (limit : ℕ) (told : Option (List ℕ)) (start : LogPlace) (rest : List ℕ) → rest ≡ [] → LogArrives limit start [] start →
    LogComes limit told told start start rest 0
log-first limit told start rest none arrives = record {
  taken = [];
  gives = gives_none told;
  lines = [];
  cut = subst (HasLogLines [] []) (sym none) lines-none;
  count_is = refl;
  arrives = arrives;
}

-- one more line is processed
pub log-more : (limit : ℕ) (a b c : Option (List ℕ)) (start now new : LogPlace) (feed next : LogFeeding) (count : ℕ) → IsAccepted start.core.plan →
    length start.core.state.regs ≡ 32 → LogComes limit a b start now feed.rest count → LogTurns limit count b c feed next now new None →
    LogComes limit a c start new next.rest (count + 1)
unfolding LogTurns
log-more limit a b c start now new feed next count accepted wide h (taken, gives, turns) = record {
  taken = h.taken ++ taken;
  gives = gives-again a b c h.taken taken h.gives gives;
  lines = h.lines ++ next.line ∷ [];
  cut = lines_cut (h.taken ++ taken) h.lines (feed.rest ++ taken) next (lines_on h.taken taken h.lines feed.rest h.cut) turns.cut;
  count_is = length-append h.lines (next.line ∷ []) ∙ ap (λ (n : ℕ). n + 1) h.count_is;
  arrives = arrives-more limit start h.lines now new next.line accepted wide h.arrives turns.free turns.does;
}

-- the counts are small
pub log-counts : (limit : ℕ) (a b : Option (List ℕ)) (start now : LogPlace) (rest : List ℕ) (count : ℕ) → LogComes limit a b start now rest count →
    count + 1 < 2 ^ 64 → CanCount now.progress.tally
log-counts limit a b start now rest count h few =
    can-count limit show.report (as_run start) (as_run now) h.arrives.reached (omega (arith, h.arrives.few, h.count_is, few))

pub log-observed : (limit : ℕ) (a b : Option (List ℕ)) (start now : LogPlace) (rest : List ℕ) (count : ℕ) → LogComes limit a b start now rest count →
    count + 1 < 2 ^ 64 → now.progress.observed + 1 < 2 ^ 64
log-observed limit a b start now rest count h few = omega (arith, h.arrives.observed, h.count_is, few)

-- Where a line that stops the log leaves the run --

-- the run is where it was, or the output failed a move there
abbrev LineLeaves : (now new : LogPlace) → LineStop → Type 0
LineLeaves now new (Refused why) = as_run new ≡ as_run now
LineLeaves now new (Differs part) = as_run new ≡ as_run now
LineLeaves now new WriteFault = (mv : Move) × MoveDoes show.report mv (as_run now) (as_run new) (Err ran.WriteFault)

move_leaves : (mv : Move) (now new : LogPlace) (time : ℕ) (stop : LineStop) → TriesMove mv (at_time now time) new (Err stop) → LineLeaves now new stop
unfolding TriesMove
move_leaves mv now new time (Refused (kind.Barred bar)) h = ap as_run h.1
move_leaves mv now new time (Refused kind.TooLong) h = absurd h
move_leaves mv now new time (Refused kind.NotAscii) h = absurd h
move_leaves mv now new time (Refused kind.BadTime) h = absurd h
move_leaves mv now new time (Refused kind.UnknownLine) h = absurd h
move_leaves mv now new time (Refused kind.BadNumber) h = absurd h
move_leaves mv now new time (Refused kind.ExtraWords) h = absurd h
move_leaves mv now new time (Refused kind.Differs) h = absurd h
move_leaves mv now new time (Differs part) h = absurd h
move_leaves mv now new time WriteFault h = (mv, h.does)

same_run : (now new : LogPlace) (time : ℕ) → new.core ≡ now.core → new.output ≡ now.output → new.progress ≡ (at_time now time).progress →
    as_run new ≡ as_run now
same_run now new time core output progress =
    ap (λ (c : Processor). as_run (record new { core = c })) core
    ∙ ap (λ (o : Option (List ℕ)). as_run (record now { output = o; progress = new.progress })) output
    ∙ ap (λ (p : LogProgress). as_run (record now { progress = p })) progress

part_leaves : (line : List ℕ) (part : ObservedPart) (now new : LogPlace) (time : ℕ) (stop : LineStop) →
    JudgesPartAt line part (at_time now time) new (Err stop) →
    LineLeaves now new stop
unfolding JudgesPart
part_leaves line part now new time (Refused why) h = absurd h.compares
part_leaves line part now new time (Differs other) h = same_run now new time h.core h.output h.compares.2
part_leaves line part now new time WriteFault h = absurd h.compares

no_error : (stop : LineStop) (result : Result (Unit {0}) LineStop) → result ≡ Err stop → result ≡ Ok tt → ⊥
no_error stop result h k = cc

one_stop : (a b : LineStop) (result : Result (Unit {0}) LineStop) → result ≡ Err a → result ≡ Err b → a ≡ b
one_stop a b result h k = cc

line_leaves : (line : List ℕ) (now new : LogPlace) (stop : LineStop) → JudgesLine line now new (Err stop) → LineLeaves now new stop
unfolding JudgesLine JudgesSaid JudgesReading
line_leaves line now new stop does = of (log_line_read now.progress.time (now.progress.tally.moves + 1) line) stop does
  where
    said_leaves : (said : Said) (time : ℕ) (stop : LineStop) → JudgesSaid line said (at_time now time) new (Err stop) → LineLeaves now new stop
    said_leaves (Makes mv) time stop h = move_leaves mv now new time stop h
    said_leaves (Observes part) time stop h = part_leaves line part now new time stop h

    of : (read : Result (Option TimedLine) LogKind) (stop : LineStop) → JudgesReading line read now new (Err stop) → LineLeaves now new stop
    of (Ok None) stop h = absurd (no_error stop (Err stop) refl h.0)
    of (Ok (Some t)) stop h = said_leaves t.said t.time stop h
    of (Err why) (Refused other) h = ap as_run h.1
    of (Err why) (Differs part) h = absurd (let same : Differs part ≡ Refused why = one_stop (Differs part) (Refused why) (Err (Differs part)) refl h.0 in cc)
    of (Err why) WriteFault h = absurd (let same : WriteFault ≡ Refused why = one_stop WriteFault (Refused why) (Err WriteFault) refl h.0 in cc)

-- How the run stops --

-- the run does not go on from where it is; or it is over there; or the output failed a move
abbrev RunStops : ℕ → (now new : LogPlace) → Scripted → Type 0
RunStops limit now new answer =
    ((as_run new ≡ as_run now) × (answer ≡ scripted.ScriptEnd))
    ⊎ ((r : Answer) × (as_run new ≡ as_run now) × IsOver limit now.core.state r × (answer ≡ scripted.Ran r))
    ⊎ ((mv : Move) × MoveDoes show.report mv (as_run now) (as_run new) (Err ran.WriteFault) × (answer ≡ scripted.Ran ran.WriteFault))

-- the run reached a place and stopped there
run_comes : (limit : ℕ) (start now new : LogPlace) (answer : Scripted) → IsAccepted start.core.plan →
    (h : Reaches limit show.report (as_run start) (as_run now)) →
    RunStops limit now new answer → ComesTo limit show.report (as_run start) (moves_of h.trace) (as_run new) answer
unfolding StopsAt Gets
run_comes limit start now new answer accepted h (inl (same, is)) =
    subst (λ (a : Scripted). ComesTo limit show.report (as_run start) (moves_of h.trace) (as_run new) a) (sym is)
    (comes_here limit show.report (as_run start) (as_run now) (as_run new) scripted.ScriptEnd h same (λ x m s. s) (λ text w. w))
run_comes limit start now new answer accepted h (inr (inl (r, same, over, is))) =
    subst (λ (a : Scripted). ComesTo limit show.report (as_run start) (moves_of h.trace) (as_run new) a) (sym is)
    (comes_over limit show.report (as_run start) (as_run now) (as_run new) r h over same)
run_comes limit start now new answer accepted h (inr (inr (mv, does, is))) =
    subst (λ (a : Scripted). ComesTo limit show.report (as_run start) (moves_of h.trace) (as_run new) a) (sym is)
    (comes_unwritten limit show.report (as_run start) (as_run now) (as_run new) mv accepted h does)

-- and ends as the machine does
run_ends : (limit : ℕ) (start now new : LogPlace) (answer : Scripted) → IsAccepted start.core.plan → length start.core.state.regs ≡ 32 →
    (h : Reaches limit show.report (as_run start) (as_run now)) → RunStops limit now new answer → EndsSequentially limit (as_run start) (as_run new) answer
unfolding EndsSequentially
run_ends limit start now new answer accepted wide h (inl (same, is)) plan hart opens =
    subst (λ (a : Scripted). EndsAlike limit hart (as_run start) (as_run new) a) (sym is) tt
run_ends limit start now new answer accepted wide h (inr (inl (r, same, over, is))) plan hart opens =
    subst (λ (a : Scripted). EndsAlike limit hart (as_run start) (as_run new) a) (sym is) (ends r over)
  where
    ends : (r : Answer) → IsOver limit now.core.state r → EndsAlike limit hart (as_run start) (as_run new) (scripted.Ran r)
    ends (ran.Exit status) over = same_place limit hart (as_run start) (as_run now) (as_run new) (ran.Exit status) same
        (ends-sequentially limit show.report (as_run start) (as_run now) hart (ran.Exit status) accepted
        (ap length (sym (opened_regs start.core plan hart opens)) ∙ wide) (opened_here start.core plan hart opens) h over)
    ends (ran.Trap cause pc detail) over = same_place limit hart (as_run start) (as_run now) (as_run new) (ran.Trap cause pc detail) same
        (ends-sequentially limit show.report (as_run start) (as_run now) hart (ran.Trap cause pc detail) accepted
        (ap length (sym (opened_regs start.core plan hart opens)) ∙ wide) (opened_here start.core plan hart opens) h over)
    ends ran.Limit over = same_place limit hart (as_run start) (as_run now) (as_run new) ran.Limit same
        (ends-sequentially limit show.report (as_run start) (as_run now) hart ran.Limit accepted
        (ap length (sym (opened_regs start.core plan hart opens)) ∙ wide) (opened_here start.core plan hart opens) h over)
    ends ran.ReadFault over = absurd over
    ends ran.WriteFault over = absurd over
    ends ran.ReportFault over = absurd over
run_ends limit start now new answer accepted wide h (inr (inr (mv, does, is))) plan hart opens =
    subst (λ (a : Scripted). EndsAlike limit hart (as_run start) (as_run new) a) (sym is) tt

-- at the end of a log
ends_stops : (limit : ℕ) (now new : LogPlace) (answer : Conformed) → new ≡ now → EndsLogAt limit now.core.state answer →
    RunStops limit now new (as_script answer)
unfolding EndsLogAt
ends_stops limit now new (Ran (ran.Exit status)) same ends = inr (inl (ran.Exit status, ap as_run same, ends, refl))
ends_stops limit now new (Ran (ran.Trap cause pc detail)) same ends = inr (inl (ran.Trap cause pc detail, ap as_run same, ends, refl))
ends_stops limit now new (Ran ran.Limit) same ends = inr (inl (ran.Limit, ap as_run same, ends, refl))
ends_stops limit now new (Ran ran.ReadFault) same ends = absurd ends
ends_stops limit now new (Ran ran.WriteFault) same ends = absurd ends
ends_stops limit now new (Ran ran.ReportFault) same ends = absurd ends
ends_stops limit now new LogEnd same ends = inl (ap as_run same, refl)
ends_stops limit now new (BadLog refusal) same ends = absurd ends
ends_stops limit now new (conformed.Differs line part) same ends = absurd ends

-- at a line
line_stops : (limit lines : ℕ) (now new : LogPlace) (answer : Conformed) (stop : LineStop) → LineLeaves now new stop → answer ≡ answer_at lines stop →
    RunStops limit now new (as_script answer)
line_stops limit lines now new answer (Refused why) leaves is = inl (leaves, ap as_script is)
line_stops limit lines now new answer (Differs part) leaves is = inl (leaves, ap as_script is)
line_stops limit lines now new answer WriteFault leaves is = inr (inr (leaves.0, leaves.1, ap as_script is))

log_stops : (limit : ℕ) (told : Option (List ℕ)) (taken rest : List ℕ) (lines : ℕ) (now new : LogPlace) (answer : Conformed) →
    StopsLog limit told taken rest lines now new answer → RunStops limit now new (as_script answer)
log_stops limit told taken rest lines now new answer (inl h) = inr (inl (ran.Limit, ap as_run h.same, h.limited, ap as_script h.answer_is))
log_stops limit told taken rest lines now new answer (inr (inl h)) =
    line_stops limit lines now new answer h.stop (line_leaves h.line now new h.stop h.does) h.answer_is
log_stops limit told taken rest lines now new answer (inr (inr (inl h))) = inl (ap as_run h.same, ap as_script h.answer_is)
log_stops limit told taken rest lines now new answer (inr (inr (inr (inl h)))) = inl (ap as_run h.same, ap as_script h.answer_is)
log_stops limit told taken rest lines now new answer (inr (inr (inr (inr (inl h))))) = ends_stops limit now new answer h.same h.ends
log_stops limit told taken rest lines now new answer (inr (inr (inr (inr (inr h))))) = ends_stops limit now new answer h.same h.ends

-- The judgement --

no_more : (time next : ℕ) → logged_moves time next [] ≡ []
unfolding logged_moves
no_more time next = refl

judges : (limit : ℕ) (before after : Option (List ℕ)) (start now new : LogPlace) (taken : List ℕ) (lines : List (List ℕ)) (rest : List ℕ) (answer : Conformed) →
    IsAccepted start.core.plan → length start.core.state.regs ≡ 32 → GivesInput before after taken → LogArrives limit start lines now →
    StopsAfter limit before taken lines rest now new answer → RunStops limit now new (as_script answer) → JudgesLog limit before after start new answer
judges limit before after start now new taken lines rest answer accepted wide gives h stops run =
    let moves : moves_of h.reached.trace ≡ logged_moves 0 1 lines =
    sym (ap (logged_moves 0 1) (sym (append-nil lines)) ∙ h.logged []
    ∙ ap (λ (m : List Move). moves_of h.reached.trace ++ m) (no_more now.progress.time (now.progress.tally.moves + 1))
    ∙ append-nil (moves_of h.reached.trace)) in
    record {
      taken = taken;
      gives = gives;
      lines = lines;
      rest = rest;
      now = now;
      through = h.through;
      stops = stops;
      reaches = h.reached;
      moves = moves;
      sequential = subst (λ (m : List Move). RunsSequentially show.report m (as_run start) (as_run new) (as_script answer)) moves
          (comes_sequentially limit show.report (as_run start) (as_run new) (moves_of h.reached.trace) (as_script answer) accepted wide
          (run_comes limit start now new (as_script answer) accepted h.reached run));
      ends = run_ends limit start now new (as_script answer) accepted wide h.reached run;
      retire = h.retire;
    }

-- the same stop, for all bytes that were taken
later_stop : (limit : ℕ) (a b : Option (List ℕ)) (had taken rest : List ℕ) (lines : ℕ) (now new : LogPlace) (answer : Conformed) → GivesInput a b had →
    StopsLog limit b taken rest lines now new answer → StopsLog limit a (had ++ taken) rest lines now new answer
later_stop limit a b had taken rest lines now new answer gives (inl h) = inl h
later_stop limit a b had taken rest lines now new answer gives (inr (inl h)) =
    inr (inl (record { free = h.free; line = h.line; next = of h.next; stop = h.stop; does = h.does; answer_is = h.answer_is }))
  where
    of : ComesNext b taken rest h.line → ComesNext a (had ++ taken) rest h.line
    of (inl cut) = inl cut
    of (inr (whole, piece, some, is)) = inr (told_again a b had taken gives whole, piece, some, is)
later_stop limit a b had taken rest lines now new answer gives (inr (inr (inl h))) = inr (inr (inl h))
later_stop limit a b had taken rest lines now new answer gives (inr (inr (inr (inl h)))) = inr (inr (inr (inl h)))
later_stop limit a b had taken rest lines now new answer gives (inr (inr (inr (inr (inl h))))) =
    inr (inr (inr (inr (inl (record { whole = told_again a b had taken gives h.whole; nothing = h.nothing; same = h.same; ends = h.ends })))))
later_stop limit a b had taken rest lines now new answer gives (inr (inr (inr (inr (inr h))))) = inr (inr (inr (inr (inr h))))

-- a turn that stops the log
pub log-stopped : (limit : ℕ) (a b c : Option (List ℕ)) (start now new : LogPlace) (feed next : LogFeeding) (count : ℕ) (answer : Conformed) →
    IsAccepted start.core.plan → length start.core.state.regs ≡ 32 → LogComes limit a b start now feed.rest count →
    LogTurns limit count b c feed next now new (Some answer) → JudgesLog limit a c start new answer
unfolding LogTurns
log-stopped limit a b c start now new feed next count answer accepted wide h (taken, gives, inl stops) =
    let rest : List ℕ = feed.rest ++ taken in
    let all : StopsLog limit a (h.taken ++ taken) rest count now new answer = later_stop limit a b h.taken taken rest count now new answer h.gives stops in
    let here : StopsLog limit a (h.taken ++ taken) rest (length h.lines) now new answer =
    subst (λ (n : ℕ). StopsLog limit a (h.taken ++ taken) rest n now new answer) (sym h.count_is) all in
    judges limit a c start now new (h.taken ++ taken) h.lines rest answer accepted wide (gives-again a b c h.taken taken h.gives gives) h.arrives
    (inl (lines_on h.taken taken h.lines feed.rest h.cut, here)) (log_stops limit b taken rest count now new answer stops)
log-stopped limit a b c start now new feed next count answer accepted wide h (taken, gives, inr ends) =
    let rest : List ℕ = feed.rest ++ taken in
    let lines : List (List ℕ) = h.lines ++ rest ∷ [] in
    let last : EndsUnfinished a (h.taken ++ taken) lines = record {
      whole = told_again a b h.taken taken h.gives ends.whole;
      front = h.lines;
      last = rest;
      cut = lines_on h.taken taken h.lines feed.rest h.cut;
      piece = ends.piece;
      some = ends.some;
      lines_are = refl;
    } in
    judges limit a c start new new (h.taken ++ taken) lines [] answer accepted wide (gives-again a b c h.taken taken h.gives gives)
    (arrives-more limit start h.lines now new rest accepted wide h.arrives ends.free ends.does)
    (inr (last, refl, ends.ends)) (ends_stops limit new new answer refl ends.ends)

-- as many lines as can be counted
pub log-most : (limit : ℕ) (a b : Option (List ℕ)) (start now : LogPlace) (rest : List ℕ) (count : ℕ) (answer : Conformed) → IsAccepted start.core.plan →
    length start.core.state.regs ≡ 32 → LogComes limit a b start now rest count → count ≡ 2 ^ 64 - 1 → EndsLogAt limit now.core.state answer →
    JudgesLog limit a b start now answer
log-most limit a b start now rest count answer accepted wide h most ends =
    judges limit a b start now now h.taken h.lines rest answer accepted wide h.gives h.arrives
    (inl (h.cut, inr (inr (inr (inr (inr (record { most = h.count_is ∙ most; same = refl; ends = ends }))))))) (ends_stops limit now now answer refl ends)

-- One turn --

-- the limit is reached
pub turns-limit : (limit lines : ℕ) (told : Option (List ℕ)) (feed : LogFeeding) (now : LogPlace) → IsLimited limit now →
    LogTurns limit lines told told feed feed now now (Some (Ran ran.Limit))
unfolding LogTurns
turns-limit limit lines told feed now limited = ([], gives_none told, inl (inl (record { limited = limited; same = refl; answer_is = refl })))

-- a line that ends with a line feed
pub turns-line : (limit lines : ℕ) (a b : Option (List ℕ)) (feed next : LogFeeding) (now new : LogPlace) (line : List ℕ) → (IsLimited limit now → ⊥) →
    FeedsLog a b feed next Line → line ≡ next.line → JudgesLine line now new (Ok tt) → LogTurns limit lines a b feed next now new None
unfolding LogTurns FeedsLog
turns-line limit lines a b feed next now new line free (taken, takes, cut, few) is does =
    (taken, takes.0, record { free = free; cut = cut; does = subst (λ (l : List ℕ). JudgesLine l now new (Ok tt)) is does })

pub turns-stop : (limit lines : ℕ) (a b : Option (List ℕ)) (feed next : LogFeeding) (now new : LogPlace) (line : List ℕ) (stop : LineStop)
    (answer : Conformed) →
    (IsLimited limit now → ⊥) → FeedsLog a b feed next Line → line ≡ next.line → JudgesLine line now new (Err stop) → answer ≡ answer_at lines stop →
    LogTurns limit lines a b feed next now new (Some answer)
unfolding LogTurns FeedsLog
turns-stop limit lines a b feed next now new line stop answer free (taken, takes, cut, few) is does said = (
  taken,
  takes.0,
  inl (inr (inl (record { free = free; line = line; next = inl (next, cut, sym is); stop = stop; does = does; answer_is = said }))),
)

-- the unfinished line at the end of the log
pub turns-last : (limit lines : ℕ) (a b : Option (List ℕ)) (feed next : LogFeeding) (now new : LogPlace) (line : List ℕ) (answer : Conformed) →
    (IsLimited limit now → ⊥) → FeedsLog a b feed next Last → line ≡ next.line → JudgesLine line now new (Ok tt) → EndsLogAt limit new.core.state answer →
    LogTurns limit lines a b feed next now new (Some answer)
unfolding LogTurns FeedsLog
turns-last limit lines a b feed next now new line answer free (taken, takes, whole, parts, piece, some, none) is does ends =
    let same : line ≡ feed.rest ++ taken = is ∙ sym parts in (
      taken,
      takes.0,
      inr (record {
        free = free;
        whole = whole;
        piece = subst IsLogPiece (sym parts) piece;
        some = subst (λ (l : List ℕ). 0 < length l) (sym parts) some;
        does = subst (λ (l : List ℕ). JudgesLine l now new (Ok tt)) same does;
        ends = ends;
      }),
    )

pub turns-last-stop : (limit lines : ℕ) (a b : Option (List ℕ)) (feed next : LogFeeding) (now new : LogPlace) (line : List ℕ) (stop : LineStop)
    (answer : Conformed) → (IsLimited limit now → ⊥) → FeedsLog a b feed next Last → line ≡ next.line → JudgesLine line now new (Err stop) →
    answer ≡ answer_at lines stop → LogTurns limit lines a b feed next now new (Some answer)
unfolding LogTurns FeedsLog
turns-last-stop limit lines a b feed next now new line stop answer free (taken, takes, whole, parts, piece, some, none) is does said = (
  taken,
  takes.0,
  inl (inr (inl (record {
    free = free;
    line = line;
    next = inr (whole, subst IsLogPiece (sym parts) piece, subst (λ (l : List ℕ). 0 < length l) (sym parts) some, is ∙ sym parts);
    stop = stop;
    does = does;
    answer_is = said;
  }))),
)

-- an unfinished line that is too long
pub turns-long : (limit lines : ℕ) (a b : Option (List ℕ)) (feed next : LogFeeding) (now : LogPlace) (answer : Conformed) → (IsLimited limit now → ⊥) →
    FeedsLog a b feed next TooLong → answer ≡ answer_at lines (Refused kind.TooLong) → LogTurns limit lines a b feed next now now (Some answer)
unfolding LogTurns FeedsLog
turns-long limit lines a b feed next now answer free (taken, takes, parts, piece, long, none) said = (
  taken,
  takes.0,
  inl (inr (inr (inl (record {
    free = free;
    piece = subst IsLogPiece (sym parts) piece;
    long = subst (λ (l : List ℕ). 514 ≤ length l) (sym parts) long;
    same = refl;
    answer_is = said;
  })))),
)

-- the end of the log
pub turns-end : (limit lines : ℕ) (a b : Option (List ℕ)) (feed next : LogFeeding) (now : LogPlace) (answer : Conformed) → FeedsLog a b feed next AtEnd →
    EndsLogAt limit now.core.state answer → LogTurns limit lines a b feed next now now (Some answer)
unfolding LogTurns FeedsLog
turns-end limit lines a b feed next now answer (empty, whole, gives, none) ends = (
  [],
  gives,
  inl (inr (inr (inr (inr (inl (record { whole = whole; nothing = append-nil feed.rest ∙ empty; same = refl; ends = ends })))))),
)

-- a take that failed
pub turns-unread : (limit lines : ℕ) (a b : Option (List ℕ)) (feed next : LogFeeding) (now : LogPlace) → (IsLimited limit now → ⊥) →
    FeedsLog a b feed next Fault → LogTurns limit lines a b feed next now now (Some (Ran ran.ReadFault))
unfolding LogTurns FeedsLog
turns-unread limit lines a b feed next now free (taken, takes, parts, piece) = (
  taken,
  takes.0,
  inl (inr (inr (inr (inl (record { free = free; piece = subst IsLogPiece parts piece; same = refl; answer_is = refl }))))),
)

pub log-within : (limit : ℕ) (a b : Option (List ℕ)) (start now : LogPlace) (rest : List ℕ) (count : ℕ) → LogComes limit a b start now rest count →
    now.core.state.retired ≤ limit
log-within limit a b start now rest count h = h.arrives.within
