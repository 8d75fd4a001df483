-- The lines of a log that were processed, and the next one.
use Rattle.std.proofs.Common.{◌≡◌, ℕ, ◌+◌, ◌<◌, ◌≤◌, List, [], ◌∷◌, ◌++◌, length, Option, Some, None, Result, Ok, Err, refl, sym, ap, subst, ◌∙◌, inl, inr, append-nil, append_assoc, arith}
use Rattle.std.proofs.lemmas.Bool.{cases_lt}
use Rattle.std.proofs.lemmas.List.{length-append}
use Rattle.run_options.specs.Reportings as show
use Rattle.rv_machine.specs.Hart.{Hart}
use Rattle.cf_layout.specs.Accepted.{IsAccepted}
use Rattle.cf_bind.specs.declared.moves.Move.{Move}
use Rattle.cf_semantics.specs.declared.event.Event.{Event}
use Rattle.cf_semantics.specs.moves.Bars.{bar}
use Rattle.cf_semantics.specs.state.State.{State}
use Rattle.theory_refinement.proofs.claims.Runs.{going}
use Rattle.cf_core.specs.Processors.{Processor, opened_processor}
use Rattle.cf_report.specs.declared.tally.Tally.{Tally}
use Rattle.run_finishes.specs.declared.finish.Ran.TheVariants as ran
use Rattle.cf_run.specs.Made.{Made, moves_of, counted_event}
use Rattle.cf_run.specs.Moving.{RunPlace, MakesAndShows}
use Rattle.cf_run.specs.Reaching.{Reaches, no_tally}
use Rattle.cf_run.proofs.Runs.{reached-none, none-trace, reached-more, reached-trace, moves-more, made-within}
use Rattle.cf_log.specs.declared.kind.LogKind.{LogKind}
use Rattle.cf_log.specs.declared.said.ObservedPart.{ObservedPart}
use Rattle.cf_log.specs.declared.said.ObservedPart.TheVariants.{Retire}
use Rattle.cf_log.specs.declared.said.Said.{Said}
use Rattle.cf_log.specs.declared.said.Said.TheVariants.{Makes, Observes}
use Rattle.cf_log.specs.declared.said.TimedLine.{TimedLine}
use Rattle.cf_log.specs.Lines.{after_time, log_line_read}
use Rattle.cf_conform.specs.declared.progress.LatestRetired.{LatestRetired}
use Rattle.cf_conform.specs.declared.progress.LogProgress.{LogProgress}
use Rattle.cf_conform.specs.declared.answer.LineStop.{LineStop}
use Rattle.cf_conform.specs.declared.answer.LineStop.TheVariants.{Refused}
use Rattle.cf_conform.specs.Conforming.{GoesThrough, IsLimited, IsMachineLine, IsRetireLine, RetireAsMachine, logged_moves, moves_read, moves_said, latest_time}
use Rattle.cf_conform.specs.Judging.{AgreesWith, JudgesPart, JudgesPartAt, JudgesLine, JudgesReading, JudgesSaid, MakesLogged, TriesMove}
use Rattle.cf_conform.specs.LogPlaces.{LogPlace, as_run, at_time, no_progress, latest_after}
use Rattle.cf_conform.specs.Wanted.{wanted_line}
use Rattle.cf_conform.proofs.Machines.{latest_of, latest-more, latest-none, machine-line, retire-none, retire-more, retire-said, retire-read}

-- what the run has reached after these lines
pub record LogArrives (limit : ℕ) (start : LogPlace) (lines : List (List ℕ)) (now : LogPlace) : Type 0 where
  pub through : GoesThrough limit start lines now
  pub reached : Reaches limit show.report (as_run start) (as_run now)
  pub logged : (more : List (List ℕ)) → logged_moves 0 1 (lines ++ more)
      ≡ moves_of reached.trace ++ logged_moves now.progress.time (now.progress.tally.moves + 1) more
  pub latest : now.progress.latest ≡ latest_of reached.trace
  pub within : now.core.state.retired ≤ limit
  pub few : now.progress.tally.moves ≤ length lines
  pub observed : now.progress.observed ≤ length lines
  pub retire : RetireAsMachine start.core lines

-- before the first line
pub arrives-first : (limit : ℕ) (start : LogPlace) → start.progress ≡ no_progress → start.core.state.retired ≤ limit → LogArrives limit start [] start
unfolding GoesThrough
arrives-first limit start fresh low =
    let none : start.progress.tally ≡ no_tally = ap (λ (p : LogProgress). p.tally) fresh in
    let trace : (reached-none limit show.report (as_run start) none).trace ≡ [] = none-trace limit show.report (as_run start) none in
    record {
      through = refl;
      reached = reached-none limit show.report (as_run start) none;
      logged = λ more. sym (ap (λ (t : List Made). moves_of t ++ logged_moves start.progress.time (start.progress.tally.moves + 1) more) trace
          ∙ ap (λ (p : LogProgress). logged_moves p.time (p.tally.moves + 1) more) fresh);
      latest = ap (λ (p : LogProgress). p.latest) fresh ∙ sym (ap latest_of trace ∙ latest-none);
      within = low;
      few = omega (arith, ap (λ (p : LogProgress). p.tally.moves) fresh);
      observed = omega (arith, ap (λ (p : LogProgress). p.observed) fresh);
      retire = retire-none start.core;
    }

-- one more line is processed
goes_more : (limit : ℕ) (start : LogPlace) (lines : List (List ℕ)) (now : LogPlace) (line : List ℕ) (new : LogPlace) → GoesThrough limit start lines now →
    (IsLimited limit now → ⊥) → JudgesLine line now new (Ok tt) → GoesThrough limit start (lines ++ line ∷ []) new
unfolding GoesThrough
goes_more limit start [] now line new same free does =
    let P : LogPlace → Type 0 = λ p. (IsLimited limit p → ⊥) × JudgesLine line p new (Ok tt) in
    let here : P start = subst P same (free, does) in
    (new, here.0, here.1, refl)
goes_more limit start (first ∷ lines) now line new (next, before, done, h) free does =
    (next, before, done, goes_more limit next lines now line new h free does)

no_error : (stop : LineStop) (result : Result (Unit {0}) LineStop) → result ≡ Ok tt → result ≡ Err stop → ⊥
no_error stop result h k = cc

-- below the limit
below : (limit retired : ℕ) → retired ≤ limit → (retired ≡ limit → ⊥) → retired < limit
below limit retired low other = elim (cases_lt retired limit) [
  | inl under ↦ under
  | inr over ↦ absurd (other (omega (arith, low, over)))
]

-- The lines after one that is read in this way --

lines_on : (lines more : List (List ℕ)) (line : List ℕ) → logged_moves 0 1 ((lines ++ line ∷ []) ++ more) ≡ logged_moves 0 1 (lines ++ line ∷ more)
lines_on lines more line = ap (logged_moves 0 1) (append_assoc lines (line ∷ []) more)

logged_line : (time next : ℕ) (line : List ℕ) (more : List (List ℕ)) (read : Result (Option TimedLine) LogKind) → log_line_read time next line ≡ read →
    logged_moves time next (line ∷ more) ≡ moves_read read ++ logged_moves (latest_time time read) (next + length (moves_read read)) more
unfolding logged_moves
logged_line time next line more read is =
    ap (λ (r : Result (Option TimedLine) LogKind). moves_read r ++ logged_moves (latest_time time r) (next + length (moves_read r)) more) is

-- a line that makes no move
still_logged : (lines more : List (List ℕ)) (line : List ℕ) (moves : List Move) (time next later : ℕ) (read : Result (Option TimedLine) LogKind) →
    ((more : List (List ℕ)) → logged_moves 0 1 (lines ++ more) ≡ moves ++ logged_moves time next more) → log_line_read time next line ≡ read →
    moves_read read ≡ [] → latest_time time read ≡ later → logged_moves 0 1 ((lines ++ line ∷ []) ++ more) ≡ moves ++ logged_moves later next more
still_logged lines more line moves time next later read h is none after =
    let count : next + length (moves_read read) ≡ next = omega (arith, ap length none) in
    lines_on lines more line ∙ h (line ∷ more)
    ∙ ap (λ (rest : List Move). moves ++ rest) (logged_line time next line more read is
    ∙ ap (λ (m : List Move). m ++ logged_moves (latest_time time read) (next + length (moves_read read)) more) none
    ∙ ap (λ (n : ℕ). logged_moves (latest_time time read) n more) count
    ∙ ap (λ (t : ℕ). logged_moves t next more) after)

-- a line that makes one
move_logged : (lines more : List (List ℕ)) (line : List ℕ) (moves : List Move) (time next later : ℕ) (mv : Move) (read : Result (Option TimedLine) LogKind) →
    ((more : List (List ℕ)) → logged_moves 0 1 (lines ++ more) ≡ moves ++ logged_moves time next more) → log_line_read time next line ≡ read →
    moves_read read ≡ mv ∷ [] → latest_time time read ≡ later →
    logged_moves 0 1 ((lines ++ line ∷ []) ++ more) ≡ (moves ++ mv ∷ []) ++ logged_moves later (next + 1) more
move_logged lines more line moves time next later mv read h is one after =
    let count : next + length (moves_read read) ≡ next + 1 = ap (λ (m : List Move). next + length m) one in
    lines_on lines more line ∙ h (line ∷ more)
    ∙ ap (λ (rest : List Move). moves ++ rest) (logged_line time next line more read is
    ∙ ap (λ (m : List Move). m ++ logged_moves (latest_time time read) (next + length (moves_read read)) more) one
    ∙ ap (λ (n : ℕ). mv ∷ logged_moves (latest_time time read) n more) count
    ∙ ap (λ (t : ℕ). mv ∷ logged_moves t (next + 1) more) after)
    ∙ sym (append_assoc moves (mv ∷ []) (logged_moves later (next + 1) more))

more_lines : (lines : List (List ℕ)) (line : List ℕ) → length (lines ++ line ∷ []) ≡ length lines + 1
more_lines lines line = length-append lines (line ∷ [])

-- One more line --

-- the premises of each case
record Onward (limit : ℕ) (start : LogPlace) (lines : List (List ℕ)) (now : LogPlace) (line : List ℕ) : Type 0 where
  accepted : IsAccepted start.core.plan
  wide : length start.core.state.regs ≡ 32
  h : LogArrives limit start lines now
  free : IsLimited limit now → ⊥

-- a line that says nothing
more_skipped : (limit : ℕ) (start : LogPlace) (lines : List (List ℕ)) (now new : LogPlace) (line : List ℕ) → Onward limit start lines now line →
    log_line_read now.progress.time (now.progress.tally.moves + 1) line ≡ Ok None → new ≡ now → GoesThrough limit start (lines ++ line ∷ []) new →
    LogArrives limit start (lines ++ line ∷ []) new
more_skipped limit start lines now new line o is same goes =
    let h = o.h in
    let size = more_lines lines line in
    let here : LogArrives limit start (lines ++ line ∷ []) now = record {
      through = subst (GoesThrough limit start (lines ++ line ∷ [])) same goes;
      reached = h.reached;
      logged = λ more. still_logged lines more line (moves_of h.reached.trace) now.progress.time (now.progress.tally.moves + 1) now.progress.time (Ok None)
          h.logged is refl refl;
      latest = h.latest;
      within = h.within;
      few = omega (arith, h.few, size);
      observed = omega (arith, h.observed, size);
      retire = retire-more start.core lines line h.retire (λ hart opens retires. absurd
          (retire-read now.progress.time (now.progress.tally.moves + 1) line retires is));
    } in
    subst (LogArrives limit start (lines ++ line ∷ [])) (sym same) here

-- a line that makes a move
more_made : (limit : ℕ) (start : LogPlace) (lines : List (List ℕ)) (now new : LogPlace) (line : List ℕ) (t : TimedLine) (mv : Move) →
    Onward limit start lines now line → log_line_read now.progress.time (now.progress.tally.moves + 1) line ≡ Ok (Some t) → t.said ≡ Makes mv →
    MakesLogged mv (at_time now t.time) new → GoesThrough limit start (lines ++ line ∷ []) new → LogArrives limit start (lines ++ line ∷ []) new
more_made limit start lines now new line t mv o is said m goes =
    let h = o.h in
    let unended : now.core.state.ending ≡ None = going now.core.plan now.core.state mv m.makes.makes.allowed in
    let low : now.core.state.retired < limit = below limit now.core.state.retired h.within (λ level. o.free (unended, level)) in
    let made : Made = record { move = mv; event = m.event; state = new.core.state } in
    let reached : Reaches limit show.report (as_run start) (as_run new) =
    reached-more limit show.report (as_run start) (as_run now) (as_run new) mv m.event h.reached low m.makes in
    let trace : reached.trace ≡ h.reached.trace ++ made ∷ [] =
    reached-trace limit show.report (as_run start) (as_run now) (as_run new) mv m.event h.reached low m.makes in
    let moves : moves_of reached.trace ≡ moves_of h.reached.trace ++ mv ∷ [] = ap moves_of trace ∙ moves-more h.reached.trace made in
    let size = more_lines lines line in
    let time : new.progress.time ≡ t.time = ap (λ (p : LogProgress). p.time) m.progress in
    let count : new.progress.tally.moves ≡ now.progress.tally.moves + 1 = ap (λ (p : LogProgress). p.tally.moves) m.progress in
    let seen : new.progress.observed ≡ now.progress.observed = ap (λ (p : LogProgress). p.observed) m.progress in
    record {
      through = goes;
      reached = reached;
      logged = λ more. move_logged lines more line (moves_of h.reached.trace) now.progress.time (now.progress.tally.moves + 1) t.time mv (Ok (Some t))
          h.logged is (ap moves_said said) refl
          ∙ ap (λ (m : List Move). m ++ logged_moves t.time (now.progress.tally.moves + 1 + 1) more) (sym moves)
          ∙ ap (λ (n : ℕ). moves_of reached.trace ++ logged_moves t.time (n + 1) more) (sym count)
          ∙ ap (λ (n : ℕ). moves_of reached.trace ++ logged_moves n (new.progress.tally.moves + 1) more) (sym time);
      latest = ap (λ (p : LogProgress). p.latest) m.progress
          ∙ ap (λ (l : Option LatestRetired). latest_after l m.event new.core.state.retired) h.latest
          ∙ sym (ap latest_of trace ∙ latest-more h.reached.trace made);
      within = made-within limit show.report (as_run now) (as_run new) mv m.event low m.makes;
      few = omega (arith, h.few, size, count);
      observed = omega (arith, h.observed, size, seen);
      retire = retire-more start.core lines line h.retire
          (λ hart opens retires. absurd (not_retire t.said mv said (retire-said now.progress.time (now.progress.tally.moves + 1) line t retires is)));
    }
  where
    not_retire : (said : Said) (mv : Move) → said ≡ Makes mv → said ≡ Observes Retire → ⊥
    not_retire said mv is other = let both : Makes mv ≡ Observes Retire = sym is ∙ other in cc

-- the latest retirement is the observed one
observed_retire : (limit : ℕ) (start : LogPlace) (lines : List (List ℕ)) (now : LogPlace) (line : List ℕ) (t : TimedLine) (part : ObservedPart) (hart : Hart) →
    Onward limit start lines now line → start.core ≡ opened_processor start.core.plan hart → t.said ≡ Observes part → t.said ≡ Observes Retire →
    AgreesWith (after_time line) (wanted_line now.core.plan now.core.state now.progress.latest part) → IsMachineLine start.core.plan hart line
unfolding wanted_line
observed_retire limit start lines now line t part hart o opens said other agrees =
    let both : Observes part ≡ Observes Retire = sym said ∙ other in
    let which : part ≡ Retire = cc in
    let P : ObservedPart → Type 0 = λ part. AgreesWith (after_time line) (wanted_line now.core.plan now.core.state now.progress.latest part) in
    of now.progress.latest refl (subst P which agrees)
  where
    of : (latest : Option LatestRetired) → now.progress.latest ≡ latest →
        AgreesWith (after_time line) (wanted_line now.core.plan now.core.state now.progress.latest Retire) → IsMachineLine start.core.plan hart line
    of None is agrees =
        let Q : Option LatestRetired → Type 0 = λ l. AgreesWith (after_time line) (wanted_line now.core.plan now.core.state l Retire) in
        absurd (subst Q is agrees)
    of (Some latest) is agrees =
        let Q : Option LatestRetired → Type 0 = λ l. AgreesWith (after_time line) (wanted_line now.core.plan now.core.state l Retire) in
        machine-line limit (as_run start) (as_run now) hart line latest o.accepted o.wide refl opens o.h.reached (sym o.h.latest ∙ is) (subst Q is agrees)

-- a line whose observation agrees
more_observed : (limit : ℕ) (start : LogPlace) (lines : List (List ℕ)) (now new : LogPlace) (line : List ℕ) (t : TimedLine) (part : ObservedPart) →
    Onward limit start lines now line → log_line_read now.progress.time (now.progress.tally.moves + 1) line ≡ Ok (Some t) → t.said ≡ Observes part →
    JudgesPartAt line part (at_time now t.time) new (Ok tt) → GoesThrough limit start (lines ++ line ∷ []) new → LogArrives limit start (lines ++ line ∷ []) new
unfolding JudgesPart
more_observed limit start lines now new line t part o is said compared goes =
    let h = o.h in
    let size = more_lines lines line in
    let progress : LogProgress = record now.progress { time = t.time; observed = now.progress.observed + 1 } in
    let shown : LogPlace = record { core = now.core; output = now.output; progress = progress } in
    let same : new ≡ shown = ap (λ (c : Processor). record { core = c; output = new.output; progress = new.progress }) compared.core
    ∙ ap (λ (output : Option (List ℕ)). record { core = now.core; output = output; progress = new.progress }) compared.output
    ∙ ap (λ (p : LogProgress). record { core = now.core; output = now.output; progress = p }) compared.compares.1 in
    let here : LogArrives limit start (lines ++ line ∷ []) shown = record {
      through = subst (GoesThrough limit start (lines ++ line ∷ [])) same goes;
      reached = h.reached;
      logged = λ more. still_logged lines more line (moves_of h.reached.trace) now.progress.time (now.progress.tally.moves + 1) t.time (Ok (Some t))
          h.logged is (ap moves_said said) refl;
      latest = h.latest;
      within = h.within;
      few = omega (arith, h.few, size);
      observed = omega (arith, h.observed, size);
      retire = retire-more start.core lines line h.retire
          (λ hart opens retires. observed_retire limit start lines now line t part hart o opens said
          (retire-said now.progress.time (now.progress.tally.moves + 1) line t retires is) compared.compares.0);
    } in
    subst (LogArrives limit start (lines ++ line ∷ [])) (sym same) here

-- one more line is processed
pub arrives-more : (limit : ℕ) (start : LogPlace) (lines : List (List ℕ)) (now new : LogPlace) (line : List ℕ) → IsAccepted start.core.plan →
    length start.core.state.regs ≡ 32 → LogArrives limit start lines now → (IsLimited limit now → ⊥) → JudgesLine line now new (Ok tt) →
    LogArrives limit start (lines ++ line ∷ []) new
unfolding JudgesLine JudgesReading JudgesSaid TriesMove
arrives-more limit start lines now new line accepted wide h free does =
    of (log_line_read now.progress.time (now.progress.tally.moves + 1) line) refl does
  where
    goes : GoesThrough limit start (lines ++ line ∷ []) new
    goes = goes_more limit start lines now line new h.through free does

    o : Onward limit start lines now line
    o = record { accepted = accepted; wide = wide; h = h; free = free }

    said_on : (t : TimedLine) (said : Said) → t.said ≡ said → log_line_read now.progress.time (now.progress.tally.moves + 1) line ≡ Ok (Some t) →
        JudgesSaid line t.said (at_time now t.time) new (Ok tt) → LogArrives limit start (lines ++ line ∷ []) new
    said_on t (Makes mv) said is done =
        more_made limit start lines now new line t mv o is said (subst (λ (said : Said). JudgesSaid line said (at_time now t.time) new (Ok tt)) said done) goes
    said_on t (Observes part) said is done =
        more_observed limit start lines now new line t part o is said (subst (λ (said : Said). JudgesSaid line said (at_time now t.time) new (Ok tt)) said done)
        goes

    of : (read : Result (Option TimedLine) LogKind) → log_line_read now.progress.time (now.progress.tally.moves + 1) line ≡ read →
        JudgesReading line read now new (Ok tt) →
        LogArrives limit start (lines ++ line ∷ []) new
    of (Ok None) is done = more_skipped limit start lines now new line o is done.1 goes
    of (Ok (Some t)) is done = said_on t t.said refl is done
    of (Err kind) is done = absurd (no_error (Refused kind) (Ok tt) refl done.0)

-- no more instructions retire than the limit allows
pub line-within : (limit : ℕ) (line : List ℕ) (now new : LogPlace) → now.core.state.retired ≤ limit → (IsLimited limit now → ⊥) →
    JudgesLine line now new (Ok tt) → new.core.state.retired ≤ limit
unfolding JudgesLine JudgesReading JudgesSaid TriesMove
line-within limit line now new low free judges = of (log_line_read now.progress.time (now.progress.tally.moves + 1) line) judges
  where
    same : (at : LogPlace) → at.core ≡ now.core → at.core.state.retired ≤ limit
    same at is = subst (λ (p : Processor). p.state.retired ≤ limit) (sym is) low

    says : (said : Said) (time : ℕ) → JudgesSaid line said (at_time now time) new (Ok tt) → new.core.state.retired ≤ limit
    says (Makes mv) time m =
        let unended : now.core.state.ending ≡ None = going now.core.plan now.core.state mv m.makes.makes.allowed in
        made-within limit show.report (as_run now) (as_run new) mv m.event
        (below limit now.core.state.retired low (λ level. free (unended, level))) m.makes
    says (Observes part) time m = same new m.core

    of : (read : Result (Option TimedLine) LogKind) → JudgesReading line read now new (Ok tt) → new.core.state.retired ≤ limit
    of (Ok None) done = same new (ap (λ (p : LogPlace). p.core) done.1)
    of (Ok (Some t)) done = says t.said t.time done
    of (Err kind) done = absurd (no_error (Refused kind) (Ok tt) refl done.0)
