-- How a run stops, at whatever moment it has reached.
use Rattle.std.proofs.Common.{◌≡◌, ℕ, ◌<◌, List, [], ◌∷◌, ◌++◌, Option, Some, None, Err, true, refl, sym, ap, subst, ◌∙◌, take, append_assoc}
use Rattle.std.proofs.lemmas.List.{append_cancel_left}
use Rattle.run_options.specs.declared.reporting.Reporting.{Reporting}
use Rattle.run_options.specs.Reportings as show
use Rattle.cf_io.specs.Puts.{Writes, WritesFront}
use Rattle.cf_io.proofs.Owing.{front-again, writes-again}
use Rattle.rv_machine.specs.Machine.{Machine}
use Rattle.rv_machine.specs.Streams.{Streams, Leaves}
use Rattle.cf_layout.specs.Accepted.{IsAccepted}
use Rattle.cf_bind.specs.declared.moves.Move.{Move}
use Rattle.cf_bind.specs.declared.moves.Move.TheVariants.{Serve}
use Rattle.cf_semantics.specs.declared.event.Event.{Event}
use Rattle.cf_semantics.specs.moves.Bars.{bar}
use Rattle.cf_semantics.specs.runs.Lines.{Line}
use Rattle.cf_semantics.specs.state.State.{State, Moment}
use Rattle.theory_refinement.proofs.invariant.Invariant.{HoldsAfter}
use Rattle.cf_core.specs.Processors.{Processor, in_state}
use Rattle.cf_core.specs.Stepping.{FailsToRead, FailsToWrite}
use Rattle.cf_report.proofs.Parts.{text-before, part-front, part-whole}
use Rattle.run_finishes.specs.declared.finish.Ran.{Ran as Answer}
use Rattle.run_finishes.specs.declared.finish.Ran.TheVariants as ran
use Rattle.run_finishes.specs.declared.finish.Scripted.{Scripted}
use Rattle.run_finishes.specs.declared.finish.Scripted.TheVariants.{Ran}
use Rattle.cf_run.specs.Headline.{StandsAt, IsUnmoved, FailsInput, FailsOutput, StopsAt, AreTexts, Gets, ReportsLines}
use Rattle.cf_run.specs.Made.{Made, moves_of, all_shown}
use Rattle.cf_run.specs.Moving.{RunPlace, MakesMove, MakesAndShows, FailsOutside, FailsBefore, MoveDoes, shown_of}
use Rattle.cf_run.specs.Reaching.{Reaches, IsOver}
use Rattle.cf_run.proofs.Arrived.{Arrives}
use Rattle.cf_run.proofs.Fronts.{front-after}
use Rattle.cf_run.proofs.Runs.{moves-more, reached-more, reached-trace}

-- a run stopped at the moment, and reported these lines, numbered from n on
pub record IsStopped (shows : Reporting) (x : Machine) (m : Moment) (n : ℕ) (written : List Line) (begin new : RunPlace) (answer : Scripted) : Type 0 where
  pub stops : StopsAt x m begin new answer
  pub report : ReportsLines shows n written begin new answer

-- whatever is true of the RunPlace that it had reached, it stopped there
abbrev StopsFrom : Reporting → (begin now new : RunPlace) → Scripted → Type 0
StopsFrom shows begin now new answer =
    (x : Machine) (m : Moment) (n : ℕ) (written : List Line) → Arrives shows x m n written begin now → IsStopped shows x m n written begin new answer

-- the report of a run that stopped in this way
told_lines : (shows : Reporting) (begin new : RunPlace) (answer : Scripted) (trace : List Made) (n : ℕ) (written : List Line) →
    AreTexts n written (all_shown show.retired begin.core.plan 1 trace)
    → Gets begin.report new.report answer (all_shown shows begin.core.plan 1 trace) → ReportsLines shows n written begin new answer
told_lines shows begin new answer trace n written texts gets = (trace, texts, gets)

-- a run that does not go on from where it has arrived
stays : (shows : Reporting) (begin now new : RunPlace) (answer : Scripted) → new ≡ now → ((x : Machine) (m : Moment) → StandsAt m begin new →
    StopsAt x m begin new answer)
    → ((text : List ℕ) → Writes begin.report new.report text → Gets begin.report new.report answer text) → StopsFrom shows begin now new answer
stays shows begin now new answer same stops gets x m n written a =
    let h : Arrives shows x m n written begin new = subst (Arrives shows x m n written begin) (sym same) a in
    record {
      stops = stops x m (record { core = h.core; streams = h.streams });
      report = told_lines shows begin new answer h.trace n written h.texts
          (gets _ h.report);
    }

-- the processor that a failed read leaves
unread : (begin old new : Processor) (m : Moment) (before after : Streams) → old ≡ in_state begin m.state → FailsToRead old new before after →
    IsUnmoved m new.state
unread begin old new m before after same h =
    let is : new.state ≡ record m.state { mem = new.state.mem; failed = true } = ap (λ (p : Processor). p.state) h.processor
    ∙ ap (λ (p : Processor). record p.state { mem = new.state.mem; failed = true }) same in
    record { regs = ap (λ (s : State). s.regs) is; retired = ap (λ (s : State). s.retired) is; ending = ap (λ (s : State). s.ending) is }

-- and a failed write
unwritten : (begin old new : Processor) (m : Moment) (before after : Streams) → old ≡ in_state begin m.state → FailsToWrite old new before after →
    IsUnmoved m new.state
unwritten begin old new m before after same h =
    let is : new.state ≡ record m.state { failed = true } = ap (λ (p : Processor). p.state) h.processor
    ∙ ap (λ (p : Processor). record p.state { failed = true }) same in
    record { regs = ap (λ (s : State). s.regs) is; retired = ap (λ (s : State). s.retired) is; ending = ap (λ (s : State). s.ending) is }

-- the call was to be served
served_next : (begin old : Processor) (m : Moment) (mv : Move) → old ≡ in_state begin m.state → mv ≡ Serve → bar old.plan old.state mv ≡ None →
    bar begin.plan m.state Serve ≡ None
served_next begin old m mv same serves free =
    let P : Processor → Type 0 = λ p. bar p.plan p.state mv ≡ None in
    subst (λ (v : Move). bar begin.plan m.state v ≡ None) serves (subst P same free)

-- the input failed the call
no_input : (mv : Move) (m : Moment) (begin now new : RunPlace) → now.core ≡ in_state begin.core m.state → Leaves begin.streams now.streams m.rest m.output →
    FailsOutside mv now new → FailsToRead now.core new.core now.streams new.streams → FailsInput m begin new
no_input mv m begin now new core streams outside h = record {
  allowed = served_next begin.core now.core m mv core outside.serves outside.allowed;
  before = now.streams;
  reached = streams;
  fails = subst (λ (p : Processor). FailsToRead p new.core now.streams new.streams) core h;
  unmoved = unread begin.core now.core new.core m now.streams new.streams core h;
  output = subst (λ (o : Option (List ℕ)). Writes begin.streams.output o m.output) (sym h.fails.output) streams.output;
}

-- what was written if a prefix was, whether or not the output exposes it
record Written (before after : Option (List ℕ)) (bytes : List ℕ) : Type 0 where
  count : ℕ
  told : Writes before after (take count bytes)

written_front : (before after : Option (List ℕ)) (bytes : List ℕ) → WritesFront before after bytes → Written before after bytes
written_front None after bytes front = record { count = 0; told = tt }
written_front (Some told) after bytes front = record { count = front.0; told = front.2 }

-- the output failed the call
no_output : (mv : Move) (x : Machine) (m : Moment) (begin now new : RunPlace) → IsAccepted begin.core.plan → HoldsAfter begin.core.plan x m →
    now.core ≡ in_state begin.core m.state → Leaves begin.streams now.streams m.rest m.output
    → FailsOutside mv now new → FailsToWrite now.core new.core now.streams new.streams → FailsOutput x m begin new
no_output mv x m begin now new accepted held core streams outside h =
    let free : bar begin.core.plan m.state Serve ≡ None = served_next begin.core now.core m mv core outside.serves outside.allowed in
    let fails : FailsToWrite (in_state begin.core m.state) new.core now.streams new.streams =
    subst (λ (p : Processor). FailsToWrite p new.core now.streams new.streams) core h in
    let part : Written now.streams.output new.streams.output fails.fails.bytes = written_front now.streams.output new.streams.output fails.fails.bytes
    fails.fails.output in
    record {
      allowed = free;
      before = now.streams;
      reached = streams;
      fails = fails;
      unmoved = unwritten begin.core now.core new.core m now.streams new.streams core h;
      written = m.output ++ take part.count fails.fails.bytes;
      output = writes-again begin.streams.output now.streams.output new.streams.output m.output (take part.count fails.fails.bytes) streams.output part.told;
      front = front-after begin.core.plan x m fails.fails.bytes part.count accepted held free fails.calls fails.fails.asks fails.fails.buffer;
    }

-- the report of a run that a failed call stops; the call is not counted or shown
broken_lines : (shows : Reporting) (x : Machine) (m : Moment) (n : ℕ) (written : List Line) (begin now new : RunPlace) (answer : Scripted) (mv : Move) →
    Arrives shows x m n written begin now → FailsOutside mv now new
    → ((text : List ℕ) → Writes begin.report new.report text → Gets begin.report new.report answer text) → ReportsLines shows n written begin new answer
broken_lines shows x m n written begin now new answer mv a outside gets =
    told_lines shows begin new answer a.trace n written a.texts
    (gets _ (text-before begin.report now.report new.report (all_shown shows begin.core.plan 1 a.trace) a.report outside.report))

-- it stops at a failed read
unread_stop : (shows : Reporting) (begin now new : RunPlace) (mv : Move) → FailsOutside mv now new → FailsToRead now.core new.core now.streams new.streams →
    StopsFrom shows begin now new (Ran ran.ReadFault)
unfolding StopsAt Gets
unread_stop shows begin now new mv outside fails x m n written a = record {
  stops = no_input mv m begin now new a.core a.streams outside fails;
  report = broken_lines shows x m n written begin now new (Ran ran.ReadFault) mv a outside (λ text w. w);
}

-- or at a failed write
unwritten_stop : (shows : Reporting) (begin now new : RunPlace) (mv : Move) → IsAccepted begin.core.plan → FailsOutside mv now new →
    FailsToWrite now.core new.core now.streams new.streams → StopsFrom shows begin now new (Ran ran.WriteFault)
unfolding StopsAt Gets
unwritten_stop shows begin now new mv accepted outside fails x m n written a = record {
  stops = no_output mv x m begin now new accepted a.kept.held a.core a.streams outside fails;
  report = broken_lines shows x m n written begin now new (Ran ran.WriteFault) mv a outside (λ text w. w);
}

-- a report that got everything that was to be written to it
abbrev pub filled : Option (List ℕ) → List ℕ → Option (List ℕ)
filled None text = None
filled (Some told) text = Some (told ++ text)

fills : (told : Option (List ℕ)) (text : List ℕ) → Writes told (filled told text) text
fills None text = tt
fills (Some told) text = refl

-- earlier texts and a prefix of the last are a prefix of all
front_whole : (a b c : Option (List ℕ)) (x y z : List ℕ) → Writes a b x → WritesFront b c y → Writes a (filled b y) z → WritesFront a c z
front_whole None b c x y z h front whole = tt
front_whole (Some told) b c x y z h front whole =
    let P : Option (List ℕ) → Type 0 = λ o. filled o y ≡ Some (told ++ z) in
    let both : Some ((told ++ x) ++ y) ≡ Some (told ++ z) = subst P h whole in
    let bytes : (told ++ x) ++ y ≡ told ++ z = cc in
    let same : x ++ y ≡ z = append_cancel_left told (x ++ y) z (sym (append_assoc told x y) ∙ bytes) in
    subst (WritesFront (Some told) c) same (front-again (Some told) b c x y h front)

-- the last move of a run whose report failed, as if it had not failed
pub shown_too : (shows : Reporting) (mv : Move) (e : Event) (now new : RunPlace) → MakesMove mv e now new →
    MakesAndShows shows mv e now (record new { report = filled now.report (shown_of shows mv e now new) })
shown_too shows mv e now new d =
    let text : List ℕ = shown_of shows mv e now new in
    record {
      makes = record { allowed = d.allowed; makes = d.makes; is_event = d.is_event; tally = d.tally };
      report = fills now.report text;
    }

-- where a run arrived in the end: it made these moves, and stopped there
pub record ComesTo (limit : ℕ) (shows : Reporting) (begin : RunPlace) (moves : List Move) (new : RunPlace) (answer : Scripted) : Type 0 where
  pub now : RunPlace
  pub reaches : Reaches limit shows begin now
  pub moves_are : moves_of reaches.trace ≡ moves
  pub stops : StopsFrom shows begin now new answer

-- a run that has reached a RunPlace and does not go on
pub comes_here : (limit : ℕ) (shows : Reporting) (begin now new : RunPlace) (answer : Scripted) (h : Reaches limit shows begin now) → new ≡ now →
    ((x : Machine) (m : Moment) → StandsAt m begin new → StopsAt x m begin new answer)
    → ((text : List ℕ) → Writes begin.report new.report text → Gets begin.report new.report answer text) →
    ComesTo limit shows begin (moves_of h.trace) new answer
comes_here limit shows begin now new answer h same stops gets = record {
  now = now;
  reaches = h;
  moves_are = refl;
  stops = stays shows begin now new answer same stops gets;
}

-- a run that is over
pub comes_over : (limit : ℕ) (shows : Reporting) (begin now new : RunPlace) (answer : Answer) (h : Reaches limit shows begin now) →
    IsOver limit now.core.state answer → new ≡ now → ComesTo limit shows begin (moves_of h.trace) new (Ran answer)
unfolding StopsAt Gets
comes_over limit shows begin now new (ran.Exit status) h is same = comes_here limit shows begin now new (Ran (ran.Exit status)) h same (λ x m h. h)
    (λ text w. w)
comes_over limit shows begin now new (ran.Trap cause pc detail) h is same = comes_here limit shows begin now new (Ran (ran.Trap cause pc detail)) h same
    (λ x m h. h) (λ text w. w)
comes_over limit shows begin now new ran.Limit h is same = comes_here limit shows begin now new (Ran ran.Limit) h same (λ x m h. h) (λ text w. w)
comes_over limit shows begin now new ran.ReadFault h is same = absurd is
comes_over limit shows begin now new ran.WriteFault h is same = absurd is
comes_over limit shows begin now new ran.ReportFault h is same = absurd is

-- a run whose next move the input failed
pub comes_unread : (limit : ℕ) (shows : Reporting) (begin now new : RunPlace) (mv : Move) (h : Reaches limit shows begin now) →
    MoveDoes shows mv now new (Err ran.ReadFault) → ComesTo limit shows begin (moves_of h.trace) new (Ran ran.ReadFault)
unfolding MoveDoes
comes_unread limit shows begin now new mv h does = record { now = now; reaches = h; moves_are = refl; stops = unread_stop shows begin now new mv does.0 does.1 }

-- or the output
pub comes_unwritten : (limit : ℕ) (shows : Reporting) (begin now new : RunPlace) (mv : Move) → IsAccepted begin.core.plan →
    (h : Reaches limit shows begin now) →
    MoveDoes shows mv now new (Err ran.WriteFault) → ComesTo limit shows begin (moves_of h.trace) new (Ran ran.WriteFault)
unfolding MoveDoes
comes_unwritten limit shows begin now new mv accepted h does =
    record { now = now; reaches = h; moves_are = refl; stops = unwritten_stop shows begin now new mv accepted does.0 does.1 }

-- a run whose report failed, after a move that was made and counted
pub comes_unshown : (limit : ℕ) (shows : Reporting) (begin now new : RunPlace) (mv : Move) (h : Reaches limit shows begin now) →
    now.core.state.retired < limit →
    MoveDoes shows mv now new (Err ran.ReportFault) → ComesTo limit shows begin (moves_of h.trace ++ mv ∷ []) new (Ran ran.ReportFault)
unfolding MoveDoes StopsAt Gets
comes_unshown limit shows begin now new mv h below (e, d) =
    let text : List ℕ = shown_of shows mv e now new in
    let full : RunPlace = record new { report = filled now.report text } in
    let made : MakesAndShows shows mv e now full = shown_too shows mv e now new d.makes in
    record {
      now = full;
      reaches = reached-more limit shows begin now full mv e h below made;
      moves_are = ap moves_of (reached-trace limit shows begin now full mv e h below made)
          ∙ moves-more h.trace (record { move = mv; event = e; state = full.core.state });
      stops = λ x m n written a. record {
        stops = record { core = a.core; streams = a.streams };
        report = told_lines shows begin new (Ran ran.ReportFault) a.trace n written a.texts
            (part-front begin.report new.report (all_shown shows begin.core.plan 1 a.trace)
            (front_whole begin.report now.report new.report (all_shown shows begin.core.plan 1 h.trace) text
            (all_shown shows begin.core.plan 1 a.trace) h.report d.report a.report));
      };
    }

-- or before a move, which was not made
pub comes_unpassed : (limit : ℕ) (shows : Reporting) (begin now new : RunPlace) (mv : Move) (h : Reaches limit shows begin now) → FailsBefore mv now new →
    ComesTo limit shows begin (moves_of h.trace) new (Ran ran.ReportFault)
unfolding StopsAt Gets
comes_unpassed limit shows begin now new mv h before = record {
  now = now;
  reaches = h;
  moves_are = refl;
  stops = λ x m n written a. record {
    stops = record {
      core = before.core ∙ a.core;
      streams = subst (λ (s : Streams). Leaves begin.streams s m.rest m.output) (sym before.streams) a.streams;
    };
    report = told_lines shows begin new (Ran ran.ReportFault) a.trace n written a.texts
        (part-whole begin.report new.report (all_shown shows begin.core.plan 1 a.trace)
        (text-before begin.report now.report new.report (all_shown shows begin.core.plan 1 a.trace) a.report before.report));
  };
}
