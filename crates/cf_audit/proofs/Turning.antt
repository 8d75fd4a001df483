-- How an audit ends, from the point that it has reached.
use Rattle.std.proofs.Common.{◌≡◌, ℕ, ◌+◌, ◌-◌, ◌<◌, ◌≤◌, true, List, [], ◌∷◌, ◌++◌, length, take, Option, Some, None, inl, inr, refl, sym, ap, subst, ◌∙◌, length-drop, arith}
use Rattle.std.specs.Prelude.{slice_get}
use Rattle.std.proofs.lemmas.List.{take_all}
use Rattle.std.proofs.lemmas.Option.{same_Some}
use Rattle.run_options.specs.Reportings as show
use Rattle.rv_machine.specs.Streams.{Streams, streams_of}
use Rattle.cf_layout.specs.Layout.{Plan}
use Rattle.cf_bind.specs.declared.moves.Move.{Move}
use Rattle.cf_bind.specs.declared.moves.Move.TheVariants.{Serve}
use Rattle.cf_semantics.specs.moves.Bars.{bar}
use Rattle.cf_semantics.specs.moves.Moves.{next as next_moment}
use Rattle.cf_semantics.specs.state.State.{Moment}
use Rattle.cf_core.specs.Processors.{Processor, in_state}
use Rattle.cf_core.specs.Stepping.{FailsToRead}
use Rattle.cf_report.specs.declared.tally.Tally.{Tally}
use Rattle.cf_report.specs.Lines.{numbered_move}
use Rattle.cf_run.specs.Going.{moment_of, Finds, IsMade, Leads}
use Rattle.cf_run.specs.Made.{Made, shown}
use Rattle.cf_run.specs.Moving.{RunPlace, MakesAndShows, MoveDoes, shown_of}
use Rattle.cf_run.specs.Reaching.{Reaches}
use Rattle.cf_run.proofs.Runs.{reached-more, reached-trace, reached-rest}
use Rattle.cf_run.proofs.Stopping.{filled, shown_too}
use Rattle.cf_audit.specs.declared.answer.Audit.{Audit}
use Rattle.cf_audit.specs.declared.answer.Audit.TheVariants.{Agrees, Wrong}
use Rattle.cf_audit.specs.declared.stop.AuditStop.{AuditStop}
use Rattle.cf_audit.specs.declared.stop.AuditStop.TheVariants as stopped
use Rattle.run_scripts.specs.declared.trace_refusal.TraceKind.{TraceKind}
use Rattle.run_scripts.specs.declared.trace_refusal.TraceKind.TheVariants.{NotAMove, Barred, Differs, Cut}
use Rattle.cf_audit.specs.Audits.{Audits}
use Rattle.cf_audit.specs.Compared.{Comparison, byte_list, fresh_comparison, exposed_by_sink}
use Rattle.cf_audit.specs.Traces.{most_retired, line_of_byte, has_line, BeginsWithMove, IsTrace, ReachesMoment, PartsAt, TraceFails, GoesWrong}
use Rattle.cf_audit.specs.Turns.{AuditRun, left_of, NextIs, ShownDiffers, PutsSome, AuditTries, Tests, audit_input_stopped, input_tested, outcome_of}
use Rattle.cf_audit.specs.Limits.{most_trace}
use Rattle.cf_audit.proofs.Coming.{Comes, so-far, put-after, retires-below, trace-so-far, agrees-so-far, agreed-length, stands-here}
use Rattle.cf_audit.proofs.Parting.{parted, byte_after}

-- the last of some moves, and the moment at which it was made
record LastMade (plan : Plan) (limit : ℕ) (told : Option (List ℕ)) (m : Moment) (trace : List Made) (made : Made) (last : Moment) : Type 0 where
  at : Moment
  leads : Leads plan limit told m trace at
  rest : List ℕ
  finds : Finds told at.rest rest
  is : IsMade plan limit (record at { rest = rest }) made
  last_is : last ≡ next_moment plan (record at { rest = rest }) made.move

last_made : (plan : Plan) (limit : ℕ) (told : Option (List ℕ)) (m : Moment) (trace : List Made) (made : Made) (last : Moment) →
    Leads plan limit told m (trace ++ made ∷ []) last → LastMade plan limit told m trace made last
unfolding Leads
last_made plan limit told m [] made last (rest, finds, is, h) = record { at = m; leads = refl; rest = rest; finds = finds; is = is; last_is = h }
last_made plan limit told m (first ∷ trace) made last (rest, finds, is, h) =
    let l : LastMade plan limit told (next_moment plan (record m { rest = rest }) first.move) trace made last =
    last_made plan limit told (next_moment plan (record m { rest = rest }) first.move) trace made last h in
    record { at = l.at; leads = (rest, finds, is, l.leads); rest = l.rest; finds = l.finds; is = l.is; last_is = l.last_is }

-- the first place where the group of the next move and the text differ
record PartsThere (text : List ℕ) (start : RunPlace) (now new : AuditRun) (reached : Reaches most_retired show.moves start now.place) : Type 0 where
  last : Moment
  leads : Leads start.core.plan most_retired start.streams.input (moment_of start.core reached.rest) reached.trace last
  stop : Moment
  parts : PartsAt start.core.plan start.streams.input last (now.place.tally.moves + 1) (left_of now.seen) (new.seen.agreed - now.seen.agreed) stop
  stands : ReachesMoment start.core new.place.core start.streams.input new.place.streams.input stop
  low : now.seen.agreed ≤ new.seen.agreed
  text_is : new.seen.text ≡ text
  within : new.seen.agreed ≤ length text

parts_there : (text : List ℕ) (start : RunPlace) (now new : AuditRun) (mv : Move) → length text ≤ most_trace →
    new.place.report ≡ Some (exposed_by_sink new.seen) →
    (h : Comes text start now) → NextIs now mv → ShownDiffers mv now new → PartsThere text start now new h.reached
parts_there text start now new mv small tells h next p =
    let group : List ℕ = shown_of show.moves mv p.event now.place new.place in
    let full : RunPlace = record new.place { report = filled now.place.report group } in
    let made : Made = record { move = mv; event = p.event; state = new.place.core.state } in
    let low : now.place.core.state.retired < most_retired = retires-below text start now h small in
    let makes : MakesAndShows show.moves mv p.event now.place full = shown_too show.moves mv p.event now.place new.place p.makes in
    let more : Reaches most_retired show.moves start full = reached-more most_retired show.moves start now.place full mv p.event h.reached low makes in
    let trace : more.trace ≡ h.reached.trace ++ made ∷ [] = reached-trace most_retired show.moves start now.place full mv p.event h.reached low makes in
    let rest : more.rest ≡ h.reached.rest = reached-rest most_retired show.moves start now.place full mv p.event h.reached low makes in
    let leads : Leads start.core.plan most_retired start.streams.input (moment_of start.core h.reached.rest) (h.reached.trace ++ made ∷ []) more.last =
    subst (λ (r : List ℕ). Leads start.core.plan most_retired start.streams.input (moment_of start.core r) (h.reached.trace ++ made ∷ []) more.last) rest
    (subst (λ (t : List Made). Leads start.core.plan most_retired start.streams.input (moment_of start.core more.rest) t more.last) trace more.leads) in
    let l : LastMade start.core.plan most_retired start.streams.input (moment_of start.core h.reached.rest) h.reached.trace made more.last =
    last_made start.core.plan most_retired start.streams.input (moment_of start.core h.reached.rest) h.reached.trace made more.last leads in
    let P : Option (List ℕ) → Type 0 = λ o. PutsSome o new.place.report group in
    let front : PutsSome (Some (exposed_by_sink now.seen)) new.place.report group = subst P h.tells p.report in
    let told : exposed_by_sink new.seen ≡ exposed_by_sink now.seen ++ take front.0 group = same_Some _ _ (sym tells ∙ front.2) in
    let both = put-after now.seen new.seen (take front.0 group) h.none told in
    let put : take new.seen.agreed now.seen.text ++ p.differs.other ∷ [] ≡ take now.seen.agreed now.seen.text ++ take front.0 group =
    ap (λ (t : List ℕ). take new.seen.agreed t ++ p.differs.other ∷ []) (sym both.0) ∙ ap (λ (o : Option ℕ). take new.seen.agreed new.seen.text ++ byte_list o)
    (sym p.differs.is) ∙ both.1 in
    let high : new.seen.agreed ≤ length now.seen.text = subst (λ (t : List ℕ). new.seen.agreed ≤ length t) both.0 p.differs.within in
    let other : slice_get now.seen.text new.seen.agreed ≡ Some p.differs.other → ⊥ = λ e. p.differs.differs
    (ap (λ (t : List ℕ). slice_get t new.seen.agreed) both.0 ∙ e) in
    let apart = parted now.seen.text group now.seen.agreed new.seen.agreed front.0 p.differs.other h.within high other put in
    let plan : now.place.core.plan ≡ start.core.plan = ap (λ (c : Processor). c.plan) h.reached.core in
    let number : new.place.tally.moves ≡ now.place.tally.moves + 1 = ap (λ (t : Tally). t.moves) p.makes.tally in
    let s = so-far text start now h in
    record {
      last = l.at;
      leads = l.leads;
      stop = more.last;
      stands = record { processor = more.core; input = more.streams.input };
      parts = record {
        move = mv;
        begins = next;
        group = group;
        is_group = record {
          rest = l.rest;
          finds = l.finds;
          made = made;
          is_made = l.is;
          move = refl;
          is = ap (λ (layout : Plan). shown show.moves layout new.place.tally.moves made) plan ∙ ap (λ (n : ℕ). shown show.moves start.core.plan n made) number;
        };
        leads = l.last_is;
        same = apart.1.same;
        other = p.differs.other;
        goes_on = apart.1.next;
        differs = λ here. other (byte_after now.seen.text now.seen.agreed new.seen.agreed (Some p.differs.other) apart.0 here);
      };
      low = apart.0;
      text_is = both.0 ∙ s.text_is;
      within = subst (λ (t : List ℕ). new.seen.agreed ≤ length t) s.text_is high;
    }

-- the processor and the input are where the run leads, and no more moves were made
still_there : (text : List ℕ) (start : RunPlace) (now new : AuditRun) (h : Comes text start now) → new ≡ now →
    ReachesMoment start.core new.place.core start.streams.input new.place.streams.input h.reached.last
still_there text start now new h same =
    subst (λ (s : AuditRun). ReachesMoment start.core s.place.core start.streams.input s.place.streams.input h.reached.last) (sym same)
    (stands-here text start now h)

-- the trace goes wrong at an index after the groups so far
wrong_at : (text : List ℕ) (start : RunPlace) (now : AuditRun) (h : Comes text start now) (last stop : Moment) (line place : ℕ) (kind : TraceKind) →
    Leads start.core.plan most_retired start.streams.input (moment_of start.core h.reached.rest) h.reached.trace last → 0 < length (left_of now.seen)
    → TraceFails start.core.plan start.streams.input last (now.place.tally.moves + 1) (left_of now.seen) place kind stop →
    line ≡ line_of_byte text (now.seen.agreed + place) → GoesWrong start.core start.streams.input text line kind stop
wrong_at text start now h last stop line place kind leads some fails line_is = record {
  front = take now.seen.agreed text;
  left = left_of now.seen;
  n = now.place.tally.moves;
  last = last;
  agrees = agrees-so-far text start now h last leads some;
  place = place;
  fails = fails;
  line_is = line_is ∙ ap (λ (n : ℕ). line_of_byte text (n + place)) (sym (agreed-length text start now h));
}

-- the trace goes wrong at the first line of the next group, and no more moves are made
wrong_first : (text : List ℕ) (start : RunPlace) (now new : AuditRun) (h : Comes text start now) (line : ℕ) (kind : TraceKind) → 0 < length (left_of now.seen)
    → TraceFails start.core.plan start.streams.input h.reached.last (now.place.tally.moves + 1) (left_of now.seen) 0 kind h.reached.last →
    line ≡ line_of_byte text now.seen.agreed → new ≡ now
    → Audits start.core new.place.core start.streams.input new.place.streams.input text (Wrong line kind)
unfolding Audits
wrong_first text start now new h line kind some fails line_is same =
    let here : now.seen.agreed ≡ now.seen.agreed + 0 = omega arith in (
      h.reached.last,
      wrong_at text start now h h.reached.last h.reached.last line 0 kind h.reached.leads some fails (line_is ∙ ap (line_of_byte text) here),
      still_there text start now new h same,
    )

-- a text with a line feed is not empty, nor is one that begins with the line of a move
line_some : (text : List ℕ) → has_line text ≡ true → 0 < length text
line_some [] h = absurd (cc)
line_some (x ∷ text) h = omega arith

begins_some : (text : List ℕ) (n : ℕ) (mv : Move) → BeginsWithMove text n mv → 0 < length text
unfolding numbered_move
begins_some text n mv b = omega (arith, ap length b.is)

-- what is left of the text, by its length
left_length : (text : List ℕ) (start : RunPlace) (now : AuditRun) → Comes text start now → length (left_of now.seen) + now.seen.agreed ≡ length text
left_length text start now h =
    let size : length now.seen.text ≡ length text = ap length (so-far text start now h).text_is in
    omega (arith, size, h.within, length-drop now.seen.agreed now.seen.text)

-- all of the trace agrees
agrees_all : (text : List ℕ) (start : RunPlace) (now new : AuditRun) (n : ℕ) → Comes text start now → length (left_of now.seen) ≡ 0 →
    n ≡ now.place.tally.moves → new ≡ now → Audits start.core new.place.core start.streams.input new.place.streams.input text (Agrees n)
unfolding Audits
agrees_all text start now new n h none count same =
    let all : take now.seen.agreed text ≡ text = take_all now.seen.agreed text (omega (arith, none, left_length text start now h)) in
    let trace : IsTrace start.core start.streams.input (take now.seen.agreed text) now.place.tally.moves h.reached.last =
    trace-so-far text start now h h.reached.last h.reached.leads in (
      h.reached.last,
      subst (λ (m : ℕ). IsTrace start.core start.streams.input text m h.reached.last) (sym count)
          (subst (λ (t : List ℕ). IsTrace start.core start.streams.input t now.place.tally.moves h.reached.last) all trace),
      still_there text start now new h same,
    )

-- the first index, among all bytes, at which the group of a move and the text differ
parted_place : (text : List ℕ) (start : RunPlace) (now new : AuditRun) (h : Comes text start now) (line : ℕ) → PartsThere text start now new h.reached →
    line ≡ line_of_byte text new.seen.agreed → line ≡ line_of_byte text (now.seen.agreed + (new.seen.agreed - now.seen.agreed))
parted_place text start now new h line p line_is =
    let place : new.seen.agreed ≡ now.seen.agreed + (new.seen.agreed - now.seen.agreed) = omega (arith, p.low) in
    line_is ∙ ap (line_of_byte text) place

-- an audit's output exposes nothing
abbrev IsQuiet : (now new : AuditRun) → Type 0
IsQuiet now new =
    (now.place.streams ≡ streams_of now.place.streams.input None) × (new.place.streams ≡ streams_of new.place.streams.input None)

-- the call that failed was made where the run leads
fails_there : (text : List ℕ) (start : RunPlace) (now new : AuditRun) (h : Comes text start now) → IsQuiet now new →
    FailsToRead now.place.core new.place.core now.place.streams new.place.streams
    → FailsToRead (in_state start.core h.reached.last.state) new.place.core (streams_of now.place.streams.input None) (streams_of new.place.streams.input None)
fails_there text start now new h quiet fails =
    let there : FailsToRead (in_state start.core h.reached.last.state) new.place.core now.place.streams new.place.streams =
    subst (λ (c : Processor). FailsToRead c new.place.core now.place.streams new.place.streams) h.reached.core fails in
    subst (λ (s : Streams). FailsToRead (in_state start.core h.reached.last.state) new.place.core (streams_of now.place.streams.input None) s) quiet.1
    (subst (λ (s : Streams). FailsToRead (in_state start.core h.reached.last.state) new.place.core s new.place.streams) quiet.0 there)

-- what the move of the next line leads to, if the audit ends with it
tried : (text : List ℕ) (start : RunPlace) (now new : AuditRun) (mv : Move) (stop : AuditStop) → length text ≤ most_trace →
    new.place.report ≡ Some (exposed_by_sink new.seen) → IsQuiet now new → Comes text start now → NextIs now mv → AuditTries mv now new (Some stop)
    → Audits start.core new.place.core start.streams.input new.place.streams.input text (outcome_of text stop)
unfolding Audits AuditTries TraceFails MoveDoes
tried text start now new mv (stopped.Agrees n) small tells quiet h next t = absurd t
tried text start now new mv (stopped.Wrong place NotAMove) small tells quiet h next t = absurd t
tried text start now new mv (stopped.Wrong place (Barred b)) small tells quiet h next t =
    let barred : bar start.core.plan h.reached.last.state mv ≡ Some b = subst (λ (c : Processor). bar c.plan c.state mv ≡ Some b) h.reached.core t.0 in
    wrong_first text start now new h (line_of_byte text place) (Barred b) (begins_some (left_of now.seen) (now.place.tally.moves + 1) mv next)
    (mv, next, barred, refl, refl) (ap (line_of_byte text) t.1) t.2
tried text start now new mv (stopped.Wrong place Differs) small tells quiet h next t =
    let p = parts_there text start now new mv small tells h next t.0 in
    let size : length new.seen.text ≡ length text = ap length p.text_is in (
      p.stop,
      wrong_at text start now h p.last p.stop (line_of_byte text place) (new.seen.agreed - now.seen.agreed) Differs p.leads
          (begins_some (left_of now.seen) (now.place.tally.moves + 1) mv next)
          (p.parts, omega (arith, size, t.1, p.low, left_length text start now h))
          (parted_place text start now new h (line_of_byte text place) p (ap (line_of_byte text) t.2)),
      p.stands,
    )
tried text start now new mv (stopped.Wrong place Cut) small tells quiet h next t =
    let p = parts_there text start now new mv small tells h next t.0 in
    let size : length new.seen.text ≡ length text = ap length p.text_is in (
      p.stop,
      wrong_at text start now h p.last p.stop (line_of_byte text place) (new.seen.agreed - now.seen.agreed) Cut p.leads
          (begins_some (left_of now.seen) (now.place.tally.moves + 1) mv next)
          (inr (p.parts, omega (arith, size, t.1, p.low, left_length text start now h)))
          (parted_place text start now new h (line_of_byte text place) p (ap (line_of_byte text) t.2)),
      p.stands,
    )
tried text start now new mv stopped.ReadFault small tells quiet h next t =
    let serves : mv ≡ Serve = t.0.serves in
    record {
      front = take now.seen.agreed text;
      left = left_of now.seen;
      n = now.place.tally.moves;
      last = h.reached.last;
      agrees = agrees-so-far text start now h h.reached.last h.reached.leads (begins_some (left_of now.seen) (now.place.tally.moves + 1) mv next);
      begins = subst (λ (m : Move). BeginsWithMove (left_of now.seen) (now.place.tally.moves + 1) m) serves next;
      allowed = subst (λ (c : Processor). bar c.plan c.state Serve ≡ None) h.reached.core (subst (λ (m : Move). bar now.place.core.plan now.place.core.state m
          ≡ None) serves t.0.allowed);
      asked = now.place.streams.input;
      input = h.reached.streams.input;
      fails = fails_there text start now new h quiet t.1;
    }

-- the first line of what is left names no move
pub tests-none : (left : List ℕ) (now new : AuditRun) (stop : AuditStop) → stop ≡ stopped.Wrong now.seen.agreed NotAMove →
    left ≡ left_of now.seen → has_line left ≡ true → ((mv : Move) → BeginsWithMove left (now.place.tally.moves + 1) mv → ⊥)
    → new ≡ now → Tests now new (Some stop)
unfolding Tests
tests-none left now new stop is after has none same =
    rw is (
      ap has_line (sym after) ∙ has,
      λ mv begins. none mv (subst (λ (t : List ℕ). BeginsWithMove t (now.place.tally.moves + 1) mv) (sym after) begins),
      refl,
      same,
    )

-- it names a move, which is tried
pub tests-tried : (left : List ℕ) (now new : AuditRun) (mv : Move) (stop : Option AuditStop) → left ≡ left_of now.seen →
    BeginsWithMove left (now.place.tally.moves + 1) mv → AuditTries mv now new stop → Tests now new stop
unfolding Tests AuditTries
tests-tried left now new mv stop after begins tries = of stop (subst (λ (t : List ℕ). BeginsWithMove t (now.place.tally.moves + 1) mv) after begins) tries
  where
    of : (stop : Option AuditStop) → NextIs now mv → AuditTries mv now new stop → Tests now new stop
    of None next t = (mv, next, t)
    of (Some (stopped.Agrees n)) next t = absurd t
    of (Some (stopped.Wrong place NotAMove)) next t = absurd t
    of (Some (stopped.Wrong place (Barred b))) next t = (mv, next, t)
    of (Some (stopped.Wrong place Differs)) next t = (mv, next, t)
    of (Some (stopped.Wrong place Cut)) next t = inr (mv, next, t)
    of (Some stopped.ReadFault) next t = (mv, next, t)

-- how the audit ends with a turn
pub audited : (text : List ℕ) (start : RunPlace) (now new : AuditRun) (stop : AuditStop) → length text ≤ most_trace →
    new.place.report ≡ Some (exposed_by_sink new.seen) → IsQuiet now new → Comes text start now → Tests now new (Some stop)
    → Audits start.core new.place.core start.streams.input new.place.streams.input text (outcome_of text stop)
unfolding Tests Audits TraceFails
audited text start now new (stopped.Agrees n) small tells quiet h t = agrees_all text start now new n h t.0 t.1 t.2
audited text start now new (stopped.Wrong place NotAMove) small tells quiet h t =
    wrong_first text start now new h (line_of_byte text place) NotAMove (line_some (left_of now.seen) t.0) (t.0, t.1, refl, refl) (ap (line_of_byte text) t.2)
    t.3
audited text start now new (stopped.Wrong place (Barred b)) small tells quiet h (mv, next, t) =
    tried text start now new mv (stopped.Wrong place (Barred b)) small tells quiet h next t
audited text start now new (stopped.Wrong place Differs) small tells quiet h (mv, next, t) =
    tried text start now new mv (stopped.Wrong place Differs) small tells quiet h next t
audited text start now new (stopped.Wrong place Cut) small tells quiet h (inl t) =
    wrong_first text start now new h (line_of_byte text place) Cut t.0 (inl (t.1, refl, refl)) (ap (line_of_byte text) t.2) t.3
audited text start now new (stopped.Wrong place Cut) small tells quiet h (inr (mv, next, t)) =
    tried text start now new mv (stopped.Wrong place Cut) small tells quiet h next t
audited text start now new stopped.ReadFault small tells quiet h (mv, next, t) =
    tried text start now new mv stopped.ReadFault small tells quiet h next t

-- it is the outcome of an audit of the text with which the comparison began
pub audited-text : (core new : Processor) (told now : Option (List ℕ)) (seen : Comparison) (text : List ℕ) (stop : AuditStop) (answer : Audit) →
    seen ≡ fresh_comparison text → Audits core new told now seen.text (outcome_of seen.text stop) → answer ≡ outcome_of text stop →
    Audits core new told now text answer
audited-text core new told now seen text stop answer begins audits is =
    subst (Audits core new told now text) (sym is) (subst (λ (c : Comparison). Audits core new told now c.text (outcome_of c.text stop)) begins audits)

-- and the input failed it if it stopped for that reason
pub stopped-tested : (text : List ℕ) (stop : AuditStop) → input_tested (Some (outcome_of text stop)) ≡ audit_input_stopped (Some stop)
stopped-tested text (stopped.Agrees n) = refl
stopped-tested text (stopped.Wrong place kind) = refl
stopped-tested text stopped.ReadFault = refl
