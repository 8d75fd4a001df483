-- Where an audit has arrived: the groups of the trace so far are those of a run.
use Rattle.std.proofs.Common.{◌≡◌, ℕ, ◌+◌, ◌-◌, ◌<◌, ◌≤◌, List, [], ◌∷◌, ◌++◌, length, take, drop, Option, Some, None, refl, sym, ap, subst, ◌∙◌, append-nil, arith}
use Rattle.std.proofs.lemmas.List.{take-append-drop, length-take-le}
use Rattle.std.proofs.lemmas.Option.{same_Some}
use Rattle.run_options.specs.Reportings as show
use Rattle.cf_io.specs.Puts.{Writes}
use Rattle.rv_machine.specs.Streams.{Streams}
use Rattle.cf_bind.specs.declared.moves.Move.{Move}
use Rattle.cf_layout.specs.Layout.{Plan}
use Rattle.cf_semantics.specs.state.State.{Moment}
use Rattle.cf_core.specs.Processors.{Processor}
use Rattle.cf_report.specs.declared.tally.Tally.{Tally}
use Rattle.cf_report.specs.Lines.{numbered_move}
use Rattle.cf_run.specs.Going.{moment_of, Leads}
use Rattle.cf_run.specs.Made.{Made, shown, all_shown, tally_of}
use Rattle.cf_run.specs.Moving.{RunPlace, run_place_of}
use Rattle.cf_run.specs.Reaching.{Reaches, no_tally}
use Rattle.cf_run.proofs.Runs.{reached-none, none-trace, reached-more, reached-trace, made-within, counts-within}
use Rattle.cf_audit.specs.Compared.{Comparison, byte_list, put_of, fresh_comparison, exposed_by_sink}
use Rattle.cf_audit.specs.Traces.{most_retired, AreReadBack, IsReadBack, IsTrace, ReachesMoment, AgreesSoFar}
use Rattle.cf_audit.specs.Turns.{AuditRun, audit_run_of, left_of, NextIs, Advances, AuditTries, Tests}
use Rattle.cf_audit.specs.Limits.{most_trace}
use Rattle.cf_audit.proofs.Comparing.{told-more}
use Rattle.cf_audit.proofs.Parting.{goes_on}

-- an audit has reached this AuditRun: the comparison has the text and the groups of the run, which agree
pub record Comes (text : List ℕ) (start : RunPlace) (now : AuditRun) : Type 0 where
  pub reached : Reaches most_retired show.moves start now.place
  pub read_back : AreReadBack reached.trace
  pub begins : start.report ≡ Some (exposed_by_sink (fresh_comparison text))
  pub tells : now.place.report ≡ Some (exposed_by_sink now.seen)
  pub none : now.seen.other ≡ None
  pub within : now.seen.agreed ≤ length now.seen.text
  pub retired : now.place.core.state.retired ≤ now.place.tally.moves
  pub few : now.place.tally.moves ≤ now.seen.agreed

-- before the first group
first_comes : (text : List ℕ) (core : Processor) (streams : Streams) → core.state.retired ≡ 0
    → Comes text (run_place_of core streams (Some (exposed_by_sink (fresh_comparison text))) no_tally)
    (audit_run_of (run_place_of core streams (Some (exposed_by_sink (fresh_comparison text))) no_tally)
    (fresh_comparison text))
first_comes text core streams none =
    let start : RunPlace = run_place_of core streams (Some (exposed_by_sink (fresh_comparison text))) no_tally in
    record {
      reached = reached-none most_retired show.moves start refl;
      read_back = subst AreReadBack (sym (none-trace most_retired show.moves start refl)) tt;
      begins = refl;
      tells = refl;
      none = refl;
      within = omega arith;
      retired = omega (arith, none);
      few = omega arith;
    }

pub comes-first : (text : List ℕ) (core : Processor) (streams : Streams) (seen : Comparison) → seen ≡ fresh_comparison text → core.state.retired ≡ 0
    → Comes text (run_place_of core streams (Some (exposed_by_sink (fresh_comparison text))) no_tally)
    (audit_run_of (run_place_of core streams (Some (exposed_by_sink seen)) no_tally) seen)
comes-first text core streams seen is none =
    subst (λ (c : Comparison). Comes text (run_place_of core streams (Some (exposed_by_sink (fresh_comparison text))) no_tally)
    (audit_run_of (run_place_of core streams (Some (exposed_by_sink c)) no_tally) c)) (sym is) (first_comes text core streams none)

-- the text, and the run's groups as far as they agree
pub record SoFar (text : List ℕ) (start : RunPlace) (now : AuditRun) (trace : List Made) : Type 0 where
  pub text_is : now.seen.text ≡ text
  pub groups : take now.seen.agreed text ≡ all_shown show.moves start.core.plan 1 trace

put_all_agreed : (seen : Comparison) → seen.other ≡ None → put_of seen ≡ take seen.agreed seen.text
put_all_agreed seen none = ap (λ (o : Option ℕ). take seen.agreed seen.text ++ byte_list o) none ∙ append-nil (take seen.agreed seen.text)

pub so-far : (text : List ℕ) (start : RunPlace) (now : AuditRun) (h : Comes text start now) → SoFar text start now h.reached.trace
so-far text start now h =
    let groups : List ℕ = all_shown show.moves start.core.plan 1 h.reached.trace in
    let P : Option (List ℕ) → Type 0 = λ o. Writes o now.place.report groups in
    let written : now.place.report ≡ Some (exposed_by_sink (fresh_comparison text) ++ groups) = subst P h.begins h.reached.report in
    let told : exposed_by_sink now.seen ≡ exposed_by_sink (fresh_comparison text) ++ groups = same_Some _ _ (sym h.tells ∙ written) in
    let both = told-more (fresh_comparison text) now.seen groups told in
    record {
      text_is = both.0;
      groups = ap (take now.seen.agreed) (sym both.0) ∙ sym (put_all_agreed now.seen h.none) ∙ both.1;
    }

-- one more move: each has its line
are_more : (trace : List Made) (made : Made) → AreReadBack trace → IsReadBack made.move → AreReadBack (trace ++ made ∷ [])
are_more [] made h k = (k, tt)
are_more (first ∷ trace) made (h, hs) k = (h, are_more trace made hs k)

-- a group is not an empty text
pub shown-some : (plan : Plan) (n : ℕ) (made : Made) → 0 < length (shown show.moves plan n made)
unfolding shown numbered_move
shown-some plan n made = omega arith

-- what was written after what agreed
pub put-after : (now new : Comparison) (piece : List ℕ) → now.other ≡ None → exposed_by_sink new ≡ exposed_by_sink now ++ piece →
    (new.text ≡ now.text) × (put_of new ≡ take now.agreed now.text ++ piece)
put-after now new piece none told =
    let both = told-more now new piece told in
    (both.0, both.1 ∙ ap (λ (put : List ℕ). put ++ piece) (put_all_agreed now none))

-- one more instruction can retire
pub retires-below : (text : List ℕ) (start : RunPlace) (now : AuditRun) → Comes text start now → length text ≤ most_trace →
    now.place.core.state.retired < most_retired
retires-below text start now h small =
    let s = so-far text start now h in
    let size : length now.seen.text ≡ length text = ap length s.text_is in
    omega (arith, h.retired, h.few, h.within, size)

-- the next group agrees
pub comes-more : (text : List ℕ) (start : RunPlace) (now new : AuditRun) (mv : Move) → length text ≤ most_trace →
    new.place.report ≡ Some (exposed_by_sink new.seen) →
    Comes text start now → NextIs now mv → Advances mv now new
    → Comes text start new × (now.seen.agreed < new.seen.agreed)
comes-more text start now new mv small tells h next a =
    let made : Made = record { move = mv; event = a.event; state = new.place.core.state } in
    let low : now.place.core.state.retired < most_retired = retires-below text start now h small in
    let more : Reaches most_retired show.moves start new.place = reached-more most_retired show.moves start now.place new.place mv a.event h.reached low a.makes
    in
    let trace : more.trace ≡ h.reached.trace ++ made ∷ [] = reached-trace most_retired show.moves start now.place new.place mv a.event h.reached low a.makes in
    let group : List ℕ = shown show.moves now.place.core.plan new.place.tally.moves made in
    let P : Option (List ℕ) → Type 0 = λ o. Writes o new.place.report group in
    let written : new.place.report ≡ Some (exposed_by_sink now.seen ++ group) = subst P h.tells a.makes.report in
    let told : exposed_by_sink new.seen ≡ exposed_by_sink now.seen ++ group = same_Some _ _ (sym tells ∙ written) in
    let both = put-after now.seen new.seen group h.none told in
    let agreed : take new.seen.agreed now.seen.text ≡ take now.seen.agreed now.seen.text ++ group =
    ap (take new.seen.agreed) (sym both.0) ∙ sym (put_all_agreed new.seen a.same.none) ∙ both.1 in
    let high : new.seen.agreed ≤ length now.seen.text = subst (λ (t : List ℕ). new.seen.agreed ≤ length t) both.0 a.same.within in
    let rises : now.seen.agreed < new.seen.agreed = goes_on now.seen.text group now.seen.agreed new.seen.agreed h.within high
    (shown-some now.place.core.plan new.place.tally.moves made) agreed in
    let one : now.place.core.state.retired < now.place.core.state.retired + 1 = omega arith in
    let retires : new.place.core.state.retired ≤ now.place.core.state.retired + 1 = made-within
    (now.place.core.state.retired + 1) show.moves now.place new.place mv a.event one a.makes in
    let count : new.place.tally.moves ≡ now.place.tally.moves + 1 = ap (λ (t : Tally). t.moves) a.makes.makes.tally in (
      record {
        reached = more;
        read_back = subst AreReadBack (sym trace) (are_more h.reached.trace made h.read_back next.told);
        begins = h.begins;
        tells = tells;
        none = a.same.none;
        within = a.same.within;
        retired = omega (arith, retires, h.retired, count);
        few = omega (arith, rises, h.few, count);
      },
      rises,
    )

pub comes-on : (text : List ℕ) (start : RunPlace) (now new : AuditRun) → length text ≤ most_trace → new.place.report ≡ Some (exposed_by_sink new.seen) →
    Comes text start now → Tests now new None → Comes text start new × (now.seen.agreed < new.seen.agreed)
unfolding Tests AuditTries
comes-on text start now new small tells h (mv, next, a) = comes-more text start now new mv small tells h next a

-- so less of the text is left
pub comes-falls : (text : List ℕ) (start : RunPlace) (new : AuditRun) (agreed : ℕ) → Comes text start new → agreed < new.seen.agreed →
    length text - new.seen.agreed < length text - agreed
comes-falls text start new agreed h rises =
    let size : length new.seen.text ≡ length text = ap length (so-far text start new h).text_is in
    omega (arith, rises, h.within, size)

-- no count is near the maximum
pub counts-small : (text : List ℕ) (start : RunPlace) (now : AuditRun) → Comes text start now → length text ≤ most_trace
    → (now.place.tally.moves ≤ most_trace) × (now.place.tally.meets ≤ most_trace) × (now.place.tally.kills ≤ most_trace) × (now.place.tally.dead ≤ most_trace)
counts-small text start now h small =
    let size : length now.seen.text ≡ length text = ap length (so-far text start now h).text_is in
    let counts = counts-within most_retired show.moves start now.place h.reached in (
      omega (arith, h.few, h.within, size),
      omega (arith, h.few, h.within, size, counts.0),
      omega (arith, h.few, h.within, size, counts.1),
      omega (arith, h.few, h.within, size, counts.2),
    )

-- as many moves as were counted
moves_counted : (trace : List Made) (tally : Tally) → tally ≡ tally_of trace → length trace ≡ tally.moves
unfolding tally_of
moves_counted trace tally is = sym (ap (λ (t : Tally). t.moves) is)

-- the groups so far are the trace of the run, which leads to each moment that its moves lead to
pub trace-so-far : (text : List ℕ) (start : RunPlace) (now : AuditRun) (h : Comes text start now) (last : Moment) →
    Leads start.core.plan most_retired start.streams.input (moment_of start.core h.reached.rest) h.reached.trace last
    → IsTrace start.core start.streams.input (take now.seen.agreed text) now.place.tally.moves last
trace-so-far text start now h last leads = record {
  trace = h.reached.trace;
  rest = h.reached.rest;
  is_told = h.reached.told;
  leads = leads;
  read_back = h.read_back;
  count = moves_counted h.reached.trace now.place.tally h.reached.tally;
  is = (so-far text start now h).groups;
}

-- the rest of the text
pub agrees-so-far : (text : List ℕ) (start : RunPlace) (now : AuditRun) (h : Comes text start now) (last : Moment) →
    Leads start.core.plan most_retired start.streams.input (moment_of start.core h.reached.rest) h.reached.trace last → 0 < length (left_of now.seen)
    → AgreesSoFar start.core start.streams.input text (take now.seen.agreed text) (left_of now.seen) now.place.tally.moves last
agrees-so-far text start now h last leads some = record {
  parts = sym (take-append-drop now.seen.agreed text) ∙ ap (λ (t : List ℕ). take now.seen.agreed text ++ drop now.seen.agreed t)
      (sym (so-far text start now h).text_is);
  some = some;
  is = trace-so-far text start now h last leads;
}

-- how long the part that agrees is
pub agreed-length : (text : List ℕ) (start : RunPlace) (now : AuditRun) → Comes text start now → length (take now.seen.agreed text) ≡ now.seen.agreed
agreed-length text start now h =
    length-take-le now.seen.agreed text (subst (λ (t : List ℕ). now.seen.agreed ≤ length t) (so-far text start now h).text_is h.within)

-- the processor and the input are where the run leads
pub stands-here : (text : List ℕ) (start : RunPlace) (now : AuditRun) (h : Comes text start now) →
    ReachesMoment start.core now.place.core start.streams.input now.place.streams.input h.reached.last
stands-here text start now h = record { processor = h.reached.core; input = h.reached.streams.input }
