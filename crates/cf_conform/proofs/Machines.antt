-- The line of the instruction that retired last is the last line of the sequential machine so far.
use Rattle.std.proofs.Common.{◌≡◌, ℕ, zero, suc, ◌+◌, ◌<◌, List, [], ◌∷◌, ◌++◌, length, All, Option, Some, None, Bool, true, false, Result, Ok, Err, refl, sym, ap, subst, ◌∙◌, append-nil, append_assoc, arith, codes}
use Rattle.std.specs.Prelude.{◌||◌, not, if◌then◌else◌, nat_lt}
use Rattle.std.specs.Str.{bytes_eq}
use Rattle.std.proofs.lemmas.List.Elements.{All-append}
use Rattle.run_options.specs.Reportings as show
use Rattle.texts.specs.Answers.{and_then}
use Rattle.texts.specs.Bytes.{is_ascii}
use Rattle.rv_machine.specs.Hart.{Hart}
use Rattle.rv_machine.specs.Machine.{Machine}
use Rattle.rv_machine.specs.Streams.{IsTold}
use Rattle.rv_machine.specs.declared.outcome.Retired.{Retired}
use Rattle.rv_text.specs.Pieces.{name_part, operand_part}
use Rattle.cf_layout.specs.Accepted.{IsAccepted}
use Rattle.cf_layout.specs.Layout.{Plan}
use Rattle.cf_semantics.specs.declared.event.Event.{Event}
use Rattle.cf_semantics.specs.declared.event.Event.TheVariants as event
use Rattle.cf_semantics.specs.claims.Refines.{Refines, gained}
use Rattle.cf_semantics.specs.runs.Lines.{Line, lines}
use Rattle.cf_semantics.specs.runs.Runs.{start as start_on}
use Rattle.cf_semantics.specs.state.State.{Moment}
use Rattle.theory_refinement.proofs.claims.Runs.{opened_retired}
use Rattle.theory_refinement.proofs.Theorems.{run_refines}
use Rattle.cf_core.specs.Processors.{Processor, opened_processor}
use Rattle.cf_report.specs.Lines.{retired_line}
use Rattle.run_scripts.specs.Scripts.{is_skipped}
use Rattle.run_scripts.specs.Words.{words_of}
use Rattle.cf_run.specs.Going.{moment_of, Leads}
use Rattle.cf_run.specs.Headline.{machine_on, moment_after, AreTexts}
use Rattle.cf_run.specs.Made.{Made, moves_of, shown, all_shown, retirement}
use Rattle.cf_run.specs.Moving.{RunPlace}
use Rattle.cf_run.specs.Reaching.{Reaches}
use Rattle.cf_run.proofs.Arrived.{begins}
use Rattle.cf_run.proofs.Headline.{opened_regs}
use Rattle.cf_run.proofs.Retirements.{shown-lines}
use Rattle.cf_run.proofs.Runs.{leads-run}
use Rattle.cf_log.specs.declared.kind.LogKind.{LogKind}
use Rattle.cf_log.specs.declared.kind.LogKind.TheVariants.{NotAscii, TooLong}
use Rattle.cf_log.specs.declared.said.ObservedPart.TheVariants.{Retire}
use Rattle.cf_log.specs.declared.said.Said.{Said}
use Rattle.cf_log.specs.declared.said.Said.TheVariants.{Makes, Observes}
use Rattle.cf_log.specs.declared.said.TimedLine.{TimedLine}
use Rattle.cf_log.specs.Lines.{after_time, log_line_read, longest_line, said_in, subject_in, subject_named, time_read, line_with_time, said_words}
use Rattle.cf_conform.specs.declared.progress.LatestRetired.{LatestRetired}
use Rattle.cf_conform.specs.Conforming.{IsMachineLine, IsRetireLine, RetireAsMachine}
use Rattle.cf_conform.specs.LogPlaces.{LogPlace, as_run, latest_after}
use Rattle.cf_conform.specs.Wanted.{without_feed}

-- The latest retirement --

latest_from : Option LatestRetired → List Made → Option LatestRetired
latest_from earlier [] = earlier
latest_from earlier (made ∷ trace) = latest_from (latest_after earlier made.event made.state.retired) trace

-- the instruction that retired last in a run
pub latest_of : List Made → Option LatestRetired
latest_of trace = latest_from None trace

latest_on : (earlier : Option LatestRetired) (trace : List Made) (made : Made) →
    latest_from earlier (trace ++ made ∷ []) ≡ latest_after (latest_from earlier trace) made.event made.state.retired
unfolding latest_from
latest_on earlier [] made = refl
latest_on earlier (first ∷ trace) made = latest_on (latest_after earlier first.event first.state.retired) trace made

-- one more move
pub latest-more : (trace : List Made) (made : Made) → latest_of (trace ++ made ∷ []) ≡ latest_after (latest_of trace) made.event made.state.retired
unfolding latest_of
latest-more trace made = latest_on None trace made

pub latest-none : latest_of [] ≡ None
unfolding latest_of latest_from
latest-none = refl

-- The text of its line --

-- the text ends with the line of this instruction
record EndsWith (text : List ℕ) (latest : LatestRetired) : Type 0 where
  front : List ℕ
  is : text ≡ front ++ retired_line latest.number latest.retired

ends_again : (before text : List ℕ) (latest : LatestRetired) → EndsWith text latest → EndsWith (before ++ text) latest
ends_again before text latest e = record {
  front = before ++ e.front;
  is = ap (λ (t : List ℕ). before ++ t) e.is
      ∙ sym (append_assoc before e.front (retired_line latest.number latest.retired));
}

-- a text that ends with the line of the latest retirement still does so after these moves
shown_latest : (plan : Plan) (n : ℕ) (trace : List Made) (before : List ℕ) (earlier : Option LatestRetired) (latest : LatestRetired) →
    ((l : LatestRetired) → earlier ≡ Some l → EndsWith before l) → latest_from earlier trace ≡ Some latest →
    EndsWith (before ++ all_shown show.retired plan n trace) latest
unfolding latest_from all_shown shown
shown_latest plan n [] before earlier latest ends is = subst (λ (t : List ℕ). EndsWith t latest) (sym (append-nil before)) (ends latest is)
shown_latest plan n (made ∷ trace) before earlier latest ends is =
    subst (λ (t : List ℕ). EndsWith t latest) (append_assoc before (shown show.retired plan n made) (all_shown show.retired plan (n + 1) trace))
    (shown_latest plan (n + 1) trace (before ++ shown show.retired plan n made) (latest_after earlier made.event made.state.retired) latest
    (one made.event refl) is)
  where
    quiet : (e : Event) → made.event ≡ e → (l : LatestRetired) → latest_after earlier made.event made.state.retired ≡ Some l →
        ((k : LatestRetired) → latest_after earlier e made.state.retired ≡ Some k → earlier ≡ Some k) → retirement made.state.retired e ≡ []
        → EndsWith (before ++ shown show.retired plan n made) l
    quiet e same l there kept none =
        let P : Event → Type 0 = λ e. latest_after earlier e made.state.retired ≡ Some l in
        let here : EndsWith before l = ends l (kept l (subst P same there)) in
        let text : retirement made.state.retired made.event ≡ [] = ap (retirement made.state.retired) same ∙ none in
        subst (λ (t : List ℕ). EndsWith (before ++ t) l) (sym text) (subst (λ (t : List ℕ). EndsWith t l) (sym (append-nil before)) here)

    one : (e : Event) → made.event ≡ e → (l : LatestRetired) → latest_after earlier made.event made.state.retired ≡ Some l →
        EndsWith (before ++ shown show.retired plan n made) l
    one (event.Retired line) same l there =
        let P : Event → Type 0 = λ e. latest_after earlier e made.state.retired ≡ Some l in
        let is_line : Some (record { number = made.state.retired; retired = line }) ≡ Some l = subst P same there in
        let which : record { number = made.state.retired; retired = line } ≡ l = cc in
        record {
          front = before;
          is = ap (λ (e : Event). before ++ retirement made.state.retired e) same
              ∙ ap (λ (k : LatestRetired). before ++ retired_line k.number k.retired) which;
        }
    one event.Plain same l there = quiet event.Plain same l there (λ k h. h) refl
    one event.Killed same l there = quiet event.Killed same l there (λ k h. h) refl
    one event.Died same l there = quiet event.Died same l there (λ k h. h) refl
    one (event.Ended end) same l there = quiet (event.Ended end) same l there (λ k h. h) refl

-- Lines of the machine --

-- an observation of the latest retirement is a line of the machine
pub machine-line : (limit : ℕ) (start now : RunPlace) (hart : Hart) (line : List ℕ) (latest : LatestRetired) → IsAccepted start.core.plan →
    length start.core.state.regs ≡ 32 → start.streams.input ≡ Some [] → start.core ≡ opened_processor start.core.plan hart →
    (h : Reaches limit show.report start now) →
    latest_of h.trace ≡ Some latest → words_of (after_time line) ≡ words_of (without_feed (retired_line latest.number latest.retired)) →
    IsMachineLine start.core.plan hart line
unfolding latest_of
machine-line limit start now hart line latest accepted wide empty opens h is same =
    let plan : Plan = start.core.plan in
    let x : Machine = machine_on hart [] in
    let P : Option (List ℕ) → Type 0 = λ o. Leads plan limit o (moment_of start.core h.rest) h.trace h.last in
    let none : h.rest ≡ [] = subst (λ (o : Option (List ℕ)). IsTold o h.rest) empty h.told in
    let there : moment_of start.core h.rest ≡ start_on plan x = begins start.core hart [] h.rest opens none in
    let leads : Leads plan limit (Some []) (start_on plan x) h.trace h.last =
    subst (λ (m : Moment). Leads plan limit (Some []) m h.trace h.last) there (subst P empty h.leads) in
    let runs = leads-run plan limit [] (start_on plan x) h.trace h.last leads in
    let size : length x.hart.regs ≡ 32 = subst (λ (r : List ℕ). length r ≡ 32) (opened_regs start.core plan hart opens) wide in
    let refines : Refines plan x (lines plan (start_on plan x) (moves_of h.trace)) (moment_after plan x (moves_of h.trace)) =
    run_refines plan x (moves_of h.trace) accepted size runs.0 in
    let texts = subst (λ (k : ℕ). AreTexts (k + 1) (lines plan (start_on plan x) (moves_of h.trace)) (all_shown show.retired plan 1 h.trace))
    (opened_retired plan x)
    (shown-lines plan limit [] (start_on plan x) 1 h.trace h.last leads) in
    let ends : EndsWith (all_shown show.retired plan 1 h.trace) latest =
    shown_latest plan 1 h.trace [] None latest (λ l none. absurd (cc)) is in
    record {
      count = gained x (moment_after plan x (moves_of h.trace)).state;
      text = all_shown show.retired plan 1 h.trace;
      texts = subst (λ (l : List Line). AreTexts (x.hart.retired + 1) l (all_shown show.retired plan 1 h.trace)) refines.lines texts;
      front = ends.front;
      number = latest.number;
      shown = latest.retired;
      last = ends.is;
      same = same;
    }

-- before the first line
pub retire-none : (core : Processor) → RetireAsMachine core []
unfolding RetireAsMachine
retire-none core hart opens = λ i x low. absurd (omega (arith, low))

alone : {X : Type 0} (P : X → Type 0) (x : X) → P x → All P (x ∷ [])
alone P x h zero y low = h
alone P x h (suc i) y low = absurd (omega (arith, low))

-- one more line
pub retire-more : (core : Processor) (before : List (List ℕ)) (line : List ℕ) → RetireAsMachine core before →
    ((hart : Hart) → core ≡ opened_processor core.plan hart → IsRetireLine line → IsMachineLine core.plan hart line) →
    RetireAsMachine core (before ++ line ∷ [])
unfolding RetireAsMachine
retire-more core before line h one hart opens =
    All-append (λ line. IsRetireLine line → IsMachineLine core.plan hart line) before (line ∷ []) (h hart opens)
    (alone (λ line. IsRetireLine line → IsMachineLine core.plan hart line) line (one hart opens))

-- How retirement lines are read --

abbrev reading : (long skipped ascii : Bool) → Result ℕ LogKind → Result Said LogKind → Result (Option TimedLine) LogKind
reading long skipped ascii time said =
    if long then Err TooLong else if skipped then Ok None else if not ascii then Err NotAscii
    else and_then time (λ time. and_then said (λ said. Ok (Some (line_with_time time said))))

-- a line that says something says what its words mean
reads_said : (long skipped ascii : Bool) (time : Result ℕ LogKind) (said : Result Said LogKind) (t : TimedLine) →
    reading long skipped ascii time said ≡ Ok (Some t) → said ≡ Ok t.said
reads_said true skipped ascii time said t is = absurd (cc)
reads_said false true ascii time said t is = absurd (cc)
reads_said false false false time said t is = absurd (cc)
reads_said false false true (Err kind) said t is = absurd (cc)
reads_said false false true (Ok time) (Err kind) t is = absurd (cc)
reads_said false false true (Ok time) (Ok said) t is =
    let same : line_with_time time said ≡ t = cc in
    let says : TimedLine → Result Said LogKind = λ t. Ok t.said in
    ap says same

-- and one that says nothing is skipped
reads_none : (long skipped ascii : Bool) (time : Result ℕ LogKind) (said : Result Said LogKind) →
    reading long skipped ascii time said ≡ Ok None → skipped ≡ true
reads_none true skipped ascii time said is = absurd (cc)
reads_none false true ascii time said is = refl
reads_none false false false time said is = absurd (cc)
reads_none false false true (Err kind) said is = absurd (cc)
reads_none false false true (Ok time) (Err kind) is = absurd (cc)
reads_none false false true (Ok time) (Ok said) is = absurd (cc)

said_retire : (next : ℕ) (text : List ℕ) → name_part text ≡ codes "retire" → said_in next text ≡ Ok (Observes Retire)
unfolding said_in subject_in subject_named
said_retire next text is = rw is refl

one_said : (x : Result Said LogKind) (a b : Said) → x ≡ Ok a → x ≡ Ok b → a ≡ b
one_said x a b h k = cc

-- a retirement line is read as an observation of the latest retirement
pub retire-said : (earlier next : ℕ) (line : List ℕ) (t : TimedLine) → IsRetireLine line → log_line_read earlier next line ≡ Ok (Some t) →
    t.said ≡ Observes Retire
unfolding log_line_read
retire-said earlier next line t retires is =
    let said : said_in next (after_time line) ≡ Ok t.said =
    reads_said (nat_lt longest_line (length line)) (is_skipped line) (is_ascii line) (time_read earlier line) (said_in next (after_time line)) t is in
    let retire : said_in next (after_time line) ≡ Ok (Observes Retire) = said_retire next (after_time line) retires.1 in
    one_said (said_in next (after_time line)) t.said (Observes Retire) said retire

pub retire-read : (earlier next : ℕ) (line : List ℕ) → IsRetireLine line → log_line_read earlier next line ≡ Ok None → ⊥
unfolding log_line_read
retire-read earlier next line retires is =
    let skipped : is_skipped line ≡ true =
    reads_none (nat_lt longest_line (length line)) (is_skipped line) (is_ascii line) (time_read earlier line) (said_in next (after_time line)) is in
    let both : true ≡ false = sym skipped ∙ retires.0 in
    cc
