-- A run so far, and one more move.
use Rattle.std.proofs.Common.{◌≡◌, ℕ, zero, suc, ◌+◌, ◌<◌, ◌≤◌, ◌^◌, List, [], ◌∷◌, ◌++◌, length, map, take, drop, Bool, true, false, Option, Some, None, Ok, refl, ap, sym, subst, ◌∙◌, append-nil, append_assoc, add-one, arith}
use Rattle.std.specs.Prelude.{count_by, unwrap_or}
use Rattle.std.proofs.lemmas.List.{length-append}
use Rattle.std.proofs.lemmas.List.Sums.{count_by-le-length, sum_by-append}
use Rattle.run_options.specs.declared.reporting.Reporting.{Reporting}
use Rattle.cf_io.specs.Puts.{Writes}
use Rattle.cf_io.proofs.Owing.{writes-nothing, writes-again}
use Rattle.rv_machine.specs.Streams.{Streams, IsTold, Becomes, Leaves}
use Rattle.rv_machine.proofs.InputKnown.{rest-told, stays, leaves-again}
use Rattle.cf_layout.specs.Layout.{Plan}
use Rattle.cf_bind.specs.declared.moves.Move.{Move}
use Rattle.cf_semantics.specs.declared.event.Event.{Event}
use Rattle.cf_semantics.specs.moves.Bars.{bar}
use Rattle.cf_semantics.specs.moves.Events.{IsEvent}
use Rattle.cf_semantics.specs.moves.Moves.{next}
use Rattle.cf_semantics.specs.runs.Runs.{IsRun, run}
use Rattle.cf_semantics.specs.state.State.{State, Moment}
use Rattle.cf_core.specs.Processors.{Processor, in_state}
use Rattle.cf_core.specs.Stepping.{Makes}
use Rattle.cf_report.specs.declared.tally.Tally.{Tally}
use Rattle.run_scripts.specs.Scripts.{ScriptLines, next_of, first_of, after_next}
use Rattle.run_scripts.specs.declared.refusal.ScriptErr.{ScriptErr}
use Rattle.cf_run.specs.Made.{Made, moves_of, is_meeting, is_killed, is_died, tally_of, raised_if, counted_event, CanCount, shown, all_shown}
use Rattle.cf_run.specs.Going.{moment_of, Finds, IsMade, Leads, RunsTo}
use Rattle.cf_run.specs.Moving.{RunPlace, MakesMove, MakesAndShows, MoveDoes}
use Rattle.cf_run.specs.Reaching.{no_tally, Reaches}
use Rattle.cf_run.specs.Scripts.{ScriptRun, Follows, DoesLine, ScriptTries}
use Rattle.cf_run.proofs.AfterOutput.{next-after, next-retired}

-- one more move
leads-more : (plan : Plan) (limit : ℕ) (told : Option (List ℕ)) (m : Moment) (trace : List Made) (last : Moment) (rest : List ℕ) (made : Made) →
    Leads plan limit told m trace last → Finds told last.rest rest → IsMade plan limit (record last { rest = rest }) made
    → Leads plan limit told m (trace ++ made ∷ []) (next plan (record last { rest = rest }) made.move)
unfolding Leads
leads-more plan limit told m [] last rest made h finds is =
    let P : Moment → Type 0 = λ q. Finds told q.rest rest × IsMade plan limit (record q { rest = rest }) made
    × (next plan (record last { rest = rest }) made.move ≡ next plan (record q { rest = rest }) made.move) in
    let k : P m = subst P h (finds, is, refl) in
    (rest, k.0, k.1, k.2)
leads-more plan limit told m (first ∷ trace) last rest made (r, f, i, h) finds is =
    (r, f, i, leads-more plan limit told (next plan (record m { rest = r }) first.move) trace last rest made h finds is)

-- over an input whose remaining bytes are known the moves are a run
pub leads-run : (plan : Plan) (limit : ℕ) (told : List ℕ) (m : Moment) (trace : List Made) (last : Moment) → Leads plan limit (Some told) m trace last →
    IsRun plan m (moves_of trace) × (last ≡ run plan m (moves_of trace))
unfolding Leads IsRun run
leads-run plan limit told m [] last h = (tt, h)
leads-run plan limit told m (made ∷ trace) last (rest, same, is, h) =
    let P : List ℕ → Type 0 = λ r. (bar plan m.state made.move ≡ None) × IsRun plan (next plan (record m { rest = r }) made.move) (moves_of trace)
    × (last ≡ run plan (next plan (record m { rest = r }) made.move) (moves_of trace)) in
    let tail : IsRun plan (next plan (record m { rest = rest }) made.move) (moves_of trace)
    × (last ≡ run plan (next plan (record m { rest = rest }) made.move) (moves_of trace)) =
    leads-run plan limit told (next plan (record m { rest = rest }) made.move) trace last h in
    let k : P m.rest = subst P same (is.allowed, tail.0, tail.1) in
    ((k.0, k.1), k.2)

runs-to : (plan : Plan) (limit : ℕ) (told : Option (List ℕ)) (m : Moment) (trace : List Made) (last : Moment) → Leads plan limit told m trace last →
    RunsTo plan told m trace last
runs-to plan limit None m trace last h = tt
runs-to plan limit (Some told) m trace last h = leads-run plan limit told m trace last h

-- before the first move
pub reached-none : (limit : ℕ) (show : Reporting) (start : RunPlace) → start.tally ≡ no_tally → Reaches limit show start start
unfolding Leads tally_of all_shown
reached-none limit show start none =
    let told : Option (List ℕ) = start.streams.input in
    let rest : List ℕ = unwrap_or told [] in
    let m : Moment = moment_of start.core rest in
    record {
      trace = [];
      rest = rest;
      told = rest-told told;
      last = m;
      leads = refl;
      run = runs-to start.core.plan limit told m [] m refl;
      core = refl;
      streams = stays start.streams rest (rest-told told);
      tally = none;
      report = writes-nothing start.report;
    }

pub none-trace : (limit : ℕ) (show : Reporting) (start : RunPlace) (none : start.tally ≡ no_tally) → (reached-none limit show start none).trace ≡ []
unfolding reached-none
none-trace limit show start none = refl

pub followed-none : (limit : ℕ) (show : Reporting) (start : ScriptRun) → start.place.tally ≡ no_tally → Follows limit show start start
unfolding reached-none
followed-none limit show start none = record { reaches = reached-none limit show start.place none; moves = refl; script = refl }

-- the input that the next move finds
finds-rest : (told between : Option (List ℕ)) (left rest : List ℕ) → Becomes told between left → IsTold between rest → Finds told left rest
finds-rest None between left rest h k = tt
finds-rest (Some told) between left rest h k =
    let P : Option (List ℕ) → Type 0 = λ o. IsTold o rest in
    subst P h k

-- the moment after it, if something was written before
next-moment : (plan : Plan) (last : Moment) (mv : Move) (rest later added : List ℕ) (s : State) →
    next plan (record { state = last.state; rest = rest; output = [] }) mv ≡ record { state = s; rest = later; output = added }
    → next plan (record last { rest = rest }) mv ≡ record { state = s; rest = later; output = last.output ++ added }
next-moment plan last mv rest later added s is =
    let blank : Moment = record { state = last.state; rest = rest; output = [] } in
    ap (λ (output : List ℕ). next plan (record { state = last.state; rest = rest; output = output }) mv) (sym (append-nil last.output))
    ∙ next-after plan last.output blank mv
    ∙ ap (λ (m : Moment). record m { output = last.output ++ m.output }) is

-- where a move of a processor at a moment leads
record Led (plan : Plan) (limit : ℕ) (told : Option (List ℕ)) (m : Moment) (trace : List Made) (start new : Processor) (before after : Streams) : Type 0 where
  last : Moment
  leads : Leads plan limit told m trace last
  core : new ≡ in_state start last.state
  streams : Leaves before after last.rest last.output

led : (start core new : Processor) (limit : ℕ) (m last : Moment) (trace : List Made) (before between after : Streams) (mv : Move) (e : Event) →
    core ≡ in_state start last.state → Leads start.plan limit before.input m trace last → Leaves before between last.rest last.output
    → core.state.retired < limit → bar core.plan core.state mv ≡ None → IsEvent core.plan core.state mv e → Makes core new mv between after
    → Led start.plan limit before.input m (trace ++ record { move = mv; event = e; state = new.state } ∷ []) start new before after
led start core new limit m last trace before between after mv e same leads streams below allowed event makes =
    let made : Made = record { move = mv; event = e; state = new.state } in
    let P : Processor → Type 0 = λ p. next p.plan (record { state = p.state; rest = makes.rest; output = [] }) mv
    ≡ record { state = new.state; rest = makes.later; output = makes.added } in
    let following : Moment = record { state = new.state; rest = makes.later; output = last.output ++ makes.added } in
    let is : next start.plan (record last { rest = makes.rest }) mv ≡ following = next-moment start.plan last mv makes.rest makes.later makes.added new.state
    (subst P same makes.is) in
    let Q : Processor → Type 0 = λ p. (p.state.retired < limit) × (bar p.plan p.state mv ≡ None) × IsEvent p.plan p.state mv e in
    let here : Q (in_state start last.state) = subst Q same (below, allowed, event) in
    let one : IsMade start.plan limit (record last { rest = makes.rest }) made =
    record { below = here.0; allowed = here.1; event = here.2; state = ap (λ (q : Moment). q.state) (sym is) } in
    record {
      last = following;
      leads = subst (Leads start.plan limit before.input m (trace ++ made ∷ [])) is (leads-more start.plan limit before.input m trace last makes.rest made leads
          (finds-rest before.input between.input last.rest makes.rest streams.input makes.told) one);
      core = ap (λ (plan : Plan). record { plan = plan; state = new.state }) (makes.plan ∙ ap (λ (p : Processor). p.plan) same);
      streams = leaves-again before between after last.rest makes.later last.output makes.added streams makes.leaves;
    }

-- the moves of a longer list
pub moves-more : (trace : List Made) (made : Made) → moves_of (trace ++ made ∷ []) ≡ moves_of trace ++ made.move ∷ []
moves-more [] made = refl
moves-more (first ∷ trace) made = ap (λ moves. first.move ∷ moves) (moves-more trace made)

length-more : (trace : List Made) (made : Made) → length (trace ++ made ∷ []) ≡ length trace + 1
length-more trace made = length-append trace (made ∷ [])

-- the next line of a script
nothing-next : (refused : Option ScriptErr) (line : ℕ) (mv : Move) → first_of [] refused ≡ Ok (Some (line, mv)) → ⊥
nothing-next None line mv e = absurd (cc)
nothing-next (Some refusal) line mv e = absurd (cc)

pub taken-more : (moves : List (ℕ × Move)) (refused : Option ScriptErr) (n line : ℕ) (mv : Move) → first_of (drop n moves) refused ≡ Ok (Some (line, mv)) →
    map (λ line. line.1) (take (suc n) moves) ≡ map (λ line. line.1) (take n moves) ++ mv ∷ []
taken-more [] refused zero line mv e = absurd (nothing-next refused line mv e)
taken-more [] refused (suc n) line mv e = absurd (nothing-next refused line mv e)
taken-more (first ∷ moves) refused zero line mv e =
    let same : first ≡ (line, mv) = cc in
    ap (λ (next : ℕ × Move). next.1 ∷ []) same
taken-more (first ∷ moves) refused (suc n) line mv e = ap (λ rest. first.1 ∷ rest) (taken-more moves refused n line mv e)

dropped-more : {A : Type 0} (moves : List A) (n : ℕ) → drop 1 (drop n moves) ≡ drop (suc n) moves
dropped-more moves zero = refl
dropped-more [] (suc n) = refl
dropped-more (first ∷ moves) (suc n) = dropped-more moves n

-- the count of one more move
raised-by : (b : Bool) (n : ℕ) → n + count_by (λ (c : Bool). c) (b ∷ []) ≡ raised_if b n
raised-by true n = omega arith
raised-by false n = omega arith

count-more : (p : Made → Bool) (trace : List Made) (made : Made) → count_by p (trace ++ made ∷ []) ≡ raised_if (p made) (count_by p trace)
count-more p trace made = sum_by-append _ trace (made ∷ []) ∙ raised-by (p made) (count_by p trace)

tally-more : (trace : List Made) (made : Made) → tally_of (trace ++ made ∷ []) ≡ counted_event (tally_of trace) made.move made.event
unfolding tally_of
tally-more trace made =
    rw (
      length-more trace made,
      count-more (λ made. is_meeting made.move) trace made,
      count-more (λ made. is_killed made.event) trace made,
      count-more (λ made. is_died made.event) trace made,
    ) refl

-- what is shown of one more move
shown-more : (show : Reporting) (plan : Plan) (n k : ℕ) (trace : List Made) (made : Made) → k ≡ n + length trace →
    all_shown show plan n (trace ++ made ∷ []) ≡ all_shown show plan n trace ++ shown show plan k made
unfolding all_shown
shown-more show plan n k [] made e = let same : k ≡ n = omega arith in rw same (append-nil (shown show plan n made))
shown-more show plan n k (first ∷ trace) made e =
    ap (λ text. shown show plan n first ++ text) (shown-more show plan (n + 1) k trace made (omega arith))
    ∙ sym (append_assoc (shown show plan n first) (all_shown show plan (n + 1) trace) (shown show plan k made))

-- the count of a run so far
moves-counted : (trace : List Made) (now new : Tally) (mv : Move) (e : Event) → now ≡ tally_of trace → new ≡ counted_event now mv e →
    new.moves ≡ 1 + length trace
unfolding tally_of
moves-counted trace now new mv e same counts = rw (counts, same) (omega arith)

-- one more move
pub reached-more : (limit : ℕ) (show : Reporting) (start now new : RunPlace) (mv : Move) (e : Event) → Reaches limit show start now →
    now.core.state.retired < limit → MakesAndShows show mv e now new → Reaches limit show start new
reached-more limit show start now new mv e h below d =
    let o : MakesMove mv e now new = d.makes in
    let made : Made = record { move = mv; event = e; state = new.core.state } in
    let trace : List Made = h.trace ++ made ∷ [] in
    let l : Led start.core.plan limit start.streams.input (moment_of start.core h.rest) trace start.core new.core start.streams new.streams =
    led start.core now.core new.core limit (moment_of start.core h.rest) h.last h.trace start.streams now.streams new.streams mv e h.core h.leads h.streams
    below o.allowed o.is_event o.makes in
    let plan : now.core.plan ≡ start.core.plan = ap (λ (p : Processor). p.plan) h.core in
    let text : List ℕ = shown show start.core.plan new.tally.moves made in
    let last : Writes now.report new.report text = subst (λ (p : Plan). Writes now.report new.report (shown show p new.tally.moves made)) plan d.report in
    let number : new.tally.moves ≡ 1 + length h.trace = moves-counted h.trace now.tally new.tally mv e h.tally o.tally in
    record {
      trace = trace;
      rest = h.rest;
      told = h.told;
      last = l.last;
      leads = l.leads;
      run = runs-to start.core.plan limit start.streams.input (moment_of start.core h.rest) trace l.last l.leads;
      core = l.core;
      streams = l.streams;
      tally = o.tally ∙ ap (λ (tally : Tally). counted_event tally mv e) h.tally ∙ sym (tally-more h.trace made);
      report = subst (Writes start.report new.report) (sym (shown-more show start.core.plan 1 new.tally.moves h.trace made number))
          (writes-again start.report now.report new.report _ text h.report last);
    }

-- the moves that led here, and that one
pub reached-trace : (limit : ℕ) (show : Reporting) (start now new : RunPlace) (mv : Move) (e : Event) (h : Reaches limit show start now)
    (below : now.core.state.retired < limit) (d : MakesAndShows show mv e now new)
    → (reached-more limit show start now new mv e h below d).trace ≡ h.trace ++ record { move = mv; event = e; state = new.core.state } ∷ []
unfolding reached-more
reached-trace limit show start now new mv e h below d = refl

-- and the input that they found
pub reached-rest : (limit : ℕ) (show : Reporting) (start now new : RunPlace) (mv : Move) (e : Event) (h : Reaches limit show start now)
    (below : now.core.state.retired < limit) (d : MakesAndShows show mv e now new)
    → (reached-more limit show start now new mv e h below d).rest ≡ h.rest
unfolding reached-more
reached-rest limit show start now new mv e h below d = refl

pub followed-more : (limit : ℕ) (show : Reporting) (start now new : ScriptRun) → Follows limit show start now → ScriptTries limit show now new None →
    Follows limit show start new
unfolding DoesLine MoveDoes reached-more
followed-more limit show start now new f t =
    let h : Reaches limit show start.place now.place = f.reaches in
    let e : Event = t.does.0 in
    let d : MakesAndShows show t.move e now.place new.place = t.does.1 in
    let made : Made = record { move = t.move; event = e; state = new.place.core.state } in
    let P : ScriptLines → Type 0 = λ told. next_of told ≡ Ok (Some (t.line, t.move)) in
    let next : first_of (drop (length h.trace) start.script.moves) start.script.refused ≡ Ok (Some (t.line, t.move)) = subst P f.script t.next in
    let size : length (h.trace ++ made ∷ []) ≡ suc (length h.trace) = length-more h.trace made ∙ add-one (length h.trace) in
    record {
      reaches = reached-more limit show start.place now.place new.place t.move e h t.goes.below d;
      moves = moves-more h.trace made ∙ ap (λ moves. moves ++ t.move ∷ []) f.moves ∙ sym (taken-more start.script.moves start.script.refused
          (length h.trace) t.line t.move next) ∙ ap (λ (n : ℕ). map (λ (line : ℕ × Move). line.1) (take n start.script.moves)) (sym size);
      script = t.script ∙ ap after_next f.script ∙ ap (λ (moves : List (ℕ × Move)). record start.script { moves = moves })
          (dropped-more start.script.moves (length h.trace) ∙ ap (λ (n : ℕ). drop n start.script.moves) (sym size));
    }

-- the moves that led here, and that one
pub followed-trace : (limit : ℕ) (show : Reporting) (start now new : ScriptRun) (f : Follows limit show start now) (t : ScriptTries limit show now new None) →
    (made : Made) × (made.move ≡ t.move) × ((followed-more limit show start now new f t).reaches.trace ≡ f.reaches.trace ++ made ∷ [])
unfolding DoesLine MoveDoes followed-more reached-more
followed-trace limit show start now new f t = (record { move = t.move; event = t.does.0; state = new.place.core.state }, refl, refl)

-- no more instructions have retired than the limit allows
retired-within : (limit : ℕ) (old new : Processor) (mv : Move) (before after : Streams) → old.state.retired < limit → Makes old new mv before after →
    new.state.retired ≤ limit
retired-within limit old new mv before after below makes =
    let m : Moment = record { state = old.state; rest = makes.rest; output = [] } in
    omega (arith, next-retired old.plan m mv, ap (λ (q : Moment). q.state.retired) makes.is)

pub made-within : (limit : ℕ) (show : Reporting) (now new : RunPlace) (mv : Move) (e : Event) → now.core.state.retired < limit →
    MakesAndShows show mv e now new →
    new.core.state.retired ≤ limit
made-within limit show now new mv e below d = retired-within limit now.core new.core mv now.streams new.streams below d.makes.makes

pub tried-within : (limit : ℕ) (show : Reporting) (now new : ScriptRun) → ScriptTries limit show now new None → new.place.core.state.retired ≤ limit
unfolding DoesLine MoveDoes
tried-within limit show now new t = made-within limit show now.place new.place t.move t.does.0 t.goes.below t.does.1

-- a script has one move fewer for each that is counted
lengths : (moves : List (ℕ × Move)) (refused : Option ScriptErr) (line : ℕ) (mv : Move) → first_of moves refused ≡ Ok (Some (line, mv)) →
    length (drop 1 moves) + 1 ≡ length moves
lengths [] refused line mv e = absurd (nothing-next refused line mv e)
lengths (first ∷ moves) refused line mv e = add-one (length moves)

pub tried-left : (limit : ℕ) (show : Reporting) (now new : ScriptRun) → ScriptTries limit show now new None →
    length new.script.moves + 1 ≡ length now.script.moves
tried-left limit show now new t = rw t.script (lengths now.script.moves now.script.refused t.line t.move t.next)

pub tried-counted : (limit : ℕ) (show : Reporting) (now new : ScriptRun) → ScriptTries limit show now new None →
    new.place.tally.moves ≡ now.place.tally.moves + 1
unfolding DoesLine MoveDoes
tried-counted limit show now new t = ap (λ (tally : Tally). tally.moves) t.does.1.makes.tally

-- no count exceeds that of the moves
pub counts-within : (limit : ℕ) (show : Reporting) (start now : RunPlace) → Reaches limit show start now →
    (now.tally.meets ≤ now.tally.moves) × (now.tally.kills ≤ now.tally.moves) × (now.tally.dead ≤ now.tally.moves)
unfolding tally_of
counts-within limit show start now h =
    rw h.tally (
      count_by-le-length (λ made. is_meeting made.move) h.trace,
      count_by-le-length (λ made. is_killed made.event) h.trace,
      count_by-le-length (λ made. is_died made.event) h.trace,
    )

-- so if the moves can be counted, all can
pub can-count : (limit : ℕ) (show : Reporting) (start now : RunPlace) → Reaches limit show start now → now.tally.moves + 1 < 2 ^ 64 → CanCount now.tally
can-count limit show start now h few =
    let within = counts-within limit show start now h in
    record { moves = few; meets = omega (arith, few, within.0); kills = omega (arith, few, within.1); dead = omega (arith, few, within.2) }

-- the moves of a run so far, if there are any, and those that are left are fewer than 2 ^ 25 together
pub few-made : (made left : ℕ) → (0 < made → made + left < 2 ^ 25) → made ≤ 2 ^ 25
few-made zero left few = omega arith
few-made (suc made) left few = let all = few (omega arith) in omega (arith, all)

pub few-more : (made left new following : ℕ) → (0 < made → made + left < 2 ^ 25) → left < 2 ^ 25 → following + 1 ≡ left → new ≡ made + 1 →
    new + following < 2 ^ 25
few-more zero left new following few all one more = omega arith
few-more (suc made) left new following few all one more = let now = few (omega arith) in omega (arith, now)
