-- A session stays on a run: moves are made and taken back, and the ring leads to the session's processor.
use Rattle.std.proofs.Common.{◌≡◌, ◌≢◌, ℕ, zero, suc, ◌+◌, ◌-◌, ◌<◌, ◌≤◌, List, [], ◌∷◌, ◌++◌, length, drop, Option, Some, None, Bool, true, false, refl, sym, ap, subst, ◌∙◌, append-nil, arith}
use Rattle.std.specs.Prelude.{if◌then◌else◌}
use Rattle.cf_io.specs.Puts.{Writes}
use Rattle.cf_io.proofs.Owing.{writes-again}
use Rattle.rv_machine.specs.Hart.{Hart}
use Rattle.rv_machine.specs.Machine.{Machine}
use Rattle.cf_layout.specs.Accepted.{IsAccepted}
use Rattle.cf_layout.specs.Layout.{Plan}
use Rattle.cf_bind.specs.declared.moves.Move.{Move}
use Rattle.cf_bind.specs.declared.moves.Move.TheVariants.{Serve}
use Rattle.cf_semantics.specs.declared.event.Event.{Event}
use Rattle.cf_semantics.specs.moves.Bars.{bar}
use Rattle.cf_semantics.specs.moves.Candidates.{candidates, held_back}
use Rattle.cf_semantics.specs.moves.Holding.{is_held, offered}
use Rattle.cf_semantics.specs.moves.Kept.{Kept, kept, restored}
use Rattle.cf_semantics.specs.moves.Moves.{moved, next}
use Rattle.cf_semantics.specs.runs.Runs.{IsReached, IsRun, opened as opened_on, run, start as start_on}
use Rattle.cf_semantics.specs.state.State.{Moment, State}
use Rattle.theory_confluence.proofs.Laws.{some_pick}
use Rattle.theory_confluence.proofs.back.TakenBack.{state_back}
use Rattle.cf_core.specs.Processors.{Processor, in_state, opened_processor, IsOpened}
use Rattle.cf_core.specs.Undo.{HasJustMade}
use Rattle.cf_core.proofs.Steps.{next_moved}
use Rattle.cf_run.specs.Headline.{machine_on, StandsAt}
use Rattle.cf_run.specs.Moving.{RunPlace}
use Rattle.cf_run.proofs.Arrived.{right}
use Rattle.cf_debug.specs.declared.answer.Debugged.{Debugged}
use Rattle.cf_debug.specs.Rings.{RecordsLead, WasKept, ring_after, with_record}
use Rattle.cf_debug.specs.Standing.{IsLeftAt, IsOnRun, StandsAfterMoves, session_place}

-- Runs --

-- one more move
run_more : (plan : Plan) (m : Moment) (moves : List Move) (mv : Move) → IsRun plan m moves → bar plan (run plan m moves).state mv ≡ None →
    IsRun plan m (moves ++ mv ∷ [])
unfolding IsRun run
run_more plan m [] mv runs free = (free, tt)
run_more plan m (first ∷ moves) mv runs free = (runs.0, run_more plan (next plan m first) moves mv runs.1 free)

run_again : (plan : Plan) (m : Moment) (moves : List Move) (mv : Move) → run plan m (moves ++ mv ∷ []) ≡ next plan (run plan m moves) mv
unfolding run
run_again plan m [] mv = refl
run_again plan m (first ∷ moves) mv = run_again plan (next plan m first) moves mv

reached_more : (plan : Plan) (x : Machine) (m : Moment) (mv : Move) → IsReached plan x m → bar plan m.state mv ≡ None → IsReached plan x (next plan m mv)
reached_more plan x m mv r free = record {
  moves = r.moves ++ mv ∷ [];
  allowed = run_more plan (start_on plan x) r.moves mv r.allowed (subst (λ (n : Moment). bar plan n.state mv ≡ None) r.is free);
  is = ap (λ (n : Moment). next plan n mv) r.is ∙ sym (run_again plan (start_on plan x) r.moves mv);
}

-- Rings --

-- a moment to which moves of a run lead, with no input left, and what they write
pub record Comes (plan : Plan) (x : Machine) (output : List ℕ) (s : State) : Type 0 where
  pub moment : Moment
  pub reached : IsReached plan x moment
  pub none : moment.rest ≡ []
  pub put : moment.output ≡ output
  pub state : moment.state ≡ s

comes_more : (plan : Plan) (x : Machine) (output : List ℕ) (s : State) (mv : Move) → Comes plan x output s → bar plan s mv ≡ None → mv ≢ Serve →
    Comes plan x output (moved plan s mv)
comes_more plan x output s mv c free other =
    let is = next_moved plan c.moment mv other in
    record {
      moment = next plan c.moment mv;
      reached = reached_more plan x c.moment mv c.reached (subst (λ (t : State). bar plan t mv ≡ None) (sym c.state) free);
      none = ap (λ (m : Moment). m.rest) is ∙ c.none;
      put = ap (λ (m : Moment). m.output) is ∙ c.put;
      state = ap (λ (m : Moment). m.state) is ∙ ap (λ (t : State). moved plan t mv) c.state;
    }

-- where the ring leads from there
comes_along : (plan : Plan) (x : Machine) (output : List ℕ) (s : State) (ring : List Kept) (last : State) → Comes plan x output s →
    RecordsLead plan s ring last → Comes plan x output last
unfolding RecordsLead
comes_along plan x output s [] last c l = subst (Comes plan x output) (sym l) c
comes_along plan x output s (k ∷ ring) last c l =
    comes_along plan x output (moved plan s k.move) ring last (comes_more plan x output s k.move c l.0.allowed l.0.other) l.1

-- without its oldest records it leads there too
leads_drop : (plan : Plan) (x : Machine) (n : ℕ) (output : List ℕ) (s : State) (ring : List Kept) (last : State) → Comes plan x output s →
    RecordsLead plan s ring last → (t : State) × Comes plan x output t × RecordsLead plan t (drop n ring) last
unfolding RecordsLead
leads_drop plan x zero output s ring last c l = (s, c, l)
leads_drop plan x (suc n) output s [] last c l = (s, c, l)
leads_drop plan x (suc n) output s (k ∷ ring) last c l =
    leads_drop plan x n output (moved plan s k.move) ring last (comes_more plan x output s k.move c l.0.allowed l.0.other) l.1

-- one more record
leads_more : (plan : Plan) (s : State) (ring : List Kept) (last : State) (k : Kept) → RecordsLead plan s ring last → WasKept plan last k →
    RecordsLead plan s (ring ++ k ∷ []) (moved plan last k.move)
unfolding RecordsLead
leads_more plan s [] last k l was = subst (λ (t : State). WasKept plan t k × (moved plan last k.move ≡ moved plan t k.move)) l (was, refl)
leads_more plan s (first ∷ ring) last k l was = (l.0, leads_more plan (moved plan s first.move) ring last k l.1 was)

-- the newest record, and where the others lead
leads_last : (plan : Plan) (s : State) (ring : List Kept) (k : Kept) (last : State) → RecordsLead plan s (ring ++ k ∷ []) last →
    (t : State) × RecordsLead plan s ring t × WasKept plan t k × (last ≡ moved plan t k.move)
unfolding RecordsLead
leads_last plan s [] k last l = (s, refl, l.0, l.1)
leads_last plan s (first ∷ ring) k last l =
    let rest = leads_last plan (moved plan s first.move) ring k last l.1 in
    (rest.0, (l.0, rest.1), rest.2, rest.3)

-- Sessions --

-- nothing was written
pub nothing-written : (told : Option (List ℕ)) → Writes told told []
nothing-written None = tt
nothing-written (Some told) = ap Some (sym (append-nil told))

-- a text that was written, and nothing after it
still_written : (a b c : Option (List ℕ)) (text : List ℕ) → Writes a b text → Writes b c [] → Writes a c text
still_written a b c text h more = subst (Writes a c) (append-nil text) (writes-again a b c text [] h more)

-- where the oldest record was kept
oldest : (start core : Processor) (ring : List Kept) (blank full : Option (List ℕ)) (h : StandsAfterMoves start core ring blank full) →
    Comes start.plan (machine_on h.hart []) h.older.output h.older.state
oldest start core ring blank full h = record { moment = h.older; reached = h.reached; none = h.none; put = refl; state = refl }

pub stands-comes : (start core : Processor) (ring : List Kept) (blank full : Option (List ℕ)) (h : StandsAfterMoves start core ring blank full) →
    Comes start.plan (machine_on h.hart []) h.older.output core.state
stands-comes start core ring blank full h =
    comes_along start.plan (machine_on h.hart []) h.older.output h.older.state ring core.state (oldest start core ring blank full h) h.kept

-- at first it is where it was opened, with an empty ring
pub stands-first : (core : Processor) (ring : List Kept) (blank : Option (List ℕ)) → IsOpened core → length core.state.regs ≡ 32 → ring ≡ [] →
    StandsAfterMoves core core ring blank blank
unfolding RecordsLead IsRun run opened_processor opened_on
stands-first core ring blank o wide none = record {
  hart = o.hart;
  opened_is = o.is;
  wide = ap (λ (p : Processor). length p.state.regs) (sym o.is) ∙ wide;
  older = start_on core.plan (machine_on o.hart []);
  reached = record { moves = []; allowed = tt; is = refl };
  none = refl;
  kept = subst (λ (r : List Kept). RecordsLead core.plan (start_on core.plan (machine_on o.hart [])).state r core.state) (sym none)
      (ap (λ (p : Processor). p.state) o.is);
  plan = refl;
  output = nothing-written blank;
}

-- nothing is claimed of an output that exposes nothing, whatever was written
pub stands-untold : (start core : Processor) (ring : List Kept) (blank full after : Option (List ℕ)) → StandsAfterMoves start core ring blank full →
    StandsAfterMoves start core ring None after
stands-untold start core ring blank full after h = record {
  hart = h.hart;
  opened_is = h.opened_is;
  wide = h.wide;
  older = h.older;
  reached = h.reached;
  none = h.none;
  kept = h.kept;
  plan = h.plan;
  output = tt;
}

-- it is at the moment
pub stands-at : (start core : Processor) (ring : List Kept) (blank full : Option (List ℕ)) (h : StandsAfterMoves start core ring blank full) →
    (c : Comes start.plan (machine_on h.hart []) h.older.output core.state) → StandsAt c.moment (session_place start blank) (session_place core full)
stands-at start core ring blank full h c = record {
  core = ap (λ (plan : Plan). record { plan = plan; state = core.state }) h.plan ∙ ap (in_state start) (sym c.state);
  streams = record { input = ap Some (sym c.none); output = subst (Writes blank full) (sym c.put) h.output };
}

-- so it is on a run, unless it ended because the output failed
pub stands-on_run : (start core : Processor) (ring : List Kept) (blank full : Option (List ℕ)) (answer : Debugged) → IsAccepted start.plan →
    ((x : Machine) (m : Moment) (begin new : RunPlace) → StandsAt m begin new → IsLeftAt x m begin new answer) →
    StandsAfterMoves start core ring blank full → IsOnRun start core blank full answer
stands-on_run start core ring blank full answer accepted ends h =
    let x : Machine = machine_on h.hart [] in
    let c = stands-comes start core ring blank full h in
    record {
      hart = h.hart;
      opened_is = h.opened_is;
      moves = c.reached.moves;
      right = right start.plan x c.reached.moves accepted h.wide c.reached.allowed;
      left = subst (λ (m : Moment). IsLeftAt x m (session_place start blank) (session_place core full) answer) c.reached.is
          (ends x c.moment (session_place start blank) (session_place core full) (stands-at start core ring blank full h c));
    }

-- at another state, with another ring that leads there
stands_after : (start core new : Processor) (ring later : List Kept) (blank full after : Option (List ℕ)) (output : List ℕ) (s : State) →
    (h : StandsAfterMoves start core ring blank full) → Comes start.plan (machine_on h.hart []) output s → RecordsLead start.plan s later new.state →
    new.plan ≡ core.plan → Writes blank after output → StandsAfterMoves start new later blank after
stands_after start core new ring later blank full after output s h c l same put = record {
  hart = h.hart;
  opened_is = h.opened_is;
  wide = h.wide;
  older = c.moment;
  reached = c.reached;
  none = c.none;
  kept = subst (λ (t : State). RecordsLead start.plan t later new.state) (sym c.state) l;
  plan = same ∙ h.plan;
  output = subst (Writes blank after) (sym c.put) put;
}

-- after a move that was kept
pub stands-kept : (start core new : Processor) (ring : List Kept) (blank full after : Option (List ℕ)) (k : Kept) →
    StandsAfterMoves start core ring blank full → WasKept core.plan core.state k → new ≡ in_state core (moved core.plan core.state k.move) →
    Writes full after [] → StandsAfterMoves start new (with_record ring k) blank after
stands-kept start core new ring blank full after k h was is put =
    let plan : Plan = start.plan in
    let x : Machine = machine_on h.hart [] in
    let here : WasKept plan core.state k = subst (λ (p : Plan). WasKept p core.state k) h.plan was in
    let state : new.state ≡ moved plan core.state k.move = ap (λ (p : Processor). p.state) is ∙ ap (λ (p : Plan). moved p core.state k.move) h.plan in
    let more : RecordsLead plan h.older.state (ring ++ k ∷ []) new.state = subst (RecordsLead plan h.older.state (ring ++ k ∷ [])) (sym state)
    (leads_more plan h.older.state ring core.state k h.kept here) in
    let cut = leads_drop plan x (length (ring ++ k ∷ []) - 1024) h.older.output h.older.state (ring ++ k ∷ []) new.state
    (oldest start core ring blank full h) more in
    stands_after start core new ring (with_record ring k) blank full after h.older.output cut.0 h cut.1 cut.2 (ap (λ (p : Processor). p.plan) is)
    (still_written blank full after h.older.output h.output put)

-- where an allowed Serve leads to, with an empty ring
pub stands-served : (start core new : Processor) (ring : List Kept) (blank full after : Option (List ℕ)) (later : List ℕ) →
    StandsAfterMoves start core ring blank full → bar core.plan core.state Serve ≡ None → new.plan ≡ core.plan
    → ((before : List ℕ) → next core.plan (record { state = core.state; rest = []; output = before }) Serve
    ≡ record { state = new.state; rest = []; output = before ++ later }) → Writes full after later → StandsAfterMoves start new [] blank after
unfolding RecordsLead
stands-served start core new ring blank full after later h free same is put =
    let plan : Plan = start.plan in
    let x : Machine = machine_on h.hart [] in
    let c = stands-comes start core ring blank full h in
    let m : Moment = c.moment in
    let here : m ≡ record { state = core.state; rest = []; output = m.output } = ap (λ (s : State). record { state = s; rest = m.rest; output = m.output })
    c.state ∙ ap (λ (rest : List ℕ). record { state = core.state; rest = rest; output = m.output }) c.none in
    let led : next plan m Serve ≡ record { state = new.state; rest = []; output = m.output ++ later } = ap (λ (n : Moment). next plan n Serve) here
    ∙ subst (λ (p : Plan). next p (record { state = core.state; rest = []; output = m.output }) Serve
    ≡ record { state = new.state; rest = []; output = m.output ++ later }) h.plan (is m.output) in
    let allowed : bar plan m.state Serve ≡ None = subst (λ (s : State). bar plan s Serve ≡ None) (sym c.state)
    (subst (λ (p : Plan). bar p core.state Serve ≡ None) h.plan free) in
    let there : Comes plan x (h.older.output ++ later) new.state = record {
      moment = next plan m Serve;
      reached = reached_more plan x m Serve c.reached allowed;
      none = ap (λ (n : Moment). n.rest) led;
      put = ap (λ (n : Moment). n.output) led ∙ ap (λ (o : List ℕ). o ++ later) c.put;
      state = ap (λ (n : Moment). n.state) led;
    } in
    stands_after start core new ring [] blank full after (h.older.output ++ later) new.state h there refl same
    (writes-again blank full after h.older.output later h.output put)

-- the newest record is of the move that was made last
pub stands-after : (start core : Processor) (older : List Kept) (k : Kept) (blank full : Option (List ℕ)) →
    StandsAfterMoves start core (older ++ k ∷ []) blank full → HasJustMade core k
stands-after start core older k blank full h =
    let cut = leads_last start.plan h.older.state older k core.state h.kept in
    let back : start.plan ≡ core.plan = sym h.plan in
    let was : WasKept core.plan cut.0 k = subst (λ (p : Plan). WasKept p cut.0 k) back cut.2 in
    record {
      earlier = cut.0;
      stood = was.stood;
      allowed = was.allowed;
      other = was.other;
      is = was.is;
      made = subst (λ (p : Plan). core.state ≡ moved p cut.0 k.move) back cut.3;
    }

-- and it is with that taken back
pub stands-back : (start core new : Processor) (older : List Kept) (k : Kept) (blank full : Option (List ℕ)) →
    StandsAfterMoves start core (older ++ k ∷ []) blank full → new ≡ in_state core (restored core.state k) → StandsAfterMoves start new older blank full
stands-back start core new older k blank full h is =
    let plan : Plan = start.plan in
    let cut = leads_last plan h.older.state older k core.state h.kept in
    let t : State = cut.0 in
    let back : restored core.state k ≡ t = ap (λ (s : State). restored s k) cut.3 ∙ ap (restored (moved plan t k.move)) cut.2.is
    ∙ state_back plan t k.move cut.2.allowed cut.2.other in
    let state : new.state ≡ t = ap (λ (p : Processor). p.state) is ∙ back in
    stands_after start core new (older ++ k ∷ []) older blank full full h.older.output h.older.state h (oldest start core (older ++ k ∷ []) blank full h)
    (subst (RecordsLead plan h.older.state older) (sym state) cut.1) (ap (λ (p : Processor). p.plan) is) h.output

-- Offers --

-- while the program goes on, a move is offered, whatever is counted
pub stands-offered : (start core : Processor) (ring : List Kept) (blank full : Option (List ℕ)) (count : ℕ) →
    StandsAfterMoves start core ring blank full → IsAccepted core.plan → core.state.ending ≡ None → 0 < length (offered core.plan count core.state)
unfolding offered
stands-offered start core ring blank full count h accepted unended =
    let c = stands-comes start core ring blank full h in
    let plan : Plan = core.plan in
    let P : State → Type 0 = λ s. (1 ≤ length (candidates plan s)) × (1 ≤ length (held_back (candidates plan s))) in
    let reached : IsReached plan (machine_on h.hart []) c.moment = subst (λ (p : Plan). IsReached p (machine_on h.hart []) c.moment) (sym h.plan) c.reached in
    let some : P core.state = subst P c.state (some_pick plan (machine_on h.hart []) c.moment accepted h.wide reached (ap (λ (s : State). s.ending) c.state
    ∙ unended)) in
    of (is_held plan count) some.0 some.1
  where
    of : (b : Bool) → 1 ≤ length (candidates core.plan core.state) → 1 ≤ length (held_back (candidates core.plan core.state)) →
        0 < length (if b then held_back (candidates core.plan core.state) else candidates core.plan core.state)
    of true free held = held
    of false free held = free
