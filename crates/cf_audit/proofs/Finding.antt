-- Over an input whose remaining bytes are unknown: what the moves of an audit found, and that its answer is the only
-- one for the traces of the runs whose moves find the same.
use Rattle.std.proofs.Common.{◌≡◌, ℕ, suc, ◌+◌, ◌<◌, ◌≤◌, true, false, List, [], ◌∷◌, ◌++◌, length, Option, Some, None, inl, inr, refl, sym, ap, subst, ◌∙◌, append_assoc, arith}
use Rattle.std.specs.Prelude.{◌==◌, if◌then◌else◌}
use Rattle.std.proofs.lemmas.Bool.Decides.{nat_tests}
use Rattle.run_options.specs.Reportings as show
use Rattle.cf_layout.specs.Layout.{Plan}
use Rattle.cf_bind.specs.declared.moves.Move.{Move}
use Rattle.cf_semantics.specs.moves.Moves.{next}
use Rattle.cf_semantics.specs.state.State.{Moment}
use Rattle.cf_core.specs.Processors.{Processor, in_state}
use Rattle.cf_run.specs.Going.{moment_of, IsMade, Leads}
use Rattle.cf_run.specs.Made.{Made, shown, all_shown}
use Rattle.run_scripts.specs.declared.trace_refusal.TraceKind.{TraceKind}
use Rattle.run_scripts.specs.declared.trace_refusal.TraceKind.TheVariants.{NotAMove, Barred, Differs, Cut}
use Rattle.cf_audit.specs.declared.answer.Audit.{Audit}
use Rattle.cf_audit.specs.declared.answer.Audit.TheVariants.{Agrees, Wrong, ReadFault}
use Rattle.cf_audit.specs.Audits.{AgreesWithAll, Audits}
use Rattle.cf_audit.specs.Findings.{Findings, GoesWrongFinding, IsTraceFinding, LeadsFinding, finding_at}
use Rattle.cf_audit.specs.Traces.{most_retired, AreReadBack, GoesWrong, IsTrace, PartsAt, TraceFails}
use Rattle.cf_audit.proofs.Unique.{no-group, not-failing, one-count, one-move, wrong-for-none}

-- What the moves of a run found --

-- two findings that agree from a number on: the moves from that number on find the same
same_findings : (f g : Findings) (n : ℕ) (plan : Plan) (m : Moment) (trace : List Made) (last : Moment) → ((k : ℕ) → n ≤ k → f k ≡ g k) →
    LeadsFinding f n plan m trace last → LeadsFinding g n plan m trace last
unfolding LeadsFinding
same_findings f g n plan m [] last alike h = h
same_findings f g n plan m (made ∷ trace) last alike (is, h) =
    let P : List ℕ → Type 0 = λ r. IsMade plan most_retired (record m { rest = r }) made
    × LeadsFinding g (n + 1) plan (next plan (record m { rest = r }) made.move) trace last in
    let later : LeadsFinding g (n + 1) plan (next plan (finding_at f n m) made.move) trace last =
    same_findings f g (n + 1) plan (next plan (finding_at f n m) made.move) trace last (λ k up. alike k (omega (arith, up))) h in
    subst P (alike n (omega arith)) (is, later)

-- one more finding, before those of the later numbers
abbrev first_finding : ℕ → List ℕ → Findings → Findings
first_finding n rest later k = if k == n then rest else later k

finds_first : (n : ℕ) (rest : List ℕ) (later : Findings) → first_finding n rest later n ≡ rest
finds_first n rest later =
    let same : (n == n) ≡ true = grind (arith, nat_tests) in
    rw same refl

finds_later : (n k : ℕ) (rest : List ℕ) (later : Findings) → n + 1 ≤ k → later k ≡ first_finding n rest later k
finds_later n k rest later up =
    let other : (k == n) ≡ false = grind (arith, nat_tests) in
    rw other refl

-- what the moves of a run found, the first of which has the number n, and what the move after them finds
record Found (plan : Plan) (m : Moment) (n : ℕ) (trace : List Made) (last : Moment) (z : List ℕ) : Type 0 where
  found : Findings
  leads : LeadsFinding found n plan m trace last
  after : found (n + length trace) ≡ z

found_by : (plan : Plan) (m : Moment) (n : ℕ) (trace : List Made) (last : Moment) (z : List ℕ) → Leads plan most_retired None m trace last →
    Found plan m n trace last z
unfolding Leads LeadsFinding
found_by plan m n [] last z h = record { found = λ k. z; leads = h; after = refl }
found_by plan m n (made ∷ trace) last z (rest, finds, is, h) =
    let t : Moment = next plan (record m { rest = rest }) made.move in
    let later : Found plan t (n + 1) trace last z = found_by plan t (n + 1) trace last z h in
    let found : Findings = first_finding n rest later.found in
    let P : List ℕ → Type 0 = λ r. IsMade plan most_retired (record m { rest = r }) made
    × LeadsFinding found (n + 1) plan (next plan (record m { rest = r }) made.move) trace last in
    let onward : LeadsFinding found (n + 1) plan t trace last =
    same_findings later.found found (n + 1) plan t trace last (λ k up. finds_later n k rest later.found up) later.leads in
    let number : n + length (made ∷ trace) ≡ (n + 1) + length trace = omega arith in
    record {
      found = found;
      leads = subst P (sym (finds_first n rest later.found)) (is, onward);
      after = ap found number ∙ sym (finds_later n ((n + 1) + length trace) rest later.found (omega arith)) ∙ later.after;
    }

-- the same from a moment at which something else is left, if no move finds it
from_any : (found : Findings) (n : ℕ) (plan : Plan) (m : Moment) (trace : List Made) (last : Moment) (x : List ℕ) → LeadsFinding found n plan m trace last →
    (end : Moment) × LeadsFinding found n plan (record m { rest = x }) trace end × (end ≡ record last { rest = end.rest })
unfolding LeadsFinding
from_any found n plan m [] last x h = (record m { rest = x }, refl, ap (λ (t : Moment). record t { rest = x }) (sym h))
from_any found n plan m (made ∷ trace) last x h = (last, h, refl)

-- a trace with what its moves found
record TraceFound (core : Processor) (text : List ℕ) (n : ℕ) (last : Moment) (z : List ℕ) : Type 0 where
  found : Findings
  end : Moment
  is : IsTraceFinding found core text n end
  same : end ≡ record last { rest = end.rest }
  after : found (n + 1) ≡ z

trace_found : (core : Processor) (text : List ℕ) (n : ℕ) (last : Moment) (z : List ℕ) → IsTrace core None text n last → TraceFound core text n last z
trace_found core text n last z t =
    let f : Found core.plan (moment_of core t.rest) 1 t.trace last z = found_by core.plan (moment_of core t.rest) 1 t.trace last z t.leads in
    let e = from_any f.found 1 core.plan (moment_of core t.rest) t.trace last [] f.leads in
    let number : n + 1 ≡ 1 + length t.trace = omega (arith, t.count) in
    record {
      found = f.found;
      end = e.0;
      is = record { trace = t.trace; leads = e.1; read_back = t.read_back; count = t.count; is = t.is };
      same = e.2;
      after = ap f.found number ∙ f.after;
    }

-- Where a trace goes wrong --

-- a test that fails, given what the next move finds: as over an input that has just that left
record FailsFinding (plan : Plan) (last : Moment) (n : ℕ) (left : List ℕ) (place : ℕ) (kind : TraceKind) (stop : Moment) : Type 0 where
  rest : List ℕ
  at : Moment
  fails : TraceFails plan (Some rest) (record last { rest = rest }) n left place kind at
  state : stop.state ≡ at.state

parts_finding : (plan : Plan) (last : Moment) (n : ℕ) (left : List ℕ) (place : ℕ) (stop : Moment) → (p : PartsAt plan None last n left place stop) →
    PartsAt plan (Some p.is_group.rest) (record last { rest = p.is_group.rest }) n left place stop
parts_finding plan last n left place stop p = record {
  move = p.move;
  begins = p.begins;
  group = p.group;
  is_group = record {
    rest = p.is_group.rest;
    finds = refl;
    made = p.is_group.made;
    is_made = p.is_group.is_made;
    move = p.is_group.move;
    is = p.is_group.is;
  };
  leads = p.leads;
  same = p.same;
  other = p.other;
  goes_on = p.goes_on;
  differs = p.differs;
}

-- no move was made
abbrev unmoved : Moment → Moment
unmoved last = record last { rest = [] }

fails_finding : (plan : Plan) (last : Moment) (n : ℕ) (left : List ℕ) (place : ℕ) (kind : TraceKind) (stop : Moment) →
    TraceFails plan None last n left place kind stop → FailsFinding plan last n left place kind stop
unfolding TraceFails
fails_finding plan last n left place Cut stop (inl (none, at, still)) =
    record { rest = []; at = unmoved last; fails = inl (none, at, refl); state = ap (λ (m : Moment). m.state) still }
fails_finding plan last n left place Cut stop (inr (p, at)) =
    record { rest = p.is_group.rest; at = stop; fails = inr (parts_finding plan last n left place stop p, at); state = refl }
fails_finding plan last n left place NotAMove stop (has, none, at, still) =
    record { rest = []; at = unmoved last; fails = (has, none, at, refl); state = ap (λ (m : Moment). m.state) still }
fails_finding plan last n left place (Barred b) stop (mv, begins, barred, at, still) =
    record { rest = []; at = unmoved last; fails = (mv, begins, barred, at, refl); state = ap (λ (m : Moment). m.state) still }
fails_finding plan last n left place Differs stop (p, at) =
    record { rest = p.is_group.rest; at = stop; fails = (parts_finding plan last n left place stop p, at); state = refl }

-- The only answer --

-- no such run with another number of moves has the same trace
count_finding : (found : Findings) (plan : Plan) (m : Moment) (n : ℕ) (a b : List Made) (last end : Moment) → LeadsFinding found n plan m a last →
    LeadsFinding found n plan m b end → AreReadBack a → AreReadBack b → all_shown show.moves plan n a ≡ all_shown show.moves plan n b → length a ≡ length b
unfolding LeadsFinding all_shown
count_finding found plan m n [] [] last end h k reads tells same = refl
count_finding found plan m n [] (made ∷ b) last end h k reads tells same = absurd (no-group plan n made (all_shown show.moves plan (n + 1) b) same)
count_finding found plan m n (made ∷ a) [] last end h k reads tells same = absurd (no-group plan n made (all_shown show.moves plan (n + 1) a) (sym same))
count_finding found plan m n (first ∷ a) (other ∷ b) last end (i, h) (j, k) (read, reads) (tell, tells) same =
    let at : Moment = finding_at found n m in
    let one = one-move plan at n first other (all_shown show.moves plan (n + 1) a) (all_shown show.moves plan (n + 1) b) i j read tell same in
    let right : LeadsFinding found (n + 1) plan (next plan at first.move) b end =
    subst (λ (mv : Move). LeadsFinding found (n + 1) plan (next plan at mv) b end) (sym one.move) k in
    ap suc (count_finding found plan (next plan at first.move) (n + 1) a b last end h right reads tells one.after)

-- a text that fails after the groups of some moves is not the trace of such a run
none_finding : (found : Findings) (plan : Plan) (m : Moment) (n k : ℕ) (a b : List Made) (last end : Moment) (left : List ℕ) (place : ℕ) (kind : TraceKind)
    (stop : Moment) → k ≡ n + length a → LeadsFinding found n plan m a last → LeadsFinding found n plan m b end → AreReadBack a → AreReadBack b →
    0 < length left → TraceFails plan (Some (found k)) (finding_at found k last) k left place kind stop →
    all_shown show.moves plan n a ++ left ≡ all_shown show.moves plan n b → ⊥
unfolding LeadsFinding all_shown
none_finding found plan m n k [] [] last end left place kind stop count h l reads tells some fails same = absurd (omega (arith, ap length same, some))
none_finding found plan m n k [] (made ∷ b) last end left place kind stop count h (j, l) reads (tell, tells) some fails same =
    let number : k ≡ n = omega (arith, count) in
    let there : TraceFails plan (Some (found k)) (finding_at found k m) k left place kind stop =
    subst (λ (q : Moment). TraceFails plan (Some (found k)) (finding_at found k q) k left place kind stop) h fails in
    let here : TraceFails plan (Some (found n)) (finding_at found n m) n left place kind stop =
    subst (λ (i : ℕ). TraceFails plan (Some (found i)) (finding_at found i m) i left place kind stop) number there in
    not-failing plan (found n) (finding_at found n m) n made left (all_shown show.moves plan (n + 1) b) place kind stop j tell same here
none_finding found plan m n k (made ∷ a) [] last end left place kind stop count h l reads tells some fails same =
    no-group plan n made (all_shown show.moves plan (n + 1) a ++ left) (sym same ∙ append_assoc (shown show.moves plan n made)
    (all_shown show.moves plan (n + 1) a) left)
none_finding found plan m n k (first ∷ a) (other ∷ b) last end left place kind stop count (i, h) (j, l) (read, reads) (tell, tells) some fails same =
    let at : Moment = finding_at found n m in
    let one = one-move plan at n first other (all_shown show.moves plan (n + 1) a ++ left) (all_shown show.moves plan (n + 1) b) i j read tell
    (sym (append_assoc (shown show.moves plan n first) (all_shown show.moves plan (n + 1) a) left) ∙ same) in
    let after : LeadsFinding found (n + 1) plan (next plan at first.move) b end =
    subst (λ (mv : Move). LeadsFinding found (n + 1) plan (next plan at mv) b end) (sym one.move) l in
    none_finding found plan (next plan at first.move) (n + 1) k a b last end left place kind stop (omega (arith, count)) h after reads tells some fails
    one.after

-- the text is the trace of a run
agrees_untold : (core new : Processor) (text : List ℕ) (m : ℕ) (last : Moment) → IsTrace core None text m last → new ≡ in_state core last.state →
    AgreesWithAll core new None text (Agrees m)
agrees_untold core new text m last trace reaches =
    let t : TraceFound core text m last [] = trace_found core text m last [] trace in (
      t.found,
      (t.end, t.is, reaches ∙ ap (λ (q : Moment). in_state core q.state) (sym t.same)),
      λ n end other. sym t.is.count ∙ count_finding t.found core.plan (moment_of core []) 1 t.is.trace other.trace t.end end t.is.leads other.leads
          t.is.read_back other.read_back (sym t.is.is ∙ other.is) ∙ other.count,
    )

-- or it goes wrong
wrong_untold : (core new : Processor) (text : List ℕ) (line : ℕ) (kind : TraceKind) (stop : Moment) → GoesWrong core None text line kind stop →
    new ≡ in_state core stop.state → AgreesWithAll core new None text (Wrong line kind)
wrong_untold core new text line kind stop w reaches =
    let plan : Plan = core.plan in
    let f : FailsFinding plan w.last (w.n + 1) w.left w.place kind stop = fails_finding plan w.last (w.n + 1) w.left w.place kind stop w.fails in
    let t : TraceFound core w.front w.n w.last f.rest = trace_found core w.front w.n w.last f.rest w.agrees.is in
    let there : TraceFails plan (Some f.rest) (record t.end { rest = f.rest }) (w.n + 1) w.left w.place kind f.at =
    subst (λ (q : Moment). TraceFails plan (Some f.rest) q (w.n + 1) w.left w.place kind f.at) (sym (ap (λ (q : Moment). record q { rest = f.rest }) t.same))
    f.fails in
    let fails : TraceFails plan (Some (t.found (w.n + 1))) (finding_at t.found (w.n + 1) t.end) (w.n + 1) w.left w.place kind f.at =
    subst (λ (r : List ℕ). TraceFails plan (Some r) (record t.end { rest = r }) (w.n + 1) w.left w.place kind f.at) (sym t.after) there in
    let goes : GoesWrongFinding t.found core text line kind f.at = record {
      front = w.front;
      left = w.left;
      parts = w.agrees.parts;
      some = w.agrees.some;
      n = w.n;
      last = t.end;
      is = t.is;
      place = w.place;
      fails = fails;
      line_is = w.line_is;
    } in (
      t.found,
      (f.at, goes, reaches ∙ ap (in_state core) f.state),
      λ n end other. none_finding t.found plan (moment_of core []) 1 (w.n + 1) t.is.trace other.trace t.end end w.left w.place kind f.at
          (omega (arith, t.is.count)) t.is.leads other.leads t.is.read_back other.read_back w.agrees.some fails
          (ap (λ (x : List ℕ). x ++ w.left) (sym t.is.is) ∙ sym w.agrees.parts ∙ other.is),
    )

-- so what an audit answers is the only answer
pub agrees-with-all : (core new : Processor) (told now : Option (List ℕ)) (text : List ℕ) (answer : Audit) → Audits core new told now text answer →
    AgreesWithAll core new told text answer
unfolding Audits
agrees-with-all core new None now text (Agrees m) (last, trace, reaches) = agrees_untold core new text m last trace reaches.processor
agrees-with-all core new None now text (Wrong line kind) (stop, wrong, reaches) = wrong_untold core new text line kind stop wrong reaches.processor
agrees-with-all core new None now text ReadFault h = (λ k. [], tt, λ n end other. tt)
agrees-with-all core new (Some told) now text (Agrees m) (last, trace, reaches) = λ n end other. one-count core told text m n last end trace other
agrees-with-all core new (Some told) now text (Wrong line kind) (stop, wrong, reaches) = λ n end other. wrong-for-none core told text line n kind stop end wrong
    other
agrees-with-all core new (Some told) now text ReadFault h = λ n end other. tt
