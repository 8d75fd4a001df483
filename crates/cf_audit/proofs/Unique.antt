-- A text is the trace of one run, and it is the trace of no run if it goes wrong.
use Rattle.std.proofs.Common.{◌≡◌, ℕ, zero, suc, ◌+◌, ◌<◌, true, false, List, [], ◌∷◌, ◌++◌, length, Some, None, inl, inr, refl, sym, ap, subst, ◌∙◌, append-nil, append_assoc, length-append, arith}
use Rattle.std.specs.Prelude.{Bool, slice_get, codes, decimal, ◌||◌, ◌==◌}
use Rattle.std.proofs.lemmas.List.{append_cancel_left}
use Rattle.run_options.specs.Reportings as show
use Rattle.cf_layout.specs.Layout.{Plan}
use Rattle.cf_bind.specs.declared.moves.Move.{Move}
use Rattle.cf_bind.specs.MoveTexts.{move_line}
use Rattle.cf_semantics.specs.moves.Bars.{bar}
use Rattle.cf_semantics.specs.runs.Lines.{retires}
use Rattle.cf_semantics.specs.moves.Moves.{next}
use Rattle.cf_semantics.specs.state.State.{Moment}
use Rattle.cf_core.specs.Processors.{Processor}
use Rattle.cf_report.specs.Lines.{numbered_move}
use Rattle.cf_report.specs.Picture.{picture}
use Rattle.cf_run.specs.Going.{moment_of, Finds, IsMade, Leads}
use Rattle.cf_run.specs.Headline.{AreTexts}
use Rattle.cf_run.specs.Made.{Made, retirement, shown, all_shown}
use Rattle.cf_run.proofs.Retirements.{made-texts, one-text}
use Rattle.run_scripts.specs.declared.trace_refusal.TraceKind.{TraceKind}
use Rattle.run_scripts.specs.declared.trace_refusal.TraceKind.TheVariants.{NotAMove, Barred, Differs, Cut}
use Rattle.cf_audit.specs.Traces.{most_retired, AreReadBack, IsReadBack, IsTrace, PartsAt, TraceFails, GoesWrong, has_line}
use Rattle.cf_audit.proofs.Coming.{shown-some}
use Rattle.cf_audit.proofs.FirstLines.{one_told}

-- a group is the line of its move and what comes after that line
rest_of_group : Plan → Made → List ℕ
rest_of_group plan made = retirement made.state.retired made.event ++ picture plan made.state

group_parts : (plan : Plan) (n : ℕ) (made : Made) (more : List ℕ) → shown show.moves plan n made ++ more ≡ numbered_move n made.move
    ++ (rest_of_group plan made ++ more)
unfolding shown rest_of_group
group_parts plan n made more =
    let front : List ℕ = numbered_move n made.move in
    let line : List ℕ = retirement made.state.retired made.event in
    let drawn : List ℕ = picture plan made.state in
    append_assoc (front ++ line) drawn more ∙ append_assoc front line (drawn ++ more) ∙ ap (λ (t : List ℕ). front ++ t) (sym (append_assoc line drawn more))

-- a move that is made at a moment has one group and leads to one state
same_group : (plan : Plan) (m : Moment) (n : ℕ) (a b : Made) → IsMade plan most_retired m a → IsMade plan most_retired m b → a.move ≡ b.move →
    (a.state ≡ b.state) × (shown show.moves plan n a ≡ shown show.moves plan n b)
unfolding shown
same_group plan m n a b h k same =
    let states : a.state ≡ b.state = h.state ∙ ap (λ (mv : Move). (next plan m mv).state) same ∙ sym k.state in
    let first = made-texts plan most_retired m a [] [] h refl in
    let second = made-texts plan most_retired m b [] [] k refl in
    let other = subst (λ (mv : Move). AreTexts (m.state.retired + 1) (retires plan m.state mv ++ []) (retirement b.state.retired b.event ++ []))
    (sym same) second in
    let texts : retirement a.state.retired a.event ++ [] ≡ retirement b.state.retired b.event ++ [] =
    one-text (m.state.retired + 1) (retires plan m.state a.move ++ []) _ _ first other in
    let line : retirement a.state.retired a.event ≡ retirement b.state.retired b.event = sym (append-nil (retirement a.state.retired a.event)) ∙ texts
    ∙ append-nil (retirement b.state.retired b.event) in
    let moves : numbered_move n a.move ≡ numbered_move n b.move = ap (numbered_move n) same in
    let drawn : picture plan a.state ≡ picture plan b.state = ap (picture plan) states in (
      states,
      ap (λ (t : List ℕ). (t ++ retirement a.state.retired a.event) ++ picture plan a.state) moves
          ∙ ap (λ (t : List ℕ). (numbered_move n b.move ++ t) ++ picture plan a.state) line
          ∙ ap (λ (t : List ℕ). (numbered_move n b.move ++ retirement b.state.retired b.event) ++ t) drawn,
    )

-- if the groups of two moves made at a moment begin the same text, the two are the same move, and the same text follows
-- both groups
pub record IsOneMove (plan : Plan) (m : Moment) (a b : Made) (x y : List ℕ) : Type 0 where
  pub move : a.move ≡ b.move
  pub state : a.state ≡ b.state
  pub after : x ≡ y

pub one-move : (plan : Plan) (m : Moment) (n : ℕ) (a b : Made) (x y : List ℕ) → IsMade plan most_retired m a → IsMade plan most_retired m b →
    IsReadBack a.move → IsReadBack b.move → shown show.moves plan n a ++ x ≡ shown show.moves plan n b ++ y → IsOneMove plan m a b x y
one-move plan m n a b x y h k reads tells same =
    let lines = one_told n a.move b.move (rest_of_group plan a ++ x) (rest_of_group plan b ++ y) reads tells (sym (group_parts plan n a x) ∙ same
    ∙ group_parts plan n b y) in
    let groups = same_group plan m n a b h k lines.0 in
    record {
      move = lines.0;
      state = groups.0;
      after = append_cancel_left (shown show.moves plan n b) x y (ap (λ (t : List ℕ). t ++ x) (sym groups.1) ∙ same);
    }

-- the input that a move finds is what is left of it
at_rest : (plan : Plan) (told : List ℕ) (m : Moment) (rest : List ℕ) (made : Made) → Finds (Some told) m.rest rest →
    IsMade plan most_retired (record m { rest = rest }) made → IsMade plan most_retired m made
at_rest plan told m rest made finds is = subst (λ (r : List ℕ). IsMade plan most_retired (record m { rest = r }) made) finds is

leads_rest : (plan : Plan) (told : List ℕ) (m last : Moment) (rest : List ℕ) (made : Made) (trace : List Made) → Finds (Some told) m.rest rest →
    Leads plan most_retired (Some told) (next plan (record m { rest = rest }) made.move) trace last
    → Leads plan most_retired (Some told) (next plan m made.move) trace last
leads_rest plan told m last rest made trace finds leads =
    subst (λ (r : List ℕ). Leads plan most_retired (Some told) (next plan (record m { rest = r }) made.move) trace last) finds leads

-- an empty text begins with no group
pub no-group : (plan : Plan) (n : ℕ) (made : Made) (more : List ℕ) → [] ≡ shown show.moves plan n made ++ more → ⊥
no-group plan n made more e =
    let size : 0 ≡ length (shown show.moves plan n made ++ more) = ap length e in
    absurd (omega (arith, size, length-append (shown show.moves plan n made) more, shown-some plan n made))

-- no run with another number of moves has the same trace
same_count : (plan : Plan) (told : List ℕ) (m : Moment) (n : ℕ) (a b : List Made) (last end : Moment) → Leads plan most_retired (Some told) m a last →
    Leads plan most_retired (Some told) m b end → AreReadBack a → AreReadBack b
    → all_shown show.moves plan n a ≡ all_shown show.moves plan n b → length a ≡ length b
unfolding Leads all_shown
same_count plan told m n [] [] last end h k reads tells same = refl
same_count plan told m n [] (made ∷ b) last end h k reads tells same = absurd (no-group plan n made (all_shown show.moves plan (n + 1) b) same)
same_count plan told m n (made ∷ a) [] last end h k reads tells same = absurd (no-group plan n made (all_shown show.moves plan (n + 1) a) (sym same))
same_count plan told m n (first ∷ a) (other ∷ b) last end (r, f, i, h) (s, g, j, k) (read, reads) (tell, tells) same =
    let here : IsMade plan most_retired m first = at_rest plan told m r first f i in
    let there : IsMade plan most_retired m other = at_rest plan told m s other g j in
    let one = one-move plan m n first other (all_shown show.moves plan (n + 1) a) (all_shown show.moves plan (n + 1) b) here there read tell same in
    let left : Leads plan most_retired (Some told) (next plan m first.move) a last = leads_rest plan told m last r first a f h in
    let right : Leads plan most_retired (Some told) (next plan m first.move) b end = subst
    (λ (mv : Move). Leads plan most_retired (Some told) (next plan m mv) b end) (sym one.move) (leads_rest plan told m end s other b g k) in
    ap suc (same_count plan told (next plan m first.move) (n + 1) a b last end left right reads tells one.after)

-- a text that begins with a group has a line feed
has_feed : (a b : List ℕ) → has_line (a ++ 10 ∷ b) ≡ true
has_feed [] b = refl
has_feed (x ∷ a) b = by (x == 10) (has_feed a b)
  where
    by : (t : Bool) → has_line (a ++ 10 ∷ b) ≡ true → (t || has_line (a ++ 10 ∷ b)) ≡ true
    by true e = refl
    by false e = e

line_there : (n : ℕ) (mv : Move) (more : List ℕ) → has_line (numbered_move n mv ++ more) ≡ true
unfolding numbered_move
line_there n mv more =
    let front : List ℕ = (codes "move " ++ decimal n ++ codes " ") ++ move_line mv in
    ap has_line (ap (λ (t : List ℕ). t ++ more) (sym (append_assoc (codes "move " ++ decimal n ++ codes " ") (move_line mv) (10 ∷ [])))
    ∙ append_assoc front (10 ∷ []) more) ∙ has_feed front more

-- the byte of a prefix at an index is the text's byte there
get_front : (front more : List ℕ) (place byte : ℕ) → slice_get front place ≡ Some byte → slice_get (front ++ more) place ≡ Some byte
get_front [] more place byte e = absurd (cc)
get_front (x ∷ front) more zero byte e = e
get_front (x ∷ front) more (suc place) byte e = get_front front more place byte e

-- a text that begins with the group of a move that can be made does not fail
not_parted : (plan : Plan) (told : List ℕ) (m : Moment) (n : ℕ) (made : Made) (left more : List ℕ) (place : ℕ) (stop : Moment) →
    IsMade plan most_retired m made → IsReadBack made.move → left ≡ shown show.moves plan n made ++ more → PartsAt plan (Some told) m n left place stop → ⊥
not_parted plan told m n made left more place stop is reads same p =
    let g = p.is_group in
    let here : IsMade plan most_retired m g.made = at_rest plan told m g.rest g.made g.finds g.is_made in
    let lines : numbered_move n p.move ++ p.begins.after ≡ numbered_move n made.move ++ (rest_of_group plan made ++ more) = sym p.begins.is ∙ same
    ∙ group_parts plan n made more in
    let moves = one_told n p.move made.move p.begins.after (rest_of_group plan made ++ more) p.begins.told reads lines in
    let groups = same_group plan m n g.made made here is (g.move ∙ moves.0) in
    let group : p.group ≡ shown show.moves plan n made = g.is ∙ groups.1 in
    p.differs (ap (λ (t : List ℕ). slice_get t place) (same ∙ ap (λ (t : List ℕ). t ++ more) (sym group)) ∙ get_front p.group more place p.other p.goes_on)

pub not-failing : (plan : Plan) (told : List ℕ) (m : Moment) (n : ℕ) (made : Made) (left more : List ℕ) (place : ℕ) (kind : TraceKind) (stop : Moment) →
    IsMade plan most_retired m made → IsReadBack made.move → left ≡ shown show.moves plan n made ++ more →
    TraceFails plan (Some told) m n left place kind stop → ⊥
unfolding TraceFails
not-failing plan told m n made left more place NotAMove stop is reads same (has, none, at, still) =
    none made.move (record { told = reads; after = rest_of_group plan made ++ more; is = same ∙ group_parts plan n made more })
not-failing plan told m n made left more place (Barred b) stop is reads same (mv, begins, barred, at, still) =
    let moves = one_told n mv made.move begins.after (rest_of_group plan made ++ more) begins.told reads (sym begins.is ∙ same
    ∙ group_parts plan n made more) in
    let free : bar plan m.state mv ≡ None = ap (bar plan m.state) moves.0 ∙ is.allowed in
    absurd (cc)
not-failing plan told m n made left more place Differs stop is reads same (p, at) = not_parted plan told m n made left more place stop is reads same p
not-failing plan told m n made left more place Cut stop is reads same (inl (none, at, still)) =
    let has : has_line left ≡ true = ap has_line (same ∙ group_parts plan n made more) ∙ line_there n made.move (rest_of_group plan made ++ more) in
    absurd (cc)
not-failing plan told m n made left more place Cut stop is reads same (inr (p, at)) = not_parted plan told m n made left more place stop is reads same p

-- a text that fails after the groups of some moves is not the trace of a run
no_trace : (plan : Plan) (told : List ℕ) (m : Moment) (n k : ℕ) (a b : List Made) (last end : Moment) (left : List ℕ) (place : ℕ) (kind : TraceKind)
    (stop : Moment) → k ≡ n + length a → Leads plan most_retired (Some told) m a last → Leads plan most_retired (Some told) m b end → AreReadBack a →
    AreReadBack b
    → 0 < length left → TraceFails plan (Some told) last k left place kind stop → all_shown show.moves plan n a ++ left ≡ all_shown show.moves plan n b → ⊥
unfolding Leads all_shown
no_trace plan told m n k [] [] last end left place kind stop count h l reads tells some fails same = absurd (omega (arith, ap length same))
no_trace plan told m n k [] (made ∷ b) last end left place kind stop count h (s, g, j, l) reads (tell, tells) some fails same =
    let there : IsMade plan most_retired m made = at_rest plan told m s made g j in
    let number : k ≡ n = omega (arith, count) in
    let here : TraceFails plan (Some told) m n left place kind stop = subst (λ (i : ℕ). TraceFails plan (Some told) m i left place kind stop) number
    (subst (λ (q : Moment). TraceFails plan (Some told) q k left place kind stop) h fails) in
    not-failing plan told m n made left (all_shown show.moves plan (n + 1) b) place kind stop there tell same here
no_trace plan told m n k (made ∷ a) [] last end left place kind stop count h l reads tells some fails same =
    no-group plan n made (all_shown show.moves plan (n + 1) a ++ left) (sym same ∙ append_assoc (shown show.moves plan n made)
    (all_shown show.moves plan (n + 1) a) left)
no_trace plan told m n k (first ∷ a) (other ∷ b) last end left place kind stop count (r, f, i, h) (s, g, j, l) (read, reads) (tell, tells) some fails same =
    let here : IsMade plan most_retired m first = at_rest plan told m r first f i in
    let there : IsMade plan most_retired m other = at_rest plan told m s other g j in
    let one = one-move plan m n first other (all_shown show.moves plan (n + 1) a ++ left) (all_shown show.moves plan (n + 1) b) here there read tell
    (sym (append_assoc (shown show.moves plan n first) (all_shown show.moves plan (n + 1) a) left) ∙ same) in
    let before : Leads plan most_retired (Some told) (next plan m first.move) a last = leads_rest plan told m last r first a f h in
    let after : Leads plan most_retired (Some told) (next plan m first.move) b end = subst
    (λ (mv : Move). Leads plan most_retired (Some told) (next plan m mv) b end) (sym one.move) (leads_rest plan told m end s other b g l) in
    no_trace plan told (next plan m first.move) (n + 1) k a b last end left place kind stop (omega (arith, count)) before after reads tells some fails one.after

-- what is known of the input of a trace
same_start : (core : Processor) (told rest : List ℕ) → rest ≡ told → moment_of core rest ≡ moment_of core told
same_start core told rest same = ap (moment_of core) same

pub one-count : (core : Processor) (told text : List ℕ) (n k : ℕ) (last end : Moment) → IsTrace core (Some told) text n last →
    IsTrace core (Some told) text k end → n ≡ k
one-count core told text n k last end a b =
    let first : Leads core.plan most_retired (Some told) (moment_of core told) a.trace last =
    subst (λ (m : Moment). Leads core.plan most_retired (Some told) m a.trace last) (same_start core told a.rest a.is_told) a.leads in
    let second : Leads core.plan most_retired (Some told) (moment_of core told) b.trace end =
    subst (λ (m : Moment). Leads core.plan most_retired (Some told) m b.trace end) (same_start core told b.rest b.is_told) b.leads in
    sym a.count ∙ same_count core.plan told (moment_of core told) 1 a.trace b.trace last end first second a.read_back b.read_back (sym a.is ∙ b.is) ∙ b.count

pub wrong-for-none : (core : Processor) (told text : List ℕ) (line n : ℕ) (kind : TraceKind) (stop end : Moment) →
    GoesWrong core (Some told) text line kind stop → IsTrace core (Some told) text n end → ⊥
wrong-for-none core told text line n kind stop end w b =
    let a = w.agrees.is in
    let first : Leads core.plan most_retired (Some told) (moment_of core told) a.trace w.last =
    subst (λ (m : Moment). Leads core.plan most_retired (Some told) m a.trace w.last) (same_start core told a.rest a.is_told) a.leads in
    let second : Leads core.plan most_retired (Some told) (moment_of core told) b.trace end =
    subst (λ (m : Moment). Leads core.plan most_retired (Some told) m b.trace end) (same_start core told b.rest b.is_told) b.leads in
    let whole : all_shown show.moves core.plan 1 a.trace ++ w.left ≡ all_shown show.moves core.plan 1 b.trace = ap (λ (t : List ℕ). t ++ w.left) (sym a.is)
    ∙ sym w.agrees.parts ∙ b.is in
    no_trace core.plan told (moment_of core told) 1 (w.n + 1) a.trace b.trace w.last end w.left w.place kind stop
    (omega (arith, a.count)) first second a.read_back b.read_back w.agrees.some w.fails whole
