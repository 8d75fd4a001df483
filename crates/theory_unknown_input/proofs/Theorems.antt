-- The theorems: even over an input whose remaining bytes are unknown, every run does what the sequential machine does.
use Rattle.std.proofs.Common.{◌≡◌, ℕ, ◌+◌, List, [], ◌∷◌, ◌++◌, Some, None, refl, sym, ap, subst, ◌∙◌, arith, length, append_assoc, append-nil, ◌⊎◌, inl, inr}
use Rattle.rv_inst.specs.declared.isa.Isa.{Isa}
use Rattle.rv_machine.specs.After.{SameButInput, after}
use Rattle.rv_machine.specs.Machine.{Machine}
use Rattle.cf_layout.specs.Accepted.{IsAccepted}
use Rattle.cf_layout.specs.Layout.{Plan}
use Rattle.cf_bind.specs.declared.moves.Move.{Move}
use Rattle.cf_bind.specs.declared.moves.Move.TheVariants.{Serve}
use Rattle.cf_semantics.specs.moves.Bars.{bar}
use Rattle.cf_semantics.specs.state.Layouts.{isa_of}
use Rattle.cf_semantics.specs.runs.Lines.{Line, lines, retires, sequence}
use Rattle.cf_semantics.specs.moves.Moves.{next}
use Rattle.cf_semantics.specs.claims.Refines.{Refines, gained}
use Rattle.cf_semantics.specs.runs.Runs.{IsRun, opened, run, start}
use Rattle.cf_semantics.specs.state.State.{Moment}
use Rattle.theory_refinement.proofs.invariant.Invariant.{HoldsAfter, HoldsAt, Sound}
use Rattle.theory_refinement.proofs.invariant.Suited.{Suits}
use Rattle.theory_refinement.proofs.layouts.Accepted.{accepted_suits}
use Rattle.theory_refinement.proofs.claims.Lines.{gained_is, lines_after}
use Rattle.theory_refinement.proofs.claims.Refines.{refined}
use Rattle.theory_refinement.proofs.claims.Runs.{going, kept, opened_retired, started}
use Rattle.theory_confluence.proofs.drains.Rested.{after_gained, retired_is}
use Rattle.theory_confluence.proofs.drains.Tidy.{IsTidy, tidy_next, tidy_opened}
use Rattle.theory_unknown_input.specs.UnknownInput.{GoesTo, LeadsTo, RefinesOverUnknownInput, finding}
use Rattle.theory_unknown_input.proofs.Clear.{IsClear}
use Rattle.theory_unknown_input.proofs.Invariant.{HoldsAnew}
use Rattle.theory_unknown_input.proofs.ClearEnds.{clear_opened}
use Rattle.theory_unknown_input.proofs.ClearMoves.{clear_kept}
use Rattle.theory_unknown_input.proofs.Found.{found}
use Rattle.theory_unknown_input.proofs.Goes.{goes_nowhere, goes_on, goes_same}
use Rattle.theory_unknown_input.proofs.Rechosen.{over, rechosen}

-- a moment that holds after the machine's own steps holds after the machine to which they lead
unfoldable pub rebased : (plan : Plan) (x : Machine) (m : Moment) → (h : HoldsAfter plan x m) → HoldsAfter plan h.machine m
unfolding after
rebased plan x m h = record {
  gained = 0;
  machine = h.machine;
  count = retired_is plan x m h ∙ omega arith;
  after = refl;
  stage = h.stage;
}

-- no steps lead to the same machine
no_step : (isa : Isa) (x y : Machine) (g : ℕ) → g ≡ 0 → after isa x g ≡ Some y → y ≡ x
unfolding after
no_step isa x y g e f = let z : Some x ≡ Some y = rw e at f in cc

-- with nothing retired since, it is the machine itself over which the moment is sound
sound_here : (plan : Plan) (x : Machine) (m : Moment) → m.state.retired ≡ x.hart.retired → (h : HoldsAfter plan x m) → m.state.ending ≡ None →
    Sound plan m.state m.rest m.output x
sound_here plan x m level h unended =
    let c = h.count in
    let none : h.gained ≡ 0 = omega (arith, c, level) in
    let same : h.machine ≡ x = no_step (isa_of plan) x h.machine h.gained none h.after in
    subst (Sound plan m.state m.rest m.output) same (subst (HoldsAt plan m.state m.rest m.output h.machine) unended h.stage)

-- and its event is what that machine does next
pub refines_held : (plan : Plan) (x : Machine) (m : Moment) → IsAccepted plan → HoldsAfter plan x m → m.state.retired ≡ x.hart.retired → Refines plan x [] m
refines_held plan x m accepted h level =
    let none : gained x m.state ≡ 0 = omega (arith, level) in
    refined plan x [] m h.machine (accepted_suits plan accepted) (omega (arith, level)) (sym (ap (sequence (isa_of plan) x) none ∙ unfold sequence in refl))
    (after_gained plan x m h) m.state.ending refl h.stage

-- the lines of a move that is made when nothing has retired since
one_move : (plan : Plan) (x : Machine) (m : Moment) (mv : Move) → Suits plan → bar plan m.state mv ≡ None → m.state.retired ≡ x.hart.retired →
    HoldsAfter plan x m → (k : HoldsAfter plan x (next plan m mv)) → sequence (isa_of plan) x k.gained ≡ retires plan m.state mv
unfolding IsRun run lines sequence
one_move plan x m mv acc free level h k =
    let none : gained x m.state ≡ 0 = omega (arith, level) in
    ap (sequence (isa_of plan) x) (sym (gained_is plan x (next plan m mv) k))
    ∙ lines_after plan x m (mv ∷ []) acc (free, tt) h
    ∙ ap (λ (n : ℕ). sequence (isa_of plan) x n ++ (retires plan m.state mv ++ [])) none
    ∙ append-nil (retires plan m.state mv)

-- a move from a moment that holds over some machine, which steps have led to
moved_on : (plan : Plan) (start x : Machine) (m : Moment) (mv : Move) (written : List Line) → Suits plan → bar plan m.state mv ≡ None
    → m.state.retired ≡ start.hart.retired + gained start m.state → m.state.retired ≡ x.hart.retired →
    GoesTo (isa_of plan) start (gained start m.state) x written
    → HoldsAfter plan x m → IsClear (next plan m mv).state → IsTidy plan (next plan m mv).state → HoldsAfter plan x (next plan m mv) →
    HoldsAnew plan start (written ++ retires plan m.state mv) (next plan m mv)
moved_on plan start x m mv written acc free count level goes h clear tidy k =
    let t : Moment = next plan m mv in
    let isa : Isa = isa_of plan in
    let c = k.count in
    let lines : sequence isa x k.gained ≡ retires plan m.state mv = one_move plan x m mv acc free level h k in
    let number : k.gained + gained start m.state ≡ gained start t.state = omega (arith, c, level, count) in
    let more : GoesTo isa start (k.gained + gained start m.state) k.machine (written ++ sequence isa x k.gained) =
    goes_on isa start x k.machine (gained start m.state) k.gained written goes k.after in
    let P : ℕ → Type 0 = λ n. GoesTo isa start n k.machine (written ++ retires plan m.state mv) in
    let Q : List Line → Type 0 = λ l. GoesTo isa start (k.gained + gained start m.state) k.machine (written ++ l) in
    record {
      at = k.machine;
      count = omega (arith, c, level, count);
      level = retired_is plan x t k;
      goes = subst P number (subst Q lines more);
      rest = t.rest;
      held = rebased plan x t k;
      clear = clear;
      tidy = tidy;
    }

-- with nothing retired since, the machine with another rest of the input is the same apart from that
same_but_input : (x : Machine) (rest : List ℕ) → SameButInput x (over rest x)
same_but_input x rest = record { hart = refl; output = refl }

-- a moment at which a call is to be served holds whatever the input has left
pub held_anew : (plan : Plan) (x : Machine) (m : Moment) (rest other : List ℕ) → bar plan m.state Serve ≡ None → m.state.retired ≡ x.hart.retired →
    HoldsAfter plan x (finding rest m) → IsClear m.state → HoldsAfter plan (over other x) (finding other m)
held_anew plan x m rest other free level h clear =
    let unended : m.state.ending ≡ None = going plan m.state Serve free in
    let sound : Sound plan m.state rest m.output x = sound_here plan x (finding rest m) level h unended in
    record {
      gained = 0;
      machine = over other x;
      count = level ∙ omega arith;
      after = unfold after in refl;
      stage = subst (HoldsAt plan m.state other m.output (over other x)) (sym unended) (rechosen plan m.state x other free sound clear);
    }

-- this is claimed with some input left, so that what was left before does not matter
pub left_open : (plan : Plan) (start : Machine) (written : List Line) (m : Moment) (rest : List ℕ) → HoldsAnew plan start written m →
    HoldsAnew plan start written (finding rest m)
left_open plan start written m rest h =
    record { at = h.at; count = h.count; level = h.level; goes = h.goes; rest = h.rest; held = h.held; clear = h.clear; tidy = h.tidy }

-- a move from a moment that holds with the input that the move finds
kept_by : (plan : Plan) (start x : Machine) (m : Moment) (mv : Move) (written : List Line) → Suits plan → bar plan m.state mv ≡ None →
    m.state.retired ≡ start.hart.retired + gained start m.state → m.state.retired ≡ x.hart.retired
    → GoesTo (isa_of plan) start (gained start m.state) x written → HoldsAfter plan x m → IsClear m.state → IsTidy plan m.state →
    HoldsAnew plan start (written ++ retires plan m.state mv) (next plan m mv)
kept_by plan start x m mv written acc free count level goes h clear tidy =
    let sound : Sound plan m.state m.rest m.output x = sound_here plan x m level h (going plan m.state mv free) in
    moved_on plan start x m mv written acc free count level goes h (clear_kept plan m x mv acc free sound clear) (tidy_next plan m mv free tidy)
    (kept plan x m mv acc free h)

-- a call is served over whatever it finds
call_kept : (plan : Plan) (start : Machine) (m : Moment) (rest : List ℕ) (written : List Line) → Suits plan → bar plan m.state Serve ≡ None →
    HoldsAnew plan start written m → HoldsAnew plan start (written ++ retires plan m.state Serve) (next plan (finding rest m) Serve)
call_kept plan start m rest written acc free h =
    kept_by plan start (over rest h.at) (finding rest m) Serve written acc free h.count h.level
    (goes_same (isa_of plan) start h.at (over rest h.at) (gained start m.state) written (same_but_input h.at rest) h.goes)
    (held_anew plan h.at m h.rest rest free h.level h.held h.clear) h.clear h.tidy

-- every move keeps it, whatever it finds of the input
pub anew_kept : (plan : Plan) (start : Machine) (m : Moment) (mv : Move) (rest : List ℕ) (written : List Line) → Suits plan → bar plan m.state mv ≡ None →
    HoldsAnew plan start written m → HoldsAnew plan start (written ++ retires plan m.state mv) (next plan (finding rest m) mv)
anew_kept plan start m mv rest written acc free h = go mv free (found plan m mv h.rest rest)
  where
    go : (mv : Move) → bar plan m.state mv ≡ None → (mv ≡ Serve) ⊎ (next plan (finding rest m) mv ≡ finding rest (next plan (finding h.rest m) mv)) →
        HoldsAnew plan start (written ++ retires plan m.state mv) (next plan (finding rest m) mv)
    go mv free (inl is) = subst (λ (v : Move). HoldsAnew plan start (written ++ retires plan m.state v) (next plan (finding rest m) v)) (sym is)
        (call_kept plan start m rest written acc (sym (ap (bar plan m.state) is) ∙ free) h)
    go mv free (inr is) = rw is (left_open plan start (written ++ retires plan m.state mv) (next plan (finding h.rest m) mv) rest
        (kept_by plan start h.at (finding h.rest m) mv written acc free h.count h.level h.goes h.held h.clear h.tidy))

-- the beginning
pub anew_started : (plan : Plan) (x : Machine) → length x.hart.regs ≡ 32 → HoldsAnew plan x [] (start plan x)
anew_started plan x wide =
    let same : (opened plan x).retired ≡ x.hart.retired = opened_retired plan x in
    let none : gained x (opened plan x) ≡ 0 = omega (arith, same) in
    record {
      at = x;
      count = omega (arith, same);
      level = same;
      goes = subst (λ (n : ℕ). GoesTo (isa_of plan) x n x []) (sym none) (goes_nowhere (isa_of plan) x);
      rest = x.rest;
      held = started plan x wide;
      clear = clear_opened plan x;
      tidy = tidy_opened plan x;
    }

-- after some more moves
anew_after : (plan : Plan) (start : Machine) (m last : Moment) (moves : List Move) (written later : List Line) → Suits plan → LeadsTo plan m moves last later →
    HoldsAnew plan start written m → HoldsAnew plan start (written ++ later) last
unfolding LeadsTo
anew_after plan start m last [] written later acc (same, none) h =
    subst (λ (l : List Line). HoldsAnew plan start (written ++ l) last) (sym none)
    (subst (λ (l : List Line). HoldsAnew plan start l last) (sym (append-nil written)) (subst (HoldsAnew plan start written) (sym same) h))
anew_after plan start m last (mv ∷ moves) written later acc (rest, following, free, leads, is) h =
    subst (λ (l : List Line). HoldsAnew plan start l last) (append_assoc written (retires plan m.state mv) following
    ∙ ap (λ (l : List Line). written ++ l) (sym is))
    (anew_after plan start (next plan (finding rest m) mv) last moves (written ++ retires plan m.state mv) following acc leads
    (anew_kept plan start m mv rest written acc free h))

-- the invariant holds after every run
pub holds_anew : (plan : Plan) (x : Machine) (moves : List Move) (m : Moment) (written : List Line) → IsAccepted plan → length x.hart.regs ≡ 32 →
    LeadsTo plan (start plan x) moves m written → HoldsAnew plan x written m
holds_anew plan x moves m written accepted wide leads = anew_after plan x (start plan x) m moves [] written (accepted_suits plan accepted) leads
    (anew_started plan x wide)

-- what every run shows from outside is what the sequential machine does
pub refines_anew : (plan : Plan) (x : Machine) (moves : List Move) (m : Moment) (written : List Line) → IsAccepted plan → length x.hart.regs ≡ 32 →
    LeadsTo plan (start plan x) moves m written → RefinesOverUnknownInput plan x written m
refines_anew plan x moves m written accepted wide leads =
    let h : HoldsAnew plan x written m = holds_anew plan x moves m written accepted wide leads in
    record {
      at = h.at;
      rises = (let c = h.count in omega (arith, c));
      goes = h.goes;
      rest = h.rest;
      refines =
          refines_held plan h.at (finding h.rest m) accepted h.held h.level;
    }
