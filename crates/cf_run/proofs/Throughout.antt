-- What is true of a run where it stops is true at each of its moments: the moves made up to there are a run too.
use Rattle.std.proofs.Common.{◌≡◌, ℕ, zero, suc, List, [], ◌∷◌, ◌++◌, refl, sym, ap, subst, ◌∙◌, append_assoc, length, arith}
use Rattle.rv_inst.specs.declared.isa.Isa.{Isa}
use Rattle.rv_machine.specs.Hart.{Hart}
use Rattle.rv_machine.specs.Machine.{Machine}
use Rattle.cf_layout.specs.Accepted.{IsAccepted}
use Rattle.cf_layout.specs.Layout.{Plan}
use Rattle.cf_bind.specs.declared.moves.Move.{Move}
use Rattle.cf_semantics.specs.state.Layouts.{isa_of}
use Rattle.cf_semantics.specs.runs.Lines.{Line, retires}
use Rattle.cf_semantics.specs.moves.Moves.{next}
use Rattle.cf_semantics.specs.claims.Refines.{gained}
use Rattle.cf_semantics.specs.runs.Runs.{IsRun, start as start_on}
use Rattle.cf_semantics.specs.state.State.{Moment}
use Rattle.theory_unknown_input.specs.UnknownInput.{finding, GoesTo, LeadsTo}
use Rattle.theory_unknown_input.proofs.Invariant.{HoldsAnew}
use Rattle.theory_unknown_input.proofs.Bounded.{drain_bounded_anew}
use Rattle.theory_unknown_input.proofs.Theorems.{holds_anew, left_open, refines_held}
use Rattle.cf_run.specs.Headline.{machine_on, IsRight, IsRightOverUnknownInput, IsRightOnTheWay}
use Rattle.cf_run.proofs.Arrived.{right}
use Rattle.cf_run.proofs.Settling.{settles}

-- the first moves of a run are a run
begun : (plan : Plan) (m : Moment) (made more : List Move) → IsRun plan m (made ++ more) → IsRun plan m made
unfolding IsRun
begun plan m [] more h = tt
begun plan m (mv ∷ made) more h = (h.0, begun plan (next plan m mv) made more h.1)

-- so they are right if all moves are
pub right-throughout : (plan : Plan) (x : Machine) (moves : List Move) → IsAccepted plan → length x.hart.regs ≡ 32 → IsRight plan x moves →
    (made more : List Move) → moves ≡ made ++ more → IsRight plan x made
right-throughout plan x moves accepted wide h made more parts =
    right plan x made accepted wide (begun plan (start_on plan x) made more (subst (IsRun plan (start_on plan x)) parts h.allowed))

-- steps that find some input start on any input
pub goes-anew : (isa : Isa) (hart : Hart) (rest : List ℕ) (n : ℕ) (at : Machine) (written : List Line) → GoesTo isa (machine_on hart rest) n at written →
    GoesTo isa (machine_on hart []) n at written
unfolding GoesTo
goes-anew isa hart rest zero at written (same, none) = (record { hart = same.hart; output = same.output }, none)
goes-anew isa hart rest (suc n) at written (before, next, earlier, goes, step, same, is) =
    (before, next, earlier, goes-anew isa hart rest n before earlier goes, step, same, is)

-- over an input whose remaining bytes are unknown, moves that lead to a moment are right
pub right-anew : (plan : Plan) (hart : Hart) (found : List ℕ) (moves : List Move) (m : Moment) (written : List Line) → IsAccepted plan →
    LeadsTo plan (start_on plan (machine_on hart found)) moves m written → (h : HoldsAnew plan (machine_on hart found) written m) →
    IsRightOverUnknownInput plan hart moves h.at written (finding h.rest m)
right-anew plan hart found moves m written accepted leads h =
    let x : Machine = machine_on hart found in
    record {
      led = record { found = found; left = m.rest; leads = leads };
      rises = let c = h.count in omega (arith, c);
      goes = goes-anew (isa_of plan) hart found (gained x m.state) h.at written h.goes;
      refines = refines_held plan h.at (finding h.rest m) accepted h.held h.level;
      settles = settles plan h.at (finding h.rest m) accepted (record { held = h.held; tidy = h.tidy });
      bounded = λ more t later following held. drain_bounded_anew plan x (finding h.rest m) t more written later accepted
          (left_open plan x written m h.rest h) following held;
    }

-- the moment between the first moves and the others
record Parted (plan : Plan) (m : Moment) (made more : List Move) (last : Moment) (written : List Line) : Type 0 where
  between : Moment
  earlier : List Line
  later : List Line
  leads : LeadsTo plan m made between earlier
  onward : LeadsTo plan between more last later
  lines : written ≡ earlier ++ later

parted : (plan : Plan) (m : Moment) (made more : List Move) (last : Moment) (written : List Line) → LeadsTo plan m (made ++ more) last written →
    Parted plan m made more last written
unfolding LeadsTo
parted plan m [] more last written h = record { between = m; earlier = []; later = written; leads = (refl, refl); onward = h; lines = refl }
parted plan m (mv ∷ made) more last written (rest, following, free, leads, is) =
    let t : Moment = next plan (finding rest m) mv in
    let first : List Line = retires plan m.state mv in
    let p : Parted plan t made more last following = parted plan t made more last following leads in
    record {
      between = p.between;
      earlier = first ++ p.earlier;
      later = p.later;
      leads = (rest, p.earlier, free, p.leads, refl);
      onward = p.onward;
      lines = is ∙ ap (λ (l : List Line). first ++ l) p.lines ∙ sym (append_assoc first p.earlier p.later);
    }

-- moves lead on whatever was left before them
onward-with : (plan : Plan) (m last : Moment) (rest : List ℕ) (more : List Move) (later : List Line) → LeadsTo plan m more last later →
    (left : List ℕ) × LeadsTo plan (finding rest m) more (finding left last) later
unfolding LeadsTo
onward-with plan m last rest [] later (same, none) = (rest, (ap (finding rest) same, none))
onward-with plan m last rest (mv ∷ more) later h = (last.rest, h)

-- so the moves made up to any moment are right, and the others lead on from it
pub on-the-way : (plan : Plan) (hart : Hart) (found rest : List ℕ) (made more : List Move) (last : Moment) (written : List Line) → IsAccepted plan →
    length hart.regs ≡ 32 → LeadsTo plan (start_on plan (machine_on hart found)) (made ++ more) last written →
    IsRightOnTheWay plan hart made more (finding rest last) written
on-the-way plan hart found rest made more last written accepted wide leads =
    let x : Machine = machine_on hart found in
    let p : Parted plan (start_on plan x) made more last written = parted plan (start_on plan x) made more last written leads in
    let h : HoldsAnew plan x p.earlier p.between = holds_anew plan x made p.between p.earlier accepted wide p.leads in
    let o = onward-with plan p.between last h.rest more p.later p.onward in
    record {
      at = h.at;
      earlier = p.earlier;
      moment = finding h.rest p.between;
      right = right-anew plan hart found made p.between p.earlier accepted p.leads h;
      left = o.0;
      later = p.later;
      leads = o.1;
      lines = p.lines;
    }
