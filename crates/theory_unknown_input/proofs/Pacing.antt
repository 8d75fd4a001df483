-- Runs under the hold rule over an input whose remaining bytes are unknown: such a run has at most as many moves as its
-- retirements allow for.
use Rattle.std.proofs.Common.{◌≡◌, ℕ, suc, ◌+◌, ◌*◌, ◌≤◌, ◌<◌, List, [], ◌∷◌, ◌++◌, length, Option, Some, None, Bool, true, false, refl, sym, ap, subst, ◌∙◌, arith, ◌⊎◌, inl, inr}
use Rattle.std.specs.Prelude.{◌||◌, if◌then◌else◌}
use Rattle.rv_machine.specs.Machine.{Machine}
use Rattle.cf_layout.specs.Accepted.{IsAccepted}
use Rattle.cf_layout.specs.Layout.{Plan}
use Rattle.cf_bind.specs.declared.moves.Move.{Move}
use Rattle.cf_bind.specs.declared.passenger.End.{End}
use Rattle.cf_semantics.specs.declared.event.Event.{Event}
use Rattle.cf_semantics.specs.moves.Bars.{bar}
use Rattle.cf_semantics.specs.claims.Determined.{IsSame}
use Rattle.cf_semantics.specs.state.Drained.{IsStuck, is_drained}
use Rattle.cf_semantics.specs.moves.Events.{IsEvent}
use Rattle.cf_semantics.specs.moves.Holding.{is_held, is_retirement, paced}
use Rattle.cf_semantics.specs.runs.Lines.{Line, lines, retires}
use Rattle.cf_semantics.specs.moves.Moves.{next}
use Rattle.cf_semantics.specs.runs.Paced.{IsPaced}
use Rattle.cf_semantics.specs.claims.Refines.{gained}
use Rattle.cf_semantics.specs.runs.Runs.{opened, run, start}
use Rattle.cf_semantics.specs.state.State.{Moment}
use Rattle.cf_semantics.specs.claims.Weight.{counts, is_issue, issues, moves_per_issue}
use Rattle.theory_refinement.proofs.invariant.Suited.{Suits}
use Rattle.theory_refinement.proofs.layouts.Accepted.{accepted_suits}
use Rattle.theory_refinement.proofs.claims.Runs.{going, opened_retired}
use Rattle.theory_confluence.proofs.drains.Rested.{drained_is, rested}
use Rattle.theory_confluence.proofs.drains.Retiring.{retires_so}
use Rattle.theory_unknown_input.specs.UnknownInput.{LeadsTo, finding}
use Rattle.theory_unknown_input.proofs.Invariant.{HoldsAnew}
use Rattle.theory_unknown_input.specs.Paced.{PacesTo}
use Rattle.theory_unknown_input.proofs.Bounded.{run_bounded_anew}
use Rattle.theory_unknown_input.proofs.Nearing.{Nearing, nearing_first, nearing_kept, nearing_retired}
use Rattle.theory_unknown_input.proofs.Theorems.{anew_kept, anew_started}

-- they are runs
pub paces_leads : (plan : Plan) (count : ℕ) (m last : Moment) (moves : List Move) (written : List Line) → PacesTo plan count m moves last written →
    LeadsTo plan m moves last written
unfolding PacesTo LeadsTo
paces_leads plan count m last [] written paces = paces
paces_leads plan count m last (mv ∷ moves) written (rest, later, e, free, hold, event, paces, is) = (
  rest,
  later,
  free,
  paces_leads plan (paced count mv e (is_drained (next plan (finding rest m) mv).state))
      (next plan (finding rest m) mv) last moves later paces,
  is,
)

-- a run under the hold rule over an input whose remaining bytes are known is one of them
pub told_paces : (plan : Plan) (count : ℕ) (m : Moment) (moves : List Move) → IsPaced plan count m moves →
    PacesTo plan count m moves (run plan m moves) (lines plan m moves)
unfolding IsPaced PacesTo run lines
told_paces plan count m [] paces = (refl, refl)
told_paces plan count m (mv ∷ moves) (free, hold, (e, event, paces)) = (
  m.rest,
  lines plan (next plan m mv) moves,
  e,
  free,
  hold,
  event,
  told_paces plan (paced count mv e (is_drained (next plan m mv).state))
      (next plan m mv) moves paces,
  refl,
)

-- since the last drained moment more is sure to retire, or the program is sure to end
pub record Since (plan : Plan) (start : Machine) (m : Moment) (rests : ℕ) : Type 0 where
  pub mark : ℕ
  pub above : start.hart.retired + rests ≤ mark
  pub nearing : Nearing plan m (suc mark)

-- a drained moment with nothing counted, or one on its way
abbrev pub OnItsWay : Plan → Machine → Moment → ℕ → ℕ → Type 0
OnItsWay plan start m count rests = ((is_drained m.state ≡ true) × (count ≡ 0) × (start.hart.retired + rests ≤ m.state.retired))
    ⊎ ((is_drained m.state ≡ false) × Since plan start m rests)

-- how many Issue moves there were: as many as retirements and drained moments allow for; and where the moment is while
-- the program goes on
pub record Pacing (plan : Plan) (start : Machine) (m : Moment) (count done : ℕ) : Type 0 where
  pub gone : ℕ
  pub rests : ℕ
  pub slack : ℕ
  pub retired : m.state.retired ≡ start.hart.retired + gone
  pub fewer : rests ≤ gone
  pub low : slack ≤ 2 * plan.stages
  pub bound : done ≤ (2 * plan.stages) * (gone + rests) + slack
  pub going : m.state.ending ≡ None → (count ≡ slack) × OnItsWay plan start m count rests

-- a move out of a drained moment, or on the way
since : (plan : Plan) (start : Machine) (m : Moment) (mv : Move) (rest : List ℕ) (count rests : ℕ) (written : List Line) → Suits plan →
    bar plan m.state mv ≡ None → HoldsAnew plan start written m → OnItsWay plan start m count rests → Since plan start (next plan (finding rest m) mv) rests
since plan start m mv rest count rests written acc free h (inl w) =
    record { mark = m.state.retired; above = w.2; nearing = nearing_first plan start m mv rest written acc free h w.0 }
since plan start m mv rest count rests written acc free h (inr w) =
    record { mark = w.1.mark; above = w.1.above; nearing = nearing_kept plan start m mv rest (suc w.1.mark) written acc free h w.1.nearing }

-- at a drained moment there are at least as many retirements as there were drained moments, this one included
rested_once : (plan : Plan) (start : Machine) (m : Moment) (rests : ℕ) → Since plan start m rests → m.state.ending ≡ None → is_drained m.state ≡ true →
    start.hart.retired + suc rests ≤ m.state.retired
rested_once plan start m rests s unended drained =
    let a = s.above in
    let b = nearing_retired plan m (suc s.mark) s.nearing unended drained in
    omega (arith, a, b)

-- an Issue is counted only if fewer than 2N are: while the candidates are held it is made only if no other move is
-- allowed, and then nothing is counted
room : (plan : Plan) (start : Machine) (m : Moment) (mv : Move) (count rests : ℕ) (written : List Line) → Suits plan → HoldsAnew plan start written m →
    m.state.ending ≡ None → (is_held plan count ≡ true → is_issue mv ≡ true → IsStuck plan m.state) → OnItsWay plan start m count rests → is_issue mv ≡ true →
    count < 2 * plan.stages
room plan start m mv count rests written acc h unended hold way issue = go (is_held plan count) refl
  where
    clash : false ≡ true → ⊥
    clash e = cc

    no : OnItsWay plan start m count rests → is_drained m.state ≡ true → count < 2 * plan.stages
    no (inl w) d = let t = acc.tall in let c = w.1 in omega (arith, t, c)
    no (inr w) d = absurd (clash (sym w.0 ∙ d))

    go : (b : Bool) → is_held plan count ≡ b → count < 2 * plan.stages
    go false e = grind (arith, e)
    go true e =
        let r = rested plan h.at (finding h.rest m) acc h.tidy h.held unended (hold e issue) in
        no way (drained_is plan h.held.machine m.state r.drained.same)

-- one more of either allows for 2N more
one_more : (k a b : ℕ) → (k * (suc a + b) ≡ k * (a + b) + k) × (k * (a + suc b) ≡ k * (a + b) + k)
one_more k a b = (grind arith, grind arith)

-- the count after a move that neither retires an instruction nor leads to a drained moment
on_the_way : (count : ℕ) (mv : Move) → (if is_issue mv then count + 1 else count) ≡ count + counts (is_issue mv) 1
on_the_way count mv = go (is_issue mv)
  where
    go : (b : Bool) → (if b then count + 1 else count) ≡ count + counts b 1
    go true = refl
    go false = omega arith

-- a move that leads from one moment to another
counted : (plan : Plan) (start : Machine) (m t : Moment) (mv : Move) (e : Event) (count done : ℕ) → (p : Pacing plan start m count done) →
    t.state.retired ≡ m.state.retired + counts (is_retirement e) 1 → Since plan start t p.rests → p.slack + counts (is_issue mv) 1 ≤ 2 * plan.stages →
    count ≡ p.slack → Pacing plan start t (paced count mv e (is_drained t.state)) (done + counts (is_issue mv) 1)
unfolding paced
counted plan start m t mv e count done p rises s fits counts_slack = go (is_retirement e) (is_drained t.state) t.state.ending refl refl refl
  where
    -- an instruction retires
    retired : is_retirement e ≡ true → (d : Bool) → is_drained t.state ≡ d → Pacing plan start t 0 (done + counts (is_issue mv) 1)
    retired r d f = record {
      gone = suc p.gone;
      rests = p.rests;
      slack = 0;
      retired = up;
      fewer = let c = p.fewer in omega (arith, c);
      low = omega arith;
      bound = let c = p.bound in let a = (one_more (2 * plan.stages) p.gone p.rests).0 in let w = fits in omega (arith, c, a, w);
      going = λ _. (refl, last d f);
    }
      where
        up : t.state.retired ≡ start.hart.retired + suc p.gone
        up = let c = p.retired in let u = rises in let v : counts (is_retirement e) 1 ≡ 1 = ap (λ (b : Bool). counts b 1) r in omega (arith, c, u, v)

        last : (d : Bool) → is_drained t.state ≡ d → OnItsWay plan start t 0 p.rests
        last true f = inl (f, refl, (let c = p.fewer in let u = up in omega (arith, c, u)))
        last false f = inr (f, s)

    -- none does
    same : is_retirement e ≡ false → t.state.retired ≡ start.hart.retired + p.gone
    same r = let c = p.retired in let u = rises in let v : counts (is_retirement e) 1 ≡ 0 = ap (λ (b : Bool). counts b 1) r in omega (arith, c, u, v)

    -- but the moment is drained
    rests_now : is_retirement e ≡ false → is_drained t.state ≡ true → t.state.ending ≡ None → Pacing plan start t 0 (done + counts (is_issue mv) 1)
    rests_now r f n =
        let once = rested_once plan start t p.rests s n f in
        record {
          gone = p.gone;
          rests = suc p.rests;
          slack = 0;
          retired = same r;
          fewer = let u = same r in omega (arith, u, once);
          low = omega arith;
          bound = let c = p.bound in let a = (one_more (2 * plan.stages) p.gone p.rests).1 in let w = fits in omega (arith, c, a, w);
          going = λ _. (refl, inl (f, refl, once));
        }

    -- or the program has ended, or the moment is on its way
    other : (now : ℕ) → is_retirement e ≡ false → (t.state.ending ≡ None → (is_drained t.state ≡ false) × (now ≡ count + counts (is_issue mv) 1)) →
        Pacing plan start t now (done + counts (is_issue mv) 1)
    other now r f = record {
      gone = p.gone;
      rests = p.rests;
      slack = p.slack + counts (is_issue mv) 1;
      retired = same r;
      fewer = p.fewer;
      low = fits;
      bound = let c = p.bound in omega (arith, c);
      going = λ n. let g = f n in ((let a = g.1 in omega (arith, a, counts_slack)), inr (g.0, s));
    }

    go : (r d : Bool) (o : Option End) → is_retirement e ≡ r → is_drained t.state ≡ d → t.state.ending ≡ o →
        Pacing plan start t (if is_retirement e || is_drained t.state then 0 else (if is_issue mv then count + 1 else count)) (done + counts (is_issue mv) 1)
    go true d o r f n = rw r (retired r d f)
    go false true None r f n = rw (r, f) (rests_now r f n)
    go false true (Some end) r f n = rw (r, f) (other 0 r (λ y. absurd (let z = sym y ∙ n in cc)))
    go false false o r f n = rw (r, f) (other (if is_issue mv then count + 1 else count) r (λ _. (f, on_the_way count mv)))

-- each move keeps the count
step : (plan : Plan) (start : Machine) (m : Moment) (mv : Move) (rest : List ℕ) (e : Event) (count done : ℕ) (written : List Line) → Suits plan →
    bar plan m.state mv ≡ None → (is_held plan count ≡ true → is_issue mv ≡ true → IsStuck plan m.state) → IsEvent plan m.state mv e
    → HoldsAnew plan start written m → Pacing plan start m count done → Pacing plan start (next plan (finding rest m) mv)
    (paced count mv e (is_drained (next plan (finding rest m) mv).state)) (done + counts (is_issue mv) 1)
step plan start m mv rest e count done written acc free hold event h p =
    let unended : m.state.ending ≡ None = going plan m.state mv free in
    let before = p.going unended in
    counted plan start m (next plan (finding rest m) mv) mv e count done p (retires_so plan (finding rest m) mv e free event)
    (since plan start m mv rest count p.rests written acc free h before.1)
    (fits before.0 (is_issue mv) refl (room plan start m mv count p.rests written acc h unended hold before.1)) before.0
  where
    fits : count ≡ p.slack → (b : Bool) → is_issue mv ≡ b → (is_issue mv ≡ true → count < 2 * plan.stages) → p.slack + counts b 1 ≤ 2 * plan.stages
    fits c true i free = let f = free i in omega (arith, f, c)
    fits c false i free = let l = p.low in omega (arith, l)

-- a run
paced_run : (plan : Plan) (start : Machine) (m last : Moment) (count done : ℕ) (moves : List Move) (written later : List Line) → Suits plan →
    PacesTo plan count m moves last later → HoldsAnew plan start written m → Pacing plan start m count done →
    (c : ℕ) × Pacing plan start last c (done + issues moves)
unfolding PacesTo
paced_run plan start m last count done [] written later acc (is, none) h p =
    (count, subst (λ (n : ℕ). Pacing plan start last count n) (zero_more done) (subst (λ (t : Moment). Pacing plan start t count done) (sym is) p))
  where
    zero_more : (n : ℕ) → n ≡ n + 0
    zero_more n = omega arith
paced_run plan start m last count done (mv ∷ moves) written later acc (rest, after, e, free, hold, event, paces, is) h p =
    let t : Moment = next plan (finding rest m) mv in
    let q = step plan start m mv rest e count done written acc free hold event h p in
    let k = anew_kept plan start m mv rest written acc free h in
    let z = paced_run plan start t last (paced count mv e (is_drained t.state)) (done + counts (is_issue mv) 1) moves (written
    ++ retires plan m.state mv) after acc paces k q in
    (z.0, subst (λ (n : ℕ). Pacing plan start last z.0 n) (sums done (counts (is_issue mv) 1) (issues moves)) z.1)
  where
    sums : (a b c : ℕ) → (a + b) + c ≡ a + (b + c)
    sums a b c = omega arith

-- the beginning
begins : (plan : Plan) (x : Machine) → Pacing plan x (start plan x) 0 0
begins plan x = record {
  gone = 0;
  rests = 0;
  slack = 0;
  retired = let c = opened_retired plan x in omega (arith, c);
  fewer = omega arith;
  low = omega arith;
  bound = omega arith;
  going = λ _. (refl, inl (drained_is plan x (opened plan x) same, refl, (let c = opened_retired plan x in omega (arith, c))));
}
  where
    same : IsSame (opened plan x) (opened plan x)
    same = record { cells = refl; sidings = refl; lane = refl; fetch = refl; regs = refl; mem = refl; retired = refl; ending = refl; failed = refl }

times_more : (k a b : ℕ) → a ≤ b → k * a ≤ k * b
times_more k a b e = grind (arith, e)

-- between two of the n retirements, drained moments among them, there are at most 2N Issue moves
few_issues : (n gone rests slack done : ℕ) → rests ≤ gone → slack ≤ 2 * n → done ≤ (2 * n) * (gone + rests) + slack → done ≤ (4 * n) * (gone + 1)
few_issues n gone rests slack done fewer low bound =
    let a = times_more (2 * n) (gone + rests) (gone + gone) (omega (arith, fewer)) in
    let b : (4 * n) * (gone + 1) ≡ (2 * n) * (gone + gone) + (2 * n + 2 * n) = grind arith in
    omega (arith, low, bound, a, b)

-- under the hold rule a run from the beginning has at most 4 N K (r + 1) moves, if r instructions have retired,
-- whatever each move finds of the input
pub paced_bounded_anew : (plan : Plan) (x : Machine) (moves : List Move) (m : Moment) (written : List Line) → IsAccepted plan → length x.hart.regs ≡ 32 →
    PacesTo plan 0 (start plan x) moves m written → length moves ≤ 4 * plan.stages * moves_per_issue plan * (gained x m.state + 1)
paced_bounded_anew plan x moves m written accepted wide paces =
    let p = (paced_run plan x (start plan x) m 0 0 moves [] written (accepted_suits plan accepted) paces (anew_started plan x wide) (begins plan x)).1 in
    let b = run_bounded_anew plan x m moves written accepted wide (paces_leads plan 0 (start plan x) m moves written paces) in
    let n : gained x m.state ≡ p.gone = let c = p.retired in omega (arith, c) in
    let few = times_more (moves_per_issue plan) (issues moves) ((4 * plan.stages) * (p.gone + 1))
    (few_issues plan.stages p.gone p.rests p.slack (issues moves) p.fewer p.low (let q = p.bound in omega (arith, q))) in
    let same = turn (moves_per_issue plan) (4 * plan.stages) (p.gone + 1) in
    subst (λ (g : ℕ). length moves ≤ 4 * plan.stages * moves_per_issue plan * (g + 1)) (sym n) (omega (arith, b, few, same))
  where
    turn : (a b c : ℕ) → a * (b * c) ≡ b * a * c
    turn a b c = grind arith

-- the same holds of a run over an input whose remaining bytes are known
pub paced_run_bounded : (plan : Plan) (x : Machine) (moves : List Move) → IsAccepted plan → length x.hart.regs ≡ 32 → IsPaced plan 0 (start plan x) moves →
    length moves ≤ 4 * plan.stages * moves_per_issue plan * (gained x (run plan (start plan x) moves).state + 1)
paced_run_bounded plan x moves accepted wide paces = paced_bounded_anew plan x moves (run plan (start plan x) moves)
    (lines plan (start plan x) moves) accepted wide (told_paces plan 0 (start plan x) moves paces)
