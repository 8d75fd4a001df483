-- From every moment where the invariant holds, the processor settles: with Issue held back it drains, to one end.
use Rattle.std.proofs.Common.{◌≡◌, ℕ, zero, suc, ◌*◌, ◌≤◌, List, [], ◌∷◌, Option, Some, None, Bool, true, false, refl, sym, ap, subst, ◌∙◌, length, arith}
use Rattle.std.specs.Prelude.{filter, not}
use Rattle.rv_machine.specs.Machine.{Machine}
use Rattle.cf_layout.specs.Accepted.{IsAccepted}
use Rattle.cf_layout.specs.Layout.{Plan}
use Rattle.cf_bind.specs.declared.moves.Bar.{Bar}
use Rattle.cf_bind.specs.declared.moves.Move.{Move}
use Rattle.cf_bind.specs.declared.passenger.End.{End}
use Rattle.cf_semantics.specs.moves.Bars.{bar}
use Rattle.cf_semantics.specs.claims.Determined.{Drains, EndAlike, EndsAs}
use Rattle.cf_semantics.specs.state.Drained.{IsStuck}
use Rattle.cf_semantics.specs.moves.Moves.{next}
use Rattle.cf_semantics.specs.state.Options.{is_some}
use Rattle.cf_semantics.specs.moves.Candidates.{all_moves, candidates, other_moves}
use Rattle.cf_semantics.specs.runs.Runs.{IsRun, run, start}
use Rattle.cf_semantics.specs.state.State.{State, Moment}
use Rattle.cf_semantics.specs.claims.Weight.{counts, is_issue, moves_per_issue, weight}
use Rattle.theory_refinement.proofs.invariant.Invariant.{HoldsAfter, HoldsAt, Sound}
use Rattle.theory_refinement.proofs.invariant.Suited.{Suits}
use Rattle.theory_refinement.proofs.layouts.Accepted.{accepted_suits}
use Rattle.theory_refinement.proofs.claims.Runs.{going, kept}
use Rattle.theory_refinement.proofs.Theorems.{holds_after}
use Rattle.theory_confluence.proofs.weight.Bound.{bounded_drain, costs, sound_at}
use Rattle.theory_confluence.proofs.Candidates.{HasShape, no_other_stuck}
use Rattle.theory_confluence.proofs.drains.Confluent.{agree, halted_alike}
use Rattle.theory_confluence.proofs.drains.Determined.{ends_as}
use Rattle.theory_confluence.proofs.drains.Tidy.{IsTidy, tidy_next, tidy_opened, tidy_run}
use Rattle.cf_run.specs.Headline.{Settles}

-- what every move preserves at the moment: the invariant over the machine, and that the state is tidy
pub record IsKept (plan : Plan) (x : Machine) (m : Moment) : Type 0 where
  pub held : HoldsAfter plan x m
  pub tidy : IsTidy plan m.state

-- so every run from the machine preserves it
pub kept-run : (plan : Plan) (x : Machine) (moves : List Move) → IsAccepted plan → length x.hart.regs ≡ 32 → IsRun plan (start plan x) moves →
    IsKept plan x (run plan (start plan x) moves)
kept-run plan x moves accepted wide allowed = record {
  held = holds_after plan x moves accepted wide allowed;
  tidy = tidy_run plan (start plan x) moves allowed (tidy_opened plan x);
}

-- and after one more move
kept-next : (plan : Plan) (x : Machine) (m : Moment) (mv : Move) → Suits plan → IsKept plan x m → bar plan m.state mv ≡ None → IsKept plan x (next plan m mv)
kept-next plan x m mv suits k free = record { held = kept plan x m mv suits free k.held; tidy = tidy_next plan m mv free k.tidy }

-- the first that passes two tests passes both
first_holds : {A : Type 0} (p q : A → Bool) (xs : List A) (y : A) (ys : List A) → filter p (filter q xs) ≡ y ∷ ys → (p y ≡ true) × (q y ≡ true)
first_holds p q [] y ys e = absurd (cc)
first_holds p q (x ∷ xs) y ys e = of (q x) (p x) refl refl (λ h. first_holds p q xs y ys h)
  where
    of : (b c : Bool) → q x ≡ b → p x ≡ c → (filter p (filter q xs) ≡ y ∷ ys → (p y ≡ true) × (q y ≡ true)) → (p y ≡ true) × (q y ≡ true)
    of false c f g more = more (rw f at e)
    of true false f g more = more (rw (f, g) at e)
    of true true f g more =
        let h : x ∷ filter p (filter q xs) ≡ y ∷ ys = rw (f, g) at e in
        let same : x ≡ y = cc in
        (ap p (sym same) ∙ g, ap q (sym same) ∙ f)

not_issue : (b : Bool) → not b ≡ true → b ≡ false
not_issue false e = refl
not_issue true e = absurd (cc)

unbarred : (b : Option Bar) → not (is_some b) ≡ true → b ≡ None
unbarred None e = refl
unbarred (Some b) e = absurd (cc)

-- a candidate other than Issue is allowed
other_allowed : (plan : Plan) (s : State) (mv : Move) (more : List Move) → other_moves (candidates plan s) ≡ mv ∷ more →
    (is_issue mv ≡ false) × (bar plan s mv ≡ None)
unfolding candidates
other_allowed plan s mv more e =
    let h = first_holds (λ (v : Move). not (is_issue v)) (λ (v : Move). not (is_some (bar plan s v))) (all_moves plan) mv more e in
    (not_issue (is_issue mv) h.0, unbarred (bar plan s mv) h.1)

-- if the program has ended, no move is allowed
ended_stuck : (plan : Plan) (s : State) (e : End) → s.ending ≡ Some e → IsStuck plan s
ended_stuck plan s e ended mv other free = absurd (let none : None ≡ Some e = sym (going plan s mv free) ∙ ended in cc)

-- before the end there are as many stages and sidings as the layout says
shaped : (plan : Plan) (x : Machine) (m : Moment) → IsKept plan x m → m.state.ending ≡ None → HasShape plan m.state
shaped plan x m k unended =
    let s : Sound plan m.state m.rest m.output k.held.machine = subst (HoldsAt plan m.state m.rest m.output k.held.machine) unended k.held.stage in
    record { cells = s.size; sidings = s.moored.berths }

-- a moment that cannot be left except by Issue is its own end
here : (plan : Plan) (m : Moment) → IsStuck plan m.state → Drains plan m m
unfolding IsRun run
here plan m stuck = record { moves = []; allowed = tt; held = refl; is = refl; stuck = stuck }

-- what drains after a move drains before it
before : (plan : Plan) (m t : Moment) (mv : Move) → is_issue mv ≡ false → bar plan m.state mv ≡ None → Drains plan (next plan m mv) t → Drains plan m t
unfolding IsRun run
before plan m t mv other free d = record { moves = mv ∷ d.moves; allowed = (free, d.allowed); held = rw (other, d.held) refl; is = d.is; stuck = d.stuck }

-- a move other than Issue makes the state lighter
lighter : (plan : Plan) (x : Machine) (m : Moment) (mv : Move) → Suits plan → IsKept plan x m → is_issue mv ≡ false → bar plan m.state mv ≡ None →
    suc (weight plan (next plan m mv).state) ≤ weight plan m.state
lighter plan x m mv suits k other free =
    let cost = costs plan m k.held.machine mv suits free (sound_at plan x m mv free k.held) in
    let none : moves_per_issue plan * counts (is_issue mv) 1 ≡ 0 = rw other (omega arith) in
    omega (arith, cost, none)

-- a moment drains if every moment to which a move other than Issue leads drains
drains_after : (plan : Plan) (x : Machine) (m : Moment) → IsKept plan x m → ((mv : Move) → is_issue mv ≡ false → bar plan m.state mv ≡ None →
    (t : Moment) × Drains plan (next plan m mv) t) → (t : Moment) × Drains plan m t
drains_after plan x m k deeper = of m.state.ending refl
  where
    on_moves : (moves : List Move) → other_moves (candidates plan m.state) ≡ moves → HasShape plan m.state → (t : Moment) × Drains plan m t
    on_moves [] e shape = (m, here plan m (no_other_stuck plan m.state shape e))
    on_moves (mv ∷ more) e shape =
        let a = other_allowed plan m.state mv more e in
        let d = deeper mv a.0 a.1 in
        (d.0, before plan m d.0 mv a.0 a.1 d.1)

    of : (o : Option End) → m.state.ending ≡ o → (t : Moment) × Drains plan m t
    of None e = on_moves (other_moves (candidates plan m.state)) refl (shaped plan x m k e)
    of (Some end) e = (m, here plan m (ended_stuck plan m.state end e))

-- if the weight is at most n
drains_within : (n : ℕ) (plan : Plan) (x : Machine) (m : Moment) → Suits plan → IsKept plan x m → weight plan m.state ≤ n → (t : Moment) × Drains plan m t
drains_within zero plan x m suits k light = drains_after plan x m k (λ mv other free. absurd (omega (arith, light, lighter plan x m mv suits k other free)))
drains_within (suc n) plan x m suits k light = drains_after plan x m k (λ mv other free.
    drains_within n plan x (next plan m mv) suits (kept-next plan x m mv suits k free) (omega (arith, light, lighter plan x m mv suits k other free)))

-- how a maximal run ends
ends : (plan : Plan) (x : Machine) (m t : Moment) → Suits plan → IsKept plan x m → m.state.ending ≡ None → Drains plan m t → EndsAs plan x m t
ends plan x m t suits k unended d = ends_as plan x m t suits k.tidy k.held unended d

-- any two such runs end alike
alike : (plan : Plan) (x : Machine) (m t u : Moment) → Suits plan → IsKept plan x m → Drains plan m t → Drains plan m u → EndAlike t u
alike plan x m t u suits k d e = of m.state.ending refl
  where
    of : (o : Option End) → m.state.ending ≡ o → EndAlike t u
    of None unended = agree plan x m t u (ends plan x m t suits k unended d) (ends plan x m u suits k unended e)
    of (Some end) ended = halted_alike plan m t u end ended d e

-- from there the processor settles
pub settles : (plan : Plan) (x : Machine) (m : Moment) → IsAccepted plan → IsKept plan x m → Settles plan x m
settles plan x m accepted k =
    let suits : Suits plan = accepted_suits plan accepted in
    record {
      bounded = λ moves allowed held. bounded_drain plan x m moves suits k.held allowed held;
      drains = drains_within (weight plan m.state) plan x m suits k (omega arith);
      ends = λ unended t d. ends plan x m t suits k unended d;
      alike = λ t u d e. alike plan x m t u suits k d e;
    }
