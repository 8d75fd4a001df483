-- Moves in turn: one more move, by a count that stops where Issue is held back, and how they end.
use Rattle.std.proofs.Common.{◌≡◌, ℕ, zero, suc, ◌+◌, ◌<◌, ◌≤◌, List, [], ◌∷◌, ◌++◌, length, Option, Some, None, Bool, true, false, Ok, Err, refl, sym, ap, subst, ◌∙◌, append-nil, append_assoc, inl, inr, arith}
use Rattle.std.specs.Prelude.{◌⊎◌, slice_get}
use Rattle.std.proofs.lemmas.List.{length-append}
use Rattle.run_options.specs.declared.guess_rule.GuessRule.TheVariants as rules
use Rattle.cf_io.specs.Puts.{Writes, WritesFront}
use Rattle.cf_io.specs.declared.failed.Failed.{Failed}
use Rattle.cf_io.proofs.Owing.{writes-again, front-again}
use Rattle.cf_layout.specs.Layout.{Plan}
use Rattle.cf_bind.specs.declared.moves.Move.{Move}
use Rattle.cf_bind.specs.declared.moves.Move.TheVariants.{Serve}
use Rattle.cf_semantics.specs.declared.event.Event.{Event}
use Rattle.cf_semantics.specs.moves.Bars.{bar}
use Rattle.cf_semantics.specs.state.Drained.{is_drained}
use Rattle.cf_semantics.specs.moves.Holding.{offered, paced}
use Rattle.cf_semantics.specs.state.State.{State}
use Rattle.cf_sched.specs.Paces.{PaceCount, offered_by, offers as offers_by, saw, stopped}
use Rattle.cf_sched.proofs.ByRule.{any-offered}
use Rattle.cf_sched.specs.Policies.{round_pick, round_on}
use Rattle.cf_report.specs.Putting.{PutsText}
use Rattle.cf_run.specs.Made.{Made, retirement}
use Rattle.cf_run.specs.Policies.{Chooser, chooser, choice, fresh_chooser, offered_to}
use Rattle.cf_run.specs.Reaching.{GoesOn}
use Rattle.cf_run.proofs.ByRule.{ruled-allowed}
use Rattle.cf_run.proofs.Stopped.{offered-stopped, offers-offered, paced-stopped}
use Rattle.cf_debug.specs.declared.answer.Broken.{Broken}
use Rattle.cf_debug.specs.declared.answer.Broken.TheVariants as broken
use Rattle.cf_debug.specs.Driving.{Turn, DriveTakes, Passes, Pauses, Drives, DrivesOn, DrivesAground, meets_break, first_auto_turn, next_turn, pick, retirements}
use Rattle.cf_debug.specs.Limits.{most_retired}
use Rattle.cf_debug.specs.Making.{ProcessorState, MakesAndKeeps, MakesKeptOrFails, FailsOne}
use Rattle.cf_debug.specs.Outcomes.{DrivesOut, IsNextTurn, Steers}
use Rattle.cf_debug.specs.Standing.{StandsSomewhere}
use Rattle.cf_debug.proofs.KeptMoves.{makes-somewhere}
use Rattle.cf_debug.proofs.Standing.{nothing-written}

-- One move --

-- the move that was made
abbrev made_of : Move → Event → ProcessorState → Made
made_of mv e new = record { move = mv; event = e; state = new.core.state }

-- the move that is picked was made, and its line written
pub steers-on : (stop : Option ℕ) (at later : Turn) (now new : ProcessorState) (mv : Move) (e : Event) (last : Bool) (written after : Option (List ℕ)) (i j : ℕ)
    (answer : Unit {0})
    → GoesOn most_retired now.core.state → pick at now ≡ Some mv → MakesKeptOrFails mv now new (Ok e) → last ≡ meets_break stop now.core.state mv →
    IsNextTurn at later now (made_of mv e new) → PutsText {E = Failed} written after i j (retirement new.core.state.retired e) (Ok answer)
    → Steers stop at later now new written after (Ok last)
unfolding Steers MakesKeptOrFails
steers-on stop at later now new mv e last written after i j answer goes is makes ends next put =
    (made_of mv e new, record { goes = goes; pick_is = is; makes = makes; state = refl }, sym ends, next, put.all)

-- or the report failed after it
pub steers-unshown : {T : Type 0} (stop : Option ℕ) (at later : Turn) (now new : ProcessorState) (mv : Move) (e : Event) (written after : Option (List ℕ))
    (i j : ℕ) (failed : Failed)
    → GoesOn most_retired now.core.state → pick at now ≡ Some mv → MakesKeptOrFails mv now new (Ok e) →
    PutsText {T = T} written after i j (retirement new.core.state.retired e) (Err failed)
    → Steers stop at later now new written after (Err broken.Report)
unfolding Steers MakesKeptOrFails
steers-unshown stop at later now new mv e written after i j failed goes is makes put =
    (made_of mv e new, record { goes = goes; pick_is = is; makes = makes; state = refl }, put.front)

-- or the output failed it
pub steers-aground : (stop : Option ℕ) (at later : Turn) (now new : ProcessorState) (mv : Move) (written : Option (List ℕ)) (failed : Failed)
    → GoesOn most_retired now.core.state → pick at now ≡ Some mv → MakesKeptOrFails mv now new (Err failed) →
    Steers stop at later now new written written (Err broken.Output)
unfolding Steers MakesKeptOrFails
steers-aground stop at later now new mv written failed goes is fails =
    (goes, is ∙ ap Some fails.serves, subst (λ (v : Move). FailsOne v now new) fails.serves fails, refl)

-- the turn after it
pub next-is : (at : Turn) (now : ProcessorState) (made : Made) (c later : PaceCount) (policy : Option Move) (drained : Bool) → at.rule ≡ rules.Any →
    at.count ≡ c.count →
    c.stages ≡ now.core.plan.stages → drained ≡ is_drained made.state → later ≡ saw c made.move made.event drained →
    policy ≡ round_on at.policy (offered_to now.core.plan at now.core.state)
    → IsNextTurn at (chooser rules.Any policy later.count) now made
next-is at now made c later policy drained ruled count beside drained_is later_is on = record {
  rule = sym ruled;
  policy = on;
  count = ap (λ (d : PaceCount). d.count) later_is ∙ ap (λ (b : Bool). stopped c.stages (paced c.count made.move made.event b)) drained_is
      ∙ ap (λ (n : ℕ). stopped n (paced c.count made.move made.event (is_drained made.state))) beside
      ∙ ap (λ (n : ℕ). stopped now.core.plan.stages (paced n made.move made.event (is_drained made.state))) (sym count);
}

-- moves that are offered by a count are offered for the stages of the layout
offers-any : (c : PaceCount) (plan : Plan) (s : State) → c.stages ≡ plan.stages → c.rule ≡ rules.Any → offers_by c plan s ≡ offered_by rules.Any plan c.count s
offers-any c plan s beside ruled = offers-offered c plan s beside ∙ ap (λ r. offered_by r plan c.count s) ruled

pub offered-offers : (c : PaceCount) (plan : Plan) (s : State) → c.stages ≡ plan.stages → c.rule ≡ rules.Any → 0 < length (offered plan c.count s) →
    0 < length (offers_by c plan s)
offered-offers c plan s beside ruled some =
    subst (λ (moves : List Move). 0 < length moves) (sym (offers-any c plan s beside ruled ∙ any-offered plan c.count s)) some

-- the move that is chosen is the one that is picked
pub chosen-pick : (last : Option Move) (c : PaceCount) (now : ProcessorState) (mv : Move) → c.stages ≡ now.core.plan.stages → c.rule ≡ rules.Any →
    Some mv ≡ slice_get (offers_by c now.core.plan now.core.state) (round_pick last (offers_by c now.core.plan now.core.state)) →
    pick (chooser rules.Any last c.count) now ≡ Some mv
chosen-pick last c now mv beside ruled is = sym (is ∙ ap (λ (moves : List Move). slice_get moves (round_pick last moves))
    (offers-any c now.core.plan now.core.state beside ruled))

-- and allowed
pub chosen-allowed : (last : Option Move) (c : PaceCount) (now : ProcessorState) (mv : Move) → c.stages ≡ now.core.plan.stages → c.rule ≡ rules.Any →
    Some mv ≡ slice_get (offers_by c now.core.plan now.core.state) (round_pick last (offers_by c now.core.plan now.core.state)) →
    bar now.core.plan now.core.state mv ≡ None
chosen-allowed last c now mv beside ruled is = ruled-allowed rules.Any now.core.plan c.count now.core.state
    (round_pick last (offered_by rules.Any now.core.plan c.count now.core.state)) mv (chosen-pick last c now mv beside ruled is)

-- and after it comes the next turn
pub chosen-next : (last policy : Option Move) (c later : PaceCount) (now new : ProcessorState) (mv : Move) (e : Event) (drained : Bool) →
    c.stages ≡ now.core.plan.stages → c.rule ≡ rules.Any → drained ≡ is_drained new.core.state → later ≡ saw c mv e drained →
    policy ≡ round_on last (offers_by c now.core.plan now.core.state)
    → IsNextTurn (chooser rules.Any last c.count) (chooser rules.Any policy later.count) now (made_of mv e new)
chosen-next last policy c later now new mv e drained beside ruled drained_is later_is on =
    next-is (chooser rules.Any last c.count) now (made_of mv e new) c later policy drained refl refl beside drained_is later_is (on
    ∙ ap (round_on last) (offers-any c now.core.plan now.core.state beside ruled))

-- Moves so far --

-- this many moves were made, none of which issued an instruction at the break address; the turn is kept by a count that
-- stops, and their lines were written
pub record Comes (stop : Option ℕ) (start now : ProcessorState) (held : Turn) (written after : Option (List ℕ)) (count : ℕ) : Type 0 where
  pub trace : List Made
  pub at : Turn
  pub passes : Passes stop first_auto_turn start trace at now
  pub rule : held.rule ≡ at.rule
  pub policy : held.policy ≡ at.policy
  pub count_is : held.count ≡ stopped now.core.plan.stages at.count
  pub many : count ≡ length trace
  pub put : Writes written after (retirements trace)

pub comes-first : (stop : Option ℕ) (start : ProcessorState) (policy : Option Move) (held stages : ℕ) (written : Option (List ℕ)) → policy ≡ None →
    held ≡ stopped stages 0 → stages ≡ start.core.plan.stages → Comes stop start start (chooser rules.Any policy held) written written 0
unfolding Passes retirements
comes-first stop start policy held stages written fresh_policy zero_held beside = record {
  trace = [];
  at = first_auto_turn;
  passes = (refl, refl);
  rule = refl;
  policy = fresh_policy;
  count_is = zero_held ∙ ap (λ (n : ℕ). stopped n 0) beside;
  many = refl;
  put = nothing-written written;
}

-- the same is offered by the whole count
offers : (stop : Option ℕ) (start now : ProcessorState) (held : Turn) (written after : Option (List ℕ)) (count : ℕ) →
    (c : Comes stop start now held written after count) → offered_to now.core.plan held now.core.state ≡ offered_to now.core.plan c.at now.core.state
offers stop start now held written after count c =
    ap (λ (n : ℕ). offered_by held.rule now.core.plan n now.core.state) c.count_is
    ∙ offered-stopped held.rule now.core.plan c.at.count now.core.state
    ∙ ap (λ r. offered_by r now.core.plan c.at.count now.core.state) c.rule

picks_same : (stop : Option ℕ) (start now : ProcessorState) (held : Turn) (written after : Option (List ℕ)) (count : ℕ) →
    (c : Comes stop start now held written after count) → pick held now ≡ pick c.at now
picks_same stop start now held written after count c =
    ap (λ (moves : List Move). slice_get moves (round_pick held.policy moves)) (offers stop start now held written after count c)
    ∙ ap (λ (p : Option Move). slice_get (offered_to now.core.plan c.at now.core.state) (round_pick p (offered_to now.core.plan c.at now.core.state))) c.policy

onward_same : (stop : Option ℕ) (start now : ProcessorState) (held : Turn) (written after : Option (List ℕ)) (count : ℕ) →
    (c : Comes stop start now held written after count) → round_on held.policy (offered_to now.core.plan held now.core.state)
    ≡ round_on c.at.policy (offered_to now.core.plan c.at now.core.state)
onward_same stop start now held written after count c =
    ap (λ (moves : List Move). round_on held.policy moves) (offers stop start now held written after count c)
    ∙ ap (λ (p : Option Move). round_on p (offered_to now.core.plan c.at now.core.state)) c.policy

-- so the move that is taken is taken by the whole count
took : (stop : Option ℕ) (start now new : ProcessorState) (held : Turn) (written after : Option (List ℕ)) (count : ℕ) (made : Made) →
    (c : Comes stop start now held written after count) → DriveTakes held made now new → DriveTakes c.at made now new
took stop start now new held written after count made c t = record {
  goes = t.goes;
  pick_is = sym (picks_same stop start now held written after count c) ∙ t.pick_is;
  makes = t.makes;
  state = t.state;
}

passes_more : (stop : Option ℕ) (first : Turn) (start : ProcessorState) (trace : List Made) (at : Turn) (now : ProcessorState) (made : Made)
    (new : ProcessorState) → Passes stop first start trace at now → DriveTakes at made now new → meets_break stop now.core.state made.move ≡ false
    → Passes stop first start (trace ++ made ∷ []) (next_turn at now made) new
unfolding Passes
passes_more stop first start [] at now made new (same, here) takes free =
    let P : Turn → ProcessorState → Type 0 = λ q b. DriveTakes q made b new × (meets_break stop b.core.state made.move ≡ false)
    × (next_turn at now made ≡ next_turn q b made) in
    let k : P first start = subst (λ (b : ProcessorState). P first b) here (subst (λ (q : Turn). P q now) same (takes, free, refl)) in
    (new, k.0, k.1, (k.2, refl))
passes_more stop first start (one ∷ trace) at now made new (next, t, f, more) takes free =
    (next, t, f, passes_more stop (next_turn first start one) next trace at now made new more takes free)

-- the lines with one more move
retirements_more : (trace : List Made) (made : Made) → retirements (trace ++ made ∷ []) ≡ retirements trace ++ retirement made.state.retired made.event
unfolding retirements
retirements_more [] made = append-nil (retirement made.state.retired made.event)
retirements_more (first ∷ trace) made =
    ap (λ (lines : List ℕ). retirement first.state.retired first.event ++ lines) (retirements_more trace made)
    ∙ sym (append_assoc (retirement first.state.retired first.event) (retirements trace) (retirement made.state.retired made.event))

one_more : (trace : List Made) (made : Made) → length (trace ++ made ∷ []) ≡ length trace + 1
one_more trace made = length-append trace (made ∷ [])

-- one more move
pub comes-more : (stop : Option ℕ) (start now new : ProcessorState) (held later : Turn) (written between after : Option (List ℕ)) (count : ℕ) (last : Bool) →
    last ≡ false → Comes stop start now held written between count → Steers stop held later now new between after (Ok last)
    → Comes stop start new later written after (count + 1)
unfolding Steers
comes-more stop start now new held later written between after count last goes_on c (made, takes, free, next, put) =
    let taken = took stop start now new held written between count made c takes in
    let plan : new.core.plan ≡ now.core.plan = takes.makes.makes.plan in
    let P : List ℕ → Type 0 = λ lines. Writes written after lines in
    record {
      trace = c.trace ++ made ∷ [];
      at = next_turn c.at now made;
      passes = passes_more stop first_auto_turn start c.trace c.at now made new c.passes taken (free ∙ goes_on);
      rule = next.rule ∙ c.rule;
      policy = next.policy ∙ onward_same stop start now held written between count c;
      count_is = next.count ∙ ap (λ (n : ℕ). stopped now.core.plan.stages (paced n made.move made.event (is_drained made.state))) c.count_is
          ∙ paced-stopped now.core.plan.stages c.at.count made.move made.event (is_drained made.state)
          ∙ ap (λ (p : Plan). stopped p.stages (paced c.at.count made.move made.event (is_drained made.state))) (sym plan);
      many = ap (λ (n : ℕ). n + 1) c.many ∙ sym (one_more c.trace made);
      put = subst P (sym (retirements_more c.trace made)) (writes-again written between after (retirements c.trace)
          (retirement made.state.retired made.event) c.put put);
    }

-- it stays on its run
pub steers-stands : (stop : Option ℕ) (at later : Turn) (now new : ProcessorState) (written after : Option (List ℕ)) (last : Bool) →
    StandsSomewhere now.core now.ring → Steers stop at later now new written after (Ok last) → StandsSomewhere new.core new.ring
unfolding Steers
steers-stands stop at later now new written after last h (made, takes, hit, next, put) = makes-somewhere made.move made.event now new h takes.makes

-- the number of stages stays
pub steers-plan : (stop : Option ℕ) (at later : Turn) (now new : ProcessorState) (written after : Option (List ℕ)) (last : Bool) →
    Steers stop at later now new written after (Ok last) → new.core.plan ≡ now.core.plan
unfolding Steers
steers-plan stop at later now new written after last (made, takes, hit, next, put) = takes.makes.makes.plan

-- Ends --

ends_here : (trace : List Made) → trace ++ [] ≡ trace
ends_here trace = append-nil trace

-- enough moves were made, or the run is over
pub drives-over : (n : ℕ) (stop : Option ℕ) (start now : ProcessorState) (held : Turn) (written after : Option (List ℕ)) (count : ℕ) → count ≤ n →
    Comes stop start now held written after count → (count ≡ n) ⊎ (GoesOn most_retired now.core.state → ⊥) → DrivesOut n stop start now written after (Ok count)
unfolding DrivesOut
drives-over n stop start now held written after count few c why =
    let why_there : (length c.trace ≡ n) ⊎ (GoesOn most_retired now.core.state → ⊥) = subst (λ (k : ℕ). (k ≡ n)
    ⊎ (GoesOn most_retired now.core.state → ⊥)) c.many why in (
      retirements c.trace,
      record {
        trace = c.trace;
        at = c.at;
        now = now;
        passes = c.passes;
        within = omega (arith, few, c.many);
        last = [];
        pauses = (refl, why_there);
        count_is = c.many ∙ ap length (sym (ends_here c.trace));
        lines_are = ap retirements (sym (ends_here c.trace));
      },
      c.put,
    )

-- there are enough
pub drives-enough : (n : ℕ) (stop : Option ℕ) (start now : ProcessorState) (held : Turn) (written after : Option (List ℕ)) (count : ℕ) → count ≤ n → n ≤ count →
    Comes stop start now held written after count → DrivesOut n stop start now written after (Ok n)
drives-enough n stop start now held written after count few many c =
    let all : count ≡ n = omega (arith, few, many) in
    subst (λ (k : ℕ). DrivesOut n stop start now written after (Ok k)) all (drives-over n stop start now held written after count few c (inl all))

-- an instruction at the break address was issued
pub drives-break : (n : ℕ) (stop : Option ℕ) (start now new : ProcessorState) (held later : Turn) (written between after : Option (List ℕ)) (count : ℕ)
    (last : Bool) → last ≡ true → count < n → Comes stop start now held written between count → Steers stop held later now new between after (Ok last) →
    DrivesOut n stop start new written after (Ok (count + 1))
unfolding DrivesOut Steers
drives-break n stop start now new held later written between after count last is_last few c (made, takes, hit, next, put) =
    let P : List ℕ → Type 0 = λ lines. Writes written after lines in (
      retirements (c.trace ++ made ∷ []),
      record {
        trace = c.trace;
        at = c.at;
        now = now;
        passes = c.passes;
        within = omega (arith, few, c.many);
        last = made ∷ [];
        pauses = (omega (arith, few, c.many), took stop start now new held written between count made c takes, hit ∙ is_last);
        count_is = ap (λ (k : ℕ). k + 1) c.many ∙ sym (one_more c.trace made);
        lines_are = refl;
      },
      subst P (sym (retirements_more c.trace made)) (writes-again written between after (retirements c.trace)
          (retirement made.state.retired made.event) c.put put),
    )

-- the report failed after a move
pub drives-unshown : (n : ℕ) (stop : Option ℕ) (start now new : ProcessorState) (held later : Turn) (written between after : Option (List ℕ)) (count : ℕ) →
    count < n → Comes stop start now held written between count → Steers stop held later now new between after (Err broken.Report) →
    DrivesOut n stop start new written after (Err broken.Report)
unfolding DrivesOut Steers
drives-unshown n stop start now new held later written between after count few c (made, takes, put) =
    let P : List ℕ → Type 0 = λ lines. WritesFront written after lines in (
      retirements (c.trace ++ made ∷ []),
      record {
        trace = c.trace;
        at = c.at;
        now = now;
        passes = c.passes;
        below = omega (arith, few, c.many);
        made = made;
        takes = took stop start now new held written between count made c takes;
        lines_are = refl;
      },
      subst P (sym (retirements_more c.trace made)) (front-again written between after (retirements c.trace)
          (retirement made.state.retired made.event) c.put put),
    )

-- the output failed a move
pub drives-aground : (n : ℕ) (stop : Option ℕ) (start now new : ProcessorState) (held later : Turn) (written between after : Option (List ℕ)) (count : ℕ) →
    count < n → Comes stop start now held written between count → Steers stop held later now new between after (Err broken.Output) →
    DrivesOut n stop start new written after (Err broken.Output)
unfolding DrivesOut Steers
drives-aground n stop start now new held later written between after count few c (goes, is, fails, same) = (
  retirements c.trace,
  record {
    trace = c.trace;
    at = c.at;
    now = now;
    passes = c.passes;
    below = omega (arith, few, c.many);
    goes = goes;
    pick_is = sym (picks_same stop start now held written between count c) ∙ is;
    fails = fails;
    lines_are = refl;
  },
  subst (λ (o : Option (List ℕ)). Writes written o (retirements c.trace)) (sym same) c.put,
)

-- whichever of the two failed
pub drives-broken : (n : ℕ) (stop : Option ℕ) (start now new : ProcessorState) (held later : Turn) (written between after : Option (List ℕ)) (count : ℕ)
    (b : Broken) → count < n → Comes stop start now held written between count → Steers stop held later now new between after (Err b) →
    DrivesOut n stop start new written after (Err b)
drives-broken n stop start now new held later written between after count broken.Report few c s =
    drives-unshown n stop start now new held later written between after count few c s
drives-broken n stop start now new held later written between after count broken.Output few c s =
    drives-aground n stop start now new held later written between after count few c s
