-- The move that finishes earliest is an Issue or the first of the other moves.
use Rattle.std.proofs.Common.{◌≡◌, ◌∙◌, sym, refl, ap, subst, ℕ, zero, suc, ◌+◌, ◌-◌, ◌<◌, ◌≤◌, List, [], ◌∷◌, ◌++◌, All, length, get_or, Bool, true, false, Some, None, arith}
use Rattle.std.specs.Prelude.{IfSome, Option, slice_get}
use Rattle.std.proofs.lemmas.List.Elements.{All-filter}
use Rattle.std.proofs.lemmas.Option.{get_or_from_slice_get, slice_get_within}
use Rattle.run_options.specs.declared.guess_rule.GuessRule.{GuessRule}
use Rattle.cf_layout.specs.Layout.{Plan}
use Rattle.cf_bind.specs.declared.moves.Move.{Move}
use Rattle.cf_bind.specs.declared.moves.Move.TheVariants.{Issue}
use Rattle.cf_bind.specs.declared.passenger.Guess.{Guess}
use Rattle.cf_bind.specs.declared.passenger.Guess.TheVariants.{Next, Taken, Wait}
use Rattle.cf_semantics.specs.state.State.{State}
use Rattle.cf_index.specs.Allowed.{allowed_issues, allowed_others, is_allowed, kept_issues, unheld_issues, withheld}
use Rattle.cf_index.specs.GuessRules.{guided, keeps_move}
use Rattle.cf_index.proofs.Firsts.{guided_parts}
use Rattle.cf_index.proofs.Others.{withheld_others}
use Rattle.cf_index.proofs.Parts.{beyond}
use Rattle.cf_sched.specs.Paces.{PaceCount, holds_issue, offers}
use Rattle.cf_timed.specs.Clocks.{ClockedState, capped, delay_by, finish_time}
use Rattle.cf_timed.specs.Delays.{span_of}
use Rattle.cf_timed.specs.DelayedRuns.{class_of_move}
use Rattle.cf_timed.specs.Drawing.{stream_of}
use Rattle.cf_timed.specs.Earliest.{first_least}
use Rattle.cf_timed.specs.DueMoves.{AreDue, KeptMoves}
use Rattle.cf_timed.specs.Soonest.{AreLater, IsFirstDue, IsIssueBy, IsSoonest, IsTimed}
use Rattle.cf_timed.specs.declared.soonest.Due.{Due}
use Rattle.cf_timed.proofs.DueMoves.{first_due, first_still}
use Rattle.cf_timed.proofs.Leasts.{IsFirst, least-after, least-front, least-of_all}

-- all Issues use the same sites and are of one kind
pub issue_time : (c : ClockedState) (g : Guess) → capped c (Issue g) ≡ capped c (Issue Next)
unfolding finish_time delay_by span_of class_of_move stream_of
issue_time c g = refl

issue_delay : (c : ClockedState) (g : Guess) → delay_by c (Issue g) ≡ delay_by c (Issue Next)
unfolding delay_by span_of class_of_move stream_of
issue_delay c g = refl

all_issues : (f : Move → ℕ) → ((g : Guess) → f (Issue g) ≡ f (Issue Next)) → All (λ mv. f mv ≡ f (Issue Next)) (Issue Next ∷ Issue Taken ∷ Issue Wait ∷ [])
all_issues f same zero d below = same Next
all_issues f same (suc zero) d below = same Taken
all_issues f same (suc (suc zero)) d below = same Wait
all_issues f same (suc (suc (suc k))) d below = absurd (omega arith)

kept_same : (f : Move → ℕ) → ((g : Guess) → f (Issue g) ≡ f (Issue Next)) → (r : GuessRule) (plan : Plan) (s : State) →
    All (λ mv. f mv ≡ f (Issue Next)) (kept_issues r plan s)
kept_same f same r plan s =
    let P : Move → Type 0 = λ mv. f mv ≡ f (Issue Next) in
    All-filter (keeps_move r plan s) P (allowed_issues plan s)
    (All-filter (is_allowed plan s) P (Issue Next ∷ Issue Taken ∷ Issue Wait ∷ []) (all_issues f same))

each_issue : (c : ClockedState) (r : GuessRule) (plan : Plan) (s : State) → All (λ mv. capped c mv ≡ capped c (Issue Next)) (kept_issues r plan s)
each_issue c r plan s = kept_same (capped c) (issue_time c) r plan s

first_same : (f : Move → ℕ) → ((g : Guess) → f (Issue g) ≡ f (Issue Next)) → (r : GuessRule) (plan : Plan) (s : State) (mv : Move) →
    Some mv ≡ slice_get (kept_issues r plan s) 0 → f mv ≡ f (Issue Next)
first_same f same r plan s mv at =
    ap f (sym (get_or_from_slice_get (kept_issues r plan s) 0 mv mv (sym at)))
    ∙ kept_same f same r plan s 0 mv (slice_get_within (kept_issues r plan s) 0 mv (sym at))

-- no Issue finishes by the time
pub none_held : (c : ClockedState) (r : GuessRule) (plan : Plan) (s : State) (held : Bool) (by : ℕ) → held ≡ true → AreLater c (unheld_issues held r plan s) by
none_held c r plan s true by e = λ k d below. absurd (omega arith)
none_held c r plan s false by e = absurd (cc)

pub none_sooner : (c : ClockedState) (r : GuessRule) (plan : Plan) (s : State) (held : Bool) (by time : ℕ) → time ≡ capped c (Issue Next) → by < time →
    AreLater c (unheld_issues held r plan s) by
none_sooner c r plan s true by time e less = λ k d below. absurd (omega arith)
none_sooner c r plan s false by time e less = λ k d below. let same = each_issue c r plan s k d below in omega (arith, same, e, less)

pub none_allowed : (c : ClockedState) (r : GuessRule) (plan : Plan) (s : State) (held : Bool) (by : ℕ) → unheld_issues held r plan s ≡ [] →
    AreLater c (unheld_issues held r plan s) by
none_allowed c r plan s held by none = subst (λ (xs : List Move). AreLater c xs by) (sym none) (λ k d below. absurd (omega arith))

pub none_there : (c : ClockedState) (r : GuessRule) (plan : Plan) (s : State) (held : Bool) (by : ℕ) → None ≡ slice_get (kept_issues r plan s) 0 →
    AreLater c (unheld_issues held r plan s) by
none_there c r plan s true by e = λ k d below. absurd (omega arith)
none_there c r plan s false by e = none (kept_issues r plan s) e
  where
    none : (xs : List Move) → None ≡ slice_get xs 0 → AreLater c xs by
    none [] e = λ k d below. absurd (omega arith)
    none (x ∷ xs) e = absurd (cc)

-- an Issue finishes by the time
pub issue_there : (c : ClockedState) (r : GuessRule) (plan : Plan) (s : State) (held : Bool) (by : ℕ) (next : Due) (mv : Move) → next.mv ≡ Issue Next →
    IsTimed c next → held ≡ false → next.time ≤ by → Some mv ≡ slice_get (kept_issues r plan s) 0 →
    IsIssueBy c (unheld_issues held r plan s) by (record next { mv = mv })
issue_there c r plan s true by next mv is timed free soon at = absurd (cc)
issue_there c r plan s false by next mv is timed free soon at = record {
  mv = at;
  timed = record {
    delay = timed.delay ∙ ap (delay_by c) is ∙ sym (first_same (delay_by c) (issue_delay c) r plan s mv at);
    time = timed.time ∙ ap (capped c) is ∙ sym (first_same (capped c) (issue_time c) r plan s mv at);
  };
  soon = soon;
}

-- an Issue is first if none of the others finishes before it
front : (c : ClockedState) (xs ys : List Move) (mv : Move) → Some mv ≡ slice_get xs 0 → All (λ x. capped c x ≡ capped c mv) xs →
    ((k : ℕ) (d : Move) → k < length ys → capped c mv ≤ capped c (get_or ys k d)) → Some mv ≡ slice_get (xs ++ ys) (first_least (capped c) (xs ++ ys))
front c [] ys mv at same later = absurd (cc)
front c (x ∷ xs) ys mv at same later =
    let e = least-of_all (capped c) (x ∷ xs ++ ys) 0 (capped c mv) mv (least-front (capped c) (x ∷ xs) ys (capped c mv) (omega arith) same later) in
    rw (← e) at

pub issue_soonest : (c : ClockedState) (r : GuessRule) (plan : Plan) (s : State) (held : Bool) (by : ℕ) (due : Due) →
    ((k : ℕ) (d : Move) → k < length (allowed_others plan s) → by ≤ capped c (get_or (allowed_others plan s) k d)) →
    IsIssueBy c (unheld_issues held r plan s) by due → IsSoonest c (withheld held (guided r plan s)) due
issue_soonest c r plan s true by due bound h = let at = h.mv in absurd (cc)
issue_soonest c r plan s false by due bound h =
    let issues = kept_issues r plan s in
    let at = h.mv in
    let time = h.timed.time in
    let soon = h.soon in
    let one : capped c due.mv ≡ capped c (Issue Next) = first_same (capped c) (issue_time c) r plan s due.mv at in
    let first = front c issues (allowed_others plan s) due.mv at (λ k d below. each_issue c r plan s k d below ∙ sym one)
    (λ k d below. let b = bound k d below in omega (arith, b, time, soon)) in
    record { mv = rw (guided_parts r plan s) first; timed = h.timed }

-- and otherwise the first of the others is
other_soonest : (c : ClockedState) (r : GuessRule) (plan : Plan) (s : State) (held : Bool) (by : ℕ) (due : Due) →
    IsFirst (capped c) (allowed_others plan s) by due.mv → AreLater c (unheld_issues held r plan s) by → IsTimed c due →
    IsSoonest c (withheld held (guided r plan s)) due
other_soonest c r plan s held by due found later timed =
    let others = allowed_others plan s in
    let issues = unheld_issues held r plan s in
    let w = found.is_least.within in
    let parts = withheld_others r plan s held (omega (arith, w)) in
    let place = least-of_all (capped c) (issues ++ others) (length issues + found.place) by due.mv
    (least-after (capped c) issues others found.place by later found.is_least) in
    let at = beyond issues others (length issues) (length issues + found.place) due.mv refl (omega arith)
    (rw (past (length issues) found.place) (sym found.there)) in
    record { mv = rw (parts, ← place) at; timed = timed }
  where
    past : (n k : ℕ) → n + k - n ≡ k
    past n k = omega arith

pub kept_soonest : (c : ClockedState) (r : GuessRule) (plan : Plan) (held : Bool) (kept : KeptMoves) (o : Option Due) → AreDue plan c kept →
    IfSome o (λ due. IsFirstDue c kept due) → AreLater c (unheld_issues held r plan c.state) kept.time →
    IfSome o (λ due. IsSoonest c (withheld held (guided r plan c.state)) due)
kept_soonest c r plan held kept None right first later = tt
kept_soonest c r plan held kept (Some due) right first later =
    let found = first_due plan c kept due.mv right (first_still c.clock kept due.mv first.mv first.begins) in
    other_soonest c r plan c.state held kept.time due found later (record { delay = first.delay; time = first.time ∙ sym found.is })

-- what is offered, whether or not Issue is held back
pub soonest_offered : (c : ClockedState) (count : PaceCount) (r : GuessRule) (plan : Plan) (s : State) (held : Bool) (due : Due) → r ≡ count.rule →
    held ≡ holds_issue count →
    IsSoonest c (withheld held (guided r plan s)) due → IsSoonest c (offers count plan s) due
unfolding offers
soonest_offered c count r plan s held due same is h = rw (same, is) at h

pub ruleset issue_due = (none_held, none_sooner, none_there)
