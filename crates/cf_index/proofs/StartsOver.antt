-- If the search starts over and no Issue is offered, the first allowed move is picked.
use Rattle.std.proofs.Common.{◌≡◌, ◌≢◌, ◌∙◌, sym, refl, ap, ℕ, zero, suc, ◌≤◌, List, [], ◌∷◌, ◌++◌, Bool, true, false, cond, Option, Some, None, arith}
use Rattle.std.specs.Prelude.{filter, find, not, slice_get}
use Rattle.std.proofs.lemmas.Option.{slice_get_within}
use Rattle.run_options.specs.declared.guess_rule.GuessRule.{GuessRule}
use Rattle.cf_layout.specs.Layout.{Plan}
use Rattle.cf_bind.specs.declared.cell.Cell.{Cell}
use Rattle.cf_bind.specs.declared.moves.Bar.{Bar}
use Rattle.cf_bind.specs.declared.moves.Bar.TheVariants.{Failed, Halted, NoSuchSite}
use Rattle.cf_bind.specs.declared.moves.Move.{Move}
use Rattle.cf_bind.specs.declared.moves.Move.TheVariants.{Issue, Emit}
use Rattle.cf_bind.specs.declared.packet.Fetch.{Fetch}
use Rattle.cf_bind.specs.declared.packet.Fetch.TheVariants.{Running, Waiting}
use Rattle.cf_bind.specs.declared.passenger.Guess.{Guess}
use Rattle.cf_bind.specs.declared.passenger.Guess.TheVariants.{Next, Taken, Wait}
use Rattle.cf_semantics.specs.claims.Weight.{is_issue}
use Rattle.cf_semantics.specs.moves.Bars.{bar, first, issue_bar}
use Rattle.cf_semantics.specs.moves.Candidates.{candidates, other_moves}
use Rattle.cf_semantics.specs.state.Options.{on, is_some}
use Rattle.cf_semantics.specs.state.State.{State, cell_at}
use Rattle.cf_semantics.specs.moves.Moves.{moved}
use Rattle.theory_refinement.proofs.moves.Issue.{issue_ready, next_issue}
use Rattle.theory_refinement.proofs.moves.Rows.{bar_row}
use Rattle.cf_stages.specs.Changes.{passenger_at}
use Rattle.cf_index.specs.declared.rank.Rank.{Rank}
use Rattle.cf_index.specs.Allowed.{all_passing, allowed_issues, allowed_others, is_allowed, is_running, kept_issues, unheld_issues, withheld}
use Rattle.cf_index.specs.GuessRules.{guided, keeps_move}
use Rattle.cf_index.specs.Order.{first_after, is_after, kind_place, slide_place}
use Rattle.cf_index.specs.PickedFrom.{IsLast, IsPicked, IsPickedFrom, from_climb, from_emit, outward_on}
use Rattle.cf_index.specs.Ranks.{is_past, rank_of}
use Rattle.cf_index.proofs.AllowedWords.{climb-on}
use Rattle.cf_index.proofs.Firsts.{first_issue, others_are, unissued, wrapped}
use Rattle.cf_index.proofs.Guided.{allowed-issue}
use Rattle.cf_index.proofs.Others.{withheld_others}
use Rattle.cf_index.proofs.PickedFrom.{last_is}
use Rattle.cf_index.proofs.Ranks.{found_rank}

-- No Issue --

-- an instruction in the lowest stage bars each Issue, and so does fetch if it waits
row_waiting : (plan : Plan) (s : State) (c : Cell) (f : Fetch) → s.fetch ≡ f → is_running f ≡ false → not (is_some (issue_bar plan s Next c)) ≡ false
row_waiting plan s c (Running pc) is waits = absurd (cc)
row_waiting plan s c Waiting is waits = rw is refl

row_taken : (plan : Plan) (s : State) (c : Cell) (f : Fetch) → s.fetch ≡ f → not (is_some c.passenger) ≡ false → not (is_some (issue_bar plan s Next c)) ≡ false
row_taken plan s c Waiting is taken = rw is refl
row_taken plan s c (Running pc) is taken = rw (is, there (is_some c.passenger) taken) refl
  where
    there : (b : Bool) → not b ≡ false → b ≡ true
    there true e = refl
    there false e = absurd (cc)

barred_by : (ended failed : Bool) (b : Option Bar) → not (is_some b) ≡ false → not (is_some (first ended Halted (first failed Failed b))) ≡ false
barred_by true failed b e = refl
barred_by false true b e = refl
barred_by false false b e = e

next_barred : (plan : Plan) (s : State) → ((c : Cell) → not (is_some (issue_bar plan s Next c)) ≡ false) → is_allowed plan s (Issue Next) ≡ false
unfolding bar
next_barred plan s row = barred_by (is_some s.ending) s.failed _ (of (cell_at s.cells 1))
  where
    of : (o : Option Cell) → not (is_some (on o (Some NoSuchSite) (issue_bar plan s Next))) ≡ false
    of None = refl
    of (Some c) = row c

waiting_barred : (plan : Plan) (s : State) → is_running s.fetch ≡ false → is_allowed plan s (Issue Next) ≡ false
waiting_barred plan s waits = next_barred plan s (λ c. row_waiting plan s c s.fetch refl waits)

taken_barred : (plan : Plan) (s : State) → not (is_some (passenger_at s.cells 1)) ≡ false → is_allowed plan s (Issue Next) ≡ false
unfolding bar
taken_barred plan s taken = barred_by (is_some s.ending) s.failed _ (of (cell_at s.cells 1) taken)
  where
    of : (o : Option Cell) → not (is_some (on o None (λ d. d.passenger))) ≡ false → not (is_some (on o (Some NoSuchSite) (issue_bar plan s Next))) ≡ false
    of None e = refl
    of (Some c) e = row_taken plan s c s.fetch refl e

-- then none is allowed by another guess either, and none is kept
barred_guess : (plan : Plan) (s : State) (g : Guess) → is_allowed plan s (Issue Next) ≡ false → is_allowed plan s (Issue g) ≡ false
barred_guess plan s g barred = allowed-issue plan s g ∙ rw barred refl

none_kept : (rule : GuessRule) (plan : Plan) (s : State) → is_allowed plan s (Issue Next) ≡ false → kept_issues rule plan s ≡ []
none_kept rule plan s barred = rw (barred, barred_guess plan s Taken barred, barred_guess plan s Wait barred) refl

none_unheld : (rule : GuessRule) (plan : Plan) (s : State) (held : Bool) → is_allowed plan s (Issue Next) ≡ false → unheld_issues held rule plan s ≡ []
none_unheld rule plan s true barred = refl
none_unheld rule plan s false barred = none_kept rule plan s barred

pub none_held : (rule : GuessRule) (plan : Plan) (s : State) (held : Bool) → held ≡ true → unheld_issues held rule plan s ≡ []
none_held rule plan s held is = rw is refl

pub none_waiting : (rule : GuessRule) (plan : Plan) (s : State) (held runs : Bool) → runs ≡ is_running s.fetch → runs ≡ false →
    unheld_issues held rule plan s ≡ []
none_waiting rule plan s held runs is off = none_unheld rule plan s held (waiting_barred plan s (sym is ∙ off))

pub none_taken : (rule : GuessRule) (plan : Plan) (s : State) (held free : Bool) → free ≡ not (is_some (passenger_at s.cells 1)) → not free ≡ true →
    unheld_issues held rule plan s ≡ []
none_taken rule plan s held free is off = none_unheld rule plan s held (taken_barred plan s (sym is ∙ unset free off))
  where
    unset : (b : Bool) → not b ≡ true → b ≡ false
    unset true e = absurd (cc)
    unset false e = refl

pub ruleset issuing_none = (none_held, none_waiting, none_taken)

-- The first of the others --

-- what is allowed from Emit on is what is allowed, except for each Issue
from_emit_on : (plan : Plan) (s : State) → plan.stages ≤ 32 → from_emit plan s ≡ allowed_others plan s
unfolding from_emit from_climb
from_emit_on plan s few = ap (λ (xs : List Move). filter (is_allowed plan s) (Emit ∷ []) ++ (xs ++ outward_on plan s)) (climb-on plan s few)

-- none of them is an Issue
head_step : (b : Bool) (x mv : Move) (ys : List Move) → is_issue x ≡ b → (slice_get ys 0 ≡ Some mv → is_issue mv ≡ false) →
    slice_get (cond (not b) (x ∷ ys) ys) 0 ≡ Some mv → is_issue mv ≡ false
head_step true x mv ys e rest at = rest at
head_step false x mv ys e rest at = let is : x ≡ mv = cc in sym (ap is_issue is) ∙ e

head_other : (xs : List Move) (mv : Move) → slice_get (other_moves xs) 0 ≡ Some mv → is_issue mv ≡ false
head_other [] mv e = absurd (cc)
head_other (x ∷ xs) mv e = head_step (is_issue x) x mv (other_moves xs) refl (head_other xs mv) e

other_first : (plan : Plan) (s : State) (mv : Move) → slice_get (allowed_others plan s) 0 ≡ Some mv → is_issue mv ≡ false
other_first plan s mv e = head_other (candidates plan s) mv (ap (λ (xs : List Move). slice_get xs 0) (others_are plan s) ∙ e)

-- if no Issue is offered, the others are offered
offered_others : (rule : GuessRule) (held : Bool) (plan : Plan) (s : State) (mv : Move) → unheld_issues held rule plan s ≡ [] →
    slice_get (allowed_others plan s) 0 ≡ Some mv → withheld held (guided rule plan s) ≡ allowed_others plan s
offered_others rule held plan s mv none at =
    withheld_others rule plan s held (slice_get_within (allowed_others plan s) 0 mv at) ∙ ap (λ (xs : List Move). xs ++ allowed_others plan s) none

-- The pick --

-- the first of the others is picked after an Issue, and after a move that no other comes after
first_picked : (rule : GuessRule) (held : Bool) (plan : Plan) (s : State) (last mv : Move) → Some mv ≡ slice_get (withheld held (guided rule plan s)) 0 →
    is_issue mv ≡ false → kind_place last ≢ slide_place → (kind_place last ≢ 0 →
    find (is_past (rank_of last)) (filter (is_allowed plan s) (all_passing plan) ++ outward_on plan s) ≡ None) →
    Some mv ≡ slice_get (withheld held (guided rule plan s)) (first_after (Some last) (withheld held (guided rule plan s)))
first_picked rule held plan s last mv is other outside none = of (kind_place last) refl
  where
    of : (k : ℕ) → kind_place last ≡ k →
        Some mv ≡ slice_get (withheld held (guided rule plan s)) (first_after (Some last) (withheld held (guided rule plan s)))
    of zero e = unissued (withheld held (guided rule plan s)) last (Some mv) e is other
    of (suc k) e =
        let gone = sym (none (λ first. absurd (omega (arith, e, first)))) in
        wrapped rule plan s last held None (Some mv) (omega (arith, e)) (found_rank (rank_of last) last _ None refl (omega (arith, e)) outside gone) refl is

-- if there is no first one, there is none at all
none_of : {X : Type 0} (xs : List X) → slice_get xs 0 ≡ None → xs ≡ []
none_of [] e = refl
none_of (x ∷ xs) e = absurd (cc)

first_there : (plan : Plan) (s : State) (o : Option Move) → plan.stages ≤ 32 → slice_get (from_emit plan s) 0 ≡ o → slice_get (allowed_others plan s) 0 ≡ o
first_there plan s o few found = ap (λ (xs : List Move). slice_get xs 0) (sym (from_emit_on plan s few)) ∙ found

none_others : (plan : Plan) (s : State) (last : Option Move) → plan.stages ≤ 32 → from_emit plan s ≡ [] → IsLast plan s last
unfolding IsLast
none_others plan s last few found = ap (find (is_after last)) (sym (from_emit_on plan s few) ∙ found)

pub started : (rule : GuessRule) (held : Bool) (plan : Plan) (s : State) (last : Move) (r : Rank) → plan.stages ≤ 32 → r ≡ rank_of last →
    unheld_issues held rule plan s ≡ [] → r.kind ≢ slide_place → (r.kind ≢ 0 →
    find (is_past r) (filter (is_allowed plan s) (all_passing plan) ++ outward_on plan s) ≡ None) →
    IsPickedFrom rule held plan s (Some last) (from_emit plan s)
unfolding IsPickedFrom
started rule held plan s last r few stands none outside gone = record {
  here = λ mv found.
      let there : slice_get (allowed_others plan s) 0 ≡ Some mv = first_there plan s (Some mv) few found in
      let first = ap (λ (xs : List Move). slice_get xs 0) (offered_others rule held plan s mv none there) ∙ there in
      sym (first_picked rule held plan s last mv (sym first) (other_first plan s mv there) (rw stands at outside) (rw stands at gone));
  gone = λ found. none_others plan s (Some last) few found;
}

-- the same holds after any move but an Issue that no other comes after
pub restarted : (rule : GuessRule) (held : Bool) (plan : Plan) (s : State) (last : Move) → plan.stages ≤ 32 →
    unheld_issues held rule plan s ≡ [] → 1 ≤ kind_place last → IsLast plan s (Some last) →
    IsPickedFrom rule held plan s (Some last) (from_emit plan s)
unfolding IsPickedFrom
restarted rule held plan s last few none some over = record {
  here = λ mv found.
      let there : slice_get (allowed_others plan s) 0 ≡ Some mv = first_there plan s (Some mv) few found in
      let first = ap (λ (xs : List Move). slice_get xs 0) (offered_others rule held plan s mv none there) ∙ there in
      sym (wrapped rule plan s last held None (Some mv) some (sym (last_is plan s last some over)) refl (sym first));
  gone = λ found. over;
}

-- an Issue is picked there, if one is offered
pub issue_picked : (rule : GuessRule) (held : Bool) (plan : Plan) (s : State) (last mv : Move) (o : Option Move) → held ≡ false →
    o ≡ slice_get (kept_issues rule plan s) 0 → o ≡ Some mv → 1 ≤ kind_place last → IsLast plan s (Some last) → IsPicked rule held plan s (Some last) mv
issue_picked rule held plan s last mv o free first is some over =
    sym (wrapped rule plan s last held None (Some mv) some (sym (last_is plan s last some over)) refl (first_issue rule plan s held mv o free first is))

-- each of the Issues is an Issue
AreIssues : List Move → Type 0
AreIssues [] = Unit {0}
AreIssues (x ∷ xs) = (kind_place x ≡ 0) × AreIssues xs

issues_step : (b : Bool) (x : Move) (xs : List Move) → kind_place x ≡ 0 → AreIssues xs → AreIssues (cond b (x ∷ xs) xs)
unfolding AreIssues
issues_step true x xs e rest = (e, rest)
issues_step false x xs e rest = rest

issues_kept : (q : Move → Bool) (xs : List Move) → AreIssues xs → AreIssues (filter q xs)
unfolding AreIssues
issues_kept q [] all = tt
issues_kept q (x ∷ xs) all = issues_step (q x) x (filter q xs) all.0 (issues_kept q xs all.1)

issues_first : (xs : List Move) (mv : Move) → AreIssues xs → slice_get xs 0 ≡ Some mv → kind_place mv ≡ 0
unfolding AreIssues
issues_first [] mv all at = absurd (cc)
issues_first (x ∷ xs) mv all at = let is : x ≡ mv = cc in sym (ap kind_place is) ∙ all.0

pub issue_kind : (rule : GuessRule) (plan : Plan) (s : State) (o : Option Move) (mv : Move) → o ≡ slice_get (kept_issues rule plan s) 0 → o ≡ Some mv →
    kind_place mv ≡ 0
unfolding AreIssues
issue_kind rule plan s o mv first is =
    issues_first (kept_issues rule plan s) mv
    (issues_kept (keeps_move rule plan s) (allowed_issues plan s)
    (issues_kept (is_allowed plan s) (Issue Next ∷ Issue Taken ∷ Issue Wait ∷ []) (refl, (refl, (refl, tt)))))
    (sym first ∙ is)

-- if none is offered, the search starts over without one
none_offered : (rule : GuessRule) (plan : Plan) (s : State) (held : Bool) (o : Option Move) → held ≡ false → o ≡ slice_get (kept_issues rule plan s) 0 →
    o ≡ None → unheld_issues held rule plan s ≡ []
none_offered rule plan s held o free first is = rw free (none_of (kept_issues rule plan s) (sym first ∙ is))

pub issue_none : (rule : GuessRule) (held : Bool) (plan : Plan) (s : State) (last : Move) (o : Option Move) → plan.stages ≤ 32 → held ≡ false →
    o ≡ slice_get (kept_issues rule plan s) 0 → o ≡ None → 1 ≤ kind_place last → IsLast plan s (Some last) →
    IsPickedFrom rule held plan s (Some last) (from_emit plan s)
issue_none rule held plan s last o few free first is some over =
    restarted rule held plan s last few (none_offered rule plan s held o free first is) some over

-- After an Issue --

-- the instruction that was issued is in the lowest stage
taken_by : (plan : Plan) (s : State) (g : Guess) → bar plan s (Issue g) ≡ None → not (is_some (passenger_at (moved plan s (Issue g)).cells 1)) ≡ false
taken_by plan s g free =
    let r = issue_ready plan s g (bar_row plan s (Issue g) free) in
    rw (next_issue plan s g r.here r.others r.pc _ r.cells r.runs refl) refl

-- so no other is offered, and the first of all other moves is picked
pub issued_on : (rule : GuessRule) (held : Bool) (plan : Plan) (s : State) (last : Move) → plan.stages ≤ 32 → kind_place last ≡ 0 → bar plan s last ≡ None →
    IsPickedFrom rule held plan (moved plan s last) (Some last) (from_emit plan (moved plan s last))
issued_on rule held plan s (Issue g) few is free =
    let new = moved plan s (Issue g) in
    started rule held plan new (Issue g) (rank_of (Issue g)) few refl (none_unheld rule plan new held (taken_barred plan new (taken_by plan s g free)))
    (λ e. absurd (omega (arith, e))) (λ some. absurd (some refl))
issued_on rule held plan s last few is free = absurd (omega (arith, is))
