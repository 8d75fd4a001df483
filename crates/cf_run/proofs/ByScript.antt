-- The run of a script reaches some RunPlace by its first moves, as many as were counted, whatever stops it there.
use Rattle.std.proofs.Common.{◌≡◌, ℕ, List, [], ◌∷◌, ◌++◌, Some, None, Err, sym, ap, subst, ◌∙◌, inl, inr}
use Rattle.std.specs.Prelude.{◌⊎◌}
use Rattle.run_options.specs.declared.reporting.Reporting.{Reporting}
use Rattle.cf_layout.specs.Accepted.{IsAccepted}
use Rattle.cf_bind.specs.declared.moves.Move.{Move}
use Rattle.run_finishes.specs.declared.finish.Ran.TheVariants as ran
use Rattle.run_finishes.specs.declared.finish.Scripted.{Scripted}
use Rattle.run_finishes.specs.declared.finish.Scripted.TheVariants.{Ran, ScriptEnd, BadScript, BarredAt}
use Rattle.cf_run.specs.Headline.{StopsAt, Gets}
use Rattle.cf_run.specs.Made.{moves_of, tally_of}
use Rattle.cf_run.specs.Moving.{RunPlace, FailsBefore, MoveDoes, shown_of}
use Rattle.cf_run.specs.Scripts.{ScriptRun, Follows, DoesLine, ScriptTries, ScriptStops, first_moves}
use Rattle.cf_run.proofs.Runs.{moves-more, followed-more, followed-trace}
use Rattle.cf_run.proofs.Stopping.{ComesTo, comes_here, comes_over, comes_unread, comes_unwritten, comes_unshown, comes_unpassed, filled, shown_too}

-- the moves that lead to a ScriptRun are the first of the script, as many as were counted
followed_moves : (limit : ℕ) (shows : Reporting) (begin now : ScriptRun) (f : Follows limit shows begin now) →
    moves_of f.reaches.trace ≡ first_moves begin.script now.place.tally
unfolding tally_of
followed_moves limit shows begin now f = rw f.reaches.tally f.moves

-- the same moves by the count of another RunPlace that has counted the same number
by_count : (limit : ℕ) (shows : Reporting) (begin now new : ScriptRun) (answer : Scripted) (f : Follows limit shows begin now) →
    new.place.tally ≡ now.place.tally →
    ComesTo limit shows begin.place (moves_of f.reaches.trace) new.place answer → ComesTo limit shows begin.place
    (first_moves begin.script new.place.tally) new.place answer
by_count limit shows begin now new answer f same c =
    subst (λ (moves : List Move). ComesTo limit shows begin.place moves new.place answer) (followed_moves limit shows begin now f
    ∙ ap (first_moves begin.script) (sym same)) c

-- a run of a script that does not go on
stays_there : (limit : ℕ) (shows : Reporting) (begin now new : ScriptRun) (answer : Scripted) (f : Follows limit shows begin now) → new.place ≡ now.place →
    ComesTo limit shows begin.place (moves_of f.reaches.trace) new.place answer → ComesTo limit shows begin.place
    (first_moves begin.script new.place.tally) new.place answer
stays_there limit shows begin now new answer f same c = by_count limit shows begin now new answer f (ap (λ (p : RunPlace). p.tally) same) c

-- the last move, after which the report failed, is the next of the script
unshown_moves : (limit : ℕ) (shows : Reporting) (begin now new : ScriptRun) (f : Follows limit shows begin now)
    (t : ScriptTries limit shows now new (Some (Ran ran.ReportFault))) → MoveDoes shows t.move now.place new.place (Err ran.ReportFault) →
    moves_of f.reaches.trace ++ t.move ∷ [] ≡ first_moves begin.script new.place.tally
unfolding DoesLine MoveDoes
unshown_moves limit shows begin now new f t after =
    let full : RunPlace = record new.place { report = filled now.place.report (shown_of shows t.move after.0 now.place new.place) } in
    let there : ScriptRun = record { place = full; script = new.script } in
    let tries : ScriptTries limit shows now there None = record {
      goes = t.goes;
      line = t.line;
      move = t.move;
      next = t.next;
      script = t.script;
      does =
          (after.0, shown_too shows t.move after.0 now.place new.place after.1.makes);
    } in
    let made = followed-trace limit shows begin now there f tries in
    sym (ap moves_of made.2 ∙ moves-more f.reaches.trace made.0 ∙ ap (λ (mv : Move). moves_of f.reaches.trace ++ mv ∷ []) made.1)
    ∙ followed_moves limit shows begin there (followed-more limit shows begin now there f tries)

-- a run of a script that stops because its report failed, after its last move or before a further one
reported_there : (limit : ℕ) (shows : Reporting) (begin now new : ScriptRun) (f : Follows limit shows begin now)
    (t : ScriptTries limit shows now new (Some (Ran ran.ReportFault))) →
    MoveDoes shows t.move now.place new.place (Err ran.ReportFault) ⊎ FailsBefore t.move now.place new.place →
    ComesTo limit shows begin.place (first_moves begin.script new.place.tally) new.place (Ran ran.ReportFault)
reported_there limit shows begin now new f t (inl after) =
    subst (λ (moves : List Move). ComesTo limit shows begin.place moves new.place (Ran ran.ReportFault)) (unshown_moves limit shows begin now new f t after)
    (comes_unshown limit shows begin.place now.place new.place t.move f.reaches t.goes.below after)
reported_there limit shows begin now new f t (inr before) =
    by_count limit shows begin now new (Ran ran.ReportFault) f before.tally
    (comes_unpassed limit shows begin.place now.place new.place t.move f.reaches before)

-- whatever stops it, a run of a script reached some RunPlace and stopped there
pub comes-to : (limit : ℕ) (shows : Reporting) (begin now new : ScriptRun) (answer : Scripted) → IsAccepted begin.place.core.plan →
    Follows limit shows begin now →
    ScriptStops limit shows now new answer → ComesTo limit shows begin.place (first_moves begin.script new.place.tally) new.place answer
unfolding ScriptStops DoesLine MoveDoes StopsAt Gets
comes-to limit shows begin now new ScriptEnd accepted f stops =
    let same : new.place ≡ now.place = ap (λ (s : ScriptRun). s.place) stops.2 in
    stays_there limit shows begin now new ScriptEnd f same (comes_here limit shows begin.place now.place new.place ScriptEnd f.reaches same (λ x m h. h)
    (λ text w. w))
comes-to limit shows begin now new (BadScript refusal) accepted f stops =
    let same : new.place ≡ now.place = ap (λ (s : ScriptRun). s.place) stops.2 in
    stays_there limit shows begin now new (BadScript refusal) f same (comes_here limit shows begin.place now.place new.place (BadScript refusal) f.reaches same
    (λ x m h. h) (λ text w. w))
comes-to limit shows begin now new (BarredAt line b) accepted f stops =
    let same : new.place ≡ now.place = stops.does.2 in
    stays_there limit shows begin now new (BarredAt line b) f same (comes_here limit shows begin.place now.place new.place (BarredAt line b) f.reaches same
    (λ x m h. h) (λ text w. w))
comes-to limit shows begin now new (Ran (ran.Exit status)) accepted f stops =
    let same : new.place ≡ now.place = ap (λ (s : ScriptRun). s.place) stops.1 in
    stays_there limit shows begin now new (Ran (ran.Exit status)) f same (comes_over limit shows begin.place now.place new.place
    (ran.Exit status) f.reaches stops.0 same)
comes-to limit shows begin now new (Ran (ran.Trap cause pc detail)) accepted f stops =
    let same : new.place ≡ now.place = ap (λ (s : ScriptRun). s.place) stops.1 in
    stays_there limit shows begin now new (Ran (ran.Trap cause pc detail)) f same (comes_over limit shows begin.place now.place new.place
    (ran.Trap cause pc detail) f.reaches stops.0 same)
comes-to limit shows begin now new (Ran ran.Limit) accepted f stops =
    let same : new.place ≡ now.place = ap (λ (s : ScriptRun). s.place) stops.1 in
    stays_there limit shows begin now new (Ran ran.Limit) f same (comes_over limit shows begin.place now.place new.place ran.Limit f.reaches stops.0 same)
comes-to limit shows begin now new (Ran ran.ReadFault) accepted f stops =
    by_count limit shows begin now new (Ran ran.ReadFault) f stops.does.0.tally (comes_unread limit shows begin.place now.place new.place stops.move f.reaches
    stops.does)
comes-to limit shows begin now new (Ran ran.WriteFault) accepted f stops =
    by_count limit shows begin now new (Ran ran.WriteFault) f stops.does.0.tally (comes_unwritten limit shows begin.place now.place new.place stops.move
    accepted f.reaches stops.does)
comes-to limit shows begin now new (Ran ran.ReportFault) accepted f stops =
    reported_there limit shows begin now new f stops stops.does
