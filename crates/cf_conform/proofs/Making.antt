-- A move of a log that was made, or that the output failed.
use Rattle.std.proofs.Common.{◌≡◌, ℕ, List, [], Option, Some, None, Ok, Err, sym, ap, subst, ◌∙◌}
use Rattle.run_options.specs.Reportings as show
use Rattle.rv_machine.specs.Streams.{streams_of}
use Rattle.cf_bind.specs.declared.moves.Move.{Move}
use Rattle.cf_semantics.specs.declared.event.Event.{Event}
use Rattle.cf_core.specs.Processors.{Processor}
use Rattle.cf_report.specs.declared.tally.Tally.{Tally}
use Rattle.run_finishes.specs.declared.finish.Ran.TheVariants as ran
use Rattle.cf_run.specs.Made.{counted_event}
use Rattle.cf_run.specs.Moving.{MakesAndShows, MoveDoes, run_place_of}
use Rattle.cf_conform.specs.declared.answer.LineStop.TheVariants.{WriteFault}
use Rattle.cf_conform.specs.declared.progress.LogProgress.{LogProgress}
use Rattle.cf_conform.specs.Judging.{TriesMove}
use Rattle.cf_conform.specs.LogPlaces.{log_place, noted_event}

-- it was made, counted and noted
pub made-logged : (mv : Move) (old new : Processor) (before after : Option (List ℕ)) (p q : LogProgress) (tally : Tally) (event : Event) (retired : ℕ) →
    MoveDoes show.report mv (run_place_of old (streams_of (Some []) before) None p.tally) (run_place_of new (streams_of (Some []) after) None tally)
    (Ok event) →
    retired ≡ new.state.retired → q ≡ noted_event (record p { tally = tally }) event retired →
    TriesMove mv (log_place old before p) (log_place new after q) (Ok tt)
unfolding MoveDoes TriesMove
made-logged mv old new before after p q tally event retired does count is =
    let same : q.tally ≡ tally = ap (λ (p : LogProgress). p.tally) is in
    record {
      event = event;
      makes = subst (λ (t : Tally). MakesAndShows show.report mv event (run_place_of old (streams_of (Some []) before) None p.tally)
          (run_place_of new (streams_of (Some []) after) None t)) (sym same) does;
      progress = is ∙ ap (λ (t : Tally). noted_event (record p { tally = t }) event retired) does.makes.tally
          ∙ ap (λ (n : ℕ). noted_event (record p { tally = counted_event p.tally mv event }) event n) count;
    }

-- the output failed it
pub failed-logged : (mv : Move) (old new : Processor) (before after : Option (List ℕ)) (p q : LogProgress) (tally : Tally) →
    MoveDoes show.report mv (run_place_of old (streams_of (Some []) before) None p.tally) (run_place_of new (streams_of (Some []) after) None tally)
    (Err ran.WriteFault) →
    q ≡ record p { tally = tally } → TriesMove mv (log_place old before p) (log_place new after q) (Err WriteFault)
unfolding MoveDoes TriesMove
failed-logged mv old new before after p q tally does is =
    let same : q.tally ≡ tally = ap (λ (p : LogProgress). p.tally) is in
    record {
      does = subst (λ (t : Tally). MoveDoes show.report mv (run_place_of old (streams_of (Some []) before) None p.tally)
          (run_place_of new (streams_of (Some []) after) None t) (Err ran.WriteFault)) (sym same) does;
      progress = is ∙ ap (λ (t : Tally). record p { tally = t }) does.0.tally;
    }
