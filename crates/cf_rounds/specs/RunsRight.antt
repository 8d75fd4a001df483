-- A run in rounds is a run of the sequential machine, and reports how far it has come.
use Rattle.std.specs.Prelude.{ℕ, List, Option}
use Rattle.run_options.specs.declared.guess_rule.GuessRule.{GuessRule}
use Rattle.run_options.specs.Reportings as show
use Rattle.run_finishes.specs.declared.finish.Scripted.TheVariants.{Ran}
use Rattle.cf_run.specs.Headline.{RunsSequentially}
use Rattle.cf_run.specs.Made.{moves_of}
use Rattle.cf_run.specs.Moving.{RunPlace}
use Rattle.cf_rounds.specs.declared.answer.Clocked.{Clocked}
use Rattle.cf_rounds.specs.Running.{RunsRounds, ran_of}
use Rattle.cf_rounds.specs.Saying.{Says}

-- the run in rounds is also a run of the sequential machine, and this is what the report exposes before and after it
pub record RoundsRunRight (rule : GuessRule) (limit : ℕ) (every : Option ℕ) (start new : RunPlace) (blank full : Option (List ℕ)) (number : ℕ)
    (answer : Clocked) : Type 0 where
  pub runs : RunsRounds rule limit start new number answer
  pub sequential : RunsSequentially show.report (moves_of runs.reaches.trace) start new (Ran (ran_of answer))
  pub says : Says every start.core.state runs.rounds blank full answer
