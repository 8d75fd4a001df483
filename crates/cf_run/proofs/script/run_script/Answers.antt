use Rattle.std.proofs.Common.{refl, ap, inl, inr, ◌∙◌, arith}
use Rattle.cf_core.specs.Asking.{AsksInput, AsksOutput}
use Rattle.cf_report.specs.declared.tally.Tally.{Tally}
use Rattle.cf_run.proofs.Runs.{followed-none, followed-more, tried-within, tried-left, tried-counted, can-count, few-made, few-more}
use Rattle.cf_run.proofs.Asked.{unasked-more}
use Rattle.cf_run.proofs.Ending.{script-ends-sequentially}
use Rattle.cf_run.proofs.Headline.{runs-sequentially}
use Rattle.cf_run.proofs.script.run_script.Goals as goal

pub loop-end-init : goal.loop-end-init
loop-end-init g c = record {
  followed = followed-none _ _ _ c.requires.tally;
  input_asked = λ unasked. refl;
  output_asked = λ unasked. refl;
  within = c.requires.retired;
  few = λ some. omega (arith, ap (λ (tally : Tally). tally.moves) c.requires.tally);
  input = refl;
  output = refl;
  report = refl;
}

pub advance-requires-clause-counts : goal.advance-requires-clause-counts
advance-requires-clause-counts g c = can-count _ _ _ _ c.loop-end.invariant.followed.reaches (omega (arith, few-made _ _ c.loop-end.invariant.few))

pub loop-end-preserved : goal.loop-end-preserved
loop-end-preserved g c =
    let tries = c.in_default.ensures.turns in
    record {
      followed = followed-more _ _ _ _ _ c.loop-end.invariant.followed tries;
      input_asked = unasked-more AsksInput _ _ _ _ _ c.loop-end.invariant.followed c.in_default.ensures.turns _ _ _ c.loop-end.invariant.input_asked
          c.in_default.ensures.input_asked;
      output_asked = unasked-more AsksOutput _ _ _ _ _ c.loop-end.invariant.followed c.in_default.ensures.turns _ _ _ c.loop-end.invariant.output_asked
          c.in_default.ensures.output_asked;
      within = tried-within _ _ _ _ tries;
      few = λ some. few-more _ _ _ _ c.loop-end.invariant.few (c.in_default.ensures.few refl) (tried-left _ _ _ _ tries) (tried-counted _ _ _ _ tries);
      input = c.in_default.ensures.input.still ∙ c.loop-end.invariant.input;
      output = c.in_default.ensures.output.still ∙ c.loop-end.invariant.output;
      report = c.in_default.ensures.report.still ∙ c.loop-end.invariant.report;
    }

pub returns-in-Some-clause-asked : goal.returns-in-Some-clause-asked
returns-in-Some-clause-asked g c = record {
  runs = record { now = _; follows = c.loop-end.invariant.followed; stops = c.in-Some.ensures.turns };
  input_asked = λ unasked. c.in-Some.ensures.input_asked (λ next. unasked (inr next)) ∙ c.loop-end.invariant.input_asked (λ some. unasked (inl some));
  output_asked = λ unasked. c.in-Some.ensures.output_asked (λ next. unasked (inr next)) ∙ c.loop-end.invariant.output_asked (λ some. unasked (inl some));
}

pub returns-in-Some-clause-sequential : goal.returns-in-Some-clause-sequential
returns-in-Some-clause-sequential g c =
    runs-sequentially _ _ _ _ _ c.known.ensures.accepted c.known.ensures.registers (record
    { now = _; follows = c.loop-end.invariant.followed; stops = c.in-Some.ensures.turns })

pub returns-in-Some-clause-ends : goal.returns-in-Some-clause-ends
returns-in-Some-clause-ends g c =
    script-ends-sequentially _ _ _ _ _ c.known.ensures.accepted c.known.ensures.registers (record
    { now = _; follows = c.loop-end.invariant.followed; stops = c.in-Some.ensures.turns })
