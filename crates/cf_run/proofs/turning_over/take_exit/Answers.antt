use Rattle.std.proofs.Common.{◌≢◌, ◌∙◌, sym}
use Rattle.cf_index.specs.declared.pipe_ends.AtTop.TheVariants as at
use Rattle.cf_index.proofs.PickedFrom.{picked_on, serve_off}
use Rattle.cf_run.proofs.Turning.{unset}
use Rattle.cf_run.proofs.turning_over.take_exit.Goals.{in-Serves, in_default}
use Rattle.cf_run.proofs.turning_over.take_exit.Goals as goal

pub returns : goal.returns
returns c = record {
  swept = c.sweep_exit-exited.ensures.on.swept;
  from = λ goes.
      let other : c.args.top ≢ at.Serves = elim c.match-matches.branch [
        | in-Serves w ↦ absurd (cc (w.matches-is, unset _ goes))
        | in_default w ↦ w.in_default.not-Serves
      ] in
      record {
        ready = c.sweep_exit-exited.ensures.on.from.ready;
        picked = picked_on _ _ _ _ _ _ _ (sym (serve_off _ _ (c.sweep_exit-exited.ensures.serve ∙ c.requires.serve other)))
            c.sweep_exit-exited.ensures.on.from.picked;
      };
}
