use Rattle.cf_run.proofs.Turning.{come-nearer, no_turns, set, sweeps-onward, sweeps_on}
use Rattle.cf_run.proofs.turning_over.sweep_rounds.Goals as goal

pub loop-gone-init : goal.loop-gone-init
loop-gone-init c = record { on = record { swept = no_turns _ _ _; from = record { ready = c.requires.ready; picked = c.requires.picked } } }

pub start_over-next-requires-clause-made : goal.start_over-next-requires-clause-made
start_over-next-requires-clause-made c =
    (sweeps-onward _ _ _ _ (sweeps_on _ _ _ _ _ c.sweep_stages-swept.ensures.on.swept c.sweep_outward-gone.ensures.swept)).moves

pub start_over-next-requires-clause-from : goal.start_over-next-requires-clause-from
start_over-next-requires-clause-from c = c.sweep_outward-gone.ensures.from (set _ c.if-not-gone.false)

pub loop-gone-smaller : goal.loop-gone-smaller
loop-gone-smaller c =
    let swept = sweeps_on _ _ _ _ _ c.loop-gone.invariant.on.swept c.sweep_stages-swept.ensures.on.swept in
    let gone = sweeps_on _ _ _ _ _ swept c.sweep_outward-gone.ensures.swept in
    let goes = set _ c.if-not-next.false in
    come-nearer _ _ _ _ _ (c.start_over-next.ensures.from goes).ready.come (sweeps_on _ _ _ _ _ gone c.start_over-next.ensures.swept)
    (c.start_over-next.ensures.more goes)

pub loop-gone-preserved : goal.loop-gone-preserved
loop-gone-preserved c =
    let swept = sweeps_on _ _ _ _ _ c.loop-gone.invariant.on.swept c.sweep_stages-swept.ensures.on.swept in
    let gone = sweeps_on _ _ _ _ _ swept c.sweep_outward-gone.ensures.swept in
    record {
      on = record {
        swept = sweeps_on _ _ _ _ _ gone c.start_over-next.ensures.swept;
        from = c.start_over-next.ensures.from (set _ c.if-not-next.false);
      };
    }

pub returns-then-not-next : goal.returns-then-not-next
returns-then-not-next c =
    let swept = sweeps_on _ _ _ _ _ c.loop-gone.invariant.on.swept c.sweep_stages-swept.ensures.on.swept in
    let gone = sweeps_on _ _ _ _ _ swept c.sweep_outward-gone.ensures.swept in
    record { swept = sweeps_on _ _ _ _ _ gone c.start_over-next.ensures.swept }
