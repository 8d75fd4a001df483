use Rattle.std.proofs.Common.{◌≡◌, ◌∙◌, Some, ap, false, subst, sym, arith}
use Rattle.cf_semantics.specs.moves.Holding.{is_held}
use Rattle.cf_semantics.specs.state.Drained.{is_drained}
use Rattle.cf_core.specs.Processors.{Processor, after_move}
use Rattle.cf_index.specs.PickedFrom.{from_emit}
use Rattle.cf_index.proofs.StartsOver.{issued_on}
use Rattle.cf_run.specs.Sweeps.{PicksFrom}
use Rattle.cf_run.proofs.Occupied.{issue_there}
use Rattle.cf_run.proofs.Turning.{after_keeps, can-retire, come-counts, few-stages, no_serve, picked-sweeps, picked_free, sweeping-kept}
use Rattle.cf_run.proofs.turning_over.take_issue.Goals as goal

pub make_inside-event-requires-clause-allowed : goal.make_inside-event-requires-clause-allowed
make_inside-event-requires-clause-allowed c = picked_free _ _ _ _ _ _ c.requires.picked

pub make_inside-event-requires-clause-count : goal.make_inside-event-requires-clause-count
make_inside-event-requires-clause-count c = λ leaves. can-retire _ _ c.requires.ready

pub make_inside-event-requires-clause-other : goal.make_inside-event-requires-clause-other
make_inside-event-requires-clause-other c = let issue = c.requires.issue in no_serve _ (omega (arith, issue))

pub count-requires : goal.count-requires
count-requires c = come-counts _ _ _ c.requires.ready.come

pub returns-clause-on : goal.returns-clause-on
returns-clause-on c =
    let old = c.args.core.now in
    let new = c.make_inside-event.new.self in
    let mv = c.args.mv in
    let pace = c.saw.new.self in
    let issue = c.requires.issue in
    let made : new ≡ after_move old mv = c.make_inside-event.ensures.processor in
    let free = picked_free _ _ _ _ _ _ c.requires.picked in
    let something : false ≡ is_drained new.state =
    sym (ap (λ (p : Processor). is_drained p.state) made ∙ issue_there old.plan old.state mv issue free) in
    let swept = picked-sweeps _ _ _ _ _ _ _ _ (omega (arith, issue)) c.requires.ready c.requires.picked made
    c.make_inside-event.ensures.event c.count.ensures c.saw.ensures.value something in
    record {
      swept = swept;
      from = record {
        ready = sweeping-kept _ _ _ c.requires.ready swept (after_keeps _ _ _ (λ is. absurd (omega (arith, issue, is))) made);
        picked = subst (λ (p : Processor). PicksFrom pace p (Some mv) from_emit) (sym made)
            (issued_on pace.rule (is_held old.plan pace.count) old.plan old.state mv (few-stages _ _ c.requires.ready) issue free);
      };
    }
