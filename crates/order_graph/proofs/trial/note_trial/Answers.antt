-- The stored parts of a trial are what they must be.
use Rattle.std.proofs.Common.{subst}
use Rattle.order_graph.specs.TrialParts.{IsSoundTrial}
use Rattle.order_graph.proofs.Trials.{sound_parts}
use Rattle.order_graph.proofs.trial.note_trial.Goals as goal

pub returns : goal.returns
returns c = subst IsSoundTrial c.trial.view_is (sound_parts c.trial.inside.away c.trial.inside.layout c.trial.inside.image c.trial.inside.places.items
    c.trial.inside.moves.items c.trial.inside.issues c.trial.inside.retired c.retires_no_more_than_issued.ensures c.orders_end.ensures c.trial.invariant)
