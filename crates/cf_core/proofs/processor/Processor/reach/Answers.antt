-- An instruction that can climb is in the stage, and comes to the first stage at which it is blocked.
use Rattle.std.proofs.Common.{◌∙◌, ap, subst, sym}
use Rattle.std.specs.Prelude.{IsSome}
use Rattle.cf_stages.specs.Changes.{passenger_at}
use Rattle.cf_core.specs.Processors.{Processor}
use Rattle.cf_core.proofs.Lifts.{climb-stage, lift}
use Rattle.cf_core.proofs.processor.Processor.reach.Goals as goal

pub passenger_there-passenger-requires : goal.passenger_there-passenger-requires
passenger_there-passenger-requires c =
    subst (λ (p : Processor). IsSome (passenger_at p.state.cells c.args.i)) (sym c.self.view_is)
    (climb-stage c.args.self.now c.args.i c.requires.facts c.requires.allowed).2

pub first_block-requires-clause-below : goal.first_block-requires-clause-below
first_block-requires-clause-below c = (climb-stage c.args.self.now c.args.i c.requires.facts c.requires.allowed).1

pub returns-clause-room : goal.returns-clause-room
returns-clause-room c =
    let rides = sym (c.passenger_there-passenger.ensures ∙ ap (λ (p : Processor). passenger_at p.state.cells c.args.i) c.self.view_is) in
    (lift c.args.self.now c.args.i c.first_block.result _ c.requires.facts c.requires.allowed rides c.first_block.ensures).room

pub returns-clause-climbs : goal.returns-clause-climbs
returns-clause-climbs c =
    let rides = sym (c.passenger_there-passenger.ensures ∙ ap (λ (p : Processor). passenger_at p.state.cells c.args.i) c.self.view_is) in
    (lift c.args.self.now c.args.i c.first_block.result _ c.requires.facts c.requires.allowed rides c.first_block.ensures).climbs

pub returns-clause-cells : goal.returns-clause-cells
returns-clause-cells c =
    let rides = sym (c.passenger_there-passenger.ensures ∙ ap (λ (p : Processor). passenger_at p.state.cells c.args.i) c.self.view_is) in
    (lift c.args.self.now c.args.i c.first_block.result _ c.requires.facts c.requires.allowed rides c.first_block.ensures).processor
