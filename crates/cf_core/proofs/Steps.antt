-- A move that is made, as a step.
use Rattle.std.proofs.Common.{◌≡◌, ◌≢◌, Ok, refl, ap, sym, ◌∙◌}
use Rattle.rv_machine.specs.Streams.{Streams}
use Rattle.cf_bind.specs.declared.moves.Move.{Move}
use Rattle.cf_bind.specs.declared.moves.Move.TheVariants.{Serve}
use Rattle.cf_semantics.specs.declared.event.Event.{Event}
use Rattle.cf_semantics.specs.moves.Events.{IsEvent}
use Rattle.cf_semantics.specs.moves.Moves.{next, moved}
use Rattle.cf_semantics.specs.state.State.{Moment}
use Rattle.cf_core.specs.Processors.{Processor, after_move}
use Rattle.cf_core.specs.Stepping.{Makes, MakesOrFails}
use Rattle.cf_core.proofs.Quiet.{still-makes, with_rest}
use Rattle.cf_layout.specs.Layout.{Plan}

-- any move but Serve leaves input and output unchanged
pub next_moved : (plan : Plan) (m : Moment) (mv : Move) → mv ≢ Serve → next plan m mv ≡ record m { state = moved plan m.state mv }
unfolding next
next_moved plan m Serve other = absurd (other refl)
next_moved plan m _ other = refl

pub move-makes : (old new : Processor) (mv : Move) (streams : Streams) → mv ≢ Serve → new ≡ after_move old mv → Makes old new mv streams streams
move-makes old new mv streams other is = still-makes old new mv streams (λ rest. next_moved old.plan (with_rest old rest) mv other
    ∙ ap (λ (p : Processor). with_rest p rest) (sym is)) (ap (λ (p : Processor). p.plan) is)

pub inside-makes : (old new : Processor) (mv : Move) (streams : Streams) (e : Event) → mv ≢ Serve → new ≡ after_move old mv →
    IsEvent old.plan old.state mv e → MakesOrFails old new mv streams streams (Ok e)
unfolding MakesOrFails
inside-makes old new mv streams e other is event = (move-makes old new mv streams other is, event)

pub ruleset stepping = (inside-makes)
