-- The word is made of the words of the stages and of where the instruction stops.
use Rattle.std.proofs.Common.{◌∙◌, ap, length, List}
use Rattle.cf_bind.specs.declared.cell.Cell.{Cell}
use Rattle.cf_stages.specs.Words.{packet_word, passenger_word}
use Rattle.cf_core.specs.Processors.{Processor}
use Rattle.cf_core.proofs.Blocks.{blocks-word}
use Rattle.cf_core.proofs.processor.Processor.blocks.Goals as goal

pub returns : goal.returns
returns c =
    let same = ap (λ (p : Processor). p.state.cells) c.self.view_is in
    blocks-word c.args.self.now.plan c.args.self.now.state c.args.passenger.now _ _ _ _ c.count.result c.requires.facts
    (c.packets.ensures ∙ ap (λ (cells : List Cell). packet_word cells) same)
    (c.passengers-below_another.ensures ∙ ap (λ (cells : List Cell). passenger_word cells) same)
    (c.count.ensures.count ∙ ap length same) c.with_bit-highest.ensures c.stops_of.ensures
