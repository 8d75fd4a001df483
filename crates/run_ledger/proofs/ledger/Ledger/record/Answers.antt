use Rattle.std.proofs.Common.{◌∙◌}
use Rattle.run_ledger.proofs.Putting.{noted-is}
use Rattle.run_ledger.proofs.ledger.Ledger.record.Goals as goal

pub returns : goal.returns
returns c =
    noted-is c.args.self.now c.put.new.self c.args.mv c.args.ticks c.mark_of-mark.result c.later-self.result c.saturating_add-self.result
    c.as_slice-2.result.now c.charge_stages-self.result c.charge_sidings-self.result c.one_more-self.result
    c.put.ensures (c.as_slice-2.ensures.value ∙ c.places_of-places.ensures) c.mark_of-mark.ensures
    c.later-self.ensures c.saturating_add-self.ensures c.charge_stages-self.ensures c.charge_sidings-self.ensures c.one_more-self.ensures
