-- The operation at the end of Memory's siding is a load or a store.
use Rattle.std.proofs.Common.{◌∙◌, sym}
use Rattle.cf_core.proofs.OldOps.{port-op}
use Rattle.cf_core.proofs.processor.Processor.old_number.Goals as goal

pub under-requires : goal.under-requires
under-requires c = port-op c.args.self.now.plan c.args.self.now.state c.in_ok-last_op-in-Access.field-0 c.requires.facts (sym c.in_ok-last_op-in-Access.was
    ∙ (rw c.port.ensures at c.last_op.ensures))
