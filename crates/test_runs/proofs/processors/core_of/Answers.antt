use Rattle.std.proofs.Common.{◌≡◌, IfOk, sym, ap, ◌∙◌, subst}
use Rattle.rv_machine.specs.Hart.{Hart}
use Rattle.cf_layout.specs.Layout.{Plan}
use Rattle.cf_core.specs.Processors.{Processor, opened_processor, IsOpened}
use Rattle.test_runs.proofs.processors.core_of.Goals as goal

opened_is : (core : Processor) (plan : Plan) (hart : Hart) → core ≡ opened_processor plan hart → IsOpened core
unfolding opened_processor
opened_is core plan hart is = record { hart = hart; is = is ∙ ap (λ (p : Plan). opened_processor p hart) (sym (ap (λ (c : Processor). c.plan) is)) }

pub returns : goal.returns
returns g c = opened_is _ _ _ (subst (λ made. IfOk made (λ core. core ≡ opened_processor c.args.layout c.new-machine.result)) c.expect.ensures c.new.ensures)
