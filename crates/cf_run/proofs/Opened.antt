-- A processor that was opened on a hart.
use Rattle.std.proofs.Common.{◌≡◌, ◌≤◌, ℕ, false, refl, sym, ap, ◌∙◌, arith}
use Rattle.run_options.specs.Limits.{most_limit}
use Rattle.rv_machine.specs.Hart.{Hart}
use Rattle.cf_layout.specs.Layout.{Plan}
use Rattle.cf_core.specs.Processors.{Processor, opened_processor, IsOpened}
use Rattle.cf_semantics.specs.runs.Runs.{opened as opened_on}
use Rattle.cf_run.specs.Policies.{CanRun}

-- it has the hart's count, and has not failed
pub opened-count : (plan : Plan) (hart : Hart) → (opened_processor plan hart).state.retired ≡ hart.retired
unfolding opened_processor opened_on
opened-count plan hart = refl

pub opened-works : (plan : Plan) (hart : Hart) → (opened_processor plan hart).state.failed ≡ false
unfolding opened_processor opened_on
opened-works plan hart = refl

-- so no processor that was opened has failed
pub opened-sound : (core : Processor) → IsOpened core → core.state.failed ≡ false
opened-sound core o = ap (λ (p : Processor). p.state.failed) o.is ∙ opened-works core.plan o.hart

-- a new processor is opened
pub newly-opened : (core : Processor) (plan : Plan) (hart : Hart) → core ≡ opened_processor plan hart → IsOpened core
unfolding opened_processor
newly-opened core plan hart is = record { hart = hart; is = is ∙ ap (λ (p : Plan). opened_processor p hart) (sym (ap (λ (p : Processor). p.plan) is)) }

-- so a run of it may begin, if the hart has retired nothing
pub can-run : (limit : ℕ) (core : Processor) (plan : Plan) (hart : Hart) → limit ≤ most_limit → hart.retired ≡ 0 → core ≡ opened_processor plan hart →
    CanRun limit core
can-run limit core plan hart few none is =
    let count : core.state.retired ≡ 0 = ap (λ (p : Processor). p.state.retired) is ∙ opened-count plan hart ∙ none in
    record { limit_allowed = few; within = omega (arith, count); is_opened = newly-opened core plan hart is }

pub ruleset opened_cores = (opened-count, opened-works, opened-sound)
