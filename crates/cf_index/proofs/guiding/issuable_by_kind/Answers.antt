use Rattle.std.proofs.Common.{◌∙◌, sym}
use Rattle.cf_index.proofs.Guided.{bad-by, taken-by, wait-by, waiting-by}
use Rattle.cf_index.proofs.guiding.issuable_by_kind.Goals as goal

pub returns-in-Ok-clause-taken : goal.returns-in-Ok-clause-taken
returns-in-Ok-clause-taken c =
    c.is_direct_turn.ensures ∙ taken-by c.args.core.now.plan c.args.core.now.state c.in-Running.pc c.in-Ok.i c.requires
    (sym c.fetch.ensures ∙ c.in-Running.is) (sym c.in-Ok.ensures)

pub returns-in-Ok-clause-wait : goal.returns-in-Ok-clause-wait
returns-in-Ok-clause-wait c =
    c.is_turn.ensures ∙ wait-by c.args.core.now.plan c.args.core.now.state c.in-Running.pc c.in-Ok.i c.requires
    (sym c.fetch.ensures ∙ c.in-Running.is) (sym c.in-Ok.ensures)

pub returns-in-Err-clause-taken : goal.returns-in-Err-clause-taken
returns-in-Err-clause-taken c =
    (bad-by c.args.core.now.plan c.args.core.now.state c.in-Running.pc c.in-Err.field-0 c.requires (sym c.fetch.ensures ∙ c.in-Running.is)
    (sym c.in-Err.ensures)).0

pub returns-in-Err-clause-wait : goal.returns-in-Err-clause-wait
returns-in-Err-clause-wait c =
    (bad-by c.args.core.now.plan c.args.core.now.state c.in-Running.pc c.in-Err.field-0 c.requires (sym c.fetch.ensures ∙ c.in-Running.is)
    (sym c.in-Err.ensures)).1

pub returns-in-Waiting-clause-taken : goal.returns-in-Waiting-clause-taken
returns-in-Waiting-clause-taken c =
    (waiting-by c.args.core.now.plan c.args.core.now.state c.requires (sym c.fetch.ensures ∙ c.in-Waiting.is)).0

pub returns-in-Waiting-clause-wait : goal.returns-in-Waiting-clause-wait
returns-in-Waiting-clause-wait c =
    (waiting-by c.args.core.now.plan c.args.core.now.state c.requires (sym c.fetch.ensures ∙ c.in-Waiting.is)).1
