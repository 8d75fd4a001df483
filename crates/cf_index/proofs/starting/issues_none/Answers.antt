use Rattle.std.proofs.Common.{◌≡◌, ◌∙◌, Bool, true, false, ap, refl}
use Rattle.std.specs.Prelude.{not}
use Rattle.cf_index.specs.Allowed.{is_running}
use Rattle.cf_index.proofs.StartsOver.{none_taken, none_waiting}
use Rattle.cf_index.proofs.starting.issues_none.Goals as goal

none_of : (b : Bool) → not b ≡ true → b ≡ false
none_of false e = refl
none_of true e = absurd (cc)

pub returns-then-not-is_lowest_free-clause-none : goal.returns-then-not-is_lowest_free-clause-none
returns-then-not-is_lowest_free-clause-none c = λ rule over.
    none_taken rule c.args.core.now.plan c.args.core.now.state c.args.held c.is_lowest_free.result c.is_lowest_free.ensures
    (ap not c.if-not-is_lowest_free.true)

pub returns-clause-none : goal.returns-clause-none
returns-clause-none c = λ rule over.
    none_waiting rule c.args.core.now.plan c.args.core.now.state c.args.held c.is_running.result (c.is_running.ensures ∙ ap is_running c.fetch.ensures)
    (none_of c.is_running.result over)
