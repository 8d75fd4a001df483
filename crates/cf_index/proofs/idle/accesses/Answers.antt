use Rattle.std.proofs.Common.{sym}
use Rattle.cf_semantics.specs.state.Layouts.{port}
use Rattle.cf_index.proofs.EmptySidings.{access_off}
use Rattle.cf_index.proofs.idle.accesses.Goals as goal

pub returns-then-are_empty : goal.returns-then-are_empty
returns-then-are_empty c =
    let plan = c.args.core.now.plan in
    sym (access_off plan c.args.core.now.state (c.are_empty.ensures.each c.if-are_empty.true (port plan)))
