use Rattle.std.proofs.Common.{arith}
use Rattle.cf_report.proofs.Listed.{cells-few}
use Rattle.cf_conform.proofs.wanted.siding_line.Goals as goal

pub any_siding_page-requires : goal.any_siding_page-requires
any_siding_page-requires c =
    rw c.siding.ensures.count (cells-few c.args.core.now.plan c.in-Some.siding c.layout.ensures.facts.accepted (grind arith))
