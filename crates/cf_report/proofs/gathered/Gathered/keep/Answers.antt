use Rattle.std.proofs.Common.{arith, rules, length-take-le}
use Rattle.cf_report.proofs.Keeping.{kept-more}
use Rattle.cf_report.proofs.gathered.Gathered.keep.Goals as goal

pub returns-clause-kept : goal.returns-clause-kept
returns-clause-kept g c =
    kept-more _ _ _ _ _ _ _ _ _ _ c.self.view_is c.self.invariant.0 (search rules) c.copy_from_slice.ensures.after
    (length-take-le c.min-count.result c.args.bytes.now (omega (arith, c.min-count.ensures)))
