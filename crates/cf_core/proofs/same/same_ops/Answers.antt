-- As `==` decides whether two operations are the same, it decides whether two lists of them are.
use Rattle.std.proofs.lemmas.Slice.Eq.{slice_eq-Decides}
use Rattle.cf_core.proofs.Sameness.{op_decides}
use Rattle.cf_stages.proofs.Deciding.{option_decides}
use Rattle.cf_core.proofs.same.same_ops.Goals as goal

pub returns : goal.returns
returns c = slice_eq-Decides (option_decides op_decides) c.args.ops.now c.args.other.now c.eq.result c.eq.ensures
