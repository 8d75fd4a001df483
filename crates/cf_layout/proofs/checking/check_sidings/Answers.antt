use Rattle.std.proofs.Common.{refl}
use Rattle.cf_layout.proofs.Passing.{told_small}
use Rattle.cf_layout.proofs.checking.check_sidings.Goals as goal

pub returns-clause-small : goal.returns-clause-small
returns-clause-small c = rw c.check_each_siding.ensures (told_small c.args.most c.args.units.now c.args.sidings.now _ refl c.requires.tall)
