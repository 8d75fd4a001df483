use Rattle.std.proofs.Common.{refl}
use Rattle.cf_debug.specs.Making.{MakesKeptOrFails}
use Rattle.cf_debug.proofs.KeptMoves.{failed-serve, made-serve}
use Rattle.cf_debug.proofs.making.serve.Goals as goal

pub returns-in-Ok-clause-makes : goal.returns-in-Ok-clause-makes
unfolding MakesKeptOrFails
returns-in-Ok-clause-makes g c = made-serve _ _ _ _ _ _ _ c.requires.allowed c.in-Ok.ensures.makes c.clear.ensures

pub returns-in-Err-Write-clause-makes : goal.returns-in-Err-Write-clause-makes
unfolding MakesKeptOrFails
returns-in-Err-Write-clause-makes g c = failed-serve _ _ _ _ _ _ c.requires.allowed (rw c.in-Err-Write.field-0-is at c.in-Err-Write.ensures.makes) refl
