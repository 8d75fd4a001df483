use Rattle.cf_run.specs.Moving.{MoveDoes}
use Rattle.cf_run.proofs.Moves.{made-shown, made-unshown, does-read_fault, does-write_fault}
use Rattle.cf_run.proofs.making.make_and_show.Goals as goal

pub returns-in-Ok-put_shown-clause-does : goal.returns-in-Ok-put_shown-clause-does
unfolding MoveDoes
returns-in-Ok-put_shown-clause-does g c = made-shown _ _ _ _ _ _ _ _ c.requires.allowed c.in-Ok.ensures.makes c.count.ensures c.in-Ok-put_shown.ensures

pub returns-in-Err-clause-does : goal.returns-in-Err-clause-does
unfolding MoveDoes
returns-in-Err-clause-does g c = (c.in-Ok.event, made-unshown _ _ _ _ _ _ _ _ c.requires.allowed c.in-Ok.ensures.makes c.count.ensures c.in-Err.ensures)

pub returns-in-Err-Read-clause-does : goal.returns-in-Err-Read-clause-does
returns-in-Err-Read-clause-does g c = does-read_fault _ _ _ _ _ _ _ _ c.requires.allowed (rw c.in-Err-Read.field-0-is at c.in-Err-Read.ensures.makes)

pub returns-in-Err-Write-clause-does : goal.returns-in-Err-Write-clause-does
returns-in-Err-Write-clause-does g c = does-write_fault _ _ _ _ _ _ _ _ c.requires.allowed (rw c.in-Err-Write.field-0-is at c.in-Err-Write.ensures.makes)
