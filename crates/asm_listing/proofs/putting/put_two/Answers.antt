use Rattle.cf_io.proofs.Owing.{err-again}
use Rattle.asm_listing.proofs.putting.put_two.Goals as goal

pub returns-clause-err : goal.returns-clause-err
returns-clause-err g c = err-again _ _ _ _ _ _ c.in_ok-put_all.ensures.all c.put_all-2.ensures.front
