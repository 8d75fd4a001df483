use Rattle.cf_io.proofs.Owing.{err-again}
use Rattle.asm_listing.proofs.words.put_word.Goals as goal

pub returns-clause-err : goal.returns-clause-err
returns-clause-err g c = err-again _ _ _ _ _ _ c.in_ok-put_labels.ensures.ok c.put_line.ensures.err
