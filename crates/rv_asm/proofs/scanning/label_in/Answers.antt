use Rattle.rv_asm.proofs.Names.{name-utf8}
use Rattle.rv_asm.proofs.scanning.label_in.Goals as goal

pub returns-then-has_label-clause-utf8 : goal.returns-then-has_label-clause-utf8
returns-then-has_label-clause-utf8 c = rw c.name_length.ensures.length (name-utf8 c.args.text.now)
