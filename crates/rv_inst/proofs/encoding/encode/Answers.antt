use Rattle.std.proofs.Common.{arith}
use Rattle.rv_inst.proofs.Reading.{encoded_once}
use Rattle.rv_inst.proofs.encoding.encode.Goals as goal

pub returns-clause-only : goal.returns-clause-only
returns-clause-only c = encoded_once _ _ (omega arith) c.encode_word.ensures
