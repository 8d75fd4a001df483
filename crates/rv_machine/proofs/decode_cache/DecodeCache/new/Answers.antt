use Rattle.std.proofs.Common.{arith}
use Rattle.std.proofs.lemmas.List.Elements.{All-replicate}
use Rattle.rv_machine.specs.Decoded.{IsEmpty}
use Rattle.rv_machine.proofs.decode_cache.DecodeCache.new.Goals as goal

pub returns : goal.returns
returns c = All-replicate IsEmpty 4096 _ (omega arith)
