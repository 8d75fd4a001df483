use Rattle.std.proofs.Common.{arith}
use Rattle.std.proofs.lemmas.List.Elements.{All-replicate}
use Rattle.rv_machine.specs.Lines.{IsBlank}
use Rattle.rv_machine.proofs.Lines.{blank-line}
use Rattle.rv_machine.proofs.flat_lines.FlatLines.clear.Goals as goal

pub returns : goal.returns
returns c = All-replicate IsBlank 32 _ (blank-line 0 (omega arith) (omega arith))
