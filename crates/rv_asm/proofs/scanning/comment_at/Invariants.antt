use Rattle.std.proofs.Common.{◌≡◌, ◌+◌, drop}
use Rattle.rv_asm.specs.declared.scanning.Quote.TheVariants.{Outside}
use Rattle.rv_asm.specs.Scanning.{comment_at}
use Rattle.rv_asm.proofs.scanning.comment_at.Given as goal

abbrev pub invariant-loop-index : goal.invariant-loop-index
invariant-loop-index l =
    l.index + comment_at l.quote (drop l.index l.line) ≡ comment_at Outside l.line
