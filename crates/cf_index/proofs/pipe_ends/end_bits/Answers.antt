use Rattle.std.proofs.Common.{◌∙◌, ◌+◌, ◌*◌, ℕ, ap}
use mir.Val.{bool_byte}
use Rattle.cf_index.specs.Packed.{packed_from}
use Rattle.cf_index.proofs.PackedWords.{ends_joined}
use Rattle.cf_index.proofs.pipe_ends.end_bits.Goals as goal

pub returns-clause-moves : goal.returns-clause-moves
returns-clause-moves c =
    ap (packed_from 61 3) (c.flag_then-2.ensures ∙ ap (λ (w : ℕ). bool_byte c.leaves_among-leave.result + 2 * w) c.flag_then.ensures)
    ∙ ends_joined c.args.core.now.plan c.args.core.now.state c.leaves_among-leave.result c.exits-exit.result c.args.serve
    c.leaves_among-leave.ensures c.exits-exit.ensures c.requires.serve
