use Rattle.std.proofs.Common.{◌≡◌, map, length}
use Rattle.rv_text.specs.Tables.{look_up}
use Rattle.rv_text.proofs.tables.look_up.Given as goal

abbrev pub invariant-loop-table : goal.invariant-loop-table
invariant-loop-table g l =
    look_up (map (λ entry. (entry.0.now, entry.1)) l.table) l.word
    ≡ look_up (map (λ entry. (entry.0.now, entry.1)) l.fn.table) l.word

abbrev pub decreases-loop-table : goal.decreases-loop-table
decreases-loop-table g l = length l.table
