use Rattle.std.proofs.Common.{◌≡◌, ℕ, ◌+◌, ◌/◌, ◌%◌, nat_lt}
use Rattle.std.specs.Prelude.{◌&&◌}
use Rattle.cf_layout.specs.Layout.{cells_of}
use Rattle.cf_layout.specs.Words.{has_bit}
use Rattle.cf_sidings.proofs.words.inner_cells.Given as goal

-- the word has the cells of the sidings that were visited
abbrev pub invariant-loop-k : goal.invariant-loop-k
invariant-loop-k l = (j : ℕ) → has_bit l.word j ≡ (nat_lt (j / 8) l.k && nat_lt (j % 8 + 1) (cells_of l.layout (j / 8)))
