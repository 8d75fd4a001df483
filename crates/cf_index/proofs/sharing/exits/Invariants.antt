use Rattle.std.proofs.Common.{◌≡◌, ℕ, ◌-◌, ◌/◌, ◌%◌, nat_eq, nat_lt}
use Rattle.std.specs.Prelude.{◌&&◌}
use Rattle.cf_layout.specs.Layout.{cells_of, recover_stage}
use Rattle.cf_layout.specs.Words.{has_bit}
use Rattle.cf_index.proofs.sharing.exits.Given as goal

-- the word has the last cells of the sidings that were visited
abbrev pub invariant-loop-k : goal.invariant-loop-k
invariant-loop-k l = (j : ℕ) → has_bit l.word j ≡ (nat_lt (j / 8) l.k && (nat_eq (recover_stage l.layout (j / 8)) l.i
    && nat_eq (j % 8) (cells_of l.layout (j / 8) - 1)))
