use Rattle.std.proofs.Common.{◌≡◌, ℕ, ◌/◌, ◌%◌, nat_eq, nat_lt}
use Rattle.std.specs.Prelude.{◌&&◌}
use Rattle.cf_layout.specs.Layout.{launch_stage}
use Rattle.cf_layout.specs.Words.{has_bit}
use Rattle.cf_index.proofs.sharing.entries.Given as goal

-- the word has the first cells of the sidings that were visited
abbrev pub invariant-loop-k : goal.invariant-loop-k
invariant-loop-k l = (j : ℕ) → has_bit l.word j ≡ (nat_lt (j / 8) l.k && (nat_eq (launch_stage l.layout (j / 8)) l.i && nat_eq (j % 8) 0))
