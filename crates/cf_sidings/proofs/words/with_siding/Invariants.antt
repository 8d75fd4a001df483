use Rattle.std.proofs.Common.{◌≡◌, ℕ, ◌+◌, ◌/◌, ◌%◌, nat_eq, nat_lt}
use Rattle.std.specs.Prelude.{◌&&◌, ◌||◌}
use Rattle.cf_layout.specs.Words.{has_bit}
use Rattle.cf_sidings.proofs.words.with_siding.Given as goal

-- besides what the word had, it has the cells that were visited
abbrev pub invariant-loop-c : goal.invariant-loop-c
invariant-loop-c l = (j : ℕ) → has_bit l.word j ≡ ((nat_eq (j / 8) l.k && nat_lt (j % 8 + 1) l.c) || has_bit l.fn.word j)
