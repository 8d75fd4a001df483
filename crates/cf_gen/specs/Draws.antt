-- The numbers that a program is drawn from: a linear congruential generator with the constants of Knuth and Lewis
-- (Press and others, "Numerical Recipes in C", "An Even Quicker Generator"). Draws take the upper half of its state.
use Rattle.std.specs.Prelude.{ℕ, zero, suc, ◌+◌, ◌*◌, ◌/◌, ◌%◌, ◌^◌}

-- the state after one draw
unfoldable pub state_after_draw : ℕ → ℕ
state_after_draw x = (1664525 * x + 1013904223) % 2 ^ 32

-- the state after this many draws
abbrev pub state_after_draws : ℕ → ℕ → ℕ
state_after_draws zero x = x
state_after_draws (suc n) x = state_after_draws n (state_after_draw x)

-- the number below m that is drawn from a state
abbrev pub drawn_below : ℕ → ℕ → ℕ
drawn_below m x = state_after_draw x / 65536 % m
