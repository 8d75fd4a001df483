-- The picks of the policies, and their next states: each a function of the policy's state and of the candidates.
use Rattle.std.specs.Prelude.{ℕ, ◌%◌, List, length, slice_get, Option}
use Rattle.rand_pcg.specs.Lcg.{Lcg, increment_of, started}
use Rattle.rand_pcg.specs.Pcg.{multiplier_64, pcg32}
use Rattle.cf_bind.specs.declared.moves.Move.{Move}
use Rattle.cf_index.specs.Order.{first_after}

-- Round picks the first candidate after the last one that it picked, or the first of all if none comes after it or
-- nothing was picked yet
abbrev pub round_pick : Option Move → List Move → ℕ
round_pick last moves = first_after last moves

-- and keeps what it picked
abbrev pub round_on : Option Move → List Move → Option Move
round_on last moves = slice_get moves (round_pick last moves)

-- Drawn keeps a generator, which begins with that of a seed
abbrev pub drawn_from_seed : ℕ → Lcg
drawn_from_seed seed = started 64 multiplier_64 seed (increment_of 64 1)

-- it picks the generator's next word modulo the number of candidates
abbrev pub drawn_pick : Lcg → List Move → ℕ
drawn_pick g moves = (pcg32 g).0 % length moves

-- and keeps the generator after that word
abbrev pub drawn_on : Lcg → Lcg
drawn_on g = (pcg32 g).1
