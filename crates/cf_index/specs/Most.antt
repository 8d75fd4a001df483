-- The maximum number of moves in each part of the list of all moves. A word has 64 bits, so a kind of move has 64
-- places.
use Rattle.std.specs.Prelude.{ℕ, ◌+◌, ◌*◌}

-- a kind of move for which there is a word
abbrev pub most_of_kind : ℕ
most_of_kind = 64

-- Issue by each of three guesses, and Emit
abbrev pub most_entering : ℕ
most_entering = 4

-- Climb, Fall, Meet, Execute, Send and Launch
abbrev pub most_passing : ℕ
most_passing = 6 * most_of_kind

-- Access, Leave, Exit and Serve, besides Recover
abbrev pub most_leaving : ℕ
most_leaving = most_of_kind + 4

-- all but Issue: Emit, what goes on in the stages, Slide, and what leaves
abbrev pub most_others : ℕ
most_others = 1 + (most_passing + (most_of_kind + most_leaving))
