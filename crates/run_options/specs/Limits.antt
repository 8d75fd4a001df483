-- The limits of the options.
use Rattle.std.specs.Prelude.{ℕ}

-- the maximum limit of a run, which is a number of retired instructions
abbrev pub most_limit : ℕ
most_limit = 1000000000000

-- the maximum limit of a run whose moves are timed, so that no time exceeds 62 bits
abbrev pub most_timed_limit : ℕ
most_timed_limit = 1000000000

-- the maximum number of statements of a drawn program
abbrev pub most_statements : ℕ
most_statements = 30000

-- the maximum number of issues of a search of all orders
abbrev pub most_issues : ℕ
most_issues = 64

-- the maximum number of states of a search of all orders
abbrev pub most_states : ℕ
most_states = 16777216
