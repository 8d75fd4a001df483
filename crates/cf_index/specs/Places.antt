-- Words as sets of small numbers: bit k for number k.
use Rattle.std.specs.Prelude.{ℕ, List, filter}
use Rattle.cf_layout.specs.Words.{has_bit}
use Rattle.cf_semantics.specs.moves.Candidates.{counted_from}

-- the numbers below n whose bit the word has, ascending
unfoldable pub set_places : ℕ → ℕ → List ℕ
set_places n w = filter (has_bit w) (counted_from 0 n)
