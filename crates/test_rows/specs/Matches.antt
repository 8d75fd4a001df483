-- The expectations about the bytes of an outcome.
use Rattle.std.specs.Prelude.{◌≡◌, ◌<◌, ℕ, List, length, take}
use Rattle.test_rows.specs.declared.matching.Matching.{Matching}
use Rattle.test_rows.specs.declared.matching.Matching.TheVariants.{Whole, Begins, Front, Size}

-- the bytes begin with these
abbrev pub BeginsWith : List ℕ → List ℕ → Type 0
BeginsWith bytes front = take (length front) bytes ≡ front

-- the actual bytes are the expected ones, begin with them, are a proper prefix of them, or are this many
abbrev pub IsAsWanted : Matching → List ℕ → List ℕ → Type 0
IsAsWanted Whole left wanted = left ≡ wanted
IsAsWanted Begins left wanted = BeginsWith left wanted
IsAsWanted Front left wanted = (length left < length wanted) × BeginsWith wanted left
IsAsWanted (Size n) left wanted = length left ≡ n
