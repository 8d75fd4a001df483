-- The input and the output of a program, as far as their source and sink expose them: nothing is claimed about what
-- they do not expose.
use Rattle.std.specs.Prelude.{◌≡◌, ℕ, List, [], ◌++◌, Option, Some, None}
use Rattle.cf_io.specs.Puts.{Writes}

-- what is left of the input and what was written to the output, if they expose it
pub record Streams : Type 0 where
  pub input : Option (List ℕ)
  pub output : Option (List ℕ)

abbrev pub streams_of : Option (List ℕ) → Option (List ℕ) → Streams
streams_of input output = record { input = input; output = output }

-- these are the bytes that are exposed, if any are
abbrev pub IsTold : Option (List ℕ) → List ℕ → Type 0
IsTold None bytes = Unit {0}
IsTold (Some told) bytes = bytes ≡ told

-- if bytes were exposed before, these are exposed now
abbrev pub Becomes : Option (List ℕ) → Option (List ℕ) → List ℕ → Type 0
Becomes None after bytes = Unit {0}
Becomes (Some told) after bytes = after ≡ Some bytes

-- if they expose it: this is left of the input, and this was added to the output
pub record Leaves (before after : Streams) (rest added : List ℕ) : Type 0 where
  pub input : Becomes before.input after.input rest
  pub output : Writes before.output after.output added

-- an input whose remaining bytes are unknown counts as one with exactly the bytes that are taken: none is left
abbrev pub IsSpent : Option (List ℕ) → List ℕ → Type 0
IsSpent None rest = rest ≡ []
IsSpent (Some told) rest = Unit {0}

-- if the input's remaining bytes are known: these were the first bytes that it had left, and the others are left now
abbrev pub GivesInput : Option (List ℕ) → Option (List ℕ) → List ℕ → Type 0
GivesInput None after taken = Unit {0}
GivesInput (Some told) after taken = (rest : List ℕ) × (told ≡ taken ++ rest) × (after ≡ Some rest)
