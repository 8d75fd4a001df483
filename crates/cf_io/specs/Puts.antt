-- How a call that puts bytes affects what was written (a convention of this project).
use Rattle.std.specs.Prelude.{◌≡◌, ◌≤◌, ◌<◌, ℕ, List, ◌++◌, take, length, Option, Some, None, Result, Ok, IfOk, OnErr}

-- if the sink exposes what was written: exactly these bytes were appended
abbrev pub Writes : Option (List ℕ) → Option (List ℕ) → List ℕ → Type 0
Writes None after bytes = Unit {0}
Writes (Some written) after bytes = after ≡ Some (written ++ bytes)

-- if the sink exposes what was written: a prefix of these bytes, but not all of them, was appended
abbrev pub WritesFront : Option (List ℕ) → Option (List ℕ) → List ℕ → Type 0
WritesFront None after bytes = Unit {0}
WritesFront (Some written) after bytes = (n : ℕ) × (n < length bytes) × (after ≡ Some (written ++ take n bytes))

-- if the sink exposes what was written: nothing was appended
abbrev pub WritesNothing : Option (List ℕ) → Option (List ℕ) → Type 0
WritesNothing None after = Unit {0}
WritesNothing (Some written) after = after ≡ Some written

-- one call of put: what was written before and after, the piece, the answer
pub record Puts {E : Type 0} (written after : Option (List ℕ)) (bytes : List ℕ)
    (result : Result ℕ E) : Type 0 where
  pub count : IfOk result (λ n. n ≤ length bytes)
  pub some : IfOk result (λ n. 0 < length bytes → 0 < n)
  pub told : IfOk result (λ n. Writes written after (take n bytes))
  pub empty : length bytes ≡ 0 → result ≡ Ok 0
  pub unchanged : OnErr result (WritesNothing written after)
