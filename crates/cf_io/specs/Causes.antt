-- Counts of faults: each failure has its cause in a count that rose (a convention of this project).
use Rattle.std.specs.Prelude.{◌≡◌, ℕ, ◌+◌, ◌-◌, ◌^◌, ◌≤◌, min, Result, Ok, Err, OnOk, OnErr}

-- one more, up to the maximum of u64
abbrev pub raised : ℕ → ℕ
raised count = min (count + 1) (2 ^ 64 - 1)

-- one more failure is counted
abbrev pub Rose : ℕ → ℕ → Type 0
Rose before now = now ≡ raised before

-- the count never falls; one failure is counted if there is an error, and none otherwise: so no further call failed
-- after the first that did
pub record HasCause {T E : Type 0} (before now : ℕ) (result : Result T E) : Type 0 where
  pub never_falls : before ≤ now
  pub rose : OnErr result (Rose before now)
  pub still : OnOk result (now ≡ before)
