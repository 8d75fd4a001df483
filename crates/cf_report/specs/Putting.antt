-- What a call that writes a text to a report does (a convention of this project).
use Rattle.std.specs.Prelude.{◌≡◌, ◌≤◌, ℕ, List, ◌++◌, take, length, Option, Some, None, Result, OnOk, OnErr}
use Rattle.cf_io.specs.Causes.{HasCause}
use Rattle.cf_io.specs.Puts.{Writes, WritesFront}

-- if the report exposes what was written: a prefix of these bytes, or all of them, was added to it
abbrev pub WritesPart : Option (List ℕ) → Option (List ℕ) → List ℕ → Type 0
WritesPart None after bytes = Unit {0}
WritesPart (Some written) after bytes = (n : ℕ) × (n ≤ length bytes) × (after ≡ Some (written ++ take n bytes))

-- what the report exposes before and after, its count of faults before and after, the text and the answer: the whole
-- text was written; or the call failed, a prefix of the text was written, and the count rose
pub record PutsText {T E : Type 0} (written after : Option (List ℕ)) (before now : ℕ) (text : List ℕ) (result : Result T E) : Type 0 where
  pub all : OnOk result (Writes written after text)
  pub front : OnErr result (WritesFront written after text)
  pub cause : HasCause before now result
