-- Calls that are to fail by their numbers, which begin at 1 (a convention of this project).
use Rattle.std.specs.Prelude.{ℕ, ◌+◌, ◌==◌, List, Bool}
use Rattle.std.specs.List.{list_any}
use Rattle.cf_io.specs.Causes.{raised}

-- the numbers of the calls that fail, and how many calls were made
pub record Calls : Type 0 where
  pub fails : List ℕ
  pub made : ℕ

-- before the first call
abbrev pub no_calls : List ℕ → Calls
no_calls fails = record { fails = fails; made = 0 }

-- whether the next call is to fail
unfoldable pub fails_next : Calls → Bool
fails_next calls = list_any (λ number. number == calls.made + 1) calls.fails

-- after one more call
abbrev pub after_call : Calls → Calls
after_call calls = record calls { made = raised calls.made }
