-- Bytes that are gathered before they are written to a sink, in larger pieces (a convention of this project).
use Rattle.std.specs.Prelude.{◌≡◌, ◌<◌, ℕ, List, [], ◌++◌, length, Bool, false, Option, Some, None, Result, OnOk, OnErr}

-- a sink; the bytes that were gathered and not yet passed on to it; how many more there is room for; and whether bytes
-- are gathered at all
pub record Gathering (K : Type 0) : Type 0 where
  pub sink : K
  pub kept : List ℕ
  pub room : ℕ
  pub gathers : Bool

-- what a sink has received, if it exposes that, followed by these bytes
abbrev pub followed_by : Option (List ℕ) → List ℕ → Option (List ℕ)
followed_by None kept = None
followed_by (Some written) kept = Some (written ++ kept)

-- what was written to the gathering sink, given how the next sink exposes what it has received
abbrev pub written_by : {K : Type 0} → (K → Option (List ℕ)) → Gathering K → Option (List ℕ)
written_by written g = followed_by (written g.sink) g.kept

-- before the first byte; at first each byte is passed on at once
abbrev pub gathers_for : {K : Type 0} → K → Gathering K
gathers_for sink = record { sink = sink; kept = []; room = 4096; gathers = false }

-- all that was gathered was passed on, and there is room again; or some of it is still kept
pub record PassesOn {K T E : Type 0} (after : Gathering K) (result : Result T E) : Type 0 where
  pub all : OnOk result (after.kept ≡ [])
  pub room : OnOk result (after.room ≡ 4096)
  pub some : OnErr result (0 < length after.kept)
