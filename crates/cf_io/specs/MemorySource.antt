-- A source in memory, which gives its bytes in pieces (a convention of this project).
use Rattle.std.specs.Prelude.{ℕ, ◌==◌, List, Bool, if◌then◌else◌, ◌&&◌, not, min, drop, length}
use Rattle.cf_io.specs.Causes.{raised}
use Rattle.cf_io.specs.FailingCalls.{Calls, no_calls, fails_next, after_call}

-- the remaining bytes, how many a call gives at most, the calls so far, the count of faults
pub record MemorySource : Type 0 where
  pub left : List ℕ
  pub piece : ℕ
  pub calls : Calls
  pub faults : ℕ

-- before the first call
abbrev pub source_at_start : List ℕ → ℕ → List ℕ → MemorySource
source_at_start bytes piece fails = record {
  left = bytes;
  piece = piece;
  calls = no_calls fails;
  faults = 0;
}

-- the minimum of the room, what is left, and the piece
abbrev pub piece_size : MemorySource → ℕ → ℕ
piece_size source room = min (min room (length source.left)) source.piece

-- whether a take into this much room fails
unfoldable pub take_fails : MemorySource → ℕ → Bool
take_fails source room = not (room == 0) && fails_next source.calls

-- after a take into this much room, which is counted if there is any
unfoldable pub after_take : MemorySource → ℕ → MemorySource
after_take source room =
    if room == 0 then source
    else if fails_next source.calls then record source {
      calls = after_call source.calls;
      faults = raised source.faults;
    }
    else record source {
      calls = after_call source.calls;
      left = drop (piece_size source room) source.left;
    }
