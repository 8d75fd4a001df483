-- A sink in memory, of fixed capacity (a convention of this project).
use Rattle.std.specs.Prelude.{ℕ, ◌==◌, ◌-◌, List, [], ◌++◌, Bool, if◌then◌else◌, ◌&&◌, ◌||◌, not, min, take, length}
use Rattle.cf_io.specs.Causes.{raised}
use Rattle.cf_io.specs.FailingCalls.{Calls, no_calls, fails_next, after_call}

-- the bytes that were written, the capacity, the calls so far, the count of faults
pub record MemorySink : Type 0 where
  pub written : List ℕ
  pub capacity : ℕ
  pub calls : Calls
  pub faults : ℕ

-- before the first call
abbrev pub empty_sink : ℕ → List ℕ → MemorySink
empty_sink capacity fails = record {
  written = [];
  capacity = capacity;
  calls = no_calls fails;
  faults = 0;
}

-- how many more bytes it can hold
abbrev pub room_of : MemorySink → ℕ
room_of sink = sink.capacity - length sink.written

-- the smaller of the piece and the room
abbrev pub put_size : MemorySink → ℕ → ℕ
put_size sink size = min size (room_of sink)

-- whether a put of this many bytes fails: by its number, or because the sink is full
unfoldable pub put_fails : MemorySink → ℕ → Bool
put_fails sink size = not (size == 0) && (fails_next sink.calls || room_of sink == 0)

-- after a put of these bytes, which is counted if there are any
unfoldable pub after_put : MemorySink → List ℕ → MemorySink
after_put sink bytes =
    if length bytes == 0 then sink
    else if put_fails sink (length bytes) then record sink {
      calls = after_call sink.calls;
      faults = raised sink.faults;
    }
    else record sink {
      calls = after_call sink.calls;
      written = sink.written ++ take (put_size sink (length bytes)) bytes;
    }
