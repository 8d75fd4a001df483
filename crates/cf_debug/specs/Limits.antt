-- The limits of a session (of this project).
use Rattle.std.specs.Prelude.{ℕ, ◌==◌, min, if◌then◌else◌}

-- the maximum number of bytes of all commands
abbrev pub most_bytes : ℕ
most_bytes = 16777216

-- the maximum number of bytes of one line
abbrev pub longest_line : ℕ
longest_line = 256

-- the maximum number of bytes that one take asks for
abbrev pub most_taken : ℕ
most_taken = 4096

-- how many bytes a take asks for if this many may still be taken: one if none may, to see whether there are more
abbrev pub room_for : ℕ → ℕ
room_for left = if left == 0 then 1 else min left most_taken

-- the maximum number of instructions that retire
abbrev pub most_retired : ℕ
most_retired = 10000000

-- the maximum number of moves of one command
abbrev pub most_auto_moves : ℕ
most_auto_moves = 1000000

-- the capacity of the ring, in records
abbrev pub most_kept : ℕ
most_kept = 1024
