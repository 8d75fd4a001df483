-- The status that the process ends with.
use Rattle.std.specs.Prelude.{ℕ}
use Rattle.cli_files.specs.declared.status.Status.{Status}
use Rattle.cli_files.specs.declared.status.Status.TheVariants as status

-- the code of each status
abbrev pub exit_code : Status → ℕ
exit_code (status.Exit code) = code
exit_code (status.Trap cause pc detail) = 120
exit_code (status.Limit limit) = 121
exit_code (status.ScriptEnd moves) = 0
exit_code status.Done = 0
exit_code (status.BadWords index) = 122
exit_code (status.BadLayout error) = 123
exit_code (status.BadProgram error) = 124
exit_code (status.BadScript fault) = 125
exit_code (status.BarredAt line bar) = 126
exit_code (status.BadSource error) = 127
exit_code (status.ReadFault which) = 128
exit_code status.WriteFault = 129
exit_code status.NoMemory = 130
exit_code (status.BadDelays fault) = 131
exit_code (status.BadTrace fault) = 132
exit_code (status.BadLog refusal) = 134
exit_code (status.LogEnd moves) = 135
exit_code status.Wrong = 136
exit_code (status.TooMany most) = 121
exit_code status.BadInput = 137
