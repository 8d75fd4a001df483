-- Which answers say that a file, the program's input or its output failed.
use Rattle.std.specs.Prelude.{Result, Ok, Err}
use Rattle.cli_files.specs.declared.answer.Answer.{Answer}
use Rattle.cli_files.specs.declared.status.Status.{Status}
use Rattle.cli_files.specs.declared.status.Status.TheVariants as status
use Rattle.cli_files.specs.declared.status.Which.TheVariants as which

-- an error if the answer is that the program's input failed
abbrev pub input_answered : Status → Result (Unit {0}) (Unit {0})
input_answered (status.ReadFault which.Input) = Err tt
input_answered (status.ReadFault which.Layout) = Ok tt
input_answered (status.ReadFault which.Program) = Ok tt
input_answered (status.ReadFault which.Script) = Ok tt
input_answered (status.ReadFault which.Source) = Ok tt
input_answered (status.ReadFault which.Delays) = Ok tt
input_answered (status.ReadFault which.Trace) = Ok tt
input_answered _ = Ok tt

-- an error if the answer is that a file could not be read
abbrev pub files_answered : Status → Result (Unit {0}) (Unit {0})
files_answered (status.ReadFault which.Input) = Ok tt
files_answered (status.ReadFault which.Layout) = Err tt
files_answered (status.ReadFault which.Program) = Err tt
files_answered (status.ReadFault which.Script) = Err tt
files_answered (status.ReadFault which.Source) = Err tt
files_answered (status.ReadFault which.Delays) = Err tt
files_answered (status.ReadFault which.Trace) = Err tt
files_answered _ = Ok tt

-- the same, if the program's input is in a file too
abbrev pub reading_answered : Status → Result (Unit {0}) (Unit {0})
reading_answered (status.ReadFault which) = Err tt
reading_answered _ = Ok tt

-- an error if that is the answer given instead of a file's contents
abbrev pub files_read : {T : Type 0} → Result T Answer → Result (Unit {0}) (Unit {0})
files_read (Ok x) = Ok tt
files_read (Err answer) = files_answered answer.status

-- the same, if the program's input is in a file too
abbrev pub reading_failed : {T : Type 0} → Result T Answer → Result (Unit {0}) (Unit {0})
reading_failed (Ok x) = Ok tt
reading_failed (Err answer) = reading_answered answer.status

-- an error if the answer is that the program's output failed
abbrev pub output_answered : Status → Result (Unit {0}) (Unit {0})
output_answered status.WriteFault = Err tt
output_answered _ = Ok tt
