-- Which stream stopped a run: an error if it failed the run.
use Rattle.std.specs.Prelude.{Option, Some, Result, Ok, Err}
use Rattle.run_finishes.specs.declared.finish.Ran.{Ran as Answer}
use Rattle.run_finishes.specs.declared.finish.Ran.TheVariants as ran

-- the input
abbrev pub input_stopped : Option Answer → Result (Unit {0}) (Unit {0})
input_stopped (Some ran.ReadFault) = Err tt
input_stopped answer = Ok tt

-- the output
abbrev pub output_stopped : Option Answer → Result (Unit {0}) (Unit {0})
output_stopped (Some ran.WriteFault) = Err tt
output_stopped answer = Ok tt

-- the report
abbrev pub report_stopped : Option Answer → Result (Unit {0}) (Unit {0})
report_stopped (Some ran.ReportFault) = Err tt
report_stopped answer = Ok tt
