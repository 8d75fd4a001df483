-- What an environment call leaves if one of the streams failed it, and how the streams count this fault.
use Rattle.std.specs.Prelude.{◌≡◌, ℕ, List, IsTrue, Some, Result, Ok, Err}
use Rattle.cf_io.specs.Puts.{WritesFront}
use Rattle.mem_regions.specs.Memory.{Memory}
use Rattle.mem_regions.specs.Ranges.{range_of}
use Rattle.rv_machine.specs.declared.outcome.Stepped.{Stepped}
use Rattle.rv_machine.specs.declared.outcome.Stepped.TheVariants as stepped
use Rattle.rv_machine.specs.declared.outcome.Served.{Served}
use Rattle.rv_machine.specs.declared.outcome.Served.TheVariants as served
use Rattle.rv_machine.specs.Call.{second_argument, third_argument, asks_input, asks_output}
use Rattle.rv_machine.specs.Streams.{Streams}
use Rattle.rv_machine.specs.Buffers.{TakesInto}

-- the call used the input, which failed after some bytes; what the output exposes is unchanged
pub record FailsReading (regs : List ℕ) (mem new : Memory) (before after : Streams) : Type 0 where
  pub asks : IsTrue (asks_input regs mem)
  pub taken : List ℕ
  pub takes : TakesInto (second_argument regs) (third_argument regs) mem new
      before.input after.input taken
  pub output : after.output ≡ before.output

-- the call used the output, which failed after a prefix of the buffer's bytes; what the input exposes is unchanged
pub record FailsWriting (regs : List ℕ) (mem : Memory) (before after : Streams) : Type 0 where
  pub asks : IsTrue (asks_output regs mem)
  pub bytes : List ℕ
  pub buffer : range_of mem (second_argument regs) (third_argument regs) ≡ Some bytes
  pub output : WritesFront before.output after.output bytes
  pub input : after.input ≡ before.input

-- an error if the input failed the call
abbrev pub input_served : Served → Result (Unit {0}) (Unit {0})
input_served served.ReadFault = Err tt
input_served served.WriteFault = Ok tt
input_served (served.Value value) = Ok tt
input_served (served.Exit status) = Ok tt

-- an error if the output failed the call
abbrev pub output_served : Served → Result (Unit {0}) (Unit {0})
output_served served.ReadFault = Ok tt
output_served served.WriteFault = Err tt
output_served (served.Value value) = Ok tt
output_served (served.Exit status) = Ok tt

-- an error if the input failed the step
abbrev pub input_stepped : Stepped → Result (Unit {0}) (Unit {0})
input_stepped (stepped.Next line) = Ok tt
input_stepped (stepped.Trap cause pc detail) = Ok tt
input_stepped (stepped.Exit status) = Ok tt
input_stepped stepped.ReadFault = Err tt
input_stepped stepped.WriteFault = Ok tt

-- an error if the output failed the step
abbrev pub output_stepped : Stepped → Result (Unit {0}) (Unit {0})
output_stepped (stepped.Next line) = Ok tt
output_stepped (stepped.Trap cause pc detail) = Ok tt
output_stepped (stepped.Exit status) = Ok tt
output_stepped stepped.ReadFault = Ok tt
output_stepped stepped.WriteFault = Err tt
