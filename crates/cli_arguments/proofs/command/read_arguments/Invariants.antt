-- The arguments before the index are read.
use Rattle.std.proofs.Common.{◌≡◌, map, string_bytes, take, Some}
use Rattle.cli_arguments.specs.Reading.{start}
use Rattle.cli_arguments.specs.Views.{reading_state_of}
use Rattle.cli_arguments.proofs.InTurn.{reads}
use Rattle.cli_arguments.proofs.command.read_arguments.Given as goal

abbrev pub invariant-loop-argument : goal.invariant-loop-argument
invariant-loop-argument l = record {
  counted : l.index ≡ l.argument-index;
  read : reads start (take l.index (map string_bytes l.arguments)) ≡ Some (reading_state_of l.reading);
}
