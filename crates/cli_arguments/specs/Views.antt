-- What contracts see of the types that borrow arguments of the command line: the bytes of those arguments.
use Rattle.std.specs.Prelude.{map, string_bytes, option_map}
use Rattle.cli_arguments.specs.declared.options.Options.{Options}
use Rattle.cli_arguments.specs.declared.options.Schedule as rust_schedule
use Rattle.cli_arguments.specs.declared.options.Schedule.TheVariants as schedules
use Rattle.cli_arguments.specs.declared.reading.ArgumentReading as rust_reading
use Rattle.cli_arguments.specs.declared.reading.ArgumentReading.TheVariants as readings
use Rattle.cli_arguments.specs.declared.command.Command.{Command}
use Rattle.cli_arguments.specs.declared.command.Command.TheVariants as commands
use Rattle.cli_arguments.specs.declared.command.TimeOptions.{TimeOptions}
use Rattle.cli_arguments.specs.declared.command.LayoutArgument.{LayoutArgument}
use Rattle.cli_arguments.specs.declared.command.LayoutArgument.TheVariants as layout_arguments
use Rattle.cli_arguments.specs.Options.{Schedule, by_script, by_seed, by_rule, Given}
use Rattle.cli_arguments.specs.Arguments.{NamedLayout, plain, in_file, layout_in, Asked, TimeChoices, machine, run, moves, rounds, orders, conform, debug, time, audit, check, asm, listing, gen, help, version, help_on}
use Rattle.cli_arguments.specs.Reading.{ReadingState, start, placed, options, valued}

-- what chooses the moves
abbrev pub schedule_view : rust_schedule.Schedule → Schedule
schedule_view (schedules.Script file) = by_script file.now
schedule_view (schedules.Seed seed rule) = by_seed seed rule
schedule_view (schedules.Rule rule) = by_rule rule

-- what the options give
abbrev pub given_of : Options → Given
given_of o = record {
  limit = o.limit;
  every = o.every;
  show = o.show;
  script = option_map (λ file. file.now) o.script;
  seed = o.seed;
  guess = o.guess;
  input = option_map (λ file. file.now) o.input;
  issues = o.issues;
  states = o.states;
  without = o.without;
  mul = o.mul;
  run = o.run;
}

-- what is known after the arguments that were read
abbrev pub reading_state_of : rust_reading.ArgumentReading → ReadingState
reading_state_of readings.Start = start
reading_state_of (readings.Placed subject) = placed subject
reading_state_of (readings.Options subject given) = options subject (given_of given)
reading_state_of (readings.Value subject given key) = valued subject (given_of given) key

-- where a layout is
abbrev pub layout_of : LayoutArgument → NamedLayout
layout_of layout_arguments.Plain = plain
layout_of (layout_arguments.File name) = in_file name.now

-- what the options of `time` say
abbrev pub times_view : TimeOptions → TimeChoices
times_view o = record {
  limit = o.limit;
  rule = o.rule;
  seed = o.seed;
  show = o.show;
  input = option_map (λ file. file.now) o.input;
}

-- what a command asks
abbrev pub asked_of : Command → Asked
asked_of (commands.Machine program chosen) =
    machine program.now chosen.limit chosen.show_retired chosen.mul chosen.every
asked_of (commands.Run layout program chosen) =
    run (layout_of layout) program.now (schedule_view chosen.schedule) chosen.limit chosen.reporting
asked_of (commands.Moves layout program schedule limit every) =
    moves (layout_of layout) program.now (schedule_view schedule) limit every
asked_of (commands.Rounds layout program limit every rule) = rounds (layout_of layout) program.now limit every rule
asked_of (commands.Orders layout program chosen) = orders (layout_of layout) program.now chosen
asked_of (commands.Conform layout program limit) = conform (layout_of layout) program.now limit
asked_of (commands.Debug layout program) = debug (layout_of layout) program.now
asked_of (commands.Time delays program layouts chosen) =
    time delays.now program.now (map layout_in (map string_bytes layouts.now)) (times_view chosen)
asked_of (commands.Audit layout program trace) = audit (layout_of layout) program.now trace.now
asked_of (commands.Check layout) = check (layout_of layout)
asked_of (commands.Asm source) = asm source.now
asked_of (commands.List program) = listing program.now
asked_of (commands.Gen number runs) = gen number runs
asked_of commands.Help = help
asked_of (commands.HelpOn name) = help_on name
asked_of commands.Version = version
