-- The grammar of the project's command line: accepted arguments, what they ask for, and the first unexpected argument.
use Rattle.std.specs.Prelude.{◌≡◌, ◌≤◌, ◌+◌, ℕ, List, [], ◌∷◌, ◌++◌, codes, length, map, take, nat_eq, Bool, true, false, Option, Some, None, IfSome, option_map, if◌then◌else◌}
use Rattle.std.specs.List.{list_all}
use Rattle.std.specs.Option.{unwrap_or}
use lib.Pointwise.{pointwise}
use Rattle.run_options.specs.Limits.{most_issues, most_limit, most_states, most_statements, most_timed_limit}
use Rattle.run_options.specs.declared.guess_rule.GuessRule.{GuessRule}
use Rattle.run_options.specs.declared.guess_rule.GuessRule.TheVariants as rules
use Rattle.run_options.specs.declared.reporting.Reporting.{Reporting}
use Rattle.run_options.specs.declared.show.Show.{Show}
use Rattle.run_options.specs.declared.show.Show.TheVariants as shows
use Rattle.run_options.specs.declared.time_show.TimeShow.{TimeShow}
use Rattle.run_options.specs.declared.time_show.TimeShow.TheVariants as time_shows
use Rattle.cli_arguments.specs.declared.names.CommandName.{CommandName}
use Rattle.cli_arguments.specs.declared.names.CommandName.TheVariants as names
use Rattle.cli_arguments.specs.declared.command.OrdersOptions.{OrdersOptions}
use Rattle.cli_arguments.specs.declared.shown.Shown.{Shown}
use Rattle.cli_arguments.specs.declared.shown.Shown.TheVariants as shown
use Rattle.cli_arguments.specs.Values.{count_in}
use Rattle.cli_arguments.specs.Commands.{command_name, fewest, most, is_positional, topic_in}
use Rattle.cli_arguments.specs.Options.{Setting, setting_arguments, takes_setting, default_issues, default_limit, default_states, NoneTwice, Schedule, by_rule, Given, given_in, by_script, by_seed}

-- the arguments are a command's, with its positional arguments and after them options of that command, no two of which
-- exclude each other
pub record IsCommand (arguments : List (List ℕ)) (name : CommandName) (positional : List (List ℕ))
    (settings : List Setting) : Type 0 where
  pub arguments_are : arguments ≡ command_name name ∷ (positional ++ setting_arguments settings)
  pub enough : fewest name ≤ length positional
  pub few : length positional ≤ most name
  pub placed : list_all (is_positional name) positional ≡ true
  pub taken : list_all (takes_setting name) settings ≡ true
  pub none_twice : NoneTwice settings

-- where a layout is: built in, or in a file
pub data NamedLayout : Type 0 where
  plain : NamedLayout
  in_file : (name : List ℕ) → NamedLayout

-- the argument `plain` names the built-in layout, and any other argument names a file
abbrev pub layout_in : List ℕ → NamedLayout
layout_in argument = if pointwise nat_eq argument (codes "plain") then plain else in_file argument

-- what the options of `time` say
pub record TimeChoices : Type 0 where
  pub limit : ℕ
  pub rule : GuessRule
  pub seed : Option ℕ
  pub show : TimeShow
  pub input : Option (List ℕ)

-- what arguments ask for: a command, the files that they name, and what the options say; `every` is the number of
-- retired instructions after which the report says each time how far the run has come
pub data Asked : Type 0 where
  machine : (program : List ℕ) (limit : ℕ) (retired : Bool) (mul : Bool) (every : Option ℕ) → Asked
  run : NamedLayout → (program : List ℕ) → Schedule → (limit : ℕ) → Reporting → Asked
  moves : NamedLayout → (program : List ℕ) → Schedule → (limit : ℕ) (every : Option ℕ) → Asked
  rounds : NamedLayout → (program : List ℕ) (limit : ℕ) (every : Option ℕ) (rule : GuessRule) → Asked
  orders : NamedLayout → (program : List ℕ) → OrdersOptions → Asked
  conform : NamedLayout → (program : List ℕ) (limit : ℕ) → Asked
  debug : NamedLayout → (program : List ℕ) → Asked
  time : (delays : List ℕ) (program : List ℕ) (layouts : List NamedLayout) → TimeChoices → Asked
  audit : NamedLayout → (program : List ℕ) (trace : List ℕ) → Asked
  check : NamedLayout → Asked
  asm : (source : List ℕ) → Asked
  listing : (program : List ℕ) → Asked
  gen : (number : ℕ) (runs : Bool) → Asked
  help : Asked
  help_on : CommandName → Asked
  version : Asked

-- the limit that is given, or the default one
abbrev pub limit_of : Given → ℕ
limit_of given = unwrap_or given.limit default_limit

-- what is shown of a run: the report alone if nothing is given
abbrev pub run_show_of : Option Shown → Show
run_show_of (Some shown.Retired) = shows.Retired
run_show_of (Some shown.Moves) = shows.Moves
run_show_of _ = shows.Report

-- what a run writes to the report before its closing lines
abbrev pub reporting_of : Given → Reporting
reporting_of given = record { show = run_show_of given.show; every = given.every }

-- what is shown of the run of a layout when times are compared
abbrev pub time_show_of : Option Shown → TimeShow
time_show_of (Some shown.Sites) = time_shows.Sites
time_show_of (Some shown.Moves) = time_shows.Moves
time_show_of _ = time_shows.Nothing

-- whether the edges of a search are shown
abbrev pub shows_edges : Option Shown → Bool
shows_edges (Some shown.Edges) = true
shows_edges _ = false

-- the guess rule, which keeps every guess if none is given
abbrev pub guess_rule_of : Given → GuessRule
guess_rule_of given = unwrap_or given.guess rules.Any

-- the schedule, by the script and the seed that may be given: the fixed rule if neither is
abbrev pub schedule_by : GuessRule → Option (List ℕ) → Option ℕ → Schedule
schedule_by rule (Some file) seed = by_script file
schedule_by rule None (Some seed) = by_seed seed rule
schedule_by rule None None = by_rule rule

abbrev pub schedule_of : Given → Schedule
schedule_of given = schedule_by (guess_rule_of given) given.script given.seed

-- what the options of `time` and of `orders` say
abbrev pub times_of : Given → TimeChoices
times_of given = record {
  limit = limit_of given;
  rule = guess_rule_of given;
  seed = given.seed;
  show = time_show_of given.show;
  input = given.input;
}

abbrev pub orders_options_of : Given → OrdersOptions
orders_options_of given = record {
  issues = unwrap_or given.issues default_issues;
  states = unwrap_or given.states default_states;
  without = given.without;
  show_edges = shows_edges given.show;
}

-- whether retired instructions are shown
abbrev pub is_retired : Show → Bool
is_retired shows.Retired = true
is_retired _ = false

-- what a command asks for with its positional arguments and its options; nothing if an argument is missing, which for
-- `moves` may be the script
abbrev pub asked_by : CommandName → List (List ℕ) → Given → Option Asked
asked_by names.Machine (program ∷ []) given =
    Some (machine program (limit_of given) (is_retired (run_show_of given.show)) given.mul given.every)
asked_by names.Run (layout ∷ program ∷ []) given =
    Some (run (layout_in layout) program (schedule_of given) (limit_of given) (reporting_of given))
asked_by names.Moves (layout ∷ program ∷ []) given =
    option_map (λ file. moves (layout_in layout) program (by_script file) (limit_of given) given.every) given.script
asked_by names.Rounds (layout ∷ program ∷ []) given =
    Some (rounds (layout_in layout) program (limit_of given) given.every (guess_rule_of given))
asked_by names.Orders (layout ∷ program ∷ []) given = Some (orders (layout_in layout) program (orders_options_of given))
asked_by names.Conform (layout ∷ program ∷ []) given =
    Some (conform (layout_in layout) program (limit_of given))
asked_by names.Debug (layout ∷ program ∷ []) given = Some (debug (layout_in layout) program)
asked_by names.Time (delays ∷ program ∷ layout ∷ layouts) given =
    Some (time delays program (map layout_in (layout ∷ layouts)) (times_of given))
asked_by names.Audit (layout ∷ program ∷ trace ∷ []) given = Some (audit (layout_in layout) program trace)
asked_by names.Check (layout ∷ []) given = Some (check (layout_in layout))
asked_by names.Asm (source ∷ []) given = Some (asm source)
asked_by names.List (program ∷ []) given = Some (listing program)
asked_by names.Gen (argument ∷ []) given = option_map (λ number. gen number given.run) (count_in argument)
asked_by names.Help [] given = Some help
asked_by names.Help (argument ∷ []) given = option_map help_on (topic_in argument)
asked_by names.HelpOption [] given = Some help
asked_by names.HelpLetter [] given = Some help
asked_by names.Version [] given = Some version
asked_by names.VersionLetter [] given = Some version
asked_by _ _ _ = None

-- the arguments are accepted, and ask for this
pub record Asks (arguments : List (List ℕ)) (asked : Asked) : Type 0 where
  pub name : CommandName
  pub positional : List (List ℕ)
  pub settings : List Setting
  pub command : IsCommand arguments name positional settings
  pub means : asked_by name positional (given_in settings) ≡ Some asked

-- an amount after which the report says each time how far a run has come
abbrev pub IsStep : ℕ → Type 0
IsStep every = (1 ≤ every) × (every ≤ most_limit)

-- the requested numbers are within their bounds
abbrev pub IsBounded : Asked → Type 0
IsBounded (machine program limit retired mul every) = (limit ≤ most_limit) × IfSome every IsStep
IsBounded (run layout program schedule limit reporting) = (limit ≤ most_limit) × IfSome reporting.every IsStep
IsBounded (moves layout program schedule limit every) = (limit ≤ most_limit) × IfSome every IsStep
IsBounded (rounds layout program limit every rule) = (limit ≤ most_limit) × IfSome every IsStep
IsBounded (orders layout program options) =
    (1 ≤ options.issues) × (options.issues ≤ most_issues) × (1 ≤ options.states) × (options.states ≤ most_states)
IsBounded (conform layout program limit) = limit ≤ most_limit
IsBounded (time delays program layouts options) =
    (options.limit ≤ most_timed_limit) × (1 ≤ length layouts) × (length layouts ≤ 8)
IsBounded (gen number runs) = (1 ≤ number) × (number ≤ most_statements)
IsBounded _ = Unit {0}

-- the arguments before this index begin those of some command; together with the argument at the index, or if there is
-- none there, they are not the beginning of any command's
pub record IsBadAt (arguments : List (List ℕ)) (index : ℕ) : Type 0 where
  pub within : index ≤ length arguments
  pub begun : (command : List (List ℕ)) × (asked : Asked) × Asks command asked
      × (take index command ≡ take index arguments)
  pub no_further : (command : List (List ℕ)) (asked : Asked) → Asks command asked →
      take (index + 1) command ≡ take (index + 1) arguments → ⊥
