-- How the arguments of the command line are read one by one: what is known after each, and which arguments may follow.
use Rattle.std.specs.Prelude.{ℕ, ◌+◌, List, codes, take, drop, nat_le, nat_lt, Bool, true, false, not, ◌&&◌, ◌||◌, Option, Some, None, option_map, if◌then◌else◌}
use Rattle.run_options.specs.Limits.{most_issues, most_limit, most_states}
use Rattle.run_options.specs.declared.guess_rule.GuessRule.{GuessRule}
use Rattle.run_options.specs.declared.guess_rule.GuessRule.TheVariants as rules
use Rattle.order_rules.specs.Rules.{rule_named}
use Rattle.cli_arguments.specs.declared.names.CommandName.{CommandName}
use Rattle.cli_arguments.specs.declared.options.Key.{Key}
use Rattle.cli_arguments.specs.declared.options.Key.TheVariants as keys
use Rattle.cli_arguments.specs.declared.reading.Subject.{Subject}
use Rattle.cli_arguments.specs.declared.shown.Shown.{Shown}
use Rattle.cli_arguments.specs.declared.shown.Shown.TheVariants as shows
use Rattle.cli_arguments.specs.Values.{amount_in, is_file_name, number_up_to, positive_in}
use Rattle.cli_arguments.specs.Commands.{fewest, most, is_positional, is_text, name_in}
use Rattle.cli_arguments.specs.Options.{takes_key, can_show, most_limit_of, most_seed, Given}
use Rattle.cli_arguments.specs.Arguments.{Asked, asked_by}

-- the option whose name it is
unfoldable pub key_in : List ℕ → Option Key
key_in argument =
    if is_text argument (codes "--limit") then Some keys.Limit
    else if is_text argument (codes "--every") then Some keys.Every
    else if is_text argument (codes "--show") then Some keys.Show
    else if is_text argument (codes "--script") then Some keys.Script
    else if is_text argument (codes "--seed") then Some keys.Seed
    else if is_text argument (codes "--guess") then Some keys.Guess
    else if is_text argument (codes "--input") then Some keys.Input
    else if is_text argument (codes "--issues") then Some keys.Issues
    else if is_text argument (codes "--states") then Some keys.States
    else if is_text argument (codes "--without") then Some keys.Without
    else if is_text argument (codes "--mul") then Some keys.Mul
    else if is_text argument (codes "--run") then Some keys.Run
    else None

-- what is to be shown, by an argument
unfoldable pub shown_in : List ℕ → Option Shown
shown_in argument =
    if is_text argument (codes "report") then Some shows.Report
    else if is_text argument (codes "retired") then Some shows.Retired
    else if is_text argument (codes "moves") then Some shows.Moves
    else if is_text argument (codes "sites") then Some shows.Sites
    else if is_text argument (codes "edges") then Some shows.Edges
    else None

-- the guess rule that an argument names
unfoldable pub rule_in : List ℕ → Option GuessRule
rule_in argument =
    if is_text argument (codes "any") then Some rules.Any
    else if is_text argument (codes "next") then Some rules.Next
    else if is_text argument (codes "taken") then Some rules.Taken
    else if is_text argument (codes "backward") then Some rules.Backward
    else if is_text argument (codes "wait") then Some rules.Wait
    else None

-- no option yet
abbrev pub nothing_given : Given
nothing_given = record {
  limit = None;
  every = None;
  show = None;
  script = None;
  seed = None;
  guess = None;
  input = None;
  issues = None;
  states = None;
  without = None;
  mul = false;
  run = false;
}

-- whether there is a value
abbrev pub is_there : {A : Type 0} → Option A → Bool
is_there None = false
is_there (Some x) = true

-- whether an option that excludes this one has been given
abbrev pub has_key : Given → Key → Bool
has_key given keys.Limit = is_there given.limit
has_key given keys.Every = is_there given.every
has_key given keys.Show = is_there given.show
has_key given keys.Script = is_there given.script || (is_there given.seed || is_there given.guess)
has_key given keys.Seed = is_there given.seed || is_there given.script
has_key given keys.Guess = is_there given.guess || is_there given.script
has_key given keys.Input = is_there given.input
has_key given keys.Issues = is_there given.issues
has_key given keys.States = is_there given.states
has_key given keys.Without = is_there given.without
has_key given keys.Mul = given.mul
has_key given keys.Run = given.run

-- what is known after the arguments that were read: nothing yet, a command with that many positional arguments, options
-- after these, or an option whose value comes next
pub data ReadingState : Type 0 where
  start : ReadingState
  placed : Subject → ReadingState
  options : Subject → Given → ReadingState
  valued : Subject → Given → Key → ReadingState

-- something under a condition
abbrev pub when : {A : Type 0} → Bool → A → Option A
when true x = Some x
when false x = None

-- a command without positional arguments yet, and the command with one more
abbrev pub unplaced : CommandName → Subject
unplaced name = record { name = name; count = 0 }

abbrev pub one_place_more : Subject → Subject
one_place_more subject = record { name = subject.name; count = subject.count + 1 }

-- after the first argument
abbrev pub after_name : Option CommandName → Option ReadingState
after_name None = None
after_name (Some name) = Some (placed (unplaced name))

-- after an option's own name
abbrev pub after_key : Subject → Given → Key → ReadingState
after_key subject given keys.Mul = options subject (record given { mul = true })
after_key subject given keys.Run = options subject (record given { run = true })
after_key subject given key = valued subject given key

-- the same, if the command has the option and no option that excludes it has been given
abbrev pub after_option : Subject → Given → Option Key → Option ReadingState
after_option subject given None = None
after_option subject given (Some key) =
    when (takes_key subject.name key && not (has_key given key)) (after_key subject given key)

-- whether one more positional argument may follow, and this is one
abbrev pub has_place : Subject → List ℕ → Bool
has_place subject argument = nat_lt subject.count (most subject.name) && is_positional subject.name argument

-- after one more positional argument, or after the first option's own name if there are enough of them
abbrev pub after_place : Subject → List ℕ → Option ReadingState
after_place subject argument =
    if has_place subject argument then Some (placed (one_place_more subject))
    else if nat_le (fewest subject.name) subject.count then after_option subject nothing_given (key_in argument)
    else None

-- what the command can show of it
abbrev pub showable : CommandName → Option Shown → Option Shown
showable name None = None
showable name (Some shown) = when (can_show name shown) shown

-- what is given with one more value
unfoldable pub given_with_value : CommandName → Given → Key → List ℕ → Option Given
given_with_value name given keys.Limit argument =
    option_map (λ limit. record given { limit = Some limit }) (amount_in 0 (most_limit_of name) argument)
given_with_value name given keys.Every argument =
    option_map (λ every. record given { every = Some every }) (amount_in 1 most_limit argument)
given_with_value name given keys.Show argument = option_map (λ shown. record given { show = Some shown }) (showable name (shown_in argument))
given_with_value name given keys.Script argument = when (is_file_name argument) (record given { script = Some argument })
given_with_value name given keys.Seed argument =
    option_map (λ seed. record given { seed = Some seed }) (number_up_to most_seed argument)
given_with_value name given keys.Guess argument = option_map (λ rule. record given { guess = Some rule }) (rule_in argument)
given_with_value name given keys.Input argument = when (is_file_name argument) (record given { input = Some argument })
given_with_value name given keys.Issues argument =
    option_map (λ issues. record given { issues = Some issues }) (positive_in most_issues argument)
given_with_value name given keys.States argument =
    option_map (λ states. record given { states = Some states }) (positive_in most_states argument)
given_with_value name given keys.Without argument =
    option_map (λ rule. record given { without = Some rule }) (rule_named argument)
given_with_value name given keys.Mul argument = None
given_with_value name given keys.Run argument = None

-- after an option's value
abbrev pub after_value : Subject → Option Given → Option ReadingState
after_value subject None = None
after_value subject (Some given) = Some (options subject given)

-- what is known after one more argument; none if the argument is unexpected
unfoldable pub follow : ReadingState → List ℕ → Option ReadingState
follow start argument = after_name (name_in argument)
follow (placed subject) argument = after_place subject argument
follow (options subject given) argument = after_option subject given (key_in argument)
follow (valued subject given key) argument = after_value subject (given_with_value subject.name given key argument)

-- the positional arguments: that many arguments after the first
abbrev pub positional_in : ℕ → List (List ℕ) → List (List ℕ)
positional_in count arguments = take count (drop 1 arguments)

-- what is asked for if no argument is left; none if one is missing
unfoldable pub completed : List (List ℕ) → ReadingState → Option Asked
completed arguments start = None
completed arguments (placed subject) = asked_by subject.name (positional_in subject.count arguments) nothing_given
completed arguments (options subject given) = asked_by subject.name (positional_in subject.count arguments) given
completed arguments (valued subject given key) = None
