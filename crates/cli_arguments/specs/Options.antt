-- The options of the project's command line: how each is written, which commands have it, and what it gives.
use Rattle.std.specs.Prelude.{◌≡◌, ℕ, List, [], ◌∷◌, ◌++◌, codes, Bool, true, false, ◌&&◌, Option, Some, None}
use Rattle.std.specs.Str.Parse.{digits_value}
use Rattle.run_options.specs.Limits.{most_issues, most_limit, most_states, most_timed_limit}
use Rattle.run_options.specs.declared.guess_rule.GuessRule.{GuessRule}
use Rattle.run_options.specs.declared.guess_rule.GuessRule.TheVariants as rules
use Rattle.order_rules.specs.declared.rule.Rule.{Rule}
use Rattle.order_rules.specs.Rules.{rule_name}
use Rattle.cli_arguments.specs.declared.names.CommandName.{CommandName}
use Rattle.cli_arguments.specs.declared.names.CommandName.TheVariants as names
use Rattle.cli_arguments.specs.declared.options.Key.{Key}
use Rattle.cli_arguments.specs.declared.options.Key.TheVariants as keys
use Rattle.cli_arguments.specs.declared.shown.Shown.{Shown}
use Rattle.cli_arguments.specs.declared.shown.Shown.TheVariants as shows
use Rattle.cli_arguments.specs.Values.{amount_of, is_file_name, is_number_argument, is_positive, is_amount_within}

-- an option, with the value of those that have one
pub data Setting : Type 0 where
  limit_to : (amount : List ℕ) → Setting
  say_every : (amount : List ℕ) → Setting
  show_of : Shown → Setting
  script_from : (file : List ℕ) → Setting
  seed_from : (digits : List ℕ) → Setting
  guess_by : GuessRule → Setting
  input_from : (file : List ℕ) → Setting
  issue_at_most : (digits : List ℕ) → Setting
  reach_at_most : (digits : List ℕ) → Setting
  do_without : Rule → Setting
  with_mul : Setting
  with_run : Setting

-- which option it is
abbrev pub setting_key : Setting → Key
setting_key (limit_to amount) = keys.Limit
setting_key (say_every amount) = keys.Every
setting_key (show_of shown) = keys.Show
setting_key (script_from file) = keys.Script
setting_key (seed_from digits) = keys.Seed
setting_key (guess_by rule) = keys.Guess
setting_key (input_from file) = keys.Input
setting_key (issue_at_most digits) = keys.Issues
setting_key (reach_at_most digits) = keys.States
setting_key (do_without rule) = keys.Without
setting_key with_mul = keys.Mul
setting_key with_run = keys.Run

-- the option's own name
abbrev pub option_name : Key → List ℕ
option_name keys.Limit = codes "--limit"
option_name keys.Every = codes "--every"
option_name keys.Show = codes "--show"
option_name keys.Script = codes "--script"
option_name keys.Seed = codes "--seed"
option_name keys.Guess = codes "--guess"
option_name keys.Input = codes "--input"
option_name keys.Issues = codes "--issues"
option_name keys.States = codes "--states"
option_name keys.Without = codes "--without"
option_name keys.Mul = codes "--mul"
option_name keys.Run = codes "--run"

-- the value of `--show`, by what it shows
abbrev pub shown_name : Shown → List ℕ
shown_name shows.Report = codes "report"
shown_name shows.Retired = codes "retired"
shown_name shows.Moves = codes "moves"
shown_name shows.Sites = codes "sites"
shown_name shows.Edges = codes "edges"

-- the name of a guess rule
abbrev pub guess_name : GuessRule → List ℕ
guess_name rules.Any = codes "any"
guess_name rules.Next = codes "next"
guess_name rules.Taken = codes "taken"
guess_name rules.Backward = codes "backward"
guess_name rules.Wait = codes "wait"

-- the value of an option is the argument after it; `--mul` and `--run` have none
abbrev pub value_arguments : Setting → List (List ℕ)
value_arguments (limit_to amount) = amount ∷ []
value_arguments (say_every amount) = amount ∷ []
value_arguments (show_of shown) = shown_name shown ∷ []
value_arguments (script_from file) = file ∷ []
value_arguments (seed_from digits) = digits ∷ []
value_arguments (guess_by rule) = guess_name rule ∷ []
value_arguments (input_from file) = file ∷ []
value_arguments (issue_at_most digits) = digits ∷ []
value_arguments (reach_at_most digits) = digits ∷ []
value_arguments (do_without rule) = rule_name rule ∷ []
value_arguments with_mul = []
value_arguments with_run = []

-- the names and values of the options, in their order
abbrev pub setting_arguments : List Setting → List (List ℕ)
setting_arguments [] = []
setting_arguments (setting ∷ settings) = option_name (setting_key setting) ∷ (value_arguments setting ++ setting_arguments settings)

-- the options of each command
abbrev pub takes_key : CommandName → Key → Bool
takes_key names.Machine keys.Limit = true
takes_key names.Machine keys.Every = true
takes_key names.Machine keys.Show = true
takes_key names.Machine keys.Mul = true
takes_key names.Run keys.Limit = true
takes_key names.Run keys.Every = true
takes_key names.Run keys.Show = true
takes_key names.Run keys.Script = true
takes_key names.Run keys.Seed = true
takes_key names.Run keys.Guess = true
takes_key names.Moves keys.Limit = true
takes_key names.Moves keys.Every = true
takes_key names.Moves keys.Script = true
takes_key names.Rounds keys.Limit = true
takes_key names.Rounds keys.Every = true
takes_key names.Rounds keys.Guess = true
takes_key names.Orders keys.Issues = true
takes_key names.Orders keys.States = true
takes_key names.Orders keys.Without = true
takes_key names.Orders keys.Show = true
takes_key names.Conform keys.Limit = true
takes_key names.Time keys.Limit = true
takes_key names.Time keys.Show = true
takes_key names.Time keys.Seed = true
takes_key names.Time keys.Guess = true
takes_key names.Time keys.Input = true
takes_key names.Gen keys.Run = true
takes_key _ _ = false

-- what each command can show: only a run of the processor has moves, only a time has parts, and only a search has edges
abbrev pub can_show : CommandName → Shown → Bool
can_show names.Run shows.Report = true
can_show names.Run shows.Retired = true
can_show names.Run shows.Moves = true
can_show names.Machine shows.Report = true
can_show names.Machine shows.Retired = true
can_show names.Time shows.Sites = true
can_show names.Time shows.Moves = true
can_show names.Orders shows.Edges = true
can_show _ _ = false

-- the default limit
abbrev pub default_limit : ℕ
default_limit = 10000000

-- the default maximum of issues and of states of a search
abbrev pub default_issues : ℕ
default_issues = 3

abbrev pub default_states : ℕ
default_states = 1000000

-- the largest seed
abbrev pub most_seed : ℕ
most_seed = 4294967295

-- the maximum limit of each command
abbrev pub most_limit_of : CommandName → ℕ
most_limit_of names.Time = most_timed_limit
most_limit_of _ = most_limit

-- a value that the option may have
abbrev pub is_value : CommandName → Setting → Bool
is_value name (limit_to amount) = is_amount_within 0 (most_limit_of name) amount
is_value name (say_every amount) = is_amount_within 1 most_limit amount
is_value name (show_of shown) = can_show name shown
is_value name (script_from file) = is_file_name file
is_value name (seed_from digits) = is_number_argument most_seed digits
is_value name (guess_by rule) = true
is_value name (input_from file) = is_file_name file
is_value name (issue_at_most digits) = is_positive most_issues digits
is_value name (reach_at_most digits) = is_positive most_states digits
is_value name (do_without rule) = true
is_value name with_mul = true
is_value name with_run = true

-- the command has the option, and it may have that value
abbrev pub takes_setting : CommandName → Setting → Bool
takes_setting name setting = takes_key name (setting_key setting) && is_value name setting

-- which options exclude each other: each excludes itself, a script excludes a seed, and a script excludes a guess rule
abbrev pub excludes : Key → Key → Bool
excludes keys.Limit keys.Limit = true
excludes keys.Every keys.Every = true
excludes keys.Show keys.Show = true
excludes keys.Script keys.Script = true
excludes keys.Script keys.Seed = true
excludes keys.Script keys.Guess = true
excludes keys.Seed keys.Script = true
excludes keys.Seed keys.Seed = true
excludes keys.Guess keys.Script = true
excludes keys.Guess keys.Guess = true
excludes keys.Input keys.Input = true
excludes keys.Issues keys.Issues = true
excludes keys.States keys.States = true
excludes keys.Without keys.Without = true
excludes keys.Mul keys.Mul = true
excludes keys.Run keys.Run = true
excludes _ _ = false

-- the option excludes none of these
abbrev pub Without : Key → List Setting → Type 0
Without key [] = Unit {0}
Without key (setting ∷ settings) = (excludes key (setting_key setting) ≡ false) × Without key settings

-- none of the options excludes a later one
abbrev pub NoneTwice : List Setting → Type 0
NoneTwice [] = Unit {0}
NoneTwice (setting ∷ settings) = Without (setting_key setting) settings × NoneTwice settings

-- what chooses the moves of a run: the script in a file, a seed from which they are drawn, or the fixed rule; with the
-- latter two, only moves that a guess rule keeps
pub data Schedule : Type 0 where
  by_script : (file : List ℕ) → Schedule
  by_seed : (seed : ℕ) → GuessRule → Schedule
  by_rule : GuessRule → Schedule

-- the limit among some options
abbrev pub limit_in : List Setting → Option ℕ
limit_in [] = None
limit_in (limit_to amount ∷ settings) = Some (amount_of amount)
limit_in (_ ∷ settings) = limit_in settings

-- the number of retired instructions after which the report says each time how far the run has come
abbrev pub every_in : List Setting → Option ℕ
every_in [] = None
every_in (say_every amount ∷ settings) = Some (amount_of amount)
every_in (_ ∷ settings) = every_in settings

-- what is shown
abbrev pub show_in : List Setting → Option Shown
show_in [] = None
show_in (show_of shown ∷ settings) = Some shown
show_in (_ ∷ settings) = show_in settings

-- the file of the script
abbrev pub script_in : List Setting → Option (List ℕ)
script_in [] = None
script_in (script_from file ∷ settings) = Some file
script_in (_ ∷ settings) = script_in settings

-- the seed
abbrev pub seed_in : List Setting → Option ℕ
seed_in [] = None
seed_in (seed_from digits ∷ settings) = Some (digits_value 10 digits)
seed_in (_ ∷ settings) = seed_in settings

-- the guess rule
abbrev pub guess_in : List Setting → Option GuessRule
guess_in [] = None
guess_in (guess_by rule ∷ settings) = Some rule
guess_in (_ ∷ settings) = guess_in settings

-- the file of the guest's input
abbrev pub input_in : List Setting → Option (List ℕ)
input_in [] = None
input_in (input_from file ∷ settings) = Some file
input_in (_ ∷ settings) = input_in settings

-- the maximum number of issues of a search
abbrev pub issues_in : List Setting → Option ℕ
issues_in [] = None
issues_in (issue_at_most digits ∷ settings) = Some (digits_value 10 digits)
issues_in (_ ∷ settings) = issues_in settings

-- the maximum number of states that it reaches
abbrev pub states_in : List Setting → Option ℕ
states_in [] = None
states_in (reach_at_most digits ∷ settings) = Some (digits_value 10 digits)
states_in (_ ∷ settings) = states_in settings

-- the rule that is taken away
abbrev pub without_in : List Setting → Option Rule
without_in [] = None
without_in (do_without rule ∷ settings) = Some rule
without_in (_ ∷ settings) = without_in settings

-- whether `--mul` is there
abbrev pub mul_in : List Setting → Bool
mul_in [] = false
mul_in (with_mul ∷ settings) = true
mul_in (_ ∷ settings) = mul_in settings

-- whether `--run` is there
abbrev pub run_in : List Setting → Bool
run_in [] = false
run_in (with_run ∷ settings) = true
run_in (_ ∷ settings) = run_in settings

-- all that options give
pub record Given : Type 0 where
  pub limit : Option ℕ
  pub every : Option ℕ
  pub show : Option Shown
  pub script : Option (List ℕ)
  pub seed : Option ℕ
  pub guess : Option GuessRule
  pub input : Option (List ℕ)
  pub issues : Option ℕ
  pub states : Option ℕ
  pub without : Option Rule
  pub mul : Bool
  pub run : Bool

-- what some options give
abbrev pub given_in : List Setting → Given
given_in settings = record {
  limit = limit_in settings;
  every = every_in settings;
  show = show_in settings;
  script = script_in settings;
  seed = seed_in settings;
  guess = guess_in settings;
  input = input_in settings;
  issues = issues_in settings;
  states = states_in settings;
  without = without_in settings;
  mul = mul_in settings;
  run = run_in settings;
}
