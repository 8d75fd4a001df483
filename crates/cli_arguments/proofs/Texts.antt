-- The arguments that name commands, options and what is shown: each names one, and each has only one spelling.
use Rattle.std.proofs.Common.{◌≡◌, ℕ, List, codes, Bool, true, false, Option, Some, None, refl, sym, ap, ◌∙◌}
use Rattle.std.specs.Prelude.{if◌then◌else◌}
use lib.Pointwise.{bytes_decides}
use Rattle.run_options.specs.declared.guess_rule.GuessRule.{GuessRule}
use Rattle.run_options.specs.declared.guess_rule.GuessRule.TheVariants as rules
use Rattle.cli_arguments.specs.declared.names.CommandName.{CommandName}
use Rattle.cli_arguments.specs.declared.names.CommandName.TheVariants as names
use Rattle.cli_arguments.specs.declared.options.Key.{Key}
use Rattle.cli_arguments.specs.declared.options.Key.TheVariants as keys
use Rattle.cli_arguments.specs.declared.shown.Shown.{Shown}
use Rattle.cli_arguments.specs.declared.shown.Shown.TheVariants as shows
use Rattle.cli_arguments.specs.Commands.{command_name, is_text, name_in}
use Rattle.cli_arguments.specs.Options.{option_name, shown_name, guess_name}
use Rattle.cli_arguments.specs.Reading.{key_in, shown_in, rule_in}

-- an argument that passes the test is the text
pub is-text : (argument text : List ℕ) → is_text argument text ≡ true → argument ≡ text
is-text argument text h = (bytes_decides argument text).0 h

some_same : {T : Type 0} {one other : T} → Some one ≡ Some other → one ≡ other
some_same h = cc

-- what an argument names is spelt as the argument: by the first text that equals it, or otherwise by one after that
first-named : {T : Type 0} (argument text : List ℕ) (written : T → List ℕ) (here : T) (others : Option T) → written here ≡ text →
    ((name : T) → others ≡ Some name → argument ≡ written name)
    → (name : T) → (if is_text argument text then Some here else others) ≡ Some name → argument ≡ written name
first-named {T} argument text written here others same later name = by (is_text argument text) refl
  where
    by : (b : Bool) → is_text argument text ≡ b → (if b then Some here else others) ≡ Some name → argument ≡ written name
    by true is h = is-text argument text is ∙ sym same ∙ ap written (some_same h)
    by false is h = later name h

-- no text is left
none-named : {T : Type 0} (argument : List ℕ) (written : T → List ℕ) (name : T) → None ≡ Some name → argument ≡ written name
none-named argument written name h = absurd (cc)

pub name-read : (argument : List ℕ) (name : CommandName) → name_in argument ≡ Some name → argument ≡ command_name name
unfolding name_in
name-read argument =
    first-named argument (codes "machine") command_name names.Machine _ refl
    (first-named argument (codes "run") command_name names.Run _ refl
    (first-named argument (codes "moves") command_name names.Moves _ refl
    (first-named argument (codes "rounds") command_name names.Rounds _ refl
    (first-named argument (codes "orders") command_name names.Orders _ refl
    (first-named argument (codes "conform") command_name names.Conform _ refl
    (first-named argument (codes "debug") command_name names.Debug _ refl
    (first-named argument (codes "time") command_name names.Time _ refl
    (first-named argument (codes "audit") command_name names.Audit _ refl
    (first-named argument (codes "check") command_name names.Check _ refl
    (first-named argument (codes "asm") command_name names.Asm _ refl
    (first-named argument (codes "list") command_name names.List _ refl
    (first-named argument (codes "gen") command_name names.Gen _ refl
    (first-named argument (codes "help") command_name names.Help _ refl
    (first-named argument (codes "--help") command_name names.HelpOption _ refl
    (first-named argument (codes "-h") command_name names.HelpLetter _ refl
    (first-named argument (codes "--version") command_name names.Version _ refl
    (first-named argument (codes "-V") command_name names.VersionLetter _ refl
    (none-named argument command_name))))))))))))))))))

pub name-written : (name : CommandName) → name_in (command_name name) ≡ Some name
unfolding name_in
name-written names.Machine = refl
name-written names.Run = refl
name-written names.Moves = refl
name-written names.Rounds = refl
name-written names.Orders = refl
name-written names.Conform = refl
name-written names.Debug = refl
name-written names.Time = refl
name-written names.Audit = refl
name-written names.Check = refl
name-written names.Asm = refl
name-written names.List = refl
name-written names.Gen = refl
name-written names.Help = refl
name-written names.HelpOption = refl
name-written names.HelpLetter = refl
name-written names.Version = refl
name-written names.VersionLetter = refl

pub key-read : (argument : List ℕ) (key : Key) → key_in argument ≡ Some key → argument ≡ option_name key
unfolding key_in
key-read argument =
    first-named argument (codes "--limit") option_name keys.Limit _ refl
    (first-named argument (codes "--every") option_name keys.Every _ refl
    (first-named argument (codes "--show") option_name keys.Show _ refl
    (first-named argument (codes "--script") option_name keys.Script _ refl
    (first-named argument (codes "--seed") option_name keys.Seed _ refl
    (first-named argument (codes "--guess") option_name keys.Guess _ refl
    (first-named argument (codes "--input") option_name keys.Input _ refl
    (first-named argument (codes "--issues") option_name keys.Issues _ refl
    (first-named argument (codes "--states") option_name keys.States _ refl
    (first-named argument (codes "--without") option_name keys.Without _ refl
    (first-named argument (codes "--mul") option_name keys.Mul _ refl
    (first-named argument (codes "--run") option_name keys.Run _ refl
    (none-named argument option_name))))))))))))

pub key-written : (key : Key) → key_in (option_name key) ≡ Some key
unfolding key_in
key-written keys.Limit = refl
key-written keys.Every = refl
key-written keys.Show = refl
key-written keys.Script = refl
key-written keys.Seed = refl
key-written keys.Guess = refl
key-written keys.Input = refl
key-written keys.Issues = refl
key-written keys.States = refl
key-written keys.Without = refl
key-written keys.Mul = refl
key-written keys.Run = refl

pub shown-read : (argument : List ℕ) (shown : Shown) → shown_in argument ≡ Some shown → argument ≡ shown_name shown
unfolding shown_in
shown-read argument =
    first-named argument (codes "report") shown_name shows.Report _ refl
    (first-named argument (codes "retired") shown_name shows.Retired _ refl
    (first-named argument (codes "moves") shown_name shows.Moves _ refl
    (first-named argument (codes "sites") shown_name shows.Sites _ refl
    (first-named argument (codes "edges") shown_name shows.Edges _ refl
    (none-named argument shown_name)))))

pub shown-written : (shown : Shown) → shown_in (shown_name shown) ≡ Some shown
unfolding shown_in
shown-written shows.Report = refl
shown-written shows.Retired = refl
shown-written shows.Moves = refl
shown-written shows.Sites = refl
shown-written shows.Edges = refl

pub rule-read : (argument : List ℕ) (rule : GuessRule) → rule_in argument ≡ Some rule → argument ≡ guess_name rule
unfolding rule_in
rule-read argument =
    first-named argument (codes "any") guess_name rules.Any _ refl
    (first-named argument (codes "next") guess_name rules.Next _ refl
    (first-named argument (codes "taken") guess_name rules.Taken _ refl
    (first-named argument (codes "backward") guess_name rules.Backward _ refl
    (first-named argument (codes "wait") guess_name rules.Wait _ refl
    (none-named argument guess_name)))))

pub rule-written : (rule : GuessRule) → rule_in (guess_name rule) ≡ Some rule
unfolding rule_in
rule-written rules.Any = refl
rule-written rules.Next = refl
rule-written rules.Taken = refl
rule-written rules.Backward = refl
rule-written rules.Wait = refl
