-- The requested numbers are within their bounds.
use Rattle.std.proofs.Common.{◌≡◌, ◌≤◌, ℕ, List, [], ◌∷◌, length, map, Bool, true, false, refl, arith, if◌then◌else◌, Option, Some, None}
use Rattle.std.proofs.Common.{IfSome, option_map, subst}
use Rattle.std.specs.List.{list_all}
use Rattle.std.specs.Option.{unwrap_or}
use Rattle.std.specs.Str.Parse.{digits_value}
use Rattle.std.proofs.lemmas.Bool.Decides.{nat_tests}
use Rattle.std.proofs.lemmas.List.{length-map}
use Rattle.run_options.specs.Limits.{most_issues, most_states, most_statements}
use Rattle.cli_arguments.specs.declared.names.CommandName.{CommandName}
use Rattle.cli_arguments.specs.declared.names.CommandName.TheVariants as names
use Rattle.cli_arguments.specs.Values.{count_in, is_positive, positive_in}
use Rattle.cli_arguments.specs.Commands.{most, topic_in}
use Rattle.cli_arguments.specs.Options.{takes_setting, takes_key, is_value, setting_key, most_limit_of, default_issues, default_limit}
use Rattle.cli_arguments.specs.Options.{default_states, Setting, limit_to, say_every, show_of, script_from, seed_from, guess_by, input_from}
use Rattle.cli_arguments.specs.Options.{issue_at_most, reach_at_most, do_without, with_mul, with_run, Given, given_in, by_script}
use Rattle.cli_arguments.specs.Arguments.{Asked, gen, help_on, moves, layout_in, limit_of, asked_by, IsBounded, IsStep, Asks}
use Rattle.cli_arguments.proofs.Settings.{both}

-- a number that is not 0 and at most this
abbrev IsUpTo : ℕ → ℕ → Type 0
IsUpTo most n = (1 ≤ n) × (n ≤ most)

-- numbers that a command's options give are within their bounds
record AreWithin (name : CommandName) (limit every issues states : Option ℕ) : Type 0 where
  limited : IfSome limit (λ n. n ≤ most_limit_of name)
  stepped : IfSome every IsStep
  issued : IfSome issues (IsUpTo most_issues)
  reached : IfSome states (IsUpTo most_states)

abbrev IsGivenWithin : CommandName → Given → Type 0
IsGivenWithin name given = AreWithin name given.limit given.every given.issues given.states

-- with one more option
more-within : (name : CommandName) (setting : Setting) (settings : List Setting) → is_value name setting ≡ true →
    IsGivenWithin name (given_in settings) → IsGivenWithin name (given_in (setting ∷ settings))
more-within name (limit_to amount) settings h w =
    record { limited = grind (arith, nat_tests); stepped = w.stepped; issued = w.issued; reached = w.reached }
more-within name (say_every amount) settings h w =
    record { limited = w.limited; stepped = grind (arith, nat_tests); issued = w.issued; reached = w.reached }
more-within name (show_of shown) settings h w = w
more-within name (script_from file) settings h w = w
more-within name (seed_from digits) settings h w = w
more-within name (guess_by rule) settings h w = w
more-within name (input_from file) settings h w = w
more-within name (issue_at_most digits) settings h w =
    record { limited = w.limited; stepped = w.stepped; issued = grind (arith, nat_tests); reached = w.reached }
more-within name (reach_at_most digits) settings h w =
    record { limited = w.limited; stepped = w.stepped; issued = w.issued; reached = grind (arith, nat_tests) }
more-within name (do_without rule) settings h w = w
more-within name with_mul settings h w = w
more-within name with_run settings h w = w

all-within : (name : CommandName) (settings : List Setting) → list_all (takes_setting name) settings ≡ true →
    IsGivenWithin name (given_in settings)
all-within name [] taken = record { limited = tt; stepped = tt; issued = tt; reached = tt }
all-within name (setting ∷ settings) taken =
    let b = both (takes_setting name setting) (list_all (takes_setting name) settings) taken in
    more-within name setting settings (both (takes_key name (setting_key setting)) (is_value name setting) b.0).1
    (all-within name settings b.1)

-- so is what is asked for if an option is not given
limit-within : (name : CommandName) (limit : Option ℕ) → IfSome limit (λ n. n ≤ most_limit_of name) → default_limit ≤ most_limit_of name →
    unwrap_or limit default_limit ≤ most_limit_of name
limit-within name None h few = few
limit-within name (Some n) h few = h

up-to-within : (most least : ℕ) (given : Option ℕ) → IfSome given (IsUpTo most) → IsUpTo most least → IsUpTo most (unwrap_or given least)
up-to-within most least None h few = few
up-to-within most least (Some n) h few = h

-- a number of statements that an argument writes is within its bounds
count-tested : (b : Bool) (argument : List ℕ) (number : ℕ) → is_positive most_statements argument ≡ b →
    (if b then Some (digits_value 10 argument) else None) ≡ Some number →
    (1 ≤ number) × (number ≤ most_statements)
count-tested true argument number e h =
    let same : digits_value 10 argument ≡ number = cc in
    let one : 1 ≤ digits_value 10 argument = grind (arith, nat_tests) in
    let few : digits_value 10 argument ≤ most_statements = grind (arith, nat_tests) in
    (omega arith, omega arith)
count-tested false argument number e h = absurd (cc)

count-bounded : (argument : List ℕ) (number : ℕ) → count_in argument ≡ Some number →
    (1 ≤ number) × (number ≤ most_statements)
unfolding positive_in
count-bounded argument number h = count-tested (is_positive most_statements argument) argument number refl h

-- what is requested of a command
record Fits (name : CommandName) (asked : Asked) : Type 0 where
  bounded : IsBounded asked

drawn-fits : (count : Option ℕ) (run : Bool) (argument : List ℕ) (asked : Asked) → count_in argument ≡ count →
    option_map (λ number. gen number run) count ≡ Some asked → Fits names.Gen asked
drawn-fits None run argument asked e h = absurd (cc)
drawn-fits (Some number) run argument asked e h =
    let b = count-bounded argument number e in
    let same : gen number run ≡ asked = cc in
    subst (λ (a : Asked). Fits names.Gen a) same (record { bounded = b })

moves-fits : (script : Option (List ℕ)) (layout program : List ℕ) (given : Given) (asked : Asked) →
    IsGivenWithin names.Moves given →
    option_map (λ file. moves (layout_in layout) program (by_script file) (limit_of given) given.every) script ≡ Some asked →
    Fits names.Moves asked
moves-fits None layout program given asked w h = absurd (cc)
moves-fits (Some file) layout program given asked w h =
    let same : moves (layout_in layout) program (by_script file) (limit_of given) given.every ≡ asked = cc in
    subst (λ (a : Asked). Fits names.Moves a) same
    (record { bounded = (limit-within names.Moves given.limit w.limited (omega arith), w.stepped) })

topic-fits : (topic : Option CommandName) (asked : Asked) → option_map help_on topic ≡ Some asked → Fits names.Help asked
topic-fits None asked h = absurd (cc)
topic-fits (Some name) asked h =
    let same : help_on name ≡ asked = cc in
    subst (λ (a : Asked). Fits names.Help a) same (record { bounded = tt })

same-fits : (name : CommandName) (one asked : Asked) → Some one ≡ Some asked → Fits name one → Fits name asked
same-fits name one asked h fits = let same : one ≡ asked = cc in subst (λ (a : Asked). Fits name a) same fits

asked-fits : (name : CommandName) (arguments : List (List ℕ)) (given : Given) (asked : Asked) →
    IsGivenWithin name given → length arguments ≤ most name → asked_by name arguments given ≡ Some asked →
    Fits name asked
asked-fits names.Machine [] given asked bounds few h = absurd (cc)
asked-fits names.Machine (w ∷ []) given asked bounds few h =
    same-fits _ _ asked h (record { bounded = (limit-within names.Machine given.limit bounds.limited (omega arith), bounds.stepped) })
asked-fits names.Machine (w ∷ v ∷ ws) given asked bounds few h = absurd (cc)
asked-fits names.Check [] given asked bounds few h = absurd (cc)
asked-fits names.Check (w ∷ []) given asked bounds few h =
    same-fits _ _ asked h (record { bounded = tt })
asked-fits names.Check (w ∷ v ∷ ws) given asked bounds few h = absurd (cc)
asked-fits names.Asm [] given asked bounds few h = absurd (cc)
asked-fits names.Asm (w ∷ []) given asked bounds few h =
    same-fits _ _ asked h (record { bounded = tt })
asked-fits names.Asm (w ∷ v ∷ ws) given asked bounds few h = absurd (cc)
asked-fits names.List [] given asked bounds few h = absurd (cc)
asked-fits names.List (w ∷ []) given asked bounds few h =
    same-fits _ _ asked h (record { bounded = tt })
asked-fits names.List (w ∷ v ∷ ws) given asked bounds few h = absurd (cc)
asked-fits names.Gen [] given asked bounds few h = absurd (cc)
asked-fits names.Gen (w ∷ []) given asked bounds few h =
    drawn-fits (count_in w) given.run w asked refl h
asked-fits names.Gen (w ∷ v ∷ ws) given asked bounds few h = absurd (cc)
asked-fits names.Run [] given asked bounds few h = absurd (cc)
asked-fits names.Run (w ∷ []) given asked bounds few h = absurd (cc)
asked-fits names.Run (w ∷ v ∷ []) given asked bounds few h =
    same-fits _ _ asked h (record { bounded = (limit-within names.Run given.limit bounds.limited (omega arith), bounds.stepped) })
asked-fits names.Run (w ∷ v ∷ u ∷ ws) given asked bounds few h = absurd (cc)
asked-fits names.Moves [] given asked bounds few h = absurd (cc)
asked-fits names.Moves (w ∷ []) given asked bounds few h = absurd (cc)
asked-fits names.Moves (w ∷ v ∷ []) given asked bounds few h =
    moves-fits given.script w v given asked bounds h
asked-fits names.Moves (w ∷ v ∷ u ∷ ws) given asked bounds few h = absurd (cc)
asked-fits names.Rounds [] given asked bounds few h = absurd (cc)
asked-fits names.Rounds (w ∷ []) given asked bounds few h = absurd (cc)
asked-fits names.Rounds (w ∷ v ∷ []) given asked bounds few h =
    same-fits _ _ asked h (record { bounded = (limit-within names.Rounds given.limit bounds.limited (omega arith), bounds.stepped) })
asked-fits names.Rounds (w ∷ v ∷ u ∷ ws) given asked bounds few h = absurd (cc)
asked-fits names.Orders [] given asked bounds few h = absurd (cc)
asked-fits names.Orders (w ∷ []) given asked bounds few h = absurd (cc)
asked-fits names.Orders (w ∷ v ∷ []) given asked bounds few h =
    let issues = up-to-within most_issues default_issues given.issues bounds.issued (omega arith, omega arith) in
    let states = up-to-within most_states default_states given.states bounds.reached (omega arith, omega arith) in
    same-fits _ _ asked h (record { bounded = (issues.0, issues.1, states.0, states.1) })
asked-fits names.Orders (w ∷ v ∷ u ∷ ws) given asked bounds few h = absurd (cc)
asked-fits names.Conform [] given asked bounds few h = absurd (cc)
asked-fits names.Conform (w ∷ []) given asked bounds few h = absurd (cc)
asked-fits names.Conform (w ∷ v ∷ []) given asked bounds few h =
    same-fits _ _ asked h (record { bounded = limit-within names.Conform given.limit bounds.limited (omega arith) })
asked-fits names.Conform (w ∷ v ∷ u ∷ ws) given asked bounds few h = absurd (cc)
asked-fits names.Debug [] given asked bounds few h = absurd (cc)
asked-fits names.Debug (w ∷ []) given asked bounds few h = absurd (cc)
asked-fits names.Debug (w ∷ v ∷ []) given asked bounds few h =
    same-fits _ _ asked h (record { bounded = tt })
asked-fits names.Debug (w ∷ v ∷ u ∷ ws) given asked bounds few h = absurd (cc)
asked-fits names.Time [] given asked bounds few h = absurd (cc)
asked-fits names.Time (w ∷ []) given asked bounds few h = absurd (cc)
asked-fits names.Time (w ∷ v ∷ []) given asked bounds few h = absurd (cc)
asked-fits names.Time (w ∷ v ∷ u ∷ ws) given asked bounds few h =
    let layouts : length (map layout_in (u ∷ ws)) ≡ length (u ∷ ws) = length-map (u ∷ ws) layout_in in
    same-fits _ _ asked h
    (record { bounded = (limit-within names.Time given.limit bounds.limited (omega arith), omega arith, omega (arith, layouts, few)) })
asked-fits names.Audit [] given asked bounds few h = absurd (cc)
asked-fits names.Audit (w ∷ []) given asked bounds few h = absurd (cc)
asked-fits names.Audit (w ∷ v ∷ []) given asked bounds few h = absurd (cc)
asked-fits names.Audit (w ∷ v ∷ u ∷ []) given asked bounds few h =
    same-fits _ _ asked h (record { bounded = tt })
asked-fits names.Audit (w ∷ v ∷ u ∷ t ∷ ws) given asked bounds few h = absurd (cc)
asked-fits names.Help [] given asked bounds few h =
    same-fits _ _ asked h (record { bounded = tt })
asked-fits names.Help (w ∷ []) given asked bounds few h = topic-fits (topic_in w) asked h
asked-fits names.Help (w ∷ v ∷ ws) given asked bounds few h = absurd (cc)
asked-fits names.HelpOption [] given asked bounds few h =
    same-fits _ _ asked h (record { bounded = tt })
asked-fits names.HelpOption (w ∷ ws) given asked bounds few h = absurd (cc)
asked-fits names.HelpLetter [] given asked bounds few h =
    same-fits _ _ asked h (record { bounded = tt })
asked-fits names.HelpLetter (w ∷ ws) given asked bounds few h = absurd (cc)
asked-fits names.Version [] given asked bounds few h =
    same-fits _ _ asked h (record { bounded = tt })
asked-fits names.Version (w ∷ ws) given asked bounds few h = absurd (cc)
asked-fits names.VersionLetter [] given asked bounds few h =
    same-fits _ _ asked h (record { bounded = tt })
asked-fits names.VersionLetter (w ∷ ws) given asked bounds few h = absurd (cc)

fits : (arguments : List (List ℕ)) (asked : Asked) (asks : Asks arguments asked) → Fits asks.name asked
fits arguments asked asks =
    asked-fits asks.name asks.positional (given_in asks.settings) asked
    (all-within asks.name asks.settings asks.command.taken) asks.command.few asks.means

pub asks-bounded : (arguments : List (List ℕ)) (asked : Asked) → Asks arguments asked → IsBounded asked
asks-bounded arguments asked asks = (fits arguments asked asks).bounded
