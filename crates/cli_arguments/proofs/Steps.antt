-- What the next argument means: which arguments may follow in each state, and what is known after them.
use Rattle.std.proofs.Common.{◌≡◌, ◌≤◌, ◌<◌, ◌⊎◌, ℕ, List, [], ◌∷◌, Bool, true, false, refl, arith, if◌then◌else◌, Option, Some, None}
use Rattle.std.proofs.Common.{option_map, inl, inr, not, ◌&&◌, sym, ap}
use Rattle.std.specs.Prelude.{is_some, nat_le, nat_lt}
use Rattle.std.specs.Str.Parse.{digits_value}
use Rattle.std.proofs.lemmas.Bool.Decides.{nat_tests}
use Rattle.run_options.specs.Limits.{most_issues, most_limit, most_states}
use Rattle.order_rules.specs.Rules.{rule_name, rule_named}
use Rattle.order_rules.proofs.Named.{named, named_once}
use Rattle.cli_arguments.specs.declared.names.CommandName.{CommandName}
use Rattle.cli_arguments.specs.declared.names.PlaceKind.{PlaceKind}
use Rattle.cli_arguments.specs.declared.names.PlaceKind.TheVariants.{Files, Numbers, Topics}
use Rattle.cli_arguments.specs.declared.options.Key.{Key}
use Rattle.cli_arguments.specs.declared.options.Key.TheVariants as keys
use Rattle.cli_arguments.specs.declared.reading.Subject.{Subject}
use Rattle.cli_arguments.specs.declared.shown.Shown.{Shown}
use Rattle.cli_arguments.specs.Values.{amount_in, amount_of, is_file_name, is_number_argument, is_positive, is_amount_within, count_in, number_up_to, positive_in}
use Rattle.cli_arguments.specs.Commands.{command_name, fewest, most, is_of, is_positional, name_in, place_kind, topic_in}
use Rattle.cli_arguments.specs.Options.{option_name, shown_name, setting_key, value_arguments, takes_key, can_show, is_value, most_limit_of}
use Rattle.cli_arguments.specs.Options.{most_seed, Setting, limit_to, say_every, show_of, script_from, seed_from, guess_by, input_from}
use Rattle.cli_arguments.specs.Options.{issue_at_most, reach_at_most, do_without, with_mul, with_run, Given, guess_name}
use Rattle.cli_arguments.specs.Reading.{ReadingState, start, placed, options, valued, unplaced, one_place_more, follow, when, after_name}
use Rattle.cli_arguments.specs.Reading.{after_key, after_option, after_value, has_place, has_key, given_with_value, key_in, shown_in}
use Rattle.cli_arguments.specs.Reading.{showable, nothing_given, rule_in}
use Rattle.cli_arguments.proofs.Texts.{name-read, name-written, key-read, key-written, shown-read, shown-written, rule-read, rule-written}

-- what is given with one more option
abbrev pub put : Given → Setting → Given
put given (limit_to amount) = record given { limit = Some (amount_of amount) }
put given (say_every amount) = record given { every = Some (amount_of amount) }
put given (show_of shown) = record given { show = Some shown }
put given (script_from file) = record given { script = Some file }
put given (seed_from digits) = record given { seed = Some (digits_value 10 digits) }
put given (guess_by rule) = record given { guess = Some rule }
put given (input_from file) = record given { input = Some file }
put given (issue_at_most digits) = record given { issues = Some (digits_value 10 digits) }
put given (reach_at_most digits) = record given { states = Some (digits_value 10 digits) }
put given (do_without rule) = record given { without = Some rule }
put given with_mul = record given { mul = true }
put given with_run = record given { run = true }

when-some : {A : Type 0} → (b : Bool) (x y : A) → when b x ≡ Some y → (b ≡ true) × (y ≡ x)
when-some true x y h = (refl, cc)
when-some false x y h = absurd (cc)

when-true : {A : Type 0} → (b : Bool) (x : A) → b ≡ true → when b x ≡ Some x
when-true true x h = refl
when-true false x h = absurd (cc)

both-true : (a b : Bool) → (a && not b) ≡ true → (a ≡ true) × (b ≡ false)
both-true true true h = absurd (cc)
both-true true false h = (refl, refl)
both-true false b h = absurd (cc)

true-both : (a b : Bool) → a ≡ true → b ≡ false → (a && not b) ≡ true
true-both true true g h = absurd (cc)
true-both true false g h = refl
true-both false b g h = absurd (cc)

-- the command's name
pub record NameRead (argument : List ℕ) (later : ReadingState) : Type 0 where
  pub name : CommandName
  pub argument_is : argument ≡ command_name name
  pub after_is : later ≡ placed (unplaced name)

name-found : (found : Option CommandName) (argument : List ℕ) (later : ReadingState) → name_in argument ≡ found →
    after_name found ≡ Some later → NameRead argument later
name-found None argument later e h = absurd (cc)
name-found (Some name) argument later e h =
    record { name = name; argument_is = name-read argument name e; after_is = cc }

pub start-read : (argument : List ℕ) (later : ReadingState) → follow start argument ≡ Some later → NameRead argument later
unfolding follow
start-read argument later h = name-found (name_in argument) argument later refl h

pub start-follows : (name : CommandName) → follow start (command_name name) ≡ Some (placed (unplaced name))
unfolding follow
start-follows name = rw (name-written name) refl

-- one more positional argument, or the first option
both-tests : (a b : Bool) → (a && b) ≡ true → (a ≡ true) × (b ≡ true)
both-tests true true h = (refl, refl)
both-tests true false h = absurd (cc)
both-tests false b h = absurd (cc)

-- an argument that is expected there
pub place-tests : (subject : Subject) (argument : List ℕ) → has_place subject argument ≡ true →
    (subject.count < most subject.name) × (is_positional subject.name argument ≡ true)
place-tests subject argument h =
    let b = both-tests (nat_lt subject.count (most subject.name)) (is_positional subject.name argument) h in
    (grind (arith, nat_tests, b.0), b.1)

pub tests-place : (subject : Subject) (argument : List ℕ) → subject.count < most subject.name →
    is_positional subject.name argument ≡ true → has_place subject argument ≡ true
tests-place subject argument room h =
    let b : nat_lt subject.count (most subject.name) ≡ true = grind (arith, nat_tests) in rw (b, h) refl

place-tried : (has enough : Bool) (subject : Subject) (argument : List ℕ) (later : ReadingState) →
    has_place subject argument ≡ has → nat_le (fewest subject.name) subject.count ≡ enough →
    (if has then Some (placed (one_place_more subject))
    else if enough then after_option subject nothing_given (key_in argument) else None) ≡ Some later →
    ((has_place subject argument ≡ true) × (later ≡ placed (one_place_more subject)))
    ⊎ ((nat_le (fewest subject.name) subject.count ≡ true)
    × (after_option subject nothing_given (key_in argument) ≡ Some later))
place-tried true enough subject argument later e f h = inl (e, cc)
place-tried false true subject argument later e f h = inr (f, h)
place-tried false false subject argument later e f h = absurd (cc)

pub placed-read : (subject : Subject) (argument : List ℕ) (later : ReadingState) →
    follow (placed subject) argument ≡ Some later →
    ((has_place subject argument ≡ true) × (later ≡ placed (one_place_more subject)))
    ⊎ ((nat_le (fewest subject.name) subject.count ≡ true)
    × (follow (options subject nothing_given) argument ≡ Some later))
unfolding follow
placed-read subject argument later h =
    place-tried (has_place subject argument) (nat_le (fewest subject.name) subject.count) subject argument later
    refl refl h

pub placed-follows : (subject : Subject) (argument : List ℕ) → has_place subject argument ≡ true →
    follow (placed subject) argument ≡ Some (placed (one_place_more subject))
unfolding follow
placed-follows subject argument h = rw h refl

-- the argument of an option is unexpected among positional arguments
key-no-file : (key : Key) → is_file_name (option_name key) ≡ false
key-no-file keys.Limit = refl
key-no-file keys.Every = refl
key-no-file keys.Show = refl
key-no-file keys.Script = refl
key-no-file keys.Seed = refl
key-no-file keys.Guess = refl
key-no-file keys.Input = refl
key-no-file keys.Issues = refl
key-no-file keys.States = refl
key-no-file keys.Without = refl
key-no-file keys.Mul = refl
key-no-file keys.Run = refl

key-no-count : (key : Key) → is_some (count_in (option_name key)) ≡ false
unfolding positive_in
key-no-count keys.Limit = refl
key-no-count keys.Every = refl
key-no-count keys.Show = refl
key-no-count keys.Script = refl
key-no-count keys.Seed = refl
key-no-count keys.Guess = refl
key-no-count keys.Input = refl
key-no-count keys.Issues = refl
key-no-count keys.States = refl
key-no-count keys.Without = refl
key-no-count keys.Mul = refl
key-no-count keys.Run = refl

key-no-topic : (key : Key) → is_some (topic_in (option_name key)) ≡ false
unfolding topic_in name_in
key-no-topic keys.Limit = refl
key-no-topic keys.Every = refl
key-no-topic keys.Show = refl
key-no-topic keys.Script = refl
key-no-topic keys.Seed = refl
key-no-topic keys.Guess = refl
key-no-topic keys.Input = refl
key-no-topic keys.Issues = refl
key-no-topic keys.States = refl
key-no-topic keys.Without = refl
key-no-topic keys.Mul = refl
key-no-topic keys.Run = refl

key-tried : (kind : PlaceKind) (key : Key) → is_of kind (option_name key) ≡ false
key-tried Files key = key-no-file key
key-tried Numbers key = key-no-count key
key-tried Topics key = key-no-topic key

key-no-positional : (name : CommandName) (key : Key) → is_positional name (option_name key) ≡ false
unfolding is_positional
key-no-positional name key = key-tried (place_kind name) key

and-false : (a : Bool) → (a && false) ≡ false
and-false true = refl
and-false false = refl

key-no-place : (subject : Subject) (key : Key) → has_place subject (option_name key) ≡ false
key-no-place subject key =
    rw (key-no-positional subject.name key) (and-false (nat_lt subject.count (most subject.name)))

-- so after enough positional arguments it is read as the argument of the first option
pub first-option : (subject : Subject) (key : Key) → fewest subject.name ≤ subject.count →
    follow (placed subject) (option_name key) ≡ follow (options subject nothing_given) (option_name key)
unfolding follow
first-option subject key enough =
    let b : nat_le (fewest subject.name) subject.count ≡ true = grind (arith, nat_tests) in
    rw (key-no-place subject key, b) refl

-- an option's own name
pub record KeyRead (subject : Subject) (given : Given) (argument : List ℕ) (later : ReadingState) : Type 0 where
  pub key : Key
  pub argument_is : argument ≡ option_name key
  pub taken : takes_key subject.name key ≡ true
  pub fresh : has_key given key ≡ false
  pub after_is : later ≡ after_key subject given key

key-found : (found : Option Key) (subject : Subject) (given : Given) (argument : List ℕ) (later : ReadingState) →
    key_in argument ≡ found → after_option subject given found ≡ Some later →
    KeyRead subject given argument later
key-found None subject given argument later e h = absurd (cc)
key-found (Some key) subject given argument later e h =
    let w = when-some (takes_key subject.name key && not (has_key given key))
    (after_key subject given key) later h in
    let b = both-true (takes_key subject.name key) (has_key given key) w.0 in
    record { key = key; argument_is = key-read argument key e; taken = b.0; fresh = b.1; after_is = w.1 }

pub option-read : (subject : Subject) (given : Given) (argument : List ℕ) (later : ReadingState) →
    follow (options subject given) argument ≡ Some later → KeyRead subject given argument later
unfolding follow
option-read subject given argument later h = key-found (key_in argument) subject given argument later refl h

pub option-follows : (subject : Subject) (given : Given) (key : Key) →
    takes_key subject.name key ≡ true → has_key given key ≡ false →
    follow (options subject given) (option_name key) ≡ Some (after_key subject given key)
unfolding follow
option-follows subject given key taken fresh =
    rw (key-written key)
    (when-true (takes_key subject.name key && not (has_key given key)) (after_key subject given key)
    (true-both (takes_key subject.name key) (has_key given key) taken fresh))

-- an option's value
pub record ValueRead (subject : Subject) (given : Given) (key : Key) (argument : List ℕ) (later : ReadingState) :
    Type 0 where
  pub setting : Setting
  pub key_is : setting_key setting ≡ key
  pub argument_is : value_arguments setting ≡ argument ∷ []
  pub allowed : is_value subject.name setting ≡ true
  pub after_is : later ≡ options subject (put given setting)

if-some : {A : Type 0} → (b : Bool) (x y : A) → (if b then Some x else None) ≡ Some y →
    (b ≡ true) × (y ≡ x)
if-some true x y h = (refl, cc)
if-some false x y h = absurd (cc)

number-test : (most : ℕ) (argument : List ℕ) (number : ℕ) → number_up_to most argument ≡ Some number →
    (is_number_argument most argument ≡ true) × (number ≡ digits_value 10 argument)
unfolding number_up_to
number-test most argument number h = if-some (is_number_argument most argument) (digits_value 10 argument) number h

positive-test : (most : ℕ) (argument : List ℕ) (number : ℕ) → positive_in most argument ≡ Some number →
    (is_positive most argument ≡ true) × (number ≡ digits_value 10 argument)
unfolding positive_in
positive-test most argument number h = if-some (is_positive most argument) (digits_value 10 argument) number h

amount-test : (least most : ℕ) (argument : List ℕ) (amount : ℕ) → amount_in least most argument ≡ Some amount →
    (is_amount_within least most argument ≡ true) × (amount ≡ amount_of argument)
unfolding amount_in
amount-test least most argument amount h = if-some (is_amount_within least most argument) (amount_of argument) amount h

shown-test : (name : CommandName) (found : Option Shown) (shown : Shown) → showable name found ≡ Some shown →
    (found ≡ Some shown) × (can_show name shown ≡ true)
shown-test name None shown h = absurd (cc)
shown-test name (Some other) shown h =
    let w = when-some (can_show name other) other shown h in
    let same : other ≡ shown = sym w.1 in
    (ap Some same, rw (← same) w.0)

-- the argument is the value of an option, which gives this in addition
record IsSetting (subject : Subject) (given more : Given) (key : Key) (argument : List ℕ) (setting : Setting) : Type 0 where
  key_is : setting_key setting ≡ key
  argument_is : value_arguments setting ≡ argument ∷ []
  allowed : is_value subject.name setting ≡ true
  more_is : more ≡ put given setting

value-found : {A : Type 0} (found : Option A) (with : A → Given) (setting : A → Setting) (subject : Subject) (given : Given) (key : Key)
    (argument : List ℕ) (later : ReadingState) →
    ((x : A) → found ≡ Some x → IsSetting subject given (with x) key argument (setting x)) →
    after_value subject (option_map with found) ≡ Some later → ValueRead subject given key argument later
value-found None with setting subject given key argument later is h = absurd (cc)
value-found (Some x) with setting subject given key argument later is h =
    let s = is x refl in
    record {
      setting = setting x;
      key_is = s.key_is;
      argument_is = s.argument_is;
      allowed = s.allowed;
      after_is = cc (s.more_is);
    }

file-found : (b : Bool) (more : Given) (setting : Setting) (subject : Subject) (given : Given) (key : Key) (argument : List ℕ)
    (later : ReadingState) → (b ≡ true → IsSetting subject given more key argument setting) →
    after_value subject (when b more) ≡ Some later → ValueRead subject given key argument later
file-found true more setting subject given key argument later is h =
    let s = is refl in
    record { setting = setting; key_is = s.key_is; argument_is = s.argument_is; allowed = s.allowed; after_is = cc (s.more_is) }
file-found false more setting subject given key argument later is h = absurd (cc)

one-argument : (argument other : List ℕ) → argument ≡ other → other ∷ [] ≡ argument ∷ []
one-argument argument other same = ap (λ (w : List ℕ). w ∷ []) (sym same)

pub value-read : (key : Key) (subject : Subject) (given : Given) (argument : List ℕ) (later : ReadingState) →
    follow (valued subject given key) argument ≡ Some later → ValueRead subject given key argument later
unfolding follow given_with_value
value-read keys.Limit subject given argument later h =
    value-found (amount_in 0 (most_limit_of subject.name) argument) (λ n. record given { limit = Some n }) (λ n. limit_to argument)
    subject given keys.Limit argument later
    (λ n e. let t = amount-test 0 (most_limit_of subject.name) argument n e in
    record { key_is = refl; argument_is = refl; allowed = t.0; more_is = ap (λ (m : ℕ). record given { limit = Some m }) t.1 }) h
value-read keys.Every subject given argument later h =
    value-found (amount_in 1 most_limit argument) (λ n. record given { every = Some n }) (λ n. say_every argument)
    subject given keys.Every argument later
    (λ n e. let t = amount-test 1 most_limit argument n e in
    record { key_is = refl; argument_is = refl; allowed = t.0; more_is = ap (λ (m : ℕ). record given { every = Some m }) t.1 }) h
value-read keys.Show subject given argument later h =
    value-found (showable subject.name (shown_in argument)) (λ shown. record given { show = Some shown }) show_of
    subject given keys.Show argument later
    (λ shown e. let t = shown-test subject.name (shown_in argument) shown e in
    record { key_is = refl; argument_is = one-argument argument (shown_name shown) (shown-read argument shown t.0); allowed = t.1; more_is = refl }) h
value-read keys.Script subject given argument later h =
    file-found (is_file_name argument) (record given { script = Some argument }) (script_from argument) subject given keys.Script argument later
    (λ t. record { key_is = refl; argument_is = refl; allowed = t; more_is = refl }) h
value-read keys.Seed subject given argument later h =
    value-found (number_up_to most_seed argument) (λ n. record given { seed = Some n }) (λ n. seed_from argument)
    subject given keys.Seed argument later
    (λ n e. let t = number-test most_seed argument n e in
    record { key_is = refl; argument_is = refl; allowed = t.0; more_is = ap (λ (m : ℕ). record given { seed = Some m }) t.1 }) h
value-read keys.Guess subject given argument later h =
    value-found (rule_in argument) (λ rule. record given { guess = Some rule }) guess_by subject given keys.Guess argument later
    (λ rule e. record { key_is = refl; argument_is = one-argument argument (guess_name rule) (rule-read argument rule e); allowed = refl; more_is = refl }) h
value-read keys.Input subject given argument later h =
    file-found (is_file_name argument) (record given { input = Some argument }) (input_from argument) subject given keys.Input argument later
    (λ t. record { key_is = refl; argument_is = refl; allowed = t; more_is = refl }) h
value-read keys.Issues subject given argument later h =
    value-found (positive_in most_issues argument) (λ n. record given { issues = Some n }) (λ n. issue_at_most argument)
    subject given keys.Issues argument later
    (λ n e. let t = positive-test most_issues argument n e in
    record { key_is = refl; argument_is = refl; allowed = t.0; more_is = ap (λ (m : ℕ). record given { issues = Some m }) t.1 }) h
value-read keys.States subject given argument later h =
    value-found (positive_in most_states argument) (λ n. record given { states = Some n }) (λ n. reach_at_most argument)
    subject given keys.States argument later
    (λ n e. let t = positive-test most_states argument n e in
    record { key_is = refl; argument_is = refl; allowed = t.0; more_is = ap (λ (m : ℕ). record given { states = Some m }) t.1 }) h
value-read keys.Without subject given argument later h =
    value-found (rule_named argument) (λ rule. record given { without = Some rule }) do_without subject given keys.Without argument later
    (λ rule e.
    record { key_is = refl; argument_is = one-argument argument (rule_name rule) (sym (named_once argument rule e)); allowed = refl; more_is = refl }) h
value-read keys.Mul subject given argument later h = absurd (cc)
value-read keys.Run subject given argument later h = absurd (cc)

number-is : (most : ℕ) (argument : List ℕ) → is_number_argument most argument ≡ true →
    number_up_to most argument ≡ Some (digits_value 10 argument)
unfolding number_up_to
number-is most argument h = rw h

positive-is : (most : ℕ) (argument : List ℕ) → is_positive most argument ≡ true →
    positive_in most argument ≡ Some (digits_value 10 argument)
unfolding positive_in
positive-is most argument h = rw h

amount-is : (least most : ℕ) (argument : List ℕ) → is_amount_within least most argument ≡ true →
    amount_in least most argument ≡ Some (amount_of argument)
unfolding amount_in
amount-is least most argument h = rw h

-- an option that has a value
abbrev pub has_value : Key → Bool
has_value keys.Mul = false
has_value keys.Run = false
has_value _ = true

-- the value's argument
abbrev pub value_of : Setting → List ℕ
value_of (limit_to amount) = amount
value_of (say_every amount) = amount
value_of (show_of shown) = shown_name shown
value_of (script_from file) = file
value_of (seed_from digits) = digits
value_of (guess_by rule) = guess_name rule
value_of (input_from file) = file
value_of (issue_at_most digits) = digits
value_of (reach_at_most digits) = digits
value_of (do_without rule) = rule_name rule
value_of with_mul = []
value_of with_run = []

-- a value that the option may have is read as it is written
pub value-follows : (setting : Setting) (subject : Subject) (given : Given) → has_value (setting_key setting) ≡ true →
    is_value subject.name setting ≡ true →
    follow (valued subject given (setting_key setting)) (value_of setting) ≡ Some (options subject (put given setting))
unfolding follow given_with_value
value-follows (limit_to amount) subject given value h = rw (amount-is 0 (most_limit_of subject.name) amount h)
value-follows (say_every amount) subject given value h = rw (amount-is 1 most_limit amount h)
value-follows (show_of shown) subject given value h = rw (shown-written shown, h)
value-follows (script_from file) subject given value h = rw h
value-follows (seed_from digits) subject given value h = rw (number-is most_seed digits h)
value-follows (guess_by rule) subject given value h = rw (rule-written rule)
value-follows (input_from file) subject given value h = rw h
value-follows (issue_at_most digits) subject given value h = rw (positive-is most_issues digits h)
value-follows (reach_at_most digits) subject given value h = rw (positive-is most_states digits h)
value-follows (do_without rule) subject given value h = rw (named rule)
value-follows with_mul subject given value h = absurd (cc)
value-follows with_run subject given value h = absurd (cc)
