-- The options after the positional arguments: read in turn they are a list in which none occurs twice, and give its
-- contents.
use Rattle.std.proofs.Common.{◌≡◌, ℕ, List, [], ◌∷◌, ◌++◌, Bool, true, false, refl, Option, Some, None, ◌&&◌, ◌||◌, sym, ◌∙◌, subst, ap}
use Rattle.std.specs.Option.{option_or}
use Rattle.std.specs.List.{list_all}
use Rattle.cli_arguments.specs.declared.options.Key.{Key}
use Rattle.cli_arguments.specs.declared.options.Key.TheVariants as keys
use Rattle.cli_arguments.specs.declared.reading.Subject.{Subject}
use Rattle.cli_arguments.specs.Options.{option_name, setting_key, value_arguments, setting_arguments, takes_key, is_value, takes_setting, excludes}
use Rattle.cli_arguments.specs.Options.{Without, NoneTwice, Setting, limit_to, say_every, show_of, script_from, seed_from, guess_by}
use Rattle.cli_arguments.specs.Options.{input_from, issue_at_most, reach_at_most, do_without, with_mul, with_run, Given, given_in}
use Rattle.cli_arguments.specs.Reading.{ReadingState, start, placed, options, valued, after_key, has_key, is_there, nothing_given}
use Rattle.cli_arguments.proofs.InTurn.{reads, reads-split, reads-step, none-left}
use Rattle.cli_arguments.proofs.Steps.{put, has_value, value_of, option-read, value-read, option-follows, value-follows}

-- no earlier option excludes this one
abbrev pub Fresh : Given → List Setting → Type 0
Fresh given [] = Unit {0}
Fresh given (setting ∷ settings) = (has_key given (setting_key setting) ≡ false) × Fresh (put given setting)
    settings

abbrev pub put_all : Given → List Setting → Given
put_all given [] = given
put_all given (setting ∷ settings) = put_all (put given setting) settings

or-true : (b : Bool) → (b || true) ≡ true
or-true true = refl
or-true false = refl

-- an option that is given with the others excludes what it excludes by itself
put-key : (given : Given) (setting : Setting) (key : Key) →
    has_key (put given setting) key ≡ (excludes (setting_key setting) key || has_key given key)
put-key given (limit_to amount) keys.Limit = refl
put-key given (limit_to amount) key = refl
put-key given (say_every amount) keys.Every = refl
put-key given (say_every amount) key = refl
put-key given (show_of shown) keys.Show = refl
put-key given (show_of shown) key = refl
put-key given (input_from file) keys.Input = refl
put-key given (input_from file) key = refl
put-key given (issue_at_most digits) keys.Issues = refl
put-key given (issue_at_most digits) key = refl
put-key given (reach_at_most digits) keys.States = refl
put-key given (reach_at_most digits) key = refl
put-key given (do_without rule) keys.Without = refl
put-key given (do_without rule) key = refl
put-key given (script_from file) keys.Script = refl
put-key given (script_from file) keys.Seed = or-true (is_there given.seed)
put-key given (script_from file) keys.Guess = or-true (is_there given.guess)
put-key given (script_from file) key = refl
put-key given (seed_from digits) keys.Script = or-true (is_there given.script)
put-key given (seed_from digits) keys.Seed = refl
put-key given (seed_from digits) key = refl
put-key given (guess_by rule) keys.Script = rw (or-true (is_there given.seed)) (or-true (is_there given.script))
put-key given (guess_by rule) keys.Guess = refl
put-key given (guess_by rule) key = refl
put-key given with_mul keys.Mul = refl
put-key given with_mul key = refl
put-key given with_run keys.Run = refl
put-key given with_run key = refl

-- each option that a given one excludes is recorded as excluded
abbrev IsGiven : Given → Key → Type 0
IsGiven given key = (other : Key) → excludes key other ≡ true → has_key given other ≡ true

put-given-one : (given : Given) (setting : Setting) → IsGiven (put given setting) (setting_key setting)
put-given-one given setting other e = put-key given setting other ∙ rw e refl

put-keeps : (given : Given) (setting : Setting) (key : Key) → IsGiven given key →
    IsGiven (put given setting) key
put-keeps given setting key is other e =
    put-key given setting other ∙ rw (is other e) (or-true (excludes (setting_key setting) other))

-- fresh options do not exclude each other
fresh-without : (settings : List Setting) (given : Given) (key : Key) →
    IsGiven given key → Fresh given settings → Without key settings
fresh-without [] given key is fresh = tt
fresh-without (setting ∷ settings) given key is fresh = (
  free (excludes key (setting_key setting)) refl,
  fresh-without settings (put given setting) key (put-keeps given setting key is) fresh.1,
)
  where
    free : (b : Bool) → excludes key (setting_key setting) ≡ b → b ≡ false
    free false e = refl
    free true e = let g : has_key given (setting_key setting) ≡ true = is (setting_key setting) e in let f = fresh.0 in absurd (cc)

pub fresh-once : (settings : List Setting) (given : Given) → Fresh given settings → NoneTwice settings
fresh-once [] given fresh = tt
fresh-once (setting ∷ settings) given fresh = (
  fresh-without settings (put given setting) (setting_key setting) (put-given-one given setting) fresh.1,
  fresh-once settings (put given setting) fresh.1,
)

-- and options that do not exclude each other are fresh
abbrev Clear : Given → List Setting → Type 0
Clear given [] = Unit {0}
Clear given (setting ∷ settings) = (has_key given (setting_key setting) ≡ false) × Clear given settings

clear-put : (settings : List Setting) (given : Given) (setting : Setting) → Clear given settings →
    Without (setting_key setting) settings → Clear (put given setting) settings
clear-put [] given setting clear without = tt
clear-put (next ∷ settings) given setting clear without = (
  put-key given setting (setting_key next) ∙ rw (without.0, clear.0) refl,
  clear-put settings given setting clear.1 without.1,
)

clear-fresh : (settings : List Setting) (given : Given) → Clear given settings → NoneTwice settings →
    Fresh given settings
clear-fresh [] given clear once = tt
clear-fresh (setting ∷ settings) given clear once = (
  clear.0,
  clear-fresh settings (put given setting)
      (clear-put settings given setting clear.1 once.0) once.1,
)

nothing-has : (key : Key) → has_key nothing_given key ≡ false
nothing-has keys.Limit = refl
nothing-has keys.Every = refl
nothing-has keys.Show = refl
nothing-has keys.Script = refl
nothing-has keys.Seed = refl
nothing-has keys.Guess = refl
nothing-has keys.Input = refl
nothing-has keys.Issues = refl
nothing-has keys.States = refl
nothing-has keys.Without = refl
nothing-has keys.Mul = refl
nothing-has keys.Run = refl

clear-nothing : (settings : List Setting) → Clear nothing_given settings
clear-nothing [] = tt
clear-nothing (setting ∷ settings) = (nothing-has (setting_key setting), clear-nothing settings)

pub once-fresh : (settings : List Setting) → NoneTwice settings → Fresh nothing_given settings
once-fresh settings once = clear-fresh settings nothing_given (clear-nothing settings) once

-- what they give in turn is what is found among them
abbrev joined : Given → Given → Given
joined given more = record {
  limit = option_or given.limit more.limit;
  every = option_or given.every more.every;
  show = option_or given.show more.show;
  script = option_or given.script more.script;
  seed = option_or given.seed more.seed;
  guess = option_or given.guess more.guess;
  input = option_or given.input more.input;
  issues = option_or given.issues more.issues;
  states = option_or given.states more.states;
  without = option_or given.without more.without;
  mul = given.mul || more.mul;
  run = given.run || more.run;
}

not-there : {A : Type 0} → (o : Option A) → is_there o ≡ false → o ≡ None
not-there None h = refl
not-there (Some x) h = absurd (cc)

neither : (a b : Bool) → (a || b) ≡ false → (a ≡ false) × (b ≡ false)
neither true b h = absurd (cc)
neither false b h = (refl, h)

joined-put : (given : Given) (setting : Setting) (settings : List Setting) →
    has_key given (setting_key setting) ≡ false →
    joined (put given setting) (given_in settings) ≡ joined given (given_in (setting ∷ settings))
joined-put given (limit_to amount) settings h = let e = not-there given.limit h in rw e
joined-put given (say_every amount) settings h = let e = not-there given.every h in rw e
joined-put given (show_of shown) settings h = let e = not-there given.show h in rw e
joined-put given (script_from file) settings h = let e = not-there given.script
    (neither (is_there given.script) (is_there given.seed || is_there given.guess) h).0 in rw e
joined-put given (seed_from digits) settings h = let e = not-there given.seed (neither (is_there given.seed) (is_there given.script) h).0 in rw e
joined-put given (guess_by rule) settings h = let e = not-there given.guess (neither (is_there given.guess) (is_there given.script) h).0 in rw e
joined-put given (input_from file) settings h = let e = not-there given.input h in rw e
joined-put given (issue_at_most digits) settings h = let e = not-there given.issues h in rw e
joined-put given (reach_at_most digits) settings h = let e = not-there given.states h in rw e
joined-put given (do_without rule) settings h = let e = not-there given.without h in rw e
joined-put given with_mul settings h = rw h
joined-put given with_run settings h = rw h

or-none : {A : Type 0} → (o : Option A) → option_or o None ≡ o
or-none None = refl
or-none (Some x) = refl

or-false : (b : Bool) → (b || false) ≡ b
or-false true = refl
or-false false = refl

put-joined : (settings : List Setting) (given : Given) → Fresh given settings →
    put_all given settings ≡ joined given (given_in settings)
put-joined [] given fresh =
    sym (rw (
      or-none given.limit,
      or-none given.every,
      or-none given.show,
      or-none given.script,
      or-none given.seed,
      or-none given.guess,
      or-none given.input,
      or-none given.issues,
      or-none given.states,
      or-none given.without,
      or-false given.mul,
      or-false given.run,
    ))
put-joined (setting ∷ settings) given fresh =
    put-joined settings (put given setting) fresh.1 ∙ joined-put given setting settings fresh.0

pub put-given : (settings : List Setting) → Fresh nothing_given settings →
    put_all nothing_given settings ≡ given_in settings
put-given settings fresh = put-joined settings nothing_given fresh

-- no value is missing
abbrev pub IsWhole : ReadingState → Type 0
IsWhole start = ⊥
IsWhole (placed subject) = Unit {0}
IsWhole (options subject given) = Unit {0}
IsWhole (valued subject given key) = ⊥

-- the arguments after the positional ones, as a list of options
pub record Tail (subject : Subject) (given : Given) (arguments : List (List ℕ)) (last : ReadingState) : Type 0 where
  pub settings : List Setting
  pub arguments_are : arguments ≡ setting_arguments settings
  pub taken : list_all (takes_setting subject.name) settings ≡ true
  pub fresh : Fresh given settings
  pub last_is : last ≡ options subject (put_all given settings)

tail-none : (subject : Subject) (given : Given) (last : ReadingState) →
    reads (options subject given) [] ≡ Some last → Tail subject given [] last
tail-none subject given last h =
    record { settings = []; arguments_are = refl; taken = refl; fresh = tt; last_is = cc }

-- one more option before the others
tail-more : (subject : Subject) (given : Given) (setting : Setting) (arguments : List (List ℕ)) (last : ReadingState) →
    takes_key subject.name (setting_key setting) ≡ true → is_value subject.name setting ≡ true →
    has_key given (setting_key setting) ≡ false → Tail subject (put given setting) arguments last →
    Tail subject given (option_name (setting_key setting) ∷ (value_arguments setting ++ arguments)) last
tail-more subject given setting arguments last taken allowed fresh tail = record {
  settings = setting ∷ tail.settings;
  arguments_are = ap (λ (ws : List (List ℕ)). option_name (setting_key setting) ∷ (value_arguments setting ++ ws))
      tail.arguments_are;
  taken = rw (taken, allowed) tail.taken;
  fresh = (fresh, tail.fresh);
  last_is = tail.last_is;
}

-- an option with a value: the arguments after its name
tail-valued : (key : Key) (subject : Subject) (given : Given) (arguments : List (List ℕ)) (last : ReadingState) →
    takes_key subject.name key ≡ true → has_key given key ≡ false →
    reads (valued subject given key) arguments ≡ Some last → IsWhole last →
    ((value : List ℕ) (later : List (List ℕ)) → arguments ≡ value ∷ later → (more : Given) →
    reads (options subject more) later ≡ Some last → Tail subject more later last) →
    Tail subject given (option_name key ∷ arguments) last
tail-valued key subject given [] last taken fresh h whole later =
    absurd (subst IsWhole (sym (none-left (valued subject given key) last h)) whole)
tail-valued key subject given (value ∷ arguments) last taken fresh h whole later =
    let s = reads-split (valued subject given key) value arguments last h in
    let v = value-read key subject given value s.later s.followed in
    let r : reads (options subject (put given v.setting)) arguments ≡ Some last =
    subst (λ b. reads b arguments ≡ Some last) v.after_is s.rest in
    let t : Tail subject (put given v.setting) arguments last = later value arguments refl
    (put given v.setting) r in
    let a : takes_key subject.name (setting_key v.setting) ≡ true =
    subst (λ k. takes_key subject.name k ≡ true) (sym v.key_is) taken in
    let f : has_key given (setting_key v.setting) ≡ false =
    subst (λ k. has_key given k ≡ false) (sym v.key_is) fresh in
    let m : Tail subject given (option_name (setting_key v.setting) ∷ (value_arguments v.setting ++ arguments)) last =
    tail-more subject given v.setting arguments last a v.allowed f t in
    let m1 : Tail subject given (option_name key ∷ (value_arguments v.setting ++ arguments)) last =
    subst (λ k. Tail subject given (option_name k ∷ (value_arguments v.setting ++ arguments)) last) v.key_is m in
    subst (λ (ws : List (List ℕ)). Tail subject given (option_name key ∷ (ws ++ arguments)) last) v.argument_is m1

tail-keyed : (key : Key) (subject : Subject) (given : Given) (arguments : List (List ℕ)) (last : ReadingState) →
    takes_key subject.name key ≡ true → has_key given key ≡ false →
    reads (after_key subject given key) arguments ≡ Some last → IsWhole last →
    ((more : Given) → reads (options subject more) arguments ≡ Some last → Tail subject more arguments last) →
    ((value : List ℕ) (later : List (List ℕ)) → arguments ≡ value ∷ later → (more : Given) →
    reads (options subject more) later ≡ Some last → Tail subject more later last) →
    Tail subject given (option_name key ∷ arguments) last
tail-keyed keys.Limit subject given arguments last taken fresh h whole next later =
    tail-valued keys.Limit subject given arguments last taken fresh h whole later
tail-keyed keys.Every subject given arguments last taken fresh h whole next later =
    tail-valued keys.Every subject given arguments last taken fresh h whole later
tail-keyed keys.Show subject given arguments last taken fresh h whole next later =
    tail-valued keys.Show subject given arguments last taken fresh h whole later
tail-keyed keys.Script subject given arguments last taken fresh h whole next later =
    tail-valued keys.Script subject given arguments last taken fresh h whole later
tail-keyed keys.Seed subject given arguments last taken fresh h whole next later =
    tail-valued keys.Seed subject given arguments last taken fresh h whole later
tail-keyed keys.Guess subject given arguments last taken fresh h whole next later =
    tail-valued keys.Guess subject given arguments last taken fresh h whole later
tail-keyed keys.Input subject given arguments last taken fresh h whole next later =
    tail-valued keys.Input subject given arguments last taken fresh h whole later
tail-keyed keys.Issues subject given arguments last taken fresh h whole next later =
    tail-valued keys.Issues subject given arguments last taken fresh h whole later
tail-keyed keys.States subject given arguments last taken fresh h whole next later =
    tail-valued keys.States subject given arguments last taken fresh h whole later
tail-keyed keys.Without subject given arguments last taken fresh h whole next later =
    tail-valued keys.Without subject given arguments last taken fresh h whole later
tail-keyed keys.Mul subject given arguments last taken fresh h whole next later =
    tail-more subject given with_mul arguments last taken refl fresh (next (put given with_mul) h)
tail-keyed keys.Run subject given arguments last taken fresh h whole next later =
    tail-more subject given with_run arguments last taken refl fresh (next (put given with_run) h)

tail-argument : (subject : Subject) (given : Given) (argument : List ℕ) (arguments : List (List ℕ)) (last : ReadingState) →
    reads (options subject given) (argument ∷ arguments) ≡ Some last → IsWhole last →
    ((more : Given) → reads (options subject more) arguments ≡ Some last → Tail subject more arguments last) →
    ((value : List ℕ) (later : List (List ℕ)) → arguments ≡ value ∷ later → (more : Given) →
    reads (options subject more) later ≡ Some last → Tail subject more later last) →
    Tail subject given (argument ∷ arguments) last
tail-argument subject given argument arguments last h whole next later =
    let s = reads-split (options subject given) argument arguments last h in
    let k = option-read subject given argument s.later s.followed in
    let r : reads (after_key subject given k.key) arguments ≡ Some last =
    subst (λ b. reads b arguments ≡ Some last) k.after_is s.rest in
    let t : Tail subject given (option_name k.key ∷ arguments) last =
    tail-keyed k.key subject given arguments last k.taken k.fresh r whole next later in
    subst (λ (w : List ℕ). Tail subject given (w ∷ arguments) last) (sym k.argument_is) t

pub tail-read : (arguments : List (List ℕ)) (subject : Subject) (given : Given) (last : ReadingState) →
    reads (options subject given) arguments ≡ Some last → IsWhole last → Tail subject given arguments last
tail-read [] subject given last h whole = tail-none subject given last h
tail-read (argument ∷ []) subject given last h whole =
    tail-argument subject given argument [] last h whole
    (λ more r. tail-none subject more last r)
    (λ value later e more r. absurd (cc))
tail-read (argument ∷ value ∷ arguments) subject given last h whole =
    tail-argument subject given argument (value ∷ arguments) last h whole
    (λ more r. tail-read (value ∷ arguments) subject more last r whole)
    (λ same later e more r.
    let l : arguments ≡ later = cc in
    let r1 : reads (options subject more) arguments ≡ Some last =
    subst (λ (ws : List (List ℕ)). reads (options subject more) ws ≡ Some last) (sym l) r in
    subst (λ (ws : List (List ℕ)). Tail subject more ws last) l
    (tail-read arguments subject more last r1 whole))

-- an option with a value is read as it is written
valued-setting : (setting : Setting) (subject : Subject) (given : Given) (arguments : List (List ℕ)) →
    value_arguments setting ≡ value_of setting ∷ [] → after_key subject given (setting_key setting) ≡ valued subject given (setting_key setting) →
    has_value (setting_key setting) ≡ true → takes_key subject.name (setting_key setting) ≡ true → is_value subject.name setting ≡ true →
    has_key given (setting_key setting) ≡ false →
    reads (options subject given) (option_name (setting_key setting) ∷ (value_arguments setting ++ arguments))
    ≡ reads (options subject (put given setting)) arguments
valued-setting setting subject given arguments one after value taken allowed fresh =
    ap (λ (vs : List (List ℕ)). reads (options subject given) (option_name (setting_key setting) ∷ (vs ++ arguments))) one
    ∙ (reads-step (options subject given) (option_name (setting_key setting)) (value_of setting ∷ arguments)
    (valued subject given (setting_key setting))
    (option-follows subject given (setting_key setting) taken fresh ∙ ap (λ (s : ReadingState). Some s) after)
    ∙ reads-step (valued subject given (setting_key setting)) (value_of setting) arguments (options subject (put given setting))
    (value-follows setting subject given value allowed))

-- one option is read as it is written
setting-read : (setting : Setting) (subject : Subject) (given : Given) (arguments : List (List ℕ)) →
    takes_key subject.name (setting_key setting) ≡ true → is_value subject.name setting ≡ true →
    has_key given (setting_key setting) ≡ false →
    reads (options subject given) (option_name (setting_key setting) ∷ (value_arguments setting ++ arguments))
    ≡ reads (options subject (put given setting)) arguments
setting-read (limit_to amount) subject given arguments taken allowed fresh =
    valued-setting (limit_to amount) subject given arguments refl refl refl taken allowed fresh
setting-read (say_every amount) subject given arguments taken allowed fresh =
    valued-setting (say_every amount) subject given arguments refl refl refl taken allowed fresh
setting-read (show_of shown) subject given arguments taken allowed fresh =
    valued-setting (show_of shown) subject given arguments refl refl refl taken allowed fresh
setting-read (script_from file) subject given arguments taken allowed fresh =
    valued-setting (script_from file) subject given arguments refl refl refl taken allowed fresh
setting-read (seed_from digits) subject given arguments taken allowed fresh =
    valued-setting (seed_from digits) subject given arguments refl refl refl taken allowed fresh
setting-read (guess_by rule) subject given arguments taken allowed fresh =
    valued-setting (guess_by rule) subject given arguments refl refl refl taken allowed fresh
setting-read (input_from file) subject given arguments taken allowed fresh =
    valued-setting (input_from file) subject given arguments refl refl refl taken allowed fresh
setting-read (issue_at_most digits) subject given arguments taken allowed fresh =
    valued-setting (issue_at_most digits) subject given arguments refl refl refl taken allowed fresh
setting-read (reach_at_most digits) subject given arguments taken allowed fresh =
    valued-setting (reach_at_most digits) subject given arguments refl refl refl taken allowed fresh
setting-read (do_without rule) subject given arguments taken allowed fresh =
    valued-setting (do_without rule) subject given arguments refl refl refl taken allowed fresh
setting-read with_mul subject given arguments taken allowed fresh =
    reads-step (options subject given) (option_name keys.Mul) arguments (options subject (put given with_mul))
    (option-follows subject given keys.Mul taken fresh)
setting-read with_run subject given arguments taken allowed fresh =
    reads-step (options subject given) (option_name keys.Run) arguments (options subject (put given with_run))
    (option-follows subject given keys.Run taken fresh)

pub both : (a b : Bool) → (a && b) ≡ true → (a ≡ true) × (b ≡ true)
both true true h = (refl, refl)
both true false h = absurd (cc)
both false b h = absurd (cc)

pub settings-read : (settings : List Setting) (subject : Subject) (given : Given) →
    list_all (takes_setting subject.name) settings ≡ true → Fresh given settings →
    reads (options subject given) (setting_arguments settings) ≡ Some (options subject (put_all given settings))
settings-read [] subject given taken fresh = refl
settings-read (setting ∷ settings) subject given taken fresh =
    let a = both (takes_setting subject.name setting) (list_all (takes_setting subject.name) settings) taken in
    let t = both (takes_key subject.name (setting_key setting)) (is_value subject.name setting)
    a.0 in
    setting-read setting subject given (setting_arguments settings) t.0 t.1 fresh.0
    ∙ settings-read settings subject (put given setting) a.1 fresh.1
