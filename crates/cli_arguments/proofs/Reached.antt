-- Which states are reached, and by how many arguments: at most thirty-four.
use Rattle.std.proofs.Common.{◌≡◌, ◌≤◌, ◌+◌, ℕ, List, [], ◌∷◌, length, Bool, true, false, refl, arith, Option, Some, None, inl, inr, ◌||◌, sym, ◌∙◌, subst, ap}
use Rattle.std.proofs.lemmas.Bool.Decides.{nat_tests}
use Rattle.cli_arguments.specs.declared.names.CommandName.{CommandName}
use Rattle.cli_arguments.specs.declared.names.CommandName.TheVariants as names
use Rattle.cli_arguments.specs.declared.options.Key.{Key}
use Rattle.cli_arguments.specs.declared.options.Key.TheVariants as keys
use Rattle.cli_arguments.specs.declared.reading.Subject.{Subject}
use Rattle.cli_arguments.specs.Commands.{fewest, most}
use Rattle.cli_arguments.specs.Options.{setting_key, takes_key, Setting, limit_to, say_every, show_of, script_from, seed_from, guess_by}
use Rattle.cli_arguments.specs.Options.{input_from, issue_at_most, reach_at_most, do_without, with_mul, with_run, Given}
use Rattle.cli_arguments.specs.Reading.{ReadingState, start, placed, options, valued, follow, after_key, has_key, is_there, nothing_given}
use Rattle.cli_arguments.proofs.Steps.{put, has_value, start-read, place-tests, placed-read, option-read, value-read}
use Rattle.cli_arguments.proofs.InTurn.{reads, reads-split, none-left}

-- as many positional arguments as the command may have
pub record HasPlaces (subject : Subject) : Type 0 where
  pub enough : fewest subject.name ≤ subject.count
  pub few : subject.count ≤ most subject.name

-- a seed and a guess rule are given only if the command has these options
abbrev pub IsGuessed : CommandName → Given → Type 0
IsGuessed name given = (takes_key name keys.Seed ≡ false → is_there given.seed ≡ false)
    × (takes_key name keys.Guess ≡ false → is_there given.guess ≡ false)

-- which states are reached: not too many positional arguments, enough before the options, and an option of the command
-- that has a value and has not occurred before
abbrev pub Reached : ReadingState → Type 0
Reached start = Unit {0}
Reached (placed subject) = subject.count ≤ most subject.name
Reached (options subject given) = HasPlaces subject × IsGuessed subject.name given
Reached (valued subject given key) =
    HasPlaces subject × (takes_key subject.name key ≡ true) × (has_value key ≡ true)
    × (has_key given key ≡ false) × IsGuessed subject.name given

reached-key : (key : Key) (subject : Subject) (given : Given) → HasPlaces subject →
    takes_key subject.name key ≡ true → has_key given key ≡ false → IsGuessed subject.name given →
    Reached (after_key subject given key)
reached-key keys.Limit subject given places taken fresh guessed = (places, taken, refl, fresh, guessed)
reached-key keys.Every subject given places taken fresh guessed = (places, taken, refl, fresh, guessed)
reached-key keys.Show subject given places taken fresh guessed = (places, taken, refl, fresh, guessed)
reached-key keys.Script subject given places taken fresh guessed = (places, taken, refl, fresh, guessed)
reached-key keys.Seed subject given places taken fresh guessed = (places, taken, refl, fresh, guessed)
reached-key keys.Guess subject given places taken fresh guessed = (places, taken, refl, fresh, guessed)
reached-key keys.Input subject given places taken fresh guessed = (places, taken, refl, fresh, guessed)
reached-key keys.Issues subject given places taken fresh guessed = (places, taken, refl, fresh, guessed)
reached-key keys.States subject given places taken fresh guessed = (places, taken, refl, fresh, guessed)
reached-key keys.Without subject given places taken fresh guessed = (places, taken, refl, fresh, guessed)
reached-key keys.Mul subject given places taken fresh guessed = (places, guessed)
reached-key keys.Run subject given places taken fresh guessed = (places, guessed)

reached-option : (subject : Subject) (given : Given) (argument : List ℕ) (later : ReadingState) → HasPlaces subject → IsGuessed subject.name given →
    follow (options subject given) argument ≡ Some later → Reached later
reached-option subject given argument later places guessed h =
    let r = option-read subject given argument later h in
    subst Reached (sym r.after_is) (reached-key r.key subject given places r.taken r.fresh guessed)

put-guessed : (setting : Setting) (subject : Subject) (given : Given) → takes_key subject.name (setting_key setting) ≡ true →
    IsGuessed subject.name given → IsGuessed subject.name (put given setting)
put-guessed (guess_by rule) subject given taken guessed = (guessed.0, λ untaken. absurd (cc))
put-guessed (seed_from digits) subject given taken guessed = (λ untaken. absurd (cc), guessed.1)
put-guessed (limit_to amount) subject given taken guessed = guessed
put-guessed (say_every amount) subject given taken guessed = guessed
put-guessed (show_of shown) subject given taken guessed = guessed
put-guessed (script_from file) subject given taken guessed = guessed
put-guessed (input_from file) subject given taken guessed = guessed
put-guessed (issue_at_most digits) subject given taken guessed = guessed
put-guessed (reach_at_most digits) subject given taken guessed = guessed
put-guessed (do_without rule) subject given taken guessed = guessed
put-guessed with_mul subject given taken guessed = guessed
put-guessed with_run subject given taken guessed = guessed

reached-next : (state : ReadingState) (argument : List ℕ) (later : ReadingState) → Reached state →
    follow state argument ≡ Some later → Reached later
reached-next start argument later reached h =
    let r = start-read argument later h in subst Reached (sym r.after_is) (omega arith)
reached-next (placed subject) argument later reached h = elim (placed-read subject argument later h) [
  | inl (place, is) ↦
      let t = place-tests subject argument place in subst Reached (sym is) (omega (arith, t.0))
  | inr (enough, followed) ↦
      let n : fewest subject.name ≤ subject.count = grind (arith, nat_tests, enough) in
      reached-option subject nothing_given argument later (record { enough = n; few = reached }) (λ untaken. refl, λ untaken. refl) followed
]
reached-next (options subject given) argument later reached h =
    reached-option subject given argument later reached.0 reached.1 h
reached-next (valued subject given key) argument later reached h =
    let r = value-read key subject given argument later h in
    let taken : takes_key subject.name (setting_key r.setting) ≡ true = subst (λ k. takes_key subject.name k ≡ true) (sym r.key_is) reached.1 in
    subst Reached (sym r.after_is) (reached.0, put-guessed r.setting subject given taken reached.4)

pub reached-last : (arguments : List (List ℕ)) (state last : ReadingState) → Reached state →
    reads state arguments ≡ Some last → Reached last
reached-last [] state last reached h = subst Reached (none-left state last h) reached
reached-last (argument ∷ arguments) state last reached h =
    let s = reads-split state argument arguments last h in
    reached-last arguments s.later last (reached-next state argument s.later reached s.followed) s.rest

-- how many arguments were read
abbrev size_of : {A : Type 0} → Option A → ℕ
size_of None = 0
size_of (Some x) = 2

abbrev size_if : Bool → ℕ
size_if true = 1
size_if false = 0

abbrev given_size : Given → ℕ
given_size given =
    size_of given.limit + (size_of given.every + (size_of given.show + (size_of given.script + (size_of given.seed
    + (size_of given.guess + (size_of given.input + (size_of given.issues + (size_of given.states
    + (size_of given.without + (size_if given.mul + size_if given.run))))))))))

abbrev size : ReadingState → ℕ
size start = 0
size (placed subject) = 1 + subject.count
size (options subject given) = 1 + (subject.count + given_size given)
size (valued subject given key) = 2 + (subject.count + given_size given)

not-there-size : {A : Type 0} → (o : Option A) → is_there o ≡ false → size_of o ≡ 0
not-there-size None h = refl
not-there-size (Some x) h = absurd (cc)

size-if-false : (b : Bool) → b ≡ false → size_if b ≡ 0
size-if-false true h = absurd (cc)
size-if-false false h = refl

neither : (a b : Bool) → (a || b) ≡ false → (a ≡ false) × (b ≡ false)
neither true b h = absurd (cc)
neither false b h = (refl, h)

size-key : (key : Key) (subject : Subject) (given : Given) → has_key given key ≡ false →
    size (after_key subject given key) ≡ size (options subject given) + 1
size-key keys.Limit subject given fresh = omega arith
size-key keys.Every subject given fresh = omega arith
size-key keys.Show subject given fresh = omega arith
size-key keys.Script subject given fresh = omega arith
size-key keys.Seed subject given fresh = omega arith
size-key keys.Guess subject given fresh = omega arith
size-key keys.Input subject given fresh = omega arith
size-key keys.Issues subject given fresh = omega arith
size-key keys.States subject given fresh = omega arith
size-key keys.Without subject given fresh = omega arith
size-key keys.Mul subject given fresh = omega (arith, size-if-false given.mul fresh)
size-key keys.Run subject given fresh = omega (arith, size-if-false given.run fresh)

size-value : (setting : Setting) (subject : Subject) (given : Given) → has_value (setting_key setting) ≡ true →
    has_key given (setting_key setting) ≡ false →
    size (options subject (put given setting)) ≡ size (valued subject given (setting_key setting)) + 1
size-value (limit_to amount) subject given value fresh = omega (arith, not-there-size given.limit fresh)
size-value (say_every amount) subject given value fresh = omega (arith, not-there-size given.every fresh)
size-value (show_of shown) subject given value fresh = omega (arith, not-there-size given.show fresh)
size-value (script_from file) subject given value fresh = omega (
  arith,
  not-there-size given.script
      (neither (is_there given.script) (is_there given.seed || is_there given.guess) fresh).0,
)
size-value (seed_from digits) subject given value fresh = omega (
  arith,
  not-there-size given.seed
      (neither (is_there given.seed) (is_there given.script) fresh).0,
)
size-value (guess_by rule) subject given value fresh = omega (
  arith,
  not-there-size given.guess
      (neither (is_there given.guess) (is_there given.script) fresh).0,
)
size-value (input_from file) subject given value fresh = omega (arith, not-there-size given.input fresh)
size-value (issue_at_most digits) subject given value fresh = omega (arith, not-there-size given.issues fresh)
size-value (reach_at_most digits) subject given value fresh = omega (arith, not-there-size given.states fresh)
size-value (do_without rule) subject given value fresh = omega (arith, not-there-size given.without fresh)
size-value with_mul subject given value fresh = absurd (cc)
size-value with_run subject given value fresh = absurd (cc)

size-option : (subject : Subject) (given : Given) (argument : List ℕ) (later : ReadingState) →
    follow (options subject given) argument ≡ Some later →
    size later ≡ size (options subject given) + 1
size-option subject given argument later h =
    let r = option-read subject given argument later h in
    ap size r.after_is ∙ size-key r.key subject given r.fresh

size-next : (state : ReadingState) (argument : List ℕ) (later : ReadingState) → Reached state →
    follow state argument ≡ Some later → size later ≡ size state + 1
size-next start argument later reached h = let r = start-read argument later h in ap size r.after_is
size-next (placed subject) argument later reached h = elim (placed-read subject argument later h) [
  | inl (place, is) ↦ let e = ap size is in omega (arith, e)
  | inr (enough, followed) ↦ let e = size-option subject nothing_given argument later followed in omega (arith, e)
]
size-next (options subject given) argument later reached h = size-option subject given argument later h
size-next (valued subject given key) argument later reached h =
    let r = value-read key subject given argument later h in
    let v : has_value (setting_key r.setting) ≡ true = subst (λ k. has_value k ≡ true) (sym r.key_is)
    reached.2 in
    let f : has_key given (setting_key r.setting) ≡ false = subst (λ k. has_key given k ≡ false)
    (sym r.key_is) reached.3 in
    ap size r.after_is ∙ size-value r.setting subject given v f

size-last : (arguments : List (List ℕ)) (state last : ReadingState) → Reached state → reads state arguments ≡ Some last →
    size last ≡ size state + length arguments
size-last [] state last reached h = let s = ap size (none-left state last h) in omega (arith, s)
size-last (argument ∷ arguments) state last reached h =
    let s = reads-split state argument arguments last h in
    let a : size s.later ≡ size state + 1 = size-next state argument s.later reached s.followed in
    let b : size last ≡ size s.later + length arguments =
    size-last arguments s.later last (reached-next state argument s.later reached s.followed) s.rest in
    omega arith

-- the size of the state is the number of arguments that were read
pub arguments-read : (arguments : List (List ℕ)) (last : ReadingState) → reads start arguments ≡ Some last →
    size last ≡ length arguments
arguments-read arguments last h = let s = size-last arguments start last tt h in omega (arith, s)

-- so there are at least a command and its positional arguments
abbrev pub Stands : ℕ → ReadingState → Type 0
Stands length start = Unit {0}
Stands length (placed subject) = 1 + subject.count ≤ length
Stands length (options subject given) = 1 + subject.count ≤ length
Stands length (valued subject given key) = 1 + subject.count ≤ length

pub stands : (state : ReadingState) (n : ℕ) → size state ≡ n → Stands n state
stands start n h = tt
stands (placed subject) n h = omega (arith, h)
stands (options subject given) n h = omega (arith, h)
stands (valued subject given key) n h = omega (arith, h)

size-of-few : {A : Type 0} → (o : Option A) → size_of o ≤ 2
size-of-few None = omega arith
size-of-few (Some x) = omega arith

size-if-few : (b : Bool) → size_if b ≤ 1
size-if-few true = omega arith
size-if-few false = omega arith

most-few : (name : CommandName) → most name ≤ 10
most-few names.Machine = omega arith
most-few names.Run = omega arith
most-few names.Moves = omega arith
most-few names.Rounds = omega arith
most-few names.Orders = omega arith
most-few names.Conform = omega arith
most-few names.Debug = omega arith
most-few names.Time = omega arith
most-few names.Audit = omega arith
most-few names.Check = omega arith
most-few names.Asm = omega arith
most-few names.List = omega arith
most-few names.Gen = omega arith
most-few names.Help = omega arith
most-few names.HelpOption = omega arith
most-few names.HelpLetter = omega arith
most-few names.Version = omega arith
most-few names.VersionLetter = omega arith

given-few : (given : Given) → given_size given ≤ 22
given-few given = omega (
  arith,
  size-of-few given.limit,
  size-of-few given.every,
  size-of-few given.show,
  size-of-few given.script,
  size-of-few given.seed,
  size-of-few given.guess,
  size-of-few given.input,
  size-of-few given.issues,
  size-of-few given.states,
  size-of-few given.without,
  size-if-few given.mul,
  size-if-few given.run,
)

size-few : (state : ReadingState) → Reached state → size state ≤ 34
size-few start reached = omega arith
size-few (placed subject) reached = omega (arith, reached, most-few subject.name)
size-few (options subject given) reached =
    omega (arith, reached.0.few, most-few subject.name, given-few given)
size-few (valued subject given key) reached =
    omega (arith, reached.0.few, most-few subject.name, given-few given)

-- no more arguments can be read
pub few-read : (arguments : List (List ℕ)) (last : ReadingState) → reads start arguments ≡ Some last → length arguments ≤ 34
few-read arguments last h =
    let s = arguments-read arguments last h in
    omega (arith, s, size-few last (reached-last arguments start last tt h))
