-- Each state that is reached can be completed to a command.
use Rattle.std.proofs.Common.{◌≡◌, ◌≤◌, ◌<◌, ◌+◌, ◌⊎◌, ◌&&◌, ℕ, zero, suc, List, [], ◌∷◌, ◌++◌, codes, length, map, take, drop, Bool, true}
use Rattle.std.proofs.Common.{false, refl, arith, Option, Some, None, inl, inr, sym, subst, ◌∙◌, ap, append-nil, append_assoc}
use Rattle.std.specs.List.{list_all}
use Rattle.std.specs.Prelude.{is_some}
use Rattle.std.proofs.lemmas.Bool.{cases_lt}
use Rattle.std.proofs.lemmas.Bool.Decides.{nat_tests}
use Rattle.std.proofs.lemmas.List.{length-append, take-append-le, take-map, drop-map}
use Rattle.run_options.specs.declared.guess_rule.GuessRule.TheVariants as rules
use Rattle.run_options.specs.Limits.{most_limit}
use Rattle.order_rules.specs.declared.rule.Rule.TheVariants.{MeetDie}
use Rattle.cli_arguments.specs.declared.names.CommandName.{CommandName}
use Rattle.cli_arguments.specs.declared.names.CommandName.TheVariants as names
use Rattle.cli_arguments.specs.declared.names.PlaceKind.{PlaceKind}
use Rattle.cli_arguments.specs.declared.names.PlaceKind.TheVariants.{Files, Numbers, Topics}
use Rattle.cli_arguments.specs.declared.options.Key.{Key}
use Rattle.cli_arguments.specs.declared.options.Key.TheVariants as keys
use Rattle.cli_arguments.specs.declared.reading.Subject.{Subject}
use Rattle.cli_arguments.specs.declared.shown.Shown.{Shown}
use Rattle.cli_arguments.specs.declared.shown.Shown.TheVariants as shows
use Rattle.cli_arguments.specs.Values.{amount_of, count_in, digits_in, is_amount, is_amount_within, positive_in, unit_of}
use Rattle.cli_arguments.specs.Commands.{command_name, fewest, most, is_of, is_positional, name_in, place_kind, topic_in}
use Rattle.cli_arguments.specs.Options.{option_name, setting_key, takes_key, can_show, is_value, most_limit_of, Setting, limit_to, say_every}
use Rattle.cli_arguments.specs.Options.{show_of, script_from, seed_from, guess_by, input_from, issue_at_most, reach_at_most, do_without}
use Rattle.cli_arguments.specs.Options.{Given, by_script}
use Rattle.cli_arguments.specs.Arguments.{Asked, gen, help_on, moves, layout_in, limit_of, asked_by}
use Rattle.cli_arguments.specs.Reading.{ReadingState, start, placed, options, valued, unplaced, one_place_more, follow, has_key}
use Rattle.cli_arguments.specs.Reading.{nothing_given, positional_in, completed}
use Rattle.cli_arguments.proofs.InTurn.{after, reads, reads-step, reads-append}
use Rattle.cli_arguments.proofs.Grammar.{positional-read}
use Rattle.cli_arguments.proofs.Reached.{Reached, HasPlaces, IsGuessed, Stands, reached-last, arguments-read, stands}
use Rattle.cli_arguments.proofs.Steps.{put, has_value, value_of, start-follows, tests-place, placed-follows, first-option, option-follows, value-follows}

-- arguments that were read can be completed
pub record Completion (arguments : List (List ℕ)) : Type 0 where
  pub more : List (List ℕ)
  pub last : ReadingState
  pub asked : Asked
  pub read : reads start (arguments ++ more) ≡ Some last
  pub done : completed (arguments ++ more) last ≡ Some asked

-- one more argument
reads-more : (arguments more : List (List ℕ)) (state : ReadingState) → reads start arguments ≡ Some state →
    reads start (arguments ++ more) ≡ reads state more
reads-more arguments more state h =
    reads-append start arguments more ∙ ap (λ (o : Option ReadingState). after o (λ s. reads s more)) h

reads-argument : (arguments : List (List ℕ)) (argument : List ℕ) (state later : ReadingState) → reads start arguments ≡ Some state →
    follow state argument ≡ Some later → reads start (arguments ++ argument ∷ []) ≡ Some later
reads-argument arguments argument state later h followed =
    reads-more arguments (argument ∷ []) state h ∙ reads-step state argument [] later followed

complete-argument : (arguments : List (List ℕ)) (argument : List ℕ) → Completion (arguments ++ argument ∷ []) → Completion arguments
complete-argument arguments argument c =
    let same : (arguments ++ argument ∷ []) ++ c.more ≡ arguments ++ (argument ∷ c.more) =
    append_assoc arguments (argument ∷ []) c.more in
    record {
      more = argument ∷ c.more;
      last = c.last;
      asked = c.asked;
      read = ap (λ (ws : List (List ℕ)). reads start ws) (sym same) ∙ c.read;
      done = ap (λ (ws : List (List ℕ)). completed ws c.last) (sym same) ∙ c.done;
    }

-- enough positional arguments ask for something, or, for `moves`, only the script is missing
record LacksScript (name : CommandName) (arguments : List (List ℕ)) (given : Given) : Type 0 where
  takes : takes_key name keys.Script ≡ true
  fresh : has_key given keys.Script ≡ false
  asked : Asked
  asks : asked_by name arguments (put given (script_from (codes "s"))) ≡ Some asked

abbrev AsksOrLacks : CommandName → List (List ℕ) → Given → Type 0
AsksOrLacks name arguments given =
    ((asked : Asked) × (asked_by name arguments given ≡ Some asked)) ⊎ LacksScript name arguments given

moves-lacks : (script : Option (List ℕ)) (layout program : List ℕ) (given : Given) → given.script ≡ script → IsGuessed names.Moves given →
    AsksOrLacks names.Moves (layout ∷ program ∷ []) given
moves-lacks None layout program given e guessed = inr (record { takes = refl; fresh = rw (e, guessed.0 refl, guessed.1 refl) refl; asked = _; asks = refl })
moves-lacks (Some file) layout program given e guessed =
    inl (moves (layout_in layout) program (by_script file) (limit_of given) given.every, rw e refl)

drawn-asks : (count : Option ℕ) (argument : List ℕ) (given : Given) → count_in argument ≡ count → is_some count ≡ true →
    AsksOrLacks names.Gen (argument ∷ []) given
drawn-asks None argument given e h = absurd (cc)
drawn-asks (Some number) argument given e h = inl (gen number given.run, rw e refl)

one-true : (b : Bool) → (b && true) ≡ true → b ≡ true
one-true true h = refl
one-true false h = absurd (cc)

first-counted : (argument : List ℕ) → list_all (is_positional names.Gen) (argument ∷ []) ≡ true →
    is_some (count_in argument) ≡ true
unfolding is_positional
first-counted argument h = one-true (is_some (count_in argument)) h

topic-asks : (topic : Option CommandName) (argument : List ℕ) (given : Given) → topic_in argument ≡ topic → is_some topic ≡ true →
    AsksOrLacks names.Help (argument ∷ []) given
topic-asks None argument given e h = absurd (cc)
topic-asks (Some name) argument given e h = inl (help_on name, rw e refl)

first-topic : (argument : List ℕ) → list_all (is_positional names.Help) (argument ∷ []) ≡ true → is_some (topic_in argument) ≡ true
unfolding is_positional
first-topic argument h = one-true (is_some (topic_in argument)) h

enough-ask : (name : CommandName) (arguments : List (List ℕ)) (given : Given) → fewest name ≤ length arguments →
    length arguments ≤ most name → list_all (is_positional name) arguments ≡ true →
    IsGuessed name given → AsksOrLacks name arguments given
enough-ask names.Machine [] given enough few each guessed = absurd (omega (arith, enough, few))
enough-ask names.Machine (w ∷ []) given enough few each guessed = inl (_, refl)
enough-ask names.Machine (w ∷ v ∷ ws) given enough few each guessed = absurd (omega (arith, enough, few))
enough-ask names.Check [] given enough few each guessed = absurd (omega (arith, enough, few))
enough-ask names.Check (w ∷ []) given enough few each guessed = inl (_, refl)
enough-ask names.Check (w ∷ v ∷ ws) given enough few each guessed = absurd (omega (arith, enough, few))
enough-ask names.Asm [] given enough few each guessed = absurd (omega (arith, enough, few))
enough-ask names.Asm (w ∷ []) given enough few each guessed = inl (_, refl)
enough-ask names.Asm (w ∷ v ∷ ws) given enough few each guessed = absurd (omega (arith, enough, few))
enough-ask names.List [] given enough few each guessed = absurd (omega (arith, enough, few))
enough-ask names.List (w ∷ []) given enough few each guessed = inl (_, refl)
enough-ask names.List (w ∷ v ∷ ws) given enough few each guessed = absurd (omega (arith, enough, few))
enough-ask names.Gen [] given enough few each guessed = absurd (omega (arith, enough, few))
enough-ask names.Gen (w ∷ []) given enough few each guessed =
    drawn-asks (count_in w) w given refl (first-counted w each)
enough-ask names.Gen (w ∷ v ∷ ws) given enough few each guessed = absurd (omega (arith, enough, few))
enough-ask names.Run [] given enough few each guessed = absurd (omega (arith, enough, few))
enough-ask names.Run (w ∷ []) given enough few each guessed = absurd (omega (arith, enough, few))
enough-ask names.Run (w ∷ v ∷ []) given enough few each guessed = inl (_, refl)
enough-ask names.Run (w ∷ v ∷ u ∷ ws) given enough few each guessed = absurd (omega (arith, enough, few))
enough-ask names.Moves [] given enough few each guessed = absurd (omega (arith, enough, few))
enough-ask names.Moves (w ∷ []) given enough few each guessed = absurd (omega (arith, enough, few))
enough-ask names.Moves (w ∷ v ∷ []) given enough few each guessed = moves-lacks given.script w v given refl guessed
enough-ask names.Moves (w ∷ v ∷ u ∷ ws) given enough few each guessed = absurd (omega (arith, enough, few))
enough-ask names.Rounds [] given enough few each guessed = absurd (omega (arith, enough, few))
enough-ask names.Rounds (w ∷ []) given enough few each guessed = absurd (omega (arith, enough, few))
enough-ask names.Rounds (w ∷ v ∷ []) given enough few each guessed = inl (_, refl)
enough-ask names.Rounds (w ∷ v ∷ u ∷ ws) given enough few each guessed = absurd (omega (arith, enough, few))
enough-ask names.Orders [] given enough few each guessed = absurd (omega (arith, enough, few))
enough-ask names.Orders (w ∷ []) given enough few each guessed = absurd (omega (arith, enough, few))
enough-ask names.Orders (w ∷ v ∷ []) given enough few each guessed = inl (_, refl)
enough-ask names.Orders (w ∷ v ∷ u ∷ ws) given enough few each guessed = absurd (omega (arith, enough, few))
enough-ask names.Conform [] given enough few each guessed = absurd (omega (arith, enough, few))
enough-ask names.Conform (w ∷ []) given enough few each guessed = absurd (omega (arith, enough, few))
enough-ask names.Conform (w ∷ v ∷ []) given enough few each guessed = inl (_, refl)
enough-ask names.Conform (w ∷ v ∷ u ∷ ws) given enough few each guessed = absurd (omega (arith, enough, few))
enough-ask names.Debug [] given enough few each guessed = absurd (omega (arith, enough, few))
enough-ask names.Debug (w ∷ []) given enough few each guessed = absurd (omega (arith, enough, few))
enough-ask names.Debug (w ∷ v ∷ []) given enough few each guessed = inl (_, refl)
enough-ask names.Debug (w ∷ v ∷ u ∷ ws) given enough few each guessed = absurd (omega (arith, enough, few))
enough-ask names.Time [] given enough few each guessed = absurd (omega (arith, enough, few))
enough-ask names.Time (w ∷ []) given enough few each guessed = absurd (omega (arith, enough, few))
enough-ask names.Time (w ∷ v ∷ []) given enough few each guessed = absurd (omega (arith, enough, few))
enough-ask names.Time (w ∷ v ∷ u ∷ ws) given enough few each guessed = inl (_, refl)
enough-ask names.Audit [] given enough few each guessed = absurd (omega (arith, enough, few))
enough-ask names.Audit (w ∷ []) given enough few each guessed = absurd (omega (arith, enough, few))
enough-ask names.Audit (w ∷ v ∷ []) given enough few each guessed = absurd (omega (arith, enough, few))
enough-ask names.Audit (w ∷ v ∷ u ∷ []) given enough few each guessed = inl (_, refl)
enough-ask names.Audit (w ∷ v ∷ u ∷ t ∷ ws) given enough few each guessed = absurd (omega (arith, enough, few))
enough-ask names.Help [] given enough few each guessed = inl (_, refl)
enough-ask names.Help (w ∷ []) given enough few each guessed =
    topic-asks (topic_in w) w given refl (first-topic w each)
enough-ask names.Help (w ∷ v ∷ ws) given enough few each guessed = absurd (omega (arith, enough, few))
enough-ask names.HelpOption [] given enough few each guessed = inl (_, refl)
enough-ask names.HelpOption (w ∷ ws) given enough few each guessed = absurd (omega (arith, enough, few))
enough-ask names.HelpLetter [] given enough few each guessed = inl (_, refl)
enough-ask names.HelpLetter (w ∷ ws) given enough few each guessed = absurd (omega (arith, enough, few))
enough-ask names.Version [] given enough few each guessed = inl (_, refl)
enough-ask names.Version (w ∷ ws) given enough few each guessed = absurd (omega (arith, enough, few))
enough-ask names.VersionLetter [] given enough few each guessed = inl (_, refl)
enough-ask names.VersionLetter (w ∷ ws) given enough few each guessed = absurd (omega (arith, enough, few))

-- further arguments leave the positional ones as they are
positional-more : (count : ℕ) (arguments more : List (List ℕ)) → 1 + count ≤ length arguments →
    positional_in count (arguments ++ more) ≡ positional_in count arguments
positional-more count [] more h = absurd (omega (arith, h))
positional-more count (argument ∷ arguments) more h = take-append-le count arguments more (omega (arith, h))

-- a script after the options
scripted : (arguments : List (List ℕ)) (subject : Subject) (given : Given) (state : ReadingState) →
    1 + subject.count ≤ length arguments → reads start arguments ≡ Some state →
    follow state (option_name keys.Script) ≡ follow (options subject given) (option_name keys.Script) →
    LacksScript subject.name (positional_in subject.count arguments) given → Completion arguments
unfolding completed
scripted arguments subject given state stands h same lacks =
    let last : ReadingState = options subject (put given (script_from (codes "s"))) in
    record {
      more = option_name keys.Script ∷ codes "s" ∷ [];
      last = last;
      asked = lacks.asked;
      read = reads-more arguments (option_name keys.Script ∷ codes "s" ∷ []) state h
          ∙ (reads-step state (option_name keys.Script) (codes "s" ∷ []) (valued subject given keys.Script)
          (same ∙ option-follows subject given keys.Script lacks.takes lacks.fresh)
          ∙ reads-step (valued subject given keys.Script) (codes "s") [] last
          (value-follows (script_from (codes "s")) subject given refl refl));
      done = ap (λ (ws : List (List ℕ)). asked_by subject.name ws (put given (script_from (codes "s"))))
          (positional-more subject.count arguments (option_name keys.Script ∷ codes "s" ∷ []) stands)
          ∙ lacks.asks;
    }

arguments-nil : (arguments : List (List ℕ)) → arguments ++ [] ≡ arguments
arguments-nil arguments = append-nil arguments

-- nothing may follow a complete request
asked-now : (arguments : List (List ℕ)) (state : ReadingState) (asked : Asked) → reads start arguments ≡ Some state →
    completed arguments state ≡ Some asked → Completion arguments
asked-now arguments state asked h done = record {
  more = [];
  last = state;
  asked = asked;
  read = ap (λ (ws : List (List ℕ)). reads start ws) (arguments-nil arguments) ∙ h;
  done = ap (λ (ws : List (List ℕ)). completed ws state) (arguments-nil arguments) ∙ done;
}

complete-options : (arguments : List (List ℕ)) (subject : Subject) (given : Given) → HasPlaces subject → IsGuessed subject.name given →
    1 + subject.count ≤ length arguments → reads start arguments ≡ Some (options subject given) → Completion arguments
unfolding completed
complete-options arguments subject given places guessed stands h =
    let p = positional-read arguments (options subject given) subject h tt refl in
    elim (enough-ask subject.name (positional_in subject.count arguments) given
    (omega (arith, p.count, places.enough)) (omega (arith, p.count, places.few)) p.each guessed) [
      | inl (asked, asks) ↦ asked-now arguments (options subject given) asked h asks
      | inr lacks ↦ scripted arguments subject given (options subject given) stands h refl lacks
    ]

complete-placed : (arguments : List (List ℕ)) (subject : Subject) → HasPlaces subject →
    1 + subject.count ≤ length arguments → reads start arguments ≡ Some (placed subject) → Completion arguments
unfolding completed
complete-placed arguments subject places stands h =
    let p = positional-read arguments (placed subject) subject h tt refl in
    elim (enough-ask subject.name (positional_in subject.count arguments) nothing_given
    (omega (arith, p.count, places.enough)) (omega (arith, p.count, places.few)) p.each (λ untaken. refl, λ untaken. refl)) [
      | inl (asked, asks) ↦ asked-now arguments (placed subject) asked h asks
      | inr lacks ↦ scripted arguments subject nothing_given (placed subject) stands h
          (first-option subject keys.Script places.enough) lacks
    ]

-- a positional argument of any command
abbrev filler-of : PlaceKind → List ℕ
filler-of Files = codes "p"
filler-of Numbers = codes "1"
filler-of Topics = codes "run"

filler-tried : (kind : PlaceKind) → is_of kind (filler-of kind) ≡ true
unfolding positive_in topic_in name_in
filler-tried Files = refl
filler-tried Numbers = refl
filler-tried Topics = refl

filler-fits : (name : CommandName) → is_positional name (filler-of (place_kind name)) ≡ true
unfolding is_positional
filler-fits name = filler-tried (place_kind name)

fewest-most : (name : CommandName) → fewest name ≤ most name
fewest-most names.Machine = omega arith
fewest-most names.Run = omega arith
fewest-most names.Moves = omega arith
fewest-most names.Rounds = omega arith
fewest-most names.Orders = omega arith
fewest-most names.Conform = omega arith
fewest-most names.Debug = omega arith
fewest-most names.Time = omega arith
fewest-most names.Audit = omega arith
fewest-most names.Check = omega arith
fewest-most names.Asm = omega arith
fewest-most names.List = omega arith
fewest-most names.Gen = omega arith
fewest-most names.Help = omega arith
fewest-most names.HelpOption = omega arith
fewest-most names.HelpLetter = omega arith
fewest-most names.Version = omega arith
fewest-most names.VersionLetter = omega arith

-- with this many more positional arguments, which are missing
complete-places : (missing : ℕ) (arguments : List (List ℕ)) (subject : Subject) →
    subject.count ≤ most subject.name → fewest subject.name ≤ subject.count + missing →
    1 + subject.count ≤ length arguments → reads start arguments ≡ Some (placed subject) → Completion arguments
complete-places zero arguments subject few enough stands h =
    complete-placed arguments subject (record { enough = omega (arith, enough); few = few }) stands h
complete-places (suc missing) arguments subject few enough stands h =
    elim (cases_lt subject.count (fewest subject.name)) [
      | inr here ↦ complete-placed arguments subject (record { enough = here; few = few }) stands h
      | inl below ↦
          let argument = filler-of (place_kind subject.name) in
          let room : subject.count < most subject.name =
          omega (arith, below, fewest-most subject.name) in
          complete-argument arguments argument
          (complete-places missing (arguments ++ argument ∷ []) (one_place_more subject) (omega (arith, room))
          (omega (arith, enough)) (omega (arith, stands, length-append arguments (argument ∷ [])))
          (reads-argument arguments argument (placed subject) (placed (one_place_more subject)) h
          (placed-follows subject argument (tests-place subject argument room (filler-fits subject.name)))))
    ]

-- what a command that has the option for it can show
shown-some : (name : CommandName) → takes_key name keys.Show ≡ true → (shown : Shown) × (can_show name shown ≡ true)
shown-some names.Machine h = (shows.Report, refl)
shown-some names.Run h = (shows.Report, refl)
shown-some names.Orders h = (shows.Edges, refl)
shown-some names.Time h = (shows.Sites, refl)
shown-some names.Moves h = absurd (cc)
shown-some names.Rounds h = absurd (cc)
shown-some names.Conform h = absurd (cc)
shown-some names.Debug h = absurd (cc)
shown-some names.Audit h = absurd (cc)
shown-some names.Check h = absurd (cc)
shown-some names.Asm h = absurd (cc)
shown-some names.List h = absurd (cc)
shown-some names.Gen h = absurd (cc)
shown-some names.Help h = absurd (cc)
shown-some names.HelpOption h = absurd (cc)
shown-some names.HelpLetter h = absurd (cc)
shown-some names.Version h = absurd (cc)
shown-some names.VersionLetter h = absurd (cc)

-- any command that has a limit may have the smallest one
least-limit : (name : CommandName) → is_amount_within 0 (most_limit_of name) (codes "0") ≡ true
unfolding is_amount amount_of digits_in unit_of
least-limit name = grind (arith, nat_tests)

least-step : is_amount_within 1 most_limit (codes "1") ≡ true
unfolding is_amount amount_of digits_in unit_of
least-step = refl

-- a value that an option may have
record HasValue (name : CommandName) (key : Key) : Type 0 where
  setting : Setting
  key_is : setting_key setting ≡ key
  allowed : is_value name setting ≡ true

some-value : (key : Key) (name : CommandName) → takes_key name key ≡ true → has_value key ≡ true → HasValue name key
some-value keys.Limit name taken h = record { setting = limit_to (codes "0"); key_is = refl; allowed = least-limit name }
some-value keys.Every name taken h = record { setting = say_every (codes "1"); key_is = refl; allowed = least-step }
some-value keys.Show name taken h =
    let some = shown-some name taken in record { setting = show_of some.0; key_is = refl; allowed = some.1 }
some-value keys.Script name taken h = record { setting = script_from (codes "s"); key_is = refl; allowed = refl }
some-value keys.Seed name taken h = record { setting = seed_from (codes "0"); key_is = refl; allowed = refl }
some-value keys.Guess name taken h = record { setting = guess_by rules.Any; key_is = refl; allowed = refl }
some-value keys.Input name taken h = record { setting = input_from (codes "s"); key_is = refl; allowed = refl }
some-value keys.Issues name taken h = record { setting = issue_at_most (codes "1"); key_is = refl; allowed = refl }
some-value keys.States name taken h = record { setting = reach_at_most (codes "1"); key_is = refl; allowed = refl }
some-value keys.Without name taken h = record { setting = do_without MeetDie; key_is = refl; allowed = refl }
some-value keys.Mul name taken h = absurd (cc)
some-value keys.Run name taken h = absurd (cc)

some-follows : (key : Key) (subject : Subject) (given : Given) (v : HasValue subject.name key) → has_value key ≡ true →
    follow (valued subject given key) (value_of v.setting) ≡ Some (options subject (put given v.setting))
some-follows key subject given v h =
    let has : has_value (setting_key v.setting) ≡ true = subst (λ k. has_value k ≡ true) (sym v.key_is) h in
    subst (λ k. follow (valued subject given k) (value_of v.setting) ≡ Some (options subject (put given v.setting))) v.key_is
    (value-follows v.setting subject given has v.allowed)

complete-value : (arguments : List (List ℕ)) (subject : Subject) (given : Given) (key : Key) →
    Reached (valued subject given key) → 1 + subject.count ≤ length arguments →
    reads start arguments ≡ Some (valued subject given key) → Completion arguments
complete-value arguments subject given key reached stands h =
    let v = some-value key subject.name reached.1 reached.2 in
    let argument : List ℕ = value_of v.setting in
    let more : Given = put given v.setting in
    let followed : follow (valued subject given key) argument ≡ Some (options subject more) =
    some-follows key subject given v reached.2 in
    let now : Reached (options subject more) = reached-last (argument ∷ []) (valued subject given key) (options subject more) reached
    (reads-step (valued subject given key) argument [] (options subject more) followed) in
    complete-argument arguments argument
    (complete-options (arguments ++ argument ∷ []) subject more now.0 now.1
    (omega (arith, stands, length-append arguments (argument ∷ [])))
    (reads-argument arguments argument (valued subject given key) (options subject more) h followed))

complete-start : (arguments : List (List ℕ)) → reads start arguments ≡ Some start → Completion arguments
complete-start arguments h =
    let argument : List ℕ = command_name names.Machine in
    complete-argument arguments argument
    (complete-places 1 (arguments ++ argument ∷ []) (unplaced names.Machine) (omega arith) (omega arith)
    (omega (arith, length-append arguments (argument ∷ [])))
    (reads-argument arguments argument start (placed (unplaced names.Machine)) h (start-follows names.Machine)))

complete-state : (arguments : List (List ℕ)) (state : ReadingState) → Reached state → Stands (length arguments) state →
    reads start arguments ≡ Some state → Completion arguments
complete-state arguments start reached stands h = complete-start arguments h
complete-state arguments (placed subject) reached stands h =
    complete-places (fewest subject.name) arguments subject reached (omega arith) stands h
complete-state arguments (options subject given) reached stands h =
    complete-options arguments subject given reached.0 reached.1 stands h
complete-state arguments (valued subject given key) reached stands h =
    complete-value arguments subject given key reached stands h

pub complete-reached : (arguments : List (List ℕ)) (state : ReadingState) → reads start arguments ≡ Some state →
    Completion arguments
complete-reached arguments state h =
    complete-state arguments state (reached-last arguments start state tt h)
    (stands state (length arguments) (arguments-read arguments state h)) h

-- the positional arguments are seen as their bytes
pub mapped-positional : {A B : Type 0} → (f : A → B) (count : ℕ) (arguments : List A) →
    map f (take count (drop 1 arguments)) ≡ take count (drop 1 (map f arguments))
mapped-positional f count arguments =
    sym (take-map f count (drop 1 arguments)) ∙ ap (take count) (sym (drop-map f 1 arguments))

pub ruleset mapped = (mapped-positional)
