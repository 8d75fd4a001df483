-- Reading accepts exactly the arguments of the grammar, and gives their request; so arguments have at most one request.
use Rattle.std.proofs.Common.{◌≡◌, ◌≤◌, ◌+◌, ℕ, List, [], ◌∷◌, ◌++◌, length, true, refl, arith, Option, Some, inl, inr, sym, ◌∙◌, subst, ap}
use Rattle.std.specs.List.{list_all}
use Rattle.std.proofs.lemmas.List.{take-append-le}
use Rattle.std.proofs.Math.Seq.{take-length}
use Rattle.cli_arguments.specs.declared.names.CommandName.{CommandName}
use Rattle.cli_arguments.specs.declared.names.CommandName.TheVariants as names
use Rattle.cli_arguments.specs.declared.reading.Subject.{Subject}
use Rattle.cli_arguments.specs.Commands.{command_name, fewest, most, is_positional}
use Rattle.cli_arguments.specs.Options.{setting_key, value_arguments, setting_arguments, takes_setting, Setting, Given, given_in}
use Rattle.cli_arguments.specs.Arguments.{Asked, asked_by, Asks}
use Rattle.cli_arguments.specs.Reading.{ReadingState, start, placed, options, valued, unplaced, one_place_more, nothing_given, positional_in, completed}
use Rattle.cli_arguments.proofs.Steps.{start-read, start-follows, place-tests, tests-place, placed-read, placed-follows, first-option}
use Rattle.cli_arguments.proofs.InTurn.{after, reads, reads-split, reads-step, none-left}
use Rattle.cli_arguments.proofs.Settings.{both, put_all, Fresh, fresh-once, once-fresh, put-given, IsWhole, Tail, tail-read, settings-read}

-- with that many more positional arguments
abbrev grown : Subject → ℕ → Subject
grown subject n = record { name = subject.name; count = subject.count + n }

-- the state is that of a command with these positional arguments
abbrev pub IsOf : ReadingState → Subject → Type 0
IsOf start subject = ⊥
IsOf (placed s) subject = s ≡ subject
IsOf (options s given) subject = s ≡ subject
IsOf (valued s given key) subject = s ≡ subject

-- the arguments after some positional ones: more of these, and then options
record Placing (subject : Subject) (arguments : List (List ℕ)) (last : ReadingState) : Type 0 where
  more : List (List ℕ)
  settings : List Setting
  arguments_are : arguments ≡ more ++ setting_arguments settings
  few : subject.count + length more ≤ most subject.name
  each : list_all (is_positional subject.name) more ≡ true
  taken : list_all (takes_setting subject.name) settings ≡ true
  fresh : Fresh nothing_given settings
  of : IsOf last (grown subject (length more))
  asks : (all : List (List ℕ)) → completed all last
      ≡ asked_by subject.name (positional_in (subject.count + length more) all) (put_all nothing_given settings)

same-count : (subject : Subject) → subject ≡ grown subject 0
same-count subject =
    let e : subject.count ≡ subject.count + 0 = omega arith in
    ap (λ (n : ℕ). record { name = subject.name; count = n }) e

no-more : (subject : Subject) (all : List (List ℕ)) (given : Given) →
    asked_by subject.name (positional_in subject.count all) given
    ≡ asked_by subject.name (positional_in (subject.count + 0) all) given
no-more subject all given =
    let e : subject.count ≡ subject.count + 0 = omega arith in
    ap (λ (n : ℕ). asked_by subject.name (positional_in n all) given) e

placing-none : (subject : Subject) (last : ReadingState) → subject.count ≤ most subject.name →
    reads (placed subject) [] ≡ Some last → Placing subject [] last
unfolding completed
placing-none subject last few h = record {
  more = [];
  settings = [];
  arguments_are = refl;
  few = omega arith;
  each = refl;
  taken = refl;
  fresh = tt;
  of = subst (λ (s : ReadingState). IsOf s (grown subject 0)) (none-left (placed subject) last h) (same-count subject);
  asks = λ all. ap (λ (s : ReadingState). completed all s) (sym (none-left (placed subject) last h))
      ∙ no-more subject all nothing_given;
}

placing-options : (subject : Subject) (arguments : List (List ℕ)) (last : ReadingState) →
    subject.count ≤ most subject.name → Tail subject nothing_given arguments last → Placing subject arguments last
unfolding completed
placing-options subject arguments last few tail = record {
  more = [];
  settings = tail.settings;
  arguments_are = tail.arguments_are;
  few = omega arith;
  each = refl;
  taken = tail.taken;
  fresh = tail.fresh;
  of = subst (λ (s : ReadingState). IsOf s (grown subject 0)) (sym tail.last_is) (same-count subject);
  asks = λ all. ap (λ (s : ReadingState). completed all s) tail.last_is
      ∙ no-more subject all (put_all nothing_given tail.settings);
}

placing-argument : (subject : Subject) (argument : List ℕ) (arguments : List (List ℕ)) (last : ReadingState) →
    is_positional subject.name argument ≡ true → Placing (one_place_more subject) arguments last →
    Placing subject (argument ∷ arguments) last
placing-argument subject argument arguments last h p = record {
  more = argument ∷ p.more;
  settings = p.settings;
  arguments_are = ap (λ (ws : List (List ℕ)). argument ∷ ws) p.arguments_are;
  few = omega (arith, p.few);
  each = rw h p.each;
  taken = p.taken;
  fresh = p.fresh;
  of = let e : subject.count + 1 + length p.more ≡ subject.count + length (argument ∷ p.more) = omega arith in
      subst (λ (n : ℕ). IsOf last (record { name = subject.name; count = n })) e p.of;
  asks = λ all. let e : subject.count + 1 + length p.more ≡ subject.count + length (argument ∷ p.more) = omega arith in
      p.asks all
      ∙ ap (λ (n : ℕ). asked_by subject.name (positional_in n all) (put_all nothing_given p.settings)) e;
}

placing : (arguments : List (List ℕ)) (subject : Subject) (last : ReadingState) → subject.count ≤ most subject.name →
    reads (placed subject) arguments ≡ Some last → IsWhole last → Placing subject arguments last
placing [] subject last few h whole = placing-none subject last few h
placing (argument ∷ arguments) subject last few h whole =
    let s = reads-split (placed subject) argument arguments last h in
    elim (placed-read subject argument s.later s.followed) [
      | inl (place, is) ↦
          let t = place-tests subject argument place in
          placing-argument subject argument arguments last t.1
          (placing arguments (one_place_more subject) last (omega (arith, t.0))
          (subst (λ b. reads b arguments ≡ Some last) is s.rest) whole)
      | inr (enough, followed) ↦
          placing-options subject (argument ∷ arguments) last few
          (tail-read (argument ∷ arguments) subject nothing_given last
          (reads-step (options subject nothing_given) argument arguments s.later followed ∙ s.rest) whole)
    ]

-- in a complete request no value is missing
asked-whole : (arguments : List (List ℕ)) (last : ReadingState) (asked : Asked) → completed arguments last ≡ Some asked →
    IsWhole last
unfolding completed
asked-whole arguments start asked h = absurd (cc)
asked-whole arguments (placed subject) asked h = tt
asked-whole arguments (options subject given) asked h = tt
asked-whole arguments (valued subject given key) asked h = absurd (cc)

-- nor is a positional argument
asked-enough : (name : CommandName) (arguments : List (List ℕ)) (given : Given) (asked : Asked) →
    asked_by name arguments given ≡ Some asked → fewest name ≤ length arguments
asked-enough names.Machine [] given asked h = absurd (cc)
asked-enough names.Machine (w ∷ ws) given asked h = omega arith
asked-enough names.Run [] given asked h = absurd (cc)
asked-enough names.Run (w ∷ []) given asked h = absurd (cc)
asked-enough names.Run (w ∷ v ∷ ws) given asked h = omega arith
asked-enough names.Moves [] given asked h = absurd (cc)
asked-enough names.Moves (w ∷ []) given asked h = absurd (cc)
asked-enough names.Moves (w ∷ v ∷ ws) given asked h = omega arith
asked-enough names.Rounds [] given asked h = absurd (cc)
asked-enough names.Rounds (w ∷ []) given asked h = absurd (cc)
asked-enough names.Rounds (w ∷ v ∷ ws) given asked h = omega arith
asked-enough names.Orders [] given asked h = absurd (cc)
asked-enough names.Orders (w ∷ []) given asked h = absurd (cc)
asked-enough names.Orders (w ∷ v ∷ ws) given asked h = omega arith
asked-enough names.Conform [] given asked h = absurd (cc)
asked-enough names.Conform (w ∷ []) given asked h = absurd (cc)
asked-enough names.Conform (w ∷ v ∷ ws) given asked h = omega arith
asked-enough names.Debug [] given asked h = absurd (cc)
asked-enough names.Debug (w ∷ []) given asked h = absurd (cc)
asked-enough names.Debug (w ∷ v ∷ ws) given asked h = omega arith
asked-enough names.Time [] given asked h = absurd (cc)
asked-enough names.Time (w ∷ []) given asked h = absurd (cc)
asked-enough names.Time (w ∷ v ∷ []) given asked h = absurd (cc)
asked-enough names.Time (w ∷ v ∷ u ∷ ws) given asked h = omega arith
asked-enough names.Audit [] given asked h = absurd (cc)
asked-enough names.Audit (w ∷ []) given asked h = absurd (cc)
asked-enough names.Audit (w ∷ v ∷ []) given asked h = absurd (cc)
asked-enough names.Audit (w ∷ v ∷ u ∷ ws) given asked h = omega arith
asked-enough names.Check [] given asked h = absurd (cc)
asked-enough names.Check (w ∷ ws) given asked h = omega arith
asked-enough names.Asm [] given asked h = absurd (cc)
asked-enough names.Asm (w ∷ ws) given asked h = omega arith
asked-enough names.List [] given asked h = absurd (cc)
asked-enough names.List (w ∷ ws) given asked h = omega arith
asked-enough names.Gen [] given asked h = absurd (cc)
asked-enough names.Gen (w ∷ ws) given asked h = omega arith
asked-enough names.Help arguments given asked h = omega arith
asked-enough names.HelpOption arguments given asked h = omega arith
asked-enough names.HelpLetter arguments given asked h = omega arith
asked-enough names.Version arguments given asked h = omega arith
asked-enough names.VersionLetter arguments given asked h = omega arith

-- the positional arguments of a command are those after its first argument
positional-are : (first : List ℕ) (more later : List (List ℕ)) →
    positional_in (length more) (first ∷ (more ++ later)) ≡ more
positional-are first more later =
    take-append-le (length more) more later (omega arith) ∙ take-length more

placing-asks : (name : CommandName) (arguments : List (List ℕ)) (last : ReadingState) (asked : Asked) →
    completed (command_name name ∷ arguments) last ≡ Some asked → Placing (unplaced name) arguments last →
    Asks (command_name name ∷ arguments) asked
placing-asks name arguments last asked done p =
    let zero-more : 0 + length p.more ≡ length p.more = omega arith in
    let positional : positional_in (0 + length p.more) (command_name name ∷ arguments) ≡ p.more =
    ap (λ (ws : List (List ℕ)). positional_in (0 + length p.more) (command_name name ∷ ws)) p.arguments_are
    ∙ (ap (λ (n : ℕ). positional_in n (command_name name ∷ (p.more ++ setting_arguments p.settings))) zero-more
    ∙ positional-are (command_name name) p.more (setting_arguments p.settings)) in
    let means : asked_by name p.more (given_in p.settings) ≡ Some asked =
    sym (p.asks (command_name name ∷ arguments)
    ∙ (ap (λ (ws : List (List ℕ)). asked_by name ws (put_all nothing_given p.settings)) positional
    ∙ ap (λ (g : Given). asked_by name p.more g) (put-given p.settings p.fresh))) ∙ done in
    record {
      name = name;
      positional = p.more;
      settings = p.settings;
      command = record {
        arguments_are = ap (λ (ws : List (List ℕ)). command_name name ∷ ws) p.arguments_are;
        enough = asked-enough name p.more (given_in p.settings) asked means;
        few = omega (arith, p.few);
        placed = p.each;
        taken = p.taken;
        none_twice = fresh-once p.settings nothing_given p.fresh;
      };
      means = means;
    }

-- what is read is what the arguments ask for
pub reads-sound : (arguments : List (List ℕ)) (last : ReadingState) (asked : Asked) → reads start arguments ≡ Some last →
    completed arguments last ≡ Some asked → Asks arguments asked
reads-sound [] last asked h done =
    absurd (subst IsWhole (sym (none-left start last h)) (asked-whole [] last asked done))
reads-sound (argument ∷ arguments) last asked h done =
    let s = reads-split start argument arguments last h in
    let r = start-read argument s.later s.followed in
    let h1 : reads (placed (unplaced r.name)) arguments ≡ Some last =
    subst (λ b. reads b arguments ≡ Some last) r.after_is s.rest in
    let whole = asked-whole (argument ∷ arguments) last asked done in
    let d : completed (command_name r.name ∷ arguments) last ≡ Some asked =
    subst (λ (w : List ℕ). completed (w ∷ arguments) last ≡ Some asked) r.argument_is done in
    subst (λ (w : List ℕ). Asks (w ∷ arguments) asked) (sym r.argument_is)
    (placing-asks r.name arguments last asked d
    (placing arguments (unplaced r.name) last (omega arith) h1 whole))

-- the positional arguments after which a state is reached in which no value is missing
pub record HasPositional (arguments : List (List ℕ)) (subject : Subject) : Type 0 where
  pub each : list_all (is_positional subject.name) (positional_in subject.count arguments) ≡ true
  pub count : length (positional_in subject.count arguments) ≡ subject.count

placing-positional : (name : CommandName) (arguments : List (List ℕ)) (last : ReadingState) (subject : Subject) →
    IsOf last subject → Placing (unplaced name) arguments last → HasPositional (command_name name ∷ arguments) subject
placing-positional name arguments last subject of p = positional-of last of p.of
  where
    count-of : (count : ℕ) → count ≡ 0 + length p.more →
        positional_in count (command_name name ∷ arguments) ≡ p.more
    count-of count e =
        let same : count ≡ length p.more = omega (arith, e) in
        ap (λ (n : ℕ). positional_in n (command_name name ∷ arguments)) same
        ∙ (ap (λ (ws : List (List ℕ)). positional_in (length p.more) (command_name name ∷ ws)) p.arguments_are
        ∙ positional-are (command_name name) p.more (setting_arguments p.settings))

    of-subject : subject ≡ grown (unplaced name) (length p.more) → HasPositional (command_name name ∷ arguments) subject
    of-subject e =
        let n : subject.count ≡ 0 + length p.more = ap (λ (s : Subject). s.count) e in
        let are = count-of subject.count n in
        record {
          each = rw (ap (λ (s : Subject). s.name) e, are) p.each;
          count = ap (λ (ws : List (List ℕ)). length ws) are ∙ omega (arith, n);
        }

    positional-of : (last : ReadingState) → IsOf last subject → IsOf last (grown (unplaced name) (length p.more)) →
        HasPositional (command_name name ∷ arguments) subject
    positional-of start of same = absurd of
    positional-of (placed s) of same = of-subject (sym of ∙ same)
    positional-of (options s given) of same = of-subject (sym of ∙ same)
    positional-of (valued s given key) of same = of-subject (sym of ∙ same)

pub positional-read : (arguments : List (List ℕ)) (last : ReadingState) (subject : Subject) →
    reads start arguments ≡ Some last → IsWhole last → IsOf last subject → HasPositional arguments subject
positional-read [] last subject h whole of = absurd (subst IsWhole (sym (none-left start last h)) whole)
positional-read (argument ∷ arguments) last subject h whole of =
    let s = reads-split start argument arguments last h in
    let r = start-read argument s.later s.followed in
    let h1 : reads (placed (unplaced r.name)) arguments ≡ Some last =
    subst (λ b. reads b arguments ≡ Some last) r.after_is s.rest in
    subst (λ (w : List ℕ). HasPositional (w ∷ arguments) subject) (sym r.argument_is)
    (placing-positional r.name arguments last subject of (placing arguments (unplaced r.name) last (omega arith) h1 whole))

-- what the arguments ask for is read: positional arguments
places-read : (more : List (List ℕ)) (subject : Subject) (arguments : List (List ℕ)) →
    list_all (is_positional subject.name) more ≡ true → subject.count + length more ≤ most subject.name →
    reads (placed subject) (more ++ arguments) ≡ reads (placed (grown subject (length more))) arguments
places-read [] subject arguments each few =
    let e : subject.count ≡ subject.count + 0 = omega arith in
    ap (λ (n : ℕ). reads (placed (record { name = subject.name; count = n })) arguments) e
places-read (argument ∷ more) subject arguments each few =
    let b = both (is_positional subject.name argument) (list_all (is_positional subject.name) more) each in
    let e : subject.count + 1 + length more ≡ subject.count + length (argument ∷ more) = omega arith in
    reads-step (placed subject) argument (more ++ arguments) (placed (one_place_more subject))
    (placed-follows subject argument (tests-place subject argument (omega (arith, few)) b.0))
    ∙ (places-read more (one_place_more subject) arguments b.1 (omega (arith, few))
    ∙ ap (λ (n : ℕ). reads (placed (record { name = subject.name; count = n })) arguments) e)

-- which arguments are read, and what they ask for
pub record Read (arguments : List (List ℕ)) (asked : Asked) : Type 0 where
  pub last : ReadingState
  pub read : reads start arguments ≡ Some last
  pub done : completed arguments last ≡ Some asked

-- options after enough positional arguments
after-places : (subject : Subject) (settings : List Setting) (all : List (List ℕ)) (asked : Asked) →
    fewest subject.name ≤ subject.count → list_all (takes_setting subject.name) settings ≡ true →
    Fresh nothing_given settings →
    asked_by subject.name (positional_in subject.count all) (put_all nothing_given settings) ≡ Some asked →
    (last : ReadingState) × (reads (placed subject) (setting_arguments settings) ≡ Some last) × (completed all last ≡ Some asked)
unfolding completed
after-places subject [] all asked enough taken fresh means = (placed subject, refl, means)
after-places subject (setting ∷ settings) all asked enough taken fresh means =
    let rest : List (List ℕ) = value_arguments setting ++ setting_arguments settings in (
      options subject (put_all nothing_given (setting ∷ settings)),
      ap (λ (o : Option ReadingState). after o (λ later. reads later rest))
          (first-option subject (setting_key setting) enough)
          ∙ settings-read (setting ∷ settings) subject nothing_given taken fresh,
      means,
    )

pub asks-read : (arguments : List (List ℕ)) (asked : Asked) → Asks arguments asked → Read arguments asked
asks-read arguments asked asks =
    let c = asks.command in
    let count = length asks.positional in
    let all : List (List ℕ) = command_name asks.name ∷ (asks.positional ++ setting_arguments asks.settings) in
    let fresh = once-fresh asks.settings c.none_twice in
    let zero-more : 0 + count ≡ count = omega arith in
    let means : asked_by asks.name (positional_in (0 + count) all) (put_all nothing_given asks.settings)
    ≡ Some asked =
    ap (λ (n : ℕ). asked_by asks.name (positional_in n all) (put_all nothing_given asks.settings)) zero-more
    ∙ (ap (λ (ws : List (List ℕ)). asked_by asks.name ws (put_all nothing_given asks.settings))
    (positional-are (command_name asks.name) asks.positional (setting_arguments asks.settings))
    ∙ (ap (λ (g : Given). asked_by asks.name asks.positional g) (put-given asks.settings fresh)
    ∙ asks.means)) in
    let b = after-places (grown (unplaced asks.name) count) asks.settings all asked (omega (arith, c.enough)) c.taken fresh means in
    record {
      last = b.0;
      read = ap (λ (ws : List (List ℕ)). reads start ws) c.arguments_are
          ∙ (reads-step start (command_name asks.name) (asks.positional ++ setting_arguments asks.settings)
          (placed (unplaced asks.name)) (start-follows asks.name)
          ∙ (places-read asks.positional (unplaced asks.name) (setting_arguments asks.settings) c.placed
          (omega (arith, c.few))
          ∙ b.1));
      done = ap (λ (ws : List (List ℕ)). completed ws b.0) c.arguments_are ∙ b.2;
    }

-- arguments ask for at most one thing
pub asks-one : (arguments : List (List ℕ)) (one other : Asked) → Asks arguments one → Asks arguments other →
    one ≡ other
asks-one arguments one other a b =
    let r = asks-read arguments one a in
    let s = asks-read arguments other b in
    let l : r.last ≡ s.last = cc (r.read, s.read) in
    let d : completed arguments s.last ≡ Some one =
    subst (λ t. completed arguments t ≡ Some one) l r.done in
    cc (d, s.done)
