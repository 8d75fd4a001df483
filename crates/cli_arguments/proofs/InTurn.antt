-- Arguments read in turn.
use Rattle.std.proofs.Common.{◌≡◌, ℕ, List, [], ◌∷◌, ◌++◌, refl, Option, Some, None, sym, ◌∙◌, ap}
use Rattle.cli_arguments.specs.Reading.{ReadingState, follow}

-- all arguments in turn
abbrev pub after : {A B : Type 0} → Option A → (A → Option B) → Option B
after None f = None
after (Some x) f = f x

abbrev pub reads : ReadingState → List (List ℕ) → Option ReadingState
reads state [] = Some state
reads state (argument ∷ arguments) = after (follow state argument) (λ later. reads later arguments)

pub record Split (state : ReadingState) (argument : List ℕ) (arguments : List (List ℕ)) (last : ReadingState) : Type 0 where
  pub later : ReadingState
  pub followed : follow state argument ≡ Some later
  pub rest : reads later arguments ≡ Some last

split-at : (found : Option ReadingState) (state : ReadingState) (argument : List ℕ) (arguments : List (List ℕ)) (last : ReadingState) →
    follow state argument ≡ found → after found (λ later. reads later arguments) ≡ Some last →
    Split state argument arguments last
split-at None state argument arguments last e h = absurd (cc)
split-at (Some later) state argument arguments last e h = record { later = later; followed = e; rest = h }

pub reads-split : (state : ReadingState) (argument : List ℕ) (arguments : List (List ℕ)) (last : ReadingState) →
    reads state (argument ∷ arguments) ≡ Some last → Split state argument arguments last
reads-split state argument arguments last h = split-at (follow state argument) state argument arguments last refl h

pub reads-step : (state : ReadingState) (argument : List ℕ) (arguments : List (List ℕ)) (later : ReadingState) →
    follow state argument ≡ Some later → reads state (argument ∷ arguments) ≡ reads later arguments
reads-step state argument arguments later h = ap (λ (o : Option ReadingState). after o (λ later. reads later arguments)) h

pub none-left : (state last : ReadingState) → reads state [] ≡ Some last → state ≡ last
none-left state last h = cc

-- reading in two parts
after-after : {A B C : Type 0} → (o : Option A) (f : A → Option B) (g : B → Option C) →
    after (after o f) g ≡ after o (λ x. after (f x) g)
after-after None f g = refl
after-after (Some x) f g = refl

after-same : (o : Option ReadingState) (f g : ReadingState → Option ReadingState) → ((s : ReadingState) → f s ≡ g s) →
    after o f ≡ after o g
after-same None f g same = refl
after-same (Some s) f g same = same s

pub reads-append : (state : ReadingState) (arguments more : List (List ℕ)) →
    reads state (arguments ++ more) ≡ after (reads state arguments) (λ s. reads s more)
reads-append state [] more = refl
reads-append state (argument ∷ arguments) more =
    after-same (follow state argument) (λ s. reads s (arguments ++ more))
    (λ s. after (reads s arguments) (λ t. reads t more))
    (λ s. reads-append s arguments more)
    ∙ sym (after-after (follow state argument) (λ s. reads s arguments) (λ s. reads s more))
