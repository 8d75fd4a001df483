-- One turn of the loop over the arguments, and the answer after it.
use Rattle.std.proofs.Common.{◌≡◌, ◌≤◌, ◌<◌, ◌+◌, ℕ, List, [], ◌∷◌, length, map, take, get_or, arith, Option, Some, None, option_map}
use Rattle.std.proofs.Common.{Result, Ok, Err, MatchResult, IfOk, sym, ◌∙◌, subst, ap}
use Rattle.std.specs.Option.{ok_or}
use Rattle.std.proofs.lemmas.List.{get_or-map, length-map, length-take-le, take_more, take_all}
use Rattle.cli_arguments.specs.Arguments.{Asked, Asks, IsBadAt, IsBounded}
use Rattle.cli_arguments.specs.Reading.{ReadingState, start, follow, completed}
use Rattle.cli_arguments.proofs.InTurn.{after, reads, reads-append}
use Rattle.cli_arguments.proofs.Bounds.{asks-bounded}
use Rattle.cli_arguments.proofs.Grammar.{reads-sound}
use Rattle.cli_arguments.proofs.Reached.{few-read}
use Rattle.cli_arguments.proofs.BadWords.{bad-argument, bad-end}

-- the argument that the loop looks at
argument-at : {X : Type 0} → (bytes : X → List ℕ) (items : List X) (index : ℕ) (item : X) →
    index < length items →
    item ≡ get_or items index item → get_or (map bytes items) index [] ≡ bytes item
argument-at bytes items index item inside at =
    get_or-map bytes items index item [] inside ∙ ap (λ x. bytes x) (sym at)

-- an unexpected argument
pub stops : {X : Type 0} → (bytes : X →
    List ℕ) (items : List X) (index count : ℕ) (item : X) (state : ReadingState) (argument : List ℕ) →
    index < length items → item ≡ get_or items index item → count ≡ index →
    reads start (take count (map bytes items)) ≡ Some state → argument ≡ bytes item →
    None ≡ follow state argument →
    IsBadAt (map bytes items) count
stops bytes items index count item state argument inside at counted h argument-is none =
    let w : get_or (map bytes items) count [] ≡ argument =
    ap (λ (n : ℕ). get_or (map bytes items) n []) counted
    ∙ (argument-at bytes items index item inside at ∙ sym argument-is) in
    bad-argument (map bytes items) count state (omega (arith, length-map items bytes)) h
    (ap (λ (v : List ℕ). follow state v) w ∙ sym none)

-- an expected argument
pub goes-on : {X : Type 0} → (bytes : X →
    List ℕ) (items : List X) (index count : ℕ) (item : X) (state later : ReadingState)
    (argument : List ℕ) → index < length items → item ≡ get_or items index item → count ≡ index →
    reads start (take count (map bytes items)) ≡ Some state → argument ≡ bytes item →
    Some later ≡ follow state argument →
    reads start (take (count + 1) (map bytes items)) ≡ Some later
goes-on bytes items index count item state later argument inside at counted h argument-is some =
    let w : get_or (map bytes items) count [] ≡ argument =
    ap (λ (n : ℕ). get_or (map bytes items) n []) counted
    ∙ (argument-at bytes items index item inside at ∙ sym argument-is) in
    let f : follow state (get_or (map bytes items) count []) ≡ Some later =
    ap (λ (v : List ℕ). follow state v) w ∙ sym some in
    ap (λ (ws : List (List ℕ)). reads start ws)
    (take_more (map bytes items) count [] (omega (arith, length-map items bytes)))
    ∙ (reads-append start (take count (map bytes items)) (get_or (map bytes items) count [] ∷ [])
    ∙ (ap (λ (o : Option ReadingState). after o (λ s. reads s (get_or (map bytes items) count [] ∷ []))) h
    ∙ ap (λ (o : Option ReadingState). after o (λ s. reads s [])) f))

-- the count of arguments stays small
pub count-few : {X : Type 0} → (bytes : X → List ℕ) (items : List X) (count : ℕ) (state : ReadingState) →
    count ≤ length items → reads start (take count (map bytes items)) ≡ Some state → count ≤ 34
count-few bytes items count state inside h =
    let f : length (take count (map bytes items)) ≤ 34 = few-read (take count (map bytes items)) state
    h in
    omega (arith, length-take-le count (map bytes items) (omega (arith, length-map items bytes)))

-- the answer to an accepted command and to refused arguments
abbrev pub Answers : {C : Type 0} → List (List ℕ) → (C → Asked) → Result C ℕ → Type 0
Answers arguments asks result =
    MatchResult result (λ command. Asks arguments (asks command)) (λ index. IsBadAt arguments index)

pub answers-bounded : {C : Type 0} → (arguments : List (List ℕ)) (asks : C → Asked) (result : Result C ℕ) →
    Answers arguments asks result → IfOk result (λ command. IsBounded (asks command))
answers-bounded arguments asks (Ok command) answers = asks-bounded arguments (asks command) answers
answers-bounded arguments asks (Err index) answers = tt

-- after the last argument
pub ends : {X C : Type 0} → (bytes : X →
    List ℕ) (items : List X) (count : ℕ) (state : ReadingState) (asks : C → Asked)
    (found : Option C) → count ≡ length items → reads start (take count (map bytes items)) ≡ Some state →
    option_map asks found ≡ completed (map bytes items) state →
    MatchResult (ok_or found count) (λ command. Asks (map bytes items) (asks command))
    (λ index. IsBadAt (map bytes items) index)
ends bytes items count state asks None counted h done =
    bad-end (map bytes items) count state (counted ∙ sym (length-map items bytes)) h (sym done)
ends bytes items count state asks (Some command) counted h done =
    let w : take count (map bytes items) ≡ map bytes items =
    take_all count (map bytes items) (omega (arith, length-map items bytes)) in
    let r : reads start (map bytes items) ≡ Some state =
    subst (λ (ws : List (List ℕ)). reads start ws ≡ Some state) w h in
    reads-sound (map bytes items) state (asks command) r (sym done)
