-- The first argument that cannot be read is the first unexpected one: the arguments before it can be completed to a
-- command.
use Rattle.std.proofs.Common.{◌≡◌, ◌≤◌, ◌<◌, ◌+◌, ℕ, List, [], ◌∷◌, ◌++◌, length, take, drop, get_or, min, refl, arith, inl, inr, Option}
use Rattle.std.proofs.Common.{Some, None, sym, ◌∙◌, subst, ap}
use Rattle.std.proofs.lemmas.List.{length-take, length-take-le, take-append-le, take_more, take_all, take-take, take-append-drop}
use Rattle.std.proofs.Math.Seq.{take-length}
use Rattle.std.proofs.lemmas.Bool.{cases_order}
use Rattle.cli_arguments.specs.Arguments.{Asked, Asks, IsBadAt}
use Rattle.cli_arguments.specs.Reading.{ReadingState, start, follow, completed}
use Rattle.cli_arguments.proofs.InTurn.{after, reads, reads-append}
use Rattle.cli_arguments.proofs.Grammar.{reads-sound, asks-read}
use Rattle.cli_arguments.proofs.Completions.{complete-reached}

-- arguments that were read begin those of a command
begun : (arguments : List (List ℕ)) (last : ReadingState) → reads start arguments ≡ Some last →
    (command : List (List ℕ)) × (asked : Asked) × Asks command asked ×
    (take (length arguments) command ≡ arguments)
begun arguments last h =
    let c = complete-reached arguments last h in
    let t : take (length arguments) (arguments ++ c.more) ≡ arguments =
    take-append-le (length arguments) arguments c.more (omega arith) ∙ take-length arguments in
    (arguments ++ c.more, c.asked, reads-sound (arguments ++ c.more) c.last c.asked c.read c.done, t)

-- an argument that cannot follow is unexpected
read-prefix : (found : Option ReadingState) (arguments more : List (List ℕ)) (last : ReadingState) →
    reads start arguments ≡ found →
    reads start (arguments ++ more) ≡ Some last → found ≡ None → ⊥
read-prefix None arguments more last e h none =
    let a = reads-append start arguments more in
    let b : after (reads start arguments) (λ s. reads s more) ≡ None =
    ap (λ (o : Option ReadingState). after o (λ s. reads s more)) e in
    cc
read-prefix (Some state) arguments more last e h none = cc

not-read : (arguments : List (List ℕ)) (argument : List ℕ) (state : ReadingState) → reads start arguments ≡ Some state →
    follow state argument ≡ None → reads start (arguments ++ argument ∷ []) ≡ None
not-read arguments argument state h none =
    reads-append start arguments (argument ∷ [])
    ∙ (ap (λ (o : Option ReadingState). after o (λ s. reads s (argument ∷ []))) h
    ∙ ap (λ (o : Option ReadingState). after o (λ s. reads s [])) none)

bad-here : (arguments : List (List ℕ)) (index : ℕ) (state : ReadingState) → index < length arguments →
    reads start (take index arguments) ≡ Some state → follow state (get_or arguments index []) ≡ None →
    (command : List (List ℕ)) (asked : Asked) → Asks command asked →
    take (index + 1) command ≡ take (index + 1) arguments → ⊥
bad-here arguments index state inside h none command asked asks same =
    let r = asks-read command asked asks in
    let t : take (index + 1) arguments ≡ take index arguments ++ get_or arguments index [] ∷ [] = take_more arguments
    index [] inside in
    let n : reads start (take (index + 1) command) ≡ None =
    ap (λ (ws : List (List ℕ)). reads start ws) (same ∙ t)
    ∙ not-read (take index arguments) (get_or arguments index []) state h none in
    let c : reads start (take (index + 1) command ++ drop (index + 1) command) ≡ Some r.last =
    ap (λ (ws : List (List ℕ)). reads start ws) (take-append-drop (index + 1) command) ∙ r.read in
    read-prefix (reads start (take (index + 1) command)) (take (index + 1) command)
    (drop (index + 1) command) r.last refl c n

begun-at : (arguments : List (List ℕ)) (index : ℕ) (state : ReadingState) → index ≤ length arguments →
    reads start (take index arguments) ≡ Some state →
    (command : List (List ℕ)) × (asked : Asked) × Asks command asked ×
    (take index command ≡ take index arguments)
begun-at arguments index state inside h =
    subst (λ (n : ℕ). (command : List (List ℕ)) × (asked : Asked) × Asks command asked
    × (take n command ≡ take index arguments))
    (length-take-le index arguments inside) (begun (take index arguments) state h)

pub bad-argument : (arguments : List (List ℕ)) (index : ℕ) (state : ReadingState) → index < length arguments →
    reads start (take index arguments) ≡ Some state → follow state (get_or arguments index []) ≡ None →
    IsBadAt arguments index
bad-argument arguments index state inside h none = record {
  within = omega arith;
  begun = begun-at arguments index state (omega arith) h;
  no_further = bad-here arguments index state inside h none;
}

-- if the arguments end too early, one is missing
whole : (arguments command : List (List ℕ)) →
    take (length arguments + 1) command ≡ take (length arguments + 1) arguments → command ≡ arguments
whole arguments command same =
    let w : take (length arguments + 1) arguments ≡ arguments = take_all (length arguments + 1) arguments (omega arith) in
    let l : min (length arguments + 1) (length command) ≡ length arguments =
    sym (length-take (length arguments + 1) command) ∙ ap (λ (ws : List (List ℕ)). length ws) (same ∙ w) in
    let c : take (length arguments + 1) command ≡ command = take_all (length arguments + 1) command
    (omega arith) in
    sym c ∙ (same ∙ w)

bad-after : (arguments : List (List ℕ)) (state : ReadingState) → reads start arguments ≡ Some state →
    completed arguments state ≡ None →
    (command : List (List ℕ)) (asked : Asked) → Asks command asked →
    take (length arguments + 1) command ≡ take (length arguments + 1) arguments → ⊥
bad-after arguments state h none command asked asks same =
    let r = asks-read command asked asks in
    let c : reads start arguments ≡ Some r.last =
    ap (λ (ws : List (List ℕ)). reads start ws) (sym (whole arguments command same)) ∙ r.read in
    let l : state ≡ r.last = cc (h, c) in
    let d : completed arguments r.last ≡ None = subst (λ s. completed arguments s ≡ None) l none in
    let e : completed arguments r.last ≡ Some asked =
    subst (λ (ws : List (List ℕ)). completed ws r.last ≡ Some asked) (whole arguments command same) r.done in
    cc (d, e)

pub bad-end : (arguments : List (List ℕ)) (index : ℕ) (state : ReadingState) → index ≡ length arguments →
    reads start (take index arguments) ≡ Some state → completed arguments state ≡ None → IsBadAt arguments index
bad-end arguments index state at-end h none =
    let w : take index arguments ≡ arguments = take_all index arguments (omega arith) in
    let h1 : reads start arguments ≡ Some state = subst
    (λ (ws : List (List ℕ)). reads start ws ≡ Some state) w h in
    record {
      within = omega arith;
      begun = begun-at arguments index state (omega arith) h;
      no_further = λ command asked asks same. bad-after arguments state h1 none command asked asks
          (subst (λ (n : ℕ). take (n + 1) command ≡ take (n + 1) arguments) at-end same);
    }

-- arguments with a bad one among them ask for nothing, and only one argument is the first bad one
pub bad-asks-nothing : (arguments : List (List ℕ)) (index : ℕ) (asked : Asked) → IsBadAt arguments index →
    Asks arguments asked → ⊥
bad-asks-nothing arguments index asked bad asks = bad.no_further arguments asked asks refl

-- agreement on more arguments implies agreement on fewer
fewer : (n m : ℕ) (xs ys : List (List ℕ)) → n ≤ m → take m xs ≡ take m ys → take n xs ≡ take n ys
fewer n m xs ys le same =
    sym (take-take n m xs le) ∙ (ap (λ (zs : List (List ℕ)). take n zs) same ∙ take-take n m ys le)

not-before : (arguments : List (List ℕ)) (one other : ℕ) → IsBadAt arguments one → IsBadAt arguments other →
    one < other → ⊥
not-before arguments one other a b lt =
    a.no_further b.begun.0 b.begun.1 b.begun.2 (fewer (one + 1) other b.begun.0 arguments (omega arith)
    b.begun.3)

pub bad-one : (arguments : List (List ℕ)) (one other : ℕ) → IsBadAt arguments one → IsBadAt arguments other →
    one ≡ other
bad-one arguments one other a b =
    elim (cases_order one other) [
      | inl same ↦ same
      | inr apart ↦ elim apart [
        | inl lt ↦ absurd (not-before arguments one other a b lt)
        | inr lt ↦ absurd (not-before arguments other one b a lt)
      ]
    ]
