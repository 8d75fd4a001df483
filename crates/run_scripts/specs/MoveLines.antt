-- Reading the line of a move (a format of this project).
use Rattle.std.specs.Prelude.{◌≡◌, ◌==◌, ◌<◌, ◌^◌, ℕ, Option, Some, None, Result, Ok, Err, MatchResult, List, length, drop, codes, if◌then◌else◌}
use Rattle.std.specs.Str.{bytes_eq}
use Rattle.texts.specs.Bytes.{is_ascii}
use Rattle.texts.specs.Answers.{and_then}
use Rattle.cf_bind.specs.declared.passenger.Guess.{Guess}
use Rattle.cf_bind.specs.declared.passenger.Guess.TheVariants as guess
use Rattle.cf_bind.specs.declared.moves.Move.{Move}
use Rattle.cf_bind.specs.declared.moves.Move.TheVariants.{Issue, Emit, Climb, Fall, Meet, Execute, Send, Launch, Slide, Access, Recover, Leave, Exit, Serve}
use Rattle.run_scripts.specs.declared.refusal.ScriptKind.{ScriptKind}
use Rattle.run_scripts.specs.declared.refusal.ScriptKind.TheVariants.{UnknownMove, ExtraWords, NotAscii}
use Rattle.run_scripts.specs.declared.kind.Kind.{Kind}
use Rattle.run_scripts.specs.declared.kind.Kind.TheVariants as kind
use Rattle.run_scripts.specs.Kinds.{kind_named}
use Rattle.run_scripts.specs.Words.{words_of, first_word, first_number, first_address}

-- the kind, or a refusal if it is missing
abbrev pub kind_or_refusal : Option Kind → Result Kind ScriptKind
kind_or_refusal (Some k) = Ok k
kind_or_refusal None = Err UnknownMove

-- what is read from the start of some words, with the words after it
abbrev pub read_with : {A : Type 0} → A → List (List ℕ) → Result (A × List (List ℕ)) ScriptKind
read_with a words = Ok (a, words)

-- a guess
unfoldable pub guess_read : List (List ℕ) → Result (Guess × List (List ℕ)) ScriptKind
guess_read words =
    if bytes_eq (first_word words) (codes "next") then read_with guess.Next (drop 1 words)
    else if bytes_eq (first_word words) (codes "taken") then read_with guess.Taken (drop 1 words)
    else if bytes_eq (first_word words) (codes "wait") then read_with guess.Wait (drop 1 words)
    else if bytes_eq (first_word words) (codes "to") then and_then (first_address (drop 1 words)) (λ t. read_with (guess.To t) (drop 1 (drop 1 words)))
    else Err UnknownMove

-- an issue with its guess
abbrev pub issue_read : List (List ℕ) → Result (Move × List (List ℕ)) ScriptKind
issue_read words = and_then (guess_read words) (λ (g, left). read_with (Issue g) left)

-- a kind of move with the number of its stage
abbrev pub at_stage : (ℕ → Move) → List (List ℕ) → Result (Move × List (List ℕ)) ScriptKind
at_stage make words = and_then (first_number words) (λ i. read_with (make i) (drop 1 words))

-- a slide with the numbers of its siding and of its cell
abbrev pub slide_read : List (List ℕ) → Result (Move × List (List ℕ)) ScriptKind
slide_read words =
    and_then (first_number words) (λ k.
    and_then (first_number (drop 1 words)) (λ c. read_with (Slide k c) (drop 1 (drop 1 words))))

-- the move of a kind, with the words that must follow
abbrev pub kind_read : Kind → List (List ℕ) → Result (Move × List (List ℕ)) ScriptKind
kind_read kind.Issue words = issue_read words
kind_read kind.Emit words = read_with Emit words
kind_read kind.Climb words = at_stage Climb words
kind_read kind.Fall words = at_stage Fall words
kind_read kind.Meet words = at_stage Meet words
kind_read kind.Execute words = at_stage Execute words
kind_read kind.Send words = at_stage Send words
kind_read kind.Launch words = at_stage Launch words
kind_read kind.Slide words = slide_read words
kind_read kind.Access words = read_with Access words
kind_read kind.Recover words = at_stage Recover words
kind_read kind.Leave words = read_with Leave words
kind_read kind.Exit words = read_with Exit words
kind_read kind.Serve words = read_with Serve words

-- the move of the kind that some words begin with
unfoldable pub move_read : List (List ℕ) → Result (Move × List (List ℕ)) ScriptKind
move_read words = and_then (kind_or_refusal (kind_named (first_word words))) (λ k. kind_read k (drop 1 words))

-- a move after which no word is left
abbrev pub closed : Move × List (List ℕ) → Result Move ScriptKind
closed (mv, left) = if length left == 0 then Ok mv else Err ExtraWords

-- the move that some words give
unfoldable pub words_read : List (List ℕ) → Result Move ScriptKind
words_read words = and_then (move_read words) closed

-- the move that a line gives, or why it gives none
unfoldable pub move_in : List ℕ → Result Move ScriptKind
move_in line = if is_ascii line then words_read (words_of line) else Err NotAscii

-- the answer is this one, with these words left after it
abbrev pub ReadsWords : {A : Type 0} → Result A ScriptKind → List (List ℕ) → Result (A × List (List ℕ)) ScriptKind → Type 0
ReadsWords result left answer = MatchResult result (λ a. answer ≡ Ok (a, left)) (λ e. answer ≡ Err e)

-- each number of a move is below a limit, and an address is a word
abbrev pub NumbersBelow : ℕ → Move → Type 0
NumbersBelow limit (Issue (guess.To t)) = t < 2 ^ 32
NumbersBelow limit (Climb i) = i < limit
NumbersBelow limit (Fall i) = i < limit
NumbersBelow limit (Meet i) = i < limit
NumbersBelow limit (Execute i) = i < limit
NumbersBelow limit (Send i) = i < limit
NumbersBelow limit (Launch i) = i < limit
NumbersBelow limit (Slide k c) = (k < limit) × (c < limit)
NumbersBelow limit (Recover i) = i < limit
NumbersBelow limit _ = Unit {0}
