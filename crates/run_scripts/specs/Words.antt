-- The words of a line, and the numbers that they spell (a format of this project).
use Rattle.std.specs.Prelude.{ℕ, ◌==◌, Bool, true, false, Option, None, Result, List, [], ◌∷◌, length, if◌then◌else◌}
use Rattle.std.specs.List.{filter, slice_split}
use Rattle.texts.specs.Answers.{needed}
use Rattle.rv_text.specs.Pieces.{is_blank}
use Rattle.rv_text.specs.Numbers.{numeral}
use Rattle.run_scripts.specs.declared.refusal.ScriptKind.{ScriptKind}
use Rattle.run_scripts.specs.declared.refusal.ScriptKind.TheVariants.{BadNumber}

-- a nonempty piece
abbrev pub is_word : List ℕ → Bool
is_word [] = false
is_word (byte ∷ piece) = true

-- the words of a line, which are separated by spaces and tabs
unfoldable pub words_of : List ℕ → List (List ℕ)
words_of line = filter is_word (slice_split is_blank line)

-- the first of some words, or an empty text if there is none
abbrev pub first_word : List (List ℕ) → List ℕ
first_word [] = []
first_word (word ∷ words) = word

-- the number of a stage, a siding or a cell that the first word spells: one to nine decimal digits
unfoldable pub first_number : List (List ℕ) → Result ℕ ScriptKind
first_number words = needed BadNumber (numeral 10 9 (first_word words))

-- the address that a word spells: eight hexadecimal digits of either case
abbrev pub address_in : List ℕ → Option ℕ
address_in word = if length word == 8 then numeral 16 8 word else None

-- the address that the first word spells
unfoldable pub first_address : List (List ℕ) → Result ℕ ScriptKind
first_address words = needed BadNumber (address_in (first_word words))
