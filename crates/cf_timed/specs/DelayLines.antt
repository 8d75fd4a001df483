-- What a text of delays gives (a format of this project): in each line one kind of move, perhaps with a class, and its
-- delay; comments and blank lines are skipped.
use Rattle.std.specs.Prelude.{ℕ, ◌+◌, ◌==◌, Option, Some, None, Result, Ok, Err, List, [], ◌∷◌, length, map, drop, take, replicate, slice_get, slice_set, unwrap_or, ◌&&◌, nat_le, nat_lt, if◌then◌else◌}
use Rattle.std.specs.List.{find, position_or_len}
use Rattle.std.specs.Str.{bytes_eq}
use Rattle.texts.specs.Answers.{and_then, needed}
use Rattle.rv_inst.specs.declared.classes.Class.{Class}
use Rattle.rv_text.specs.Lines.{text_lines}
use Rattle.rv_text.specs.Numbers.{numeral}
use Rattle.cf_layout.specs.Layout.{computed_classes}
use Rattle.layout_file.specs.Names.{class_name}
use Rattle.run_scripts.specs.Kinds.{place_named}
use Rattle.texts.specs.Bytes.{is_ascii}
use Rattle.run_scripts.specs.Scripts.{is_skipped}
use Rattle.run_scripts.specs.Words.{words_of, first_word}
use Rattle.cf_semantics.specs.moves.Candidates.{counted_from}
use Rattle.cf_semantics.specs.state.Options.{on, is_some}
use Rattle.run_scripts.specs.declared.delay_refusal.DelayErr.{DelayErr}
use Rattle.run_scripts.specs.declared.delay_refusal.DelayKind.{DelayKind}
use Rattle.run_scripts.specs.declared.delay_refusal.DelayKind.TheVariants.{NotAscii, UnknownKind, KindTwice, BadDelay, ExtraWords}
use Rattle.cf_timed.specs.declared.span.Span.{Span}
use Rattle.cf_timed.specs.Delays.{class_slot, one_tick, span_count}

-- the number of ticks that a word gives: one to four decimal digits, from 1 to 1000
unfoldable pub ticks_word : List ℕ → Option ℕ
ticks_word word = on (numeral 10 4 word) None (λ n. if nat_le 1 n && nat_le n 1000 then Some n else None)

-- the range from one such number to another, which is at least as large
unfoldable pub delay_range : List ℕ → List ℕ → Option Span
delay_range first last =
    on (ticks_word first) None (λ least.
    on (ticks_word last) None (λ greatest.
    if nat_le least greatest then Some (record { least = least; greatest = greatest }) else None))

-- the index of the first hyphen (45) of a word, or its length if it has none
abbrev pub hyphen_at : List ℕ → ℕ
hyphen_at word = position_or_len (λ byte. byte == 45) word

-- the delay that a word gives: one number, or two with a hyphen between them
unfoldable pub span_word : List ℕ → Option Span
span_word word =
    if nat_lt (hyphen_at word) (length word) then delay_range (take (hyphen_at word) word) (drop (hyphen_at word + 1) word)
    else delay_range word word

-- the class that a word names, one of those that are computed
unfoldable pub class_named : List ℕ → Option Class
class_named word = find (λ class. bytes_eq (class_name class) word) computed_classes

-- the index at which the delays by class of a kind begin, if it has any: execute, launch and recover do
abbrev pub class_first : ℕ → Option ℕ
class_first kind = if kind == 5 then Some 14 else if kind == 7 then Some 23 else if kind == 10 then Some 32 else None

-- the index of the delay for a class of a kind
unfoldable pub slot_named : ℕ → List ℕ → Option ℕ
slot_named kind word = on (class_first kind) None (λ first. on (class_named word) None (λ class. Some (class_slot kind first class)))

-- the delay that a line has given for each kind, and for each class of a kind: none so far
abbrev pub unnamed : List (Option Span)
unnamed = replicate span_count None

-- what a line has given
abbrev pub told_at : List (Option Span) → ℕ → Option Span
told_at named slot = unwrap_or (slice_get named slot) None

-- what a word and those after it add at this index to what was given above: a delay if none was given yet, and nothing
-- more
unfoldable pub span_told_there : List (Option Span) → ℕ → List ℕ → List (List ℕ) → Result (List (Option Span)) DelayKind
span_told_there named slot word rest =
    if is_some (told_at named slot) then Err KindTwice else
    and_then (needed BadDelay (span_word word)) (λ span.
    if length rest == 0 then Ok (slice_set named slot (Some span)) else Err ExtraWords)

-- what the words after a kind add: the first may be a class
unfoldable pub told_after_kind : List (Option Span) → ℕ → List (List ℕ) → Result (List (Option Span)) DelayKind
told_after_kind named kind words =
    on (slot_named kind (first_word words))
    (span_told_there named kind (first_word words) (drop 1 words))
    (λ slot. span_told_there named slot (first_word (drop 1 words)) (drop 1 (drop 1 words)))

-- what some words add
unfoldable pub words_told : List (Option Span) → List (List ℕ) → Result (List (Option Span)) DelayKind
words_told named words =
    and_then (needed UnknownKind (place_named (first_word words))) (λ kind. told_after_kind named kind (drop 1 words))

-- what a line gives
unfoldable pub line_told : List (Option Span) → List ℕ → Result (List (Option Span)) DelayKind
line_told named line = if is_ascii line then words_told named (words_of line) else Err NotAscii

-- the refusal with its line number
abbrev pub in_line : ℕ → Result (List (Option Span)) DelayKind → Result (List (Option Span)) DelayErr
in_line line (Ok named) = Ok named
in_line line (Err kind) = Err (record { line = line; kind = kind })

-- what the lines after this many others add to the delays that those have given; lines are counted from 1
abbrev pub lines_told : ℕ → List (Option Span) → List (List ℕ) → Result (List (Option Span)) DelayErr
lines_told above named [] = Ok named
lines_told above named (line ∷ lines) =
    if is_skipped line then lines_told (above + 1) named lines
    else and_then (in_line (above + 1) (line_told named line)) (λ more. lines_told (above + 1) more lines)

-- the kind to which an index belongs
abbrev pub kind_of_slot : ℕ → ℕ
kind_of_slot slot = if nat_lt slot 14 then slot else if nat_lt slot 23 then 5 else if nat_lt slot 32 then 7 else 10

-- a class that no line gives has the delay of its kind, and a kind that no line gives takes one tick
unfoldable pub span_told : List (Option Span) → ℕ → Span
span_told named slot = unwrap_or (told_at named slot) (unwrap_or (told_at named (kind_of_slot slot)) one_tick)

unfoldable pub filled : List (Option Span) → List Span
filled named = map (span_told named) (counted_from 0 span_count)

-- the delays that a text gives, or the first refusal
unfoldable pub delays_in : List ℕ → Result (List Span) DelayErr
delays_in text = and_then (lines_told 0 unnamed (text_lines text)) (λ named. Ok (filled named))
