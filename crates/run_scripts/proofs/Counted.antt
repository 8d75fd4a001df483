-- A script has at most one more move than its text has bytes.
use Rattle.std.proofs.Common.{◌≡◌, ℕ, ◌+◌, ◌<◌, ◌≤◌, ◌^◌, List, [], ◌∷◌, Bool, true, false, Ok, Err, length, subst, arith}
use Rattle.std.specs.Prelude.{Result, if◌then◌else◌}
use Rattle.std.specs.List.{slice_split}
use Rattle.std.proofs.lemmas.List.Splits.{length-slice_split}
use Rattle.std.proofs.lemmas.List.Sums.{count_by-le-length}
use Rattle.rv_text.specs.Lines.{is_line_feed, lines_from, lines_of_pieces, text_lines}
use Rattle.run_scripts.specs.Limits.{most_script}
use Rattle.cf_bind.specs.declared.moves.Move.{Move}
use Rattle.run_scripts.specs.declared.refusal.ScriptKind.{ScriptKind}
use Rattle.run_scripts.specs.MoveLines.{move_in}
use Rattle.run_scripts.specs.Scripts.{ScriptLines, is_skipped, told_by, told_from}

told-one : (line n : ℕ) (answer : Result Move ScriptKind) (after : ScriptLines) → length after.moves ≤ n → length (told_by line answer after).moves ≤ n + 1
told-one line n (Ok mv) after h = omega arith
told-one line n (Err kind) after h = omega arith

told-next : (skipped : Bool) (line n : ℕ) (answer : Result Move ScriptKind) (after : ScriptLines) → length after.moves ≤ n →
    length (if skipped then after else told_by line answer after).moves ≤ n + 1
told-next true line n answer after h = omega arith
told-next false line n answer after h = told-one line n answer after h

told-lines : (above : ℕ) (lines : List (List ℕ)) → length (told_from above lines).moves ≤ length lines
told-lines above [] = omega arith
told-lines above (line ∷ lines) =
    let one : length (told_from above (line ∷ lines)).moves ≤ length lines + 1 = told-next (is_skipped line) (above + 1) (length lines) (move_in line)
    (told_from (above + 1) lines) (told-lines (above + 1) lines) in
    omega (arith, one)

lines-pieces : (piece : List ℕ) (pieces : List (List ℕ)) → length (lines_from piece pieces) ≤ length pieces + 1
lines-pieces [] [] = omega arith
lines-pieces (byte ∷ last) [] = omega arith
lines-pieces piece (next ∷ pieces) = let rest = lines-pieces next pieces in omega (arith, rest)

lines-of : (pieces : List (List ℕ)) → length (lines_of_pieces pieces) ≤ length pieces
lines-of [] = omega arith
lines-of (piece ∷ pieces) = let all = lines-pieces piece pieces in omega (arith, all)

lines-few : (text : List ℕ) → length (text_lines text) ≤ length text + 1
unfolding text_lines
lines-few text = omega (arith, lines-of (slice_split is_line_feed text), length-slice_split is_line_feed text, count_by-le-length is_line_feed text)

pub told-few : (above : ℕ) (text : List ℕ) (told : ScriptLines) → told_from above (text_lines text) ≡ told → above + length text ≤ most_script →
    length told.moves < 2 ^ 25
told-few above text told same few =
    subst (λ (t : ScriptLines). length t.moves < 2 ^ 25) same (omega (arith, told-lines above (text_lines text), lines-few text))

pub ruleset counting = (told-few)
