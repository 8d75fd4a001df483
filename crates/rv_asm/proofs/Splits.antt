-- One operand is split off at a comma.
use Rattle.std.proofs.Common.{◌≡◌, ℕ, ◌+◌, ◌<◌, ◌≤◌, List, [], ◌∷◌, length, take, drop, ◌∙◌, ap}
use Rattle.std.specs.Prelude.{map, ◌==◌}
use Rattle.std.specs.List.{slice_split, position_or_len, count_by}
use Rattle.std.proofs.lemmas.List.Splits.{length-slice_split, slice_split_first}
use Rattle.std.proofs.lemmas.List.{length-map}
use Rattle.rv_text.proofs.LineCuts.{uncut}
use Rattle.rv_text.specs.Pieces.{is_comma, trimmed}
use Rattle.rv_asm.specs.Operands.{operand_texts}

pub more_operands : (text : List ℕ) (comma : ℕ) → comma ≡ position_or_len (λ byte. byte == 44) text → comma < length text
    → operand_texts text ≡ trimmed (take comma text) ∷ operand_texts (drop (comma + 1) text)
more_operands text comma e h =
    rw e (ap (map trimmed) (slice_split_first is_comma text 0 (rw (← e) h)))

pub last_operand : (text : List ℕ) (comma : ℕ) → comma ≡ position_or_len (λ byte. byte == 44) text → length text ≤ comma
    → operand_texts text ≡ trimmed text ∷ []
last_operand text comma e h = ap (map trimmed) (uncut is_comma text (rw (← e) h))

pub ruleset commas = (more_operands, last_operand)

pub length-operands : (text : List ℕ) → length (operand_texts text) ≡ count_by is_comma text + 1
length-operands text = length-map (slice_split is_comma text) trimmed ∙ length-slice_split is_comma text

pub ruleset counts = (length-operands)
