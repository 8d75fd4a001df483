-- Parts of a text are no longer than the text.
use Rattle.std.proofs.Common.{ℕ, ◌≤◌, List, length, take, drop, arith}
use Rattle.std.proofs.lemmas.List.{length-drop, length-take}
use Rattle.rv_text.specs.Pieces.{without_front, without_end, trimmed, name_part, operand_part}

take-shorter : (n : ℕ) (text : List ℕ) → length (take n text) ≤ length text
take-shorter n text = grind (arith, length-take n text)

drop-shorter : (n : ℕ) (text : List ℕ) → length (drop n text) ≤ length text
drop-shorter n text = omega (arith, length-drop n text)

pub trimmed-shorter : (text : List ℕ) → length (trimmed text) ≤ length text
unfolding trimmed without_front without_end
trimmed-shorter text = omega (arith, take-shorter, drop-shorter)

pub operand_part-shorter : (text : List ℕ) → length (operand_part text) ≤ length text
unfolding operand_part
operand_part-shorter text = omega (arith, drop-shorter (length (name_part text)) (trimmed text), trimmed-shorter text)

pub cut-shorter : (n : ℕ) (text : List ℕ) → length (trimmed (take n text)) ≤ length text
cut-shorter n text = omega (arith, trimmed-shorter (take n text), take-shorter n text)

pub ruleset parts = (trimmed-shorter, operand_part-shorter)
