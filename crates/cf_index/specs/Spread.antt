-- The moves for the numbers of a word, by the kind of move that the word is of.
use Rattle.std.specs.Prelude.{ℕ, ◌+◌}
use Rattle.cf_bind.specs.declared.moves.Move.{Move}
use Rattle.cf_bind.specs.declared.moves.Move.TheVariants as mv
use Rattle.cf_index.specs.declared.visiting.Spread.{Spread}
use Rattle.cf_index.specs.declared.visiting.Spread.TheVariants.{Climb, Fall, Meet, Execute, Send, Launch, Slide, Recover}
use Rattle.cf_index.specs.Listed.{slide_at}

-- bit i - 1 is for stage i, and bit 8k + c for siding k, cell c
abbrev pub numbered : Spread → ℕ → Move
numbered Climb k = mv.Climb (k + 1)
numbered Fall k = mv.Fall (k + 1)
numbered Meet k = mv.Meet (k + 1)
numbered Execute k = mv.Execute (k + 1)
numbered Send k = mv.Send (k + 1)
numbered Launch k = mv.Launch (k + 1)
numbered Slide k = slide_at k
numbered Recover k = mv.Recover (k + 1)
