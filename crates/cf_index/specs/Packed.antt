-- The candidates of a small processor in two words of 64 bits: the move of each bit, in the order of all moves. One word is
-- for the moves within the sidings, the other for all others.
use Rattle.std.specs.Prelude.{ℕ, ◌+◌, ◌-◌, ◌/◌, ◌%◌, ◌^◌, ◌<◌, List, ◌++◌, map, if◌then◌else◌, ◌==◌}
use Rattle.cf_bind.specs.declared.passenger.Guess.TheVariants as guess
use Rattle.cf_bind.specs.declared.moves.Move.{Move}
use Rattle.cf_bind.specs.declared.moves.Move.TheVariants.{Issue, Emit, Climb, Fall, Meet, Execute, Send, Launch, Access, Recover, Leave, Exit, Serve}
use Rattle.cf_index.specs.declared.passing.Passing.{Passing}
use Rattle.cf_index.specs.Listed.{slides_of}
use Rattle.cf_index.specs.Places.{set_places}

-- bits 0 to 3: Issue by each guess, and Emit
abbrev pub entering_at : ℕ → Move
entering_at k = if k == 0 then Issue guess.Next else (if k == 1 then Issue guess.Taken else (if k == 2 then Issue guess.Wait else Emit))

-- bits 52 to 63, counted from 52: Access, Recover by stage, Leave, Exit and Serve
abbrev pub leaving_at : ℕ → Move
leaving_at k =
    if k == 0 then Access else (if k == 9 then Leave else (if k == 10 then Exit else (if k == 11 then Serve else Recover k)))

-- bits 4 to 51: a group of eight bits for each kind over the stages, one for each stage
abbrev pub grouped : (group : ℕ) → (stage : ℕ) → (place : ℕ) → Move
grouped group i k =
    if group == 0 then entering_at k else (if group == 1 then Climb i else (if group == 2 then Fall i else (if group == 3 then Meet i
    else (if group == 4 then Execute i else (if group == 5 then Send i else (if group == 6 then Launch i else leaving_at (k - 52)))))))

-- the move of a bit
unfoldable pub packed_at : ℕ → Move
packed_at k = grouped ((k + 4) / 8) ((k + 4) % 8 + 1) k

-- the moves of a word
unfoldable pub packed_moves : ℕ → List Move
packed_moves w = map packed_at (set_places 64 w)

-- the moves of a word and those within the sidings, which come after the moves of the bits below 52 and before the others
unfoldable pub packed_with : ℕ → (slides : ℕ) → List Move
packed_with w slides = packed_moves (w % 2 ^ 52) ++ (slides_of slides ++ packed_moves (w - w % 2 ^ 52))

-- the moves of n bits from a place on
unfoldable pub packed_from : (place : ℕ) → (n : ℕ) → ℕ → List Move
packed_from place n w = map (λ j. packed_at (place + j)) (set_places n w)

-- each kind over the stages has at most eight of them
pub record FitsEight (p : Passing) : Type 0 where
  pub climb : p.climb < 256
  pub fall : p.fall < 256
  pub meet : p.meet < 256
  pub execute : p.execute < 256
  pub send : p.send < 256
  pub launch : p.launch < 256
