-- The order of all moves: by their kind, and within a kind by stage, or by siding and then cell.
use Rattle.std.specs.Prelude.{ℕ, List, Option, Some, None, Bool, true, ◌&&◌, ◌||◌, not, position, nat_eq, nat_lt}
use Rattle.std.specs.List.{prefix_len}
use Rattle.cf_bind.specs.declared.passenger.Guess.{Guess}
use Rattle.cf_bind.specs.declared.passenger.Guess.TheVariants.{Next, Taken, Wait, To}
use Rattle.cf_bind.specs.declared.moves.Move.{Move}
use Rattle.cf_bind.specs.declared.moves.Move.TheVariants.{Issue, Emit, Climb, Fall, Meet, Execute, Send, Launch, Slide, Access, Recover, Leave, Exit, Serve}
use Rattle.cf_semantics.specs.state.Options.{on}

-- the place of Slide among the kinds
abbrev pub slide_place : ℕ
slide_place = 8

-- the place of Leave
abbrev pub leave_place : ℕ
leave_place = 11

-- the place of a move's kind among the kinds
abbrev pub kind_place : Move → ℕ
kind_place (Issue g) = 0
kind_place Emit = 1
kind_place (Climb i) = 2
kind_place (Fall i) = 3
kind_place (Meet i) = 4
kind_place (Execute i) = 5
kind_place (Send i) = 6
kind_place (Launch i) = 7
kind_place (Slide k c) = slide_place
kind_place Access = 9
kind_place (Recover i) = 10
kind_place Leave = leave_place
kind_place Exit = 12
kind_place Serve = 13

-- a move within a siding
abbrev pub is_slide : Move → Bool
is_slide mv = nat_eq (kind_place mv) slide_place

-- the place of a guess among the guesses
abbrev pub guess_place : Guess → ℕ
guess_place Next = 0
guess_place Taken = 1
guess_place Wait = 2
guess_place (To t) = 3

-- its place within its kind: that of its guess, its stage or its siding
abbrev pub place : Move → ℕ
place (Issue g) = guess_place g
place (Climb i) = i
place (Fall i) = i
place (Meet i) = i
place (Execute i) = i
place (Send i) = i
place (Launch i) = i
place (Slide k c) = k
place (Recover i) = i
place _ = 0

-- its place within its siding
abbrev pub cell_place : Move → ℕ
cell_place (Slide k c) = c
cell_place _ = 0

-- a is below b, or they are equal and the rest decides
abbrev pub below_or : ℕ → ℕ → Bool → Bool
below_or a b rest = nat_lt a b || (nat_eq a b && rest)

-- the second move comes after the first
abbrev pub stands_after : Move → Move → Bool
stands_after a b = below_or (kind_place a) (kind_place b) (below_or (place a) (place b) (nat_lt (cell_place a) (cell_place b)))

-- the move comes after the last one, if there was one
abbrev pub is_after : Option Move → Move → Bool
is_after None mv = true
is_after (Some last) mv = stands_after last mv

-- how many of the moves come before the first one after the last move
unfoldable pub passed_moves : Move → List Move → ℕ
passed_moves last moves = prefix_len (λ mv. not (stands_after last mv)) moves

-- the index of the first move after the last one, or that of the first of all if none comes after it
unfoldable pub first_after : Option Move → List Move → ℕ
first_after last moves = on (position (is_after last) moves) 0 (λ i. i)
