-- The moves that are due: of the allowed moves other than Issue, those that finish earliest, all at one time. They are
-- kept while they are made one after another.
use Rattle.std.specs.Prelude.{◌≡◌, ◌<◌, ◌≤◌, ◌-◌, ◌^◌, ℕ, List, [], ◌∷◌, ◌++◌, Bool, true, false, ◌&&◌, Some, drop, filter, length, nat_eq, nat_lt, slice_get, take, if◌then◌else◌}
use Rattle.std.specs.List.{AllByRecursion}
use Rattle.cf_layout.specs.Layout.{Plan}
use Rattle.cf_bind.specs.declared.moves.Move.{Move}
use Rattle.cf_bind.specs.declared.moves.Move.TheVariants.{Serve}
use Rattle.cf_index.specs.Allowed.{allowed_others}
use Rattle.cf_timed.specs.Clocks.{AreKept, ClockedState, SiteTimes, begin_time, capped}

-- some moves, and the time at which they finish
pub record KeptMoves : Type 0 where
  pub time : ℕ
  pub moves : List Move

-- no moves, at a time
abbrev pub none_at : ℕ → KeptMoves
none_at time = record { time = time; moves = [] }

-- no moves
abbrev pub none_kept : KeptMoves
none_kept = none_at 0

-- those of the moves that finish at this time
unfoldable pub finishing : ClockedState → ℕ → List Move → List Move
finishing c time moves = filter (λ mv. nat_eq (capped c mv) time) moves

-- those of the kept moves that can begin before their time: no site that they use was used by a move that finished then
unfoldable pub still_due : SiteTimes → KeptMoves → List Move
still_due clock kept = filter (λ mv. nat_lt (begin_time clock mv) kept.time) kept.moves

-- no allowed move other than Issue finishes before the time of the kept moves; and those of the kept moves that are
-- still due are the first of those that finish at it, in the order of all moves
pub record AreDue (plan : Plan) (c : ClockedState) (kept : KeptMoves) : Type 0 where
  pub least : AllByRecursion (λ mv. kept.time ≤ capped c mv) (allowed_others plan c.state)
  pub others : List Move
  pub first : finishing c kept.time (allowed_others plan c.state) ≡ still_due c.clock kept ++ others
  pub sites : AllByRecursion (AreKept plan) kept.moves
  -- their time is below the maximum number of 64 bits
  pub below : 0 < length kept.moves → kept.time < 2 ^ 64 - 1

-- at most this many moves are kept
abbrev pub most_kept : ℕ
most_kept = 8

-- one move more, if there is room for it
abbrev pub with_one : KeptMoves → Move → KeptMoves
with_one kept mv = record kept { moves = take most_kept (kept.moves ++ mv ∷ []) }

-- what is kept once a move that finishes at this time was looked at
abbrev pub kept_with : KeptMoves → Move → ℕ → KeptMoves
kept_with kept mv time =
    if nat_lt time kept.time then record { time = time; moves = mv ∷ [] }
    else (if nat_eq time kept.time then with_one kept mv else kept)

-- one more move was looked at
abbrev pub looked : ClockedState → KeptMoves → Move → KeptMoves
looked c kept mv = kept_with kept mv (capped c mv)

-- what is kept after a look: no move, if none finishes before the maximum number of 64 bits
abbrev pub kept_below : KeptMoves → KeptMoves
kept_below kept = if nat_lt kept.time (2 ^ 64 - 1) then kept else record kept { moves = [] }

-- the move is a Serve
abbrev pub is_serve : Move → Bool
is_serve Serve = true
is_serve mv = false

-- the moves but the first
abbrev pub without_first : KeptMoves → KeptMoves
without_first kept = record kept { moves = drop 1 kept.moves }

-- what is kept beside a move that is to be made: what was right, or that without its first move, which is then the one
pub record IsLeft (plan : Plan) (c : ClockedState) (kept : KeptMoves) (mv : Move) : Type 0 where
  pub before : KeptMoves
  pub due : AreDue plan c before
  pub skipped : Bool
  pub left : kept ≡ (if skipped then without_first before else before)
  pub first : (x : Move) → skipped ≡ true → Some x ≡ slice_get before.moves 0 → x ≡ mv

-- what is kept after a move that finished at this time: the same, if that is the time of the kept moves, unless the
-- move was a Serve
abbrev pub kept_after : KeptMoves → Move → ℕ → KeptMoves
kept_after kept mv time = if is_serve mv then none_kept else (if nat_eq time kept.time && nat_lt time (2 ^ 64 - 1) then kept else none_kept)
