-- The first of the moves that have the least time, found while the moves are shown one by one.
use Rattle.std.specs.Prelude.{ℕ, ◌+◌, ◌-◌, ◌^◌, min, nat_lt, if◌then◌else◌}
use Rattle.cf_bind.specs.declared.moves.Move.{Move}
use Rattle.cf_bind.specs.declared.moves.Move.TheVariants.{Exit}
use Rattle.cf_timed.specs.Clocks.{ClockedState, capped}

-- how many moves were shown, and the first of those with the least time: its index, its time and the move itself
pub record Seeking : Type 0 where
  pub clock : ClockedState
  pub shown : ℕ
  pub place : ℕ
  pub time : ℕ
  pub move : Move

-- one more move was counted
abbrev pub counted_move : Seeking → Seeking
counted_move s = record s { shown = min (s.shown + 1) (2 ^ 64 - 1) }

-- the move is taken if its time is smaller than those before it
abbrev pub shown : Seeking → Move → Seeking
shown s mv = counted_move (if nat_lt (capped s.clock mv) s.time then record s { place = s.shown; time = capped s.clock mv; move = mv } else s)

-- before the first move
abbrev pub nothing : ClockedState → Seeking
nothing clock = record { clock = clock; shown = 0; place = 0; time = 2 ^ 64 - 1; move = Exit }
