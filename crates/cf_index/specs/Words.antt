-- What the words of a processor say of the moves at a stage, bit by bit: bit k is for stage k + 1.
use Rattle.std.specs.Prelude.{ℕ, ◌+◌, ◌-◌, Bool, ◌&&◌, not, nat_lt}
use Rattle.cf_layout.specs.Words.{has_bit}
use Rattle.cf_semantics.specs.state.Options.{is_some}
use Rattle.cf_semantics.specs.state.State.{State}
use Rattle.cf_core.specs.declared.masks.Masks.{Masks}

-- both are there, and have not met
abbrev pub full_bit : Masks → ℕ → Bool
full_bit m k = has_bit m.passengers k && (has_bit m.packets k && not (has_bit m.met k))

-- the instruction can climb, with n the number of stages: the stage is not full, the instruction owes nothing and does
-- not stop here, and the stage above exists and has no instruction
abbrev pub climb_bit : Masks → ℕ → ℕ → Bool
climb_bit m n k = has_bit m.passengers k && (not (full_bit m k) && (not (has_bit m.owes k)
    && (not (has_bit m.stops k) && (not (has_bit m.passengers (k + 1)) && nat_lt (k + 1) n))))

-- the result can fall: the stage is not full, and the one below exists and has no result
abbrev pub fall_bit : Masks → ℕ → Bool
fall_bit m k = has_bit m.packets k && (not (full_bit m k) && (nat_lt 0 k && not (has_bit m.packets (k - 1))))

-- the instruction owes something that can be sent: the stage has no result
abbrev pub send_bit : Masks → ℕ → Bool
send_bit m k = has_bit m.owes k && not (has_bit m.packets k)

-- the program has not ended, and neither the input nor the output has failed
abbrev pub goes_on : State → Bool
goes_on s = not (is_some s.ending) && not s.failed
