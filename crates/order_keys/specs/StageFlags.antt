-- What is in a stage, as the bits of one byte.
use Rattle.std.specs.Prelude.{ℕ, ◌+◌, List, [], ◌∷◌}
use Rattle.order_keys.specs.declared.stage_flags.StageFlags.{StageFlags}
use Rattle.order_keys.specs.Unpacked.{Unpacked, got}
use Rattle.order_keys.specs.Numbers.{leading_byte, behind}
use Rattle.order_keys.specs.Bits.{bit, is_set}

unfoldable pub packed_stage_flags : StageFlags → List ℕ
packed_stage_flags f = (bit 1 f.instruction + bit 2 f.result + bit 4 f.met) ∷ []

-- what the bits of a byte say of a stage
abbrev pub stage_flags_in : ℕ → StageFlags
stage_flags_in bits = record { instruction = is_set 1 bits; result = is_set 2 bits; met = is_set 4 bits }

unfoldable pub unpacked_stage_flags : List ℕ → Unpacked StageFlags
unpacked_stage_flags bs = got (stage_flags_in (leading_byte bs)) (behind bs)
