-- The contents of a stage, and of a cell of a siding, as bytes.
use Rattle.std.specs.Prelude.{ℕ, Bool, false, not, ◌&&◌, Option, None, List, ◌++◌}
use Rattle.rv_inst.specs.declared.instruction.Instr.{Instr}
use Rattle.cf_bind.specs.declared.cell.Cell.{Cell}
use Rattle.cf_bind.specs.declared.cell.Op.{Op}
use Rattle.cf_semantics.specs.state.Options.{is_some}
use Rattle.order_keys.specs.declared.stage_flags.StageFlags.{StageFlags}
use Rattle.order_keys.specs.Unpacked.{Unpacked, got}
use Rattle.order_keys.specs.Numbers.{packed_word, unpacked_word}
use Rattle.order_keys.specs.Compounds.{packed_pair, unpacked_pair, packed_triple, unpacked_triple, packed_option, unpacked_option, packed_some, unpacked_some}
use Rattle.order_keys.specs.Instructions.{packed_instr, unpacked_instr}
use Rattle.order_keys.specs.Results.{packed_packet, unpacked_packet}
use Rattle.order_keys.specs.Passengers.{packed_passenger, unpacked_passenger}
use Rattle.order_keys.specs.StageFlags.{packed_stage_flags, unpacked_stage_flags}

-- the stage is empty: no instruction, no result, and the flag for a meeting not set
abbrev pub is_empty_stage : Cell → Bool
is_empty_stage c = not (is_some c.passenger) && not (is_some c.packet) && not c.met

abbrev pub empty_cell : Cell
empty_cell = record { passenger = None; packet = None; met = false }

-- which of the two are in the stage, and whether they have met
abbrev pub stage_flags_of : Cell → StageFlags
stage_flags_of c = record { instruction = is_some c.passenger; result = is_some c.packet; met = c.met }

-- the byte that says what is in the stage, then the instruction, then the result; an empty stage is the byte 0
unfoldable pub packed_cell : Cell → List ℕ
packed_cell c =
    packed_stage_flags (stage_flags_of c) ++ (packed_some packed_passenger c.passenger ++ packed_some packed_packet c.packet)

unfoldable pub unpacked_cell : List ℕ → Unpacked Cell
unpacked_cell bs =
    let flags = unpacked_stage_flags bs in
    let passenger = unpacked_some unpacked_passenger flags.value.instruction flags.left in
    let packet = unpacked_some unpacked_packet flags.value.result passenger.left in
    got (record { passenger = passenger.value; packet = packet.value; met = flags.value.met }) packet.left

-- the address and the instruction of an operation
abbrev pub packed_source : ℕ × Instr → List ℕ
packed_source = packed_pair packed_word packed_instr

abbrev pub unpacked_source : List ℕ → Unpacked (ℕ × Instr)
unpacked_source = unpacked_pair unpacked_word unpacked_instr

-- the values of its two sources, and its answer if it has one
abbrev pub packed_values : ℕ × ℕ × Option ℕ → List ℕ
packed_values = packed_triple packed_word packed_word (packed_option packed_word)

abbrev pub unpacked_values : List ℕ → Unpacked (ℕ × ℕ × Option ℕ)
unpacked_values = unpacked_triple unpacked_word unpacked_word (unpacked_option unpacked_word)

unfoldable pub packed_op : Op → List ℕ
packed_op o = packed_source (o.pc, o.instr) ++ packed_values (o.a, o.b, o.answer)

abbrev pub op_of : ℕ × Instr → ℕ × ℕ × Option ℕ → Op
op_of source values = record { pc = source.0; instr = source.1; a = values.0; b = values.1; answer = values.2 }

unfoldable pub unpacked_op : List ℕ → Unpacked Op
unpacked_op bs =
    let source = unpacked_source bs in
    let values = unpacked_values source.left in
    got (op_of source.value values.value) values.left
