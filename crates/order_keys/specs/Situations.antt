-- States as bytes, all but the memory.
use Rattle.std.specs.Prelude.{◌≡◌, ℕ, ◌≤◌, Option, false, List, length}
use Rattle.cf_bind.specs.declared.cell.Cell.{Cell}
use Rattle.cf_bind.specs.declared.cell.Op.{Op}
use Rattle.cf_bind.specs.declared.packet.Fetch.{Fetch}
use Rattle.cf_bind.specs.declared.passenger.End.{End}
use Rattle.cf_semantics.specs.state.State.{State}
use Rattle.order_model.specs.Situations.{no_memory}
use Rattle.order_keys.specs.Unpacked.{Unpacked, as_read}
use Rattle.order_keys.specs.Numbers.{packed_byte, unpacked_byte, packed_long, unpacked_long}
use Rattle.order_keys.specs.Compounds.{packed_pair, unpacked_pair, packed_triple, unpacked_triple, packed_option, unpacked_option}
use Rattle.order_keys.specs.Lists.{packed_list, unpacked_list}
use Rattle.order_keys.specs.Places.{packed_places, unpacked_places, packed_registers, unpacked_registers}
use Rattle.order_keys.specs.Results.{packed_fetch, unpacked_fetch}
use Rattle.order_keys.specs.Passengers.{packed_end, unpacked_end}
use Rattle.order_keys.specs.Cells.{packed_cell, unpacked_cell, packed_op, unpacked_op}

-- the cells of each siding
unfoldable pub packed_sidings : List (List (Option Op)) → List ℕ
packed_sidings sidings = packed_list (packed_list (packed_option packed_op)) sidings

unfoldable pub unpacked_sidings : List ℕ → Unpacked (List (List (Option Op)))
unpacked_sidings bs = unpacked_list (unpacked_list (unpacked_option unpacked_op)) bs

-- the stages, the sidings and the lane
abbrev pub pipes_of : State → List Cell × List (List (Option Op)) × List ℕ
pipes_of s = (s.cells, s.sidings, s.lane)

unfoldable pub packed_pipes : List Cell × List (List (Option Op)) × List ℕ → List ℕ
packed_pipes x = packed_triple (packed_list packed_cell) packed_sidings (packed_list packed_byte) x

unfoldable pub unpacked_pipes : List ℕ → Unpacked (List Cell × List (List (Option Op)) × List ℕ)
unpacked_pipes bs = unpacked_triple (unpacked_list unpacked_cell) unpacked_sidings (unpacked_list unpacked_byte) bs

-- the state of fetch, the cache, and the registers
abbrev pub fetching_of : State → Fetch × List (Option ℕ) × List ℕ
fetching_of s = (s.fetch, s.cache, s.regs)

unfoldable pub packed_fetching : Fetch × List (Option ℕ) × List ℕ → List ℕ
packed_fetching x = packed_triple packed_fetch packed_places packed_registers x

unfoldable pub unpacked_fetching : List ℕ → Unpacked (Fetch × List (Option ℕ) × List ℕ)
unpacked_fetching bs = unpacked_triple unpacked_fetch unpacked_places unpacked_registers bs

-- there are as many places in the cache and in the register file as there are registers
abbrev pub HasRegisters : Fetch × List (Option ℕ) × List ℕ → Type 0
HasRegisters x = (length x.1 ≡ 32) × (length x.2 ≡ 32)

-- how many instructions have retired, and how the program ended
abbrev pub past_of : State → ℕ × Option End
past_of s = (s.retired, s.ending)

unfoldable pub packed_past : ℕ × Option End → List ℕ
packed_past x = packed_pair packed_long (packed_option packed_end) x

unfoldable pub unpacked_past : List ℕ → Unpacked (ℕ × Option End)
unpacked_past bs = unpacked_pair unpacked_long (unpacked_option unpacked_end) bs

unfoldable pub packed_situation : State → List ℕ
packed_situation s = packed_triple packed_pipes packed_fetching packed_past (pipes_of s, fetching_of s, past_of s)

-- the state with these parts, without a memory
abbrev pub situation_of : List Cell × List (List (Option Op)) × List ℕ → Fetch × List (Option ℕ) × List ℕ → ℕ × Option End → State
situation_of pipes fetching past = record {
  cells = pipes.0;
  sidings = pipes.1;
  lane = pipes.2;
  fetch = fetching.0;
  cache = fetching.1;
  regs = fetching.2;
  mem = no_memory;
  retired = past.0;
  ending = past.1;
  failed = false;
}

unfoldable pub unpacked_situation : List ℕ → Unpacked State
unpacked_situation bs = as_read (λ x. situation_of x.0 x.1 x.2) (unpacked_triple unpacked_pipes unpacked_fetching unpacked_past bs)

-- the state without its memory
abbrev pub without_memory : State → State
without_memory s = record s { mem = no_memory; failed = false }

-- at most 64 requests, and as many places in the cache and in the register file as there are registers
abbrev pub IsWhole : State → Type 0
IsWhole s = (length s.lane ≤ 64) × (length s.cache ≡ 32) × (length s.regs ≡ 32)
