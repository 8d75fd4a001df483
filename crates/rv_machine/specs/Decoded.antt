-- What is at an address of memory, and what a cache may store of it (RISC-V Unprivileged ISA Manual, "Zifencei"
-- Extension for Instruction-Fetch Fence: stores need not be seen by fetches).
use Rattle.std.specs.Prelude.{◌≡◌, ◌<◌, ◌≤◌, ◌^◌, ◌/◌, ◌%◌, ◌==◌, ℕ, List, slice_index_or, Bool, true, false, if◌then◌else◌, Option, Some, None, Result, Ok, Err}
use Rattle.std.specs.List.{All}
use Rattle.mem_regions.specs.Memory.{Memory}
use Rattle.mem_regions.specs.Fetching.{fetch_at}
use Rattle.mem_regions.specs.declared.MemErr.{MemErr}
use Rattle.mem_regions.specs.declared.MemErr.TheVariants.{Misaligned, NoAccess}
use Rattle.rv_inst.specs.declared.isa.Isa.{Isa}
use Rattle.rv_inst.specs.declared.isa.Isa.TheVariants.{Rv32i, Rv32im}
use Rattle.rv_inst.specs.declared.instruction.Instr.{Instr}
use Rattle.rv_inst.specs.declared.instruction.Instr.TheVariants.{Lui}
use Rattle.rv_inst.specs.Decoding.{decoded_m}
use Rattle.rv_inst.specs.Encoding.{is_base}
use Rattle.rv_machine.specs.declared.outcome.Stepped.{Stepped}
use Rattle.rv_machine.specs.declared.outcome.Stepped.TheVariants as stepped
use Rattle.rv_machine.specs.declared.decode_cache.Found.{Found}
use Rattle.rv_machine.specs.declared.decode_cache.Found.TheVariants as found
use Rattle.rv_machine.specs.declared.decode_cache.Decoded.{Decoded}

-- the word, with the instruction that it encodes
abbrev pub found_as : ℕ → Option Instr → Found
found_as word None = found.Unknown word
found_as word (Some i) = found.Instruction word i

-- the word that was fetched
abbrev pub read_from : Result ℕ MemErr → Found
read_from (Ok word) = found_as word (decoded_m word)
read_from (Err NoAccess) = found.Nothing
read_from (Err Misaligned) = found.Misaligned

-- what is at the address
unfoldable pub found_at : Memory → ℕ → Found
found_at mem pc = read_from (fetch_at mem pc)

-- it is an instruction
abbrev pub is_instruction : Found → Bool
is_instruction (found.Instruction word i) = true
is_instruction (found.Unknown word) = false
is_instruction found.Nothing = false
is_instruction found.Misaligned = false

-- the trap if it is not an instruction
abbrev pub trap_of : ℕ → Found → Stepped
trap_of pc (found.Instruction word i) = stepped.Trap 2 pc word
trap_of pc (found.Unknown word) = stepped.Trap 2 pc word
trap_of pc found.Nothing = stepped.Trap 1 pc pc
trap_of pc found.Misaligned = stepped.Trap 0 pc pc

-- an instruction of the M extension, if the set has it
abbrev pub if_m : Isa → Instr → Option Instr
if_m Rv32i i = None
if_m Rv32im i = Some i

-- the instruction, if the set has it
unfoldable pub in_set : Isa → Instr → Option Instr
in_set isa i = if is_base i then Some i else if_m isa i

-- the address of an empty entry is beyond all others
abbrev pub IsEmpty : Decoded → Type 0
IsEmpty d = 2 ^ 32 ≤ d.address

-- what the entry stores for its address is what memory has there
abbrev pub IsKeptOf : Memory → Decoded → Type 0
IsKeptOf mem d = d.address < 2 ^ 32 → found_at mem d.address ≡ found.Instruction d.word d.instr

-- all that the cache stores is what memory has
unfoldable pub IsCacheOf : Memory → List Decoded → Type 0
IsCacheOf mem places = All (IsKeptOf mem) places

-- the index of an address in the cache
abbrev pub place_at : ℕ → ℕ
place_at pc = pc / 4 % 4096

-- the entry at an index out of range, which never occurs in a cache
abbrev pub nothing_kept : Decoded
nothing_kept = record { address = 0; word = 0; instr = Lui 0 0 }

-- the cache has the address
unfoldable pub cache_keeps : List Decoded → ℕ → Bool
cache_keeps places pc = (slice_index_or places (place_at pc) nothing_kept).address == pc
