-- The ends of the two pipes: at the top the register file and the lane of requests, at the bottom fetch and the
-- register cache ("Counterflow Pipeline Processor Architecture", 1994).
use Rattle.std.specs.Prelude.{ℕ, List, [], Option, None, replicate, slice_set, slice_index}
use Rattle.cf_bind.specs.declared.packet.Fetch.{Fetch}
use Rattle.cf_bind.specs.declared.packet.Fetch.TheVariants.{Running}
use Rattle.cf_bind.specs.declared.packet.Packet.{Packet}
use Rattle.cf_bind.specs.declared.packet.Packet.TheVariants.{Value}

-- the register file; the requested registers, beginning with the one to be answered next, and the capacity of the lane;
-- what fetch does; and the cached value of each register, if there is one
pub record PipeEnds : Type 0 where
  pub regs : List ℕ
  pub lane : List ℕ
  pub room : ℕ
  pub fetch : Fetch
  pub cache : List (Option ℕ)

-- the ends of empty pipes: nothing is requested, fetch runs, and the cache is empty
abbrev pub fresh_ends : List ℕ → ℕ → ℕ → PipeEnds
fresh_ends regs pc room = record { regs = regs; lane = []; room = room; fetch = Running pc; cache = replicate 32 None }

-- the register file whose x0 is zero
abbrev pub with_zero : List ℕ → List ℕ
with_zero regs = slice_set regs 0 0

-- the register file's answer to a request
abbrev pub answer_to : List ℕ → ℕ → Packet
answer_to regs r = Value r (slice_index regs r)
