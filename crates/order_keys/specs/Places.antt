-- Mostly empty places as bytes: how many there are, and before each value the number of empty ones that precede it.
use Rattle.std.specs.Prelude.{ℕ, zero, suc, ◌==◌, if◌then◌else◌, Option, None, Some, List, [], ◌∷◌, ◌++◌, length, map}
use Rattle.cf_semantics.specs.state.Options.{on}
use Rattle.order_keys.specs.Unpacked.{Unpacked, got, as_read}
use Rattle.order_keys.specs.Numbers.{packed_word, unpacked_word, packed_long, unpacked_long}

-- the places after this many empty ones
unfoldable pub packed_runs : ℕ → List (Option ℕ) → List ℕ
packed_runs empty [] = packed_long empty
packed_runs empty (None ∷ places) = packed_runs (suc empty) places
packed_runs empty (Some value ∷ places) = packed_long empty ++ (packed_word value ++ packed_runs 0 places)

unfoldable pub packed_places : List (Option ℕ) → List ℕ
packed_places places = packed_long (length places) ++ packed_runs 0 places

-- the contents of a place, how many empty places follow before the next value, and the bytes that are left
pub record PlaceRead : Type 0 where
  pub value : Option ℕ
  pub empty : ℕ
  pub left : List ℕ

-- the next place, after this many empty ones
unfoldable pub next_place : ℕ → List ℕ → PlaceRead
next_place zero bs =
    let value = unpacked_word bs in
    let empty = unpacked_long value.left in
    record { value = Some value.value; empty = empty.value; left = empty.left }
next_place (suc empty) bs = record { value = None; empty = empty; left = bs }

-- this many places, after this many empty ones
unfoldable pub unpacked_runs : ℕ → ℕ → List ℕ → Unpacked (List (Option ℕ))
unpacked_runs zero empty bs = got [] bs
unpacked_runs (suc n) empty bs =
    let first = next_place empty bs in
    let others = unpacked_runs n first.empty first.left in
    got (first.value ∷ others.value) others.left

unfoldable pub unpacked_places : List ℕ → Unpacked (List (Option ℕ))
unpacked_places bs =
    let count = unpacked_long bs in
    let empty = unpacked_long count.left in
    unpacked_runs count.value empty.value empty.left

-- a register as a place, which is empty if the value is 0
abbrev pub register_place : ℕ → Option ℕ
register_place n = if n == 0 then None else Some n

-- the value of a register that was read as a place
abbrev pub held_in : Option ℕ → ℕ
held_in place = on place 0 (λ n. n)

-- the register file
unfoldable pub packed_registers : List ℕ → List ℕ
packed_registers regs = packed_places (map register_place regs)

unfoldable pub unpacked_registers : List ℕ → Unpacked (List ℕ)
unpacked_registers bs = as_read (map held_in) (unpacked_places bs)
