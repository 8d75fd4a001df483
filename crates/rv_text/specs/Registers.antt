-- How a register is spelled: by its number, or by its name in the calling convention (RISC-V Assembly Programmer's
-- Manual, "Register Names").
use Rattle.std.specs.Prelude.{ℕ, ◌&&◌, Option, Some, None, List, [], ◌∷◌, length, drop, codes, nat_eq, nat_lt, if◌then◌else◌}
use Rattle.std.specs.List.{starts_with}
use Rattle.rv_text.specs.Numbers.{numeral}
use Rattle.rv_text.specs.Tables.{look_up}

-- each register's name in the calling convention, and its number; x8 has two names
abbrev pub usual_names : List (List ℕ × ℕ)
usual_names =
    (codes "zero", 0) ∷ (codes "ra", 1) ∷ (codes "sp", 2) ∷ (codes "gp", 3) ∷ (codes "tp", 4)
    ∷ (codes "t0", 5) ∷ (codes "t1", 6) ∷ (codes "t2", 7)
    ∷ (codes "s0", 8) ∷ (codes "fp", 8) ∷ (codes "s1", 9)
    ∷ (codes "a0", 10) ∷ (codes "a1", 11) ∷ (codes "a2", 12) ∷ (codes "a3", 13)
    ∷ (codes "a4", 14) ∷ (codes "a5", 15) ∷ (codes "a6", 16) ∷ (codes "a7", 17)
    ∷ (codes "s2", 18) ∷ (codes "s3", 19) ∷ (codes "s4", 20) ∷ (codes "s5", 21) ∷ (codes "s6", 22)
    ∷ (codes "s7", 23) ∷ (codes "s8", 24) ∷ (codes "s9", 25) ∷ (codes "s10", 26) ∷ (codes "s11", 27)
    ∷ (codes "t3", 28) ∷ (codes "t4", 29) ∷ (codes "t5", 30) ∷ (codes "t6", 31) ∷ []

-- a number, if it is a register's
abbrev pub register_only : Option ℕ → Option ℕ
register_only None = None
register_only (Some n) = if nat_lt n 32 then Some n else None

-- one or two digits without a leading zero: the register with that number
unfoldable pub register_numbered : List ℕ → Option ℕ
register_numbered digits =
    if starts_with nat_eq digits (codes "0") && nat_lt 1 (length digits) then None
    else register_only (numeral 10 2 digits)

-- the same, with one leading zero allowed
unfoldable pub register_padded : List ℕ → Option ℕ
register_padded digits =
    if starts_with nat_eq digits (codes "0") && nat_lt 1 (length digits)
    then register_numbered (drop 1 digits)
    else register_numbered digits

-- the register that a word spells: `x` and its number, or its usual name
unfoldable pub register_of : List ℕ → Option ℕ
register_of word =
    if starts_with nat_eq word (codes "x") then register_padded (drop 1 word)
    else look_up usual_names word
