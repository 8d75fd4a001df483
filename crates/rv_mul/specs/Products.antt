-- The results of multiplication and division (RISC-V Unprivileged ISA Manual, "M" Extension for Integer Multiplication
-- and Division).
use Rattle.std.specs.Prelude.{ℕ, ◌-◌, ◌^◌, ◌<◌, ◌≡◌, ◌⊎◌, ℤ, pos, ◌+ℤ◌, ◌*ℤ◌, unsigned_abs, int_div, int_rem, ◌==◌, if◌then◌else◌}
use Rattle.std.specs.Int.{int_div_euclid, int_rem_euclid, is_negative}
use Rattle.rv_inst.specs.declared.instruction.MulOp.{MulOp}
use Rattle.rv_inst.specs.declared.instruction.MulOp.TheVariants as mulop
use Rattle.rv_inst.specs.Words.{signed}

-- an integer modulo 2 ^ 32
unfoldable pub lower_word : ℤ → ℕ
lower_word z = unsigned_abs (int_rem_euclid z (pos (2 ^ 32)))

-- an integer divided by 2 ^ 32 and rounded down, modulo 2 ^ 32
unfoldable pub upper_word : ℤ → ℕ
upper_word z = lower_word (int_div_euclid z (pos (2 ^ 32)))

-- x divided by y is q with remainder r: x is q times y plus r, r is smaller than y in magnitude, and r is 0 or has the
-- sign of x
pub record Divides (x y q r : ℤ) : Type 0 where
  pub whole : x ≡ q *ℤ y +ℤ r
  pub small : unsigned_abs r < unsigned_abs y
  pub signs : (r ≡ pos 0) ⊎ (is_negative r ≡ is_negative x)

-- the quotient, rounded toward zero: the q of `Divides`
abbrev pub quotient : ℤ → ℤ → ℤ
quotient x y = int_div x y

-- the remainder of that quotient: the r of `Divides`
abbrev pub remainder : ℤ → ℤ → ℤ
remainder x y = int_rem x y

-- the result of an operation on the words a and b: MULH, DIV and REM read both as signed numbers, MULHSU only the
-- first, the others neither; a quotient by 0 is 2 ^ 32 - 1, and a remainder by 0 is a
unfoldable pub product_of : MulOp → ℕ → ℕ → ℕ
product_of mulop.Mul a b = lower_word (pos a *ℤ pos b)
product_of mulop.Mulh a b = upper_word (signed a *ℤ signed b)
product_of mulop.Mulhsu a b = upper_word (signed a *ℤ pos b)
product_of mulop.Mulhu a b = upper_word (pos a *ℤ pos b)
product_of mulop.Div a b = if b == 0 then 2 ^ 32 - 1 else lower_word (quotient (signed a) (signed b))
product_of mulop.Divu a b = if b == 0 then 2 ^ 32 - 1 else lower_word (quotient (pos a) (pos b))
product_of mulop.Rem a b = if b == 0 then a else lower_word (remainder (signed a) (signed b))
product_of mulop.Remu a b = if b == 0 then a else lower_word (remainder (pos a) (pos b))
