-- Bit words, with one bit for each stage: bit i - 1 is for stage i.
use Rattle.std.specs.Prelude.{ℕ, zero, suc, ◌+◌, ◌*◌, ◌^◌, List, Bool, true, false, length}
use Rattle.std.specs.Int.{bit_not, w32}
use Rattle.std.specs.Int.RustNames.{bit_and, bit_or}
use Rattle.cf_bind.specs.declared.cell.Cell.{Cell}
use Rattle.cf_semantics.specs.state.Options.{on, is_some}
use Rattle.cf_semantics.specs.state.State.{cell_at}

-- 1 if the test holds
abbrev pub flag : Bool → ℕ
flag true = 1
flag false = 0

-- the word for n stages that has the bit of a stage if and only if the test holds there
unfoldable pub word_of : (ℕ → Bool) → ℕ → ℕ
word_of test zero = 0
word_of test (suc n) = flag (test (suc n)) * 2 ^ n + word_of test n

-- the word with a bit set, or not set
unfoldable pub with_bit : ℕ → ℕ → Bool → ℕ
with_bit word k true = bit_or word (2 ^ k)
with_bit word k false = bit_and word (bit_not w32 (2 ^ k))

-- the word that has the bit of a stage if and only if its contents pass the test
abbrev pub word_where : (Cell → Bool) → List Cell → ℕ
word_where test cells = word_of (λ i. on (cell_at cells i) false test) (length cells)

-- the words of the stages where an instruction is, where a result is, and where the two have met
abbrev pub passenger_word : List Cell → ℕ
passenger_word cells = word_where (λ c. is_some c.passenger) cells

abbrev pub packet_word : List Cell → ℕ
packet_word cells = word_where (λ c. is_some c.packet) cells

abbrev pub met_word : List Cell → ℕ
met_word cells = word_where (λ c. c.met) cells
