-- The meaning of a statement, before the labels' values are known.
use Rattle.std.specs.Prelude.{ℕ, ◌+◌, ◌*◌, Bool, true, false, List, length, if◌then◌else◌}
use Rattle.rv_inst.specs.declared.instruction.Instr.{Instr}
use Rattle.rv_text.specs.declared.statement.Jump.{Jump}
use Rattle.rv_asm.specs.declared.operations.Width.{Width}
use Rattle.rv_asm.specs.declared.item.Far.{Far}
use Rattle.rv_asm.specs.Operands.{bytes_of_width}

-- nothing; a switch to the text section or to the data section; a name that is exported; one or two instructions; a
-- jump or a branch to a label; the address of a label, or a call to it, in two instructions; numbers, which may be
-- labels if they are words; a string, and whether a zero follows; this many zeros
pub data SourceItem : Type 0 where
  Nothing : SourceItem
  Section : (in_text : Bool) → SourceItem
  Export : (name : List ℕ) → SourceItem
  Single : Instr → SourceItem
  Double : Instr → Instr → SourceItem
  Near : Jump → (label : List ℕ) → SourceItem
  Distant : Far → (label : List ℕ) → SourceItem
  Numbers : Width → List (List ℕ) → SourceItem
  Chars : (bytes : List ℕ) → (zero : Bool) → SourceItem
  Zeros : ℕ → SourceItem

-- how many bytes it places
abbrev pub size_of : SourceItem → ℕ
size_of Nothing = 0
size_of (Section in_text) = 0
size_of (Export name) = 0
size_of (Single i) = 4
size_of (Double i j) = 8
size_of (Near jump label) = 4
size_of (Distant far label) = 8
size_of (Numbers width operands) = bytes_of_width width * length operands
size_of (Chars bytes zero) = length bytes + (if zero then 1 else 0)
size_of (Zeros count) = count

-- it places instructions
abbrev pub is_code : SourceItem → Bool
is_code (Single i) = true
is_code (Double i j) = true
is_code (Near jump label) = true
is_code (Distant far label) = true
is_code _ = false
