-- The meaning of an item that was read.
use Rattle.std.specs.Prelude.{◌≡◌, ◌≤◌, [], length, Result, Ok, Err, MatchResult, unwrap_or, IsSome}
use Rattle.rv_inst.specs.Ranges.{Fits, IsRegister}
use Rattle.rv_text.specs.declared.statement.Jump.{Jump}
use Rattle.rv_text.specs.declared.statement.Jump.TheVariants as jump
use Rattle.rv_asm.specs.declared.item.Far.{Far}
use Rattle.rv_asm.specs.declared.item.Far.TheVariants as far
use Rattle.rv_asm.specs.declared.item.SourceItem.{SourceItem as Read}
use Rattle.rv_asm.specs.declared.item.SourceItem.TheVariants as read
use Rattle.rv_asm.specs.Strings.{string_of}
use Rattle.rv_asm.specs.Operands.{operand_texts}
use Rattle.rv_asm.specs.Items.{SourceItem, Nothing, Section, Export, Single, Double, Near, Distant, Numbers, Chars, Zeros}

-- an item with the texts that it contains
abbrev pub item_view : Read → SourceItem
item_view read.Nothing = Nothing
item_view (read.Section in_text) = Section in_text
item_view (read.Export name) = Export name.now
item_view (read.Single i) = Single i
item_view (read.Double i j) = Double i j
item_view (read.Near jump label) = Near jump label.now
item_view (read.Distant f label) = Distant f label.now
item_view (read.Numbers width text) = Numbers width (operand_texts text.now)
item_view (read.Chars text zero) = Chars (unwrap_or (string_of text.now) []) zero
item_view (read.Zeros count) = Zeros count

-- the result is this answer
abbrev pub ReadsItem : {E : Type 0} → Result Read E → Result SourceItem E → Type 0
ReadsItem result answer = MatchResult result (λ item. answer ≡ Ok (item_view item)) (λ e. answer ≡ Err e)

-- the registers of a jump or a branch
abbrev pub JumpFits : Jump → Type 0
JumpFits (jump.Link rd) = IsRegister rd
JumpFits (jump.Branch c rs1 rs2) = IsRegister rs1 × IsRegister rs2

abbrev pub FarFits : Far → Type 0
FarFits (far.Address rd) = IsRegister rd
FarFits far.Call = Unit {0}

-- the fields of an instruction are in range, the text of a string is a string, and texts and zeros are at most as long
-- as a source may be
abbrev pub IsSoundStatement : Read → Type 0
IsSoundStatement (read.Single i) = Fits i
IsSoundStatement (read.Double i j) = Fits i × Fits j
IsSoundStatement (read.Near jump label) = JumpFits jump
IsSoundStatement (read.Distant f label) = FarFits f
IsSoundStatement (read.Numbers width text) = length text.now ≤ 1048576
IsSoundStatement (read.Chars text zero) = (length text.now ≤ 1048576) × IsSome (string_of text.now)
IsSoundStatement (read.Zeros count) = count ≤ 1048576
IsSoundStatement _ = Unit {0}
