-- The report of an assembly source that is refused (a format of this project).
use Rattle.std.specs.Prelude.{ℕ, List, [], ◌∷◌, ◌++◌, codes, decimal}
use Rattle.std.specs.Fmt.{signed_decimal}
use Rattle.rv_text.specs.declared.text_err.TextErr.{TextErr}
use Rattle.rv_text.specs.declared.text_err.TextErr.TheVariants.{UnknownName, BadRegister, BadNumber, OutOfRange, WrongCount}
use Rattle.rv_asm.specs.declared.refusal.AsmErr.{AsmErr}
use Rattle.rv_asm.specs.declared.refusal.AsmKind.{AsmKind}
use Rattle.rv_asm.specs.declared.refusal.AsmKind.TheVariants.{Text, UnknownDirective, LabelTwice, NoLabel, TooFar, TooLarge, NotAscii, BadString, Misplaced, NoMemory}
use Rattle.texts.specs.Lines.{line}
use Rattle.report_refusals.specs.Variants.{variant}

-- why the text of an instruction is refused
unfoldable pub instruction_refusal : TextErr → List ℕ
instruction_refusal UnknownName = variant (codes "UnknownName") []
instruction_refusal BadRegister = variant (codes "BadRegister") []
instruction_refusal BadNumber = variant (codes "BadNumber") []
instruction_refusal (OutOfRange number) = variant (codes "OutOfRange") (signed_decimal number ∷ [])
instruction_refusal (WrongCount got wanted) = variant (codes "WrongCount") (decimal got ∷ decimal wanted ∷ [])

-- why a line of a source is refused
unfoldable pub source_refusal : AsmKind → List ℕ
source_refusal (Text error) = codes "Text " ++ instruction_refusal error
source_refusal UnknownDirective = variant (codes "UnknownDirective") []
source_refusal LabelTwice = variant (codes "LabelTwice") []
source_refusal NoLabel = variant (codes "NoLabel") []
source_refusal (TooFar distance) = variant (codes "TooFar") (signed_decimal distance ∷ [])
source_refusal (TooLarge len) = variant (codes "TooLarge") (decimal len ∷ [])
source_refusal NotAscii = variant (codes "NotAscii") []
source_refusal BadString = variant (codes "BadString") []
source_refusal Misplaced = variant (codes "Misplaced") []
source_refusal NoMemory = variant (codes "NoMemory") []

-- the report of a source that is refused
unfoldable pub bad_source : AsmErr → List ℕ
bad_source error = line (codes "bad source line " ++ decimal error.line ++ codes ": " ++ source_refusal error.kind)
