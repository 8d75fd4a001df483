-- Refusals of texts as refusals of lines.
use Rattle.std.specs.Prelude.{Result, Ok, Err}
use Rattle.rv_text.specs.declared.text_err.TextErr.{TextErr}
use Rattle.rv_asm.specs.declared.refusal.AsmKind.{AsmKind}
use Rattle.rv_asm.specs.declared.refusal.AsmKind.TheVariants.{Text}

-- a refusal of a text is a refusal of the line
abbrev pub as_text : {A : Type 0} → Result A TextErr → Result A AsmKind
as_text (Ok a) = Ok a
as_text (Err e) = Err (Text e)
