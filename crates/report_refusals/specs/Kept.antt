-- The text of a value that a refusal keeps.
use Rattle.std.specs.Prelude.{ℕ, List, decimal}
use Rattle.std.specs.Fmt.{signed_decimal}
use Rattle.layout_file.specs.Names.{class_name}
use Rattle.report_refusals.specs.declared.kept.KeptValue.{KeptValue}
use Rattle.report_refusals.specs.declared.kept.KeptValue.TheVariants as kept

-- a class by its name, a number in decimal
abbrev pub kept_text : KeptValue → List ℕ
kept_text (kept.Class c) = class_name c
kept_text (kept.Number n) = decimal n
kept_text (kept.Integer z) = signed_decimal z
