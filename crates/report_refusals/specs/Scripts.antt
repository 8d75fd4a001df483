-- Why a line of a script is not a move, as reports name it (a format of this project).
use Rattle.std.specs.Prelude.{ℕ, List, codes}
use Rattle.run_scripts.specs.declared.refusal.ScriptKind.{ScriptKind}
use Rattle.run_scripts.specs.declared.refusal.ScriptKind.TheVariants as script

-- why a line of a script is not a move: the name
unfoldable pub script_refusal : ScriptKind → List ℕ
script_refusal script.UnknownMove = codes "UnknownMove"
script_refusal script.BadNumber = codes "BadNumber"
script_refusal script.ExtraWords = codes "ExtraWords"
script_refusal script.NotAscii = codes "NotAscii"
