-- What follows the report of a run.
use Rattle.std.specs.Prelude.{ℕ, List, []}
use Rattle.report_closing.specs.Moves.{moves_text}
use Rattle.cf_core.specs.Processors.{Processor}
use Rattle.cli_files.specs.declared.status.Status.{Status}
use Rattle.cli_files.specs.declared.status.Status.TheVariants as status
use Rattle.cli_run.specs.declared.tail.Tail.{Tail}
use Rattle.cli_run.specs.declared.tail.Tail.TheVariants as tail

-- under `moves`, if the script has no further move, which moves can be made; otherwise nothing
abbrev pub tail_text : Tail → Status → Processor → List ℕ
tail_text tail.Moves (status.ScriptEnd moves) last = moves_text last.plan last.state
tail_text tail.Moves answer last = []
tail_text tail.Nothing answer last = []
