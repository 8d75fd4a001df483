-- The lines of the answers that several commands give (a format of this project).
use Rattle.std.specs.Prelude.{ℕ, List, codes}
use Rattle.texts.specs.Lines.{line}
use Rattle.cli_files.specs.declared.status.Which.{Which}
use Rattle.cli_files.specs.declared.status.Which.TheVariants as which

-- the line that says what could not be read
abbrev pub unread_line : Which → List ℕ
unread_line which.Layout = line (codes "read fault layout")
unread_line which.Program = line (codes "read fault program")
unread_line which.Script = line (codes "read fault script")
unread_line which.Source = line (codes "read fault source")
unread_line which.Delays = line (codes "read fault delays")
unread_line which.Trace = line (codes "read fault trace")
unread_line which.Input = line (codes "read fault input")
