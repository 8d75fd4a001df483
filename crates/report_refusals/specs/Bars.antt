-- The bars of moves, as reports name them (a format of this project).
use Rattle.std.specs.Prelude.{ℕ, List, [], ◌++◌, codes}
use Rattle.cf_bind.specs.declared.moves.Bar.{Bar}
use Rattle.cf_bind.specs.declared.moves.Bar.TheVariants as bar
use Rattle.texts.specs.Lines.{register_name}

-- a bar: its name, and after a space the register of a source without a value
unfoldable pub bar_text : Bar → List ℕ
bar_text bar.Halted = codes "Halted"
bar_text bar.Failed = codes "Failed"
bar_text bar.NoSuchSite = codes "NoSuchSite"
bar_text bar.NoPassenger = codes "NoPassenger"
bar_text bar.NoPacket = codes "NoPacket"
bar_text bar.Occupied = codes "Occupied"
bar_text bar.NotMet = codes "NotMet"
bar_text bar.AlreadyMet = codes "AlreadyMet"
bar_text (bar.SourceMissing r) = codes "SourceMissing " ++ register_name r
bar_text bar.NoUnit = codes "NoUnit"
bar_text bar.NotDone = codes "NotDone"
bar_text bar.Owes = codes "Owes"
bar_text bar.OwesNothing = codes "OwesNothing"
bar_text bar.OpNotThere = codes "OpNotThere"
bar_text bar.LaneFull = codes "LaneFull"
bar_text bar.LaneEmpty = codes "LaneEmpty"
bar_text bar.FetchWaiting = codes "FetchWaiting"
bar_text bar.BadGuess = codes "BadGuess"
bar_text bar.Dead = codes "Dead"
bar_text bar.AlreadyDone = codes "AlreadyDone"

-- the register of a source without a value, with which the text of a bar ends
abbrev pub source_text : Bar → List ℕ
source_text (bar.SourceMissing r) = register_name r
source_text b = []
