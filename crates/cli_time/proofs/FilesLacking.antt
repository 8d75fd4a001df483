-- The first of the files of `time` that is missing.
use Rattle.std.proofs.Common.{ℕ, List, Option, inl, inr}
use Rattle.cf_io.specs.Reads.{FilesSeen}
use Rattle.cli_files.specs.declared.status.Status.{Status}
use Rattle.cli_time.specs.Asked.{TimeFiles}
use Rattle.cli_time.specs.Reading.{LacksTimeFile, LacksDelaysOrLayouts}

-- it is one of the delays and the layouts
pub lacks-laid : (asked : TimeFiles) (before after : Option FilesSeen) (answer : Status) (report : List ℕ) →
    LacksDelaysOrLayouts asked.delays asked.layouts before after answer report → LacksTimeFile asked before after answer report
lacks-laid asked before after answer report (inl h) = inl h
lacks-laid asked before after answer report (inr h) = inr (inl h)
