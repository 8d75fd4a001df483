-- A program whose bytes were read and opened.
use Rattle.std.proofs.Common.{ℕ, ◌+◌, List, Option, refl}
use Rattle.cf_io.specs.Reads.{FilesSeen}
use Rattle.cli_files.specs.Files.{IsFrontOf}
use Rattle.cli_files.specs.Image.{most_bytes, IsProgramFile, hart_at_start}
use Rattle.cli_files.specs.Programs.{IsProgramAt}

pub program-read : (before after : Option FilesSeen) (name image : List ℕ) →
    IsFrontOf (most_bytes + 1) before after name image → IsProgramFile image → IsProgramAt name before after (hart_at_start image)
program-read before after name image front program =
    record { image = image; front = front; program = program; begins = refl }
