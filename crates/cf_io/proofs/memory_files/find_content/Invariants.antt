use Rattle.std.proofs.Common.{◌≡◌, drop, map}
use Rattle.cf_io.specs.NamedFiles.{content_of, entry_of}
use Rattle.cf_io.proofs.memory_files.find_content.Given as goal

abbrev pub invariant-loop-file : goal.invariant-loop-file
invariant-loop-file l =
    content_of (map entry_of (drop l.file-index l.files)) l.name
    ≡ content_of (map entry_of l.files) l.name
