use Rattle.std.proofs.Common.{◌≡◌, map, take}
use Rattle.std.specs.Prelude.{string_bytes, vec_items}
use Rattle.cli_arguments.specs.Arguments.{layout_in}
use Rattle.cli_time.specs.LayoutFiles.{AreLayoutsAt}
use Rattle.cli_time.proofs.layout_files.layouts_at.Given as goal

-- the layouts so far are those of the first arguments, and no file failed
abbrev pub invariant-loop-place : goal.invariant-loop-place
invariant-loop-place g l =
    AreLayoutsAt (take l.place (map layout_in (map string_bytes l.arguments))) (g.F.Files.told l.initial.files) (g.F.Files.told l.files) (vec_items l.layouts)
    × (g.F.Files.faults l.files ≡ g.F.Files.faults l.initial.files)
