use Rattle.std.proofs.Common.{◌≡◌, ◌≤◌, ◌++◌, length, take}
use Rattle.elf_view.specs.Left.{segments_left}
use Rattle.cli_files.specs.Image.{parts_of_segments}
use Rattle.cli_files.proofs.parts.parts_of.Given as goal

-- the parts that were kept and those that are left make the whole list
abbrev pub invariant-loop-segment : goal.invariant-loop-segment
invariant-loop-segment l = record {
  whole : take l.count l.parts ++ parts_of_segments (segments_left l.segment-iterator)
      ≡ parts_of_segments (segments_left l.initial.segment-iterator);
  size : length l.parts ≡ 16;
  kept : l.count ≤ 16;
}
