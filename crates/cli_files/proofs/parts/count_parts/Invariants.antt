use Rattle.std.proofs.Common.{◌≡◌, ◌≤◌, ◌+◌, ◌-◌, ◌^◌, length}
use Rattle.std.specs.Prelude.{min}
use Rattle.elf_view.specs.Left.{segments_left}
use Rattle.cli_files.specs.Image.{parts_of_segments}
use Rattle.cli_files.proofs.parts.count_parts.Given as goal

-- the parts counted so far and those that are left make the whole number
abbrev pub invariant-loop-segment : goal.invariant-loop-segment
invariant-loop-segment l = record {
  whole : min (l.count + length (parts_of_segments (segments_left l.segment-iterator)))
      (2 ^ 32 - 1)
      ≡ min (1 + length (parts_of_segments (segments_left l.initial.segment-iterator)))
      (2 ^ 32 - 1);
  fits : l.count ≤ 2 ^ 32 - 1;
}
