use Rattle.std.proofs.Common.{◌≡◌}
use Rattle.elf_view.specs.Segments.{loads_in}
use Rattle.elf_view.proofs.segments.Entries+ProgramHeader.next_load.Given as goal

-- no header that was skipped is that of a loaded segment
abbrev pub invariant-loop-header : goal.invariant-loop-header
invariant-loop-header l = record {
  can : (goal.iterator-loop-header).can_next l.self × (goal.iterator-loop-header).is_finite l.self;
  same : loads_in l.self.file.now l.self.at l.self.left
      ≡ loads_in l.initial.self.file.now l.initial.self.at l.initial.self.left;
}
