use Rattle.elf_view.proofs.Lists.{all_left}
use Rattle.elf_view.specs.Segments.{IsSoundSegment}
use Rattle.elf_view.proofs.segments.SegmentsIterator.next.Goals as goal

pub invariant_of-self : goal.invariant_of-self
invariant_of-self c = record { sound = all_left (IsSoundSegment c.args.self.now.file.now) c.next_load.result _ _ c.next_load.ensures c.args.self.now.sound }
