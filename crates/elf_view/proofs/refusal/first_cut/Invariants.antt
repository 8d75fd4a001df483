use Rattle.std.proofs.Common.{◌≡◌, ◌≤◌, ◌*◌, ◌+◌, ◌-◌}
use Rattle.std.specs.Prelude.{find}
use Rattle.elf_view.specs.Fields.{entry_offsets, ends_beyond}
use Rattle.elf_view.proofs.refusal.first_cut.Given as goal

-- no entry before this one ends beyond the file
abbrev pub invariant-loop : goal.invariant-loop
invariant-loop l = record {
  after : find (λ place. ends_beyond l.file place l.size) (entry_offsets l.place l.size (l.count - l.counter))
      ≡ find (λ place. ends_beyond l.file place l.size) (entry_offsets l.initial.place l.size l.count);
  bound : l.place ≤ l.initial.place + 40 * l.counter;
}
