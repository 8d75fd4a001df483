use Rattle.std.proofs.Common.{◌≡◌, take}
use Rattle.std.specs.Prelude.{filter}
use Rattle.mem_regions.specs.Access.{bounds_of}
use Rattle.mem_changes.specs.Differing.{runs_at}
use Rattle.mem_changes.proofs.updating.running.Given as goal

-- those of the changes so far
abbrev pub invariant-loop-change : goal.invariant-loop-change
invariant-loop-change l = l.list.items ≡ filter (λ c. runs_at (bounds_of l.image) c.addr) (take l.change-index l.changes)
