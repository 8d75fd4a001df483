-- The code has the changes of the bytes from which instructions are fetched.
use Rattle.std.proofs.Common.{◌≡◌, ap, ◌∙◌}
use Rattle.std.specs.Prelude.{filter}
use Rattle.mem_regions.specs.Access.{bounds_of}
use Rattle.mem_changes.specs.Differing.{runs_at}
use Rattle.mem_changes.specs.MemoryChanges.{MemoryChanges}
use Rattle.mem_changes.proofs.Updated.{sync_lists, sync_made}
use Rattle.mem_changes.proofs.changes.Changes.sync.Goals as goal

pub returns-clause-lists : goal.returns-clause-lists
returns-clause-lists c =
    let bytes : c.self.inside.bytes.items ≡ c.args.self.now.bytes = ap (λ (k : MemoryChanges). k.bytes) c.self.view_is in
    let code : c.in_ok-self-inside.field-0.items ≡ filter (λ d. runs_at (bounds_of c.args.image.now) d.addr) c.args.self.now.bytes
    = c.in_ok-self-inside.ensures ∙ ap (filter (λ d. runs_at (bounds_of c.args.image.now) d.addr)) (c.deref.ensures.value ∙ bytes) in
    sync_lists c.args.image.now c.args.self.now _ c.requires.lists bytes code (ap (λ (k : MemoryChanges). k.program_break) c.self.view_is)

pub returns-clause-memory : goal.returns-clause-memory
returns-clause-memory c =
    let bytes : c.self.inside.bytes.items ≡ c.args.self.now.bytes = ap (λ (k : MemoryChanges). k.bytes) c.self.view_is in
    let code : c.in_ok-self-inside.field-0.items ≡ filter (λ d. runs_at (bounds_of c.args.image.now) d.addr) c.args.self.now.bytes
    = c.in_ok-self-inside.ensures ∙ ap (filter (λ d. runs_at (bounds_of c.args.image.now) d.addr)) (c.deref.ensures.value ∙ bytes) in
    sync_made c.args.image.now c.args.self.now _ c.memory.ensures.loaded bytes code (ap (λ (k : MemoryChanges). k.program_break) c.self.view_is)
