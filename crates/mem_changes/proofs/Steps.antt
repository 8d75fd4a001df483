-- The steps of the loops over changes and bytes.
use Rattle.std.proofs.Common.{◌≡◌, ℕ, zero, suc, ◌+◌, ◌-◌, ◌<◌, ◌/◌, ◌%◌, List, [], ◌∷◌, ◌++◌, length, drop, get_or, refl, ap, sym, ◌∙◌, arith, append_assoc}
use Rattle.std.proofs.lemmas.List.{append-nil}
use Rattle.mem_regions.specs.Memory.{Memory}
use Rattle.mem_regions.specs.Bytes.{le_bytes}
use Rattle.mem_regions.specs.Writing.{memory_with}
use Rattle.mem_changes.specs.declared.changes.Change.{Change}
use Rattle.mem_changes.specs.MemoryChanges.{MemoryChanges}
use Rattle.mem_changes.specs.Images.{byte_at}
use Rattle.mem_changes.specs.Steps.{all_written, all_restored, difference, differences}

dropped : (cs : List Change) (i n : ℕ) (d : Change) → n ≡ suc i → i < length cs → drop i cs ≡ get_or cs i d ∷ drop n cs
dropped [] i n d e h = absurd (omega arith)
dropped (c ∷ cs) zero n d e h = rw e refl
dropped (c ∷ cs) (suc i) n d e h = rw e (dropped cs i (suc i) d refl (omega arith))

-- one change is written, and the others are left
pub written_next : (cs : List Change) (i : ℕ) (d : Change) (m : Memory) → i < length cs →
    all_written (drop i cs) m ≡ all_written (drop (i + 1) cs) (memory_with m (get_or cs i d).addr 1 ((get_or cs i d).byte ∷ []))
written_next cs i d m h = rw (dropped cs i (i + 1) d (omega arith) h) refl

pub restored_next : (loaded : Memory) (cs : List Change) (i : ℕ) (d : Change) (m : Memory) → i < length cs →
    all_restored loaded (drop i cs) m ≡ all_restored loaded (drop (i + 1) cs) (memory_with m (get_or cs i d).addr 1 (byte_at loaded (get_or cs i d).addr ∷ []))
restored_next loaded cs i d m h = rw (dropped cs i (i + 1) d (omega arith) h) refl

-- one byte is compared, and the others are left
pub differences_next : (start : List Change) (addr i width bytes olds : ℕ) → i < width →
    start ++ differences (addr + i) (le_bytes (width - i) bytes) (le_bytes (width - i) olds)
    ≡ (start ++ difference (addr + i) (bytes % 256) (olds % 256)) ++ differences (addr + (i + 1)) (le_bytes (width - (i + 1)) (bytes / 256))
    (le_bytes (width - (i + 1)) (olds / 256))
differences_next start addr i width bytes olds h =
    let e : width - i ≡ suc (width - (i + 1)) = omega arith in
    let f : suc (addr + i) ≡ addr + (i + 1) = omega arith in
    rw e (ap (λ (a : ℕ). start ++ (difference (addr + i) (bytes % 256) (olds % 256) ++ differences a (le_bytes (width - (i + 1)) (bytes / 256))
    (le_bytes (width - (i + 1)) (olds / 256)))) f
    ∙ sym (append_assoc start (difference (addr + i) (bytes % 256) (olds % 256)) _))

pub differences_last : (start : List Change) (addr width bytes olds : ℕ) →
    start ++ differences (addr + width) (le_bytes (width - width) bytes) (le_bytes (width - width) olds) ≡ start
differences_last start addr width bytes olds = let e : width - width ≡ 0 = omega arith in rw e (append-nil start)

-- changes with the same parts are the same
pub same_parts : (j k : MemoryChanges) → j.bytes ≡ k.bytes → j.code ≡ k.code → j.program_break ≡ k.program_break → j ≡ k
same_parts j k e f g =
    ap (λ (l : List Change). let n : MemoryChanges = record j { bytes = l } in n) e
    ∙ ap (λ (l : List Change). let n : MemoryChanges = record j { bytes = k.bytes; code = l } in n) f
    ∙ ap (λ (b : ℕ). let n : MemoryChanges = record k { program_break = b } in n) g

pub ruleset written_steps = (written_next)

pub ruleset restored_steps = (restored_next)

pub ruleset difference_steps = (differences_next, differences_last)
