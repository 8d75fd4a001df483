-- Making the changes byte by byte, and undoing them.
use Rattle.std.proofs.Common.{◌≡◌, ◌≢◌, ℕ, ◌<◌, ◌≤◌, List, [], ◌∷◌, ◌++◌, Bool, true, false, Some, length, map, refl, ap, sym, ◌∙◌, arith, append_assoc}
use Rattle.std.specs.Prelude.{if◌then◌else◌}
use Rattle.std.specs.List.{AllByRecursion}
use Rattle.std.proofs.lemmas.List.{append-nil}
use Rattle.mem_regions.specs.Area.{Area}
use Rattle.mem_regions.specs.Memory.{Memory}
use Rattle.mem_regions.specs.Ranges.{writable_of}
use Rattle.mem_regions.specs.Fetching.{synced, synced_area}
use Rattle.mem_regions.specs.Writing.{memory_with}
use Rattle.mem_changes.specs.declared.changes.Change.{Change}
use Rattle.mem_changes.specs.MemoryChanges.{MemoryChanges}
use Rattle.mem_changes.specs.Applied.{byte_after, bytes_after, area_after, memory_after}
use Rattle.mem_changes.specs.Differing.{IsChange, AddressesRise, AreChanges, AreChangesOf}
use Rattle.mem_changes.specs.Images.{ShareNoByte, HasCode, IsAsLoaded, byte_at}
use Rattle.mem_changes.specs.Steps.{all_written, all_restored}
use Rattle.mem_changes.proofs.After.{byte_after-append, byte_after-avoids, changed_here, changed_elsewhere, bytes_after-none}
use Rattle.mem_changes.proofs.Written.{IsWritten, memory_written}

-- one more change
one_more : (cs : List Change) (c : Change) (k : MemoryChanges) → IsWritten c.addr (c.byte ∷ []) (record k { bytes = cs }) (record k { bytes = cs ++ c ∷ [] })
one_more cs c k = record {
  bytes = record {
    below = λ y o h. sym (byte_after-append cs (c ∷ []) y o ∙ changed_elsewhere c.addr c.byte y (byte_after cs y o) (λ e. omega arith));
    above = λ y o h. sym (byte_after-append cs (c ∷ []) y o ∙ changed_elsewhere c.addr c.byte y (byte_after cs y o) (λ e. omega arith));
  };
  code = refl;
  same_break = refl;
}

one_byte : (cs : List Change) (c : Change) (b : ℕ) → bytes_after (cs ++ c ∷ []) c.addr (b ∷ []) ≡ c.byte ∷ []
one_byte cs c b = ap (λ (z : ℕ). z ∷ []) (byte_after-append cs (c ∷ []) c.addr b ∙ changed_here c.addr c.byte c.addr (byte_after cs c.addr b) refl)

pub all_written-after : (m : Memory) (k : MemoryChanges) (cs ds : List Change) → ShareNoByte m.areas → AllByRecursion (IsChange m) ds →
    all_written ds (memory_after (record k { bytes = cs }) m) ≡ memory_after (record k { bytes = cs ++ ds }) m
all_written-after m k cs [] apart are = ap (λ (l : List Change). memory_after (record k { bytes = l }) m) (sym (append-nil cs))
all_written-after m k cs (c ∷ ds) apart are =
    let one : memory_with (memory_after (record k { bytes = cs }) m) c.addr 1 (c.byte ∷ []) ≡ memory_after (record k { bytes = cs ++ c ∷ [] }) m
    = memory_written m (record k { bytes = cs }) (record k { bytes = cs ++ c ∷ [] }) c.addr 1 (c.byte ∷ []) (are.0.loaded ∷ []) apart
    (one_more cs c k) refl (omega arith) are.0.was (one_byte cs c are.0.loaded) in
    rw one (all_written-after m k (cs ++ c ∷ []) ds apart are.1 ∙ ap (λ (l : List Change). memory_after (record k { bytes = l }) m)
    (append_assoc cs (c ∷ []) ds))

-- nothing below an address in a list that ascends from it
pub avoids : (x y : ℕ) (cs : List Change) → y ≤ x → AllByRecursion (λ d. x < d.addr) cs → AllByRecursion (λ d. d.addr ≢ y) cs
avoids x y [] h a = tt
avoids x y (c ∷ cs) h a = let l : x < c.addr = a.0 in (λ e. omega arith, avoids x y cs h a.1)

-- one change fewer
one_less : (cs : List Change) (c : Change) (k : MemoryChanges) (b : ℕ) → IsWritten c.addr (b ∷ []) (record k { bytes = c ∷ cs }) (record k { bytes = cs })
one_less cs c k b = record {
  bytes = record {
    below = λ y o h. ap (byte_after cs y) (changed_elsewhere c.addr c.byte y o (λ e. omega arith));
    above = λ y o h. ap (byte_after cs y) (changed_elsewhere c.addr c.byte y o (λ e. omega arith));
  };
  code = refl;
  same_break = refl;
}

loaded_there : (m : Memory) (x b : ℕ) → writable_of m x 1 ≡ Some (b ∷ []) → byte_at m x ≡ b
unfolding byte_at
loaded_there m x b e = rw e refl

pub all_restored-after : (m : Memory) (k : MemoryChanges) (cs : List Change) → ShareNoByte m.areas → AllByRecursion (IsChange m) cs → AddressesRise cs →
    all_restored m cs (memory_after (record k { bytes = cs }) m) ≡ memory_after (record k { bytes = [] }) m
all_restored-after m k [] apart are rise = refl
all_restored-after m k (c ∷ cs) apart are rise =
    let b : ℕ = are.0.loaded in
    let there : byte_at m c.addr ≡ b = loaded_there m c.addr b are.0.was in
    let alone : bytes_after cs c.addr (b ∷ []) ≡ b ∷ [] = ap (λ (z : ℕ). z ∷ [])
    (byte_after-avoids cs c.addr b (avoids c.addr c.addr cs (omega arith) rise.0)) in
    let one : memory_with (memory_after (record k { bytes = c ∷ cs }) m) c.addr 1 (b ∷ []) ≡ memory_after (record k { bytes = cs }) m
    = memory_written m (record k { bytes = c ∷ cs }) (record k { bytes = cs }) c.addr 1 (b ∷ []) (b ∷ []) apart (one_less cs c k b) refl (omega arith) are.0.was
    alone in
    rw (there, one) (all_restored-after m k cs apart are.1 rise.1)

-- code that is synchronized has the changes of the bytes
area_synced : (k : MemoryChanges) (a : Area) → HasCode a → synced_area (area_after k a) ≡ area_after (record k { code = k.bytes }) a
area_synced k a h = go a.exec refl h where
  made : List ℕ → Area
  made code = record a { bytes = bytes_after k.bytes a.base a.bytes; code = code }

  go : (t : Bool) → a.exec ≡ t → a.code ≡ (if t then a.bytes else []) →
      made (if t then bytes_after k.bytes a.base a.bytes else bytes_after k.code a.base a.code) ≡ made (bytes_after k.bytes a.base a.code)
  go true e f = ap made (ap (bytes_after k.bytes a.base) (sym f))
  go false e f = ap made (ap (bytes_after k.code a.base) f ∙ sym (ap (bytes_after k.bytes a.base) f))

areas_synced : (k : MemoryChanges) (areas : List Area) → AllByRecursion HasCode areas →
    map synced_area (map (area_after k) areas) ≡ map (area_after (record k { code = k.bytes })) areas
areas_synced k [] h = refl
areas_synced k (a ∷ areas) h =
    let head : synced_area (area_after k a) ≡ area_after (record k { code = k.bytes }) a = area_synced k a h.0 in
    let tail : map synced_area (map (area_after k) areas) ≡ map (area_after (record k { code = k.bytes })) areas = areas_synced k areas h.1 in
    cc

pub synced-after : (m : Memory) (k : MemoryChanges) → AllByRecursion HasCode m.areas → synced (memory_after k m) ≡ memory_after (record k { code = k.bytes }) m
unfolding synced memory_after
synced-after m k h = ap (λ (l : List Area). let n : Memory = record { areas = l; program_break = k.program_break } in n) (areas_synced k m.areas h)

-- no changes leave the memory as it is
area_same : (a : Area) (b : ℕ) → area_after (record { bytes = []; code = []; program_break = b }) a ≡ a
area_same a b =
    let made : List ℕ → List ℕ → Area = λ x y. record a { bytes = x; code = y } in
    ap (λ (x : List ℕ). made x (bytes_after [] a.base a.code)) (bytes_after-none a.base a.bytes) ∙ ap (made a.bytes) (bytes_after-none a.base a.code)

areas_same : (areas : List Area) (b : ℕ) → map (area_after (record { bytes = []; code = []; program_break = b })) areas ≡ areas
areas_same [] b = refl
areas_same (a ∷ areas) b = let head = area_same a b in let tail = areas_same areas b in cc

pub none-after : (m : Memory) → memory_after (record { bytes = []; code = []; program_break = m.program_break }) m ≡ m
unfolding memory_after
none-after m = ap (λ (l : List Area). let n : Memory = record { areas = l; program_break = m.program_break } in n) (areas_same m.areas m.program_break)

pub break-after : (m : Memory) (k : MemoryChanges) (b : ℕ) → record (memory_after k m) { program_break = b } ≡ memory_after (record k { program_break = b }) m
unfolding memory_after
break-after m k b = refl

-- the changes of the code, made by synchronizing it with bytes that are restored afterwards
pub code_none : (m : Memory) (k : MemoryChanges) → length k.code ≡ 0 →
    m ≡ memory_after (record { bytes = []; code = k.code; program_break = m.program_break }) m
code_none m k e = go k.code e where
  go : (cs : List Change) → length cs ≡ 0 → m ≡ memory_after (record { bytes = []; code = cs; program_break = m.program_break }) m
  go [] f = sym (none-after m)
  go (c ∷ cs) f = absurd (omega arith)

pub code_made : (m : Memory) (k : MemoryChanges) → IsAsLoaded m → AreChanges m k →
    all_restored m k.code (synced (all_written k.code m)) ≡ memory_after (record { bytes = []; code = k.code; program_break = m.program_break }) m
code_made m k is lists =
    let none : MemoryChanges = record { bytes = []; code = []; program_break = m.program_break } in
    let wrote : all_written k.code m ≡ memory_after (record none { bytes = k.code }) m
    = ap (all_written k.code) (sym (none-after m)) ∙ all_written-after m none [] k.code is.apart lists.code_differs in
    let both : synced (all_written k.code m) ≡ memory_after (record none { bytes = k.code; code = k.code }) m
    = ap synced wrote ∙ synced-after m (record none { bytes = k.code }) is.code in
    ap (all_restored m k.code) both ∙ all_restored-after m (record none { code = k.code }) k.code is.apart lists.code_differs lists.code_ascends

-- then those of the bytes, and the break
pub all_made : (m : Memory) (k : MemoryChanges) → IsAsLoaded m → AreChanges m k →
    record (all_written k.bytes (memory_after (record { bytes = []; code = k.code; program_break = m.program_break }) m)) { program_break = k.program_break } ≡
    memory_after k m
all_made m k is lists =
    let code : MemoryChanges = record { bytes = []; code = k.code; program_break = m.program_break } in
    ap (λ (p : Memory). record p { program_break = k.program_break }) (all_written-after m code [] k.bytes is.apart lists.differ)
    ∙ break-after m (record code { bytes = k.bytes }) k.program_break

pub ruleset making = (code_none, code_made, all_made)

-- undoing them
pub code_back_none : (m : Memory) (k : MemoryChanges) → length k.code ≡ 0 →
    memory_after (record k { bytes = [] }) m ≡ memory_after (record k { bytes = []; code = [] }) m
code_back_none m k e = go k.code e where
  go : (cs : List Change) → length cs ≡ 0 → memory_after (record k { bytes = []; code = cs }) m ≡ memory_after (record k { bytes = []; code = [] }) m
  go [] f = refl
  go (c ∷ cs) f = absurd (omega arith)

pub code_back : (m : Memory) (k : MemoryChanges) → IsAsLoaded m → synced (memory_after (record k { bytes = [] }) m) ≡ memory_after
    (record k { bytes = []; code = [] }) m
code_back m k is = synced-after m (record k { bytes = [] }) is.code

pub bytes_back : (m : Memory) (k : MemoryChanges) → IsAsLoaded m → AreChanges m k →
    all_restored m k.bytes (memory_after k m) ≡ memory_after (record k { bytes = [] }) m
bytes_back m k is lists = all_restored-after m k k.bytes is.apart lists.differ lists.ascend

pub all_back : (m : Memory) (k : MemoryChanges) → record (memory_after (record k { bytes = []; code = [] }) m) { program_break = m.program_break } ≡ m
all_back m k = break-after m (record k { bytes = []; code = [] }) m.program_break ∙ none-after m

pub ruleset taking = (code_back_none, code_back, bytes_back, all_back)

-- no changes
pub no_changes : (m : Memory) → IsAsLoaded m → AreChangesOf m m (record { bytes = []; code = []; program_break = m.program_break })
no_changes m is = record {
  lists = record {
    ascend = tt;
    differ = tt;
    code_ascends = tt;
    code_differs = tt;
    code_runs = tt;
    break_from = rw is.no_heap (omega arith);
    break_to = rw is.no_heap (omega arith);
  };
  makes = sym (none-after m);
}

pub ruleset nothing = (no_changes)
