-- How a store and FENCE.I affect the changes.
use Rattle.std.proofs.Common.{◌≡◌, ◌≢◌, inl, inr, ℕ, zero, suc, ◌+◌, ◌-◌, ◌<◌, ◌≤◌, ◌%◌, ◌^◌, List, [], ◌∷◌, ◌++◌, Bool, true, false, Option, Some, None, IsTrue, length, take, drop, find, map, cond, refl, ap, sym, subst, ◌∙◌, arith}
use Rattle.std.specs.Prelude.{◌==◌, ◌||◌, if◌then◌else◌, filter, nat_lt, nat_le}
use Rattle.std.specs.List.{list_any, AllByRecursion}
use Rattle.std.specs.Option.{option_map}
use Rattle.std.proofs.lemmas.Bool.Decides.{nat_tests}
use Rattle.mem_regions.specs.Area.{Area}
use Rattle.mem_regions.specs.Memory.{Memory}
use Rattle.mem_regions.specs.Access.{IsWidth, bounds_of, area_bounds, is_aligned}
use Rattle.mem_regions.specs.Bytes.{le_bytes}
use Rattle.mem_regions.specs.Ranges.{writes_in, bytes_in, writable_of}
use Rattle.mem_regions.specs.Fetching.{synced}
use Rattle.mem_regions.specs.Writing.{area_with, first_changed, memory_with, stored}
use Rattle.mem_regions.proofs.WriteBack.{length-le_bytes}
use Rattle.mem_changes.specs.declared.changes.Change.{Change}
use Rattle.mem_changes.specs.MemoryChanges.{MemoryChanges}
use Rattle.mem_changes.specs.Applied.{byte_after, bytes_after, area_after, memory_after}
use Rattle.mem_changes.specs.Differing.{IsChange, AddressesRise, AreChanges, runs_in, runs_at}
use Rattle.mem_changes.specs.Images.{IsApart, ShareNoByte, HasCode, IsAsLoaded}
use Rattle.mem_changes.specs.Steps.{difference, differences, below, from, rewritten}
use Rattle.mem_changes.proofs.After.{byte_after-append, byte_after-avoids, byte_after-filter, bytes_agree, changed_here}
use Rattle.mem_changes.proofs.Written.{memory_written, writes_after, all_found, found_passes, writes-lies, in_range}
use Rattle.mem_changes.proofs.Made.{synced-after, break-after}
use Rattle.mem_changes.proofs.Steps.{same_parts}

-- what holds for each change, in a list of several parts and in a filtered list
all_append : (P : Change → Type 0) (cs ds : List Change) → AllByRecursion P cs → AllByRecursion P ds → AllByRecursion P (cs ++ ds)
all_append P [] ds a b = b
all_append P (c ∷ cs) ds a b = (a.0, all_append P cs ds a.1 b)

all_filter : (P : Change → Type 0) (test : Change → Bool) (cs : List Change) → AllByRecursion P cs → AllByRecursion P (filter test cs)
all_filter P test [] a = tt
all_filter P test (c ∷ cs) a = go (test c) (all_filter P test cs a.1) where
  go : (t : Bool) → AllByRecursion P (filter test cs) → AllByRecursion P (cond t (c ∷ filter test cs) (filter test cs))
  go true later = (a.0, later)
  go false later = later

all_pass : (P : Change → Type 0) (test : Change → Bool) (cs : List Change) → ((c : Change) → test c ≡ true → P c) → AllByRecursion P (filter test cs)
all_pass P test [] h = tt
all_pass P test (c ∷ cs) h = go (test c) refl (all_pass P test cs h) where
  go : (t : Bool) → test c ≡ t → AllByRecursion P (filter test cs) → AllByRecursion P (cond t (c ∷ filter test cs) (filter test cs))
  go true e later = (h c e, later)
  go false e later = later

all_weaker : (P Q : Change → Type 0) (cs : List Change) → ((c : Change) → P c → Q c) → AllByRecursion P cs → AllByRecursion Q cs
all_weaker P Q [] h a = tt
all_weaker P Q (c ∷ cs) h a = (h c a.0, all_weaker P Q cs h a.1)

ascend_filter : (test : Change → Bool) (cs : List Change) → AddressesRise cs → AddressesRise (filter test cs)
ascend_filter test [] a = tt
ascend_filter test (c ∷ cs) a = go (test c) (ascend_filter test cs a.1) (all_filter (λ d. c.addr < d.addr) test cs a.0) where
  go : (t : Bool) → AddressesRise (filter test cs) → AllByRecursion (λ d. c.addr < d.addr) (filter test cs) →
      AddressesRise (cond t (c ∷ filter test cs) (filter test cs))
  go true later above = (above, later)
  go false later above = later

ascend_append : (x : ℕ) (cs ds : List Change) → AddressesRise cs → AddressesRise ds → AllByRecursion (λ c. c.addr < x) cs →
    AllByRecursion (λ d. x ≤ d.addr) ds → AddressesRise (cs ++ ds)
ascend_append x [] ds a b l u = b
ascend_append x (c ∷ cs) ds a b l u =
    let h : c.addr < x = l.0 in (
      all_append (λ d. c.addr < d.addr) cs ds a.0 (all_weaker (λ d. x ≤ d.addr) (λ d. c.addr < d.addr) ds (λ d k. omega arith) u),
      ascend_append x cs ds a.1 b l.1 u,
    )

-- the differences of bytes: where they are, and how they change the bytes that were loaded
difference_at : (P : Change → Type 0) (addr byte old : ℕ) → ((c : Change) → c.addr ≡ addr → c.byte ≡ byte → byte ≢ old → P c) →
    AllByRecursion P (difference addr byte old)
difference_at P addr byte old h = go (byte == old) refl where
  go : (t : Bool) → t ≡ (byte == old) → AllByRecursion P (if t then [] else (record { addr = addr; byte = byte }) ∷ [])
  go true e = tt
  go false e = (h (record { addr = addr; byte = byte }) refl refl (grind (arith, nat_tests)), tt)

within : (x : ℕ) (w olds : List ℕ) → AllByRecursion (λ c. (x ≤ c.addr) × (c.addr < x + length w)) (differences x w olds)
within x [] olds = tt
within x (n ∷ ns) [] = tt
within x (n ∷ ns) (o ∷ os) = all_append (λ c. (x ≤ c.addr) × (c.addr < x + suc (length ns))) (difference x n o) (differences (suc x) ns os)
    (difference_at (λ c. (x ≤ c.addr) × (c.addr < x + suc (length ns))) x n o (λ c e f g. (omega arith, omega arith)))
    (all_weaker (λ c. (suc x ≤ c.addr) × (c.addr < suc x + length ns)) (λ c. (x ≤ c.addr) × (c.addr < x + suc (length ns))) (differences (suc x) ns os)
    (λ c h. let a = h.0 in let b = h.1 in (omega arith, omega arith)) (within (suc x) ns os))

from_start : (x : ℕ) (w olds : List ℕ) → AllByRecursion (λ c. x ≤ c.addr) (differences x w olds)
from_start x w olds = all_weaker (λ c. (x ≤ c.addr) × (c.addr < x + length w)) (λ c. x ≤ c.addr) (differences x w olds) (λ c h. h.0) (within x w olds)

to_end : (x : ℕ) (w olds : List ℕ) → AllByRecursion (λ c. c.addr < x + length w) (differences x w olds)
to_end x w olds = all_weaker (λ c. (x ≤ c.addr) × (c.addr < x + length w)) (λ c. c.addr < x + length w) (differences x w olds) (λ c h. h.1) (within x w olds)

ascend_difference : (addr byte old : ℕ) → AddressesRise (difference addr byte old)
ascend_difference addr byte old = go (byte == old) where
  go : (t : Bool) → AddressesRise (if t then [] else (record { addr = addr; byte = byte }) ∷ [])
  go true = tt
  go false = (tt, tt)

ascend_differences : (x : ℕ) (w olds : List ℕ) → AddressesRise (differences x w olds)
ascend_differences x [] olds = tt
ascend_differences x (n ∷ ns) [] = tt
ascend_differences x (n ∷ ns) (o ∷ os) = ascend_append (suc x) (difference x n o) (differences (suc x) ns os) (ascend_difference x n o)
    (ascend_differences (suc x) ns os)
    (difference_at (λ c. c.addr < suc x) x n o (λ c e f g. omega arith)) (from_start (suc x) ns os)

byte_made : (x n o : ℕ) → byte_after (difference x n o) x o ≡ n
byte_made x n o = go (n == o) refl where
  go : (t : Bool) → t ≡ (n == o) → byte_after (if t then [] else (record { addr = x; byte = n }) ∷ []) x o ≡ n
  go true e = grind (arith, nat_tests)
  go false e = changed_here x n x o refl

avoid_above : (x y : ℕ) (cs : List Change) → y < x → AllByRecursion (λ c. x ≤ c.addr) cs → AllByRecursion (λ c. c.addr ≢ y) cs
avoid_above x y cs h a = all_weaker (λ c. x ≤ c.addr) (λ c. c.addr ≢ y) cs (λ c l e. omega arith) a

avoid_below : (x y : ℕ) (cs : List Change) → x ≤ y → AllByRecursion (λ c. c.addr < x) cs → AllByRecursion (λ c. c.addr ≢ y) cs
avoid_below x y cs h a = all_weaker (λ c. c.addr < x) (λ c. c.addr ≢ y) cs (λ c l e. omega arith) a

bytes_made : (x : ℕ) (w olds : List ℕ) → length w ≡ length olds → bytes_after (differences x w olds) x olds ≡ w
bytes_made x [] [] e = refl
bytes_made x [] (o ∷ os) e = absurd (omega arith)
bytes_made x (n ∷ ns) [] e = absurd (omega arith)
bytes_made x (n ∷ ns) (o ∷ os) e =
    let D : List Change = differences (suc x) ns os in
    let head : byte_after (difference x n o ++ D) x o ≡ n = byte_after-append (difference x n o) D x o
    ∙ byte_after-avoids D x (byte_after (difference x n o) x o) (avoid_above (suc x) x D (omega arith) (from_start (suc x) ns os)) ∙ byte_made x n o in
    let agree : bytes_after (difference x n o ++ D) (suc x) os ≡ bytes_after D (suc x) os =
    bytes_agree (difference x n o ++ D) D (suc x) os (λ y b l u. byte_after-append (difference x n o) D y b
    ∙ ap (byte_after D y) (byte_after-avoids (difference x n o) y b (difference_at (λ c. c.addr ≢ y) x n o (λ c f g h k. omega arith)))) in
    let tail : bytes_after (difference x n o ++ D) (suc x) os ≡ ns = agree ∙ bytes_made (suc x) ns os (omega arith) in
    cc

-- the rewritten changes outside the range and in it
rewritten_at : (cs : List Change) (x n : ℕ) (w olds : List ℕ) (y o : ℕ) →
    byte_after (rewritten cs x n w olds) y o ≡ byte_after (from (x + n) cs) y (byte_after (differences x w olds) y (byte_after (below x cs) y o))
rewritten_at cs x n w olds y o = byte_after-append (below x cs ++ differences x w olds) (from (x + n) cs) y o
    ∙ ap (byte_after (from (x + n) cs) y) (byte_after-append (below x cs) (differences x w olds) y o)

below_passes : (x : ℕ) (cs : List Change) → AllByRecursion (λ c. c.addr < x) (below x cs)
below_passes x cs = all_pass (λ c. c.addr < x) (λ c. nat_lt c.addr x) cs (λ c e. grind (arith, nat_tests))

from_passes : (x : ℕ) (cs : List Change) → AllByRecursion (λ c. x ≤ c.addr) (from x cs)
from_passes x cs = all_pass (λ c. x ≤ c.addr) (λ c. nat_le x c.addr) cs (λ c e. grind (arith, nat_tests))

rewritten_below : (cs : List Change) (x n : ℕ) (w olds : List ℕ) (y o : ℕ) → y < x → byte_after cs y o ≡ byte_after (rewritten cs x n w olds) y o
rewritten_below cs x n w olds y o h = sym (rewritten_at cs x n w olds y o
    ∙ byte_after-avoids (from (x + n) cs) y _ (avoid_above (x + n) y (from (x + n) cs) (omega arith) (from_passes (x + n) cs))
    ∙ byte_after-avoids (differences x w olds) y _ (avoid_above x y (differences x w olds) h (from_start x w olds))
    ∙ byte_after-filter (λ c. nat_lt c.addr x) cs y o (λ c e. grind (arith, nat_tests)))

rewritten_above : (cs : List Change) (x n : ℕ) (w olds : List ℕ) (y o : ℕ) → length w ≡ n → x + n ≤ y →
    byte_after cs y o ≡ byte_after (rewritten cs x n w olds) y o
rewritten_above cs x n w olds y o e h = sym (rewritten_at cs x n w olds y o
    ∙ ap (byte_after (from (x + n) cs) y) (byte_after-avoids (differences x w olds) y _
    (avoid_below (x + length w) y (differences x w olds) (omega arith) (to_end x w olds))
    ∙ byte_after-avoids (below x cs) y o (avoid_below x y (below x cs) (omega arith) (below_passes x cs)))
    ∙ byte_after-filter (λ c. nat_le (x + n) c.addr) cs y o (λ c e. grind (arith, nat_tests)))

rewritten_in : (cs : List Change) (x n : ℕ) (w olds : List ℕ) → length w ≡ n → length olds ≡ n → bytes_after (rewritten cs x n w olds) x olds ≡ w
rewritten_in cs x n w olds e f = bytes_agree (rewritten cs x n w olds) (differences x w olds) x olds (λ y o l u. rewritten_at cs x n w olds y o
    ∙ byte_after-avoids (from (x + n) cs) y _ (avoid_above (x + n) y (from (x + n) cs) (omega arith) (from_passes (x + n) cs))
    ∙ ap (byte_after (differences x w olds) y) (byte_after-avoids (below x cs) y o (avoid_below x y (below x cs) l (below_passes x cs))))
    ∙ bytes_made x w olds (omega arith)

-- a store into the changed memory
pub store_made : (m : Memory) (k : MemoryChanges) (x n : ℕ) (w olds : List ℕ) → ShareNoByte m.areas → length w ≡ n → length olds ≡ n → 0 < n →
    writable_of m x n ≡ Some olds →
    memory_with (memory_after k m) x n w ≡ memory_after (record k { bytes = rewritten k.bytes x n w olds }) m
store_made m k x n w olds apart e f some found = memory_written m k (record k { bytes = rewritten k.bytes x n w olds }) x n w olds apart
    (record {
      bytes = record {
        below = λ y o h. rewritten_below k.bytes x n w olds y o h;
        above = λ y o h. rewritten_above k.bytes x n w olds y o e (omega arith);
      };
      code = refl;
      same_break = refl;
    }) e some found (rewritten_in k.bytes x n w olds e f)

-- a store that is not permitted
no_place : (test : Area → Bool) (f g : Area → Area) (areas : List Area) → ((a : Area) → test (g a) ≡ test a) → find test areas ≡ None →
    first_changed test f (map g areas) ≡ map g areas
no_place test f g [] same e = refl
no_place test f g (a ∷ areas) same e = rw (same a) (go (test a) e (no_place test f g areas same)) where
  go : (t : Bool) → cond t (Some a) (find test areas) ≡ None → (find test areas ≡ None → first_changed test f (map g areas) ≡ map g areas) →
      cond t (f (g a) ∷ map g areas) (g a ∷ first_changed test f (map g areas)) ≡ g a ∷ map g areas
  go true h later = absurd (cc)
  go false h later = ap (λ (l : List Area). g a ∷ l) (later h)

none_found : (m : Memory) (x n : ℕ) → writable_of m x n ≡ None → find (writes_in x n) m.areas ≡ None
unfolding writable_of
none_found m x n e = go (find (writes_in x n) m.areas) e where
  go : (r : Option Area) → option_map (bytes_in x n) r ≡ None → r ≡ None
  go None h = refl
  go (Some a) h = absurd (cc)

pub store_none : (m : Memory) (k : MemoryChanges) (x n : ℕ) (w : List ℕ) → writable_of m x n ≡ None → memory_with (memory_after k m) x n w ≡ memory_after k m
unfolding memory_with memory_after
store_none m k x n w e = ap (λ (l : List Area). let p : Memory = record { areas = l; program_break = k.program_break } in p)
    (no_place (writes_in x n) (area_with x w) (area_after k) m.areas (λ a. writes_after k x n a) (none_found m x n e))

-- each byte of a range is a byte of the region in which the range is
first_of_range : (l : ℕ) (bytes : List ℕ) (i o : ℕ) (os : List ℕ) → take (suc l) (drop i bytes) ≡ o ∷ os →
    (take 1 (drop i bytes) ≡ o ∷ []) × (take l (drop (i + 1) bytes) ≡ os)
first_of_range l [] zero o os e = absurd (cc)
first_of_range l [] (suc i) o os e = absurd (cc)
first_of_range l (b ∷ bytes) zero o os e = (let h : b ≡ o = cc in ap (λ (z : ℕ). z ∷ []) h, cc)
first_of_range l (b ∷ bytes) (suc i) o os e =
    let h = first_of_range l bytes i o os e in
    (h.0, ap (λ (j : ℕ). take l (drop j (b ∷ bytes))) (let f : suc i + 1 ≡ suc (i + 1) = omega arith in f) ∙ h.1)

found_byte : (areas : List Area) (x n y : ℕ) (a : Area) → ShareNoByte areas → find (writes_in x n) areas ≡ Some a → x ≤ y → y < x + n →
    find (writes_in y 1) areas ≡ Some a
found_byte [] x n y a apart e l u = absurd (cc)
found_byte (b ∷ areas) x n y a apart e l u = go (writes_in x n b) refl e (writes_in y 1 b) refl (λ h. found_byte areas x n y a apart.1 h l u) where
  go : (t : Bool) → writes_in x n b ≡ t → cond t (Some b) (find (writes_in x n) areas) ≡ Some a → (s : Bool) → writes_in y 1 b ≡ s →
      (find (writes_in x n) areas ≡ Some a → find (writes_in y 1) areas ≡ Some a) → cond s (Some b) (find (writes_in y 1) areas) ≡ Some a
  go true w h true v later = h
  go true w h false v later = absurd (grind (arith, nat_tests))
  go false w h false v later = later h
  go false w h true v later = absurd (all_found (IsApart b) (writes_in x n) areas a apart.0 h y (writes-lies y 1 b v)
      (in_range a x n y (writes-lies x n a (found_passes (writes_in x n) areas a h)) l u))

byte_there : (m : Memory) (y o : ℕ) (a : Area) → find (writes_in y 1) m.areas ≡ Some a → take 1 (drop (y - a.base) a.bytes) ≡ o ∷ [] →
    writable_of m y 1 ≡ Some (o ∷ [])
unfolding writable_of
byte_there m y o a e f = rw e (ap (λ (l : List ℕ). let r : Option (List ℕ) = Some l in r) f)

changes_of_range : (m : Memory) (x n y : ℕ) (a : Area) (w olds : List ℕ) → ShareNoByte m.areas → find (writes_in x n) m.areas ≡ Some a → x ≤ y →
    y + length olds ≤ x + n →
    take (length olds) (drop (y - a.base) a.bytes) ≡ olds → AllByRecursion (IsChange m) (differences y w olds)
changes_of_range m x n y a [] olds apart e l u f = tt
changes_of_range m x n y a (b ∷ bs) [] apart e l u f = tt
changes_of_range m x n y a (b ∷ bs) (o ∷ os) apart e l u f =
    let here = first_of_range (length os) a.bytes (y - a.base) o os f in
    let found : find (writes_in y 1) m.areas ≡ Some a = found_byte m.areas x n y a apart e l (omega arith) in
    let base : a.base ≤ x = let t : writes_in x n a ≡ true = found_passes (writes_in x n) m.areas a e in grind (arith, nat_tests) in
    let next : (y - a.base) + 1 ≡ suc y - a.base = omega arith in
    let rest : take (length os) (drop (suc y - a.base) a.bytes) ≡ os = rw (← next) here.1 in
    all_append (IsChange m) (difference y b o) (differences (suc y) bs os)
    (difference_at (IsChange m) y b o (λ c p q d. record {
      loaded = o;
      was = subst (λ (z : ℕ). writable_of m z 1 ≡ Some (o ∷ [])) (sym p) (byte_there m y o a found here.0);
      differs = λ r. d (sym q ∙ sym r);
    }))
    (changes_of_range m x n (suc y) a bs os apart e (omega arith) (omega arith) rest)

range_changes : (m : Memory) (x n : ℕ) (w olds : List ℕ) → ShareNoByte m.areas → length olds ≡ n → writable_of m x n ≡ Some olds →
    AllByRecursion (IsChange m) (differences x w olds)
unfolding writable_of
range_changes m x n w olds apart e f = go (find (writes_in x n) m.areas) refl f where
  go : (r : Option Area) → find (writes_in x n) m.areas ≡ r → option_map (bytes_in x n) r ≡ Some olds → AllByRecursion (IsChange m) (differences x w olds)
  go None h k = absurd (cc)
  go (Some a) h k = changes_of_range m x n x a w olds apart h (omega arith) (omega arith) (rw e (let b : bytes_in x n a ≡ olds = cc in b))

pub rewritten_lists : (m : Memory) (k : MemoryChanges) (x n : ℕ) (w olds : List ℕ) → ShareNoByte m.areas → AreChanges m k → length w ≡ n → length olds ≡ n →
    writable_of m x n ≡ Some olds →
    AreChanges m (record k { bytes = rewritten k.bytes x n w olds })
rewritten_lists m k x n w olds apart is e f found =
    let low : List Change = below x k.bytes in
    let mid : List Change = differences x w olds in
    let high : List Change = from (x + n) k.bytes in
    let start : AllByRecursion (λ c. c.addr < x + n) low = all_weaker (λ c. c.addr < x) (λ c. c.addr < x + n) low (λ c h. omega arith)
    (below_passes x k.bytes) in
    let middle : AllByRecursion (λ c. c.addr < x + n) mid = rw (← e) (to_end x w olds) in
    record {
      ascend = ascend_append (x + n) (low ++ mid) high
          (ascend_append x low mid (ascend_filter (λ c. nat_lt c.addr x) k.bytes is.ascend) (ascend_differences x w olds) (below_passes x k.bytes)
          (from_start x w olds))
          (ascend_filter (λ c. nat_le (x + n) c.addr) k.bytes is.ascend) (all_append (λ c. c.addr < x + n) low mid start middle) (from_passes (x + n) k.bytes);
      differ = all_append (IsChange m) (low ++ mid) high (all_append (IsChange m) low mid (all_filter (IsChange m) (λ c. nat_lt c.addr x) k.bytes is.differ)
          (range_changes m x n w olds apart f found)) (all_filter (IsChange m) (λ c. nat_le (x + n) c.addr) k.bytes is.differ);
      code_ascends = is.code_ascends;
      code_differs = is.code_differs;
      code_runs = is.code_runs;
      break_from = is.break_from;
      break_to = is.break_to;
    }

-- an aligned store ends within the addresses of 32 bits
pub aligned_end : (x n : ℕ) → IsWidth n → x % n ≡ 0 → x < 2 ^ 32 → x + n ≤ 2 ^ 32
aligned_end x n (inl e) f h = omega arith
aligned_end x n (inr (inl e)) f h = let g : x % 2 ≡ 0 = rw (← e) f in omega arith
aligned_end x n (inr (inr e)) f h = let g : x % 4 ≡ 0 = rw (← e) f in omega arith

width_some : (n : ℕ) → IsWidth n → 0 < n
width_some n (inl e) = omega arith
width_some n (inr (inl e)) = omega arith
width_some n (inr (inr e)) = omega arith

pub stored_misaligned : (m : Memory) (x n number : ℕ) → x % n ≢ 0 → m ≡ stored m x n number
unfolding stored
stored_misaligned m x n number h = go (is_aligned x n) refl where
  go : (t : Bool) → is_aligned x n ≡ t → m ≡ (if t then memory_with m x n (le_bytes n number) else m)
  go true e = absurd (h (grind (arith, nat_tests)))
  go false e = refl

pub stored_none : (m : Memory) (k : MemoryChanges) (x n number : ℕ) → writable_of m x n ≡ None → memory_after k m ≡ stored (memory_after k m) x n number
unfolding stored
stored_none m k x n number e = go (is_aligned x n) where
  go : (t : Bool) → memory_after k m ≡ (if t then memory_with (memory_after k m) x n (le_bytes n number) else memory_after k m)
  go true = sym (store_none m k x n (le_bytes n number) e)
  go false = refl

pub stored_lists : (m : Memory) (k : MemoryChanges) (x n number old : ℕ) → IsAsLoaded m → AreChanges m k → writable_of m x n ≡ Some (le_bytes n old) →
    AreChanges m (record k { bytes = rewritten k.bytes x n (le_bytes n number) (le_bytes n old) })
stored_lists m k x n number old is lists found =
    rewritten_lists m k x n (le_bytes n number) (le_bytes n old) is.apart lists (length-le_bytes n number) (length-le_bytes n old) found

pub stored_made : (m : Memory) (k : MemoryChanges) (x n number old : ℕ) → IsAsLoaded m → IsWidth n → x % n ≡ 0 → writable_of m x n ≡ Some (le_bytes n old) →
    memory_after (record k { bytes = rewritten k.bytes x n (le_bytes n number) (le_bytes n old) }) m ≡ stored (memory_after k m) x n number
unfolding stored
stored_made m k x n number old is w e found = go (is_aligned x n) refl where
  go : (t : Bool) → is_aligned x n ≡ t → memory_after (record k { bytes = rewritten k.bytes x n (le_bytes n number) (le_bytes n old) }) m
      ≡ (if t then memory_with (memory_after k m) x n (le_bytes n number) else memory_after k m)
  go true h = sym (store_made m k x n (le_bytes n number) (le_bytes n old) is.apart (length-le_bytes n number) (length-le_bytes n old) (width_some n w) found)
  go false h = absurd (grind (arith, nat_tests))

pub ruleset storing = (aligned_end, stored_misaligned, stored_none, stored_lists, stored_made)

-- FENCE.I: those changes of the bytes that are executable are the changes of the code
any_left : (s t : Bool) → s ≡ true → (s || t) ≡ true
any_left true t e = refl
any_left false t e = absurd (cc)

any_right : (s t : Bool) → t ≡ true → (s || t) ≡ true
any_right true t e = refl
any_right false t e = e

area_code : (test : ℕ → Bool) (k : MemoryChanges) (a : Area) → HasCode a → ((y : ℕ) → runs_in y (area_bounds a) ≡ true → test y ≡ true) →
    area_after (record k { code = filter (λ c. test c.addr) k.bytes }) a ≡ area_after (record k { code = k.bytes }) a
area_code test k a h runs = go a.exec refl h where
  made : List ℕ → Area
  made code = record a { bytes = bytes_after k.bytes a.base a.bytes; code = code }

  go : (t : Bool) → a.exec ≡ t → a.code ≡ (if t then a.bytes else []) →
      made (bytes_after (filter (λ c. test c.addr) k.bytes) a.base a.code) ≡ made (bytes_after k.bytes a.base a.code)
  go true e f = ap made (bytes_agree (filter (λ c. test c.addr) k.bytes) k.bytes a.base a.code (λ y o l u. byte_after-filter (λ c. test c.addr) k.bytes y o
      (λ c g. runs c.addr (let len : length a.code ≡ length a.bytes = ap (λ (l : List ℕ). length l) f in grind (arith, nat_tests)))))
  go false e f = ap made (ap (bytes_after (filter (λ c. test c.addr) k.bytes) a.base) f ∙ sym (ap (bytes_after k.bytes a.base) f))

areas_code : (test : ℕ → Bool) (k : MemoryChanges) (areas : List Area) → AllByRecursion HasCode areas →
    ((y : ℕ) → list_any (runs_in y) (map area_bounds areas) ≡ true → test y ≡ true) →
    map (area_after (record k { code = filter (λ c. test c.addr) k.bytes })) areas ≡ map (area_after (record k { code = k.bytes })) areas
areas_code test k [] h runs = refl
areas_code test k (a ∷ areas) h runs =
    let head : area_after (record k { code = filter (λ c. test c.addr) k.bytes }) a ≡ area_after (record k { code = k.bytes }) a
    = area_code test k a h.0 (λ y e. runs y (any_left (runs_in y (area_bounds a)) (list_any (runs_in y) (map area_bounds areas)) e)) in
    let tail : map (area_after (record k { code = filter (λ c. test c.addr) k.bytes })) areas ≡ map (area_after (record k { code = k.bytes })) areas
    = areas_code test k areas h.1 (λ y e. runs y (any_right (runs_in y (area_bounds a)) (list_any (runs_in y) (map area_bounds areas)) e)) in
    cc

code_after : (m : Memory) (k : MemoryChanges) → AllByRecursion HasCode m.areas →
    memory_after (record k { code = filter (λ c. runs_at (bounds_of m) c.addr) k.bytes }) m ≡ memory_after (record k { code = k.bytes }) m
unfolding memory_after runs_at bounds_of
code_after m k h = ap (λ (l : List Area). let p : Memory = record { areas = l; program_break = k.program_break } in p)
    (areas_code (λ y. list_any (runs_in y) (map area_bounds m.areas)) k m.areas h (λ y e. e))

made_synced : (m : Memory) (k : MemoryChanges) → IsAsLoaded m →
    memory_after (record k { code = filter (λ c. runs_at (bounds_of m) c.addr) k.bytes }) m ≡ synced (memory_after k m)
made_synced m k is = code_after m k is.code ∙ sym (synced-after m k is.code)

lists_synced : (m : Memory) (k : MemoryChanges) → AreChanges m k → AreChanges m (record k { code = filter (λ c. runs_at (bounds_of m) c.addr) k.bytes })
lists_synced m k lists = record {
  ascend = lists.ascend;
  differ = lists.differ;
  code_ascends = ascend_filter (λ c. runs_at (bounds_of m) c.addr) k.bytes lists.ascend;
  code_differs = all_filter (IsChange m) (λ c. runs_at (bounds_of m) c.addr) k.bytes lists.differ;
  code_runs = all_pass (λ c. IsTrue (runs_at (bounds_of m) c.addr)) (λ c. runs_at (bounds_of m) c.addr) k.bytes (λ c e. e);
  break_from = lists.break_from;
  break_to = lists.break_to;
}

synced_as : (m : Memory) (k n : MemoryChanges) → n.bytes ≡ k.bytes → n.code ≡ filter (λ c. runs_at (bounds_of m) c.addr) k.bytes →
    n.program_break ≡ k.program_break →
    record k { code = filter (λ c. runs_at (bounds_of m) c.addr) k.bytes } ≡ n
synced_as m k n e f g = sym (same_parts n (record k { code = filter (λ c. runs_at (bounds_of m) c.addr) k.bytes }) e f g)

pub sync_lists : (m : Memory) (k n : MemoryChanges) → AreChanges m k → n.bytes ≡ k.bytes → n.code ≡ filter (λ c. runs_at (bounds_of m) c.addr) k.bytes →
    n.program_break ≡ k.program_break → AreChanges m n
sync_lists m k n lists e f g = subst (AreChanges m) (synced_as m k n e f g) (lists_synced m k lists)

pub sync_made : (m : Memory) (k n : MemoryChanges) → IsAsLoaded m → n.bytes ≡ k.bytes → n.code ≡ filter (λ c. runs_at (bounds_of m) c.addr) k.bytes →
    n.program_break ≡ k.program_break → memory_after n m ≡ synced (memory_after k m)
sync_made m k n is e f g = ap (λ (l : MemoryChanges). memory_after l m) (sym (synced_as m k n e f g)) ∙ made_synced m k is

pub ruleset syncing = (sync_made, sync_lists)

-- a moved break
pub break_lists : (m : Memory) (k : MemoryChanges) (b : ℕ) → AreChanges m k → 0x7f000000 ≤ b → b ≤ 0x7f080000 → AreChanges m (record k { program_break = b })
break_lists m k b lists l u = record {
  ascend = lists.ascend;
  differ = lists.differ;
  code_ascends = lists.code_ascends;
  code_differs = lists.code_differs;
  code_runs = lists.code_runs;
  break_from = l;
  break_to = u;
}

pub break_made : (m : Memory) (k : MemoryChanges) (b : ℕ) → memory_after (record k { program_break = b }) m ≡ record (memory_after k m) { program_break = b }
break_made m k b = sym (break-after m k b)

pub ruleset breaking = (break_lists, break_made)
