-- A write into a memory with changes made gives the memory with other changes made.
use Rattle.std.proofs.Common.{◌≡◌, ◌⊎◌, inl, inr, ℕ, ◌+◌, ◌-◌, ◌<◌, ◌≤◌, List, [], ◌∷◌, ◌++◌, Bool, true, false, Option, Some, None, IsTrue, length, take, drop, find, map, cond, refl, ap, sym, subst, ◌∙◌, arith, append_assoc, length-append, length-drop}
use Rattle.std.specs.List.{AllByRecursion}
use Rattle.std.specs.Option.{option_map}
use Rattle.std.proofs.lemmas.List.{length-take, take-append-drop}
use Rattle.std.proofs.lemmas.Bool.{cases_lt}
use Rattle.std.proofs.lemmas.Bool.Decides.{nat_tests}
use Rattle.mem_regions.specs.Area.{Area}
use Rattle.mem_regions.specs.Memory.{Memory}
use Rattle.mem_regions.specs.Ranges.{lies_in, writes_in, bytes_in, writable_of}
use Rattle.mem_regions.specs.Writing.{overwritten, area_with, first_changed, memory_with}
use Rattle.mem_regions.proofs.WriteBack.{overwritten-between}
use Rattle.mem_changes.specs.declared.changes.Change.{Change}
use Rattle.mem_changes.specs.MemoryChanges.{MemoryChanges}
use Rattle.mem_changes.specs.Applied.{byte_after, bytes_after, area_after, memory_after}
use Rattle.mem_changes.specs.Images.{IsApart, ShareNoByte}
use Rattle.mem_changes.proofs.After.{length-bytes_after, bytes_after-append, bytes_agree}

-- outside a range two lists of changes have the same effect
pub record SameOutside (x n : ℕ) (cs ds : List Change) : Type 0 where
  pub below : (y o : ℕ) → y < x → byte_after cs y o ≡ byte_after ds y o
  pub above : (y o : ℕ) → x + n ≤ y → byte_after cs y o ≡ byte_after ds y o

-- bytes in three pieces, of which the middle one is written
pieces : (cs ds : List Change) (base : ℕ) (p m q w : List ℕ) → length w ≡ length m → SameOutside (base + length p) (length w) cs ds →
    bytes_after ds (base + length p) m ≡ w → overwritten (bytes_after cs base ((p ++ m) ++ q)) (length p) w ≡ bytes_after ds base ((p ++ m) ++ q)
pieces cs ds base p m q w e same f =
    let P : List ℕ = bytes_after cs base p in
    let M : List ℕ = bytes_after cs (base + length p) m in
    let Q : List ℕ = bytes_after cs (base + length (p ++ m)) q in
    let split : (ks : List Change) → bytes_after ks base ((p ++ m) ++ q) ≡ (bytes_after ks base p ++ bytes_after ks (base + length p) m) ++ bytes_after ks
    (base + length (p ++ m)) q
    = λ ks. bytes_after-append ks base (p ++ m) q ∙ ap (λ (l : List ℕ). l ++ bytes_after ks (base + length (p ++ m)) q) (bytes_after-append ks base p m) in
    let front : P ≡ bytes_after ds base p = bytes_agree cs ds base p (λ y o g h. same.below y o h) in
    let back : Q ≡ bytes_after ds (base + length (p ++ m)) q = bytes_agree cs ds (base + length (p ++ m)) q
    (λ y o g h. same.above y o (let l : length (p ++ m) ≡ length p + length m = length-append p m in omega arith)) in
    let written : overwritten ((P ++ M) ++ Q) (length P) w ≡ (P ++ w) ++ Q =
    overwritten-between P M Q w (e ∙ sym (length-bytes_after cs (base + length p) m)) in
    ap (λ (l : List ℕ). overwritten l (length p) w) (split cs)
    ∙ ap (λ (i : ℕ). overwritten ((P ++ M) ++ Q) i w) (sym (length-bytes_after cs base p))
    ∙ written
    ∙ ap (λ (l : List ℕ). (l ++ w) ++ Q) front
    ∙ ap (λ (l : List ℕ). (bytes_after ds base p ++ w) ++ l) back
    ∙ ap (λ (l : List ℕ). (bytes_after ds base p ++ l) ++ bytes_after ds (base + length (p ++ m)) q) (sym f)
    ∙ sym (split ds)

-- the bytes of a region, written from an index on
written_bytes : (cs ds : List Change) (base at n : ℕ) (bytes w : List ℕ) → at + n ≤ length bytes → length w ≡ n → SameOutside (base + at) n cs ds →
    bytes_after ds (base + at) (take n (drop at bytes)) ≡ w → overwritten (bytes_after cs base bytes) at w ≡ bytes_after ds base bytes
written_bytes cs ds base at n bytes w within e same f =
    let p : List ℕ = take at bytes in
    let m : List ℕ = take n (drop at bytes) in
    let q : List ℕ = drop n (drop at bytes) in
    let whole : (p ++ m) ++ q ≡ bytes = rw (append_assoc, take-append-drop, take-append-drop) refl in
    let front : length p ≡ at = rw length-take (omega arith) in
    let middle : length w ≡ length m = rw (length-take, length-drop) (omega arith) in
    let same' : SameOutside (base + length p) (length w) cs ds = rw (front, e) same in
    let f' : bytes_after ds (base + length p) m ≡ w = rw front f in
    subst (λ (l : List ℕ). overwritten (bytes_after cs base l) at w ≡ bytes_after ds base l) whole
    (subst (λ (i : ℕ). overwritten (bytes_after cs base ((p ++ m) ++ q)) i w ≡ bytes_after ds base ((p ++ m) ++ q)) front
    (pieces cs ds base p m q w middle same' f'))

-- the changes of two memories, the second of which is after a write
pub record IsWritten (x : ℕ) (w : List ℕ) (j k : MemoryChanges) : Type 0 where
  pub bytes : SameOutside x (length w) j.bytes k.bytes
  pub code : j.code ≡ k.code
  pub same_break : j.program_break ≡ k.program_break

-- the region that is written
area_here : (j k : MemoryChanges) (x : ℕ) (w : List ℕ) (a : Area) → lies_in x (length w) a ≡ true → IsWritten x w j k →
    bytes_after k.bytes x (bytes_in x (length w) a) ≡ w → area_with x w (area_after j a) ≡ area_after k a
area_here j k x w a lies is f =
    let start : a.base + (x - a.base) ≡ x = grind (arith, nat_tests) in
    let within : (x - a.base) + length w ≤ length a.bytes = grind (arith, nat_tests) in
    let same : SameOutside (a.base + (x - a.base)) (length w) j.bytes k.bytes = rw start is.bytes in
    let g : bytes_after k.bytes (a.base + (x - a.base)) (take (length w) (drop (x - a.base) a.bytes)) ≡ w = rw start f in
    let bytes : overwritten (bytes_after j.bytes a.base a.bytes) (x - a.base) w ≡ bytes_after k.bytes a.base a.bytes
    = written_bytes j.bytes k.bytes a.base (x - a.base) (length w) a.bytes w within refl same g in
    let code : bytes_after j.code a.base a.code ≡ bytes_after k.code a.base a.code = ap (λ (cs : List Change). bytes_after cs a.base a.code) is.code in
    let made : List ℕ → List ℕ → Area = λ b c. record a { bytes = b; code = c } in
    ap (λ (b : List ℕ). made b (bytes_after j.code a.base a.code)) bytes ∙ ap (made (bytes_after k.bytes a.base a.bytes)) code

pub in_area : (a : Area) (y : ℕ) → a.base ≤ y → y < a.base + length a.bytes → IsTrue (lies_in y 1 a)
in_area a y h l = grind (arith, nat_tests)

pub in_range : (a : Area) (x n y : ℕ) → lies_in x n a ≡ true → x ≤ y → y < x + n → IsTrue (lies_in y 1 a)
in_range a x n y e h l = grind (arith, nat_tests)

-- another region
area_away : (j k : MemoryChanges) (x : ℕ) (w : List ℕ) (a : Area) → IsWritten x w j k → ((y : ℕ) → x ≤ y → y < x + length w → IsTrue (lies_in y 1 a) → ⊥) →
    area_after j a ≡ area_after k a
area_away j k x w a is away =
    let agree : (y o : ℕ) → a.base ≤ y → y < a.base + length a.bytes → byte_after j.bytes y o ≡ byte_after k.bytes y o = at_each in
    let bytes : bytes_after j.bytes a.base a.bytes ≡ bytes_after k.bytes a.base a.bytes = bytes_agree j.bytes k.bytes a.base a.bytes agree in
    let code : bytes_after j.code a.base a.code ≡ bytes_after k.code a.base a.code = ap (λ (cs : List Change). bytes_after cs a.base a.code) is.code in
    let made : List ℕ → List ℕ → Area = λ b c. record a { bytes = b; code = c } in
    ap (λ (b : List ℕ). made b (bytes_after j.code a.base a.code)) bytes ∙ ap (made (bytes_after k.bytes a.base a.bytes)) code
  where
    at_each : (y o : ℕ) → a.base ≤ y → y < a.base + length a.bytes → byte_after j.bytes y o ≡ byte_after k.bytes y o
    at_each y o h l = sides (cases_lt y x) (cases_lt y (x + length w)) where
      sides : (y < x) ⊎ (x ≤ y) → (y < x + length w) ⊎ (x + length w ≤ y) → byte_after j.bytes y o ≡ byte_after k.bytes y o
      sides (inl b) s = is.bytes.below y o b
      sides (inr b) (inr s) = is.bytes.above y o s
      sides (inr b) (inl s) = absurd (away y b s (in_area a y h l))

-- what holds for each region holds for one that is found
pub all_found : (P : Area → Type 0) (test : Area → Bool) (areas : List Area) (f : Area) → AllByRecursion P areas → find test areas ≡ Some f → P f
all_found P test [] f h e = absurd (cc)
all_found P test (a ∷ areas) f h e = go (test a) e (all_found P test areas f h.1) where
  go : (t : Bool) → cond t (Some a) (find test areas) ≡ Some f → (find test areas ≡ Some f → P f) → P f
  go true e later = subst P (let k : a ≡ f = cc in k) h.0
  go false e later = later e

pub found_passes : (test : Area → Bool) (areas : List Area) (f : Area) → find test areas ≡ Some f → test f ≡ true
found_passes test [] f e = absurd (cc)
found_passes test (a ∷ areas) f e = go (test a) refl e (found_passes test areas f) where
  go : (t : Bool) → test a ≡ t → cond t (Some a) (find test areas) ≡ Some f → (find test areas ≡ Some f → test f ≡ true) → test f ≡ true
  go true k e later = let same : a ≡ f = cc in subst (λ b. test b ≡ true) same k
  go false k e later = later e

pub writes-lies : (x n : ℕ) (a : Area) → writes_in x n a ≡ true → lies_in x n a ≡ true
writes-lies x n a e = grind (arith, nat_tests)

-- the regions after the one that is written
areas_away : (j k : MemoryChanges) (x : ℕ) (w : List ℕ) (a : Area) (areas : List Area) → IsWritten x w j k → lies_in x (length w) a ≡ true →
    AllByRecursion (IsApart a) areas → map (area_after j) areas ≡ map (area_after k) areas
areas_away j k x w a [] is lies apart = refl
areas_away j k x w a (b ∷ areas) is lies apart =
    let head : area_after j b ≡ area_after k b = area_away j k x w b is (λ y h l t. apart.0 y (in_range a x (length w) y lies h l) t) in
    let tail : map (area_after j) areas ≡ map (area_after k) areas = areas_away j k x w a areas is lies apart.1 in
    cc

pub writes_after : (k : MemoryChanges) (x n : ℕ) (a : Area) → writes_in x n (area_after k a) ≡ writes_in x n a
writes_after k x n a = rw (length-bytes_after k.bytes a.base a.bytes) refl

-- the regions; the one that has the range is written
pub areas_written : (j k : MemoryChanges) (x : ℕ) (w : List ℕ) (areas : List Area) (old : List ℕ) → ShareNoByte areas → IsWritten x w j k → 0 < length w →
    option_map (bytes_in x (length w)) (find (writes_in x (length w)) areas) ≡ Some old → bytes_after k.bytes x old ≡ w →
    first_changed (writes_in x (length w)) (area_with x w) (map (area_after j) areas) ≡ map (area_after k) areas
areas_written j k x w [] old apart is some e f = absurd (cc)
areas_written j k x w (a ∷ areas) old apart is some e f =
    rw (writes_after j x (length w) a) (go (writes_in x (length w) a) refl e (areas_written j k x w areas old apart.1 is some))
  where
    away : (g : Area) → find (writes_in x (length w)) areas ≡ Some g → (y : ℕ) → x ≤ y → y < x + length w → IsTrue (lies_in y 1 a) → ⊥
    away g h y l u t = all_found (IsApart a) (writes_in x (length w)) areas g apart.0 h y t
        (in_range g x (length w) y (writes-lies x (length w) g (found_passes (writes_in x (length w)) areas g h)) l u)

    other : (o : Option Area) → find (writes_in x (length w)) areas ≡ o → option_map (bytes_in x (length w)) o ≡ Some old → area_after j a ≡ area_after k a
    other None h e = absurd (cc)
    other (Some g) h e = area_away j k x w a is (away g h)

    go : (t : Bool) → writes_in x (length w) a ≡ t → option_map (bytes_in x (length w)) (cond t (Some a) (find (writes_in x (length w)) areas)) ≡ Some old →
        (option_map (bytes_in x (length w)) (find (writes_in x (length w)) areas) ≡ Some old → bytes_after k.bytes x old ≡ w →
        first_changed (writes_in x (length w)) (area_with x w) (map (area_after j) areas) ≡ map (area_after k) areas) →
        cond t (area_with x w (area_after j a) ∷ map (area_after j) areas)
        (area_after j a ∷ first_changed (writes_in x (length w)) (area_with x w) (map (area_after j) areas))
        ≡ area_after k a ∷ map (area_after k) areas
    go true t e later =
        let lies : lies_in x (length w) a ≡ true = writes-lies x (length w) a t in
        let same : bytes_in x (length w) a ≡ old = cc in
        let head : area_with x w (area_after j a) ≡ area_after k a = area_here j k x w a lies is (ap (bytes_after k.bytes x) same ∙ f) in
        let tail : map (area_after j) areas ≡ map (area_after k) areas = areas_away j k x w a areas is lies apart.0 in
        cc
    go false t e later =
        let head : area_after j a ≡ area_after k a = other (find (writes_in x (length w)) areas) refl e in
        let tail : first_changed (writes_in x (length w)) (area_with x w) (map (area_after j) areas) ≡ map (area_after k) areas = later e f in
        cc

-- a write into the changed memory gives the memory with other changes
pub memory_written : (m : Memory) (j k : MemoryChanges) (x n : ℕ) (w old : List ℕ) → ShareNoByte m.areas → IsWritten x w j k → length w ≡ n → 0 < n →
    writable_of m x n ≡ Some old → bytes_after k.bytes x old ≡ w → memory_with (memory_after j m) x n w ≡ memory_after k m
unfolding memory_with memory_after writable_of
memory_written m j k x n w old apart is e some found f =
    let there : option_map (bytes_in x (length w)) (find (writes_in x (length w)) m.areas) ≡ Some old = rw e found in
    let much : 0 < length w = rw e some in
    let areas : first_changed (writes_in x (length w)) (area_with x w) (map (area_after j) m.areas) ≡ map (area_after k) m.areas =
    areas_written j k x w m.areas old apart is much there f in
    let made : List Area → ℕ → Memory = λ l b. record { areas = l; program_break = b } in
    rw (← e) (ap (λ (l : List Area). made l j.program_break) areas ∙ ap (made (map (area_after k) m.areas)) is.same_break)
