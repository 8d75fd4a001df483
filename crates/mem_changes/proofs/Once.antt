-- A memory has only one list of changes.
use Rattle.std.proofs.Common.{◌≡◌, ◌≢◌, ◌⊎◌, inl, inr, ℕ, zero, suc, ◌+◌, ◌-◌, ◌<◌, ◌≤◌, List, [], ◌∷◌, Bool, true, false, Option, Some, None, take, drop, find, map, cond, refl, ap, sym, subst, ◌∙◌, arith}
use Rattle.std.specs.Prelude.{◌||◌, if◌then◌else◌, IsTrue}
use Rattle.std.specs.List.{list_any, AllByRecursion}
use Rattle.std.specs.Option.{option_map}
use Rattle.std.proofs.lemmas.Bool.{cases_eq, cases_order}
use Rattle.std.proofs.lemmas.Bool.Decides.{nat_tests}
use Rattle.mem_regions.specs.Area.{Area}
use Rattle.mem_regions.specs.Memory.{Memory}
use Rattle.mem_regions.specs.Access.{bounds_of, area_bounds}
use Rattle.mem_regions.specs.Ranges.{lies_in, writes_in, bytes_in, writable_of}
use Rattle.mem_changes.specs.declared.changes.Change.{Change}
use Rattle.mem_changes.specs.MemoryChanges.{MemoryChanges}
use Rattle.mem_changes.specs.Applied.{byte_after, bytes_after, area_after, memory_after}
use Rattle.mem_changes.specs.Differing.{IsChange, AddressesRise, AreChangesOf, runs_in, runs_at}
use Rattle.mem_changes.specs.Images.{IsApart, ShareNoByte, HasCode, IsAsLoaded}
use Rattle.mem_changes.proofs.After.{byte_after-avoids, changed_here, changed_elsewhere}
use Rattle.mem_changes.proofs.Made.{avoids}
use Rattle.mem_changes.proofs.Written.{all_found, found_passes, writes-lies}

-- the change is of a byte with this property, which was different
record Alters (P : ℕ → ℕ → Type 0) (c : Change) : Type 0 where
  pub old : ℕ
  pub was : P c.addr old
  pub differs : old ≢ c.byte

head_byte : (c : Change) (cs : List Change) (o : ℕ) → AddressesRise (c ∷ cs) → byte_after (c ∷ cs) c.addr o ≡ c.byte
head_byte c cs o rise = ap (byte_after cs c.addr) (changed_here c.addr c.byte c.addr o refl)
    ∙ byte_after-avoids cs c.addr c.byte (avoids c.addr c.addr cs (omega arith) rise.0)

below_head : (c : Change) (cs : List Change) (y o : ℕ) → y < c.addr → AddressesRise (c ∷ cs) → byte_after (c ∷ cs) y o ≡ o
below_head c cs y o h rise = ap (byte_after cs y) (changed_elsewhere c.addr c.byte y o (λ e. omega arith))
    ∙ byte_after-avoids cs y o (avoids c.addr y cs (omega arith) rise.0)

same_change : (c d : Change) → c.addr ≡ d.addr → c.byte ≡ d.byte → c ≡ d
same_change c d e f = ap (λ (a : ℕ). let k : Change = record { addr = a; byte = c.byte } in k) e
    ∙ ap (λ (b : ℕ). let k : Change = record { addr = d.addr; byte = b } in k) f

-- a list that changes something differs from one that has no change there
first_differs : (P : ℕ → ℕ → Type 0) (c : Change) (cs ds : List Change) → AddressesRise (c ∷ cs) → Alters P c →
    ((y o : ℕ) → P y o → byte_after (c ∷ cs) y o ≡ byte_after ds y o) → ((o : ℕ) → byte_after ds c.addr o ≡ o) → ⊥
first_differs P c cs ds rise alters same none = alters.differs (sym (none alters.old) ∙ sym (same c.addr alters.old alters.was)
    ∙ head_byte c cs alters.old rise)

tails_same : (P : ℕ → ℕ → Type 0) (c d : Change) (cs ds : List Change) → c.addr ≡ d.addr → AddressesRise (c ∷ cs) → AddressesRise (d ∷ ds) →
    ((y o : ℕ) → P y o → byte_after (c ∷ cs) y o ≡ byte_after (d ∷ ds) y o) → (y o : ℕ) → P y o → byte_after cs y o ≡ byte_after ds y o
tails_same P c d cs ds e rise climb same y o p = go (cases_eq y c.addr) where
  go : (y ≡ c.addr) ⊎ (y ≡ c.addr → ⊥) → byte_after cs y o ≡ byte_after ds y o
  go (inl f) = byte_after-avoids cs y o (avoids c.addr y cs (omega arith) rise.0) ∙ sym (byte_after-avoids ds y o (avoids d.addr y ds (omega arith) climb.0))
  go (inr f) = sym (ap (byte_after cs y) (changed_elsewhere c.addr c.byte y o (λ g. f (sym g)))) ∙ same y o p
      ∙ ap (byte_after ds y) (changed_elsewhere d.addr d.byte y o (λ g. f (sym g ∙ sym e)))

-- ascending lists of changes with the same effect are the same
same_lists : (P : ℕ → ℕ → Type 0) (cs ds : List Change) → AddressesRise cs → AddressesRise ds → AllByRecursion (Alters P) cs → AllByRecursion (Alters P) ds →
    ((y o : ℕ) → P y o → byte_after cs y o ≡ byte_after ds y o) → cs ≡ ds
same_lists P [] [] rise climb a b same = refl
same_lists P [] (d ∷ ds) rise climb a b same = absurd (first_differs P d ds [] climb b.0 (λ y o p. sym (same y o p)) (λ o. refl))
same_lists P (c ∷ cs) [] rise climb a b same = absurd (first_differs P c cs [] rise a.0 same (λ o. refl))
same_lists P (c ∷ cs) (d ∷ ds) rise climb a b same = go (cases_order c.addr d.addr)
    (λ e. same_lists P cs ds rise.1 climb.1 a.1 b.1 (tails_same P c d cs ds e rise climb same)) where
      go : (c.addr ≡ d.addr) ⊎ ((c.addr < d.addr) ⊎ (d.addr < c.addr)) → (c.addr ≡ d.addr → cs ≡ ds) → (c ∷ cs) ≡ (d ∷ ds)
      go (inl e) later =
          let old : ℕ = a.0.old in
          let byte : c.byte ≡ d.byte = sym (head_byte c cs old rise) ∙ same c.addr old a.0.was ∙ ap (λ (y : ℕ). byte_after (d ∷ ds) y old) e
          ∙ head_byte d ds old climb in
          let head : c ≡ d = same_change c d e byte in
          let tail : cs ≡ ds = later e in
          cc
      go (inr (inl h)) later = absurd (first_differs P c cs (d ∷ ds) rise a.0 same (λ o. below_head d ds c.addr o h climb))
      go (inr (inr h)) later = absurd (first_differs P d ds (c ∷ cs) climb b.0 (λ y o p. sym (same y o p)) (λ o. below_head c cs d.addr o h rise))

-- the byte at an index, for two lists with the same effect
at_index : (cs ds : List Change) (base i : ℕ) (bytes : List ℕ) (o : ℕ) → take 1 (drop i bytes) ≡ o ∷ [] →
    bytes_after cs base bytes ≡ bytes_after ds base bytes →
    byte_after cs (base + i) o ≡ byte_after ds (base + i) o
at_index cs ds base zero [] o e f = absurd (cc)
at_index cs ds base (suc i) [] o e f = absurd (cc)
at_index cs ds base zero (b ∷ bytes) o e f =
    let same : b ≡ o = cc in
    let heads : byte_after cs base b ≡ byte_after ds base b = cc in
    let here : byte_after cs base o ≡ byte_after ds base o = subst (λ (z : ℕ). byte_after cs base z ≡ byte_after ds base z) same heads in
    let start : base ≡ base + 0 = omega arith in
    subst (λ (y : ℕ). byte_after cs y o ≡ byte_after ds y o) start here
at_index cs ds base (suc i) (b ∷ bytes) o e f =
    let tails : bytes_after cs (suc base) bytes ≡ bytes_after ds (suc base) bytes = cc in
    let later : byte_after cs (suc base + i) o ≡ byte_after ds (suc base + i) o = at_index cs ds (suc base) i bytes o e tails in
    let start : suc base + i ≡ base + suc i = omega arith in
    subst (λ (y : ℕ). byte_after cs y o ≡ byte_after ds y o) start later

-- functions that agree on a list of regions agree on a region that is found in it
found_same : (f g : Area → Area) (test : Area → Bool) (areas : List Area) (a : Area) → map f areas ≡ map g areas → find test areas ≡ Some a → f a ≡ g a
found_same f g test [] a e h = absurd (cc)
found_same f g test (b ∷ areas) a e h = go (test b) h (λ k. found_same f g test areas a (let t : map f areas ≡ map g areas = cc in t) k) where
  go : (t : Bool) → cond t (Some b) (find test areas) ≡ Some a → (find test areas ≡ Some a → f a ≡ g a) → f a ≡ g a
  go true k later = let same : b ≡ a = cc in subst (λ (z : Area). f z ≡ g z) same (let head : f b ≡ g b = cc in head)
  go false k later = later k

-- a byte that a program may write is in a region
record IsIn (areas : List Area) (y o : ℕ) : Type 0 where
  pub area : Area
  pub found : find (writes_in y 1) areas ≡ Some area
  pub byte : take 1 (drop (y - area.base) area.bytes) ≡ o ∷ []

is_in : (m : Memory) (y o : ℕ) → writable_of m y 1 ≡ Some (o ∷ []) → IsIn m.areas y o
unfolding writable_of
is_in m y o e = go (find (writes_in y 1) m.areas) refl e where
  go : (r : Option Area) → find (writes_in y 1) m.areas ≡ r → option_map (bytes_in y 1) r ≡ Some (o ∷ []) → IsIn m.areas y o
  go None h k = absurd (cc)
  go (Some a) h k = record { area = a; found = h; byte = (let b : bytes_in y 1 a ≡ o ∷ [] = cc in b) }

found_from : (areas : List Area) (y : ℕ) (a : Area) → find (writes_in y 1) areas ≡ Some a → a.base ≤ y
found_from areas y a h = let w : writes_in y 1 a ≡ true = found_passes (writes_in y 1) areas a h in grind (arith, nat_tests)

areas_of_same : (m : Memory) (j k : MemoryChanges) → memory_after j m ≡ memory_after k m → map (area_after j) m.areas ≡ map (area_after k) m.areas
unfolding memory_after
areas_of_same m j k e = ap (λ (n : Memory). n.areas) e

break_of_same : (m : Memory) (j k : MemoryChanges) → memory_after j m ≡ memory_after k m → j.program_break ≡ k.program_break
unfolding memory_after
break_of_same m j k e = ap (λ (n : Memory). n.program_break) e

bytes_same : (m : Memory) (j k : MemoryChanges) (y o : ℕ) → memory_after j m ≡ memory_after k m → writable_of m y 1 ≡ Some (o ∷ []) →
    byte_after j.bytes y o ≡ byte_after k.bytes y o
bytes_same m j k y o e h =
    let i = is_in m y o h in
    let areas : area_after j i.area ≡ area_after k i.area = found_same (area_after j) (area_after k) (writes_in y 1) m.areas i.area (areas_of_same m j k e)
    i.found in
    let bytes : bytes_after j.bytes i.area.base i.area.bytes ≡ bytes_after k.bytes i.area.base i.area.bytes = ap (λ (a : Area). a.bytes) areas in
    let start : i.area.base + (y - i.area.base) ≡ y = let l = found_from m.areas y i.area i.found in omega arith in
    subst (λ (z : ℕ). byte_after j.bytes z o ≡ byte_after k.bytes z o) start
    (at_index j.bytes k.bytes i.area.base (y - i.area.base) i.area.bytes o i.byte bytes)

alters_bytes : (m : Memory) (cs : List Change) → AllByRecursion (IsChange m) cs → AllByRecursion (Alters (λ y o. writable_of m y 1 ≡ Some (o ∷ []))) cs
alters_bytes m [] h = tt
alters_bytes m (c ∷ cs) h = (record { old = h.0.loaded; was = h.0.was; differs = h.0.differs }, alters_bytes m cs h.1)

-- the region of a byte that a program may write is executable if instructions are fetched at the byte
other_runs : (a : Area) (areas : List Area) (y : ℕ) → AllByRecursion (IsApart a) areas → lies_in y 1 a ≡ true →
    list_any (runs_in y) (map area_bounds areas) ≡ true → ⊥
other_runs a [] y apart lies e = absurd (cc)
other_runs a (b ∷ areas) y apart lies e = go (runs_in y (area_bounds b)) refl e (other_runs a areas y apart.1 lies) where
  go : (t : Bool) → runs_in y (area_bounds b) ≡ t → (t || list_any (runs_in y) (map area_bounds areas)) ≡ true →
      (list_any (runs_in y) (map area_bounds areas) ≡ true → ⊥) → ⊥
  go true h k later = apart.0 y (grind (arith, nat_tests)) (grind (arith, nat_tests))
  go false h k later = later k

runs_here : (areas : List Area) (y : ℕ) (a : Area) → ShareNoByte areas → find (writes_in y 1) areas ≡ Some a →
    list_any (runs_in y) (map area_bounds areas) ≡ true → a.exec ≡ true
runs_here [] y a apart h e = absurd (cc)
runs_here (b ∷ areas) y a apart h e = go (writes_in y 1 b) refl h (runs_in y (area_bounds b)) refl e (runs_here areas y a apart.1) where
  go : (t : Bool) → writes_in y 1 b ≡ t → cond t (Some b) (find (writes_in y 1) areas) ≡ Some a → (r : Bool) → runs_in y (area_bounds b) ≡ r →
      (r || list_any (runs_in y) (map area_bounds areas)) ≡ true → (find (writes_in y 1) areas ≡ Some a → list_any (runs_in y) (map area_bounds areas) ≡ true →
      a.exec ≡ true) → a.exec ≡ true
  go true w k true r s later = let same : b ≡ a = cc in subst (λ (z : Area). z.exec ≡ true) same (let x : b.exec ≡ true = grind (arith, nat_tests) in x)
  go true w k false r s later = absurd (other_runs b areas y apart.0 (writes-lies y 1 b w) s)
  go false w k false r s later = later k s
  go false w k true r s later = absurd (all_found (IsApart b) (writes_in y 1) areas a apart.0 k y (grind (arith, nat_tests))
      (let t : writes_in y 1 a ≡ true = found_passes (writes_in y 1) areas a k in writes-lies y 1 a t))

code_of : (a : Area) → a.exec ≡ true → HasCode a → a.code ≡ a.bytes
code_of a e h = h ∙ ap (λ (t : Bool). if t then a.bytes else []) e

-- a byte of the code that may be written
abbrev CodeAt : Memory → ℕ → ℕ → Type 0
CodeAt m y o = (writable_of m y 1 ≡ Some (o ∷ [])) × IsTrue (runs_at (bounds_of m) y)

runs_true : (m : Memory) (y : ℕ) → IsTrue (runs_at (bounds_of m) y) → list_any (runs_in y) (map area_bounds m.areas) ≡ true
unfolding runs_at bounds_of
runs_true m y h = h

code_same : (m : Memory) (j k : MemoryChanges) (y o : ℕ) → IsAsLoaded m → memory_after j m ≡ memory_after k m → CodeAt m y o →
    byte_after j.code y o ≡ byte_after k.code y o
code_same m j k y o is e h =
    let i = is_in m y o h.0 in
    let areas : area_after j i.area ≡ area_after k i.area = found_same (area_after j) (area_after k) (writes_in y 1) m.areas i.area (areas_of_same m j k e)
    i.found in
    let exec : i.area.exec ≡ true = runs_here m.areas y i.area is.apart i.found (runs_true m y h.1) in
    let code : i.area.code ≡ i.area.bytes = code_of i.area exec (all_found HasCode (writes_in y 1) m.areas i.area is.code i.found) in
    let made : bytes_after j.code i.area.base i.area.code ≡ bytes_after k.code i.area.base i.area.code = ap (λ (a : Area). a.code) areas in
    let bytes : bytes_after j.code i.area.base i.area.bytes ≡ bytes_after k.code i.area.base i.area.bytes
    = subst (λ (l : List ℕ). bytes_after j.code i.area.base l ≡ bytes_after k.code i.area.base l) code made in
    let start : i.area.base + (y - i.area.base) ≡ y = let l = found_from m.areas y i.area i.found in omega arith in
    subst (λ (z : ℕ). byte_after j.code z o ≡ byte_after k.code z o) start (at_index j.code k.code i.area.base (y - i.area.base) i.area.bytes o i.byte bytes)

alters_code : (m : Memory) (cs : List Change) → AllByRecursion (IsChange m) cs → AllByRecursion (λ c. IsTrue (runs_at (bounds_of m) c.addr)) cs →
    AllByRecursion (Alters (CodeAt m)) cs
alters_code m [] h r = tt
alters_code m (c ∷ cs) h r = (record { old = h.0.loaded; was = (h.0.was, r.0); differs = h.0.differs }, alters_code m cs h.1 r.1)

pub listed_once : (m other : Memory) (j k : MemoryChanges) → IsAsLoaded m → AreChangesOf m other j → AreChangesOf m other k → j ≡ k
listed_once m other j k is a b =
    let e : memory_after j m ≡ memory_after k m = sym a.makes ∙ b.makes in
    let bytes : j.bytes ≡ k.bytes = same_lists (λ y o. writable_of m y 1 ≡ Some (o ∷ [])) j.bytes k.bytes a.lists.ascend b.lists.ascend
    (alters_bytes m j.bytes a.lists.differ) (alters_bytes m k.bytes b.lists.differ) (λ y o h. bytes_same m j k y o e h) in
    let code : j.code ≡ k.code = same_lists (CodeAt m) j.code k.code a.lists.code_ascends b.lists.code_ascends
    (alters_code m j.code a.lists.code_differs a.lists.code_runs) (alters_code m k.code b.lists.code_differs b.lists.code_runs)
    (λ y o h. code_same m j k y o is e h) in
    let same_break : j.program_break ≡ k.program_break = break_of_same m j k e in
    ap (λ (l : List Change). let n : MemoryChanges = record j { bytes = l } in n) bytes
    ∙ ap (λ (l : List Change). let n : MemoryChanges = record j { bytes = k.bytes; code = l } in n) code
    ∙ ap (λ (n : ℕ). let p : MemoryChanges = record k { program_break = n } in p) same_break
