-- What a store overwrites, written back: memory is as before, even if the store is misaligned and writes nothing.
use Rattle.std.proofs.Common.{◌≡◌, ℕ, ◌+◌, ◌-◌, ◌≤◌, List, [], ◌∷◌, ◌++◌, Bool, true, false, Option, Some, None, IsTrue, length, take, drop, find, refl, ap, sym, ◌∙◌, arith, append_assoc, length-drop}
use Rattle.std.specs.Prelude.{if◌then◌else◌}
use Rattle.std.specs.Option.{option_map}
use Rattle.std.proofs.lemmas.List.{length-take, take-append-drop}
use Rattle.std.proofs.lemmas.Bool.Decides.{nat_tests}
use Rattle.mem_regions.specs.Area.{Area}
use Rattle.mem_regions.specs.Memory.{Memory}
use Rattle.mem_regions.specs.Access.{is_aligned}
use Rattle.mem_regions.specs.Bytes.{le_bytes}
use Rattle.mem_regions.specs.Ranges.{lies_in, writes_in, bytes_in, writable_of}
use Rattle.mem_regions.specs.Writing.{overwritten, area_with, first_changed, memory_with, stored}
use Rattle.mem_regions.proofs.Writes.{writes-lies}
use Rattle.mem_regions.proofs.WriteBack.{overwritten-between, stored-back}
use Rattle.rv_inst.specs.declared.accesses.Access.{Access}
use Rattle.cf_semantics.specs.state.Options.{on}
use Rattle.cf_semantics.specs.moves.Kept.{bytes_back, kept_range}

-- a range that may be written in a region ends within it
within : (addr len : ℕ) (a : Area) → writes_in addr len a ≡ true → (addr - a.base) + len ≤ length a.bytes
within addr len a e = let lies : IsTrue (lies_in addr len a) = writes-lies addr len a e in grind (arith, nat_tests)

same_between : (xs ys zs bytes : List ℕ) (at : ℕ) → (xs ++ ys) ++ zs ≡ bytes → length xs ≡ at → overwritten bytes at ys ≡ bytes
same_between xs ys zs bytes at e f = rw (← e, ← f) (overwritten-between xs ys zs ys refl)

-- bytes that are overwritten with themselves are unchanged
overwritten_same : (bytes : List ℕ) (at len : ℕ) → at + len ≤ length bytes → overwritten bytes at (take len (drop at bytes)) ≡ bytes
overwritten_same bytes at len b =
    let whole : (take at bytes ++ take len (drop at bytes)) ++ drop len (drop at bytes) ≡ bytes = rw (append_assoc, take-append-drop, take-append-drop) refl in
    let front : length (take at bytes) ≡ at = rw length-take (omega arith) in
    same_between (take at bytes) (take len (drop at bytes)) (drop len (drop at bytes)) bytes at whole front

area_with_same : (addr len : ℕ) (a : Area) → writes_in addr len a ≡ true → area_with addr (bytes_in addr len a) a ≡ a
area_with_same addr len a e = ap (λ (bytes : List ℕ). let b : Area = record a { bytes = bytes } in
    b) (overwritten_same a.bytes (addr - a.base) len (within addr len a e))

bytes_in_length : (addr len : ℕ) (a : Area) → writes_in addr len a ≡ true → length (bytes_in addr len a) ≡ len
bytes_in_length addr len a e = let b = within addr len a e in rw (length-take, length-drop) (omega (arith, b))

-- what is known of the bytes that a write overwrites, by the regions
record Found (addr len : ℕ) (old : List ℕ) (areas : List Area) : Type 0 where
  long : length old ≡ len
  same : first_changed (writes_in addr len) (area_with addr old) areas ≡ areas

found : (addr len : ℕ) (old : List ℕ) (areas : List Area) → option_map (bytes_in addr len) (find (writes_in addr len) areas) ≡ Some old →
    Found addr len old areas
found addr len old [] e = absurd (cc)
found addr len old (x ∷ xs) e = by (writes_in addr len x) refl e (found addr len old xs)
  where
    by : (b : Bool) → writes_in addr len x ≡ b → option_map (bytes_in addr len) (if b then Some x else find (writes_in addr len) xs) ≡ Some old
        → (option_map (bytes_in addr len) (find (writes_in addr len) xs) ≡ Some old → Found addr len old xs) → Found addr len old (x ∷ xs)
    by true f e later =
        let is : bytes_in addr len x ≡ old = cc in
        record {
          long = ap length (sym is) ∙ bytes_in_length addr len x f;
          same = rw f (ap (λ (a : Area). a ∷ xs) (ap (λ (w : List ℕ). area_with addr w x) (sym is) ∙ area_with_same addr len x f));
        }
    by false f e later = let h = later e in record { long = h.long; same = rw f (ap (λ (rest : List Area). x ∷ rest) h.same) }

-- if no region has them, a write changes nothing
nowhere : (addr len : ℕ) (w : List ℕ) (areas : List Area) → option_map (bytes_in addr len) (find (writes_in addr len) areas) ≡ None →
    first_changed (writes_in addr len) (area_with addr w) areas ≡ areas
nowhere addr len w [] e = refl
nowhere addr len w (x ∷ xs) e = by (writes_in addr len x) refl e (nowhere addr len w xs)
  where
    by : (b : Bool) → writes_in addr len x ≡ b → option_map (bytes_in addr len) (if b then Some x else find (writes_in addr len) xs) ≡ None
        → (option_map (bytes_in addr len) (find (writes_in addr len) xs) ≡ None → first_changed (writes_in addr len) (area_with addr w) xs ≡ xs) →
        first_changed (writes_in addr len) (area_with addr w) (x ∷ xs) ≡ x ∷ xs
    by true f e later = absurd (cc)
    by false f e later = rw f (ap (λ (rest : List Area). x ∷ rest) (later e))

with_areas : (m : Memory) (areas : List Area) → areas ≡ m.areas → record m { areas = areas } ≡ m
with_areas m areas e = rw e refl

stored_nowhere : (m : Memory) (addr width n : ℕ) → writable_of m addr width ≡ None → stored m addr width n ≡ m
unfolding stored memory_with writable_of
stored_nowhere m addr width n e = by (is_aligned addr width)
  where
    by : (b : Bool) → (if b then memory_with m addr width (le_bytes width n) else m) ≡ m
    by true = with_areas m _ (nowhere addr width (le_bytes width n) m.areas e)
    by false = refl

stored_somewhere : (m : Memory) (addr width n : ℕ) (old : List ℕ) → writable_of m addr width ≡ Some old →
    memory_with (stored m addr width n) addr (length old) old ≡ m
unfolding memory_with writable_of
stored_somewhere m addr width n old e =
    let h = found addr width old m.areas e in
    ap (λ (k : ℕ). memory_with (stored m addr width n) addr k old) h.long ∙ by (is_aligned addr width) refl h.same
  where
    by : (b : Bool) → is_aligned addr width ≡ b → first_changed (writes_in addr width) (area_with addr old) m.areas ≡ m.areas →
        memory_with (stored m addr width n) addr width old ≡ m
    by true f same = stored-back m addr width n old f e
    by false f same = ap (λ (k : Memory). memory_with k addr width old) (unwritten f) ∙ with_areas m _ same
      where
        unwritten : is_aligned addr width ≡ false → stored m addr width n ≡ m
        unwritten f = unfold stored in rw f refl

-- an access is undone by writing back what it overwrote
pub access_back : (m : Memory) (access : Access) → bytes_back (kept_range m access) (if access.write then stored m access.addr access.width access.value else m)
    ≡ m
access_back m access = by access.write
  where
    at : (o : Option (List ℕ)) → writable_of m access.addr access.width ≡ o
        → bytes_back (on o None (λ bytes. Some (record { addr = access.addr; bytes = bytes }))) (stored m access.addr access.width access.value) ≡ m
    at None e = stored_nowhere m access.addr access.width access.value e
    at (Some old) e = stored_somewhere m access.addr access.width access.value old e

    by : (w : Bool) → bytes_back (if w then on (writable_of m access.addr access.width) None
        (λ bytes. Some (record { addr = access.addr; bytes = bytes })) else None) (if w then stored m access.addr access.width access.value else m) ≡ m
    by true = at (writable_of m access.addr access.width) refl
    by false = refl
