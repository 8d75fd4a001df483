-- A write is undone by writing back the earlier bytes.
use Rattle.std.proofs.Common.{◌≡◌, ℕ, ◌+◌, ◌-◌, ◌/◌, ◌≤◌, zero, suc, List, [], ◌∷◌, ◌++◌, Bool, true, false, Some, IsTrue, length, take, drop, find, cond, refl, ap, sym, arith, append_assoc, length-append, length-drop}
use Rattle.std.specs.Option.{option_map}
use Rattle.std.proofs.Math.Seq.{take-append_seam, drop-append_seam}
use Rattle.std.proofs.lemmas.List.{length-take, take_all, take-append-drop}
use Rattle.std.proofs.lemmas.Bool.Decides.{nat_tests}
use Rattle.mem_regions.specs.Area.{Area}
use Rattle.mem_regions.specs.Memory.{Memory}
use Rattle.mem_regions.specs.Access.{is_aligned}
use Rattle.mem_regions.specs.Bytes.{le_bytes}
use Rattle.mem_regions.specs.Ranges.{lies_in, writes_in, bytes_in, writable_of}
use Rattle.mem_regions.specs.Writing.{overwritten, area_with, first_changed, memory_with, stored}
use Rattle.mem_regions.proofs.Kept.{length-overwritten}
use Rattle.mem_regions.proofs.Writes.{writes-lies}

-- the bytes between two others are overwritten
pub overwritten-between : (xs ys zs w : List ℕ) → length w ≡ length ys → overwritten ((xs ++ ys) ++ zs) (length xs) w ≡ (xs ++ w) ++ zs
overwritten-between xs ys zs w e =
    let front : take (length xs) ((xs ++ ys) ++ zs) ≡ xs = rw append_assoc (take-append_seam xs (ys ++ zs)) in
    let seam : length xs + length w ≡ length (xs ++ ys) = rw (length-append, e) refl in
    let back : drop (length xs + length w) ((xs ++ ys) ++ zs) ≡ zs = rw seam (drop-append_seam (xs ++ ys) zs) in
    let all : length ((xs ++ w) ++ zs) ≤ length ((xs ++ ys) ++ zs) = simp length-append (omega arith) in
    rw (front, back) (take_all (length ((xs ++ ys) ++ zs)) ((xs ++ w) ++ zs) all)

back_between : (xs ys zs w bytes : List ℕ) (at : ℕ) → (xs ++ ys) ++ zs ≡ bytes → length xs ≡ at → length w ≡ length ys →
    overwritten (overwritten bytes at w) at ys ≡ bytes
back_between xs ys zs w bytes at e f g = rw (← e, ← f, overwritten-between xs ys zs w g) (overwritten-between xs w zs ys (sym g))

-- bytes that were overwritten are restored when they are written back
pub overwritten-back : (bytes : List ℕ) (at len : ℕ) (w : List ℕ) → at + len ≤ length bytes → length w ≡ len →
    overwritten (overwritten bytes at w) at (take len (drop at bytes)) ≡ bytes
overwritten-back bytes at len w within e =
    let whole : (take at bytes ++ take len (drop at bytes)) ++ drop len (drop at bytes) ≡ bytes = rw (append_assoc, take-append-drop, take-append-drop) refl in
    let front : length (take at bytes) ≡ at = rw length-take (omega arith) in
    let middle : length w ≡ length (take len (drop at bytes)) = rw (length-take, length-drop) (omega arith) in
    back_between (take at bytes) (take len (drop at bytes)) (drop len (drop at bytes)) w bytes at whole front middle

-- a region that was written is as before when its bytes are written back
pub area_with-back : (addr len : ℕ) (w : List ℕ) (a : Area) → writes_in addr len a ≡ true → length w ≡ len →
    area_with addr (bytes_in addr len a) (area_with addr w a) ≡ a
area_with-back addr len w a e f =
    let lies : IsTrue (lies_in addr len a) = writes-lies addr len a e in
    let within : (addr - a.base) + len ≤ length a.bytes = grind (arith, nat_tests) in
    ap (λ (bytes : List ℕ). let b : Area = record a { bytes = bytes } in b) (overwritten-back a.bytes (addr - a.base) len w within f)

-- a region that was written may be written as before
writes_in-area_with : (addr len : ℕ) (w : List ℕ) (a : Area) → writes_in addr len (area_with addr w a) ≡ writes_in addr len a
writes_in-area_with addr len w a = rw (length-overwritten a.bytes (addr - a.base) w) refl

-- the same for a list of regions, by whether the first may be written
back_step : (addr len : ℕ) (w old : List ℕ) (x : Area) (xs changed : List Area) (b : Bool) → writes_in addr len x ≡ b →
    writes_in addr len (area_with addr w x) ≡ b → length w ≡ len → option_map (bytes_in addr len) (cond b (Some x) (find (writes_in addr len) xs)) ≡ Some old
    → (option_map (bytes_in addr len) (find (writes_in addr len) xs) ≡ Some old → first_changed (writes_in addr len) (area_with addr old) changed ≡ xs)
    → first_changed (writes_in addr len) (area_with addr old) (cond b (area_with addr w x ∷ xs) (x ∷ changed)) ≡ x ∷ xs
back_step addr len w old x xs changed true e f g h later = let same : bytes_in addr len x ≡ old = cc in
    rw (f, ← same) (ap (λ (a : Area). a ∷ xs) (area_with-back addr len w x e g))
back_step addr len w old x xs changed false e f g h later = rw e (ap (λ (rest : List Area). x ∷ rest) (later h))

first_changed-back : (addr len : ℕ) (w old : List ℕ) (areas : List Area) → length w ≡ len →
    option_map (bytes_in addr len) (find (writes_in addr len) areas) ≡ Some old → first_changed (writes_in addr len) (area_with addr old)
    (first_changed (writes_in addr len) (area_with addr w) areas) ≡ areas
first_changed-back addr len w old [] g h = cc
first_changed-back addr len w old (x ∷ xs) g h = back_step addr len w old x xs (first_changed (writes_in addr len) (area_with addr w) xs)
    (writes_in addr len x) refl (writes_in-area_with addr len w x) g h (first_changed-back addr len w old xs g)

-- memory that was written is as before when its bytes are written back
pub memory_with-back : (m : Memory) (addr len : ℕ) (w old : List ℕ) → length w ≡ len → writable_of m addr len ≡ Some old →
    memory_with (memory_with m addr len w) addr len old ≡ m
unfolding memory_with writable_of
memory_with-back m addr len w old g h = ap (λ (areas : List Area). let n : Memory = record m { areas = areas } in
    n) (first_changed-back addr len w old m.areas g h)

-- a number has as many bytes as requested
pub length-le_bytes : (count n : ℕ) → length (le_bytes count n) ≡ count
length-le_bytes zero n = refl
length-le_bytes (suc count) n = ap suc (length-le_bytes count (n / 256))

stored_where : (m : Memory) (addr width n : ℕ) (old : List ℕ) (b : Bool) → b ≡ true → writable_of m addr width ≡ Some old →
    memory_with (cond b (memory_with m addr width (le_bytes width n)) m) addr width old ≡ m
stored_where m addr width n old true e h = memory_with-back m addr width (le_bytes width n) old (length-le_bytes width n) h
stored_where m addr width n old false e h = cc

-- a store is undone by writing back the bytes that it overwrote
pub stored-back : (m : Memory) (addr width n : ℕ) (old : List ℕ) → is_aligned addr width ≡ true → writable_of m addr width ≡ Some old →
    memory_with (stored m addr width n) addr width old ≡ m
unfolding stored
stored-back m addr width n old e h = stored_where m addr width n old (is_aligned addr width) e h
