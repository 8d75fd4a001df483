-- What writes, synchronized code and a moved break preserve: the bounds of the regions, the code, the bytes.
use Rattle.std.proofs.Common.{◌≡◌, ℕ, ◌-◌, List, [], ◌∷◌, Bool, true, false, Option, Some, Result, Err, length, map, find, cond, refl, ap, arith, length-append, length-drop}
use Rattle.std.proofs.lemmas.List.{length-take}
use Rattle.std.specs.Option.{option_map}
use Rattle.mem_regions.specs.Area.{Area}
use Rattle.mem_regions.specs.Memory.{Memory}
use Rattle.mem_regions.specs.declared.access.MemErr.{MemErr}
use Rattle.mem_regions.specs.declared.access.MemErr.TheVariants.{Misaligned}
use Rattle.mem_regions.specs.Access.{area_bounds, bounds_of, is_aligned}
use Rattle.mem_regions.specs.Bytes.{le_bytes}
use Rattle.mem_regions.specs.Ranges.{writes_in, lies_in, bytes_in, number_found, range_of, load_at}
use Rattle.mem_regions.specs.Fetching.{fetches_in, word_found, fetch_at, synced, synced_area}
use Rattle.mem_regions.specs.Writing.{overwritten, area_with, first_changed, memory_with, stored}

-- overwriting bytes preserves their number
pub length-overwritten : (bytes : List ℕ) (at : ℕ) (w : List ℕ) → length (overwritten bytes at w) ≡ length bytes
length-overwritten bytes at w = simp (length-take, length-append, length-drop) (omega arith)

-- writing to a region preserves its bounds
pub area_bounds-area_with : (addr : ℕ) (w : List ℕ) (a : Area) → area_bounds (area_with addr w a) ≡ area_bounds a
area_bounds-area_with addr w a = rw (length-overwritten a.bytes (addr - a.base) w) refl

-- a view of a list in which the first element was changed, or a later one
changed_step : {A B : Type 0} (view : A → B) (change : A → A) (x : A) (xs changed : List A) (b : Bool) → ((y : A) → view (change y) ≡ view y) →
    map view changed ≡ map view xs → map view (cond b (change x ∷ xs) (x ∷ changed)) ≡ view x ∷ map view xs
changed_step view change x xs changed true kept e = ap (λ y. y ∷ map view xs) (kept x)
changed_step view change x xs changed false kept e = ap (λ ys. view x ∷ ys) e

-- what a change preserves of each element, it preserves of the list
pub map-first_changed : {A B : Type 0} (view : A → B) (p : A → Bool) (change : A → A) → ((y : A) → view (change y) ≡ view y) → (xs : List A) →
    map view (first_changed p change xs) ≡ map view xs
map-first_changed view p change kept [] = refl
map-first_changed view p change kept (x ∷ xs) = changed_step view change x xs (first_changed p change xs) (p x) kept (map-first_changed view p change kept xs)

-- a write through a borrow preserves the bounds
pub bounds-memory_with : (m : Memory) (addr len : ℕ) (w : List ℕ) → bounds_of (memory_with m addr len w) ≡ bounds_of m
unfolding bounds_of memory_with
bounds-memory_with m addr len w = map-first_changed area_bounds (writes_in addr len) (area_with addr w) (area_bounds-area_with addr w) m.areas

-- what a write preserves is also preserved if the address is misaligned and nothing is written
aligned_keeps : {B : Type 0} (view : Memory → B) (m n : Memory) (b : Bool) → view n ≡ view m → view (cond b n m) ≡ view m
aligned_keeps view m n true e = e
aligned_keeps view m n false e = refl

-- a store preserves the bounds
pub bounds-stored : (m : Memory) (addr width n : ℕ) → bounds_of (stored m addr width n) ≡ bounds_of m
unfolding stored
bounds-stored m addr width n = aligned_keeps bounds_of m (memory_with m addr width (le_bytes width n)) (is_aligned addr width)
    (bounds-memory_with m addr width (le_bytes width n))

-- a view of a list in which each element was changed
map_again : {A B : Type 0} (view : A → B) (change : A → A) → ((y : A) → view (change y) ≡ view y) → (xs : List A) → map view (map change xs) ≡ map view xs
map_again view change kept [] = refl
map_again view change kept (x ∷ xs) = rw (kept x, map_again view change kept xs) refl

-- synchronizing the code preserves the bounds
pub bounds-synced : (m : Memory) → bounds_of (synced m) ≡ bounds_of m
unfolding bounds_of synced
bounds-synced m = map_again area_bounds synced_area (λ a. refl) m.areas

-- moving the break preserves the bounds
pub bounds-break : (m : Memory) (addr : ℕ) → bounds_of (record m { program_break = addr }) ≡ bounds_of m
unfolding bounds_of
bounds-break m addr = refl

-- the result for a found region, by whether the first region passes the test
found_alike : {R : Type 0} (out : Option Area → R) (x y : Area) (b c : Bool) (rest changed : Option Area) → c ≡ b → out (Some y) ≡ out (Some x) →
    out changed ≡ out rest → out (cond c (Some y) changed) ≡ out (cond b (Some x) rest)
found_alike out x y true c rest changed e f g = rw e f
found_alike out x y false c rest changed e f g = rw e g

-- the same if the first region was changed, or a later one
changed_find : {R : Type 0} (out : Option Area → R) (q : Area → Bool) (x y : Area) (xs changed : List Area) (d : Bool) → q y ≡ q x →
    out (Some y) ≡ out (Some x) → out (find q changed) ≡ out (find q xs) → out (find q (cond d (y ∷ xs) (x ∷ changed))) ≡ out (find q (x ∷ xs))
changed_find out q x y xs changed true e f g = found_alike out x y (q x) (q y) (find q xs) (find q xs) e f refl
changed_find out q x y xs changed false e f g = found_alike out x x (q x) (q x) (find q xs) (find q changed) refl refl g

-- the result for a found region is unchanged if a change preserves the test of each region and the result for it
pub find-first_changed : {R : Type 0} (out : Option Area → R) (q p : Area → Bool) (change : Area → Area) → ((x : Area) → q (change x) ≡ q x) →
    ((x : Area) → out (Some (change x)) ≡ out (Some x)) → (xs : List Area) → out (find q (first_changed p change xs)) ≡ out (find q xs)
find-first_changed out q p change e f [] = refl
find-first_changed out q p change e f (x ∷ xs) = changed_find out q x (change x) xs (first_changed p change xs) (p x) (e x) (f x)
    (find-first_changed out q p change e f xs)

-- the same if every region is changed
pub find-changed : {R : Type 0} (out : Option Area → R) (q : Area → Bool) (change : Area → Area) → ((x : Area) → q (change x) ≡ q x) →
    ((x : Area) → out (Some (change x)) ≡ out (Some x)) → (xs : List Area) → out (find q (map change xs)) ≡ out (find q xs)
find-changed out q change e f [] = refl
find-changed out q change e f (x ∷ xs) = found_alike out x (change x) (q x) (q (change x)) (find q xs) (find q (map change xs)) (e x) (f x)
    (find-changed out q change e f xs)

-- fetching from a region that was written is unchanged
fetches_in-area_with : (pc addr : ℕ) (w : List ℕ) (a : Area) → fetches_in pc (area_with addr w a) ≡ fetches_in pc a
fetches_in-area_with pc addr w a = rw (length-overwritten a.bytes (addr - a.base) w) refl

-- a write through a borrow preserves the instruction words
pub fetch_at-memory_with : (m : Memory) (addr len : ℕ) (w : List ℕ) (pc : ℕ) → fetch_at (memory_with m addr len w) pc ≡ fetch_at m pc
unfolding fetch_at memory_with
fetch_at-memory_with m addr len w pc = ap (λ (r : Result ℕ MemErr). cond (is_aligned pc 4) r (Err Misaligned))
    (find-first_changed (word_found pc) (fetches_in pc) (writes_in addr len) (area_with addr w) (fetches_in-area_with pc addr w) (λ a. refl) m.areas)

-- a store preserves the instruction words
pub fetch_at-stored : (m : Memory) (addr width n pc : ℕ) → fetch_at (stored m addr width n) pc ≡ fetch_at m pc
unfolding stored
fetch_at-stored m addr width n pc = aligned_keeps (λ (v : Memory). fetch_at v pc) m (memory_with m addr width (le_bytes width n)) (is_aligned addr width)
    (fetch_at-memory_with m addr width (le_bytes width n) pc)

-- moving the break preserves the instruction words
pub fetch_at-break : (m : Memory) (addr pc : ℕ) → fetch_at (record m { program_break = addr }) pc ≡ fetch_at m pc
unfolding fetch_at
fetch_at-break m addr pc = refl

-- synchronizing the code preserves the bytes of each range
pub range_of-synced : (m : Memory) (addr len : ℕ) → range_of (synced m) addr len ≡ range_of m addr len
unfolding range_of synced
range_of-synced m addr len = find-changed (option_map (bytes_in addr len)) (lies_in addr len) synced_area (λ a. refl) (λ a. refl) m.areas

-- synchronizing the code preserves the number at each address
pub load_at-synced : (m : Memory) (addr width : ℕ) → load_at (synced m) addr width ≡ load_at m addr width
unfolding load_at
load_at-synced m addr width = ap (λ (r : Option (List ℕ)). cond (is_aligned addr width) (number_found r) (Err Misaligned)) (range_of-synced m addr width)

-- moving the break preserves the number at each address
pub load_at-break : (m : Memory) (addr' addr width : ℕ) → load_at (record m { program_break = addr' }) addr width ≡ load_at m addr width
unfolding load_at range_of
load_at-break m addr' addr width = refl

-- a write through a borrow preserves the break
pub break-memory_with : (m : Memory) (addr len : ℕ) (w : List ℕ) → (memory_with m addr len w).program_break ≡ m.program_break
unfolding memory_with
break-memory_with m addr len w = refl

-- a store preserves the break
pub break-stored : (m : Memory) (addr width n : ℕ) → (stored m addr width n).program_break ≡ m.program_break
unfolding stored
break-stored m addr width n = aligned_keeps (λ (v : Memory). v.program_break) m (memory_with m addr width (le_bytes width n)) (is_aligned addr width)
    (break-memory_with m addr width (le_bytes width n))

-- synchronizing the code preserves the break
pub break-synced : (m : Memory) → (synced m).program_break ≡ m.program_break
unfolding synced
break-synced m = refl
