-- A window: the region that is tried first is the first region that contains an access in the window.
use Rattle.std.proofs.Common.{◌≡◌, ◌∙◌, ℕ, ◌+◌, ◌<◌, ◌≤◌, ◌^◌, ◌%◌, suc, List, [], ◌∷◌, Bool, true, false, Option, Some, Ok, IsTrue, length, map, take, get_or, refl, ap, sym, subst, cond, arith}
use Rattle.std.specs.Prelude.{position, nat_lt}
use Rattle.std.specs.List.{list_all, position_or_len}
use Rattle.std.specs.Option.{option_map}
use Rattle.std.proofs.lemmas.Bool.Decides.{nat_tests}
use Rattle.std.specs.List.{AllPass}
use Rattle.std.proofs.lemmas.List.Sums.{position_or_len_is, AllPass-from_list_all}
use Rattle.std.proofs.lemmas.List.{get_or-take, length-take-le}
use Rattle.mem_regions.specs.Area.{Area}
use Rattle.mem_regions.specs.Memory.{Memory}
use Rattle.mem_regions.specs.Access.{IsWidth, is_aligned, Bounds, area_bounds, bounds_of, holds, permits_in, is_permitted}
use Rattle.mem_regions.specs.Ranges.{lies_in, writes_in, bytes_in, range_of, load_at}
use Rattle.mem_regions.specs.Bytes.{le_number}
use Rattle.mem_regions.specs.Writing.{memory_with, stored}
use Rattle.mem_regions.specs.Lending.{no_area, area_at, memory_at}
use Rattle.mem_regions.specs.Window.{IsWindowOf, are_apart, lies_within}
use Rattle.mem_regions.specs.declared.window.Window.{Window}
use Rattle.mem_regions.proofs.Finding.{position-cons}
use Rattle.mem_regions.proofs.Places.{place_of}
use Rattle.mem_regions.proofs.Kept.{bounds-stored, bounds-memory_with}
use Rattle.mem_regions.proofs.Writes.{memory_with-place, place_permits}

-- the index of the first image that passes a test is that of the first whose image passes it
pub position-map : {A B : Type 0} (p : B → Bool) (f : A → B) (xs : List A) → position p (map f xs) ≡ position (λ x. p (f x)) xs
position-map p f [] = refl
position-map p f (x ∷ xs) =
    position-cons p (f x) (map f xs) ∙ ap (λ (o : Option ℕ). cond (p (f x)) (Some 0) (option_map (λ i. suc i) o)) (position-map p f xs)
    ∙ sym (position-cons (λ y. p (f y)) x xs)

-- the first that passes a test, by its index
position-is : {A : Type 0} (p : A → Bool) (xs : List A) (i : ℕ) (d : A) → i < length xs → p (get_or xs i d) ≡ true →
    ((k : ℕ) → k < i → p (get_or xs k d) ≡ false) → position p xs ≡ Some i
position-is p xs i d below passes fails =
    let at : position_or_len p xs ≡ i = position_or_len_is p xs i d (omega (arith, below)) fails (λ h. passes) in
    let inside : nat_lt i (length xs) ≡ true = grind (arith, nat_tests) in
    rw (at, inside) refl

-- an access has some bytes
width-some : (width : ℕ) → IsWidth width → 0 < width
width-some width h = grind arith

-- what is in the window is in a region that shares no address with another, and not in the other
apart-fails : (addr len : ℕ) (w : Window) (a : Area) (b : Bounds) → 0 < len → IsTrue (lies_within addr len w) → b.base ≡ w.base → b.size ≡ w.size →
    are_apart (area_bounds a) b ≡ true → lies_in addr len a ≡ false
apart-fails addr len w a b some within base size apart = grind (arith, nat_tests)

-- what is in the window is in its region, and may be written if the region may be
window-holds : (addr len : ℕ) (w : Window) (a : Area) → IsTrue (lies_within addr len w) → w.base ≡ a.base → w.size ≡ length a.bytes → lies_in addr len a ≡ true
window-holds addr len w a within b s = grind (arith, nat_tests)

window-permitted : (addr len : ℕ) (w : Window) (a : Area) → IsTrue (lies_within addr len w) → a.write ≡ true → w.base ≡ a.base →
    w.size ≡ length a.bytes → writes_in addr len a ≡ true
window-permitted addr len w a within writes b s = let h = window-holds addr len w a within b s in rw (h, writes) refl

-- a range that is not in a region may not be written there
fails-write : (addr len : ℕ) (a : Area) → lies_in addr len a ≡ false → writes_in addr len a ≡ false
fails-write addr len a h = rw h refl

-- a region that shares no address with those before it is a window
pub window-last : (areas : List Area) (place : ℕ) (last : Area) (w : Window) → place < length areas → last ≡ get_or areas place last →
    last.write ≡ true → w.place ≡ place → w.base ≡ last.base → w.size ≡ length last.bytes → last.base + length last.bytes ≤ 2 ^ 32 →
    list_all (λ a. are_apart (area_bounds a) (area_bounds last)) (take place areas) ≡ true → IsWindowOf (map area_bounds areas) w
window-last areas place last w below is writes p b s ends apart =
    let all : AllPass (λ a. are_apart (area_bounds a) (area_bounds last)) (take place areas) = AllPass-from_list_all _ (take place areas) apart in
    let early : (k : ℕ) → k < place → are_apart (area_bounds (get_or areas k last)) (area_bounds last) ≡ true =
    λ k before.
    rw (get_or-take place areas k last before) at
    (all k last (rw (length-take-le place areas (omega (arith, below))) before)) in record {
      ends = rw (b, s) ends;
      loads = λ addr len some within.
          position-map (holds addr len) area_bounds areas
          ∙ rw p
          (position-is (lies_in addr len) areas place last below (rw (← is) (window-holds addr len w last within b s))
          (λ k before. apart-fails addr len w (get_or areas k last) (area_bounds last) some within (sym b) (sym s) (early k before)));
      stores = λ addr len some within.
          position-map (permits_in addr len true) area_bounds areas
          ∙ rw p
          (position-is (writes_in addr len) areas place last below (rw (← is) (window-permitted addr len w last within writes b s))
          (λ k before.
          fails-write addr len (get_or areas k last)
          (apart-fails addr len w (get_or areas k last) (area_bounds last) some within (sym b) (sym s) (early k before))));
    }

-- nothing is in an empty window
pub window-empty : (bs : List Bounds) (w : Window) → w.base ≡ 0 → w.size ≡ 0 → IsWindowOf bs w
window-empty bs w b s = record {
  ends = omega (arith, b, s);
  loads = λ addr len some within. absurd (grind (arith, nat_tests));
  stores = λ addr len some within. absurd (grind (arith, nat_tests));
}

pub ruleset beginning = (window-last, window-empty)

-- the index of the region that contains an access in the window
window-at : (m : Memory) (w : Window) (addr width : ℕ) → IsWindowOf (bounds_of m) w → IsWidth width → IsTrue (lies_within addr width w) →
    Some w.place ≡ position (lies_in addr width) m.areas
unfolding bounds_of
window-at m w addr width h i within =
    sym (sym (position-map (holds addr width) area_bounds m.areas) ∙ h.loads addr width (width-some width i) within)

pub window-below : (m : Memory) (w : Window) (addr width : ℕ) → IsWindowOf (bounds_of m) w → IsWidth width → IsTrue (lies_within addr width w) →
    w.place < length m.areas
window-below m w addr width h i within = (place_of (lies_in addr width) m.areas w.place no_area (window-at m w addr width h i within)).below

pub window-lies : (m : Memory) (w : Window) (addr width : ℕ) → IsWindowOf (bounds_of m) w → IsWidth width → IsTrue (lies_within addr width w) →
    IsTrue (lies_in addr width (area_at m w.place))
window-lies m w addr width h i within = (place_of (lies_in addr width) m.areas w.place no_area (window-at m w addr width h i within)).passes

-- a load there
pub window-loads : (m : Memory) (w : Window) (addr width : ℕ) → IsWindowOf (bounds_of m) w → IsWidth width → IsTrue (lies_within addr width w) →
    addr % width ≡ 0 → load_at m addr width ≡ Ok (le_number (bytes_in addr width (area_at m w.place)))
unfolding load_at range_of
window-loads m w addr width h i within aligned =
    let test : is_aligned addr width ≡ true = grind (arith, nat_tests) in
    rw (test, (place_of (lies_in addr width) m.areas w.place no_area (window-at m w addr width h i within)).found) refl

pub ruleset loading = (window-below, window-lies, window-loads)

-- a store there
window-writes : (m : Memory) (w : Window) (addr width : ℕ) → IsWindowOf (bounds_of m) w → IsWidth width → IsTrue (lies_within addr width w) →
    Some w.place ≡ position (writes_in addr width) m.areas
unfolding bounds_of
window-writes m w addr width h i within =
    sym (sym (position-map (permits_in addr width true) area_bounds m.areas) ∙ h.stores addr width (width-some width i) within)

pub window-permits : (m : Memory) (w : Window) (addr width : ℕ) → IsWindowOf (bounds_of m) w → IsWidth width → IsTrue (lies_within addr width w) →
    is_permitted (bounds_of m) addr width true ≡ true
window-permits m w addr width h i within = place_permits m addr width w.place (window-writes m w addr width h i within)

pub window-memory : (m : Memory) (w : Window) (addr width : ℕ) (b : List ℕ) → IsWindowOf (bounds_of m) w → IsWidth width →
    IsTrue (lies_within addr width w) → memory_with m addr width b ≡ memory_at m w.place addr b
window-memory m w addr width b h i within = memory_with-place m addr width b w.place (window-writes m w addr width h i within)

-- after a store it is still a window
pub window-stored : (m : Memory) (w : Window) (addr width n : ℕ) → IsWindowOf (bounds_of m) w → IsWindowOf (bounds_of (stored m addr width n)) w
window-stored m w addr width n h = subst (λ (bs : List Bounds). IsWindowOf bs w) (sym (bounds-stored m addr width n)) h

pub window-written : (m : Memory) (w : Window) (addr len : ℕ) (b : List ℕ) → IsWindowOf (bounds_of m) w → IsWindowOf (bounds_of (memory_with m addr len b)) w
window-written m w addr len b h = subst (λ (bs : List Bounds). IsWindowOf bs w) (sym (bounds-memory_with m addr len b)) h

pub ruleset storing = (window-below, window-lies, window-permits, window-memory, window-stored)
