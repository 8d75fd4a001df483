-- A memory that was loaded from accepted parts.
use Rattle.std.proofs.Common.{◌≡◌, ℕ, suc, ◌+◌, ◌<◌, ◌≤◌, List, [], ◌∷◌, Bool, true, false, length, map, cond, refl, arith, length-append, length-drop}
use Rattle.std.specs.Prelude.{◌||◌, filter, All}
use Rattle.std.specs.List.{list_any, AllByRecursion}
use Rattle.std.proofs.lemmas.List.{length-take, length-replicate}
use Rattle.std.proofs.lemmas.List.Elements.{recursion_from_All}
use Rattle.std.proofs.lemmas.Bool.Decides.{nat_tests}
use Rattle.mem_regions.specs.Access.{area_bounds, bounds_of}
use Rattle.mem_regions.specs.Causes.{AreAccepted, ApartAt, Share}
use Rattle.mem_regions.specs.Loading.{LiesIn, image_of, area_of, areas_of, has_room, loaded}
use Rattle.mem_regions.specs.declared.part.Part.{Part}
use Rattle.mem_changes.specs.Differing.{runs_in, runs_at}
use Rattle.mem_changes.specs.Images.{IsApart, ShareNoByte, HasCode, IsAsLoaded, part_runs, TellsRunning}

-- a part's region is as long as the part
image_length : (file : List ℕ) (p : Part) → LiesIn file p → length (image_of file p) ≡ p.size
image_length file p h = let f = h.in_file in let s = h.in_size in simp (length-append, length-take, length-drop, length-replicate) (omega arith)

-- parts none of which shares an address with one before it
abbrev PartsApart : List Part → Type 0
PartsApart [] = Unit {0}
PartsApart (p ∷ parts) = AllByRecursion (λ q. ¬ Share p q) parts × PartsApart parts

parts_apart : (parts : List Part) → ((k n : ℕ) → k < n → n < length parts → ApartAt parts k n) → PartsApart parts
parts_apart [] h = tt
parts_apart (p ∷ parts) h = (
  recursion_from_All (λ q. ¬ Share p q) parts (λ k d l. h 0 (suc k) (omega arith) (omega arith) d p),
  parts_apart parts (λ k n l u d e. h (suc k) (suc n) (omega arith) (omega arith) d e),
)

-- regions of parts that share no address are apart
area_apart : (file : List ℕ) (p q : Part) → LiesIn file p → LiesIn file q → ¬ Share p q → IsApart (area_of file p) (area_of file q)
area_apart file p q h g never addr a b =
    let lp : length (image_of file p) ≡ p.size = image_length file p h in
    let lq : length (image_of file q) ≡ q.size = image_length file q g in
    let p1 : p.base ≤ addr = grind (arith, nat_tests) in
    let p2 : addr < p.base + p.size = grind (arith, nat_tests) in
    let q1 : q.base ≤ addr = grind (arith, nat_tests) in
    let q2 : addr < q.base + q.size = grind (arith, nat_tests) in
    never (addr, (p1, p2), (q1, q2))

areas_apart_from : (file : List ℕ) (p : Part) (parts : List Part) → LiesIn file p → AllByRecursion (LiesIn file) parts →
    AllByRecursion (λ q. ¬ Share p q) parts →
    AllByRecursion (IsApart (area_of file p)) (map (area_of file) (filter has_room parts))
areas_apart_from file p [] h lie never = tt
areas_apart_from file p (q ∷ parts) h lie never = go (has_room q) (areas_apart_from file p parts h lie.1 never.1) where
  go : (t : Bool) → AllByRecursion (IsApart (area_of file p)) (map (area_of file) (filter has_room parts)) →
      AllByRecursion (IsApart (area_of file p)) (map (area_of file) (cond t (q ∷ filter has_room parts) (filter has_room parts)))
  go true later = (area_apart file p q h lie.0 never.0, later)
  go false later = later

areas_apart : (file : List ℕ) (parts : List Part) → AllByRecursion (LiesIn file) parts → PartsApart parts →
    ShareNoByte (map (area_of file) (filter has_room parts))
areas_apart file [] lie apart = tt
areas_apart file (p ∷ parts) lie apart = go (has_room p) (areas_apart file parts lie.1 apart.1) where
  go : (t : Bool) → ShareNoByte (map (area_of file) (filter has_room parts)) →
      ShareNoByte (map (area_of file) (cond t (p ∷ filter has_room parts) (filter has_room parts)))
  go true later = (areas_apart_from file p parts lie.0 lie.1 apart.0, later)
  go false later = later

areas_code : (file : List ℕ) (parts : List Part) → AllByRecursion HasCode (map (area_of file) parts)
areas_code file [] = tt
areas_code file (p ∷ parts) = (refl, areas_code file parts)

-- instructions are fetched from a region if they are fetched from its part
part_area : (file : List ℕ) (p : Part) (addr : ℕ) → LiesIn file p → part_runs addr p ≡ runs_in addr (area_bounds (area_of file p))
part_area file p addr h = rw (image_length file p h) (grind (arith, nat_tests))

no_room : (p : Part) (addr : ℕ) → has_room p ≡ false → part_runs addr p ≡ false
no_room p addr e = grind (arith, nat_tests)

runs_as : (file : List ℕ) (parts : List Part) (addr : ℕ) → AllByRecursion (LiesIn file) parts →
    list_any (part_runs addr) parts ≡ list_any (runs_in addr) (map area_bounds (map (area_of file) (filter has_room parts)))
runs_as file [] addr lie = refl
runs_as file (p ∷ parts) addr lie = go (has_room p) refl (runs_as file parts addr lie.1) where
  go : (t : Bool) → has_room p ≡ t → list_any (part_runs addr) parts ≡ list_any (runs_in addr) (map area_bounds (map (area_of file) (filter has_room parts))) →
      (part_runs addr p || list_any (part_runs addr) parts) ≡ list_any (runs_in addr)
      (map area_bounds (map (area_of file) (cond t (p ∷ filter has_room parts) (filter has_room parts))))
  go true e later = rw (part_area file p addr lie.0, later) refl
  go false e later = rw (no_room p addr e) later

pub loaded_is : (file : List ℕ) (parts : List Part) → All (LiesIn file) parts → AreAccepted parts → IsAsLoaded (loaded file parts)
unfolding loaded areas_of
loaded_is file parts lie accepted = record {
  apart = areas_apart file parts (recursion_from_All (LiesIn file) parts lie) (parts_apart parts accepted.apart);
  code = areas_code file (filter has_room parts);
  no_heap = refl;
}

pub loaded_runs : (file : List ℕ) (parts : List Part) → All (LiesIn file) parts → TellsRunning parts (loaded file parts)
unfolding loaded areas_of runs_at bounds_of
loaded_runs file parts lie addr = runs_as file parts addr (recursion_from_All (LiesIn file) parts lie)

pub ruleset loading = (loaded_is, loaded_runs)
