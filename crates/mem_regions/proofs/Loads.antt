-- A load and its permission.
use Rattle.std.proofs.Common.{◌≡◌, ◌∙◌, ℕ, List, [], ◌∷◌, Bool, true, false, ◌||◌, Option, Some, Result, Ok, Err, find, refl, sym, ap, cond}
use Rattle.std.proofs.Math.Bool.{and-true}
use Rattle.std.specs.List.{list_any}
use Rattle.std.specs.Option.{option_map}
use Rattle.mem_regions.specs.Area.{Area}
use Rattle.mem_regions.specs.Memory.{Memory}
use Rattle.mem_regions.specs.declared.access.MemErr.{MemErr}
use Rattle.mem_regions.specs.declared.access.MemErr.TheVariants.{Misaligned, NoAccess}
use Rattle.mem_regions.specs.Access.{bounds_of, is_permitted, is_aligned, permits_at, permission_told}
use Rattle.mem_regions.specs.Ranges.{lies_in, permits_area, bytes_in, range_of, number_found, load_at}
use Rattle.mem_regions.proofs.Writes.{permitted-areas}

-- the cases where the first region holds the bytes, or does not
found_step : (f : Area → List ℕ) (a : Area) (b c : Bool) (rest : Option Area) (any : Bool) → c ≡ b →
    permission_told (number_found (option_map f rest)) ≡ cond any (Ok tt) (Err NoAccess) → permission_told (number_found (option_map f (cond b (Some a) rest)))
    ≡ cond (c || any) (Ok tt) (Err NoAccess)
found_step f a true c rest any e h = rw e refl
found_step f a false c rest any e h = rw e h

-- a number is found in the regions if some region permits the load
found-permitted : (addr width : ℕ) (areas : List Area) → permission_told (number_found (option_map (bytes_in addr width) (find (lies_in addr width) areas)))
    ≡ cond (list_any (permits_area addr width false) areas) (Ok tt) (Err NoAccess)
found-permitted addr width [] = refl
found-permitted addr width (a ∷ areas) = found_step (bytes_in addr width) a (lies_in addr width a) (permits_area addr width false a)
    (find (lies_in addr width) areas) (list_any (permits_area addr width false) areas) (and-true (lies_in addr width a)) (found-permitted addr width areas)

-- the cases where the address is aligned, or is not
aligned_step : (b : Bool) (found : Result ℕ MemErr) (allowed : Bool) → permission_told found ≡ cond allowed (Ok tt) (Err NoAccess) →
    permission_told (cond b found (Err Misaligned)) ≡ cond b (cond allowed (Ok tt) (Err NoAccess)) (Err Misaligned)
aligned_step true found allowed e = e
aligned_step false found allowed e = refl

-- a load gives a number if it is permitted, and is otherwise refused for the same reason
pub load_at-permits : (m : Memory) (addr width : ℕ) → permission_told (load_at m addr width) ≡ permits_at (bounds_of m) addr width false
unfolding load_at range_of permits_at
load_at-permits m addr width = aligned_step (is_aligned addr width) (number_found (option_map (bytes_in addr width) (find (lies_in addr width) m.areas)))
    (is_permitted (bounds_of m) addr width false) (found-permitted addr width m.areas ∙ ap (λ (b : Bool). let r : Result (Unit {0}) MemErr =
    cond b (Ok tt) (Err NoAccess) in r) (sym (permitted-areas m addr width false)))

pub ruleset permission = (load_at-permits)
