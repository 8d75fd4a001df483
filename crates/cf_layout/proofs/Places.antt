-- The entries for sidings are filled one after the other.
use Rattle.std.proofs.Common.{◌≡◌, ℕ, ◌+◌, ◌-◌, ◌<◌, ◌≤◌, suc, List, ◌++◌, length, get_or, take, map, replicate, refl, arith, add-one, append_assoc}
use Rattle.std.specs.Prelude.{slice_set}
use Rattle.std.proofs.Math.Seq.{take-suc, set-append_seam}
use Rattle.std.proofs.lemmas.List.{map-append, length-map, length-take-le}

-- one more entry is filled
place_next : {X Y : Type 0} (f : X → Y) (xs : List X) (i : ℕ) (d : X) (none : Y) → i < length xs → length xs ≤ 8 →
    slice_set (map f (take i xs) ++ replicate (8 - i) none) i (f (get_or xs i d)) ≡ map f (take (suc i) xs) ++ replicate (8 - suc i) none
place_next f xs i d none within few =
    let e : 8 - i ≡ suc (8 - suc i) = omega arith in
    let n : length (map f (take i xs)) ≡ i = rw (length-map, length-take-le i xs (omega arith)) refl in
    let s = set-append_seam (map f (take i xs)) none (replicate (8 - suc i) none) (f (get_or xs i d)) in
    rw (e, take-suc xs i d, map-append, append_assoc) (rw n at s)

-- the same for entries and a value that are known by equations
pub place_taken : {X Y : Type 0} (f : X → Y) (xs : List X) (i : ℕ) (x : X) (none : Y) (places : List Y) (v : Y) → i < length xs → length xs ≤ 8 →
    x ≡ get_or xs i x → places ≡ map f (take i xs) ++ replicate (8 - i) none → v ≡ f x → slice_set places i v ≡ map f (take (i + 1) xs)
    ++ replicate (8 - (i + 1)) none
place_taken f xs i x none places v within few at so_far here = rw (so_far, here, at, add-one) (place_next f xs i x none within few)
