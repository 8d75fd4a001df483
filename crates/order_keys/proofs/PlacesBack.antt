-- Places are read back.
use Rattle.std.proofs.Common.{◌≡◌, ℕ, zero, suc, ◌+◌, ◌==◌, Bool, true, false, Option, None, Some, List, [], ◌∷◌, ◌++◌, length, map, refl, sym, ap, append_assoc, arith}
use Rattle.std.proofs.lemmas.Bool.Decides.{nat_tests}
use Rattle.order_keys.specs.Unpacked.{got, ReadsBack}
use Rattle.order_keys.specs.Numbers.{packed_word, packed_long, unpacked_long}
use Rattle.order_keys.specs.Places.{packed_runs, packed_places, next_place, unpacked_runs, unpacked_places, register_place, held_in, packed_registers, unpacked_registers}
use Rattle.order_keys.proofs.NumbersBack.{word_back, long_back}

-- this many empty places first
empties : ℕ → List (Option ℕ) → List (Option ℕ)
empties zero places = places
empties (suc n) places = None ∷ empties n places

-- empty places are read without a byte
skipped : (n more : ℕ) (bs : List ℕ) →
    unpacked_runs (n + more) n bs ≡ got (empties n (unpacked_runs more 0 bs).value) (unpacked_runs more 0 bs).left
unfolding unpacked_runs next_place empties
skipped zero more bs = let e : 0 + more ≡ more = omega arith in rw e refl
skipped (suc n) more bs = let e : suc n + more ≡ suc (n + more) = omega arith in rw (e, skipped n more bs) refl

-- an empty place after empty ones is one more of them
empties_more : (n : ℕ) (places : List (Option ℕ)) → empties n (None ∷ places) ≡ None ∷ empties n places
unfolding empties
empties_more zero places = refl
empties_more (suc n) places = ap (λ xs. None ∷ xs) (empties_more n places)

-- a value, where the places after it are read back
value_read : (value : ℕ) (places : List (Option ℕ)) (rest : List ℕ) →
    let first = unpacked_long (packed_runs 0 places ++ rest) in
    unpacked_runs (length places) first.value first.left ≡ got places rest →
    unpacked_runs (suc (length places)) 0 (packed_word value ++ (packed_runs 0 places ++ rest)) ≡ got (Some value ∷ places) rest
unfolding unpacked_runs next_place
value_read value places rest others = rw (word_back.back value (packed_runs 0 places ++ rest)) (rw others refl)

-- no place is left to be read
none_read : (empty : ℕ) (bs : List ℕ) → unpacked_runs 0 empty bs ≡ got [] bs
unfolding unpacked_runs
none_read empty bs = refl

runs_read : (empty : ℕ) (places : List (Option ℕ)) (rest : List ℕ) →
    let first = unpacked_long (packed_runs empty places ++ rest) in
    unpacked_runs (empty + length places) first.value first.left ≡ got (empties empty places) rest
unfolding packed_runs empties
runs_read empty [] rest = rw (long_back.back empty rest, skipped empty 0 rest, none_read 0 rest) refl
runs_read empty (None ∷ places) rest =
    let e : empty + suc (length places) ≡ suc empty + length places = omega arith in
    rw (e, runs_read (suc empty) places rest, empties_more empty places) refl
runs_read empty (Some value ∷ places) rest =
    let none : 0 + length places ≡ length places = omega arith in
    let others = rw none at (runs_read 0 places rest) in
    let behind = packed_word value ++ (packed_runs 0 places ++ rest) in
    rw (
      append_assoc (packed_long empty) (packed_word value ++ packed_runs 0 places) rest,
      append_assoc (packed_word value) (packed_runs 0 places) rest,
      long_back.back empty behind,
      skipped empty (suc (length places)) behind,
      value_read value places rest others,
    ) refl

places_read : (places : List (Option ℕ)) (rest : List ℕ) → unpacked_places (packed_places places ++ rest) ≡ got places rest
unfolding packed_places unpacked_places empties
places_read places rest =
    let none : 0 + length places ≡ length places = omega arith in
    let whole = rw none at (runs_read 0 places rest) in
    simp (append_assoc, long_back.back) whole

pub places_back : ReadsBack packed_places unpacked_places
places_back = record { back = places_read }

held_cases : (n : ℕ) (none : Bool) → (n == 0) ≡ none → held_in (register_place n) ≡ n
held_cases n true h = let e : n ≡ 0 = grind (arith, nat_tests) in simp h (sym e)
held_cases n false h = simp h refl

all_held : (regs : List ℕ) → map held_in (map register_place regs) ≡ regs
all_held [] = refl
all_held (n ∷ regs) = simp (held_cases n (n == 0) refl, all_held regs) refl

pub registers_back : ReadsBack packed_registers unpacked_registers
unfolding packed_registers unpacked_registers
registers_back = record { back = λ regs rest. simp (places_back.back (map register_place regs) rest, all_held regs) refl }
