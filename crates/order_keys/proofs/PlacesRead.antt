-- Places and registers read into the memory of others.
use Rattle.std.proofs.Common.{◌≡◌, ℕ, zero, suc, ◌+◌, ◌-◌, ◌<◌, ◌≤◌, Option, List, [], ◌∷◌, ◌++◌, length, get_or, take, set, map, refl, ap, sym, subst, ◌∙◌, arith}
use Rattle.std.specs.Prelude.{◌≢◌}
use Rattle.std.proofs.lemmas.List.{take_more_set, length-map, length-set}
use Rattle.order_keys.specs.Unpacked.{Unpacked, got}
use Rattle.order_keys.specs.Numbers.{unpacked_long}
use Rattle.order_keys.specs.Places.{PlaceRead, next_place, unpacked_runs, unpacked_places, held_in, unpacked_registers}
use Rattle.order_keys.proofs.PlaceSteps.{read_first, read_more, read_all}

-- the number of places read is the count that was given
runs_count : (n empty : ℕ) (bs : List ℕ) → length (unpacked_runs n empty bs).value ≡ n
unfolding unpacked_runs
runs_count zero empty bs = refl
runs_count (suc n) empty bs = ap suc (runs_count n (next_place empty bs).empty (next_place empty bs).left)

places_count : (bs : List ℕ) → length (unpacked_places bs).value ≡ (unpacked_long bs).value
unfolding unpacked_places
places_count bs = let count = unpacked_long bs in let empty = unpacked_long count.left in runs_count count.value empty.value empty.left

pub other_count : (bs : List ℕ) (count : ℕ) → count ≡ (unpacked_long bs).value → count ≢ 32 → length (unpacked_places bs).value ≢ 32
other_count bs count e other same = other (e ∙ sym (places_count bs) ∙ same)

-- the first of 32 places have been read, and together with the unread ones they are all
pub record ReadUpTo (bs : List ℕ) (i empty : ℕ) (left : List ℕ) (places : List (Option ℕ)) : Type 0 where
  pub size : length places ≡ 32
  pub whole : got (take i places ++ (unpacked_runs (32 - i) empty left).value) (unpacked_runs (32 - i) empty left).left ≡ unpacked_places bs

pub none_read : (bs behind_count : List ℕ) (count empty : ℕ) (left : List ℕ) (places : List (Option ℕ)) → length places ≡ 32 →
    count ≡ (unpacked_long bs).value → behind_count ≡ (unpacked_long bs).left → empty ≡ (unpacked_long behind_count).value →
    left ≡ (unpacked_long behind_count).left → count ≡ 32 → ReadUpTo bs 0 empty left places
none_read bs behind_count count empty left places size c b e l is = record {
  size = size;
  whole = subst (λ n. got ((unpacked_runs (n - 0) empty left).value) (unpacked_runs (n - 0) empty left).left ≡ unpacked_places bs) is
      (read_first bs behind_count count empty left [] c b e l refl);
}

pub one_read : (bs : List ℕ) (i empty empty' : ℕ) (left left' : List ℕ) (x : Option ℕ) (places : List (Option ℕ)) → i < 32 →
    ReadUpTo bs i empty left places → (let read : PlaceRead = record { value = x; empty = empty'; left = left' } in read ≡ next_place empty left) →
    ReadUpTo bs (i + 1) empty' left' (set places i x)
one_read bs i empty empty' left left' x places within so_far read =
    let inside : i < length places = omega (arith, within, so_far.size) in
    record {
      size = length-set places i x ∙ so_far.size;
      whole = read_more 32 i empty empty' left left' x (take i places) (take (i + 1) (set places i x)) (unpacked_places bs) within read
          (take_more_set places i x inside) so_far.whole;
    }

pub taken_all : {A : Type 0} (xs : List A) (i : ℕ) → length xs ≤ i → take i xs ≡ xs
taken_all [] zero h = refl
taken_all [] (suc i) h = refl
taken_all (x ∷ xs) zero h = absurd (omega (arith, h))
taken_all (x ∷ xs) (suc i) h = ap (λ l. x ∷ l) (taken_all xs i (omega (arith, h)))

pub all_read : (bs : List ℕ) (i empty : ℕ) (left : List ℕ) (places : List (Option ℕ)) → 32 ≤ i → ReadUpTo bs i empty left places →
    got places left ≡ unpacked_places bs
all_read bs i empty left places past so_far =
    subst (λ l. got l left ≡ unpacked_places bs) (taken_all places i (omega (arith, past, so_far.size)))
    (read_all 32 i empty left (take i places) (unpacked_places bs) past so_far.whole)

pub still_many : (bs : List ℕ) (i empty : ℕ) (left : List ℕ) (places : List (Option ℕ)) → ReadUpTo bs i empty left places → length places ≡ 32
still_many bs i empty left places so_far = so_far.size

pub ruleset places_read = (other_count, none_read, one_read, all_read, still_many)

-- the first registers are the values of their places
pub record HasValues (i : ℕ) (regs : List ℕ) (places : List (Option ℕ)) : Type 0 where
  pub size : length regs ≡ 32
  pub places_size : length places ≡ 32
  pub values : take i regs ≡ take i (map held_in places)

-- one more value, after one more place
more_valued : (xs : List (Option ℕ)) (i : ℕ) (d : Option ℕ) → i < length xs →
    take (suc i) (map held_in xs) ≡ take i (map held_in xs) ++ held_in (get_or xs i d) ∷ []
more_valued [] i d h = absurd (omega (arith, h))
more_valued (x ∷ xs) zero d h = refl
more_valued (x ∷ xs) (suc i) d h = ap (λ l. held_in x ∷ l) (more_valued xs i d (omega (arith, h)))

pub no_value : (regs : List ℕ) (places : List (Option ℕ)) → length regs ≡ 32 → length places ≡ 32 → HasValues 0 regs places
no_value regs places size places_size = record { size = size; places_size = places_size; values = refl }

pub one_value : (regs : List ℕ) (places : List (Option ℕ)) (i y : ℕ) (d : Option ℕ) → i < 32 → HasValues i regs places →
    y ≡ held_in (get_or places i d) → HasValues (i + 1) (set regs i y) places
one_value regs places i y d within so_far is =
    let next : suc i ≡ i + 1 = omega arith in
    record {
      size = length-set regs i y ∙ so_far.size;
      places_size = so_far.places_size;
      values = take_more_set regs i y (omega (arith, within, so_far.size)) ∙ ap (λ l. l ++ y ∷ []) so_far.values
          ∙ ap (λ (v : ℕ). take i (map held_in places) ++ v ∷ []) is
          ∙ sym (more_valued places i d (omega (arith, within, so_far.places_size))) ∙ ap (λ n. take n (map held_in places)) next;
    }

pub all_values : (regs : List ℕ) (places : List (Option ℕ)) (i : ℕ) → 32 ≤ i → HasValues i regs places → regs ≡ map held_in places
all_values regs places i past so_far =
    sym (taken_all regs i (omega (arith, past, so_far.size))) ∙ so_far.values
    ∙ taken_all (map held_in places) i (let same = length-map places held_in in omega (arith, past, so_far.places_size, same))

pub ruleset values_read = (no_value, one_value, all_values)

-- a register file is read as its places are
pub registers_of : (bs left : List ℕ) (places : List (Option ℕ)) (regs : List ℕ) → got places left ≡ unpacked_places bs → regs ≡ map held_in places →
    got regs left ≡ unpacked_registers bs
unfolding unpacked_registers
registers_of bs left places regs read values =
    ap (λ (l : List ℕ). got l left) values ∙ ap (λ (x : Unpacked (List (Option ℕ))). got (map held_in x.value) x.left) read

pub other_registers : (bs : List ℕ) → length (unpacked_places bs).value ≢ 32 → length (unpacked_registers bs).value ≢ 32
unfolding unpacked_registers
other_registers bs other same = other (sym (length-map (unpacked_places bs).value held_in) ∙ same)

pub ruleset registers_read = (registers_of, other_registers)
