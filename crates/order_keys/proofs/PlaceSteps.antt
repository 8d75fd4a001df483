-- Places one at a time.
use Rattle.std.proofs.Common.{◌≡◌, ℕ, suc, ◌+◌, ◌-◌, ◌<◌, ◌≤◌, Option, List, [], ◌∷◌, ◌++◌, length, get_or, drop, map, refl, ◌∙◌, append_assoc, add-one, arith, drop-cons}
use Rattle.std.proofs.Math.ListN.{drop_of_length-le}
use Rattle.std.proofs.lemmas.List.{append-nil}
use Rattle.order_keys.specs.Unpacked.{Unpacked, got}
use Rattle.order_keys.specs.Numbers.{packed_long, unpacked_long}
use Rattle.order_keys.specs.Places.{PlaceRead, packed_runs, next_place, unpacked_runs, unpacked_places, register_place}

-- the registers from an index on are that register and those after it
pub one_register : (empty : ℕ) (xs : List ℕ) (i d : ℕ) → i < length xs →
    packed_runs empty (map register_place (drop i xs)) ≡ packed_runs empty (register_place (get_or xs i d) ∷ map register_place (drop (i + 1) xs))
one_register empty xs i d h = rw (add-one, drop-cons xs i d) refl

-- the places from an index on are that place and those after it
pub one_more : (empty : ℕ) (xs : List (Option ℕ)) (i : ℕ) (d : Option ℕ) → i < length xs →
    packed_runs empty (drop i xs) ≡ packed_runs empty (get_or xs i d ∷ drop (i + 1) xs)
one_more empty xs i d h = rw (add-one, drop-cons xs i d) refl

-- all places are appended
pub all_packed : (xs : List (Option ℕ)) (i empty : ℕ) (key key' whole : List ℕ) →
    length xs ≤ i → key' ≡ key ++ packed_long empty → key ++ packed_runs empty (drop i xs) ≡ whole → key' ≡ whole
unfolding packed_runs
all_packed xs i empty key key' whole h k so_far =
    let none : drop i xs ≡ [] = drop_of_length-le xs h in
    let before = rw none at so_far in
    k ∙ before

-- all registers are appended
pub all_registers : (xs : List ℕ) (i empty : ℕ) (key key' whole : List ℕ) →
    length xs ≤ i → key' ≡ key ++ packed_long empty → key ++ packed_runs empty (map register_place (drop i xs)) ≡ whole → key' ≡ whole
unfolding packed_runs
all_registers xs i empty key key' whole h k so_far =
    let none : drop i xs ≡ [] = drop_of_length-le xs h in
    let before = rw none at so_far in
    k ∙ before

-- no place is read yet
pub read_first : (bs behind_count : List ℕ) (count empty : ℕ) (left : List ℕ) (list : List (Option ℕ)) →
    count ≡ (unpacked_long bs).value → behind_count ≡ (unpacked_long bs).left →
    empty ≡ (unpacked_long behind_count).value → left ≡ (unpacked_long behind_count).left → list ≡ [] →
    let others = unpacked_runs (count - 0) empty left in
    got (list ++ others.value) others.left ≡ unpacked_places bs
unfolding unpacked_places
read_first bs behind_count count empty left list c b e l none =
    let whole : count - 0 ≡ count = omega arith in
    rw (whole, e, l, c, b, none) refl

-- a place is read
pub read_more : (count i empty empty' : ℕ) (bs left : List ℕ) (x : Option ℕ) (list list' : List (Option ℕ)) (whole : Unpacked (List (Option ℕ))) →
    let read : PlaceRead = record { value = x; empty = empty'; left = left } in
    i < count → read ≡ next_place empty bs → list' ≡ list ++ (x ∷ []) →
    got (list ++ (unpacked_runs (count - i) empty bs).value) (unpacked_runs (count - i) empty bs).left ≡ whole →
    got (list' ++ (unpacked_runs (count - (i + 1)) empty' left).value) (unpacked_runs (count - (i + 1)) empty' left).left ≡ whole
unfolding unpacked_runs
read_more count i empty empty' bs left x list list' whole h read e so_far =
    let one : count - i ≡ suc (count - (i + 1)) = omega arith in
    let before = rw (one, ← read) at so_far in
    rw (e, append_assoc) before

-- all places are read
pub read_all : (count i empty : ℕ) (bs : List ℕ) (list : List (Option ℕ)) (whole : Unpacked (List (Option ℕ))) →
    count ≤ i →
    got (list ++ (unpacked_runs (count - i) empty bs).value) (unpacked_runs (count - i) empty bs).left ≡ whole →
    got list bs ≡ whole
unfolding unpacked_runs
read_all count i empty bs list whole h so_far =
    let none : count - i ≡ 0 = omega arith in
    let before = rw (none, append-nil list) at so_far in
    before
