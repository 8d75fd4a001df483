-- Lists one item at a time.
use Rattle.std.proofs.Common.{◌≡◌, ℕ, zero, suc, ◌+◌, ◌-◌, ◌<◌, ◌≤◌, List, [], ◌∷◌, ◌++◌, length, get_or, drop, refl, sym, ap, subst, ◌∙◌, append_assoc, add-one, arith, drop-cons}
use Rattle.std.proofs.Math.ListN.{drop_of_length-le}
use Rattle.std.proofs.lemmas.List.{append-nil}
use Rattle.order_keys.specs.Unpacked.{Unpacked, got}
use Rattle.order_keys.specs.Numbers.{unpacked_long, unpacked_byte}
use Rattle.order_keys.specs.Lists.{packed_items, unpacked_items, unpacked_list}

-- an item is appended
pub more_packed : {A : Type 0} (packed : A → List ℕ) (xs : List A) (i : ℕ) (x : A) (key key' whole : List ℕ) →
    i < length xs → x ≡ get_or xs i x → key' ≡ key ++ packed x →
    key ++ packed_items packed (drop i xs) ≡ whole → key' ++ packed_items packed (drop (i + 1) xs) ≡ whole
unfolding packed_items
more_packed packed xs i x key key' whole h e k so_far =
    let here : drop i xs ≡ get_or xs i x ∷ drop (suc i) xs = drop-cons xs i x h in
    let before = rw (here, ← e) at so_far in
    rw (add-one, k, append_assoc) before

-- all items are appended
pub all_packed : {A : Type 0} (packed : A → List ℕ) (xs : List A) (i : ℕ) (key whole : List ℕ) →
    length xs ≤ i → key ++ packed_items packed (drop i xs) ≡ whole → key ≡ whole
unfolding packed_items
all_packed packed xs i key whole h so_far =
    let none : drop i xs ≡ [] = drop_of_length-le xs h in
    let before = rw none at so_far in
    sym (append-nil key) ∙ before

-- no item is read yet
pub read_first : {A : Type 0} (unpacked : List ℕ → Unpacked A) (bs : List ℕ) (count : ℕ) (left : List ℕ) (list : List A) →
    count ≡ (unpacked_long bs).value → left ≡ (unpacked_long bs).left → list ≡ [] →
    let others = unpacked_items unpacked (count - 0) left in
    got (list ++ others.value) others.left ≡ unpacked_list unpacked bs
unfolding unpacked_list
read_first unpacked bs count left list c l none =
    let e : count - 0 ≡ count = omega arith in
    rw (e, c, l, none) refl

-- an item is read
pub read_more : {A : Type 0} (unpacked : List ℕ → Unpacked A) (count i : ℕ) (bs left : List ℕ) (x : A) (list list' : List A)
    (whole : Unpacked (List A)) →
    i < count → x ≡ (unpacked bs).value → left ≡ (unpacked bs).left → list' ≡ list ++ (x ∷ []) →
    got (list ++ (unpacked_items unpacked (count - i) bs).value) (unpacked_items unpacked (count - i) bs).left ≡ whole →
    got (list' ++ (unpacked_items unpacked (count - (i + 1)) left).value) (unpacked_items unpacked (count - (i + 1)) left).left ≡ whole
unfolding unpacked_items
read_more unpacked count i bs left x list list' whole h v l e so_far =
    let one : count - i ≡ suc (count - (i + 1)) = omega arith in
    let before = rw one at so_far in
    rw (e, v, l, append_assoc) before

-- all items are read
pub read_all : {A : Type 0} (unpacked : List ℕ → Unpacked A) (count i : ℕ) (bs : List ℕ) (list : List A) (whole : Unpacked (List A)) →
    count ≤ i →
    got (list ++ (unpacked_items unpacked (count - i) bs).value) (unpacked_items unpacked (count - i) bs).left ≡ whole →
    got list bs ≡ whole
unfolding unpacked_items
read_all unpacked count i bs list whole h so_far =
    let none : count - i ≡ 0 = omega arith in
    let before = rw (none, append-nil list) at so_far in
    before

-- the number of items read is the count that was given
items_count : {A : Type 0} (unpacked : List ℕ → Unpacked A) (n : ℕ) (bs : List ℕ) → length (unpacked_items unpacked n bs).value ≡ n
unfolding unpacked_items
items_count unpacked zero bs = refl
items_count unpacked (suc n) bs = ap suc (items_count unpacked n (unpacked bs).left)

-- so a list of more than 64 items is read from a count above 64
pub long_list : (bs : List ℕ) (count : ℕ) → count ≡ (unpacked_long bs).value → 64 < count → 64 < length (unpacked_list unpacked_byte bs).value
unfolding unpacked_list
long_list bs count e many =
    subst (λ n. 64 < n) (e ∙ sym (items_count unpacked_byte (unpacked_long bs).value (unpacked_long bs).left)) many
