-- What the entries of a pipe hold by its bit word, and after a change of one entry, of one bit, or of both.
use Rattle.std.proofs.Common.{◌≡◌, ◌≢◌, ◌∙◌, ℕ, zero, suc, ◌+◌, ◌<◌, ◌≤◌, List, [], ◌∷◌, Some, None, Bool, true, false, length, refl, ap, arith}
use Rattle.std.specs.Bool.{then_some}
use Rattle.std.specs.Prelude.{slice_get, slice_set}
use Rattle.cf_layout.specs.Words.{has_bit}
use Rattle.cf_stages.specs.Parts.{held, held_from}
use Rattle.cf_stages.specs.Words.{with_bit}
use Rattle.cf_stages.proofs.Bits.{bit-other, bit-same}

-- there are as many as entries
length_from : {X : Type 0} (k w : ℕ) (xs : List X) → length (held_from k w xs) ≡ length xs
unfolding held_from
length_from k w [] = refl
length_from k w (x ∷ xs) = ap suc (length_from (suc k) w xs)

pub length-held : {X : Type 0} (w : ℕ) (xs : List X) → length (held w xs) ≡ length xs
length-held w xs = length_from 0 w xs

-- what one of them holds
get_from : {X : Type 0} (k w j : ℕ) (xs : List X) (x : X) → slice_get xs j ≡ Some x →
    slice_get (held_from k w xs) j ≡ Some (then_some (has_bit w (k + j)) x)
unfolding held_from
get_from k w j [] x e = absurd (cc)
get_from k w zero (y ∷ xs) x e = let g : y ≡ x = cc in let z : k + zero ≡ k = omega arith in rw (g, z) refl
get_from k w (suc j) (y ∷ xs) x e = let z : k + suc j ≡ suc k + j = omega arith in rw z (get_from (suc k) w j xs x e)

pub get-held : {X : Type 0} (w j : ℕ) (xs : List X) (x : X) → slice_get xs j ≡ Some x → slice_get (held w xs) j ≡ Some (then_some (has_bit w j) x)
get-held w j xs x e = let z : 0 + j ≡ j = omega arith in rw z at (get_from 0 w j xs x e)

-- words with the same bits from a stage on hold the same
same_from : {X : Type 0} (k w v : ℕ) (xs : List X) → k + length xs ≤ 32 → ((i : ℕ) → i < 32 → k ≤ i → has_bit v i ≡ has_bit w i) →
    held_from k v xs ≡ held_from k w xs
unfolding held_from
same_from k w v [] most same = refl
same_from k w v (x ∷ xs) most same =
    rw (same k (omega arith) (omega arith), same_from (suc k) w v xs (omega arith) (λ i below high. same i below (omega arith))) refl

-- one entry gets this, and the words agree except there
set_from : {X : Type 0} (k w v j : ℕ) (xs : List X) (x : X) → j < length xs → k + length xs ≤ 32 →
    ((i : ℕ) → i < 32 → i ≢ k + j → has_bit v i ≡ has_bit w i) →
    held_from k v (slice_set xs j x) ≡ slice_set (held_from k w xs) j (then_some (has_bit v (k + j)) x)
unfolding held_from
set_from k w v j [] x within most same = absurd (omega arith)
set_from k w v zero (y ∷ xs) x within most same =
    let z : k + zero ≡ k = omega arith in
    rw (z, same_from (suc k) w v xs (omega arith) (λ i below high. same i below (λ g. absurd (omega arith)))) refl
set_from k w v (suc j) (y ∷ xs) x within most same =
    let z : k + suc j ≡ suc k + j = omega arith in
    rw (
      same k (omega arith) (λ g. absurd (omega arith)),
      z,
      set_from (suc k) w v j xs x (omega arith) (omega arith)
          (λ i below off. same i below (λ g. off (omega arith))),
    ) refl

-- the same of an entry that stays, where nothing is held now
clear_from : {X : Type 0} (k w v j : ℕ) (xs : List X) → j < length xs → k + length xs ≤ 32 →
    ((i : ℕ) → i < 32 → i ≢ k + j → has_bit v i ≡ has_bit w i) → has_bit v (k + j) ≡ false →
    held_from k v xs ≡ slice_set (held_from k w xs) j None
unfolding held_from
clear_from k w v j [] within most same clear = absurd (omega arith)
clear_from k w v zero (y ∷ xs) within most same clear =
    let z : k + zero ≡ k = omega arith in
    let c = rw z at clear in
    rw (c, same_from (suc k) w v xs (omega arith) (λ i below high. same i below (λ g. absurd (omega arith)))) refl
clear_from k w v (suc j) (y ∷ xs) within most same clear =
    let z : k + suc j ≡ suc k + j = omega arith in
    rw (
      same k (omega arith) (λ g. absurd (omega arith)),
      clear_from (suc k) w v j xs (omega arith) (omega arith)
          (λ i below off. same i below (λ g. off (omega arith))) (rw z at clear),
    ) refl

-- something comes to an entry, whose bit is set
pub held-put : {X : Type 0} (w j : ℕ) (xs : List X) (x : X) → j < length xs → length xs ≤ 32 →
    held (with_bit w j true) (slice_set xs j x) ≡ slice_set (held w xs) j (Some x)
held-put {X = X} w j xs x within most =
    let z : 0 + j ≡ j = omega arith in
    let e = rw z at (set_from 0 w (with_bit w j true) j xs x within (omega arith)
    (λ i below off. bit-other w j i true (omega arith) below (λ g. off (omega arith)))) in
    e ∙ ap (λ (b : Bool). slice_set (held w xs) j (then_some b x)) (bit-same w j true (omega arith))

-- another thing replaces what is in an entry
pub held-renewed : {X : Type 0} (w j : ℕ) (xs : List X) (x : X) → j < length xs → length xs ≤ 32 → has_bit w j ≡ true →
    held w (slice_set xs j x) ≡ slice_set (held w xs) j (Some x)
held-renewed w j xs x within most set =
    let z : 0 + j ≡ j = omega arith in
    let e = rw z at (set_from 0 w w j xs x within (omega arith) (λ i below off. refl)) in
    e ∙ ap (λ (b : Bool). slice_set (held w xs) j (then_some b x)) set

-- what is in an entry leaves it
pub held-cleared : {X : Type 0} (w j : ℕ) (xs : List X) → j < length xs → length xs ≤ 32 →
    held (with_bit w j false) xs ≡ slice_set (held w xs) j None
held-cleared w j xs within most =
    let z : 0 + j ≡ j = omega arith in
    clear_from 0 w (with_bit w j false) j xs within (omega arith) (λ i below off. bit-other w j i false (omega arith) below (λ g. off (omega arith)))
    (rw z (bit-same w j false (omega arith)))
