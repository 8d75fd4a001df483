-- The list of the members of a bit word gives the word back.
use Rattle.std.proofs.Common.{◌≡◌, ℕ, suc, zero, ◌+◌, ◌*◌, ◌/◌, ◌%◌, ◌^◌, ◌<◌, List, [], ◌∷◌, length, add_comm, Bool, true, false, cond, refl, arith}
use Rattle.std.specs.Prelude.{filter, nat_eq}
use Rattle.std.specs.List.{range_with_len}
use Rattle.std.proofs.lemmas.Bool.Decides.{nat_tests}
use Rattle.std.proofs.lemmas.Nat.{mod-pow-add}
use Rattle.cf_layout.specs.Layout.{place_of, computed_classes}
use Rattle.cf_layout.specs.Asked.{stage_numbers}
use Rattle.cf_layout.specs.Words.{has_bit, members, word_of_list, bit_of, stages_of_word, classes_of_word}

-- the bits of the list are those from k on, one after the other
abbrev Climbs : {X : Type 0} → (X → ℕ) → ℕ → List X → Type 0
Climbs bit k [] = Unit {0}
Climbs bit k (x ∷ xs) = (bit x ≡ k) × Climbs bit (k + 1) xs

-- one more bit of a number
next_bit : (w k : ℕ) (has : Bool) → nat_eq (w / 2 ^ k % 2) 1 ≡ has → cond has (2 ^ k) 0 + w % 2 ^ k ≡ w % 2 ^ (k + 1)
next_bit w k true e = let at : w / 2 ^ k % 2 ≡ 1 = grind (arith, nat_tests) in let s : w % 2 ^ (1 + k) ≡ (w / 2 ^ k % 2) * 2 ^ k + w % 2 ^ k =
    mod-pow-add w 1 k in let t = rw (at, add_comm 1 k) at s in omega arith
next_bit w k false e = let at : w / 2 ^ k % 2 ≡ 0 = grind (arith, nat_tests) in let s : w % 2 ^ (1 + k) ≡ (w / 2 ^ k % 2) * 2 ^ k + w % 2 ^ k =
    mod-pow-add w 1 k in let t = rw (at, add_comm 1 k) at s in omega arith

-- one more member adds its bit to the word
word_more : {X : Type 0} (bit : X → ℕ) (x : X) (xs : List X) (has : Bool) →
    word_of_list bit (cond has (x ∷ xs) xs) ≡ cond has (2 ^ bit x) 0 + word_of_list bit xs
unfolding word_of_list
word_more bit x xs true = refl
word_more bit x xs false = omega arith

-- if no bit is added, the bits below are unchanged
nothing_more : (w k : ℕ) → 0 + w % 2 ^ k ≡ w % 2 ^ (0 + k)
nothing_more w k = let e : 0 + k ≡ k = omega arith in rw e (omega arith)

-- adding up two sums that have a term in common
joined : (a b c d e : ℕ) → a + c ≡ d → b + d ≡ e → a + b + c ≡ e
joined a b c d e p q = omega arith

-- the word of the members from a bit on, and what is below that bit
members_word : {X : Type 0} (bit : X → ℕ) (w k : ℕ) (xs : List X) → Climbs bit k xs → word_of_list bit (members bit xs w) + w % 2 ^ k ≡ w % 2 ^ (length xs + k)
unfolding members word_of_list has_bit
members_word bit w k [] climbs = nothing_more w k
members_word bit w k (x ∷ xs) climbs =
    let n = next_bit w k (nat_eq (w / 2 ^ k % 2) 1) refl in
    let r = members_word bit w (k + 1) xs climbs.1 in
    let e : suc (length xs) + k ≡ length xs + (k + 1) = omega arith in
    rw (word_more bit x (filter (λ y. nat_eq (w / 2 ^ bit y % 2) 1) xs) (nat_eq (w / 2 ^ bit x % 2) 1), climbs.0, e) (joined _ _ _ _ _ n r)

-- the stages' bits are those from 0 on
climbs_stages : (n k : ℕ) → Climbs bit_of k (range_with_len (k + 1) n)
climbs_stages zero k = tt
climbs_stages (suc n) k = (omega arith, climbs_stages n (k + 1))

-- the word of the stages of a word is that word
pub stages_kept : (w : ℕ) → w < 2 ^ 32 → word_of_list bit_of (stages_of_word w) ≡ w
unfolding stage_numbers
stages_kept w small = omega (arith, members_word bit_of w 0 (range_with_len 1 32) (climbs_stages 32 0))

-- the word of the classes of a word is that word
pub classes_kept : (w : ℕ) → w < 2 ^ 9 → word_of_list place_of (classes_of_word w) ≡ w
classes_kept w small = omega (arith, members_word place_of w 0 computed_classes (refl, (refl, (refl, (refl, (refl, (refl, (refl, (refl, (refl, tt))))))))))
