-- A number above the maximum of u64 is in no list of such numbers.
use Rattle.std.proofs.Common.{◌≡◌, ℕ, ◌+◌, ◌<◌, ◌≤◌, ◌^◌, ◌==◌, List, All, false, sym, arith}
use Rattle.std.proofs.lemmas.List.Folds.{list_any_none}
use Rattle.std.specs.List.{list_any}

-- a smaller number is a different one
is_other : (number next : ℕ) → number < 2 ^ 64 → 2 ^ 64 ≤ next → (number == next) ≡ false
is_other number next below past = grind arith

-- none of the numbers is the next one
pub none_is_past : (numbers : List ℕ) (made : ℕ) → All (λ number. number < 2 ^ 64) numbers →
    2 ^ 64 ≤ made + 1 → false ≡ list_any (λ number. number == made + 1) numbers
none_is_past numbers made below past =
    let others : All (λ number. (number == made + 1) ≡ false) numbers =
    λ k d within. is_other _ (made + 1) (below k d within) past in
    sym (list_any_none (λ number. number == made + 1) numbers others)
