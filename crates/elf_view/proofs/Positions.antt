-- What the index of the first element that passes a test says about the elements.
use Rattle.std.proofs.Common.{◌≡◌, ℕ, ◌≤◌, List, All, Bool, true, false, Some, None, length, cond, refl, arith}
use Rattle.std.specs.Prelude.{position, nat_lt}
use Rattle.std.specs.List.{position_or_len}
use Rattle.std.proofs.lemmas.List.Sums.{fails_before_first}
use Rattle.std.proofs.lemmas.Bool.Decides.{nat_tests}

-- if no index is given, the position is at or beyond the length
pub none_told : (t : Bool) (n size : ℕ) → nat_lt n size ≡ t → cond t (Some n) None ≡ None → size ≤ n
none_told true n size e h = cc
none_told false n size e h = grind (arith, nat_tests)

-- if no element passes, each fails
pub position-none : {X : Type 0} (p : X → Bool) (xs : List X) → position p xs ≡ None → All (λ x. p x ≡ false) xs
position-none p xs e = λ k d within. fails_before_first p xs k d (let far = none_told (nat_lt (position_or_len p xs) (length xs)) (position_or_len p xs)
    (length xs) refl e in omega (arith, far))
