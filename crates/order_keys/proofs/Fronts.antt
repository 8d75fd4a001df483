-- What a slice pattern says about the first byte and the bytes after it.
use Rattle.std.proofs.Common.{◌≡◌, ℕ, ◌-◌, ◌<◌, ◌≤◌, List, [], ◌∷◌, length, get_or, take, drop, refl, arith}
use Rattle.std.proofs.Math.Seq.{take-length}
use Rattle.order_keys.specs.Numbers.{leading_byte, behind}

pub front_read : (bs : List ℕ) → get_or bs 0 0 ≡ leading_byte bs
unfolding leading_byte
front_read [] = refl
front_read (b ∷ bs) = refl

pub front_none : (bs : List ℕ) → length bs < 1 → leading_byte bs ≡ 0
unfolding leading_byte
front_none [] h = refl
front_none (b ∷ bs) h = absurd (omega arith)

pub behind_none : (bs : List ℕ) → length bs < 1 → behind bs ≡ bs
unfolding behind
behind_none [] h = refl
behind_none (b ∷ bs) h = absurd (omega arith)

pub behind_read : (bs : List ℕ) → 1 ≤ length bs → take (length bs - 1) (drop 1 bs) ≡ behind bs
unfolding behind
behind_read [] h = absurd (omega arith)
behind_read (b ∷ bs) h = let e : length (b ∷ bs) - 1 ≡ length bs = omega arith in rw (e, take-length) refl

pub ruleset fronts = (front_read, front_none, behind_none, behind_read)
