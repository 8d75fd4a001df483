-- Moves kept in a list of fixed length.
use Rattle.std.proofs.Common.{◌≡◌, refl, sym, ap, ℕ, zero, suc, ◌+◌, ◌<◌, ◌≤◌, List, [], ◌∷◌, ◌++◌, None, drop, length, take, arith}
use Rattle.std.specs.Prelude.{slice_get, slice_set}
use Rattle.std.proofs.lemmas.List.{length-drop, length-take-le}
use Rattle.cf_bind.specs.declared.moves.Move.{Move}

-- those before an index
pub kept_at : (moves : List Move) (n count : ℕ) → n < count → slice_get moves n ≡ slice_get (take count moves) n
kept_at moves n zero before = absurd (omega (arith, before))
kept_at [] n (suc count) before = refl
kept_at (x ∷ moves) zero (suc count) before = refl
kept_at (x ∷ moves) (suc n) (suc count) before = kept_at moves n count (omega (arith, before))

pub kept_past : (moves : List Move) (n count : ℕ) → count ≤ n → None ≡ slice_get (take count moves) n
kept_past moves n zero past = refl
kept_past [] n (suc count) past = refl
kept_past (x ∷ moves) zero (suc count) past = absurd (omega (arith, past))
kept_past (x ∷ moves) (suc n) (suc count) past = kept_past moves n count (omega (arith, past))

pub kept_count : (moves : List Move) (count room : ℕ) → count ≤ room → room ≡ length moves → count ≡ length (take count moves)
kept_count moves count room few e = sym (length-take-le count moves (omega (arith, few, e)))

-- the first of those from an index on
pub left_first : (moves : List Move) (n : ℕ) → slice_get moves n ≡ slice_get (drop n moves) 0
left_first [] zero = refl
left_first [] (suc n) = refl
left_first (x ∷ moves) zero = refl
left_first (x ∷ moves) (suc n) = left_first moves n

pub left_some : (moves : List Move) (n : ℕ) → 0 < length (drop n moves) → n < length moves
left_some moves n some = omega (arith, some, length-drop n moves)

-- and those after it
pub left_fewer : (xs : List Move) (n : ℕ) → drop (n + 1) xs ≡ drop 1 (drop n xs)
left_fewer [] zero = refl
left_fewer [] (suc n) = let e : suc n + 1 ≡ suc (n + 1) = omega arith in rw e refl
left_fewer (x ∷ xs) zero = refl
left_fewer (x ∷ xs) (suc n) = let e : suc n + 1 ≡ suc (n + 1) = omega arith in rw e (left_fewer xs n)

-- one move, one more, and no more than there is room for
pub kept_one : (moves : List Move) (mv : Move) → 0 < length moves → take 1 (slice_set moves 0 mv) ≡ mv ∷ []
kept_one [] mv some = absurd (omega arith)
kept_one (x ∷ moves) mv some = refl

pub kept_more : (moves : List Move) (count most : ℕ) (mv : Move) → count < length moves → count < most →
    take (count + 1) (slice_set moves count mv) ≡ take most (take count moves ++ mv ∷ [])
kept_more [] count most mv within few = absurd (omega (arith, within))
kept_more (x ∷ moves) zero zero mv within few = absurd (omega arith)
kept_more (x ∷ moves) zero (suc zero) mv within few = refl
kept_more (x ∷ moves) zero (suc (suc most)) mv within few = refl
kept_more (x ∷ moves) (suc count) zero mv within few = absurd (omega arith)
kept_more (x ∷ moves) (suc count) (suc most) mv within few =
    let e : suc count + 1 ≡ suc (count + 1) = omega arith in
    rw e (ap (λ (l : List Move). x ∷ l) (kept_more moves count most mv (omega (arith, within)) (omega (arith, few))))

all_full : (moves : List Move) (most : ℕ) (mv : Move) → most ≤ length moves → take most (take most moves ++ mv ∷ []) ≡ take most moves
all_full moves zero mv within = refl
all_full [] (suc most) mv within = absurd (omega arith)
all_full (x ∷ moves) (suc most) mv within = ap (λ (l : List Move). x ∷ l) (all_full moves most mv (omega (arith, within)))

pub kept_full : (moves : List Move) (count most : ℕ) (mv : Move) → most ≤ count → count ≤ most → most ≤ length moves →
    take count moves ≡ take most (take count moves ++ mv ∷ [])
kept_full moves count most mv full within room = let e : count ≡ most = omega (arith, full, within) in rw e (sym (all_full moves most mv room))
