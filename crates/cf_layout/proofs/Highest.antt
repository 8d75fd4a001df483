-- The highest stage of a set is found from the number of leading zeros of its word.
use Rattle.std.proofs.Common.{◌≡◌, ◌∙◌, ℕ, List, zero, suc, ◌+◌, ◌-◌, ◌*◌, ◌/◌, ◌%◌, ◌^◌, ◌<◌, ◌≤◌, [], ◌∷◌, Bool, true, false, cond, refl, sym, ap, arith}
use Rattle.std.specs.Int.{leading_zeros}
use Rattle.std.proofs.Math.Nat.{div-eq_of_lt, div-eq_of_lt-le, pow-le-pow_right, pow-suc}
use Rattle.std.proofs.lemmas.Nat.{leading_top}
use mir.Syntax.{w32}
use Rattle.cf_layout.specs.Layout.{last_of}
use Rattle.cf_layout.specs.Words.{has_bit, stages_of_word}
use Rattle.cf_layout.proofs.Words.{stages_from, from_next, from_first, from_end, no_stages}

-- a word below a power of two has no bit from that power on
no_high_bit : (w n i : ℕ) → w < 2 ^ n → n ≤ i → has_bit w i ≡ false
unfolding has_bit
no_high_bit w n i small high = let p : 2 ^ n ≤ 2 ^ i = pow-le-pow_right (omega arith) high in let e : w / 2 ^ i ≡ 0 = div-eq_of_lt (omega arith) in rw e refl

-- a word from a power of two up to the next has that power's bit
top_bit : (w j : ℕ) → 2 ^ j ≤ w → w < 2 ^ suc j → has_bit w j ≡ true
unfolding has_bit
top_bit w j low high = let p = pow-suc 2 j in let e : w / 2 ^ j ≡ 1 = div-eq_of_lt-le (2 ^ j) (omega arith) (omega arith) in rw e refl

-- no stage is above it
none_above : (w j d s : ℕ) → w < 2 ^ suc j → j + 1 < s → s + d ≡ 33 → stages_from w s ≡ []
none_above w j zero s small above at = let e : s ≡ 33 = omega arith in rw e (from_end w)
none_above w j (suc d) s small above at =
    let n = from_next w s (omega arith) (omega arith) in
    let off = no_high_bit w (suc j) (s - 1) small (omega arith) in
    rw (n, off) (none_above w j d (s + 1) small (omega arith) (omega arith))

-- the last element of a list that may begin with one more number
last_in : (has : Bool) (s other last : ℕ) (ss : List ℕ) → ((o : ℕ) → last_of ss o ≡ last) → last_of (cond has (s ∷ ss) ss) other ≡ last
last_in true s other last ss same = same s
last_in false s other last ss same = same other

-- the last of the stages from a given stage on
last_from : (w j d s other : ℕ) → 2 ^ j ≤ w → w < 2 ^ suc j → j < 32 → 1 ≤ s → s + d ≡ suc j → last_of (stages_from w s) other ≡ suc j
last_from w j zero s other low high few first at =
    let e : s ≡ suc j = omega arith in
    let n = from_next w s first (omega arith) in
    let b : j ≡ s - 1 = omega arith in
    let t = rw b at (top_bit w j low high) in
    let z : stages_from w (s + 1) ≡ [] = none_above w j (33 - (s + 1)) (s + 1) high (omega arith) (omega arith) in
    rw (n, t, z) e
last_from w j (suc d) s other low high few first at =
    let n = from_next w s first (omega arith) in
    rw n (last_in (has_bit w (s - 1)) s other (suc j) (stages_from w (s + 1)) (λ o. last_from w j d (s + 1) o low high few (omega arith) (omega arith)))

pub last_of_some : (w other : ℕ) → 0 < w → w < 2 ^ 32 → 32 - leading_zeros w32 w ≡ last_of (stages_of_word w) other
last_of_some w other some small =
    let t = leading_top 32 w some small in
    let e : 32 - leading_zeros w32 w ≡ suc t.0 = omega (arith, t.1) in
    e ∙ sym (rw from_first at (last_from w t.0 t.0 1 other t.2 t.3 (omega (arith, t.1)) (omega arith) (omega arith)))

-- if there is no stage, it is the other number
pub last_of_none : (w other : ℕ) → w ≡ 0 → other ≡ last_of (stages_of_word w) other
last_of_none w other none = rw (none, no_stages) refl
