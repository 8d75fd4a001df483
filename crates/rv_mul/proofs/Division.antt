-- The relation of division has one answer, and `quotient` and `remainder` return it.
use Rattle.std.proofs.Common.{◌≡◌, ◌≢◌, true, false, ℕ, zero, suc, ◌+◌, ◌*◌, ◌/◌, ◌%◌, ◌<◌, ◌⊎◌, inl, inr, ℤ, pos, negsuc, neg_ℤ, ◌+ℤ◌, ◌*ℤ◌, unsigned_abs, refl, sym, ◌∙◌, ap, arith}
use Rattle.std.specs.Int.{is_negative}
use Rattle.std.proofs.lemmas.Int.{ints, quot-rem, rem_below}
use Rattle.std.proofs.lemmas.Bool.Decides.{nat_tests}
use Rattle.std.proofs.lemmas.Nat.{div-mul-add, mod-mul-add}
use Rattle.rv_mul.specs.Products.{Divides, quotient, remainder}

size_pos : (y : ℤ) → y ≢ pos 0 → 0 < unsigned_abs y
size_pos (pos zero) h = absurd (h refl)
size_pos (pos (suc n)) h = omega arith
size_pos (negsuc n) h = omega arith

not_negative : (n : ℕ) → is_negative (pos n) ≡ false
not_negative n = grind (arith, nat_tests)

-- minus n is 0 or negative
minus_sign : (n : ℕ) → (neg_ℤ (pos n) ≡ pos 0) ⊎ (is_negative (neg_ℤ (pos n)) ≡ true)
minus_sign zero = inl refl
minus_sign (suc n) = inr refl

remainder_sign : (x y : ℤ) → (remainder x y ≡ pos 0) ⊎ (is_negative (remainder x y) ≡ is_negative x)
remainder_sign (pos a) y = inr (not_negative (a % unsigned_abs y) ∙ sym (not_negative a))
remainder_sign (negsuc a) y = minus_sign (suc a % unsigned_abs y)

pub quotient_divides : (x y : ℤ) → y ≢ pos 0 → Divides x y (quotient x y) (remainder x y)
quotient_divides x y h =
    record { whole = sym (quot-rem x y); small = rem_below x y (size_pos y h); signs = remainder_sign x y }

-- the natural numbers k and c with a = k b + c and c below b are the quotient and the remainder
one_division_of : (a b k c : ℕ) → a ≡ k * b + c → c < b → (k ≡ a / b) × (c ≡ a % b)
one_division_of a b k c e h =
    (sym (div-mul-add k b c h) ∙ ap (λ n. n / b) (sym e), sym (mod-mul-add k b c h) ∙ ap (λ n. n % b) (sym e))

-- the same for integers, by the signs of the dividend and of the divisor
one_pos_pos : (a b c : ℕ) (q : ℤ) → pos a ≡ q *ℤ pos b +ℤ pos c
    → c < b → (q ≡ pos (a / b)) × (c ≡ a % b)
one_pos_pos a b c (pos k) e h =
    let u = one_division_of a b k c (omega (arith, ints)) h in
    (ap pos u.0, u.1)
one_pos_pos a b c (negsuc k) e h = absurd (omega (arith, ints))

one_pos_neg : (a b c : ℕ) (q : ℤ) → pos a ≡ q *ℤ negsuc b +ℤ pos c
    → c < suc b → (q ≡ neg_ℤ (pos (a / suc b))) × (c ≡ a % suc b)
one_pos_neg a b c (pos zero) e h =
    let u = one_division_of a (suc b) 0 c (omega (arith, ints)) h in
    (ap (λ n. neg_ℤ (pos n)) u.0, u.1)
one_pos_neg a b c (pos (suc k)) e h = absurd (omega (arith, ints))
one_pos_neg a b c (negsuc k) e h =
    let u = one_division_of a (suc b) (suc k) c (omega (arith, ints)) h in
    (ap (λ n. neg_ℤ (pos n)) u.0, u.1)

one_neg_pos : (a b c : ℕ) (q : ℤ) → negsuc a ≡ q *ℤ pos b +ℤ neg_ℤ (pos c)
    → c < b → (q ≡ neg_ℤ (pos (suc a / b))) × (c ≡ suc a % b)
one_neg_pos a b c (pos zero) e h =
    let u = one_division_of (suc a) b 0 c (omega (arith, ints)) h in
    (ap (λ n. neg_ℤ (pos n)) u.0, u.1)
one_neg_pos a b c (pos (suc k)) e h = absurd (omega (arith, ints))
one_neg_pos a b c (negsuc k) e h =
    let u = one_division_of (suc a) b (suc k) c (omega (arith, ints)) h in
    (ap (λ n. neg_ℤ (pos n)) u.0, u.1)

one_neg_neg : (a b c : ℕ) (q : ℤ) → negsuc a ≡ q *ℤ negsuc b +ℤ neg_ℤ (pos c)
    → c < suc b → (q ≡ pos (suc a / suc b)) × (c ≡ suc a % suc b)
one_neg_neg a b c (pos k) e h =
    let u = one_division_of (suc a) (suc b) k c (omega (arith, ints)) h in
    (ap pos u.0, u.1)
one_neg_neg a b c (negsuc k) e h = absurd (omega (arith, ints))

-- a remainder of a natural number is a natural number
remainder_of_pos : (a : ℕ) (r : ℤ)
    → (r ≡ pos 0) ⊎ (is_negative r ≡ is_negative (pos a)) → r ≡ pos (unsigned_abs r)
remainder_of_pos a (pos c) s = refl
remainder_of_pos a (negsuc c) (inl e) = cc
remainder_of_pos a (negsuc c) (inr e) = cc (not_negative a)

-- a remainder of a negative number is 0 or negative
remainder_of_negsuc : (a : ℕ) (r : ℤ)
    → (r ≡ pos 0) ⊎ (is_negative r ≡ is_negative (negsuc a)) → r ≡ neg_ℤ (pos (unsigned_abs r))
remainder_of_negsuc a (negsuc c) s = refl
remainder_of_negsuc a (pos zero) (inl e) = refl
remainder_of_negsuc a (pos (suc c)) (inl e) = cc
remainder_of_negsuc a (pos c) (inr e) = cc (not_negative c)

one_division : (x y q r : ℤ) → Divides x y q r → (q ≡ quotient x y) × (r ≡ remainder x y)
one_division (pos a) (pos b) q r d =
    let s = remainder_of_pos a r d.signs in
    let u = one_pos_pos a b (unsigned_abs r) q (d.whole ∙ ap (λ z. q *ℤ pos b +ℤ z) s) d.small in
    (u.0, s ∙ ap pos u.1)
one_division (pos a) (negsuc b) q r d =
    let s = remainder_of_pos a r d.signs in
    let u = one_pos_neg a b (unsigned_abs r) q (d.whole ∙ ap (λ z. q *ℤ negsuc b +ℤ z) s) d.small in
    (u.0, s ∙ ap pos u.1)
one_division (negsuc a) (pos b) q r d =
    let s = remainder_of_negsuc a r d.signs in
    let u = one_neg_pos a b (unsigned_abs r) q (d.whole ∙ ap (λ z. q *ℤ pos b +ℤ z) s) d.small in
    (u.0, s ∙ ap (λ n. neg_ℤ (pos n)) u.1)
one_division (negsuc a) (negsuc b) q r d =
    let s = remainder_of_negsuc a r d.signs in
    let u = one_neg_neg a b (unsigned_abs r) q (d.whole ∙ ap (λ z. q *ℤ negsuc b +ℤ z) s) d.small in
    (u.0, s ∙ ap (λ n. neg_ℤ (pos n)) u.1)

pub one_quotient : (x y q r : ℤ) → Divides x y q r → q ≡ quotient x y
one_quotient x y q r d = (one_division x y q r d).0

pub one_remainder : (x y q r : ℤ) → Divides x y q r → r ≡ remainder x y
one_remainder x y q r d = (one_division x y q r d).1
