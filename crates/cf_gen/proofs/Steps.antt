-- The next line of a text with a line for each number, and the next draw.
use Rattle.std.proofs.Common.{◌≡◌, ℕ, zero, suc, ◌+◌, ◌*◌, ◌-◌, ◌<◌, ◌≤◌, List, [], ◌∷◌, ◌++◌, refl, ap, sym, ◌∙◌, arith, zero-add, append_assoc}
use Rattle.std.specs.List.{flat_map, range_with_len}
use Rattle.cf_gen.specs.Draws.{state_after_draw, state_after_draws}

range-next : (a b : ℕ) → a < b → range_with_len a (b - a) ≡ a ∷ range_with_len (a + 1) (b - (a + 1))
range-next a b h = let e : b - a ≡ suc (b - (a + 1)) = omega arith in rw e refl

-- the lines of the numbers from a up to b are that of a and those after it
lines-next : (f : ℕ → List ℕ) (a b : ℕ) → a < b
    → flat_map f (range_with_len a (b - a)) ≡ f a ++ flat_map f (range_with_len (a + 1) (b - (a + 1)))
lines-next f a b h = ap (flat_map f) (range-next a b h)

-- no line is left at the end
pub lines-none : (f : ℕ → List ℕ) (a b : ℕ) → b ≤ a → flat_map f (range_with_len a (b - a)) ≡ []
lines-none f a b h = let e : b - a ≡ 0 = omega arith in rw e refl

-- if the line of a was appended, those after it are left
pub lines-more : (f : ℕ → List ℕ) (a b : ℕ) (page next whole : List ℕ) → a < b → next ≡ page ++ f a
    → page ++ flat_map f (range_with_len a (b - a)) ≡ whole
    → next ++ flat_map f (range_with_len (a + 1) (b - (a + 1))) ≡ whole
lines-more f a b page next whole h e k =
    rw e (append_assoc page (f a) _ ∙ ap (λ (l : List ℕ). page ++ l) (sym (lines-next f a b h)) ∙ k)

-- the same if another text follows the lines
pub lines-before : (f : ℕ → List ℕ) (a b : ℕ) (text after : List ℕ) → a < b → text ≡ f a
    → flat_map f (range_with_len a (b - a)) ++ after ≡ text ++ (flat_map f (range_with_len (a + 1) (b - (a + 1))) ++ after)
lines-before f a b text after h e =
    rw (e, lines-next f a b h) (append_assoc (f a) _ after)

-- some draws and then more
after-more : (m n x : ℕ) → state_after_draws (m + n) x ≡ state_after_draws n (state_after_draws m x)
after-more zero n x = ap (λ k. state_after_draws k x) (zero-add n)
after-more (suc m) n x =
    let e : suc m + n ≡ suc (m + n) = omega arith in
    ap (λ k. state_after_draws k x) e ∙ after-more m n (state_after_draw x)

-- one more register is given a number
pub after-register : (r x : ℕ) → 8 ≤ r → state_after_draws (r + 1 - 8) x ≡ state_after_draw (state_after_draws (r - 8) x)
after-register r x h =
    let e : r + 1 - 8 ≡ (r - 8) + 1 = omega arith in
    ap (λ k. state_after_draws k x) e ∙ after-more (r - 8) 1 x

-- one more statement is drawn
pub after-statement : (i x : ℕ) → 1 ≤ i → state_after_draws (8 + 5 * (i + 1 - 1)) x ≡ state_after_draws 5 (state_after_draws (8 + 5 * (i - 1)) x)
after-statement i x h =
    let e : 8 + 5 * (i + 1 - 1) ≡ (8 + 5 * (i - 1)) + 5 = omega arith in
    ap (λ k. state_after_draws k x) e ∙ after-more (8 + 5 * (i - 1)) 5 x
