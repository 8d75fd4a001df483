-- The later of two marks.
use Rattle.std.proofs.Common.{◌≡◌, refl, ℕ, ◌<◌, ◌≤◌, max, Bool, true, false, cond, arith}
use Rattle.std.proofs.lemmas.Bool.Decides.{nat_tests}
use Rattle.run_ledger.specs.Ledgers.{is_later, later, no_chain_mark}
use Rattle.run_ledger.specs.declared.mark.ChainMark.{ChainMark}

-- the later of a mark and no mark is the mark
pub later_none : (a : ChainMark) → later a no_chain_mark ≡ a
later_none a = let e : is_later a no_chain_mark ≡ false = grind (arith, nat_tests) in rw e refl

-- a mark with a larger number and no earlier time is the later one
pub later_new : (a b : ChainMark) → a.time ≤ b.time → a.number < b.number → later a b ≡ b
later_new a b t n = let e : is_later a b ≡ true = grind (arith, nat_tests) in rw e refl

-- a mark with an earlier time is not
pub later_old : (a b : ChainMark) → b.time < a.time → later a b ≡ a
later_old a b t = let e : is_later a b ≡ false = grind (arith, nat_tests) in rw e refl

-- its time is the later of the two
pub later_time : (a b : ChainMark) → (later a b).time ≡ max a.time b.time
later_time a b = by (is_later a b) refl
  where
    by : (o : Bool) → is_later a b ≡ o → (cond o b a).time ≡ max a.time b.time
    by true e = grind (arith, nat_tests)
    by false e = grind (arith, nat_tests)

-- and its number is one of the two
pub later_number : (a b : ChainMark) (most : ℕ) → a.number ≤ most → b.number ≤ most → (later a b).number ≤ most
later_number a b most h g = by (is_later a b)
  where
    by : (o : Bool) → (cond o b a).number ≤ most
    by true = g
    by false = h

-- a new mark compared with one of two, or with both
pub new_first : (p q m : ChainMark) → p.number < m.number → q.number < m.number → later (later p q) m ≡ later (later p m) q
new_first p q m a b = by (is_later p q) (is_later p m) (is_later q m) refl refl refl
  where
    by : (x y z : Bool) → is_later p q ≡ x → is_later p m ≡ y → is_later q m ≡ z → later (cond x q p) m ≡ later (cond y m p) q
    by true true true e f g = let k : is_later m q ≡ false = grind (arith, nat_tests) in rw (g, k) refl
    by true true false e f g = let k : is_later m q ≡ true = grind (arith, nat_tests) in rw (g, k) refl
    by true false true e f g = absurd (grind (arith, nat_tests))
    by true false false e f g = rw (g, e) refl
    by false true true e f g = let k : is_later m q ≡ false = grind (arith, nat_tests) in rw (f, k) refl
    by false true false e f g = absurd (grind (arith, nat_tests))
    by false false true e f g = rw (f, e) refl
    by false false false e f g = rw (f, e) refl

pub new_second : (p q m : ChainMark) → p.number < m.number → q.number < m.number → later (later p q) m ≡ later p (later q m)
new_second p q m a b = by (is_later p q) (is_later p m) (is_later q m) refl refl refl
  where
    by : (x y z : Bool) → is_later p q ≡ x → is_later p m ≡ y → is_later q m ≡ z → later (cond x q p) m ≡ later p (cond z m q)
    by true true true e f g = rw (g, f) refl
    by true true false e f g = rw (g, e) refl
    by true false true e f g = absurd (grind (arith, nat_tests))
    by true false false e f g = rw (g, e) refl
    by false true true e f g = rw f refl
    by false true false e f g = absurd (grind (arith, nat_tests))
    by false false true e f g = rw f refl
    by false false false e f g = rw (f, e) refl

pub new_both : (p q m : ChainMark) → p.number < m.number → q.number < m.number → later (later p q) m ≡ later (later p m) (later q m)
new_both p q m a b = by (is_later p q) (is_later p m) (is_later q m) refl refl refl
  where
    same : is_later m m ≡ false
    same = grind (arith, nat_tests)

    by : (x y z : Bool) → is_later p q ≡ x → is_later p m ≡ y → is_later q m ≡ z → later (cond x q p) m ≡ later (cond y m p) (cond z m q)
    by true true true e f g = rw (g, same) refl
    by true true false e f g = let k : is_later m q ≡ true = grind (arith, nat_tests) in rw (g, k) refl
    by true false true e f g = absurd (grind (arith, nat_tests))
    by true false false e f g = rw (g, e) refl
    by false true true e f g = rw (f, same) refl
    by false true false e f g = absurd (grind (arith, nat_tests))
    by false false true e f g = rw f refl
    by false false false e f g = rw (f, e) refl
