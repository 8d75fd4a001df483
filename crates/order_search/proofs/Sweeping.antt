-- Visiting all nodes once or several times: which counts follow.
use Rattle.std.proofs.Common.{◌≡◌, ℕ, ◌-◌, ◌<◌, List, length, Bool, true, false, cond, ◌||◌, refl, sym, ap, subst, ◌∙◌, arith, ◌⊎◌, inl, inr}
use Rattle.std.proofs.Math.Nat.{eq-or-lt_of_le}
use Rattle.std.proofs.lemmas.List.Sums.{sum_by-set}
use Rattle.order_search.specs.declared.orders.Count.{Count}
use Rattle.order_search.specs.declared.orders.Count.TheVariants.{Open}
use Rattle.order_search.specs.Counting.{is_open_count, count_at, count_of, open_count, CountFollows, SettlesCount, Sweeps, unchanged, one_more, IsStuckFrom, SettlesFrom}
use Rattle.order_search.specs.Rows.{numbered_row}

-- a count that follows is no longer open
fewer : (rows : List (List ℕ)) (old new : List Count) (number : ℕ) → CountFollows rows old new number → open_count new < open_count old
fewer rows old new number h =
    let set_sum = sum_by-set (λ c. cond (is_open_count c) 1 0) old number (count_of old (numbered_row rows number)) Open h.within in
    let before = ap {B = ℕ} (λ b. cond b 1 0) h.open_before in
    let after = ap {B = ℕ} (λ b. cond b 1 0) h.closed in
    omega (arith, set_sum, before, after, ap open_count h.new_is)

pub first_turn : (rows : List (List ℕ)) (counts : List Count) (from : ℕ) → from ≡ length rows → SettlesFrom rows counts counts from false
first_turn rows counts from end = (refl, λ i late within open_here. absurd (omega (arith, late, within, end)))

pub one_settled : (rows : List (List ℕ)) (first old new : List Count) (from : ℕ) (found settled : Bool) → 0 < from →
    SettlesFrom rows first old from found → SettlesCount rows old new (from - 1) settled → SettlesFrom rows first new (from - 1) (found || settled)
one_settled rows first old new from true true above h k =
    (one_more old new (from - 1) h.0 k, omega (arith, fewer rows old new (from - 1) k, h.1))
one_settled rows first old new from true false above h k =
    (subst (Sweeps rows first) (sym k.0) h.0, omega (arith, h.1, ap open_count k.0))
one_settled rows first old new from false true above h k =
    (one_more old new (from - 1) (unchanged old h.0) k, omega (arith, fewer rows old new (from - 1) k, ap open_count h.0))
one_settled rows first old new from false false above h k = (k.0 ∙ h.0, λ i late within. by i within (eq-or-lt_of_le late))
  where
    by : (i : ℕ) → i < length rows → (from - 1 ≡ i) ⊎ (from - 1 < i) → is_open_count (count_at new i) ≡ true →
        is_open_count (count_of new (numbered_row rows i)) ≡ true
    by i within (inl here) open_here =
        subst (λ n. is_open_count (count_of new (numbered_row rows n)) ≡ true) here
        (subst (λ l. is_open_count (count_of l (numbered_row rows (from - 1))) ≡ true) (sym k.0)
        (k.1 (ap (λ l. is_open_count (count_at l (from - 1))) (sym k.0) ∙ ap (λ n. is_open_count (count_at new n)) here ∙ open_here)))
    by i within (inr late) open_here =
        subst (λ l. is_open_count (count_of l (numbered_row rows i)) ≡ true) (sym k.0)
        (h.1 i (omega (arith, late, above)) within (ap (λ l. is_open_count (count_at l i)) (sym k.0) ∙ open_here))

-- pass after pass
pub swept_on : (rows : List (List ℕ)) (first old new : List Count) → Sweeps rows first old → Sweeps rows old new → Sweeps rows first new
swept_on rows first old new h (unchanged _ same) = subst (Sweeps rows first) (sym same) h
swept_on rows first old new h (one_more before _ number rest follows) = one_more before new number (swept_on rows first old before h rest) follows

-- at the start
pub not_swept : (rows : List (List ℕ)) (counts : List Count) → Sweeps rows counts counts
not_swept rows counts = unchanged counts refl

-- after one node was looked at
pub one_swept : (rows : List (List ℕ)) (old new : List Count) (number : ℕ) (settled : Bool) → SettlesCount rows old new number settled → Sweeps rows old new
one_swept rows old new number true k = one_more old new number (unchanged old refl) k
one_swept rows old new number false k = unchanged new k.0

-- a pass that finds something, and one that does not
pub turn_on : (rows : List (List ℕ)) (first old new : List Count) (found : Bool) → found ≡ true → Sweeps rows first old →
    SettlesFrom rows old new 0 found → Sweeps rows first new
turn_on rows first old new true is h k = swept_on rows first old new h k.0
turn_on rows first old new false is h k = absurd (cc)

pub turn_falls : (rows : List (List ℕ)) (old new : List Count) (found : Bool) → found ≡ true → SettlesFrom rows old new 0 found →
    open_count new < open_count old
turn_falls rows old new true is k = k.1
turn_falls rows old new false is k = absurd (cc)

pub turns_end : (rows : List (List ℕ)) (first old new : List Count) (found : Bool) → found ≡ false → Sweeps rows first old → SettlesFrom rows old new 0 found →
    Sweeps rows first new × IsStuckFrom rows new 0
turns_end rows first old new true is h k = absurd (cc)
turns_end rows first old new false is h k = (subst (Sweeps rows first) (sym k.0) h, k.1)

pub ruleset turns = (turn_on, turn_falls, turns_end)
