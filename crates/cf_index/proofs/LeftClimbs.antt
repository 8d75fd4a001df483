-- The Climbs that are left after an instruction has climbed as far as it can.
use Rattle.std.proofs.Common.{◌≡◌, ◌∙◌, refl, sym, ap, ℕ, zero, suc, ◌+◌, ◌-◌, ◌<◌, ◌≤◌, Bool, true, false, nat_lt, Option, Some, None, arith}
use Rattle.std.specs.Prelude.{◌&&◌, not}
use Rattle.std.proofs.Math.Bool.{and-false, and-true}
use Rattle.std.proofs.lemmas.Bool.Decides.{nat_tests}
use Rattle.cf_layout.specs.Layout.{Plan}
use Rattle.cf_layout.specs.Words.{has_bit}
use Rattle.cf_bind.specs.declared.moves.Bar.{Bar}
use Rattle.cf_bind.specs.declared.moves.Move.TheVariants.{Climb}
use Rattle.cf_semantics.specs.moves.Bars.{bar}
use Rattle.cf_semantics.specs.moves.Moves.{moved, next}
use Rattle.cf_semantics.specs.state.Options.{is_some}
use Rattle.cf_semantics.specs.state.State.{State}
use Rattle.theory_confluence.proofs.Laws.{move_local}
use Rattle.cf_core.specs.Climbing.{ClimbsTo, climbed, climbs_on}
use Rattle.cf_core.specs.Processors.{IsProcessor, Processor}
use Rattle.cf_index.specs.Alone.{HasSidings}
use Rattle.cf_index.specs.Allowed.{is_allowed, word_allowed}
use Rattle.cf_index.specs.Left.{AreLeft, IsLowest}
use Rattle.cf_index.specs.Sites.{shares, uses_place}
use Rattle.cf_index.proofs.Independence.{bar_kept}
use Rattle.cf_index.proofs.LeftStages.{barred_bit, free_as, left_again, left_before, moment_of, same_allowed}
use Rattle.cf_index.proofs.Rows.{climb_alone}
use Rattle.cf_index.proofs.There.{has_sidings}

-- the state after one Climb more
climbed_plan : (p : Processor) (i n : ℕ) → (climbed p i n).plan ≡ p.plan
unfolding climbed
climbed_plan p i zero = refl
climbed_plan p i (suc n) = climbed_plan p i n

climbed_next : (p : Processor) (i n : ℕ) → (climbed p i (suc n)).state ≡ moved p.plan (climbed p i n).state (Climb (i + n))
unfolding climbed
climbed_next p i n = ap (λ (plan : Plan). moved plan (climbed p i n).state (Climb (i + n))) (climbed_plan p i n)

climbed_none : (p : Processor) (i : ℕ) → (climbed p i 0).state ≡ p.state
unfolding climbed
climbed_none p i = refl

-- no Climb changes how many cells the sidings have
one_keeps_sidings : (plan : Plan) (s : State) (i : ℕ) → bar plan s (Climb i) ≡ None → HasSidings plan s → HasSidings plan (moved plan s (Climb i))
unfolding next
one_keeps_sidings plan s i free h k = sym (((move_local plan (moment_of s) (Climb i)).frame free).sizes k) ∙ h k

keeps_sidings : (p : Processor) (i n : ℕ) → HasSidings p.plan p.state → ((k : ℕ) → k < n → climbs_on p i k) → HasSidings p.plan (climbed p i n).state
keeps_sidings p i zero h each = rw (climbed_none p i) h
keeps_sidings p i (suc n) h each =
    rw (climbed_next p i n) (one_keeps_sidings p.plan (climbed p i n).state (i + n) (each n (omega arith))
    (keeps_sidings p i n h (λ k below. each k (omega (arith, below)))))

-- nor whether a Climb is allowed at a stage above those that are climbed to
one_keeps : (plan : Plan) (s : State) (i m : ℕ) → HasSidings plan s → bar plan s (Climb i) ≡ None → i + 1 < m →
    is_allowed plan (moved plan s (Climb i)) (Climb m) ≡ is_allowed plan s (Climb m)
unfolding shares uses_place next
one_keeps plan s i m h free apart = free_as plan s (moved plan s (Climb i)) (Climb m)
    (bar_kept plan (moment_of s) (Climb i) (Climb m) h free tt refl refl (grind (arith, nat_tests)))

climbs_keep : (p : Processor) (i n m : ℕ) → HasSidings p.plan p.state → ((k : ℕ) → k < n → climbs_on p i k) → i + n < m →
    is_allowed p.plan (climbed p i n).state (Climb m) ≡ is_allowed p.plan p.state (Climb m)
climbs_keep p i zero m h each above = rw (climbed_none p i) refl
climbs_keep p i (suc n) m h each above =
    let sooner = λ (k : ℕ) (below : k < n). each k (omega (arith, below)) in
    rw (climbed_next p i n) (one_keeps p.plan (climbed p i n).state (i + n) m (keeps_sidings p i n h sooner) (each n (omega arith)) (omega (arith, above)))
    ∙ climbs_keep p i n m h sooner (omega (arith, above))

some_bar : (o : Option Bar) → (o ≡ None → ⊥) → not (is_some o) ≡ false
some_bar None some = absurd (some refl)
some_bar (Some b) some = refl

-- at the stages that are climbed to nothing could climb before
none_between : (p : Processor) (i j k : ℕ) → HasSidings p.plan p.state → ClimbsTo p i j → i ≤ k → k < j → is_allowed p.plan p.state (Climb (k + 1)) ≡ false
none_between p i j k h to low high =
    let z : i + (k - i) ≡ k = omega (arith, low) in
    let free : bar p.plan (climbed p i (k - i)).state (Climb k) ≡ None = rw z at (to.each (k - i) (omega (arith, low, high))) in
    sym (climbs_keep p i (k - i) (k + 1) h (λ n below. to.each n (omega (arith, below, low, high))) (omega (arith, z)))
    ∙ climb_alone p.plan (climbed p i (k - i)).state k free

pub left_climbs : (p : Processor) (i j a w v : ℕ) → IsLowest w i → ((k : ℕ) → has_bit v k ≡ (has_bit w k && not (nat_lt k i))) →
    AreLeft p.plan p.state a Climb w → IsProcessor p.plan p.state → ClimbsTo p i j →
    AreLeft p.plan (climbed p i (j - i)).state (j - 1) Climb v
left_climbs p i j a w v lowest is left processor to =
    left_again p.plan (climbed p i (j - i)).state Climb v (j - 1)
    (λ k lower. below k (omega (arith, lower, to.higher)) (nat_lt k i) refl) (λ k above. here k above (nat_lt k j) refl)
  where
    h : HasSidings p.plan p.state
    h = has_sidings p.plan p.state processor

    before : (k : ℕ) → i ≤ k → has_bit v k ≡ has_bit (word_allowed p.plan p.state Climb) k
    before k above =
        let past : nat_lt k i ≡ false = grind (arith, nat_tests) in
        is k ∙ rw past (and-true (has_bit w k)) ∙ left_before p.plan p.state a Climb w i k left lowest above

    below : (k : ℕ) → k < j → (b : Bool) → nat_lt k i ≡ b → has_bit v k ≡ false
    below k lower true e = is k ∙ rw e (and-false (has_bit w k))
    below k lower false e =
        let low : i ≤ k = grind (arith, nat_tests) in
        before k low ∙ barred_bit p.plan p.state Climb k (none_between p i j k h to low lower)

    here : (k : ℕ) → j - 1 ≤ k → (b : Bool) → nat_lt k j ≡ b → has_bit v k ≡ has_bit (word_allowed p.plan (climbed p i (j - i)).state Climb) k
    here k above true e =
        let lower : k < j = grind (arith, nat_tests) in
        let z : i + (j - i) ≡ k + 1 = omega (arith, above, lower, to.higher) in
        let off : is_allowed p.plan (climbed p i (j - i)).state (Climb (k + 1)) ≡ false = rw z at (some_bar _ to.ends) in
        below k lower (nat_lt k i) refl ∙ sym (barred_bit p.plan (climbed p i (j - i)).state Climb k off)
    here k above false e =
        let past : i + (j - i) < k + 1 = grind (arith, nat_tests, to.higher) in
        before k (omega (arith, past)) ∙ sym (same_allowed p.plan p.state (climbed p i (j - i)).state Climb k
        (climbs_keep p i (j - i) (k + 1) h to.each past))
