-- The Falls that are left after a Fall: those at the stages above as before, except that the stage above can now fall.
use Rattle.std.proofs.Common.{◌≡◌, ◌∙◌, refl, sym, ap, ℕ, ◌+◌, ◌<◌, ◌≤◌, Bool, true, false, nat_eq, nat_lt, None, length, arith}
use Rattle.std.specs.Prelude.{◌&&◌, ◌||◌, not}
use Rattle.std.proofs.lemmas.Bool.Decides.{nat_tests}
use Rattle.cf_layout.specs.Layout.{Plan}
use Rattle.cf_layout.specs.Words.{has_bit}
use Rattle.cf_bind.specs.declared.moves.Move.TheVariants.{Fall}
use Rattle.cf_semantics.specs.moves.Bars.{bar}
use Rattle.cf_semantics.specs.moves.Moves.{moved, next}
use Rattle.cf_semantics.specs.state.State.{State}
use Rattle.cf_core.specs.Masks.{masks_of}
use Rattle.cf_core.specs.Processors.{IsProcessor}
use Rattle.cf_core.specs.declared.masks.Masks.{Masks}
use Rattle.cf_index.specs.Allowed.{is_allowed, word_allowed}
use Rattle.cf_index.specs.Left.{AreLeft, IsMadeAt}
use Rattle.cf_index.specs.Sites.{shares, uses_place}
use Rattle.cf_index.specs.Words.{full_bit, goes_on}
use Rattle.cf_index.proofs.Independence.{bar_kept}
use Rattle.cf_index.proofs.LeftStages.{KeepsAbove, barred_bit, free_as, left_again, left_before, lowest_free, moment_of, same_allowed}
use Rattle.cf_index.proofs.Rows.{fall_alone, fallen_next}
use Rattle.cf_index.proofs.There.{has_sidings}

-- a Fall changes nothing for one at a stage that is higher by two or more
falls_keep : KeepsAbove Fall 1
unfolding shares uses_place next
falls_keep plan s i j processor free apart = free_as plan s (moved plan s (Fall i)) (Fall j)
    (bar_kept plan (moment_of s) (Fall i) (Fall j) (has_sidings plan s processor) free tt refl refl (grind (arith, nat_tests)))

pub left_falls : (plan : Plan) (old s : State) (m : Masks) (a w v i : ℕ) → IsProcessor plan old → IsMadeAt plan old s a Fall w i → goes_on s ≡ true →
    m ≡ masks_of plan s → length s.cells ≡ plan.stages →
    ((k : ℕ) → has_bit v k ≡ ((has_bit w k && not (nat_lt k i)) || (nat_eq k i && (has_bit m.packets k && not (full_bit m k))))) →
    AreLeft plan s i Fall v
left_falls plan old s m a w v i processor made on e same is =
    left_again plan s Fall v i (λ k lower. is k ∙ off k lower) (λ k above. is k ∙ by k above (nat_eq k i) refl)
  where
    free : bar plan old (Fall i) ≡ None
    free = lowest_free plan old a Fall w i made.left made.lowest

    off : (k : ℕ) → k < i → ((has_bit w k && not (nat_lt k i)) || (nat_eq k i && (has_bit m.packets k && not (full_bit m k)))) ≡ false
    off k lower =
        let below : nat_lt k i ≡ true = grind (arith, nat_tests) in
        let other : nat_eq k i ≡ false = grind (arith, nat_tests) in
        rw (below, other) (none (has_bit w k))
      where
        none : (b : Bool) → ((b && false) || false) ≡ false
        none b = grind arith

    before : (k : ℕ) → i ≤ k → has_bit w k ≡ has_bit (word_allowed plan old Fall) k
    before k above = left_before plan old a Fall w i k made.left made.lowest above

    by : (k : ℕ) → i ≤ k → (next : Bool) → nat_eq k i ≡ next →
        ((has_bit w k && not (nat_lt k i)) || (nat_eq k i && (has_bit m.packets k && not (full_bit m k)))) ≡ has_bit (word_allowed plan s Fall) k
    by k above true f =
        let at : k ≡ i = grind (arith, nat_tests) in
        let none : has_bit w i ≡ false = before i (omega arith) ∙ barred_bit plan old Fall i (fall_alone plan old i free) in
        let eq : nat_eq i i ≡ true = grind (arith, nat_tests) in
        rw (at, none, eq) (sym (fallen_next plan old s m i free made.moved_is on e same made.lowest.numbered))
    by k above false f =
        let past : nat_lt k i ≡ false = grind (arith, nat_tests) in
        let kept = falls_keep plan old i (k + 1) processor free (grind (arith, nat_tests)) in
        rw (past, f) (all (has_bit w k)) ∙ before k above
        ∙ sym (same_allowed plan old s Fall k (ap (λ (t : State). is_allowed plan t (Fall (k + 1))) made.moved_is ∙ kept))
      where
        all : (b : Bool) → ((b && true) || false) ≡ b
        all b = grind arith
