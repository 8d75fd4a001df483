-- What a word or a flag says of one move.
use Rattle.std.proofs.Common.{◌≡◌, ◌∙◌, sym, ap, refl, ℕ, ◌+◌, ◌-◌, ◌<◌, Bool, true, false, Option, Some, None, arith}
use Rattle.std.specs.Prelude.{◌&&◌, not, nat_lt}
use Rattle.cf_layout.specs.Layout.{Plan}
use Rattle.cf_layout.specs.Words.{has_bit}
use Rattle.cf_bind.specs.declared.moves.Bar.{Bar}
use Rattle.cf_bind.specs.declared.moves.Move.{Move}
use Rattle.cf_bind.specs.declared.moves.Move.TheVariants.{Recover}
use Rattle.cf_semantics.specs.moves.Bars.{bar}
use Rattle.cf_semantics.specs.state.Options.{is_some}
use Rattle.cf_semantics.specs.state.State.{State}
use Rattle.cf_core.specs.Masks.{masks_of}
use Rattle.cf_core.specs.declared.masks.Masks.{Masks}
use Rattle.cf_index.specs.Allowed.{is_allowed, word_allowed}
use Rattle.cf_index.proofs.Rows.{allowed-has}

-- nothing bars a move that is allowed
nothing : (o : Option Bar) → not (is_some o) ≡ true → o ≡ None
nothing None e = refl
nothing (Some b) e = absurd (cc)

pub known-free : (plan : Plan) (s : State) (mv : Move) → is_allowed plan s mv ≡ true → bar plan s mv ≡ None
known-free plan s mv e = nothing (bar plan s mv) e

-- a move over the stages is allowed if the word of its kind has its bit
second : (a b : Bool) → (a && b) ≡ true → b ≡ true
second true b e = e
second false b e = absurd (cc)

pub known-at : (plan : Plan) (s : State) (kind : ℕ → Move) (w i : ℕ) → w ≡ word_allowed plan s kind → 0 < i → has_bit w (i - 1) ≡ true →
    bar plan s (kind i) ≡ None
known-at plan s kind w i e above set =
    let back : i - 1 + 1 ≡ i = omega arith in
    let both : (nat_lt (i - 1) plan.stages && is_allowed plan s (kind (i - 1 + 1))) ≡ true =
    sym (allowed-has plan s kind (i - 1)) ∙ ap (λ (v : ℕ). has_bit v (i - 1)) (sym e) ∙ set in
    known-free plan s (kind i) (rw back at (second (nat_lt (i - 1) plan.stages) _ both))

pub known-recover : (plan : Plan) (s : State) (m : Masks) (i : ℕ) → m ≡ masks_of plan s → 0 < i → has_bit m.recover (i - 1) ≡ true →
    bar plan s (Recover i) ≡ None
unfolding masks_of
known-recover plan s m i e above set = known-at plan s Recover m.recover i (ap (λ (n : Masks). n.recover) e) above set

pub ruleset knowing = (known-free, known-recover)
