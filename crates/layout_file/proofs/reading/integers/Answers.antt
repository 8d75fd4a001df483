-- One more integer is read.
use Rattle.std.proofs.Common.{◌≡◌, ℕ, zero, suc, ◌+◌, ◌<◌, ℤ, List, [], ◌∷◌, ◌++◌, length, get_or, drop, refl, ap, ◌∙◌, arith, rules, add-one, append_assoc}
use mir.Val.{SFits}
use mir.Syntax.{w64}
use Rattle.std.proofs.Math.Facts.{to_z-of_z}
use Rattle.toml.specs.View.{view, items_view}
use Rattle.toml.specs.declared.value.Value.{Value}
use Rattle.layout_file.specs.Reading.{integer_in, integers_of}
use Rattle.layout_file.proofs.reading.integers.Goals as goal

-- the integers from a given element on
next_at : (vs : List Value) (i : ℕ) (v : Value) → i < length vs → integers_of (items_view (drop i vs)) ≡ integer_in (view (get_or vs i v))
    ∷ integers_of (items_view (drop (suc i) vs))
next_at [] i v within = absurd (omega arith)
next_at (w ∷ vs) zero v within = refl
next_at (w ∷ vs) (suc i) v within = next_at vs i v (omega arith)

one_more : (made now : List ℤ) (z : ℤ) (vs : List Value) (i : ℕ) (v : Value) → i < length vs → v ≡ get_or vs i v → z ≡ integer_in (view v) →
    now ≡ made ++ (z ∷ [])
    → made ++ integers_of (items_view (drop i vs)) ≡ integers_of (items_view vs) → now ++ integers_of (items_view (drop (i + 1) vs))
    ≡ integers_of (items_view vs)
one_more made now z vs i v within is this pushed so_far =
    let e = next_at vs i v within in
    rw (add-one, pushed, append_assoc, this, is, ← e) so_far

pub loop-value-preserved : goal.loop-value-preserved
loop-value-preserved c =
    let fits : SFits w64 c.integer_in.result = search rules in
    one_more c.loop-value.list.items c.push.new.self.items c.integer_in.result c.args.array.now c.loop-value.value-index c.value-item.result
    (omega arith) c.value-item.is c.integer_in.ensures (c.in_ok-push.ensures.items ∙ ap (λ (n : ℤ). c.loop-value.list.items ++ (n ∷ [])) (to_z-of_z fits))
    c.loop-value.invariant
