-- The middles of the ranges of the delays.
use Rattle.std.proofs.Common.{◌≡◌, ◌∙◌, refl, sym, ap, ℕ, zero, suc, ◌+◌, ◌<◌, List, [], ◌∷◌, length, map, take, slice_index_or, None, arith}
use Rattle.std.specs.Prelude.{slice_get, unwrap_or}
use Rattle.std.proofs.lemmas.List.{take_all}
use Rattle.cf_semantics.specs.moves.Candidates.{counted_from}
use Rattle.cf_timed.specs.declared.span.Span.{Span}
use Rattle.cf_timed.specs.Delays.{middles_of, one_tick}
use Rattle.cf_timed.specs.Drawing.{ticks_in}

-- the middle of the range at an index
abbrev pub middle_of : List Span → ℕ → ℕ
middle_of spans slot = ticks_in (slice_index_or spans slot (record { least = 0; greatest = 0 })) None

-- the same by the table
pub middle_at : (spans : List Span) (slot : ℕ) → slot < length spans →
    slice_index_or (middles_of spans) slot 0 ≡ ticks_in (unwrap_or (slice_get spans slot) one_tick) None
unfolding middles_of
middle_at [] slot within = absurd (omega arith)
middle_at (span ∷ spans) zero within = refl
middle_at (span ∷ spans) (suc slot) within = middle_at spans slot (omega (arith, within))

-- the middles at all indices are those of all ranges
middles_from : (spans : List Span) (f : ℕ → ℕ) (n : ℕ) → ((k : ℕ) → k < length spans → f (n + k) ≡ middle_of spans k) →
    map f (counted_from n (length spans)) ≡ map (λ span. ticks_in span None) spans
middles_from [] f n same = refl
middles_from (span ∷ spans) f n same =
    let first : f n ≡ ticks_in span None = ap f (omega arith) ∙ same 0 (omega arith) in
    let rest = middles_from spans f (suc n) (λ k within. ap f (omega arith) ∙ same (suc k) (omega (arith, within))) in
    rw (first, rest) refl

pub middles_all : (spans : List Span) (middles : List ℕ) (count : ℕ) → length spans ≡ count → length middles ≡ count →
    take count middles ≡ map (middle_of spans) (counted_from 0 count) → middles ≡ middles_of spans
unfolding middles_of
middles_all spans middles count size room filled =
    sym (take_all count middles (omega (arith, room))) ∙ filled
    ∙ ap (λ (n : ℕ). map (middle_of spans) (counted_from 0 n)) (sym size)
    ∙ middles_from spans (middle_of spans) 0 (λ k within. ap (middle_of spans) (omega arith))
