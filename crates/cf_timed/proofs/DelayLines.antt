-- The delays that a text gives.
use Rattle.std.proofs.Common.{◌≡◌, ◌∙◌, sym, ap, ℕ, zero, suc, List, [], ◌∷◌, length, map, take, Option, Some, None, Ok, All, arith}
use Rattle.std.specs.Prelude.{IfSome, Result, unwrap_or}
use Rattle.std.proofs.lemmas.List.{take_all}
use Rattle.std.proofs.lemmas.List.Elements.{All-replicate, All-same}
use Rattle.rv_text.specs.Lines.{text_lines}
use Rattle.rv_text.proofs.LineCuts.{no_lines}
use Rattle.run_scripts.specs.declared.delay_refusal.DelayErr.{DelayErr}
use Rattle.cf_timed.specs.declared.span.Span.{Span}
use Rattle.texts.specs.Answers.{and_then}
use Rattle.cf_semantics.specs.moves.Candidates.{counted_from}
use Rattle.cf_timed.specs.Delays.{AreDelays, IsSpan, one_tick, span_count}
use Rattle.cf_timed.specs.DelayLines.{delays_in, filled, kind_of_slot, lines_told, span_told, told_at, unnamed}

-- the delays at the end of the text
pub told_at_end : (text rest : List ℕ) (above : ℕ) (named : List (Option Span)) → length rest ≡ 0 →
    lines_told above named (text_lines rest) ≡ lines_told 0 unnamed (text_lines text) → Ok (filled named) ≡ delays_in text
unfolding delays_in
told_at_end text rest above named none same =
    let e : Ok named ≡ lines_told 0 unnamed (text_lines text) = sym (ap (lines_told above named) (no_lines rest none)) ∙ same in
    ap (λ (o : Result (List (Option Span)) DelayErr). and_then o (λ told. Ok (filled told))) e

-- before the first line no delay was given
pub none_told : All (λ span. IfSome span IsSpan) unnamed
none_told = All-replicate (λ (span : Option Span). IfSome span IsSpan) span_count None tt

-- a delay that was given is a range
told_span : (told : List (Option Span)) (slot : ℕ) → All (λ span. IfSome span IsSpan) told → IfSome (told_at told slot) IsSpan
told_span [] slot h = tt
told_span (t ∷ told) zero h = h 0 t (omega arith)
told_span (t ∷ told) (suc slot) h = told_span told slot (λ k d within. h (suc k) d (omega (arith, within)))

-- so each delay is a range
pub span_told_is : (told : List (Option Span)) (slot : ℕ) → All (λ span. IfSome span IsSpan) told → IsSpan (span_told told slot)
unfolding span_told
span_told_is told slot h = by (told_at told slot) (told_at told (kind_of_slot slot)) (told_span told slot h) (told_span told (kind_of_slot slot) h)
  where
    by : (a b : Option Span) → IfSome a IsSpan → IfSome b IsSpan → IsSpan (unwrap_or a (unwrap_or b one_tick))
    by (Some x) b h g = h
    by None (Some y) h g = g
    by None None h g = (omega arith, omega arith, omega arith)

each_of : (f : ℕ → Span) → ((k : ℕ) → IsSpan (f k)) → (xs : List ℕ) → All IsSpan (map f xs)
each_of f h [] k d within = absurd (omega arith)
each_of f h (x ∷ xs) zero d within = h x
each_of f h (x ∷ xs) (suc k) d within = each_of f h xs k d (omega (arith, within))

-- the delays that were filled in
pub filled_delays : (told : List (Option Span)) (spans : List Span) → length spans ≡ span_count →
    take span_count spans ≡ map (span_told told) (counted_from 0 span_count) → All (λ span. IfSome span IsSpan) told → AreDelays spans
filled_delays told spans size same h =
    let e : spans ≡ map (span_told told) (counted_from 0 span_count) = sym (take_all span_count spans (omega (arith, size))) ∙ same in
    record {
      count = size;
      each = All-same IsSpan spans (map (span_told told) (counted_from 0 span_count)) e
          (each_of (span_told told) (λ slot. span_told_is told slot h) (counted_from 0 span_count));
    }
