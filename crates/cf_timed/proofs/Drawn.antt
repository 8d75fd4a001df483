-- For a further move a clock that has recorded some moves draws the next word of the move's stream.
use Rattle.std.proofs.Common.{◌≡◌, ◌∙◌, refl, sym, ap, subst, ℕ, zero, suc, ◌<◌, List, [], ◌∷◌, length, Bool, true, false, cond, nat_eq, arith}
use Rattle.std.specs.Prelude.{◌==◌, filter, slice_set, Option, Some, None}
use Rattle.std.proofs.lemmas.Bool.Decides.{nat_tests}
use Rattle.rand_pcg.specs.Lcg.{increment_of, next, next_state as state_next, started, state_after}
use Rattle.rand_pcg.specs.Pcg.{multiplier_64}
use Rattle.cf_bind.specs.declared.moves.Move.{Move}
use Rattle.cf_semantics.specs.state.Options.{on}
use Rattle.cf_timed.specs.declared.draws.DelayDraws.{DelayDraws}
use Rattle.cf_timed.specs.declared.timed_move.TimedMove.{TimedMove}
use Rattle.cf_timed.specs.Arrivals.{HasDrawnWords}
use Rattle.cf_timed.specs.DelayedRuns.{drawn_before, word_of_move}
use Rattle.cf_timed.specs.Drawing.{after_word, drawn_from, generator, next_draw_state, next_word, started_from, stream_count, stream_of, drawn_word}
use Rattle.cf_timed.specs.Numbers.{number_at}
use Rattle.cf_timed.proofs.Numbered.{numbered_at, numbered_length, set_length}

-- so the next word is the word after those
pub word_drawn : (seed : Option ℕ) (moves : List TimedMove) (draws : DelayDraws) (mv : Move) → HasDrawnWords seed moves draws → stream_of mv < stream_count →
    next_word draws (stream_of mv) ≡ word_of_move seed moves mv
unfolding next_word word_of_move drawn_word
word_drawn None moves draws mv h below = rw h refl
word_drawn (Some seed) moves draws mv h below =
    let e = h.seeded in
    let s = h.states (stream_of mv) below in
    rw (e, s) refl

-- one more step
step_last : (w m increment n state : ℕ) → state_after w m increment (suc n) state ≡ state_next w m increment (state_after w m increment n state)
unfolding state_after
step_last w m increment zero state = refl
step_last w m increment (suc n) state = step_last w m increment n (state_next w m increment state)

generator_next : (seed stream n state : ℕ) → state ≡ (generator seed stream n).state →
    (next 64 multiplier_64 (record { state = state; increment = increment_of 64 stream })).state ≡ (generator seed stream (suc n)).state
unfolding generator
generator_next seed stream n state e =
    ap (state_next 64 multiplier_64 (increment_of 64 stream)) e
    ∙ sym (step_last 64 multiplier_64 (increment_of 64 stream) n (started 64 multiplier_64 seed (increment_of 64 stream)).state)

-- a number that was set, and the others
pub number_put : (xs : List ℕ) (i j t : ℕ) → i < length xs → number_at (slice_set xs i t) j ≡ cond (nat_eq j i) t (number_at xs j)
number_put [] i j t within = absurd (omega arith)
number_put (x ∷ xs) zero zero t within = refl
number_put (x ∷ xs) zero (suc j) t within = let e : nat_eq (suc j) 0 ≡ false = grind (arith, nat_tests) in rw e refl
number_put (x ∷ xs) (suc i) zero t within = let e : nat_eq 0 (suc i) ≡ false = grind (arith, nat_tests) in rw e refl
number_put (x ∷ xs) (suc i) (suc j) t within = let e : nat_eq (suc j) (suc i) ≡ nat_eq j i = grind (arith, nat_tests) in
    rw e (number_put xs i j t (omega arith))

-- one more move
drawn_more : (stream : ℕ) (done : TimedMove) (moves : List TimedMove) →
    drawn_before stream (done ∷ moves) ≡ cond (nat_eq stream (stream_of done.mv)) (suc (drawn_before stream moves)) (drawn_before stream moves)
unfolding drawn_before
drawn_more stream done moves = by (nat_eq stream (stream_of done.mv)) refl
  where
    among : List TimedMove
    among = filter (λ d. stream_of d.mv == stream) moves

    by : (same : Bool) → nat_eq stream (stream_of done.mv) ≡ same → length (filter (λ d. stream_of d.mv == stream) (done ∷ moves))
        ≡ cond same (suc (length among)) (length among)
    by true e = let f : (stream_of done.mv == stream) ≡ true = grind (arith, nat_tests) in ap (λ (b : Bool). length (cond b (done ∷ among) among)) f
    by false e = let f : (stream_of done.mv == stream) ≡ false = grind (arith, nat_tests) in ap (λ (b : Bool). length (cond b (done ∷ among) among)) f

-- the draws after a word
after_none : (draws : DelayDraws) (stream : ℕ) → draws.seed ≡ None → after_word draws stream ≡ draws
unfolding after_word
after_none draws stream e = ap (λ (o : Option ℕ). on o draws (λ n. record draws { states = slice_set draws.states stream (next_draw_state draws stream) })) e

after_some : (draws : DelayDraws) (stream seed : ℕ) → draws.seed ≡ Some seed →
    after_word draws stream ≡ record draws { states = slice_set draws.states stream (next_draw_state draws stream) }
unfolding after_word
after_some draws stream seed e = ap (λ (o : Option ℕ). on o draws (λ n. record draws { states = slice_set draws.states stream (next_draw_state draws stream) }))
    e

pub word_taken : (seed : Option ℕ) (moves : List TimedMove) (draws : DelayDraws) (done : TimedMove) → HasDrawnWords seed moves draws →
    stream_of done.mv < stream_count → HasDrawnWords seed (done ∷ moves) (after_word draws (stream_of done.mv))
word_taken None moves draws done h below = subst (HasDrawnWords None (done ∷ moves)) (sym (after_none draws (stream_of done.mv) h)) h
word_taken (Some seed) moves draws done h below = subst (HasDrawnWords (Some seed) (done ∷ moves)) (sym (after_some draws (stream_of done.mv) seed h.seeded))
    (record {
      seeded = h.seeded;
      size = set_length draws.states (stream_of done.mv) (next_draw_state draws (stream_of done.mv)) ∙ h.size;
      states = λ stream within.
          number_put draws.states (stream_of done.mv) stream (next_draw_state draws (stream_of done.mv)) (let s = h.size in omega (arith, s, below))
          ∙ by stream (nat_eq stream (stream_of done.mv)) refl within
          ∙ sym (ap (λ (n : ℕ). (generator seed stream n).state) (drawn_more stream done moves));
    })
  where
    by : (stream : ℕ) (same : Bool) → nat_eq stream (stream_of done.mv) ≡ same → stream < stream_count →
        cond same (next_draw_state draws (stream_of done.mv)) (number_at draws.states stream)
        ≡ (generator seed stream (cond same (suc (drawn_before stream moves)) (drawn_before stream moves))).state
    by stream true e within =
        let q : stream ≡ stream_of done.mv = grind (arith, nat_tests) in
        rw (← q) (generator_next seed stream (drawn_before stream moves) (number_at draws.states stream) (h.states stream within))
    by stream false e within = h.states stream within

-- at the start no word was taken
none_drawn : (seed stream : ℕ) → (started 64 multiplier_64 seed (increment_of 64 stream)).state ≡ (generator seed stream (drawn_before stream [])).state
unfolding generator drawn_before state_after
none_drawn seed stream = refl

pub drawn_start : (seed : Option ℕ) → HasDrawnWords seed [] (drawn_from seed)
unfolding drawn_from started_from
drawn_start None = refl
drawn_start (Some seed) = record {
  seeded = refl;
  size = numbered_length (λ stream. (started 64 multiplier_64 seed (increment_of 64 stream)).state) 0 stream_count;
  states = λ stream within.
      numbered_at (λ k. (started 64 multiplier_64 seed (increment_of 64 k)).state) stream_count stream within ∙ none_drawn seed stream;
}
