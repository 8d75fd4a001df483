-- How a delay is taken from a range: the middle, or a number drawn from a seed. Each kind of move draws from a stream of
-- its own at each stage and at each cell of a siding (O'Neill, "PCG: a family of simple fast space-efficient
-- statistically good algorithms for random number generation").
use Rattle.std.specs.Prelude.{ℕ, ◌+◌, ◌-◌, ◌*◌, ◌/◌, ◌%◌, List, map, replicate, Option, Some, None, slice_set}
use Rattle.rand_pcg.specs.Lcg.{Lcg, advance, increment_of, next, started}
use Rattle.rand_pcg.specs.Pcg.{multiplier_64, output_xsh_rr}
use Rattle.cf_bind.specs.declared.moves.Move.{Move}
use Rattle.cf_bind.specs.declared.moves.Move.TheVariants.{Climb, Fall, Meet, Execute, Send, Launch, Slide, Recover}
use Rattle.cf_semantics.specs.moves.Candidates.{counted_from}
use Rattle.cf_semantics.specs.state.Options.{on}
use Rattle.cf_index.specs.Order.{kind_place}
use Rattle.cf_timed.specs.Numbers.{number_at}
use Rattle.cf_timed.specs.declared.draws.DelayDraws.{DelayDraws}
use Rattle.cf_timed.specs.declared.span.Span.{Span}

-- the number of a move's stage, or of its cell among those of the sidings; 0 for a move that has neither
abbrev pub seat_of : Move → ℕ
seat_of (Climb i) = i
seat_of (Fall i) = i
seat_of (Meet i) = i
seat_of (Execute i) = i
seat_of (Send i) = i
seat_of (Launch i) = i
seat_of (Recover i) = i
seat_of (Slide k c) = 8 * k + c
seat_of mv = 0

-- the stream from which a move draws: that of its kind at its stage or cell; all Issue moves have the same
unfoldable pub stream_of : Move → ℕ
stream_of mv = 64 * (kind_place mv + 1) + seat_of mv

-- one more than the largest stream
abbrev pub stream_count : ℕ
stream_count = 960

-- the generator of a stream after n words
unfoldable pub generator : (seed stream n : ℕ) → Lcg
generator seed stream n = advance 64 multiplier_64 n (started 64 multiplier_64 seed (increment_of 64 stream))

-- the word after n words
unfoldable pub drawn_word : (seed stream n : ℕ) → ℕ
drawn_word seed stream n = output_xsh_rr (generator seed stream n).state

-- the ticks within a range that a word chooses; without a word, the middle
unfoldable pub ticks_in : Span → Option ℕ → ℕ
ticks_in span None = span.least + (span.greatest - span.least) / 2
ticks_in span (Some word) = span.least + word % (span.greatest - span.least + 1)

-- the first state of each stream of a seed
unfoldable pub started_from : ℕ → List ℕ
started_from seed = map (λ stream. (started 64 multiplier_64 seed (increment_of 64 stream)).state) (counted_from 0 stream_count)

-- the states of the streams; without a seed nothing is drawn
unfoldable pub drawn_from : Option ℕ → DelayDraws
drawn_from seed = record { seed = seed; states = on seed (replicate stream_count 0) started_from }

-- the generator of a stream
abbrev pub generator_at : DelayDraws → ℕ → Lcg
generator_at draws stream = record { state = number_at draws.states stream; increment = increment_of 64 stream }

-- the next word of a stream, if one is drawn
unfoldable pub next_word : DelayDraws → ℕ → Option ℕ
next_word draws stream = on draws.seed None (λ seed. Some (output_xsh_rr (generator_at draws stream).state))

-- its state once that word was taken
abbrev pub next_draw_state : DelayDraws → ℕ → ℕ
next_draw_state draws stream = (next 64 multiplier_64 (generator_at draws stream)).state

-- the states once that word was taken
unfoldable pub after_word : DelayDraws → ℕ → DelayDraws
after_word draws stream = on draws.seed draws (λ seed. record draws { states = slice_set draws.states stream (next_draw_state draws stream) })
