-- Two neighbouring moves that share no site, exchanged: each move keeps its delay and its time.
use Rattle.std.proofs.Common.{◌≡◌, ◌≢◌, ◌∙◌, refl, sym, ap, ℕ, ◌+◌, List, [], ◌∷◌, ◌++◌, length, max, Bool, true, false, cond, arith}
use Rattle.std.specs.Prelude.{Option, Some, None, ◌==◌, filter}
use Rattle.std.proofs.lemmas.Bool.Decides.{nat_tests}
use Rattle.cf_layout.specs.Layout.{Plan}
use Rattle.cf_bind.specs.declared.moves.Move.{Move}
use Rattle.cf_semantics.specs.state.State.{State}
use Rattle.cf_index.specs.Sites.{shares}
use Rattle.cf_index.proofs.Independence.{unshared_back}
use Rattle.rv_inst.specs.declared.classes.Class.{Class}
use Rattle.cf_timed.specs.declared.timed_move.TimedMove.{TimedMove}
use Rattle.cf_timed.specs.Delays.{span_of}
use Rattle.cf_timed.specs.DelayedRuns.{DelayRule, Visit, class_of_move, delay_at, delayed_at, drawn_before, timed_after, visit, word_of_move}
use Rattle.cf_timed.specs.Drawing.{stream_of, ticks_in, drawn_word}
use Rattle.cf_timed.specs.Times.{DelayedMove, before, delayed, done_at, done_after, greatest_time, finish_after}
use Rattle.cf_timed.proofs.Greatest.{where_more}

-- after either list moves wait for the same time, and as many moves have drawn from each stream
record AreAlike (plan : Plan) (xs ys : List TimedMove) : Type 0 where
  waits : (mv : Move) → greatest_time (before plan mv xs) ≡ greatest_time (before plan mv ys)
  drawn : (stream : ℕ) → drawn_before stream xs ≡ drawn_before stream ys

-- one more move, which drew from the stream or did not
drawn_one : (stream : ℕ) (done : TimedMove) (xs : List TimedMove) →
    drawn_before stream (done ∷ xs) ≡ cond (stream_of done.mv == stream) 1 0 + drawn_before stream xs
unfolding drawn_before
drawn_one stream done xs = by (stream_of done.mv == stream)
  where
    among : List TimedMove
    among = filter (λ d. stream_of d.mv == stream) xs

    by : (b : Bool) → length (cond b (done ∷ among) among) ≡ cond b 1 0 + length among
    by true = omega arith
    by false = omega arith

alike_more : (plan : Plan) (done : TimedMove) (xs ys : List TimedMove) → AreAlike plan xs ys → AreAlike plan (done ∷ xs) (done ∷ ys)
alike_more plan done xs ys h = record {
  waits = λ mv.
      where_more (λ d. shares plan mv d.mv) done xs
      ∙ ap (λ (n : ℕ). max (cond (shares plan mv done.mv) done.time 0) n) (h.waits mv)
      ∙ sym (where_more (λ d. shares plan mv d.mv) done ys);
  drawn = λ stream.
      drawn_one stream done xs
      ∙ ap (λ (n : ℕ). cond (stream_of done.mv == stream) 1 0 + n) (h.drawn stream)
      ∙ sym (drawn_one stream done ys);
}

-- so the delays and the times after the two lists are the same
word_alike : (seed : Option ℕ) (xs ys : List TimedMove) (mv : Move) → drawn_before (stream_of mv) xs ≡ drawn_before (stream_of mv) ys →
    word_of_move seed xs mv ≡ word_of_move seed ys mv
unfolding word_of_move
word_alike None xs ys mv e = refl
word_alike (Some seed) xs ys mv e = ap (λ (n : ℕ). Some (drawn_word seed (stream_of mv) n)) e

delay_alike : (rule : DelayRule) (s t : State) (xs ys : List TimedMove) (mv : Move) → class_of_move s mv ≡ class_of_move t mv →
    drawn_before (stream_of mv) xs ≡ drawn_before (stream_of mv) ys → delay_at rule s xs mv ≡ delay_at rule t ys mv
unfolding delay_at
delay_alike rule s t xs ys mv c e =
    ap (λ (k : Class). ticks_in (span_of rule.spans mv k) (word_of_move rule.seed xs mv)) c
    ∙ ap (ticks_in (span_of rule.spans mv (class_of_move t mv))) (word_alike rule.seed xs ys mv e)

time_alike : (plan : Plan) (xs ys : List TimedMove) (d : DelayedMove) → greatest_time (before plan d.mv xs) ≡ greatest_time (before plan d.mv ys) →
    finish_after plan xs d ≡ finish_after plan ys d
unfolding finish_after
time_alike plan xs ys d h = ap (λ (n : ℕ). n + d.delay) h

done_alike : (plan : Plan) (rule : DelayRule) (s t : State) (xs ys : List TimedMove) (mv : Move) → class_of_move s mv ≡ class_of_move t mv →
    drawn_before (stream_of mv) xs ≡ drawn_before (stream_of mv) ys → greatest_time (before plan mv xs) ≡ greatest_time (before plan mv ys) →
    done_after plan xs (delayed_at rule s xs mv) ≡ done_after plan ys (delayed_at rule t ys mv)
done_alike plan rule s t xs ys mv c e h =
    ap (λ (n : ℕ). done_after plan xs (delayed mv n)) (delay_alike rule s t xs ys mv c e)
    ∙ ap (done_at (delayed_at rule t ys mv)) (time_alike plan xs ys (delayed_at rule t ys mv) h)

-- and the moves after them keep theirs: those come before both lists
rest_alike : (plan : Plan) (rule : DelayRule) (xs ys : List TimedMove) (rest : List Visit) → AreAlike plan xs ys →
    (late : List TimedMove) × (timed_after plan rule xs rest ≡ late ++ xs) × (timed_after plan rule ys rest ≡ late ++ ys)
unfolding timed_after
rest_alike plan rule xs ys [] h = ([], refl, refl)
rest_alike plan rule xs ys (v ∷ rest) h =
    let done = done_after plan xs (delayed_at rule v.state xs v.mv) in
    let same : done_after plan ys (delayed_at rule v.state ys v.mv) ≡ done =
    sym (done_alike plan rule v.state v.state xs ys v.mv refl (h.drawn (stream_of v.mv)) (h.waits v.mv)) in
    let r = rest_alike plan rule (done ∷ xs) (done ∷ ys) rest (alike_more plan done xs ys h) in (
      r.0 ++ done ∷ [],
      r.1 ∙ apart r.0 done xs,
      ap (λ (d : TimedMove). timed_after plan rule (d ∷ ys) rest) same ∙ r.2 ∙ apart r.0 done ys,
    )
  where
    apart : (late : List TimedMove) (done : TimedMove) (xs : List TimedMove) → late ++ done ∷ xs ≡ (late ++ done ∷ []) ++ xs
    apart [] done xs = refl
    apart (d ∷ late) done xs = ap (λ (l : List TimedMove). d ∷ l) (apart late done xs)

-- two moves in either order
alike_turned : (plan : Plan) (a b : TimedMove) (xs : List TimedMove) → AreAlike plan (b ∷ a ∷ xs) (a ∷ b ∷ xs)
alike_turned plan a b xs = record {
  waits = λ mv.
      let t = λ (d : TimedMove). shares plan mv d.mv in
      let p = where_more t b (a ∷ xs) in
      let q = where_more t a xs in
      let r = where_more t a (b ∷ xs) in
      let s = where_more t b xs in
      omega (arith, p, q, r, s);
  drawn = λ stream.
      let p = drawn_one stream b (a ∷ xs) in
      let q = drawn_one stream a xs in
      let r = drawn_one stream a (b ∷ xs) in
      let s = drawn_one stream b xs in
      omega (arith, p, q, r, s);
}

-- a move does not wait for a move that shares no site with it, and draws from another stream
waits_apart : (plan : Plan) (done : TimedMove) (xs : List TimedMove) (mv : Move) → shares plan mv done.mv ≡ false →
    greatest_time (before plan mv (done ∷ xs)) ≡ greatest_time (before plan mv xs)
waits_apart plan done xs mv e = where_more (λ d. shares plan mv d.mv) done xs
    ∙ (let z : cond (shares plan mv done.mv) done.time 0 ≡ 0 = rw e refl in omega (arith, z))

drawn_apart : (done : TimedMove) (xs : List TimedMove) (mv : Move) → stream_of done.mv ≢ stream_of mv →
    drawn_before (stream_of mv) (done ∷ xs) ≡ drawn_before (stream_of mv) xs
drawn_apart done xs mv other = drawn_one (stream_of mv) done xs ∙ by (stream_of done.mv == stream_of mv) refl
  where
    by : (b : Bool) → (stream_of done.mv == stream_of mv) ≡ b → cond b 1 0 + drawn_before (stream_of mv) xs ≡ drawn_before (stream_of mv) xs
    by true e = let same : stream_of done.mv ≡ stream_of mv = grind (arith, nat_tests) in absurd (other same)
    by false e = omega arith

-- what holds of two moves that can be exchanged, made in either order from states in which each keeps its class
pub record CanSwap (plan : Plan) (s after_a after_b : State) (a b : Move) : Type 0 where
  pub apart : shares plan a b ≡ false
  pub streams : stream_of a ≢ stream_of b
  pub class_a : class_of_move after_b a ≡ class_of_move s a
  pub class_b : class_of_move after_a b ≡ class_of_move s b

pub swapped : (plan : Plan) (rule : DelayRule) (earlier : List TimedMove) (s after_a after_b : State) (a b : Move) (rest : List Visit) →
    CanSwap plan s after_a after_b a b →
    (late : List TimedMove)
    × (timed_after plan rule earlier (visit s a ∷ visit after_a b ∷ rest)
    ≡ late ++ (done_after plan earlier (delayed_at rule s earlier b) ∷ done_after plan earlier (delayed_at rule s earlier a) ∷ earlier))
    × (timed_after plan rule earlier (visit s b ∷ visit after_b a ∷ rest)
    ≡ late ++ (done_after plan earlier (delayed_at rule s earlier a) ∷ done_after plan earlier (delayed_at rule s earlier b) ∷ earlier))
unfolding timed_after
swapped plan rule earlier s after_a after_b a b rest h =
    let x = done_after plan earlier (delayed_at rule s earlier a) in
    let y = done_after plan earlier (delayed_at rule s earlier b) in
    let first : done_after plan (x ∷ earlier) (delayed_at rule after_a (x ∷ earlier) b) ≡ y =
    done_alike plan rule after_a s (x ∷ earlier) earlier b h.class_b (drawn_apart x earlier b h.streams)
    (waits_apart plan x earlier b (unshared_back plan a b h.apart)) in
    let second : done_after plan (y ∷ earlier) (delayed_at rule after_b (y ∷ earlier) a) ≡ x =
    done_alike plan rule after_b s (y ∷ earlier) earlier a h.class_a (drawn_apart y earlier a (λ e. h.streams (sym e)))
    (waits_apart plan y earlier a h.apart) in
    let r = rest_alike plan rule (y ∷ x ∷ earlier) (x ∷ y ∷ earlier) rest (alike_turned plan x y earlier) in (
      r.0,
      ap (λ (d : TimedMove). timed_after plan rule (d ∷ x ∷ earlier) rest) first ∙ r.1,
      ap (λ (d : TimedMove). timed_after plan rule (d ∷ y ∷ earlier) rest) second ∙ r.2,
    )

-- the moves before them come first
pub timed-front : (plan : Plan) (rule : DelayRule) (earlier : List TimedMove) (front rest : List Visit) →
    timed_after plan rule earlier (front ++ rest) ≡ timed_after plan rule (timed_after plan rule earlier front) rest
unfolding timed_after
timed-front plan rule earlier [] rest = refl
timed-front plan rule earlier (v ∷ front) rest = timed-front plan rule (done_after plan earlier (delayed_at rule v.state earlier v.mv) ∷ earlier) front rest
