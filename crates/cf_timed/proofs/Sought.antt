-- What was found after some moves were shown: the first with the least time.
use Rattle.std.proofs.Common.{◌≡◌, refl, sym, ap, ℕ, zero, suc, ◌+◌, ◌-◌, ◌^◌, ◌<◌, ◌≤◌, List, [], ◌∷◌, drop, fold, length, get_or, min, Bool, true, false, cond, Some, nat_eq, nat_lt, arith}
use Rattle.std.specs.Prelude.{slice_get}
use Rattle.std.proofs.lemmas.Bool.Decides.{nat_tests}
use Rattle.std.proofs.lemmas.Option.{get_or_from_slice_get}
use Rattle.cf_bind.specs.declared.moves.Move.{Move}
use Rattle.cf_timed.specs.Clocks.{ClockedState, capped}
use Rattle.cf_timed.specs.Earliest.{first_least}
use Rattle.cf_timed.specs.Seeking.{Seeking, counted_move, nothing, shown}
use Rattle.cf_timed.proofs.Leasts.{IsLeast, least-of_all}

-- of the moves that were shown, the first with the least time is known, or none has a time below the maximum number
record Found (clock : ClockedState) (moves : List Move) (s : Seeking) : Type 0 where
  same : s.clock ≡ clock
  least : (k : ℕ) (d : Move) → k < s.shown → s.time ≤ capped clock (get_or moves k d)
  first : (k : ℕ) (d : Move) → k < s.place → s.time < capped clock (get_or moves k d)
  some : s.time < 2 ^ 64 - 1 → (s.place < s.shown) × (slice_get moves s.place ≡ Some s.move) × (capped clock s.move ≡ s.time)
  none : 2 ^ 64 - 1 ≤ s.time → s.place ≡ 0
  within : s.time ≤ 2 ^ 64 - 1

-- one more move
found-next : (clock : ClockedState) (moves : List Move) (s : Seeking) (mv : Move) → s.shown < 2 ^ 64 - 1 → slice_get moves s.shown ≡ Some mv →
    Found clock moves s → Found clock moves (shown s mv)
found-next clock moves s mv few at h = by (nat_lt (capped s.clock mv) s.time) refl
  where
    one : min (s.shown + 1) (2 ^ 64 - 1) ≡ s.shown + 1
    one = grind arith

    here : (d : Move) → get_or moves s.shown d ≡ mv
    here d = get_or_from_slice_get moves s.shown mv d at

    by : (sooner : Bool) → nat_lt (capped s.clock mv) s.time ≡ sooner → Found clock moves (counted_move
        (cond sooner (record s { place = s.shown; time = capped s.clock mv; move = mv }) s))
    by true t =
        let e = h.same in
        let less : capped s.clock mv < s.time = grind (arith, nat_tests) in
        record {
          same = e;
          least = λ k d below. more k d (rw one at below) less (nat_eq k s.shown) refl;
          first = λ k d before. let g = h.least k d before in omega (arith, g, less);
          some = λ below. (omega (arith, one), at, ap (λ (c : ClockedState). capped c mv) (sym e));
          none = λ above. let w = h.within in absurd (omega (arith, above, less, w));
          within = let w = h.within in omega (arith, less, w);
        }
      where
        more : (k : ℕ) (d : Move) → k < s.shown + 1 → capped s.clock mv < s.time → (last : Bool) → nat_eq k s.shown ≡ last →
            capped s.clock mv ≤ capped clock (get_or moves k d)
        more k d below less true q = let z : k ≡ s.shown = grind (arith, nat_tests) in let e = h.same in rw (z, here d, e) (omega arith)
        more k d below less false q = let under : k < s.shown = grind (arith, nat_tests) in let g = h.least k d under in omega (arith, g, less)
    by false t =
        let e = h.same in
        let less : s.time ≤ capped s.clock mv = grind (arith, nat_tests) in
        record {
          same = e;
          least = λ k d below. more k d (rw one at below) less (nat_eq k s.shown) refl;
          first = h.first;
          some = λ below. let g = h.some below in (let w = g.0 in omega (arith, one, w), g.1, g.2);
          none = h.none;
          within = h.within;
        }
      where
        more : (k : ℕ) (d : Move) → k < s.shown + 1 → s.time ≤ capped s.clock mv → (last : Bool) → nat_eq k s.shown ≡ last →
            s.time ≤ capped clock (get_or moves k d)
        more k d below less true q = let z : k ≡ s.shown = grind (arith, nat_tests) in let e = h.same in rw (z, here d, ← e) less
        more k d below less false q = let under : k < s.shown = grind (arith, nat_tests) in h.least k d under

-- the first of the moves that are left
next_at : (n : ℕ) (moves rest : List Move) (mv : Move) → drop n moves ≡ mv ∷ rest → (slice_get moves n ≡ Some mv) × (drop (suc n) moves ≡ rest)
next_at zero [] rest mv e = absurd (cc)
next_at zero (x ∷ moves) rest mv e = (cc, cc)
next_at (suc n) [] rest mv e = absurd (cc)
next_at (suc n) (x ∷ moves) rest mv e = next_at n moves rest mv e

-- all moves that are left
found-rest : (clock : ClockedState) (moves : List Move) (s : Seeking) (rest : List Move) → length moves ≤ 2 ^ 64 - 1 → s.shown + length rest ≡ length moves →
    drop s.shown moves ≡ rest → Found clock moves s → Found clock moves (fold shown s rest) × ((fold shown s rest).shown ≡ length moves)
found-rest clock moves s [] few count left h = (h, omega (arith, count))
found-rest clock moves s (mv ∷ rest) few count left h =
    let n = next_at s.shown moves rest mv left in
    let below : s.shown < 2 ^ 64 - 1 = omega (arith, count, few) in
    let one = counts (nat_lt (capped s.clock mv) s.time) below in
    let e : s.shown + 1 ≡ suc s.shown = omega arith in
    found-rest clock moves (shown s mv) rest few (omega (arith, one, count)) (rw (one, e) (n.1)) (found-next clock moves s mv below (n.0) h)
  where
    counts : (sooner : Bool) → s.shown < 2 ^ 64 - 1 → (counted_move (cond sooner (record s { place = s.shown; time = capped s.clock mv; move = mv }) s)).shown
        ≡ s.shown + 1
    counts true below = grind arith
    counts false below = grind arith

-- nothing was shown
found-nothing : (clock : ClockedState) (moves : List Move) → Found clock moves (nothing clock)
found-nothing clock moves = record {
  same = refl;
  least = λ k d below. absurd (omega arith);
  first = λ k d before. absurd (omega arith);
  some = λ below. absurd (omega arith);
  none = λ above. refl;
  within = omega arith;
}

-- what was found once all were shown
found-all : (clock : ClockedState) (moves : List Move) (s : Seeking) → length moves ≤ 2 ^ 64 - 1 → s ≡ fold shown (nothing clock) moves →
    Found clock moves s × (s.shown ≡ length moves)
found-all clock moves s few e =
    let f = found-rest clock moves (nothing clock) moves few (omega arith) refl (found-nothing clock moves) in
    (rw e (f.0), rw e (f.1))

-- no move has a smaller time
pub found-bound : (clock : ClockedState) (moves : List Move) (s : Seeking) → length moves ≤ 2 ^ 64 - 1 → s ≡ fold shown (nothing clock) moves →
    (k : ℕ) (d : Move) → k < length moves → s.time ≤ capped clock (get_or moves k d)
found-bound clock moves s few e k d below =
    let f = found-all clock moves s few e in
    let all = f.1 in
    (f.0).least k d (rw all below)

-- if a move has a time below the maximum number, the first move with the least time is found
pub record Reached (clock : ClockedState) (moves : List Move) (s : Seeking) : Type 0 where
  pub least : IsLeast (capped clock) moves s.place s.time
  pub move : slice_get moves s.place ≡ Some s.move
  pub time : capped clock s.move ≡ s.time

pub found-least : (clock : ClockedState) (moves : List Move) (s : Seeking) → length moves ≤ 2 ^ 64 - 1 → s ≡ fold shown (nothing clock) moves →
    s.time < 2 ^ 64 - 1 → Reached clock moves s
found-least clock moves s few e below =
    let f = found-all clock moves s few e in
    let h = f.0 in
    let all = f.1 in
    let g = h.some below in
    record {
      least = record {
        within = let w = g.0 in omega (arith, all, w);
        is = λ d. let p = get_or_from_slice_get moves s.place s.move d (g.1) in let t = g.2 in rw p (omega (arith, t));
        most = λ k d low. h.least k d (rw all low);
        first = h.first;
      };
      move = g.1;
      time = g.2;
    }

pub found-first : (clock : ClockedState) (moves : List Move) (s : Seeking) → length moves ≤ 2 ^ 64 - 1 → s ≡ fold shown (nothing clock) moves →
    s.time < 2 ^ 64 - 1 →
    (s.place ≡ first_least (capped clock) moves) × (s.place < length moves) × (Some s.move ≡ slice_get moves s.place)
found-first clock moves s few e below =
    let r = found-least clock moves s few e below in
    (least-of_all (capped clock) moves s.place s.time s.move r.least, r.least.within, sym r.move)

-- and if no move has, it is the first of all
pub first-found : (clock : ClockedState) (moves : List Move) (s : Seeking) → length moves ≤ 2 ^ 64 - 1 → 0 < length moves →
    s ≡ fold shown (nothing clock) moves →
    2 ^ 64 - 1 ≤ s.time →
    0 ≡ first_least (capped clock) moves
first-found clock moves s few some e above =
    let bound = found-bound clock moves s few e in
    let is : IsLeast (capped clock) moves 0 s.time = record {
      within = some;
      is = λ d. let c : capped clock (get_or moves 0 d) ≤ 2 ^ 64 - 1 = grind arith in omega (arith, c, above);
      most = bound;
      first = λ k d before. absurd (omega arith);
    } in
    least-of_all (capped clock) moves 0 s.time s.move is
