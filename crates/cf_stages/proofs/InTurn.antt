-- Results that fall one after another: what one Fall changes for those at the stages above.
use Rattle.std.proofs.Common.{◌≡◌, ◌≢◌, ◌∙◌, ℕ, zero, suc, ◌+◌, ◌-◌, ◌*◌, ◌%◌, ◌^◌, ◌<◌, ◌≤◌, List, [], ◌∷◌, Option, Some, None, Bool, true, false, IsTrue, length, max, min, refl, sym, ap, subst, arith}
use Rattle.std.specs.Prelude.{◌&&◌, ◌||◌, nat_eq, nat_lt, not}
use Rattle.std.specs.Int.{bit_at, bit_not, trailing_zeros, w32}
use Rattle.std.specs.Int.RustNames.{bit_and, bit_or}
use Rattle.std.proofs.Math.Pow.{pow-lt}
use Rattle.std.proofs.Math.Bool.{and-true, and-false}
use Rattle.std.proofs.lemmas.Bool.Decides.{nat_tests}
use Rattle.std.proofs.lemmas.Nat.Bits.{bit_at-lt, bit_at-pow_other, bit_at-pow_same, bit_at-trailing_zeros, bit_at_above, bit_at_and, bit_at_or}
use Rattle.cf_bind.specs.declared.cell.Cell.{Cell}
use Rattle.cf_bind.specs.declared.packet.Packet.{Packet}
use Rattle.cf_layout.specs.Words.{has_bit}
use Rattle.cf_layout.proofs.Words.{no_bits}
use Rattle.cf_semantics.specs.moves.Bars.{is_full}
use Rattle.cf_semantics.specs.moves.Moves.{without_packet}
use Rattle.cf_semantics.specs.state.Options.{on, is_some}
use Rattle.cf_semantics.specs.state.State.{cell_at, put_cell}
use Rattle.cf_stages.specs.Changes.{can_fall, cells_fallen, falls, with_new_packet}
use Rattle.cf_stages.specs.Falling.{AreFalls, AreResting, AreSomeFalls, FallInTurn, FallsOn, IsNextFall, all_fallen, last_of, rests}
use Rattle.cf_stages.specs.Words.{with_bit}
use Rattle.cf_stages.proofs.Bits.{bit-other, bit-same, one-bit, with_bit-lt}
use Rattle.cf_stages.proofs.Neighbours.{falls-within}
use Rattle.cf_stages.proofs.Parts.{cell-put, cell-put-other, stage-high, stage-low}

-- Words --

-- the lowest stage of a word
abbrev lowest_at : ℕ → ℕ
lowest_at w = trailing_zeros w32 w + 1

zeros : (w : ℕ) → w ≢ 0 → w < 2 ^ 32 → (trailing_zeros w32 w < 32) × (bit_at w (trailing_zeros w32 w) ≡ 1)
    × ((i : ℕ) → i < trailing_zeros w32 w → bit_at w i ≡ 0)
zeros zero some small = absurd (some refl)
zeros (suc w) some small = bit_at-trailing_zeros w32 (suc w) (omega arith) small

pub lowest-within : (w : ℕ) → w ≢ 0 → w < 2 ^ 32 → trailing_zeros w32 w + 1 ≤ 32
lowest-within w some small = let t = (zeros w some small).0 in omega arith

pub lowest-here : (w : ℕ) → w ≢ 0 → w < 2 ^ 32 → has_bit w (trailing_zeros w32 w + 1 - 1) ≡ true
unfolding has_bit
lowest-here w some small =
    let z : trailing_zeros w32 w + 1 - 1 ≡ trailing_zeros w32 w = omega arith in
    rw (z, (zeros w some small).1) refl

pub lowest-first : (w : ℕ) → w ≢ 0 → w < 2 ^ 32 → (k : ℕ) → k < trailing_zeros w32 w + 1 - 1 → has_bit w k ≡ false
unfolding has_bit
lowest-first w some small k below = rw ((zeros w some small).2 k (omega (arith, below))) refl

pub ruleset lowest_stage = (lowest-within, lowest-here, lowest-first)

-- no bit is set from 32 on
high_bit : (w k : ℕ) → w < 2 ^ 32 → 32 ≤ k → has_bit w k ≡ false
unfolding has_bit
high_bit w k small high = ap (λ (b : ℕ). nat_eq b 1) (bit_at_above w 32 k small high)

-- a word without a bit
without_bit : (w j k : ℕ) → j < 32 → w < 2 ^ 32 → has_bit (with_bit w j false) k ≡ (has_bit w k && not (nat_eq k j))
without_bit w j k low small = by (nat_eq k j) (nat_lt k 32) refl refl
  where
    by : (here below : Bool) → nat_eq k j ≡ here → nat_lt k 32 ≡ below → has_bit (with_bit w j false) k ≡ (has_bit w k && not here)
    by true below e f =
        let at : k ≡ j = grind (arith, nat_tests) in
        rw at (bit-same w j false low) ∙ sym (and-false (has_bit w k))
    by false true e f =
        let off : k ≢ j = grind (arith, nat_tests) in
        bit-other w j k false low (grind (arith, nat_tests)) off ∙ sym (and-true (has_bit w k))
    by false false e f =
        let high : 32 ≤ k = grind (arith, nat_tests) in
        high_bit (with_bit w j false) k (with_bit-lt w j false low small) high ∙ sym (rw (high_bit w k small high) refl)

-- the bits that both words have, and those that either has
and_bit : (a b : ℕ) → a < 2 → b < 2 → nat_eq (min a b) 1 ≡ (nat_eq a 1 && nat_eq b 1)
and_bit a b h g = grind (arith, nat_tests)

of_both : (w v k : ℕ) → has_bit (bit_and w v) k ≡ (has_bit w k && has_bit v k)
unfolding has_bit
of_both w v k = ap (λ (b : ℕ). nat_eq b 1) (bit_at_and w v k) ∙ and_bit (bit_at w k) (bit_at v k) (bit_at-lt w k) (bit_at-lt v k)

or_bit : (a b : ℕ) → a < 2 → b < 2 → nat_eq (max a b) 1 ≡ (nat_eq a 1 || nat_eq b 1)
or_bit a b h g = grind (arith, nat_tests)

of_either : (w v k : ℕ) → has_bit (bit_or w v) k ≡ (has_bit w k || has_bit v k)
unfolding has_bit
of_either w v k = ap (λ (b : ℕ). nat_eq b 1) (bit_at_or w v k) ∙ or_bit (bit_at w k) (bit_at v k) (bit_at-lt w k) (bit_at-lt v k)

-- one bit goes up by one place
single : (i k : ℕ) → has_bit (2 ^ i) k ≡ nat_eq k i
unfolding has_bit
single i k = by (nat_eq k i) refl
  where
    by : (here : Bool) → nat_eq k i ≡ here → has_bit (2 ^ i) k ≡ here
    by true e = let at : k ≡ i = grind (arith, nat_tests) in rw (at, bit_at-pow_same i) refl
    by false e = let off : k ≢ i = grind (arith, nat_tests) in rw (bit_at-pow_other i k off) refl

raised : (v i k : ℕ) → 0 < i → i ≤ 32 → v < 2 ^ 32 → (has_bit (2 ^ (i - 1) * 2 % 2 ^ 32) k && has_bit v k) ≡ (nat_eq k i && has_bit v k)
raised v i k some low small = by (nat_lt i 32) refl
  where
    by : (below : Bool) → nat_lt i 32 ≡ below → (has_bit (2 ^ (i - 1) * 2 % 2 ^ 32) k && has_bit v k) ≡ (nat_eq k i && has_bit v k)
    by true e =
        let less : i < 32 = grind (arith, nat_tests) in
        let small : 2 ^ i < 2 ^ 32 = pow-lt less in
        let z : suc (i - 1) ≡ i = omega (arith, some) in
        let y : 2 ^ (i - 1) * 2 ≡ 2 ^ i = subst (λ (n : ℕ). 2 ^ (i - 1) * 2 ≡ 2 ^ n) z (omega arith) in
        let x : 2 ^ (i - 1) * 2 % 2 ^ 32 ≡ 2 ^ i = omega (arith, small, y) in
        ap (λ (w : ℕ). has_bit w k && has_bit v k) x ∙ ap (λ (b : Bool). b && has_bit v k) (single i k)
    by false e =
        let top : i ≡ 32 = let high : 32 ≤ i = grind (arith, nat_tests) in omega (arith, low, high) in
        rw top (none (nat_eq k 32) refl)
      where
        none : (here : Bool) → nat_eq k 32 ≡ here → (has_bit (2 ^ (32 - 1) * 2 % 2 ^ 32) k && has_bit v k) ≡ (here && has_bit v k)
        none true f = let at : k ≡ 32 = grind (arith, nat_tests) in rw (at, high_bit v 32 small (omega arith)) (and-false _)
        none false f = ap (λ (b : Bool). b && has_bit v k) (no_bits k)

abbrev moves_up : (w v i k : ℕ) → Bool
moves_up w v i k = (has_bit w k && not (nat_eq k (i - 1))) || (nat_eq k i && has_bit v k)

pub moved-bits : (w v i k : ℕ) → 0 < i → i ≤ 32 → w < 2 ^ 32 → v < 2 ^ 32 →
    has_bit (bit_or (bit_and w (bit_not w32 (1 * 2 ^ (i - 1) % 2 ^ 32))) (bit_and (1 * 2 ^ (i - 1) % 2 ^ 32 * 2 % 2 ^ 32) v)) k ≡ moves_up w v i k
unfolding with_bit
moved-bits w v i k some low small less =
    rw (one-bit (i - 1) (omega (arith, some, low)))
    (of_either (with_bit w (i - 1) false) (bit_and (2 ^ (i - 1) * 2 % 2 ^ 32) v) k
    ∙ ap (λ (b : Bool). b || has_bit (bit_and (2 ^ (i - 1) * 2 % 2 ^ 32) v) k) (without_bit w (i - 1) k (omega (arith, some, low)) small)
    ∙ ap (λ (b : Bool). (has_bit w k && not (nat_eq k (i - 1))) || b) (of_both (2 ^ (i - 1) * 2 % 2 ^ 32) v k ∙ raised v i k some low less))

-- One Fall --

-- what is in a stage that is neither the one that the result leaves nor the one that it comes to
pub fallen-off : (cells : List Cell) (i k : ℕ) → k ≢ i → k ≢ i - 1 → cell_at (cells_fallen cells i) k ≡ cell_at cells k
unfolding cells_fallen
fallen-off cells i k off far = by (cell_at cells i) (cell_at cells (i - 1))
  where
    by : (o q : Option Cell) →
        cell_at (on o cells (λ c. on q cells (λ d. put_cell (put_cell cells i (without_packet c)) (i - 1) (with_new_packet c.packet d)))) k
        ≡ cell_at cells k
    by None q = refl
    by (Some c) None = refl
    by (Some c) (Some d) =
        cell-put-other (put_cell cells i (without_packet c)) (i - 1) k (with_new_packet c.packet d) far
        ∙ cell-put-other cells i k (without_packet c) off

-- the stage that the result leaves has none then
no_result : (cells : List Cell) (i : ℕ) → IsTrue (falls cells i) →
    (c : Cell) × (cell_at (cells_fallen cells i) i ≡ Some (without_packet c)) × (is_some (on (cell_at cells i) None (λ d. d.packet)) ≡ true)
unfolding cells_fallen falls
no_result cells i free = by (cell_at cells i) (cell_at cells (i - 1)) refl refl free
  where
    by : (o q : Option Cell) → cell_at cells i ≡ o → cell_at cells (i - 1) ≡ q → IsTrue (on o false (λ c. can_fall c q)) →
        (c : Cell)
        × (cell_at (on o cells (λ c. on q cells (λ d. put_cell (put_cell cells i (without_packet c)) (i - 1) (with_new_packet c.packet d)))) i
        ≡ Some (without_packet c))
        × (is_some (on o None (λ d. d.packet)) ≡ true)
    by None q e f h = absurd (cc)
    by (Some c) None e f h = absurd (cc)
    by (Some c) (Some d) e f h =
        let low = stage-low cells (i - 1) d f in (
          c,
          cell-put-other (put_cell cells i (without_packet c)) (i - 1) i (with_new_packet c.packet d) (λ g. absurd (omega (arith, low, g)))
              ∙ cell-put cells i (without_packet c) (stage-low cells i c e) (stage-high cells i c e),
          flies c.packet (is_full c) (is_some d.packet) h,
        )
      where
        flies : (o : Option Packet) (f b : Bool) → (is_some o && not f && not b) ≡ true → is_some o ≡ true
        flies o f b h = grind arith

-- so the result of the stage above can fall if it rests there
falls_next : (cells : List Cell) (i : ℕ) → IsTrue (falls cells i) → falls (cells_fallen cells i) (i + 1) ≡ rests cells (i + 1)
unfolding falls
falls_next cells i free =
    let z : i + 1 - 1 ≡ i = omega arith in
    let r = no_result cells i free in
    rw (z, fallen-off cells i (i + 1) (λ g. absurd (omega (arith, g))) (λ g. absurd (omega (arith, g))), r.1) (by (cell_at cells (i + 1)))
  where
    by : (o : Option Cell) → on o false (λ c. is_some c.packet && not (is_full c) && not false) ≡ on o false (λ c. is_some c.packet && not (is_full c))
    by None = refl
    by (Some c) = grind arith

-- it could not before
falls_not : (cells : List Cell) (i : ℕ) → IsTrue (falls cells i) → falls cells (i + 1) ≡ false
unfolding falls
falls_not cells i free =
    let z : i + 1 - 1 ≡ i = omega arith in
    let r = no_result cells i free in
    rw z (by (cell_at cells (i + 1)) (cell_at cells i) r.2)
  where
    by : (o q : Option Cell) → is_some (on q None (λ d. d.packet)) ≡ true → on o false (λ c. can_fall c q) ≡ false
    by None q some = refl
    by (Some c) None some = absurd (cc)
    by (Some c) (Some d) some = grind arith

-- further up nothing changes
falls_far : (cells : List Cell) (i k : ℕ) → i + 1 < k → falls (cells_fallen cells i) k ≡ falls cells k
unfolding falls
falls_far cells i k far =
    rw (
      fallen-off cells i k (λ g. absurd (omega (arith, far, g))) (λ g. absurd (omega (arith, far, g))),
      fallen-off cells i (k - 1) (λ g. absurd (omega (arith, far, g))) (λ g. absurd (omega (arith, far, g))),
    ) refl

rests_above : (cells : List Cell) (i k : ℕ) → i < k → rests (cells_fallen cells i) k ≡ rests cells k
rests_above cells i k above = rw (fallen-off cells i k (λ g. absurd (omega (arith, above, g))) (λ g. absurd (omega (arith, above, g)))) refl

-- Falls in turn --

-- results have fallen in turn so far, and the words have those that can fall next, and where results rest above them
pub record HasFallen (cells : List Cell) (w resting : ℕ) (new : List Cell) (left count last : ℕ) : Type 0 where
  pub start : ℕ
  pub word : AreFalls cells start w
  pub stages : List ℕ
  pub in_turn : FallInTurn cells start stages
  pub new_is : new ≡ all_fallen cells stages
  pub count_is : count ≡ length stages
  pub last_is : last ≡ last_of 0 stages
  pub next : AreFalls new (last_of start stages) left
  pub rest : (k : ℕ) → last_of start stages ≤ k → has_bit resting k ≡ rests new (k + 1)
  pub few : count ≤ last
  pub high : last ≤ 32

pub none-fallen : (cells : List Cell) (w resting : ℕ) → AreSomeFalls cells w → AreResting cells resting → HasFallen cells w resting cells w 0 0
unfolding FallInTurn all_fallen
none-fallen cells w resting some rest = record {
  start = some.0;
  word = some.1;
  stages = [];
  in_turn = tt;
  new_is = refl;
  count_is = refl;
  last_is = refl;
  next = some.1;
  rest = λ k above. rest k;
  few = omega arith;
  high = omega arith;
}

-- the lowest stage of the word is that of the next Fall
both : (a b : Bool) → (a && b) ≡ true → (a ≡ true) × (b ≡ true)
both true b e = (refl, e)
both false b e = absurd (cc)

next_fall : (cells : List Cell) (a w i : ℕ) → AreFalls cells a w → 0 < i → has_bit w (i - 1) ≡ true → ((k : ℕ) → k < i - 1 → has_bit w k ≡ false) →
    IsNextFall cells a i
unfolding AreFalls
next_fall cells a w i are low here first =
    let z : i - 1 + 1 ≡ i = omega (arith, low) in
    let p = both (falls cells i) (nat_lt a i) (rw z at (sym (are (i - 1)) ∙ here)) in
    record { above = grind (arith, nat_tests, p.1); free = p.0; first = λ k over under. by k over under }
  where
    by : (k : ℕ) → a < k → k < i → falls cells k ≡ false
    by k over under =
        let y : k - 1 + 1 ≡ k = omega (arith, over) in
        let past : nat_lt a k ≡ true = grind (arith, nat_tests) in
        let e : has_bit w (k - 1) ≡ (falls cells k && nat_lt a k) = rw y at (are (k - 1)) in
        let off = first (k - 1) (omega (arith, under, over)) in
        sym (and-true (falls cells k)) ∙ rw past at (sym e) ∙ off

pub falls-next : (cells : List Cell) (w resting : ℕ) (new : List Cell) (left count last i : ℕ) → HasFallen cells w resting new left count last → 0 < i →
    has_bit left (i - 1) ≡ true → ((k : ℕ) → k < i - 1 → has_bit left k ≡ false) → IsTrue (falls new i)
falls-next cells w resting new left count last i h low here first = (next_fall new (last_of h.start h.stages) left i h.next low here first).free

pub falls-higher : (cells : List Cell) (w resting : ℕ) (new : List Cell) (left count last i : ℕ) → HasFallen cells w resting new left count last → 0 < i →
    has_bit left (i - 1) ≡ true → ((k : ℕ) → k < i - 1 → has_bit left k ≡ false) → last < i
falls-higher cells w resting new left count last i h low here first =
    rw h.last_is (by h.stages (next_fall new (last_of h.start h.stages) left i h.next low here first).above)
  where
    by : (stages : List ℕ) → last_of h.start stages < i → last_of 0 stages < i
    by [] above = low
    by (j ∷ stages) above = above

-- the word after a Fall
falls_after : (cells : List Cell) (a w resting i v : ℕ) → AreFalls cells a w → IsNextFall cells a i → ((k : ℕ) → k < i - 1 → has_bit w k ≡ false) →
    has_bit resting i ≡ rests cells (i + 1) → ((k : ℕ) → has_bit v k ≡ moves_up w resting i k) → AreFalls (cells_fallen cells i) i v
unfolding AreFalls
falls_after cells a w resting i v are next first rest is k = is k ∙ by (nat_lt k i) (nat_eq k i) refl refl
  where
    off : (b : Bool) → b ≡ false → ((b && true) || false) ≡ false
    off b e = rw e refl

    gone : (b : Bool) → ((b && false) || false) ≡ false
    gone b = grind arith

    kept : (b : Bool) → ((b && true) || false) ≡ b
    kept b = grind arith

    by : (below here : Bool) → nat_lt k i ≡ below → nat_eq k i ≡ here →
        moves_up w resting i k ≡ (falls (cells_fallen cells i) (k + 1) && nat_lt i (k + 1))
    by true here e f =
        let under : nat_lt i (k + 1) ≡ false = grind (arith, nat_tests) in
        let no : nat_eq k i ≡ false = grind (arith, nat_tests) in
        rw no (left (nat_eq k (i - 1)) refl)
        ∙ sym (ap (λ (b : Bool). falls (cells_fallen cells i) (k + 1) && b) under ∙ and-false (falls (cells_fallen cells i) (k + 1)))
      where
        left : (at : Bool) → nat_eq k (i - 1) ≡ at → ((has_bit w k && not at) || false) ≡ false
        left true g = gone (has_bit w k)
        left false g = off (has_bit w k) (first k (grind (arith, nat_tests)))
    by false true e f =
        let at : k ≡ i = grind (arith, nat_tests) in
        let over : nat_lt i (i + 1) ≡ true = grind (arith, nat_tests) in
        let eq : nat_eq i i ≡ true = grind (arith, nat_tests) in
        let none : has_bit w i ≡ false = are i ∙ rw (falls_not cells i next.free) refl in
        rw (at, none, eq, over) (rest ∙ sym (falls_next cells i next.free) ∙ sym (and-true (falls (cells_fallen cells i) (i + 1))))
    by false false e f =
        let some = next.above in
        let above : i < k = grind (arith, nat_tests) in
        let no : nat_eq k (i - 1) ≡ false = grind (arith, nat_tests) in
        let over : nat_lt i (k + 1) ≡ true = grind (arith, nat_tests) in
        let past : nat_lt a (k + 1) ≡ true = grind (arith, nat_tests) in
        rw (f, no, over) (kept (has_bit w k) ∙ are k ∙ rw (past, falls_far cells i (k + 1) (omega (arith, above))) refl)

pub one-fallen : (cells : List Cell) (w resting : ℕ) (new : List Cell) (left count last : ℕ) (new1 : List Cell) (left1 i : ℕ) →
    HasFallen cells w resting new left count last → length new ≤ 32 → 0 < i → has_bit left (i - 1) ≡ true →
    ((k : ℕ) → k < i - 1 → has_bit left k ≡ false) → new1 ≡ cells_fallen new i → ((k : ℕ) → has_bit left1 k ≡ moves_up left resting i k) →
    HasFallen cells w resting new1 left1 (count + 1) i
unfolding FallInTurn all_fallen
one-fallen cells w resting new left count last new1 left1 i h size low here first is moved =
    let a = last_of h.start h.stages in
    let next = next_fall new a left i h.next low here first in
    let higher = falls-higher cells w resting new left count last i h low here first in
    let few = h.few in
    let high = falls-within new i next.free in
    record {
      start = h.start;
      word = h.word;
      stages = i ∷ h.stages;
      in_turn = (h.in_turn, subst (λ (cs : List Cell). IsNextFall cs a i) h.new_is next);
      new_is = is ∙ ap (λ (cs : List Cell). cells_fallen cs i) h.new_is;
      count_is = let n = h.count_is in omega (arith, n);
      last_is = refl;
      next = subst (λ (cs : List Cell). AreFalls cs i left1) (sym is)
          (falls_after new a left resting i left1 h.next next first (h.rest i (omega (arith, next.above))) moved);
      rest = λ k above. h.rest k (omega (arith, above, next.above)) ∙ sym (rests_above new i (k + 1) (omega (arith, above)))
          ∙ ap (λ (cs : List Cell). rests cs (k + 1)) (sym is);
      few = omega (arith, few, higher);
      high = omega (arith, high, size);
    }

-- fewer stages are left above
pub nearer : (last i : ℕ) → last < i → i ≤ 32 → 32 - i < 32 - last
nearer last i higher within = omega (arith, higher, within)

-- when the word has none, none can fall any more
pub all-fell : (cells : List Cell) (w resting : ℕ) (new : List Cell) (left count last : ℕ) → HasFallen cells w resting new left count last → left ≡ 0 →
    FallsOn cells w new count last
unfolding AreFalls
all-fell cells w resting new left count last h none = record {
  start = h.start;
  word = h.word;
  stages = h.stages;
  in_turn = h.in_turn;
  new_is = h.new_is;
  count_is = h.count_is;
  last_is = h.last_is;
  ends = λ k above.
      let y : k - 1 + 1 ≡ k = omega (arith, above) in
      let past : nat_lt (last_of h.start h.stages) k ≡ true = grind (arith, nat_tests) in
      let e : has_bit left (k - 1) ≡ (falls new k && nat_lt (last_of h.start h.stages) k) = rw y at (h.next (k - 1)) in
      sym (and-true (falls new k)) ∙ rw past at (sym e) ∙ ap (λ (v : ℕ). has_bit v (k - 1)) none ∙ no_bits (k - 1);
}
