-- The word of the stages at which an instruction is blocked, and the first of them above a stage.
use Rattle.std.proofs.Common.{◌≡◌, ◌≢◌, ◌∙◌, ℕ, zero, suc, ◌+◌, ◌-◌, ◌/◌, ◌^◌, ◌<◌, ◌≤◌, List, Option, Some, None, Bool, true, false, length, max, refl, sym, ap, arith}
use Rattle.std.specs.Prelude.{◌==◌, ◌&&◌, ◌||◌, if◌then◌else◌, nat_eq, nat_lt, not}
use Rattle.std.specs.Int.{bit_at, trailing_zeros, w32}
use Rattle.std.specs.Int.RustNames.{bit_or}
use Rattle.std.proofs.lemmas.Bool.Decides.{nat_tests}
use Rattle.std.proofs.lemmas.Nat.{or_lt, shr-shr}
use Rattle.std.proofs.lemmas.Nat.Bits.{bit_at-lt, bit_at-suc, bit_at-trailing_zeros, bit_at-zero, bit_at_or}
use Rattle.cf_bind.specs.declared.cell.Cell.{Cell}
use Rattle.cf_bind.specs.declared.passenger.Passenger.{Passenger}
use Rattle.rv_inst.specs.declared.classes.Class.{Class}
use Rattle.cf_layout.specs.Accepted.{IsAccepted}
use Rattle.cf_layout.specs.Layout.{Plan, last_stage, launch_stage, recover_stage, siding_of}
use Rattle.cf_layout.specs.Words.{has_bit}
use Rattle.cf_semantics.specs.moves.Bars.{stops_at}
use Rattle.cf_semantics.specs.state.Options.{is_some, on}
use Rattle.cf_semantics.specs.state.Passengers.{kind}
use Rattle.cf_semantics.specs.state.State.{State, cell_at}
use Rattle.cf_stages.specs.Words.{packet_word, passenger_word, with_bit, word_of}
use Rattle.cf_stages.proofs.Bits.{same-words, word-agrees, word-bit, word-bit-above, word-small}
use Rattle.cf_stages.proofs.Empty.{word-none}
use Rattle.cf_stages.proofs.Parts.{stage-high}
use Rattle.theory_refinement.proofs.layouts.Accepted.{accepted_suits}
use Rattle.cf_core.specs.Climbing.{IsFirstBlock, holds_at, is_blocked_at, work_of}
use Rattle.cf_core.specs.Processors.{IsProcessor}
use Rattle.cf_core.specs.Riders.{is_idle, is_out, is_undone}
use Rattle.cf_core.specs.Stations.{AreSidingStages}
use Rattle.cf_core.specs.declared.stations.SidingStages.{SidingStages}
use Rattle.cf_core.proofs.Bits.{word_at}
use Rattle.cf_core.proofs.Rides.{stops-by-siding, stops-by-units, stops-idle}
use Rattle.cf_core.proofs.Sites.{siding_within}

-- Words by their tests --

or_bit : (a b : ℕ) → a < 2 → b < 2 → nat_eq (max a b) 1 ≡ (nat_eq a 1 || nat_eq b 1)
or_bit a b h g = grind (arith, nat_tests)

of_either : (w v k : ℕ) → has_bit (bit_or w v) k ≡ (has_bit w k || has_bit v k)
unfolding has_bit
of_either w v k = ap (λ (b : ℕ). nat_eq b 1) (bit_at_or w v k) ∙ or_bit (bit_at w k) (bit_at v k) (bit_at-lt w k) (bit_at-lt v k)

-- the stages of either word
or_words : (f g : ℕ → Bool) (n : ℕ) → n ≤ 32 → bit_or (word_of f n) (word_of g n) ≡ word_of (λ k. f k || g k) n
or_words f g n few =
    same-words (bit_or (word_of f n) (word_of g n)) (word_of (λ k. f k || g k) n)
    (or_lt 32 (word_of f n) (word_of g n) (word-small f n few) (word-small g n few)) (word-small (λ k. f k || g k) n few) (λ k below. bit k (nat_lt k n) refl)
  where
    bit : (k : ℕ) (inside : Bool) → nat_lt k n ≡ inside → has_bit (bit_or (word_of f n) (word_of g n)) k ≡ has_bit (word_of (λ k. f k || g k) n) k
    bit k true e =
        let within : k < n = grind (arith, nat_tests) in
        of_either (word_of f n) (word_of g n) k
        ∙ rw (word-bit f n k within, word-bit g n k within) (sym (word-bit (λ k. f k || g k) n k within))
    bit k false e =
        let above : n ≤ k = grind (arith, nat_tests) in
        of_either (word_of f n) (word_of g n) k
        ∙ rw (word-bit-above f n k above, word-bit-above g n k above) (sym (word-bit-above (λ k. f k || g k) n k above))

of_next : (w k : ℕ) → has_bit (w / 2 ^ 1) k ≡ has_bit w (suc k)
unfolding has_bit
of_next w k = ap (λ (b : ℕ). nat_eq b 1) (sym (bit_at-suc w k))

-- each stage for the one above it; nothing is above the highest
next_word : (f : ℕ → Bool) (n : ℕ) → n ≤ 32 → f (n + 1) ≡ false → word_of f n / 2 ^ 1 ≡ word_of (λ k. f (k + 1)) n
next_word f n few none =
    let small = word-small f n few in
    same-words (word_of f n / 2 ^ 1) (word_of (λ k. f (k + 1)) n) (omega arith) (word-small (λ k. f (k + 1)) n few)
    (λ k below. of_next (word_of f n) k ∙ bit k (nat_lt k n) (nat_lt (suc k) n) refl refl)
  where
    bit : (k : ℕ) (inside further : Bool) → nat_lt k n ≡ inside → nat_lt (suc k) n ≡ further → has_bit (word_of f n) (suc k)
        ≡ has_bit (word_of (λ k. f (k + 1)) n) k
    bit k inside true e g =
        let within : suc k < n = grind (arith, nat_tests) in
        let z : suc (suc k) ≡ suc k + 1 = omega arith in
        word-bit f n (suc k) within ∙ ap f z ∙ sym (word-bit (λ k. f (k + 1)) n k (omega arith))
    bit k true false e g =
        let within : k < n = grind (arith, nat_tests) in
        let last : n ≤ suc k = grind (arith, nat_tests) in
        let z : n + 1 ≡ suc k + 1 = omega arith in
        word-bit-above f n (suc k) last ∙ sym none ∙ ap f z ∙ sym (word-bit (λ k. f (k + 1)) n k within)
    bit k false false e g =
        let above : n ≤ k = grind (arith, nat_tests) in
        word-bit-above f n (suc k) (omega arith) ∙ sym (word-bit-above (λ k. f (k + 1)) n k above)

-- one stage, or none
one_stage : (n h : ℕ) (b : Bool) → 0 < h → h ≤ n → n ≤ 32 → with_bit 0 (h - 1) b ≡ word_of (λ k. b && h == k) n
one_stage n h b low within few =
    let here : (b && h == h) ≡ b = same b in
    ap (λ (w : ℕ). with_bit w (h - 1) b) (sym (word-none n))
    ∙ ap (with_bit (word_of (λ k. false) n) (h - 1)) (sym here)
    ∙ sym (word_at (λ k. false) (λ k. b && h == k) n h few low within (λ k off. other k b off))
  where
    same : (b : Bool) → (b && h == h) ≡ b
    same b = grind (arith, nat_tests)

    other : (k : ℕ) (b : Bool) → k ≢ h → (b && h == k) ≡ false
    other k b off = grind (arith, nat_tests)

-- Where an instruction stops --

record SiteStages (plan : Plan) (site : SidingStages) : Type 0 where
  launch_low : 0 < site.launch
  launch_high : site.launch ≤ plan.stages
  recover_low : 0 < site.recover
  recover_high : site.recover ≤ plan.stages

site_stages : (plan : Plan) (c : Class) (site : SidingStages) → IsAccepted plan → AreSidingStages plan c site → SiteStages plan site
site_stages plan c site acc are =
    let w = siding_within plan site.number acc are.inside in
    record {
      launch_low = rw are.launch w.low;
      launch_high = rw are.launch w.low_in;
      recover_low = rw are.recover w.high;
      recover_high = rw are.recover w.high_in;
    }

pub launch-low : (plan : Plan) (c : Class) (site : SidingStages) → IsAccepted plan → AreSidingStages plan c site → 0 < site.launch
launch-low plan c site acc are = (site_stages plan c site acc are).launch_low

pub launch-high : (plan : Plan) (c : Class) (site : SidingStages) → IsAccepted plan → AreSidingStages plan c site → site.launch ≤ 32
launch-high plan c site acc are = let s = (site_stages plan c site acc are).launch_high in omega (arith, acc.stages.1)

pub recover-low : (plan : Plan) (c : Class) (site : SidingStages) → IsAccepted plan → AreSidingStages plan c site → 0 < site.recover
recover-low plan c site acc are = (site_stages plan c site acc are).recover_low

pub recover-high : (plan : Plan) (c : Class) (site : SidingStages) → IsAccepted plan → AreSidingStages plan c site → site.recover ≤ 32
recover-high plan c site acc are = let s = (site_stages plan c site acc are).recover_high in omega (arith, acc.stages.1)

-- it is out, and stops where its siding recovers
out_stops : (launched recovered undone back site : Bool) → (launched && not recovered) ≡ true →
    (((launched && not recovered) && back) || (undone && (not launched && site))) ≡ (true && back)
out_stops true false true true site e = refl
out_stops true false true false site e = refl
out_stops true false false true site e = refl
out_stops true false false false site e = refl
out_stops true true undone back site e = absurd (cc)
out_stops false recovered undone back site e = absurd (cc)

pub siding-out : (plan : Plan) (p : Passenger) (site : SidingStages) → IsAccepted plan → AreSidingStages plan (kind p) site → is_out p ≡ true →
    with_bit 0 (site.recover - 1) true ≡ word_of (stops_at plan p) plan.stages
siding-out plan p site acc are out =
    let s = site_stages plan (kind p) site acc are in
    one_stage plan.stages site.recover true s.recover_low s.recover_high acc.stages.1
    ∙ word-agrees (λ k. true && site.recover == k) (stops_at plan p) plan.stages (λ k low high. sym (stops-by-siding plan k site.number p are.siding
    ∙ rw are.recover (out_stops p.launched p.recovered (is_undone p) (recover_stage plan site.number == k) (launch_stage plan site.number == k) out)))

-- it is not, and stops where its siding launches if it has still to be launched
in_stops : (out undone launched back site : Bool) → out ≡ false → ((out && back) || (undone && (not launched && site))) ≡ ((undone && not launched) && site)
in_stops out true true back site e = rw e refl
in_stops out true false back site e = rw e refl
in_stops out false launched back site e = rw e refl

pub siding-in : (plan : Plan) (p : Passenger) (site : SidingStages) (b : Bool) → IsAccepted plan → AreSidingStages plan (kind p) site → is_out p ≡ false →
    b ≡ (is_undone p && not p.launched) → with_bit 0 (site.launch - 1) b ≡ word_of (stops_at plan p) plan.stages
siding-in plan p site b acc are out is =
    let s = site_stages plan (kind p) site acc are in
    one_stage plan.stages site.launch b s.launch_low s.launch_high acc.stages.1
    ∙ word-agrees (λ k. b && site.launch == k) (stops_at plan p) plan.stages (λ k low high. sym (stops-by-siding plan k site.number p are.siding
    ∙ rw (is, are.launch) (in_stops (is_out p) (is_undone p) p.launched (recover_stage plan site.number == k) (launch_stage plan site.number == k) out)))

-- the last stage of a class with units
pub last-low : (plan : Plan) (c : Class) (last : ℕ) → IsAccepted plan → siding_of plan c ≡ None → last ≡ last_stage plan c → 0 < last
last-low plan c last acc units is = let q = (accepted_suits plan acc).first_last c units in rw is (omega arith)

pub last-high : (plan : Plan) (c : Class) (last : ℕ) → IsAccepted plan → last ≡ last_stage plan c → last ≤ 32
last-high plan c last acc is = let q = (accepted_suits plan acc).last_within c in rw is (omega (arith, acc.stages.1))

in_turn : (undone unlaunched ends : Bool) → (undone && (unlaunched && ends)) ≡ ((undone && unlaunched) && ends)
in_turn true unlaunched ends = refl
in_turn false unlaunched ends = refl

pub units-stop : (plan : Plan) (p : Passenger) (last : ℕ) (b : Bool) → IsAccepted plan → siding_of plan (kind p) ≡ None → last ≡ last_stage plan (kind p) →
    b ≡ (is_undone p && not p.launched) → with_bit 0 (last - 1) b ≡ word_of (stops_at plan p) plan.stages
units-stop plan p last b acc units is all =
    let low = last-low plan (kind p) last acc units is in
    let high : last ≤ plan.stages = rw is ((accepted_suits plan acc).last_within (kind p)) in
    one_stage plan.stages last b low high acc.stages.1
    ∙ word-agrees (λ k. b && last == k) (stops_at plan p) plan.stages (λ k bottom top. sym (stops-by-units plan k p units
    ∙ rw (is, all) (in_turn (is_undone p) (not p.launched) (last_stage plan (kind p) == k))))

-- with which no unit and no siding has anything left to do
idle_by : (b : Bool) (c : Class) → None ≡ (if b then None else Some c) → b ≡ true
idle_by true c e = refl
idle_by false c e = absurd (cc)

class_by : (b : Bool) (c k : Class) → Some k ≡ (if b then None else Some c) → k ≡ c
class_by true c k e = absurd (cc)
class_by false c k e = cc

pub no-work : (p : Passenger) → None ≡ work_of p → is_idle p ≡ true
no-work p e = idle_by (is_idle p) (kind p) e

pub work-class : (p : Passenger) (k : Class) → Some k ≡ work_of p → k ≡ kind p
work-class p k e = class_by (is_idle p) (kind p) k e

-- the class of an instruction that is there
pub class-here : (o : Option Passenger) (p : Passenger) (k : Class) → o ≡ Some p → on o None (λ q. Some (kind q)) ≡ Some k → k ≡ kind p
class-here o p k here is = some_same k (kind p) (sym is ∙ ap (λ (o : Option Passenger). on o None (λ q. Some (kind q))) here)
  where
    some_same : (a b : Class) → Some a ≡ Some b → a ≡ b
    some_same a b e = cc

pub idle-stops : (plan : Plan) (p : Passenger) (work : Option Class) → work ≡ work_of p → work ≡ None → 0 ≡ word_of (stops_at plan p) plan.stages
idle-stops plan p work is none =
    let idle = no-work p (sym none ∙ is) in
    sym (word-none plan.stages)
    ∙ word-agrees (λ k. false) (stops_at plan p) plan.stages (λ k low high. sym (stops-idle plan k p idle))

pub class-of-work : (p : Passenger) (work : Option Class) (k : Class) → work ≡ work_of p → work ≡ Some k → k ≡ kind p
class-of-work p work k is some = work-class p k (sym some ∙ is)

pub ruleset sides = (launch-low, launch-high, recover-low, recover-high, siding-out, siding-in)

pub ruleset lasts = (last-low, last-high, units-stop)

pub ruleset working = (idle-stops, class-of-work)

-- Where it is blocked --

above_none : (cells : List Cell) (n : ℕ) (test : Cell → Bool) → length cells ≡ n → on (cell_at cells (n + 1)) false test ≡ false
above_none cells n test count = by (cell_at cells (n + 1)) refl
  where
    by : (o : Option Cell) → cell_at cells (n + 1) ≡ o → on o false test ≡ false
    by None e = refl
    by (Some c) e = let high = stage-high cells (n + 1) c e in absurd (omega arith)

pub blocks-word : (plan : Plan) (s : State) (p : Passenger) (packets passengers top stops n : ℕ) → IsProcessor plan s → packets ≡ packet_word s.cells →
    passengers ≡ passenger_word s.cells → n ≡ length s.cells → top ≡ with_bit 0 (n - 1) true → stops ≡ word_of (stops_at plan p) plan.stages →
    bit_or (bit_or (bit_or packets (passengers / 2 ^ 1)) top) stops ≡ word_of (is_blocked_at plan s p) plan.stages
blocks-word plan s p packets passengers top stops n h flying riding count at stop =
    let few = h.accepted.stages.1 in
    let number = count ∙ h.stages in
    let flies = λ (k : ℕ). holds_at s k (λ c. is_some c.packet) in
    let rides = λ (k : ℕ). holds_at s k (λ c. is_some c.passenger) in
    let one = flying ∙ ap (word_of flies) h.stages in
    let two = ap (λ (w : ℕ). w / 2 ^ 1) (riding ∙ ap (word_of rides) h.stages)
    ∙ next_word rides plan.stages few (above_none s.cells plan.stages (λ c. is_some c.passenger) h.stages) in
    let three = at ∙ ap (λ (k : ℕ). with_bit 0 (k - 1) true) number
    ∙ one_stage plan.stages plan.stages true (omega (arith, h.accepted.stages.0)) (omega arith) few in
    let first = or_words flies (λ k. rides (k + 1)) plan.stages few in
    let second = or_words (λ k. flies k || rides (k + 1)) (λ k. true && plan.stages == k) plan.stages few in
    let third = or_words (λ k. flies k || rides (k + 1) || (true && plan.stages == k)) (stops_at plan p) plan.stages few in
    rw (one, two, three, stop, first, second) third

-- the first of them above a stage
of_shifted : (w i k : ℕ) → bit_at (w / 2 ^ i) k ≡ bit_at w (i + k)
of_shifted w i k = rw (shr-shr w i k) refl

some_left : (w i n : ℕ) → i < n → has_bit w (n - 1) ≡ true → 0 < w / 2 ^ i
unfolding has_bit
some_left w i n below set = by (w / 2 ^ i) refl
  where
    by : (v : ℕ) → w / 2 ^ i ≡ v → 0 < v
    by zero e =
        let z : i + (n - 1 - i) ≡ n - 1 = omega arith in
        let none : bit_at w (n - 1) ≡ 0 = rw z at (sym (of_shifted w i (n - 1 - i)) ∙ ap (λ (v : ℕ). bit_at v (n - 1 - i)) e ∙ bit_at-zero (n - 1 - i)) in
        let clash : nat_eq 0 1 ≡ true = rw none at set in
        absurd (cc)
    by (suc v) e = omega arith

-- the lowest number of which the test holds, from a number on
record Lowest (f : ℕ → Bool) (n i t : ℕ) : Type 0 where
  within : i + 1 + t ≤ n
  holds : f (i + 1 + t) ≡ true
  none : (k : ℕ) → i < k → k < i + 1 + t → f k ≡ false

lowest : (f : ℕ → Bool) (n i : ℕ) → n ≤ 32 → i < n → f n ≡ true → Lowest f n i (trailing_zeros w32 (word_of f n / 2 ^ i))
unfolding has_bit
lowest f n i few below set =
    let w = word_of f n in
    let small = word-small f n few in
    let v = w / 2 ^ i in
    let t = trailing_zeros w32 v in
    let last : suc (n - 1) ≡ n = omega arith in
    let top : has_bit w (n - 1) ≡ true = word-bit f n (n - 1) (omega arith) ∙ ap f last ∙ set in
    let less : v < 2 ^ 32 = smaller w i small in
    let z = bit_at-trailing_zeros w32 v (some_left w i n below top) less in
    let here : has_bit w (i + t) ≡ true = rw (sym (of_shifted w i t) ∙ z.1) refl in
    let inside = bit_inside f n (i + t) here in
    let one : suc (i + t) ≡ i + 1 + t = omega arith in
    record {
      within = omega arith;
      holds = sym (ap f one) ∙ sym (word-bit f n (i + t) inside) ∙ here;
      none = λ k low high.
          let m = k - 1 - i in
          let at : i + m ≡ k - 1 = omega arith in
          let is : suc (i + m) ≡ k = omega arith in
          let clear : has_bit w (i + m) ≡ false = rw (sym (of_shifted w i m) ∙ z.2 m (omega arith)) refl in
          sym (ap f is) ∙ sym (word-bit f n (i + m) (omega arith)) ∙ clear;
    }
  where
    smaller : (w i : ℕ) → w < 2 ^ 32 → w / 2 ^ i < 2 ^ 32
    smaller w i small = omega arith

    bit_inside : (f : ℕ → Bool) (n k : ℕ) → has_bit (word_of f n) k ≡ true → k < n
    bit_inside f n k set = by (nat_lt k n) refl
      where
        by : (b : Bool) → nat_lt k n ≡ b → k < n
        by true e = grind (arith, nat_tests)
        by false e = let clear = word-bit-above f n k (grind (arith, nat_tests)) in absurd (cc)

highest_blocked : (a b d : Bool) (n : ℕ) → (a || b || n == n || d) ≡ true
highest_blocked a b d n = grind (arith, nat_tests)

pub first-block : (plan : Plan) (s : State) (p : Passenger) (w i : ℕ) → IsAccepted plan → w ≡ word_of (is_blocked_at plan s p) plan.stages → i < plan.stages →
    IsFirstBlock plan s p i (i + 1 + trailing_zeros w32 (w / 2 ^ i))
first-block plan s p w i acc is below =
    let n = plan.stages in
    let top = highest_blocked (holds_at s n (λ c. is_some c.packet)) (holds_at s (n + 1) (λ c. is_some c.passenger)) (stops_at plan p n) n in
    let l = lowest (is_blocked_at plan s p) plan.stages i acc.stages.1 below top in
    rw is (record { higher = omega arith; within = l.within; blocked = l.holds; free = l.none })

pub ruleset blocking = (first-block)
