-- The stages that are left of a kind of move, after such a move was made at the lowest of them.
use Rattle.std.proofs.Common.{◌≡◌, ◌∙◌, refl, sym, ap, ℕ, zero, suc, ◌+◌, ◌-◌, ◌<◌, ◌≤◌, ◌^◌, Bool, true, false, nat_lt, List, [], ◌∷◌, ◌++◌, map, Option, Some, None, arith}
use Rattle.std.specs.Prelude.{◌&&◌, not, slice_get}
use Rattle.std.specs.Int.{bit_at, trailing_zeros}
use Rattle.std.proofs.Math.Bool.{and-false, and-true}
use Rattle.std.proofs.lemmas.Bool.Decides.{nat_tests}
use Rattle.std.proofs.lemmas.Nat.Bits.{bit_at-trailing_zeros}
use mir.Syntax.{w64}
use Rattle.cf_layout.specs.Layout.{Plan}
use Rattle.cf_layout.specs.Words.{has_bit}
use Rattle.cf_layout.proofs.Words.{no_bits}
use Rattle.cf_bind.specs.declared.moves.Bar.{Bar}
use Rattle.cf_bind.specs.declared.moves.Move.{Move}
use Rattle.cf_bind.specs.declared.moves.Move.TheVariants.{Execute, Meet, Send}
use Rattle.cf_semantics.specs.moves.Bars.{bar}
use Rattle.cf_semantics.specs.moves.Moves.{moved, next}
use Rattle.cf_semantics.specs.state.Options.{is_some}
use Rattle.cf_semantics.specs.state.State.{Moment, State}
use Rattle.cf_core.specs.Processors.{IsProcessor}
use Rattle.cf_index.specs.Allowed.{is_allowed, word_allowed}
use Rattle.cf_index.specs.Left.{AreLeft, IsLowest, IsMadeAt}
use Rattle.cf_index.specs.Listed.{at_word}
use Rattle.cf_index.specs.Places.{set_places}
use Rattle.cf_index.specs.Sites.{shares, uses_place}
use Rattle.cf_index.proofs.Independence.{bar_kept}
use Rattle.cf_index.proofs.KnownMoves.{known-at}
use Rattle.cf_index.proofs.Parts.{in_word}
use Rattle.cf_index.proofs.Places.{lowest}
use Rattle.cf_index.proofs.Ranks.{above}
use Rattle.cf_index.proofs.Rows.{allowed-has}
use Rattle.cf_index.proofs.There.{has_sidings}

-- The first of them --

-- it is the first of the moves of the word
pub left_here : (kind : ℕ → Move) (w i : ℕ) (ys : List Move) → 0 < i → Some (i - 1) ≡ slice_get (set_places 64 w) 0 →
    slice_get (at_word kind w ++ ys) 0 ≡ Some (kind i)
left_here kind w i ys some first = let z : i - 1 + 1 ≡ i = omega (arith, some) in sym (rw z at (in_word kind w (i - 1) 0 ys first))

-- the lowest stage of a word is the first of its numbers
lowest_place : (w i : ℕ) → w < 2 ^ 32 → IsLowest w i → Some (i - 1) ≡ slice_get (set_places 64 w) 0
unfolding has_bit
lowest_place zero i small least = absurd (let none = no_bits (i - 1) in let here = least.here in cc)
lowest_place (suc w) i small least =
    let t = bit_at-trailing_zeros w64 (suc w) (omega arith) (omega (arith, small)) in
    let at : i - 1 ≡ trailing_zeros w64 (suc w) = by (trailing_zeros w64 (suc w)) t.1 t.2 (nat_lt (i - 1) (trailing_zeros w64 (suc w)))
    (nat_lt (trailing_zeros w64 (suc w)) (i - 1)) refl refl in
    ap Some at ∙ sym (lowest (suc w) (omega arith) (omega (arith, small)))
  where
    by : (n : ℕ) → bit_at (suc w) n ≡ 1 → ((j : ℕ) → j < n → bit_at (suc w) j ≡ 0) → (below above : Bool) → nat_lt (i - 1) n ≡ below →
        nat_lt n (i - 1) ≡ above → i - 1 ≡ n
    by n one rest true above e f =
        let z = rest (i - 1) (grind (arith, nat_tests)) in
        let here = least.here in
        absurd (grind (arith, nat_tests))
    by n one rest false true e f =
        let some = least.numbered in
        let off = least.first n (grind (arith, nat_tests)) in
        absurd (grind (arith, nat_tests))
    by n one rest false false e f = grind (arith, nat_tests)

pub first_lowest : (kind : ℕ → Move) (w i : ℕ) (ys : List Move) → w < 2 ^ 32 → IsLowest w i → slice_get (at_word kind w ++ ys) 0 ≡ Some (kind i)
first_lowest kind w i ys small least = left_here kind w i ys least.numbered (lowest_place w i small least)

-- and if none is left, the word lists no move
pub left_gone : (kind : ℕ → Move) (w : ℕ) (ys : List Move) → None ≡ slice_get (set_places 64 w) 0 → at_word kind w ++ ys ≡ ys
unfolding at_word
left_gone kind w ys none = ap (λ (ks : List ℕ). map (λ k. kind (k + 1)) ks ++ ys) (none_of (set_places 64 w) (sym none))
  where
    none_of : (ks : List ℕ) → slice_get ks 0 ≡ None → ks ≡ []
    none_of [] e = refl
    none_of (k ∷ ks) e = absurd (cc)

-- The stages above one --

-- all stages at which the move is allowed are above stage 0
pub left_all : (plan : Plan) (s : State) (kind : ℕ → Move) (w : ℕ) → w ≡ word_allowed plan s kind → AreLeft plan s 0 kind w
unfolding AreLeft
left_all plan s kind w is k =
    let above : nat_lt 0 (k + 1) ≡ true = grind (arith, nat_tests) in
    rw (is, above) (sym (and-true (has_bit (word_allowed plan s kind) k)))

-- of a word of stages at which the move is allowed, those that are not below stage i
pub left_past : (plan : Plan) (s : State) (kind : ℕ → Move) (w v i : ℕ) → AreLeft plan s 0 kind w →
    ((k : ℕ) → has_bit v k ≡ (has_bit w k && not (nat_lt k i))) → AreLeft plan s i kind v
unfolding AreLeft
left_past plan s kind w v i left is k =
    let all : nat_lt 0 (k + 1) ≡ true = grind (arith, nat_tests) in
    is k ∙ rw (left k, all, and-true (has_bit (word_allowed plan s kind) k), above i k) refl

-- After a move --

-- the word of the stages above one at which the move is allowed now
pub left_again : (plan : Plan) (s : State) (kind : ℕ → Move) (w i : ℕ) → ((k : ℕ) → k < i → has_bit w k ≡ false) →
    ((k : ℕ) → i ≤ k → has_bit w k ≡ has_bit (word_allowed plan s kind) k) → AreLeft plan s i kind w
unfolding AreLeft
left_again plan s kind w i lower above k = go (nat_lt k i) refl
  where
    go : (b : Bool) → nat_lt k i ≡ b → has_bit w k ≡ (has_bit (word_allowed plan s kind) k && nat_lt i (k + 1))
    go true e =
        let off : nat_lt i (k + 1) ≡ false = grind (arith, nat_tests) in
        lower k (grind (arith, nat_tests)) ∙ rw off (sym (and-false (has_bit (word_allowed plan s kind) k)))
    go false e =
        let on : nat_lt i (k + 1) ≡ true = grind (arith, nat_tests) in
        above k (grind (arith, nat_tests)) ∙ rw on (sym (and-true (has_bit (word_allowed plan s kind) k)))

both : (a b : Bool) → (a && b) ≡ true → (a ≡ true) × (b ≡ true)
both true b e = (refl, e)
both false b e = absurd (cc)

-- the move was allowed at the lowest stage that was left, which is above stage a
lowest_is : (plan : Plan) (old : State) (a : ℕ) (kind : ℕ → Move) (w i : ℕ) → AreLeft plan old a kind w → IsLowest w i →
    (has_bit (word_allowed plan old kind) (i - 1) ≡ true) × (nat_lt a i ≡ true)
unfolding AreLeft
lowest_is plan old a kind w i left lowest =
    let z : i - 1 + 1 ≡ i = omega (arith, lowest.numbered) in
    let p = both (has_bit (word_allowed plan old kind) (i - 1)) (nat_lt a (i - 1 + 1)) (sym (left (i - 1)) ∙ lowest.here) in
    (p.0, rw z at p.1)

pub lowest_free : (plan : Plan) (old : State) (a : ℕ) (kind : ℕ → Move) (w i : ℕ) → AreLeft plan old a kind w → IsLowest w i → bar plan old (kind i) ≡ None
lowest_free plan old a kind w i left lowest =
    known-at plan old kind (word_allowed plan old kind) i refl lowest.numbered (lowest_is plan old a kind w i left lowest).0

-- above it the word had the stages at which the move was allowed
pub left_before : (plan : Plan) (old : State) (a : ℕ) (kind : ℕ → Move) (w i k : ℕ) → AreLeft plan old a kind w → IsLowest w i →
    i ≤ k → has_bit w k ≡ has_bit (word_allowed plan old kind) k
unfolding AreLeft
left_before plan old a kind w i k left lowest over =
    let low = (lowest_is plan old a kind w i left lowest).1 in
    let past : nat_lt a (k + 1) ≡ true = grind (arith, nat_tests) in
    left k ∙ rw past (and-true (has_bit (word_allowed plan old kind) k))

-- where the move is allowed as before, the word of the kind has the bit as before
pub same_allowed : (plan : Plan) (old new : State) (kind : ℕ → Move) (k : ℕ) → is_allowed plan new (kind (k + 1)) ≡ is_allowed plan old (kind (k + 1)) →
    has_bit (word_allowed plan new kind) k ≡ has_bit (word_allowed plan old kind) k
same_allowed plan old new kind k same =
    allowed-has plan new kind k ∙ ap (λ (b : Bool). nat_lt k plan.stages && b) same ∙ sym (allowed-has plan old kind k)

-- where it is barred, the word of the kind does not have the bit
pub barred_bit : (plan : Plan) (s : State) (kind : ℕ → Move) (k : ℕ) → is_allowed plan s (kind (k + 1)) ≡ false → has_bit (word_allowed plan s kind) k ≡ false
barred_bit plan s kind k off = allowed-has plan s kind k ∙ rw off (and-false (nat_lt k plan.stages))

-- a kind at one stage does not change whether it is allowed at another
abbrev pub KeepsAbove : (ℕ → Move) → ℕ → Type 0
KeepsAbove kind n = (plan : Plan) (s : State) (i j : ℕ) → IsProcessor plan s → bar plan s (kind i) ≡ None → i + n < j →
    is_allowed plan (moved plan s (kind i)) (kind j) ≡ is_allowed plan s (kind j)

pub left_alone : (plan : Plan) (old new : State) (a : ℕ) (kind : ℕ → Move) (w v i : ℕ) → KeepsAbove kind 0 → IsProcessor plan old →
    IsMadeAt plan old new a kind w i → ((k : ℕ) → has_bit v k ≡ (has_bit w k && not (nat_lt k i))) → AreLeft plan new i kind v
left_alone plan old new a kind w v i keeps processor made is =
    left_again plan new kind v i (λ k lower. is k ∙ off k lower) (λ k above. is k ∙ on k above)
  where
    free : bar plan old (kind i) ≡ None
    free = lowest_free plan old a kind w i made.left made.lowest

    off : (k : ℕ) → k < i → (has_bit w k && not (nat_lt k i)) ≡ false
    off k lower = let e : nat_lt k i ≡ true = grind (arith, nat_tests) in rw e (and-false (has_bit w k))

    on : (k : ℕ) → i ≤ k → (has_bit w k && not (nat_lt k i)) ≡ has_bit (word_allowed plan new kind) k
    on k above =
        let e : nat_lt k i ≡ false = grind (arith, nat_tests) in
        let kept = keeps plan old i (k + 1) processor free (omega (arith, above)) in
        rw e (and-true (has_bit w k)) ∙ left_before plan old a kind w i k made.left made.lowest above
        ∙ sym (same_allowed plan old new kind k (ap (λ (s : State). is_allowed plan s (kind (k + 1))) made.moved_is ∙ kept))

-- The kinds --

abbrev pub moment_of : State → Moment
moment_of s = record { state = s; rest = []; output = [] }

pub free_as : (plan : Plan) (s t : State) (mv : Move) → bar plan t mv ≡ bar plan s mv → is_allowed plan t mv ≡ is_allowed plan s mv
free_as plan s t mv e = ap (λ (o : Option Bar). not (is_some o)) e

pub meets_keep : KeepsAbove Meet 0
unfolding shares uses_place next
meets_keep plan s i j processor free apart = free_as plan s (moved plan s (Meet i)) (Meet j)
    (bar_kept plan (moment_of s) (Meet i) (Meet j) (has_sidings plan s processor) free tt refl refl (grind (arith, nat_tests)))

pub executes_keep : KeepsAbove Execute 0
unfolding shares uses_place next
executes_keep plan s i j processor free apart = free_as plan s (moved plan s (Execute i)) (Execute j)
    (bar_kept plan (moment_of s) (Execute i) (Execute j) (has_sidings plan s processor) free tt refl refl (grind (arith, nat_tests)))

pub sends_keep : KeepsAbove Send 0
unfolding shares uses_place next
sends_keep plan s i j processor free apart = free_as plan s (moved plan s (Send i)) (Send j)
    (bar_kept plan (moment_of s) (Send i) (Send j) (has_sidings plan s processor) free tt refl refl (grind (arith, nat_tests)))
