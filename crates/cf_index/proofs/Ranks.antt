-- The first move of a list that comes after a rank.
use Rattle.std.proofs.Common.{◌≡◌, ◌≢◌, ◌∙◌, sym, refl, ap, ℕ, zero, suc, ◌+◌, ◌-◌, ◌/◌, ◌%◌, ◌^◌, ◌<◌, List, [], ◌∷◌, ◌++◌, map, Bool, true, false, cond, nat_lt, Option, Some, None, arith}
use Rattle.std.specs.Prelude.{◌&&◌, filter, find, not, slice_get}
use Rattle.std.specs.Int.{trailing_zeros}
use Rattle.std.proofs.lemmas.Bool.Decides.{nat_tests}
use Rattle.std.proofs.lemmas.List.{append-nil}
use Rattle.std.proofs.lemmas.List.Elements.{filter-append}
use mir.Syntax.{w64}
use Rattle.cf_layout.specs.Layout.{Plan, SidingPlan}
use Rattle.cf_layout.specs.Words.{has_bit}
use Rattle.cf_layout.proofs.Words.{no_bits}
use Rattle.cf_bind.specs.declared.moves.Move.{Move}
use Rattle.cf_bind.specs.declared.moves.Move.TheVariants.{Climb, Fall, Meet, Execute, Send, Launch, Slide, Access, Recover, Leave, Exit, Serve}
use Rattle.cf_semantics.specs.moves.Candidates.{counted_from, slides_from}
use Rattle.cf_semantics.specs.state.Options.{on}
use Rattle.cf_semantics.specs.state.State.{State}
use Rattle.cf_index.specs.declared.rank.Rank.{Rank}
use Rattle.cf_index.specs.Allowed.{all_leaving, all_passing, is_allowed}
use Rattle.cf_index.specs.Listed.{at_word, slides_of}
use Rattle.cf_index.specs.Order.{kind_place, slide_place, stands_after}
use Rattle.cf_index.specs.Places.{set_places}
use Rattle.cf_index.specs.Ranks.{is_past, rank_of}
use Rattle.cf_index.proofs.FirstsAfter.{found_first, found_second}
use Rattle.cf_index.proofs.Parts.{of_slides, slides_of-zero}
use Rattle.cf_index.proofs.Places.{lowest}

-- a move of an earlier kind does not come after the rank, and one of a later kind does
pub sooner : (r : Rank) (mv : Move) → kind_place mv < r.kind → is_past r mv ≡ false
sooner r mv before = grind (arith, nat_tests)

pub later : (r : Rank) (mv : Move) → r.kind < kind_place mv → is_past r mv ≡ true
later r mv after = grind (arith, nat_tests)

-- a stage above that of the rank comes after it
pub above : (i k : ℕ) → not (nat_lt k i) ≡ nat_lt i (k + 1)
above i k = grind (arith, nat_tests)

-- a word without a bit, if none comes after
none_left : (a b : Bool) → b ≡ false → false ≡ (a && b)
none_left true b off = sym off
none_left false b off = refl

pub nothing_left : (w k : ℕ) (b : Bool) → b ≡ false → has_bit 0 k ≡ (has_bit w k && b)
nothing_left w k b off = no_bits k ∙ none_left (has_bit w k) b off

-- so if the rank is past the kind, no stage is left
pub none_after : (r : Rank) (kind : ℕ → Move) (w k : ℕ) → kind_place (kind (k + 1)) < r.kind → has_bit 0 k ≡ (has_bit w k && is_past r (kind (k + 1)))
none_after r kind w k late = nothing_left w k (is_past r (kind (k + 1))) (sooner r (kind (k + 1)) late)

-- Words --

-- of the moves of a word, the first after the rank is the first in the word of those after it
pick_step : (p : Move → Bool) (f : ℕ → Move) (b q : Bool) (k : ℕ) (xs us : List ℕ) (ys : List Move) → p (f k) ≡ q →
    find p (map f xs ++ ys) ≡ on (slice_get us 0) (find p ys) (λ j. Some (f j)) →
    find p (map f (cond b (k ∷ xs) xs) ++ ys) ≡ on (slice_get (cond (b && q) (k ∷ us) us) 0) (find p ys) (λ j. Some (f j))
pick_step p f false q k xs us ys e r = r
pick_step p f true true k xs us ys e r = rw e refl
pick_step p f true false k xs us ys e r = rw e r

pick : (p : Move → Bool) (f : ℕ → Move) (has new : ℕ → Bool) (a n : ℕ) (ys : List Move) → ((k : ℕ) → new k ≡ (has k && p (f k))) →
    find p (map f (filter has (counted_from a n)) ++ ys) ≡ on (slice_get (filter new (counted_from a n)) 0) (find p ys) (λ j. Some (f j))
pick p f has new a zero ys is = refl
pick p f has new a (suc n) ys is =
    rw (is a) (pick_step p f (has a) (p (f a)) a (filter has (counted_from (suc a) n)) (filter new (counted_from (suc a) n)) ys refl
    (pick p f has new (suc a) n ys is))

pub word_split : (r : Rank) (kind : ℕ → Move) (w new : ℕ) (ys : List Move) → ((k : ℕ) → has_bit new k ≡ (has_bit w k && is_past r (kind (k + 1)))) →
    find (is_past r) (at_word kind w ++ ys) ≡ on (slice_get (set_places 64 new) 0) (find (is_past r) ys) (λ k. Some (kind (k + 1)))
unfolding at_word set_places
word_split r kind w new ys is = pick (is_past r) (λ k. kind (k + 1)) (has_bit w) (has_bit new) 0 64 ys is

pub word_here : (r : Rank) (kind : ℕ → Move) (w new k : ℕ) (ys : List Move) → ((j : ℕ) → has_bit new j ≡ (has_bit w j && is_past r (kind (j + 1)))) →
    Some k ≡ slice_get (set_places 64 new) 0 → Some (kind (k + 1)) ≡ find (is_past r) (at_word kind w ++ ys)
word_here r kind w new k ys is e = sym (rw (← e) at (word_split r kind w new ys is))

pub word_gone : (r : Rank) (kind : ℕ → Move) (w new : ℕ) (ys : List Move) → ((j : ℕ) → has_bit new j ≡ (has_bit w j && is_past r (kind (j + 1)))) →
    None ≡ slice_get (set_places 64 new) 0 → find (is_past r) ys ≡ find (is_past r) (at_word kind w ++ ys)
word_gone r kind w new ys is e = sym (rw (← e) at (word_split r kind w new ys is))

pub end_here : (r : Rank) (kind : ℕ → Move) (w new k : ℕ) → ((j : ℕ) → has_bit new j ≡ (has_bit w j && is_past r (kind (j + 1)))) →
    Some k ≡ slice_get (set_places 64 new) 0 → Some (kind (k + 1)) ≡ find (is_past r) (at_word kind w)
end_here r kind w new k is e = rw (append-nil (at_word kind w)) at (word_here r kind w new k [] is e)

pub end_gone : (r : Rank) (kind : ℕ → Move) (w new : ℕ) → ((j : ℕ) → has_bit new j ≡ (has_bit w j && is_past r (kind (j + 1)))) →
    None ≡ slice_get (set_places 64 new) 0 → None ≡ find (is_past r) (at_word kind w)
end_gone r kind w new is e = rw (append-nil (at_word kind w)) at (word_gone r kind w new [] is e)

-- Where all come after, or none does --

-- the first after is the first of all
pub all_step : (p : Move → Bool) (b : Bool) (x : Move) (xs : List Move) → p x ≡ true → find p xs ≡ slice_get xs 0 →
    find p (cond b (x ∷ xs) xs) ≡ slice_get (cond b (x ∷ xs) xs) 0
all_step p true x xs e rest = rw e refl
all_step p false x xs e rest = rest

pub all_map : (p q : Move → Bool) (f : ℕ → Move) (ks : List ℕ) → ((k : ℕ) → p (f k) ≡ true) → find p (filter q (map f ks)) ≡ slice_get (filter q (map f ks)) 0
all_map p q f [] after = refl
all_map p q f (k ∷ ks) after = all_step p (q (f k)) (f k) (filter q (map f ks)) (after k) (all_map p q f ks after)

both_step : (p : Move → Bool) (x : Move) (xs ys : List Move) (b : Bool) → p x ≡ b → cond b (Some x) (find p xs) ≡ Some x →
    cond b (Some x) (find p (xs ++ ys)) ≡ Some x
both_step p x xs ys true e at = refl
both_step p x xs ys false e at = found_first p xs ys x at

pub all_both : (p : Move → Bool) (xs ys : List Move) → find p xs ≡ slice_get xs 0 → find p ys ≡ slice_get ys 0 → find p (xs ++ ys) ≡ slice_get (xs ++ ys) 0
all_both p [] ys e f = f
all_both p (x ∷ xs) ys e f = both_step p x xs ys (p x) refl e

pub all_parts : (p q : Move → Bool) (xs ys : List Move) → find p (filter q xs) ≡ slice_get (filter q xs) 0 → find p (filter q ys) ≡ slice_get (filter q ys) 0 →
    find p (filter q (xs ++ ys)) ≡ slice_get (filter q (xs ++ ys)) 0
all_parts p q xs ys e f = rw (filter-append q xs ys) (all_both p (filter q xs) (filter q ys) e f)

pub all_slides : (r : Rank) (q : Move → Bool) (k : ℕ) (sidings : List SidingPlan) → r.kind < slide_place →
    find (is_past r) (filter q (slides_from k sidings)) ≡ slice_get (filter q (slides_from k sidings)) 0
all_slides r q k [] early = refl
all_slides r q k (siding ∷ sidings) early =
    all_parts (is_past r) q (map (Slide k) (counted_from 0 (siding.cells - 1))) (slides_from (suc k) sidings)
    (all_map (is_past r) q (Slide k) (counted_from 0 (siding.cells - 1)) (λ c. later r (Slide k c) (omega arith))) (all_slides r q (suc k) sidings early)

all_stages : (r : Rank) (q : Move → Bool) (plan : Plan) → r.kind < 2 → find (is_past r) (filter q (all_passing plan))
    ≡ slice_get (filter q (all_passing plan)) 0
all_stages r q plan early =
    let p = is_past r in
    let stages = counted_from 1 plan.stages in
    all_parts p q _ _ (all_map p q Climb stages (λ k. later r (Climb k) (omega arith))) (
    all_parts p q _ _ (all_map p q Fall stages (λ k. later r (Fall k) (omega arith))) (
    all_parts p q _ _ (all_map p q Meet stages (λ k. later r (Meet k) (omega arith))) (
    all_parts p q _ _ (all_map p q Execute stages (λ k. later r (Execute k) (omega arith))) (
    all_parts p q _ _ (all_map p q Send stages (λ k. later r (Send k) (omega arith))) (all_map p q Launch stages (λ k. later r (Launch k) (omega arith)))))))

pub all_leaving_past : (p q : Move → Bool) (plan : Plan) → ((mv : Move) → slide_place < kind_place mv → p mv ≡ true) →
    find p (filter q (all_leaving plan)) ≡ slice_get (filter q (all_leaving plan)) 0
all_leaving_past p q plan after =
    all_step p (q Access) Access _ (after Access (omega arith)) (
    all_parts p q _ (Leave ∷ Exit ∷ Serve ∷ []) (all_map p q Recover (counted_from 1 plan.stages) (λ k. after (Recover k) (omega arith))) (
    all_step p (q Leave) Leave _ (after Leave (omega arith)) (
    all_step p (q Exit) Exit _ (after Exit (omega arith)) (all_step p (q Serve) Serve [] (after Serve (omega arith)) refl))))

all_outward : (r : Rank) (q : Move → Bool) (plan : Plan) → r.kind < 2 → find (is_past r) (filter q (all_leaving plan))
    ≡ slice_get (filter q (all_leaving plan)) 0
all_outward r q plan early = all_leaving_past (is_past r) q plan (λ mv after. later r mv (omega (arith, early, after)))

pub all_others : (r : Rank) (q : Move → Bool) (plan : Plan) → r.kind < 2 → find (is_past r) (filter q (all_passing plan)
    ++ (filter q (slides_from 0 plan.sidings) ++ filter q (all_leaving plan))) ≡ slice_get (filter q (all_passing plan)
    ++ (filter q (slides_from 0 plan.sidings) ++ filter q (all_leaving plan))) 0
all_others r q plan early =
    all_both (is_past r) _ _ (all_stages r q plan early) (all_both (is_past r) _ _ (all_slides r q 0 plan.sidings (omega arith)) (all_outward r q plan early))

-- Within the sidings --

-- the first of a word
pub slides_here : (w : ℕ) → w < 2 ^ 64 → 0 < w → Some (Slide (trailing_zeros w64 w / 8) (trailing_zeros w64 w % 8)) ≡ slice_get (slides_of w) 0
slides_here w small some = of_slides w (trailing_zeros w64 w) 0 (sym (lowest w some small))

pub slides_none : (w : ℕ) → w ≡ 0 → None ≡ slice_get (slides_of w) 0
slides_none w none = rw (none, slides_of-zero) refl

pub ruleset first_sliding = (slides_here, slides_none)

-- all of them come after a rank of an earlier kind, and none after one of a later kind
pub early_slides : (plan : Plan) (s : State) (r : Rank) (w : ℕ) → r.kind < slide_place → slides_of w ≡ filter (is_allowed plan s) (slides_from 0 plan.sidings) →
    slice_get (slides_of w) 0 ≡ find (is_past r) (filter (is_allowed plan s) (slides_from 0 plan.sidings))
early_slides plan s r w early e = rw e (sym (all_slides r (is_allowed plan s) 0 plan.sidings early))

none_step : (p q : Move → Bool) (b : Bool) (x : Move) (xs : List Move) → p x ≡ false → find p (filter q xs) ≡ None →
    find p (cond b (x ∷ filter q xs) (filter q xs)) ≡ None
none_step p q true x xs off rest = rw off rest
none_step p q false x xs off rest = rest

none_slides : (r : Rank) (q : Move → Bool) (k : ℕ) (ks : List ℕ) (ys : List Move) → slide_place < r.kind → find (is_past r) (filter q ys) ≡ None →
    find (is_past r) (filter q (map (Slide k) ks ++ ys)) ≡ None
none_slides r q k [] ys late rest = rest
none_slides r q k (c ∷ ks) ys late rest = none_step (is_past r) q (q (Slide k c)) (Slide k c) (map (Slide k) ks ++ ys) (sooner r (Slide k c) (omega arith))
    (none_slides r q k ks ys late rest)

none_sliding : (r : Rank) (q : Move → Bool) (k : ℕ) (sidings : List SidingPlan) → slide_place < r.kind →
    find (is_past r) (filter q (slides_from k sidings)) ≡ None
none_sliding r q k [] late = refl
none_sliding r q k (siding ∷ sidings) late = none_slides r q k (counted_from 0 (siding.cells - 1)) (slides_from (suc k) sidings) late
    (none_sliding r q (suc k) sidings late)

pub late_slides : (plan : Plan) (s : State) (r : Rank) → slide_place < r.kind → None ≡ find (is_past r)
    (filter (is_allowed plan s) (slides_from 0 plan.sidings))
late_slides plan s r late = sym (none_sliding r (is_allowed plan s) 0 plan.sidings late)

-- Kinds that have a single move --

late_step : (p : Move → Bool) (b : Bool) (x : Move) (xs : List Move) → p x ≡ false → find p xs ≡ find p (cond b (x ∷ xs) xs)
late_step p true x xs e = rw e refl
late_step p false x xs e = refl

pub flag_late : (r : Rank) (q : Move → Bool) (mv : Move) (xs : List Move) → is_past r mv ≡ false →
    find (is_past r) (filter q xs) ≡ find (is_past r) (filter q (mv ∷ xs))
flag_late r q mv xs late = late_step (is_past r) (q mv) mv (filter q xs) late

-- no stage is left, if no move of the kind is past the rank
pub none_mapped : (p q : Move → Bool) (kind : ℕ → Move) (ks : List ℕ) → ((k : ℕ) → p (kind k) ≡ false) → find p (filter q (map kind ks)) ≡ None
none_mapped p q kind [] before = refl
none_mapped p q kind (k ∷ ks) before = none_step p q (q (kind k)) (kind k) (map kind ks) (before k) (none_mapped p q kind ks before)

pub none_parts : (p q : Move → Bool) (xs ys : List Move) → find p (filter q xs) ≡ None → find p (filter q ys) ≡ None → find p (filter q (xs ++ ys)) ≡ None
none_parts p q xs ys e f = rw (filter-append q xs ys) (found_second p (filter q xs) (filter q ys) e ∙ f)

-- The rank of a move --

-- what comes after its rank comes after the move, if the move is neither within the sidings nor an Issue
same_past : (last mv : Move) → 0 < kind_place last → kind_place last ≢ slide_place → is_past (rank_of last) mv ≡ stands_after last mv
same_past last mv some other = grind (arith, nat_tests)

same_find : (p q : Move → Bool) (xs : List Move) → ((mv : Move) → p mv ≡ q mv) → find p xs ≡ find q xs
same_find p q [] same = refl
same_find p q (x ∷ xs) same = rw (same x, same_find p q xs same) refl

pub found_past : (last : Move) (xs : List Move) → 0 < kind_place last → kind_place last ≢ slide_place →
    find (is_past (rank_of last)) xs ≡ find (stands_after last) xs
found_past last xs some other = same_find (is_past (rank_of last)) (stands_after last) xs (λ mv. same_past last mv some other)

pub found_rank : (r : Rank) (last : Move) (xs : List Move) (o : Option Move) → r ≡ rank_of last → 0 < kind_place last → kind_place last ≢ slide_place →
    o ≡ find (is_past r) xs → o ≡ find (stands_after last) xs
found_rank r last xs o stands some other e = e ∙ ap (λ (q : Rank). find (is_past q) xs) stands ∙ found_past last xs some other

-- what is found in the first part, or otherwise in the second
pub found_here : (p : Move → Bool) (xs ys : List Move) (o : Option Move) (mv : Move) → o ≡ find p xs → o ≡ Some mv → Some mv ≡ find p (xs ++ ys)
found_here p xs ys o mv e is = sym (found_first p xs ys mv (sym e ∙ is))

pub found_there : (p : Move → Bool) (xs ys : List Move) (o r : Option Move) → o ≡ find p xs → o ≡ None → r ≡ find p ys → r ≡ find p (xs ++ ys)
found_there p xs ys o r e is f = f ∙ sym (found_second p xs ys (sym e ∙ is))
