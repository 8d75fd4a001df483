-- A sweep, kind by kind.
use Rattle.std.proofs.Common.{◌≡◌, ◌≢◌, ◌∙◌, sym, refl, ap, subst, ℕ, suc, ◌+◌, ◌≤◌, ◌<◌, List, [], ◌∷◌, ◌++◌, length, map, Bool, true, false, cond, Option, Some, None, inl, inr, arith}
use Rattle.std.specs.List.{prefix_len}
use Rattle.std.specs.Prelude.{◌&&◌, ◌⊎◌, filter, find, not, slice_get}
use Rattle.std.proofs.Math.Bool.{and-true}
use Rattle.std.proofs.lemmas.Bool.Decides.{nat_tests}
use Rattle.std.proofs.lemmas.List.{append_assoc, length-map}
use Rattle.std.proofs.lemmas.List.Elements.{filter-append}
use Rattle.run_options.specs.declared.guess_rule.GuessRule.{GuessRule}
use Rattle.cf_layout.specs.Layout.{Plan}
use Rattle.cf_layout.specs.Words.{has_bit}
use Rattle.cf_bind.specs.declared.moves.Move.{Move}
use Rattle.cf_bind.specs.declared.moves.Move.TheVariants.{Emit, Climb, Fall, Meet, Execute, Send, Launch, Slide, Access, Recover, Leave, Exit, Serve}
use Rattle.cf_semantics.specs.moves.Candidates.{at_stages, counted_from, slides_from}
use Rattle.cf_semantics.specs.state.Options.{on}
use Rattle.cf_semantics.specs.state.State.{State}
use Rattle.cf_index.specs.declared.rank.Rank.{Rank}
use Rattle.cf_core.specs.Masks.{masks_of}
use Rattle.cf_core.specs.declared.masks.Masks.{Masks}
use Rattle.cf_index.specs.Allowed.{all_leaving, all_passing, allowed_others, execute_on, fall_on, is_allowed, launch_on, meet_on, passing_of, send_on, word_allowed}
use Rattle.cf_index.specs.Left.{AreLeft}
use Rattle.cf_index.specs.Listed.{at_word, slide_at, slides_of}
use Rattle.cf_index.specs.Order.{kind_place, passed_moves, place, slide_place, stands_after}
use Rattle.cf_index.specs.Places.{set_places}
use Rattle.cf_index.specs.Ranks.{is_past, rank_of}
use Rattle.cf_index.specs.declared.pipe_ends.AtTop.{AtTop}
use Rattle.cf_index.specs.declared.pipe_ends.AtTop.TheVariants as at
use Rattle.cf_index.specs.PickedFrom.{at_top, top_by, IsLast, IsPickedFrom, from_access, from_climb, from_emit, from_exit, from_fall, from_leave, from_meet, from_execute, from_recover, from_send, from_serve, from_launch, left_then, outward_on}
use Rattle.cf_index.proofs.AllowedWords.{climb-on}
use Rattle.cf_index.proofs.Filled.{stages_chosen}
use Rattle.cf_index.proofs.Firsts.{found_soon}
use Rattle.cf_index.proofs.FirstsAfter.{found_second}
use Rattle.cf_index.proofs.LeftStages.{left_all}
use Rattle.cf_index.proofs.Places.{places_zero}
use Rattle.cf_index.proofs.Ranks.{all_both, all_leaving_past, all_map, all_parts, all_slides, all_step, flag_late, found_past, late_slides, later, none_after, none_mapped, none_parts, sooner, word_gone, word_split}
use Rattle.cf_index.proofs.Rows.{recover-stages}

-- the moves from a kind on are those of that kind, followed by those from the next kind on
pub after_climbs : (plan : Plan) (s : State) → from_climb plan s ≡ at_word Climb (passing_of plan s).climb ++ from_fall plan s
unfolding from_climb from_fall
after_climbs plan s = append_assoc (at_word Climb (passing_of plan s).climb) (fall_on plan s) (outward_on plan s)

pub after_falls : (plan : Plan) (s : State) → from_fall plan s ≡ at_word Fall (passing_of plan s).fall ++ from_meet plan s
unfolding from_fall from_meet
after_falls plan s = append_assoc (at_word Fall (passing_of plan s).fall) (meet_on plan s) (outward_on plan s)

pub after_meets : (plan : Plan) (s : State) → from_meet plan s ≡ at_word Meet (passing_of plan s).meet ++ from_execute plan s
unfolding from_meet from_execute
after_meets plan s = append_assoc (at_word Meet (passing_of plan s).meet) (execute_on plan s) (outward_on plan s)

pub after_executes : (plan : Plan) (s : State) → from_execute plan s ≡ at_word Execute (passing_of plan s).execute ++ from_send plan s
unfolding from_execute from_send
after_executes plan s = append_assoc (at_word Execute (passing_of plan s).execute) (send_on plan s) (outward_on plan s)

pub after_sends : (plan : Plan) (s : State) → from_send plan s ≡ at_word Send (passing_of plan s).send ++ from_launch plan s
unfolding from_send from_launch
after_sends plan s = append_assoc (at_word Send (passing_of plan s).send) (launch_on plan s) (outward_on plan s)

pub after_launches : (plan : Plan) (s : State) → from_launch plan s ≡ at_word Launch (passing_of plan s).launch ++ outward_on plan s
unfolding from_launch
after_launches plan s = refl

-- the same, where the word of the kind is given
pub all_climbs : (plan : Plan) (s : State) (w : ℕ) → w ≡ (passing_of plan s).climb → left_then Climb w from_fall plan s ≡ from_climb plan s
all_climbs plan s w is = rw is (sym (after_climbs plan s))

pub all_falls : (plan : Plan) (s : State) (w : ℕ) → w ≡ (passing_of plan s).fall → left_then Fall w from_meet plan s ≡ from_fall plan s
all_falls plan s w is = rw is (sym (after_falls plan s))

pub all_meets : (plan : Plan) (s : State) (w : ℕ) → w ≡ (passing_of plan s).meet → left_then Meet w from_execute plan s ≡ from_meet plan s
all_meets plan s w is = rw is (sym (after_meets plan s))

pub all_executes : (plan : Plan) (s : State) (w : ℕ) → w ≡ (passing_of plan s).execute → left_then Execute w from_send plan s ≡ from_execute plan s
all_executes plan s w is = rw is (sym (after_executes plan s))

pub all_sends : (plan : Plan) (s : State) (w : ℕ) → w ≡ (passing_of plan s).send → left_then Send w from_launch plan s ≡ from_send plan s
all_sends plan s w is = rw is (sym (after_sends plan s))

pub all_launches : (plan : Plan) (s : State) (w : ℕ) → w ≡ (passing_of plan s).launch → left_then Launch w outward_on plan s ≡ from_launch plan s
all_launches plan s w is = rw is (sym (after_launches plan s))

pub ruleset listing = (left_all, all_climbs, all_falls, all_meets, all_executes, all_sends, all_launches)

-- Emit comes before all of them, if it is allowed
pub emit_here : (plan : Plan) (s : State) → is_allowed plan s Emit ≡ true → slice_get (from_emit plan s) 0 ≡ Some Emit
unfolding from_emit
emit_here plan s free = rw free refl

pub emit_off : (plan : Plan) (s : State) → is_allowed plan s Emit ≡ false → from_climb plan s ≡ from_emit plan s
unfolding from_emit
emit_off plan s barred = rw barred refl

pub ruleset emitting = (emit_here, emit_off)

-- Past a rank --

late_part : (p : Move → Bool) (b : Bool) (xs : List Move) → p Emit ≡ false → find p xs ≡ find p (cond b (Emit ∷ []) [] ++ xs)
late_part p true xs off = rw off refl
late_part p false xs off = refl

-- past a rank of a later kind no move of the word is left
word_late : (r : Rank) (kind : ℕ → Move) (w : ℕ) (ys : List Move) → ((k : ℕ) → kind_place (kind (k + 1)) < r.kind) →
    find (is_past r) ys ≡ find (is_past r) (at_word kind w ++ ys)
word_late r kind w ys late = word_gone r kind w 0 ys (λ k. none_after r kind w k (late k)) (sym (rw (places_zero 64) refl))

-- Emit comes only after an Issue, so what comes after any other move is among the moves after Emit
not_emit : (last : Move) → 1 ≤ kind_place last → stands_after last Emit ≡ false
not_emit last some = grind (arith, nat_tests)

pub without_emit : (plan : Plan) (s : State) (last : Move) → 1 ≤ kind_place last →
    find (stands_after last) (filter (is_allowed plan s) (all_passing plan) ++ outward_on plan s) ≡ find (stands_after last) (allowed_others plan s)
without_emit plan s last some = late_part (stands_after last) (is_allowed plan s Emit) _ (not_emit last some)

pub last_so : (plan : Plan) (s : State) (last : Move) → 1 ≤ kind_place last →
    find (stands_after last) (filter (is_allowed plan s) (all_passing plan) ++ outward_on plan s) ≡ None → IsLast plan s (Some last)
unfolding IsLast
last_so plan s last some none = sym (without_emit plan s last some) ∙ none

pub last_is : (plan : Plan) (s : State) (last : Move) → 1 ≤ kind_place last → IsLast plan s (Some last) →
    find (stands_after last) (filter (is_allowed plan s) (all_passing plan) ++ outward_on plan s) ≡ None
unfolding IsLast
last_is plan s last some none = without_emit plan s last some ∙ none

-- the first of these is the first of them past a rank
abbrev FirstPast : Rank → List Move → Type 0
FirstPast r xs = find (is_past r) xs ≡ slice_get xs 0

-- of the moves of a word, those past a rank are those of another one; so the first past it is the first of these
first_of_word : (f : ℕ → Move) (ks : List ℕ) (ys : List Move) → slice_get (map f ks ++ ys) 0 ≡ on (slice_get ks 0) (slice_get ys 0) (λ k. Some (f k))
first_of_word f [] ys = refl
first_of_word f (k ∷ ks) ys = refl

first_left : (r : Rank) (kind : ℕ → Move) (w v : ℕ) (ys : List Move) → ((k : ℕ) → has_bit v k ≡ (has_bit w k && is_past r (kind (k + 1)))) →
    FirstPast r ys → find (is_past r) (at_word kind w ++ ys) ≡ slice_get (at_word kind v ++ ys) 0
unfolding at_word
first_left r kind w v ys is rest =
    word_split r kind w v ys is ∙ ap (λ (o : Option Move). on (slice_get (set_places 64 v) 0) o (λ k. Some (kind (k + 1)))) rest
    ∙ sym (first_of_word (λ k. kind (k + 1)) (set_places 64 v) ys)

-- of the kinds after that of the rank, the first move is the first past it
word_later : (r : Rank) (kind : ℕ → Move) (w : ℕ) (ys : List Move) → ((k : ℕ) → r.kind < kind_place (kind (k + 1))) → FirstPast r ys →
    FirstPast r (at_word kind w ++ ys)
word_later r kind w ys after rest =
    first_left r kind w w ys (λ k. rw (later r (kind (k + 1)) (after k)) (sym (and-true (has_bit w k)))) rest

outward_later : (plan : Plan) (s : State) (r : Rank) → r.kind < slide_place → FirstPast r (outward_on plan s)
outward_later plan s r early =
    let q = is_allowed plan s in
    all_both (is_past r) (filter q (slides_from 0 plan.sidings)) (filter q (all_leaving plan)) (all_slides r q 0 plan.sidings early)
    (all_leaving_past (is_past r) q plan (λ mv after. later r mv (omega (arith, early, after))))

launches_later : (plan : Plan) (s : State) (r : Rank) → r.kind < 7 → FirstPast r (from_launch plan s)
launches_later plan s r early = subst (FirstPast r) (sym (after_launches plan s))
    (word_later r Launch (passing_of plan s).launch (outward_on plan s) (λ k. early) (outward_later plan s r (omega (arith, early))))

sends_later : (plan : Plan) (s : State) (r : Rank) → r.kind < 6 → FirstPast r (from_send plan s)
sends_later plan s r early = subst (FirstPast r) (sym (after_sends plan s))
    (word_later r Send (passing_of plan s).send (from_launch plan s) (λ k. early) (launches_later plan s r (omega (arith, early))))

executes_later : (plan : Plan) (s : State) (r : Rank) → r.kind < 5 → FirstPast r (from_execute plan s)
executes_later plan s r early = subst (FirstPast r) (sym (after_executes plan s))
    (word_later r Execute (passing_of plan s).execute (from_send plan s) (λ k. early) (sends_later plan s r (omega (arith, early))))

meets_later : (plan : Plan) (s : State) (r : Rank) → r.kind < 4 → FirstPast r (from_meet plan s)
meets_later plan s r early = subst (FirstPast r) (sym (after_meets plan s))
    (word_later r Meet (passing_of plan s).meet (from_execute plan s) (λ k. early) (executes_later plan s r (omega (arith, early))))

falls_later : (plan : Plan) (s : State) (r : Rank) → r.kind < 3 → FirstPast r (from_fall plan s)
falls_later plan s r early = subst (FirstPast r) (sym (after_falls plan s))
    (word_later r Fall (passing_of plan s).fall (from_meet plan s) (λ k. early) (meets_later plan s r (omega (arith, early))))

climbs_later : (plan : Plan) (s : State) (r : Rank) → r.kind < 2 → FirstPast r (from_climb plan s)
climbs_later plan s r early = subst (FirstPast r) (sym (after_climbs plan s))
    (word_later r Climb (passing_of plan s).climb (from_fall plan s) (λ k. early) (falls_later plan s r (omega (arith, early))))

serve_later : (plan : Plan) (s : State) (r : Rank) → r.kind < 13 → FirstPast r (from_serve plan s)
unfolding from_serve
serve_later plan s r early = all_step (is_past r) (is_allowed plan s Serve) Serve [] (later r Serve early) refl

exit_later : (plan : Plan) (s : State) (r : Rank) → r.kind < 12 → FirstPast r (from_exit plan s)
unfolding from_exit from_serve
exit_later plan s r early = all_step (is_past r) (is_allowed plan s Exit) Exit _ (later r Exit early) (serve_later plan s r (omega (arith, early)))

leave_later : (plan : Plan) (s : State) (r : Rank) → r.kind < 11 → FirstPast r (from_leave plan s)
unfolding from_leave from_exit
leave_later plan s r early = all_step (is_past r) (is_allowed plan s Leave) Leave _ (later r Leave early) (exit_later plan s r (omega (arith, early)))

recovers_later : (plan : Plan) (s : State) (r : Rank) → r.kind < 10 → FirstPast r (from_recover plan s)
unfolding from_recover from_leave
recovers_later plan s r early =
    let q = is_allowed plan s in
    all_parts (is_past r) q (at_stages plan Recover) (Leave ∷ Exit ∷ Serve ∷ [])
    (all_map (is_past r) q Recover (counted_from 1 plan.stages) (λ k. later r (Recover k) early)) (leave_later plan s r (omega (arith, early)))

-- After a move --

-- after a move that is neither within the sidings nor an Issue, these moves are picked from, if their first is the first past its rank
picked_after : (rule : GuessRule) (held : Bool) (plan : Plan) (s : State) (last : Move) (moves : List Move) → plan.stages ≤ 32 → 1 ≤ kind_place last →
    kind_place last ≢ slide_place → find (is_past (rank_of last)) (from_climb plan s) ≡ slice_get moves 0 →
    IsPickedFrom rule held plan s (Some last) moves
unfolding IsPickedFrom from_climb
picked_after rule held plan s last moves few some other first =
    let others = filter (is_allowed plan s) (all_passing plan) ++ outward_on plan s in
    let same : slice_get moves 0 ≡ find (stands_after last) others =
    sym first ∙ ap (λ (xs : List Move). find (is_past (rank_of last)) (xs ++ outward_on plan s)) (climb-on plan s few) ∙ found_past last others some other in
    record {
      here = λ mv found. sym (found_soon rule plan s last mv held (find (stands_after last) others) some refl (sym same ∙ found));
      gone = λ none. last_so plan s last some (sym same ∙ ap (λ (xs : List Move). slice_get xs 0) none);
    }

-- so they are if they are what is left of the kind of the move, and the kinds after it
left_picked : (rule : GuessRule) (held : Bool) (plan : Plan) (s : State) (last : Move) (kind : ℕ → Move) (w v : ℕ) (from beyond : List Move) →
    plan.stages ≤ 32 → 1 ≤ kind_place last → kind_place last ≢ slide_place →
    find (is_past (rank_of last)) from ≡ find (is_past (rank_of last)) (from_climb plan s) → from ≡ at_word kind w ++ beyond →
    ((k : ℕ) → has_bit v k ≡ (has_bit w k && is_past (rank_of last) (kind (k + 1)))) → FirstPast (rank_of last) beyond →
    IsPickedFrom rule held plan s (Some last) (at_word kind v ++ beyond)
left_picked rule held plan s last kind w v from beyond few some other same parts is rest =
    picked_after rule held plan s last (at_word kind v ++ beyond) few some other
    (sym same ∙ ap (find (is_past (rank_of last))) parts ∙ first_left (rank_of last) kind w v beyond is rest)

-- the same is picked from a list that is the same
pub picked_on : (rule : GuessRule) (held : Bool) (plan : Plan) (s : State) (last : Option Move) (xs ys : List Move) →
    ys ≡ xs → IsPickedFrom rule held plan s last xs → IsPickedFrom rule held plan s last ys
picked_on rule held plan s last xs ys same picked = subst (IsPickedFrom rule held plan s last) (sym same) picked

pub emitted_on : (rule : GuessRule) (held : Bool) (plan : Plan) (s : State) → plan.stages ≤ 32 → IsPickedFrom rule held plan s (Some Emit) (from_climb plan s)
emitted_on rule held plan s few =
    picked_after rule held plan s Emit (from_climb plan s) few (omega arith) (λ e. absurd (omega (arith, e))) (climbs_later plan s (rank_of Emit) (omega arith))

pub climbed_on : (rule : GuessRule) (held : Bool) (plan : Plan) (s : State) (i w : ℕ) → plan.stages ≤ 32 → AreLeft plan s i Climb w →
    IsPickedFrom rule held plan s (Some (Climb i)) (left_then Climb w from_fall plan s)
unfolding AreLeft passing_of
climbed_on rule held plan s i w few left =
    left_picked rule held plan s (Climb i) Climb (passing_of plan s).climb w (from_climb plan s) (from_fall plan s) few (omega arith)
    (λ e. absurd (omega (arith, e))) refl (after_climbs plan s) left (falls_later plan s (rank_of (Climb i)) (omega arith))

past_climbs : (plan : Plan) (s : State) (r : Rank) → 2 < r.kind → find (is_past r) (from_fall plan s) ≡ find (is_past r) (from_climb plan s)
past_climbs plan s r late =
    word_late r Climb (passing_of plan s).climb (from_fall plan s) (λ k. late) ∙ ap (find (is_past r)) (sym (after_climbs plan s))

past_falls : (plan : Plan) (s : State) (r : Rank) → 3 < r.kind → find (is_past r) (from_meet plan s) ≡ find (is_past r) (from_fall plan s)
past_falls plan s r late =
    word_late r Fall (passing_of plan s).fall (from_meet plan s) (λ k. late) ∙ ap (find (is_past r)) (sym (after_falls plan s))

pub fallen_on : (rule : GuessRule) (held : Bool) (plan : Plan) (s : State) (i w : ℕ) → plan.stages ≤ 32 → AreLeft plan s i Fall w →
    IsPickedFrom rule held plan s (Some (Fall i)) (left_then Fall w from_meet plan s)
unfolding AreLeft passing_of
fallen_on rule held plan s i w few left =
    left_picked rule held plan s (Fall i) Fall (passing_of plan s).fall w (from_fall plan s) (from_meet plan s) few (omega arith)
    (λ e. absurd (omega (arith, e))) (past_climbs plan s (rank_of (Fall i)) (omega arith)) (after_falls plan s) left
    (meets_later plan s (rank_of (Fall i)) (omega arith))

pub met_on : (rule : GuessRule) (held : Bool) (plan : Plan) (s : State) (i w : ℕ) → plan.stages ≤ 32 → AreLeft plan s i Meet w →
    IsPickedFrom rule held plan s (Some (Meet i)) (left_then Meet w from_execute plan s)
unfolding AreLeft passing_of
met_on rule held plan s i w few left =
    left_picked rule held plan s (Meet i) Meet (passing_of plan s).meet w (from_meet plan s) (from_execute plan s) few (omega arith)
    (λ e. absurd (omega (arith, e)))
    (past_falls plan s (rank_of (Meet i)) (omega arith) ∙ past_climbs plan s (rank_of (Meet i)) (omega arith)) (after_meets plan s) left
    (executes_later plan s (rank_of (Meet i)) (omega arith))

past_meets : (plan : Plan) (s : State) (r : Rank) → 4 < r.kind → find (is_past r) (from_execute plan s) ≡ find (is_past r) (from_climb plan s)
past_meets plan s r late =
    word_late r Meet (passing_of plan s).meet (from_execute plan s) (λ k. late) ∙ ap (find (is_past r)) (sym (after_meets plan s))
    ∙ past_falls plan s r (omega arith) ∙ past_climbs plan s r (omega arith)

past_executes : (plan : Plan) (s : State) (r : Rank) → 5 < r.kind → find (is_past r) (from_send plan s) ≡ find (is_past r) (from_climb plan s)
past_executes plan s r late =
    word_late r Execute (passing_of plan s).execute (from_send plan s) (λ k. late) ∙ ap (find (is_past r)) (sym (after_executes plan s))
    ∙ past_meets plan s r (omega arith)

past_sends : (plan : Plan) (s : State) (r : Rank) → 6 < r.kind → find (is_past r) (from_launch plan s) ≡ find (is_past r) (from_climb plan s)
past_sends plan s r late =
    word_late r Send (passing_of plan s).send (from_launch plan s) (λ k. late) ∙ ap (find (is_past r)) (sym (after_sends plan s))
    ∙ past_executes plan s r (omega arith)

pub executed_on : (rule : GuessRule) (held : Bool) (plan : Plan) (s : State) (i w : ℕ) → plan.stages ≤ 32 → AreLeft plan s i Execute w →
    IsPickedFrom rule held plan s (Some (Execute i)) (left_then Execute w from_send plan s)
unfolding AreLeft passing_of
executed_on rule held plan s i w few left =
    left_picked rule held plan s (Execute i) Execute (passing_of plan s).execute w (from_execute plan s) (from_send plan s) few (omega arith)
    (λ e. absurd (omega (arith, e))) (past_meets plan s (rank_of (Execute i)) (omega arith)) (after_executes plan s) left
    (sends_later plan s (rank_of (Execute i)) (omega arith))

pub sent_on : (rule : GuessRule) (held : Bool) (plan : Plan) (s : State) (i w : ℕ) → plan.stages ≤ 32 → AreLeft plan s i Send w →
    IsPickedFrom rule held plan s (Some (Send i)) (left_then Send w from_launch plan s)
unfolding AreLeft passing_of
sent_on rule held plan s i w few left =
    left_picked rule held plan s (Send i) Send (passing_of plan s).send w (from_send plan s) (from_launch plan s) few (omega arith)
    (λ e. absurd (omega (arith, e))) (past_executes plan s (rank_of (Send i)) (omega arith)) (after_sends plan s) left
    (launches_later plan s (rank_of (Send i)) (omega arith))

pub launched_on : (rule : GuessRule) (held : Bool) (plan : Plan) (s : State) (i w : ℕ) → plan.stages ≤ 32 → AreLeft plan s i Launch w →
    IsPickedFrom rule held plan s (Some (Launch i)) (left_then Launch w outward_on plan s)
unfolding AreLeft passing_of
launched_on rule held plan s i w few left =
    left_picked rule held plan s (Launch i) Launch (passing_of plan s).launch w (from_launch plan s) (outward_on plan s) few (omega arith)
    (λ e. absurd (omega (arith, e))) (past_sends plan s (rank_of (Launch i)) (omega arith)) (after_launches plan s) left
    (outward_later plan s (rank_of (Launch i)) (omega arith))

-- By which something leaves --

past_launches : (plan : Plan) (s : State) (r : Rank) → 7 < r.kind → find (is_past r) (outward_on plan s) ≡ find (is_past r) (from_climb plan s)
past_launches plan s r late =
    word_late r Launch (passing_of plan s).launch (outward_on plan s) (λ k. late) ∙ ap (find (is_past r)) (sym (after_launches plan s))
    ∙ past_sends plan s r (omega arith)

past_slides : (plan : Plan) (s : State) (r : Rank) → slide_place < r.kind → find (is_past r) (from_access plan s) ≡ find (is_past r) (from_climb plan s)
unfolding from_access
past_slides plan s r late =
    sym (found_second (is_past r) (filter (is_allowed plan s) (slides_from 0 plan.sidings)) (filter (is_allowed plan s) (all_leaving plan))
    (sym (late_slides plan s r late)))
    ∙ past_launches plan s r (omega arith)

past_access : (plan : Plan) (s : State) (r : Rank) → 9 ≤ r.kind → find (is_past r) (from_recover plan s) ≡ find (is_past r) (from_climb plan s)
unfolding from_access from_recover
past_access plan s r late =
    flag_late r (is_allowed plan s) Access _ (before r Access late) ∙ past_slides plan s r (omega (arith, late))
  where
    before : (r : Rank) (mv : Move) → 9 ≤ r.kind → is_past r Access ≡ false
    before r mv late = grind (arith, nat_tests)

past_recovers : (plan : Plan) (s : State) (r : Rank) → 11 ≤ r.kind → find (is_past r) (from_leave plan s) ≡ find (is_past r) (from_climb plan s)
unfolding from_leave from_recover
past_recovers plan s r late =
    let q = is_allowed plan s in
    let ends = Leave ∷ Exit ∷ Serve ∷ [] in
    sym (ap (find (is_past r)) (filter-append q (at_stages plan Recover) ends) ∙ found_second (is_past r) (filter q (at_stages plan Recover)) (filter q ends)
    (none_mapped (is_past r) q Recover (counted_from 1 plan.stages) (λ k. sooner r (Recover k) (omega (arith, late)))))
    ∙ past_access plan s r (omega (arith, late))

not_past : (r : Rank) (mv : Move) → kind_place mv ≤ r.kind → place mv ≤ r.place → is_past r mv ≡ false
not_past r mv late at = grind (arith, nat_tests)

past_leave : (plan : Plan) (s : State) (r : Rank) → 11 ≤ r.kind → find (is_past r) (from_exit plan s) ≡ find (is_past r) (from_climb plan s)
unfolding from_leave from_exit
past_leave plan s r late =
    flag_late r (is_allowed plan s) Leave (Exit ∷ Serve ∷ []) (not_past r Leave late (omega arith)) ∙ past_recovers plan s r late

past_exit : (plan : Plan) (s : State) (r : Rank) → 12 ≤ r.kind → find (is_past r) (from_serve plan s) ≡ find (is_past r) (from_climb plan s)
unfolding from_exit from_serve
past_exit plan s r late =
    flag_late r (is_allowed plan s) Exit (Serve ∷ []) (not_past r Exit late (omega arith)) ∙ past_leave plan s r (omega (arith, late))

pub accessed_on : (rule : GuessRule) (held : Bool) (plan : Plan) (s : State) → plan.stages ≤ 32 →
    IsPickedFrom rule held plan s (Some Access) (from_recover plan s)
accessed_on rule held plan s few =
    picked_after rule held plan s Access (from_recover plan s) few (omega arith) (λ e. absurd (omega (arith, e)))
    (sym (past_access plan s (rank_of Access) (omega arith)) ∙ recovers_later plan s (rank_of Access) (omega arith))

pub left_on : (rule : GuessRule) (held : Bool) (plan : Plan) (s : State) → plan.stages ≤ 32 →
    IsPickedFrom rule held plan s (Some Leave) (from_exit plan s)
left_on rule held plan s few =
    picked_after rule held plan s Leave (from_exit plan s) few (omega arith) (λ e. absurd (omega (arith, e)))
    (sym (past_leave plan s (rank_of Leave) (omega arith)) ∙ exit_later plan s (rank_of Leave) (omega arith))

pub exited_on : (rule : GuessRule) (held : Bool) (plan : Plan) (s : State) → plan.stages ≤ 32 →
    IsPickedFrom rule held plan s (Some Exit) (from_serve plan s)
exited_on rule held plan s few =
    picked_after rule held plan s Exit (from_serve plan s) few (omega arith) (λ e. absurd (omega (arith, e)))
    (sym (past_exit plan s (rank_of Exit) (omega arith)) ∙ serve_later plan s (rank_of Exit) (omega arith))

-- of each kind that has one move, that move if it is allowed, and otherwise the kinds after it
pub access_here : (plan : Plan) (s : State) → is_allowed plan s Access ≡ true → slice_get (from_access plan s) 0 ≡ Some Access
unfolding from_access
access_here plan s free = rw free refl

pub access_off : (plan : Plan) (s : State) → is_allowed plan s Access ≡ false → from_recover plan s ≡ from_access plan s
unfolding from_access from_recover
access_off plan s barred = rw barred refl

pub ruleset accessing = (access_here, access_off)

leave_here : (plan : Plan) (s : State) → is_allowed plan s Leave ≡ true → slice_get (from_leave plan s) 0 ≡ Some Leave
unfolding from_leave
leave_here plan s free = rw free refl

leave_off : (plan : Plan) (s : State) → is_allowed plan s Leave ≡ false → from_exit plan s ≡ from_leave plan s
unfolding from_leave from_exit
leave_off plan s barred = rw barred refl

pub exit_here : (plan : Plan) (s : State) → is_allowed plan s Exit ≡ true → slice_get (from_exit plan s) 0 ≡ Some Exit
unfolding from_exit
exit_here plan s free = rw free refl

pub exit_off : (plan : Plan) (s : State) → is_allowed plan s Exit ≡ false → from_serve plan s ≡ from_exit plan s
unfolding from_exit from_serve
exit_off plan s barred = rw barred refl

pub ruleset exiting = (exit_here, exit_off)

-- which is the first follows from what the instruction of the highest stage can do
leaves_by : (leaves serves : Bool) → top_by leaves serves ≡ at.Leaves → leaves ≡ true
leaves_by true serves e = refl
leaves_by false true e = absurd (cc)
leaves_by false false e = absurd (cc)

serves_by : (leaves serves : Bool) → top_by leaves serves ≡ at.Serves → leaves ≡ false
serves_by true serves e = absurd (cc)
serves_by false serves e = refl

stays_by : (leaves serves : Bool) → top_by leaves serves ≡ at.Stays → (leaves ≡ false) × (serves ≡ false)
stays_by true serves e = absurd (cc)
stays_by false true e = absurd (cc)
stays_by false false e = (refl, refl)

pub top_leaves : (plan : Plan) (s : State) → at_top plan s ≡ at.Leaves → slice_get (from_leave plan s) 0 ≡ Some Leave
top_leaves plan s e = leave_here plan s (leaves_by (is_allowed plan s Leave) (is_allowed plan s Serve) e)

pub top_rests : (plan : Plan) (s : State) (top : AtTop) → top ≡ at_top plan s → (top ≡ at.Serves) ⊎ (top ≡ at.Stays) →
    (from_exit plan s ≡ from_leave plan s) × (top ≢ at.Serves → is_allowed plan s Serve ≡ false)
top_rests plan s top is (inl e) =
    (leave_off plan s (serves_by (is_allowed plan s Leave) (is_allowed plan s Serve) (sym is ∙ e)), λ other. absurd (other e))
top_rests plan s top is (inr e) =
    let off = stays_by (is_allowed plan s Leave) (is_allowed plan s Serve) (sym is ∙ e) in (leave_off plan s off.0, λ other. off.1)

-- if Serve is barred too, none is left
pub serve_off : (plan : Plan) (s : State) → is_allowed plan s Serve ≡ false → from_serve plan s ≡ []
unfolding from_serve
serve_off plan s barred = rw barred refl

-- the Recovers, and the moves of the kinds after them
pub after_recovers : (plan : Plan) (s : State) (m : Masks) → plan.stages ≤ 32 → m ≡ masks_of plan s →
    from_recover plan s ≡ at_word Recover m.recover ++ from_leave plan s
unfolding from_recover from_leave
after_recovers plan s m few is =
    let q = is_allowed plan s in
    filter-append q (at_stages plan Recover) (Leave ∷ Exit ∷ Serve ∷ [])
    ∙ ap (λ (l : List Move). l ++ filter q (Leave ∷ Exit ∷ Serve ∷ [])) (sym (stages_chosen plan s Recover m.recover few (recover-stages plan s m is)))

pub all_recovers : (plan : Plan) (s : State) (m : Masks) → plan.stages ≤ 32 → m ≡ masks_of plan s →
    left_then Recover m.recover from_leave plan s ≡ from_recover plan s
all_recovers plan s m few is = sym (after_recovers plan s m few is)

pub recovered_on : (rule : GuessRule) (held : Bool) (plan : Plan) (s : State) (i w : ℕ) → plan.stages ≤ 32 → AreLeft plan s i Recover w →
    IsPickedFrom rule held plan s (Some (Recover i)) (left_then Recover w from_leave plan s)
unfolding AreLeft masks_of
recovered_on rule held plan s i w few left =
    left_picked rule held plan s (Recover i) Recover (word_allowed plan s Recover) w (from_recover plan s) (from_leave plan s) few (omega arith)
    (λ e. absurd (omega (arith, e))) (past_access plan s (rank_of (Recover i)) (omega arith)) (after_recovers plan s (masks_of plan s) few refl) left
    (leave_later plan s (rank_of (Recover i)) (omega arith))

-- Within the sidings --

-- the first of the allowed ones, and what follows if there is none
first_part : (xs ys : List Move) (mv : Move) → slice_get xs 0 ≡ Some mv → slice_get (xs ++ ys) 0 ≡ Some mv
first_part [] ys mv e = absurd (cc)
first_part (x ∷ xs) ys mv e = e

no_part : (xs ys : List Move) → slice_get xs 0 ≡ None → ys ≡ xs ++ ys
no_part [] ys e = refl
no_part (x ∷ xs) ys e = absurd (cc)

pub slide_here : (plan : Plan) (s : State) (w : ℕ) (o : Option Move) (mv : Move) → slides_of w ≡ filter (is_allowed plan s) (slides_from 0 plan.sidings) →
    o ≡ slice_get (slides_of w) 0 → o ≡ Some mv → slice_get (outward_on plan s) 0 ≡ Some mv
slide_here plan s w o mv is e at =
    first_part (filter (is_allowed plan s) (slides_from 0 plan.sidings)) (filter (is_allowed plan s) (all_leaving plan)) mv
    (ap (λ (xs : List Move). slice_get xs 0) (sym is) ∙ sym e ∙ at)

pub slide_gone : (plan : Plan) (s : State) (w : ℕ) (o : Option Move) → slides_of w ≡ filter (is_allowed plan s) (slides_from 0 plan.sidings) →
    o ≡ slice_get (slides_of w) 0 → o ≡ None → from_access plan s ≡ outward_on plan s
unfolding from_access
slide_gone plan s w o is e none =
    no_part (filter (is_allowed plan s) (slides_from 0 plan.sidings)) (filter (is_allowed plan s) (all_leaving plan))
    (ap (λ (xs : List Move). slice_get xs 0) (sym is) ∙ sym e ∙ none)

-- no move over the stages comes after a Slide
none_passing : (plan : Plan) (q : Move → Bool) (k c : ℕ) → find (stands_after (Slide k c)) (filter q (all_passing plan)) ≡ None
none_passing plan q k c =
    let p = stands_after (Slide k c) in
    let stages = counted_from 1 plan.stages in
    none_parts p q _ _ (none_mapped p q Climb stages (λ i. refl)) (
    none_parts p q _ _ (none_mapped p q Fall stages (λ i. refl)) (
    none_parts p q _ _ (none_mapped p q Meet stages (λ i. refl)) (
    none_parts p q _ _ (none_mapped p q Execute stages (λ i. refl)) (
    none_parts p q _ _ (none_mapped p q Send stages (λ i. refl)) (none_mapped p q Launch stages (λ i. refl))))))

-- if all moves of a list are passed, none comes after
beyond_step : (p : Move → Bool) (b : Bool) (x : Move) (xs : List Move) → p x ≡ b → suc (length xs) ≤ prefix_len (λ mv. not (p mv)) (x ∷ xs) →
    (length xs ≤ prefix_len (λ mv. not (p mv)) xs → find p xs ≡ None) → find p (x ∷ xs) ≡ None
beyond_step p true x xs e all rest = absurd (let none : prefix_len (λ mv. not (p mv)) (x ∷ xs) ≡ 0 = rw e refl in omega (arith, all, none))
beyond_step p false x xs e all rest =
    let one : prefix_len (λ mv. not (p mv)) (x ∷ xs) ≡ 1 + prefix_len (λ mv. not (p mv)) xs = rw e refl in
    rw e (rest (omega (arith, all, one)))

none_beyond : (p : Move → Bool) (xs : List Move) → length xs ≤ prefix_len (λ mv. not (p mv)) xs → find p xs ≡ None
none_beyond p [] all = refl
none_beyond p (x ∷ xs) all = beyond_step p (p x) x xs refl all (none_beyond p xs)

-- after the last Slide the first move by which something leaves is picked
slide_picked : (rule : GuessRule) (held : Bool) (plan : Plan) (s : State) (k c : ℕ) →
    find (stands_after (Slide k c)) (filter (is_allowed plan s) (slides_from 0 plan.sidings)) ≡ None →
    IsPickedFrom rule held plan s (Some (Slide k c)) (from_access plan s)
unfolding IsPickedFrom from_access
slide_picked rule held plan s k c none =
    let q = is_allowed plan s in
    let p = stands_after (Slide k c) in
    let leaves = filter q (all_leaving plan) in
    let after : find p leaves ≡ slice_get leaves 0 = all_leaving_past p q plan (λ mv after. after_slide mv after) in
    let same : find p (filter q (all_passing plan) ++ outward_on plan s) ≡ slice_get leaves 0 =
    found_second p (filter q (all_passing plan)) (outward_on plan s) (none_passing plan q k c)
    ∙ found_second p (filter q (slides_from 0 plan.sidings)) leaves none ∙ after in
    record {
      here = λ mv found. sym (found_soon rule plan s (Slide k c) mv held (slice_get leaves 0) (omega arith) (sym same) found);
      gone = λ found. last_so plan s (Slide k c) (omega arith) (same ∙ ap (λ (xs : List Move). slice_get xs 0) found);
    }
  where
    after_slide : (mv : Move) → slide_place < kind_place mv → stands_after (Slide k c) mv ≡ true
    after_slide mv after = grind (arith, nat_tests)

pub slid_on : (rule : GuessRule) (held : Bool) (plan : Plan) (s : State) (w k c n m : ℕ) →
    slides_of w ≡ filter (is_allowed plan s) (slides_from 0 plan.sidings) → n ≡ passed_moves (Slide k c) (slides_of w) → m ≡ length (set_places 64 w) → m ≤ n →
    IsPickedFrom rule held plan s (Some (Slide k c)) (from_access plan s)
unfolding passed_moves slides_of
slid_on rule held plan s w k c n m is before all few =
    let whole : length (map slide_at (set_places 64 w)) ≡ length (set_places 64 w) = length-map (set_places 64 w) slide_at in
    slide_picked rule held plan s k c (ap (find (stands_after (Slide k c))) (sym is)
    ∙ none_beyond (stands_after (Slide k c)) (map slide_at (set_places 64 w)) (omega (arith, before, all, few, whole)))

-- Two words --

-- words with the same bits list the same moves
same_filter : (p q : ℕ → Bool) (ks : List ℕ) → ((k : ℕ) → p k ≡ q k) → filter p ks ≡ filter q ks
same_filter p q [] same = refl
same_filter p q (k ∷ ks) same = rw (same k, same_filter p q ks same) refl

pub same_listed : (kind : ℕ → Move) (v w : ℕ) → ((k : ℕ) → has_bit v k ≡ has_bit w k) → at_word kind v ≡ at_word kind w
unfolding at_word set_places
same_listed kind v w same = ap (map (λ k. kind (k + 1))) (same_filter (has_bit v) (has_bit w) (counted_from 0 64) same)
