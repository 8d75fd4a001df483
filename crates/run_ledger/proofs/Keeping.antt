-- A ledger that has recorded the moves of a run knows what its time consists of.
use Rattle.std.proofs.Common.{◌≡◌, ◌∙◌, refl, sym, ap, subst, ℕ, zero, suc, ◌+◌, ◌-◌, ◌*◌, ◌^◌, ◌<◌, ◌≤◌, List, [], ◌∷◌, ◌++◌, length, map}
use Rattle.std.proofs.Common.{Bool, true, false, cond, nat_eq, arith, append-nil, append_assoc}
use Rattle.std.specs.Prelude.{replicate, ◌&&◌}
use Rattle.std.specs.List.{AllByRecursion}
use Rattle.std.proofs.lemmas.List.{length-append}
use Rattle.cf_layout.specs.Layout.{Plan}
use Rattle.cf_bind.specs.declared.moves.Move.{Move}
use Rattle.cf_semantics.specs.moves.Candidates.{counted_from}
use Rattle.cf_semantics.specs.moves.Sites.{Site, among}
use Rattle.cf_index.specs.Sites.{shares, used, uses_place}
use Rattle.cf_timed.specs.Chains.{sum_of_delays}
use Rattle.cf_timed.specs.declared.timed_move.TimedMove.{TimedMove}
use Rattle.cf_timed.specs.Times.{DelayedMove, done_after, greatest_time, finish_after, moves_with_times}
use Rattle.cf_timed.specs.Clocks.{AreKept, IsKept}
use Rattle.cf_timed.proofs.Chaining.{always}
use Rattle.cf_timed.proofs.Following.{no_later}
use Rattle.cf_timed.specs.Arrivals.{greatest_where}
use Rattle.cf_timed.proofs.Delaying.{kept_time}
use Rattle.run_ledger.specs.Breakdowns.{busy, chain_to, is_last, kind_counts, leads_to, longest_chain, of_kind}
use Rattle.run_ledger.specs.Using.{uses_siding, uses_stage}
use Rattle.run_ledger.specs.Ledgers.{charged, followed, later, latest_of, chain_mark_at, mark_of, no_chain_mark, ledger_noted, noted_all}
use Rattle.run_ledger.specs.Ledgers.{one_more, new_ledger, place_number, place_numbers, plus, plus_if, put_marks}
use Rattle.run_ledger.specs.declared.ledger.Ledger.{Ledger}
use Rattle.run_ledger.specs.declared.mark.ChainMark.{ChainMark}
use Rattle.run_ledger.proofs.Growing.{AreShort, busy_few, busy_more, chain_few, grows, kinds_more, times_few, times_length, times_more, times_none}
use Rattle.run_ledger.proofs.Laters.{later_new, later_none}
use Rattle.run_ledger.proofs.Latests.{latest_any, latest_kinds, latest_never, latest_number, latest_time, latest_where, mark_after, mark_if}
use Rattle.run_ledger.proofs.Marked.{marks_put, put_size}
use Rattle.run_ledger.proofs.Numbered.{charged_numbered}

-- the finished moves that use the site
abbrev pub at_place : Plan → Site → TimedMove → Bool
at_place plan x done = uses_place plan done.mv x

-- every move
abbrev pub any_move : TimedMove → Bool
any_move done = true

-- the ledger has recorded the moves of a run
pub record Keeps (plan : Plan) (moves : List DelayedMove) (l : Ledger) : Type 0 where
  pub layout_is : l.layout ≡ plan
  pub count_is : l.count ≡ length moves
  pub room : length l.marks ≡ 102
  pub marks_are : (x : Site) → IsKept x → chain_mark_at l.marks (place_number x) ≡ latest_where plan (at_place plan x) (moves_with_times plan moves)
  pub last_is : l.last ≡ latest_where plan any_move (moves_with_times plan moves)
  pub stages_are : l.stages ≡ map (λ i. busy (uses_stage plan i) moves) (counted_from 0 33)
  pub sidings_are : l.sidings ≡ map (λ k. busy (uses_siding plan k) moves) (counted_from 0 8)
  pub kinds_are : l.kinds ≡ kind_counts moves

-- the marks of some sites
marks_same : (f g : Site → ChainMark) (xs : List Site) → AllByRecursion IsKept xs → ((x : Site) → IsKept x → f x ≡ g x) → map f xs ≡ map g xs
marks_same f g [] kept same = refl
marks_same f g (x ∷ xs) kept same =
    let h = same x kept.0 in
    let r = marks_same f g xs kept.1 same in
    rw (h, r) refl

map_twice : (marks : List ChainMark) (xs : List Site) → map (chain_mark_at marks) (map place_number xs) ≡ map (λ x. chain_mark_at marks (place_number x)) xs
map_twice marks [] = refl
map_twice marks (x ∷ xs) = ap (λ (l : List ChainMark). chain_mark_at marks (place_number x) ∷ l) (map_twice marks xs)

-- the mark that a move follows is that of the latest move that shares a site with it
follows_latest : (plan : Plan) (moves : List DelayedMove) (l : Ledger) (move : DelayedMove) → Keeps plan moves l → AreKept plan move.mv →
    followed l move.mv ≡ latest_where plan (λ d. shares plan move.mv d.mv) (moves_with_times plan moves)
unfolding followed shares
follows_latest plan moves l move h kept =
    ap (λ (p : Plan). latest_of no_chain_mark (map (chain_mark_at l.marks) (map place_number (used p move.mv)))) h.layout_is
    ∙ ap (latest_of no_chain_mark) (map_twice l.marks (used plan move.mv))
    ∙ ap (latest_of no_chain_mark) (marks_same (λ x. chain_mark_at l.marks (place_number x))
    (λ x. latest_where plan (at_place plan x) (moves_with_times plan moves))
    (used plan move.mv) kept h.marks_are)
    ∙ ap (λ (m : ChainMark). latest_of m (map (λ x. latest_where plan (at_place plan x) (moves_with_times plan moves)) (used plan move.mv)))
    (sym (latest_never plan (moves_with_times plan moves)))
    ∙ latest_any plan (λ d. false) (at_place plan) (used plan move.mv) (moves_with_times plan moves)

-- the time that a move waits for
waits : (plan : Plan) (done : List TimedMove) (move : DelayedMove) → finish_after plan done move
    ≡ (latest_where plan (λ d. shares plan move.mv d.mv) done).time + move.delay
unfolding finish_after
waits plan done move = let t = latest_time plan (λ d. shares plan move.mv d.mv) done in omega (arith, t)

-- its chain is that of the mark that it follows
leads_latest : (plan : Plan) (done : List TimedMove) (move : DelayedMove) → (latest_where plan (λ d. shares plan move.mv d.mv) done).kinds
    ≡ kind_counts (chain_to plan (leads_to plan (done_after plan done move)) done)
leads_latest plan done move =
    let w = waits plan done move in
    let e : finish_after plan done move - move.delay ≡ (latest_where plan (λ d. shares plan move.mv d.mv) done).time = omega (arith, w) in
    latest_kinds plan (λ d. shares plan move.mv d.mv) (leads_to plan (done_after plan done move)) done
    (λ d. ap (λ (n : ℕ). shares plan move.mv d.mv && nat_eq d.time n) e)

-- the mark of a move that is made now
mark_now : (plan : Plan) (moves : List DelayedMove) (l : Ledger) (move : DelayedMove) → Keeps plan moves l → AreKept plan move.mv → AreShort moves →
    move.delay ≤ 1000 →
    1000 * (length moves + 1) < 2 ^ 64 → mark_of l move ≡ mark_after plan (done_after plan (moves_with_times plan moves) move) (moves_with_times plan moves)
unfolding mark_of
mark_now plan moves l move h kept few short small =
    let done : List TimedMove = moves_with_times plan moves in
    let old : ChainMark = latest_where plan (λ d. shares plan move.mv d.mv) done in
    let f = follows_latest plan moves l move h kept in
    let w = waits plan done move in
    let n = times_length plan moves in
    let t = latest_time plan (λ d. shares plan move.mv d.mv) done in
    let k = kept_time (λ d. shares plan move.mv d.mv) done in
    let g = times_few plan moves few in
    let time_is : plus old.time (move.delay) ≡ finish_after plan done move = omega (arith, w, t, k, g, short, small) in
    let number_is : plus (length moves) 1 ≡ length done + 1 = omega (arith, n, small) in
    let c = chain_few plan (leads_to plan (done_after plan done move)) done in
    let kinds_is : one_more old.kinds move.mv ≡ kind_counts (chain_to plan (leads_to plan (done_after plan done move)) done ++ move ∷ []) =
    ap (λ (ks : List ℕ). one_more ks move.mv) (leads_latest plan done move) ∙ kinds_more (chain_to plan
    (leads_to plan (done_after plan done move)) done) move (omega (arith, c, n, small)) in
    all l.count (followed l move.mv) old h.count_is f time_is number_is kinds_is
  where
    all : (count : ℕ) (first old : ChainMark) → count ≡ length moves → first ≡ old
        → plus old.time move.delay ≡ finish_after plan (moves_with_times plan moves) move → plus (length moves) 1 ≡ length (moves_with_times plan moves) + 1
        → one_more old.kinds move.mv ≡ kind_counts (chain_to plan (leads_to plan (done_after plan (moves_with_times plan moves) move))
        (moves_with_times plan moves) ++ move ∷ [])
        → record { time = plus first.time move.delay; number = plus count 1; kinds = one_more first.kinds move.mv }
        ≡ mark_after plan (done_after plan (moves_with_times plan moves) move) (moves_with_times plan moves)
    all count first old b c t n k = rw (b, c, t, n, k) refl

-- the mark of a site after it
marks_more : (plan : Plan) (moves : List DelayedMove) (l : Ledger) (move : DelayedMove) (x : Site) → Keeps plan moves l → AreKept plan move.mv → IsKept x →
    mark_of l move ≡ mark_after plan (done_after plan (moves_with_times plan moves) move) (moves_with_times plan moves)
    → chain_mark_at (put_marks (mark_of l move) l.marks (place_numbers plan move.mv)) (place_number x) ≡ latest_where plan (at_place plan x)
    (done_after plan (moves_with_times plan moves) move ∷ moves_with_times plan moves)
unfolding uses_place
marks_more plan moves l move x h kept here mark_is =
    marks_put (mark_of l move) l.marks (used plan move.mv) x h.room kept here
    ∙ ap (λ (m : ChainMark). cond (among x (used plan move.mv)) m (chain_mark_at l.marks (place_number x))) mark_is
    ∙ ap (λ (m : ChainMark). cond (among x (used plan move.mv)) (mark_after plan (done_after plan (moves_with_times plan moves) move)
    (moves_with_times plan moves)) m) (h.marks_are x here)
    ∙ by (among x (used plan move.mv)) refl
  where
    by : (b : Bool) → among x (used plan move.mv) ≡ b → cond b (mark_after plan (done_after plan (moves_with_times plan moves) move)
        (moves_with_times plan moves)) (latest_where plan (at_place plan x) (moves_with_times plan moves))
        ≡ later (latest_where plan (at_place plan x) (moves_with_times plan moves)) (mark_if plan b
        (done_after plan (moves_with_times plan moves) move) (moves_with_times plan moves))
    by true e =
        let t = latest_time plan (at_place plan x) (moves_with_times plan moves) in
        let late = no_later plan (moves_with_times plan moves) move x e in
        let n = latest_number plan (at_place plan x) (moves_with_times plan moves) in
        sym (later_new (latest_where plan (at_place plan x) (moves_with_times plan moves))
        (mark_after plan (done_after plan (moves_with_times plan moves) move) (moves_with_times plan moves)) (omega (arith, t, late))
        (omega (arith, n)))
    by false e = sym (later_none (latest_where plan (at_place plan x) (moves_with_times plan moves)))

-- one more move
pub keeps-more : (plan : Plan) (moves : List DelayedMove) (l : Ledger) (move : DelayedMove) → Keeps plan moves l → AreKept plan move.mv → AreShort moves →
    move.delay ≤ 1000 →
    1000 * (length moves + 1) < 2 ^ 64 → Keeps plan (moves ++ move ∷ []) (ledger_noted l move)
unfolding ledger_noted
keeps-more plan moves l move h kept few short small =
    let m = mark_now plan moves l move h kept few short small in
    let more = times_more plan moves move in
    record {
      layout_is = h.layout_is;
      count_is = count;
      room = put_size (mark_of l move) l.marks (place_numbers l.layout move.mv) ∙ h.room;
      marks_are = λ x here.
          ap (λ (p : Plan). chain_mark_at (put_marks (mark_of l move) l.marks (place_numbers p move.mv)) (place_number x)) h.layout_is
          ∙ marks_more plan moves l move x h kept here m
          ∙ ap (latest_where plan (at_place plan x)) (sym more);
      last_is = ap (λ (a : ChainMark). later a (mark_of l move)) h.last_is
          ∙ ap (later (latest_where plan any_move (moves_with_times plan moves))) m
          ∙ ap (latest_where plan any_move) (sym more);
      stages_are = ap (λ (p : Plan). charged (λ i. uses_stage p i move.mv) move.delay l.stages) h.layout_is
          ∙ busy_now (uses_stage plan) 33 l.stages h.stages_are;
      sidings_are = ap (λ (p : Plan). charged (λ k. uses_siding p k move.mv) move.delay l.sidings) h.layout_is
          ∙ busy_now (uses_siding plan) 8 l.sidings h.sidings_are;
      kinds_are = ap (λ (ks : List ℕ). one_more ks move.mv) h.kinds_are ∙ kinds_more moves move (omega (arith, small));
    }
  where
    count : plus l.count 1 ≡ length (moves ++ move ∷ [])
    count = let n = length-append moves (move ∷ []) in let k = h.count_is in omega (arith, n, k, small)

    busy_now : (uses : ℕ → Move → Bool) (n : ℕ) (numbers : List ℕ) → numbers ≡ map (λ i. busy (uses i) moves) (counted_from 0 n) →
        charged (λ i. uses i move.mv) move.delay numbers ≡ map (λ i. busy (uses i) (moves ++ move ∷ [])) (counted_from 0 n)
    busy_now uses n numbers is =
        charged_numbered (λ i. uses i move.mv) move.delay (λ i. busy (uses i) moves) (λ i. busy (uses i) (moves ++ move ∷ [])) n numbers is
        (λ i within. each i)
      where
        each : (i : ℕ) → plus_if (uses i move.mv) (busy (uses i) moves) move.delay ≡ busy (uses i) (moves ++ move ∷ [])
        each i =
            let b = busy_few (uses i) moves few in
            grows (uses i move.mv) (busy (uses i) moves) move.delay (omega (arith, b, short, small)) ∙ sym (busy_more (uses i) moves move)

-- before the first
no_marks : (n i : ℕ) → chain_mark_at (replicate n no_chain_mark) i ≡ no_chain_mark
no_marks zero i = refl
no_marks (suc n) zero = refl
no_marks (suc n) (suc i) = no_marks n i

pub keeps-start : (plan : Plan) → Keeps plan [] (new_ledger plan)
unfolding new_ledger busy of_kind sum_of_delays
keeps-start plan =
    let none = times_none plan in
    record {
      layout_is = refl;
      count_is = refl;
      room = refl;
      marks_are = λ x here. no_marks 102 (place_number x) ∙ ap (latest_where plan (at_place plan x)) (sym none);
      last_is = ap (latest_where plan any_move) (sym none);
      stages_are = refl;
      sidings_are = refl;
      kinds_are = refl;
    }

-- and after all moves of a run
pub keeps-all : (plan : Plan) (front moves : List DelayedMove) (l : Ledger) → AreShort front → AreShort moves →
    AllByRecursion (λ d. AreKept plan d.mv) moves → 1000 * (length front + length moves) < 2 ^ 64 → Keeps plan front l →
    Keeps plan (front ++ moves) (noted_all l moves)
keeps-all plan front [] l few short kept small h = subst (λ (ms : List DelayedMove). Keeps plan ms l) (sym (append-nil front)) h
keeps-all plan front (move ∷ moves) l few short kept small h =
    let n = length-append front (move ∷ []) in
    subst (λ (ms : List DelayedMove). Keeps plan ms (noted_all (ledger_noted l move) moves)) (append_assoc front (move ∷ []) moves)
    (keeps-all plan (front ++ move ∷ []) moves (ledger_noted l move) (short-last front move few short.0) short.1 kept.1 (omega (arith, n, small))
    (keeps-more plan front l move h kept.0 few short.0 (omega (arith, small))))
  where
    short-last : (front : List DelayedMove) (one : DelayedMove) → AreShort front → one.delay ≤ 1000 → AreShort (front ++ one ∷ [])
    short-last [] one few short = (short, tt)
    short-last (first ∷ front) one few short = (few.0, short-last front one few.1 short)

-- so it knows how long stages and sidings were in use, the kinds of the moves, a longest chain, and when the last move
-- finished
pub record KnowsSites (plan : Plan) (moves : List DelayedMove) (l : Ledger) : Type 0 where
  pub layout_is : l.layout ≡ plan
  pub stages_are : l.stages ≡ map (λ i. busy (uses_stage plan i) moves) (counted_from 0 33)
  pub sidings_are : l.sidings ≡ map (λ k. busy (uses_siding plan k) moves) (counted_from 0 8)
  pub kinds_are : l.kinds ≡ kind_counts moves
  pub chain_is : l.last.kinds ≡ kind_counts (longest_chain plan moves)
  pub end_is : l.last.time ≡ greatest_time (moves_with_times plan moves)

keeps-knows : (plan : Plan) (moves : List DelayedMove) (l : Ledger) → Keeps plan moves l → KnowsSites plan moves l
unfolding longest_chain
keeps-knows plan moves l h =
    let done : List TimedMove = moves_with_times plan moves in
    let t = latest_time plan any_move done in
    let all : greatest_where any_move done ≡ greatest_time done = ap greatest_time (always done) in
    record {
      layout_is = h.layout_is;
      stages_are = h.stages_are;
      sidings_are = h.sidings_are;
      kinds_are = h.kinds_are;
      chain_is = ap (λ (m : ChainMark). m.kinds) h.last_is
          ∙ latest_kinds plan any_move (is_last done) done (λ d. ap (nat_eq d.time) (sym (t ∙ all)));
      end_is = ap (λ (m : ChainMark). m.time) h.last_is ∙ t ∙ all;
    }

pub knows-all : (plan : Plan) (moves : List DelayedMove) → AreShort moves → AllByRecursion (λ d. AreKept plan d.mv) moves → 1000 * length moves < 2 ^ 64 →
    KnowsSites plan moves (noted_all (new_ledger plan) moves)
knows-all plan moves short kept small =
    keeps-knows plan moves (noted_all (new_ledger plan) moves) (keeps-all plan [] moves (new_ledger plan) tt short kept (omega (arith, small))
    (keeps-start plan))
