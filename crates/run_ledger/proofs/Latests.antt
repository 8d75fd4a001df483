-- The latest of the moves that pass a test, and the last that passes it.
use Rattle.std.proofs.Common.{◌≡◌, ◌∙◌, refl, sym, ap, ℕ, ◌+◌, ◌<◌, ◌≤◌, List, [], ◌∷◌, ◌++◌, length, map, Bool, true, false, cond, nat_eq, arith}
use Rattle.std.specs.Prelude.{◌&&◌, ◌||◌}
use Rattle.std.specs.List.{list_any}
use Rattle.std.proofs.lemmas.Bool.Decides.{nat_tests}
use Rattle.cf_layout.specs.Layout.{Plan}
use Rattle.cf_timed.specs.declared.timed_move.TimedMove.{TimedMove}
use Rattle.cf_timed.specs.Arrivals.{greatest_where}
use Rattle.cf_timed.proofs.Greatest.{where_more, where_none}
use Rattle.run_ledger.specs.Breakdowns.{chain_to, kind_counts, leads_to, of_kind}
use Rattle.run_ledger.specs.SeenMoves.{untimed}
use Rattle.run_ledger.specs.Ledgers.{later, latest_of, no_chain_mark}
use Rattle.run_ledger.specs.declared.mark.ChainMark.{ChainMark}
use Rattle.run_ledger.proofs.Laters.{later_new, later_none, later_number, later_old, later_time, new_both, new_first, new_second}

-- the mark of a move after earlier ones
abbrev pub mark_after : Plan → TimedMove → List TimedMove → ChainMark
mark_after plan done earlier = record {
  time = done.time;
  number = length earlier + 1;
  kinds = kind_counts (chain_to plan (leads_to plan done) earlier ++ untimed done ∷ []);
}

-- or no mark, if it does not count
abbrev pub mark_if : Plan → Bool → TimedMove → List TimedMove → ChainMark
mark_if plan counts done earlier = cond counts (mark_after plan done earlier) no_chain_mark

-- the mark of the latest of the moves that pass a test
abbrev pub latest_where : Plan → (TimedMove → Bool) → List TimedMove → ChainMark
latest_where plan test [] = no_chain_mark
latest_where plan test (done ∷ earlier) = later (latest_where plan test earlier) (mark_if plan (test done) done earlier)

-- and that of the last that passes it
abbrev pub last_where : Plan → (TimedMove → Bool) → List TimedMove → ChainMark
last_where plan test [] = no_chain_mark
last_where plan test (done ∷ earlier) = cond (test done) (mark_after plan done earlier) (last_where plan test earlier)

-- the time of the latest
if_time : (plan : Plan) (b : Bool) (done : TimedMove) (earlier : List TimedMove) → (mark_if plan b done earlier).time ≡ cond b done.time 0
if_time plan true done earlier = refl
if_time plan false done earlier = refl

pub latest_time : (plan : Plan) (test : TimedMove → Bool) (moves : List TimedMove) →
    (latest_where plan test moves).time ≡ greatest_where test moves
latest_time plan test [] = sym (where_none test)
latest_time plan test (done ∷ earlier) =
    let r = latest_time plan test earlier in
    let t = later_time (latest_where plan test earlier) (mark_if plan (test done) done earlier) in
    let i = if_time plan (test done) done earlier in
    let w = where_more test done earlier in
    omega (arith, r, t, i, w)

-- and the number of the latest
if_number : (plan : Plan) (b : Bool) (done : TimedMove) (earlier : List TimedMove) → (mark_if plan b done earlier).number ≤ length earlier + 1
if_number plan true done earlier = omega arith
if_number plan false done earlier = omega arith

pub latest_number : (plan : Plan) (test : TimedMove → Bool) (moves : List TimedMove) → (latest_where plan test moves).number ≤ length moves
latest_number plan test [] = omega arith
latest_number plan test (done ∷ earlier) =
    let r = latest_number plan test earlier in
    let n = later_number (latest_where plan test earlier) (mark_if plan (test done) done earlier) (length earlier + 1) (omega (arith, r))
    (if_number plan (test done) done earlier) in
    omega (arith, n)

-- tests that agree
pub latest_same : (plan : Plan) (p q : TimedMove → Bool) (moves : List TimedMove) → ((d : TimedMove) → p d ≡ q d) →
    latest_where plan p moves ≡ latest_where plan q moves
latest_same plan p q [] same = refl
latest_same plan p q (done ∷ earlier) same =
    let r = latest_same plan p q earlier same in
    let h = same done in
    rw (r, h) refl

-- a test that nothing passes
pub latest_never : (plan : Plan) (moves : List TimedMove) → latest_where plan (λ d. false) moves ≡ no_chain_mark
latest_never plan [] = refl
latest_never plan (done ∷ earlier) = let r = latest_never plan earlier in rw r (later_none no_chain_mark)

-- a test or another one
pub latest_either : (plan : Plan) (p q : TimedMove → Bool) (moves : List TimedMove) →
    latest_where plan (λ d. p d || q d) moves ≡ later (latest_where plan p moves) (latest_where plan q moves)
latest_either plan p q [] = sym (later_none no_chain_mark)
latest_either plan p q (done ∷ earlier) =
    ap (λ (m : ChainMark). later m (mark_if plan (p done || q done) done earlier)) (latest_either plan p q earlier)
    ∙ both (p done) (q done)
  where
    new : ChainMark
    new = mark_after plan done earlier

    both : (a b : Bool) → later (later (latest_where plan p earlier) (latest_where plan q earlier)) (mark_if plan (a || b) done earlier)
        ≡ later (later (latest_where plan p earlier) (mark_if plan a done earlier))
        (later (latest_where plan q earlier) (mark_if plan b done earlier))
    both a b =
        let m = latest_number plan p earlier in
        let n = latest_number plan q earlier in
        by a b (omega (arith, m)) (omega (arith, n))
      where
        by : (a b : Bool) → (latest_where plan p earlier).number < length earlier + 1 →
            (latest_where plan q earlier).number < length earlier + 1 → later (later (latest_where plan p earlier)
            (latest_where plan q earlier)) (mark_if plan (a || b) done earlier)
            ≡ later (later (latest_where plan p earlier) (mark_if plan a done earlier))
            (later (latest_where plan q earlier) (mark_if plan b done earlier))
        by true true m n = new_both (latest_where plan p earlier) (latest_where plan q earlier) (mark_after plan done earlier) m n
        by true false m n = new_first (latest_where plan p earlier) (latest_where plan q earlier) (mark_after plan done earlier) m n
            ∙ ap (later (later (latest_where plan p earlier) (mark_after plan done earlier)))
            (sym (later_none (latest_where plan q earlier)))
        by false true m n = new_second (latest_where plan p earlier) (latest_where plan q earlier) (mark_after plan done earlier) m n
            ∙ ap (λ (x : ChainMark). later x (later (latest_where plan q earlier) (mark_after plan done earlier)))
            (sym (later_none (latest_where plan p earlier)))
        by false false m n =
            later_none (later (latest_where plan p earlier) (latest_where plan q earlier))
            ∙ ap (λ (x : ChainMark). later x (latest_where plan q earlier)) (sym (later_none (latest_where plan p earlier)))
            ∙ ap (later (later (latest_where plan p earlier) no_chain_mark)) (sym (later_none (latest_where plan q earlier)))

-- the tests of a list, one after another
pub latest_any : {X : Type 0} (plan : Plan) (p : TimedMove → Bool) (test : X → TimedMove → Bool) (xs : List X) (moves : List TimedMove) →
    latest_of (latest_where plan p moves) (map (λ x. latest_where plan (test x) moves) xs)
    ≡ latest_where plan (λ d. p d || list_any (λ x. test x d) xs) moves
latest_any plan p test [] moves = latest_same plan p (λ d. p d || false) moves (λ d. once (p d))
  where
    once : (b : Bool) → b ≡ (b || false)
    once true = refl
    once false = refl
latest_any {X} plan p test (x ∷ xs) moves =
    ap (λ (m : ChainMark). latest_of m (map (λ y. latest_where plan (test y) moves) xs)) (sym (latest_either plan p (test x) moves))
    ∙ latest_any plan (λ d. p d || test x d) test xs moves
    ∙ latest_same plan (λ d. (p d || test x d) || list_any (λ y. test y d) xs) (λ d. p d || (test x d || list_any (λ y. test y d) xs)) moves
    (λ d. turned (p d) (test x d) (list_any (λ y. test y d) xs))
  where
    turned : (a b c : Bool) → ((a || b) || c) ≡ (a || (b || c))
    turned true b c = refl
    turned false b c = refl

-- the last that passes and finishes at a time, if none that passes finishes later
at_time : (plan : Plan) (p : TimedMove → Bool) (moves : List TimedMove) (s : ℕ) → (latest_where plan p moves).time ≤ s →
    last_where plan (λ d. p d && nat_eq d.time s) moves ≡ cond (nat_eq (latest_where plan p moves).time s)
    (latest_where plan p moves) no_chain_mark
at_time plan p [] s h = by (nat_eq 0 s)
  where
    by : (b : Bool) → no_chain_mark ≡ cond b no_chain_mark no_chain_mark
    by true = refl
    by false = refl
at_time plan p (done ∷ earlier) s h =
    let t = later_time (latest_where plan p earlier) (mark_if plan (p done) done earlier) in
    let i = if_time plan (p done) done earlier in
    by (p done) (omega (arith, t, i, h)) (omega (arith, t, i, h)) (at_time plan p earlier s (omega (arith, t, h)))
  where
    old : ChainMark
    old = latest_where plan p earlier

    stays : (b : Bool) → nat_eq (latest_where plan p earlier).time s ≡ b → done.time < s →
        cond b (latest_where plan p earlier) no_chain_mark ≡ cond (nat_eq (later (latest_where plan p earlier)
        (mark_after plan done earlier)).time s) (later (latest_where plan p earlier) (mark_after plan done earlier)) no_chain_mark
    stays true e below =
        let q : (latest_where plan p earlier).time ≡ s = grind (arith, nat_tests) in
        let k = later_old (latest_where plan p earlier) (mark_after plan done earlier) (omega (arith, q, below)) in
        rw (k, e) refl
    stays false e below =
        let q = later_time (latest_where plan p earlier) (mark_after plan done earlier) in
        let k : nat_eq (later (latest_where plan p earlier) (mark_after plan done earlier)).time s ≡ false = grind (arith, nat_tests, q) in
        rw k refl

    by : (b : Bool) → cond b done.time 0 ≤ s → (latest_where plan p earlier).time ≤ s →
        last_where plan (λ d. p d && nat_eq d.time s) earlier ≡ cond (nat_eq (latest_where plan p earlier).time s)
        (latest_where plan p earlier) no_chain_mark → cond (b && nat_eq done.time s) (mark_after plan done earlier)
        (last_where plan (λ d. p d && nat_eq d.time s) earlier) ≡ cond (nat_eq (later (latest_where plan p earlier)
        (mark_if plan b done earlier)).time s) (later (latest_where plan p earlier) (mark_if plan b done earlier)) no_chain_mark
    by false few g r = let k = later_none (latest_where plan p earlier) in rw k r
    by true few g r = there (nat_eq done.time s) refl
      where
        there : (b : Bool) → nat_eq done.time s ≡ b → cond b (mark_after plan done earlier)
            (last_where plan (λ d. p d && nat_eq d.time s) earlier) ≡ cond (nat_eq (later (latest_where plan p earlier)
            (mark_after plan done earlier)).time s) (later (latest_where plan p earlier) (mark_after plan done earlier)) no_chain_mark
        there true e =
            let q : done.time ≡ s = grind (arith, nat_tests) in
            let n = latest_number plan p earlier in
            let k = later_new (latest_where plan p earlier) (mark_after plan done earlier) (omega (arith, q, g)) (omega (arith, n)) in
            rw (k, e) refl
        there false e =
            let below : done.time < s = grind (arith, nat_tests, few) in
            r ∙ stays (nat_eq (latest_where plan p earlier).time s) refl below

-- so the latest is the last of those that pass and finish latest
pub latest_last : (plan : Plan) (p : TimedMove → Bool) (moves : List TimedMove) → last_where plan (λ d. p d
    && nat_eq d.time (latest_where plan p moves).time) moves ≡ latest_where plan p moves
latest_last plan p moves =
    at_time plan p moves (latest_where plan p moves).time (omega arith)
    ∙ (let e : nat_eq (latest_where plan p moves).time (latest_where plan p moves).time ≡ true = grind (arith, nat_tests) in rw e refl)

-- its kinds are those of the chain that ends with it
pub last_kinds : (plan : Plan) (test : TimedMove → Bool) (moves : List TimedMove) →
    (last_where plan test moves).kinds ≡ kind_counts (chain_to plan test moves)
unfolding of_kind
last_kinds plan test [] = refl
last_kinds plan test (done ∷ earlier) = by (test done) (last_kinds plan test earlier)
  where
    by : (b : Bool) → (last_where plan test earlier).kinds ≡ kind_counts (chain_to plan test earlier) →
        (cond b (mark_after plan done earlier) (last_where plan test earlier)).kinds
        ≡ kind_counts (cond b (chain_to plan (leads_to plan done) earlier ++ untimed done ∷ []) (chain_to plan test earlier))
    by true r = refl
    by false r = r

-- tests that agree have the same chain
pub chain_same : (plan : Plan) (p q : TimedMove → Bool) (moves : List TimedMove) → ((d : TimedMove) → p d ≡ q d) →
    chain_to plan p moves ≡ chain_to plan q moves
chain_same plan p q [] same = refl
chain_same plan p q (done ∷ earlier) same =
    let r = chain_same plan p q earlier same in
    let h = same done in
    rw (r, h) refl

-- the kinds of the chain to the latest that passes
pub latest_kinds : (plan : Plan) (p test : TimedMove → Bool) (moves : List TimedMove) →
    ((d : TimedMove) → test d ≡ (p d && nat_eq d.time (latest_where plan p moves).time)) →
    (latest_where plan p moves).kinds ≡ kind_counts (chain_to plan test moves)
latest_kinds plan p test moves same =
    ap (λ (m : ChainMark). m.kinds) (sym (latest_last plan p moves))
    ∙ last_kinds plan (λ d. p d && nat_eq d.time (latest_where plan p moves).time) moves
    ∙ ap kind_counts (sym (chain_same plan test (λ d. p d && nat_eq d.time (latest_where plan p moves).time) moves same))
