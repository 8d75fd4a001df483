-- The instructions that are counted by their classes are those that retire in the run.
use Rattle.std.proofs.Common.{◌≡◌, ◌≢◌, ◌∙◌, refl, sym, ap, subst, ℕ, zero, suc, ◌+◌, ◌-◌, ◌*◌, ◌^◌, ◌<◌, ◌≤◌, List, [], ◌∷◌, ◌++◌, length}
use Rattle.std.proofs.Common.{map, Bool, true, false, cond, Option, Some, None, nat_eq, arith}
use Rattle.std.specs.Prelude.{min, replicate, slice_set, nat_lt}
use Rattle.std.specs.List.{AllByRecursion}
use Rattle.std.proofs.lemmas.Bool.Decides.{nat_tests}
use Rattle.rv_inst.specs.declared.classes.Class.{Class}
use Rattle.rv_inst.specs.declared.classes.Class.TheVariants.{Add, Logic, Shift, Compare, Branch, Jump, Memory, Serial, Free, Mul, Div}
use Rattle.cf_layout.specs.Layout.{Plan, place_of}
use Rattle.cf_bind.specs.declared.moves.Move.{Move}
use Rattle.cf_bind.specs.declared.moves.Move.TheVariants.{Issue, Emit, Climb, Fall, Meet, Execute, Send, Launch, Slide, Access, Recover, Leave, Exit, Serve}
use Rattle.cf_semantics.specs.moves.Candidates.{counted_from}
use Rattle.cf_semantics.specs.state.Options.{on}
use Rattle.cf_timed.specs.Numbers.{number_at}
use Rattle.cf_timed.specs.declared.timed_move.TimedMove.{TimedMove}
use Rattle.cf_timed.specs.Clocks.{AreKept}
use Rattle.cf_timed.proofs.Numbered.{numbered_at, set_length}
use Rattle.run_ledger.specs.ClassCounts.{entered, issues_after, latencies_noted, no_latencies, passage_noted}
use Rattle.run_ledger.specs.Latencies.{Passage, brought, class_retired, issue_started, of_class, passage_of, passages_after, total_ticks}
use Rattle.run_ledger.specs.SeenMoves.{SeenMove, move_start}
use Rattle.run_ledger.specs.declared.latencies.Latencies.{Latencies}
use Rattle.run_ledger.proofs.Numbered.{numbered_same, numbered_set}

-- a number that was set among several, and the others
number_put : (numbers : List ℕ) (i j v : ℕ) → j < length numbers → number_at (slice_set numbers j v) i ≡ cond (nat_eq i j) v (number_at numbers i)
number_put [] i j v within = absurd (omega arith)
number_put (n ∷ numbers) zero zero v within = refl
number_put (n ∷ numbers) zero (suc j) v within = let e : nat_eq 0 (suc j) ≡ false = grind (arith, nat_tests) in rw e refl
number_put (n ∷ numbers) (suc i) zero v within = let e : nat_eq (suc i) 0 ≡ false = grind (arith, nat_tests) in rw e refl
number_put (n ∷ numbers) (suc i) (suc j) v within = let e : nat_eq (suc i) (suc j) ≡ nat_eq i j = grind (arith, nat_tests) in
    rw e (number_put numbers i j v (omega arith))

-- when the Issue of the instruction in each stage started
pub record HasIssues (earlier : List TimedMove) (starts : List ℕ) : Type 0 where
  pub room : length starts ≡ 34
  pub each : (i : ℕ) → i < 34 → number_at starts i ≡ issue_started earlier i

-- after one more move
issues-move : (plan : Plan) (earlier : List TimedMove) (starts : List ℕ) (done : TimedMove) (mv : Move) → AreKept plan mv → HasIssues earlier starts →
    (length (issues_after done mv starts) ≡ 34)
    × ((i : ℕ) → i < 34 → number_at (issues_after done mv starts) i ≡ brought mv (move_start done) (issue_started earlier) i)
issues-move plan earlier starts done (Issue g) kept h = (
  set_length starts 1 (move_start done) ∙ h.room,
  λ i within. number_put starts i 1 (move_start done) (let r = h.room in omega (arith, r)) ∙ ap (cond (nat_eq i 1) (move_start done)) (h.each i within),
)
issues-move plan earlier starts done (Climb j) kept h = by (nat_lt j 33) (let k = kept.1.0 in grind (arith, nat_tests))
  where
    by : (b : Bool) → b ≡ true →
        (length (cond b (slice_set starts (j + 1) (number_at starts j)) starts) ≡ 34)
        × ((i : ℕ) → i < 34 → number_at (cond b (slice_set starts (j + 1) (number_at starts j)) starts) i
        ≡ cond (nat_eq i (j + 1)) (issue_started earlier j) (issue_started earlier i))
    by true e = (
      set_length starts (j + 1) (number_at starts j) ∙ h.room,
      λ i within.
          number_put starts i (j + 1) (number_at starts j) (let r = h.room in let k = kept.1.0 in omega (arith, r, k))
          ∙ ap (λ (n : ℕ). cond (nat_eq i (j + 1)) n (number_at starts i)) (h.each j (let k = kept.0 in omega (arith, k)))
          ∙ ap (cond (nat_eq i (j + 1)) (issue_started earlier j)) (h.each i within),
    )
    by false e = absurd (cc)
issues-move plan earlier starts done Emit kept h = (h.room, h.each)
issues-move plan earlier starts done (Fall i) kept h = (h.room, h.each)
issues-move plan earlier starts done (Meet i) kept h = (h.room, h.each)
issues-move plan earlier starts done (Execute i) kept h = (h.room, h.each)
issues-move plan earlier starts done (Send i) kept h = (h.room, h.each)
issues-move plan earlier starts done (Launch i) kept h = (h.room, h.each)
issues-move plan earlier starts done (Slide k c) kept h = (h.room, h.each)
issues-move plan earlier starts done Access kept h = (h.room, h.each)
issues-move plan earlier starts done (Recover i) kept h = (h.room, h.each)
issues-move plan earlier starts done Leave kept h = (h.room, h.each)
issues-move plan earlier starts done Exit kept h = (h.room, h.each)
issues-move plan earlier starts done Serve kept h = (h.room, h.each)

issues-more : (plan : Plan) (earlier : List TimedMove) (starts : List ℕ) (done : TimedMove) → AreKept plan done.mv → HasIssues earlier starts →
    HasIssues (done ∷ earlier) (issues_after done done.mv starts)
issues-more plan earlier starts done kept h =
    let m = issues-move plan earlier starts done done.mv kept h in record { room = m.0; each = m.1 }

no-issues : (n i : ℕ) → number_at (replicate n 0) i ≡ 0
no-issues zero i = refl
no-issues (suc n) zero = refl
no-issues (suc n) (suc i) = no-issues n i

-- numbers by the places of classes, each with the amount of each passage added, and capped
abbrev pub raised : ℕ → (Passage → ℕ) → List ℕ → List Passage → List ℕ
raised cap amount numbers [] = numbers
raised cap amount numbers (p ∷ some) =
    raised cap amount (slice_set numbers (place_of p.class) (min (number_at numbers (place_of p.class) + amount p) cap)) some

-- the sum of the amounts of some passages
abbrev pub total_of : (Passage → ℕ) → List Passage → ℕ
total_of amount [] = 0
total_of amount (p ∷ some) = amount p + total_of amount some

-- there are eleven classes
class_within : (class : Class) → place_of class < 11
class_within Add = omega arith
class_within Logic = omega arith
class_within Shift = omega arith
class_within Compare = omega arith
class_within Branch = omega arith
class_within Jump = omega arith
class_within Memory = omega arith
class_within Mul = omega arith
class_within Div = omega arith
class_within Serial = omega arith
class_within Free = omega arith

-- the numbers with the amount of a passage added
abbrev one_raised : ℕ → (Passage → ℕ) → Passage → (ℕ → ℕ) → ℕ → ℕ
one_raised cap amount p f place = cond (nat_eq (place_of p.class) place) (min (f place + amount p) cap) (f place)

raised-one : (cap : ℕ) (amount : Passage → ℕ) (f : ℕ → ℕ) (p : Passage) →
    slice_set (map f (counted_from 0 11)) (place_of p.class) (min (number_at (map f (counted_from 0 11)) (place_of p.class) + amount p) cap)
    ≡ map (one_raised cap amount p f) (counted_from 0 11)
raised-one cap amount f p =
    ap (λ (n : ℕ). slice_set (map f (counted_from 0 11)) (place_of p.class) (min (n + amount p) cap))
    (numbered_at f 11 (place_of p.class) (class_within p.class))
    ∙ numbered_set f (one_raised cap amount p f) 11 (place_of p.class) (min (f (place_of p.class) + amount p) cap) (class_within p.class)
    (is_here (place_of p.class)) others
  where
    is_here : (here : ℕ) → min (f here + amount p) cap ≡ cond (nat_eq here here) (min (f here + amount p) cap) (f here)
    is_here here = let e : nat_eq here here ≡ true = grind (arith, nat_tests) in rw e refl

    others : (j : ℕ) → j ≢ place_of p.class → f j ≡ cond (nat_eq (place_of p.class) j) (min (f j + amount p) cap) (f j)
    others j other = let e : nat_eq (place_of p.class) j ≡ false = grind (arith, nat_tests) in rw e refl

-- each number has grown by the sum of the amounts of the passages of its class
pub raised-each : (cap : ℕ) (amount : Passage → ℕ) (f : ℕ → ℕ) (some : List Passage) → ((place : ℕ) → f place ≤ cap) →
    raised cap amount (map f (counted_from 0 11)) some ≡ map (λ place. min (f place + total_of amount (of_class place some)) cap) (counted_from 0 11)
raised-each cap amount f [] small = numbered_same f (λ place. min (f place + 0) cap) 11 (λ i within. let s = small i in omega (arith, s))
raised-each cap amount f (p ∷ some) small =
    ap (λ (numbers : List ℕ). raised cap amount numbers some) (raised-one cap amount f p)
    ∙ raised-each cap amount (one_raised cap amount p f) some (λ place. by_small place (nat_eq (place_of p.class) place))
    ∙ numbered_same (λ place. min (one_raised cap amount p f place + total_of amount (of_class place some)) cap)
    (λ place. min (f place + total_of amount (of_class place (p ∷ some))) cap) 11 (λ place within. by_sum place (nat_eq (place_of p.class) place))
  where
    by_small : (place : ℕ) (b : Bool) → cond b (min (f place + amount p) cap) (f place) ≤ cap
    by_small place true = omega arith
    by_small place false = small place

    by_sum : (place : ℕ) (b : Bool) → min (cond b (min (f place + amount p) cap) (f place) + total_of amount (of_class place some)) cap
        ≡ min (f place + total_of amount (cond b (p ∷ of_class place some) (of_class place some))) cap
    by_sum place true = omega arith
    by_sum place false = refl

-- with an amount of one for each passage
pub total_one : (some : List Passage) → total_of (λ p. 1) some ≡ length some
total_one [] = refl
total_one (p ∷ some) = let r = total_one some in omega (arith, r)

-- or with the ticks of each
pub total_same : (some : List Passage) → total_of (λ p. p.ticks) some ≡ total_ticks some
total_same [] = refl
total_same (p ∷ some) = ap (λ (n : ℕ). p.ticks + n) (total_same some)

-- the counts after some moves
abbrev pub latencies_over : Plan → List SeenMove → Latencies → Latencies
latencies_over plan [] l = l
latencies_over plan (m ∷ moves) l = latencies_over plan moves (latencies_noted plan m.done m.event l)

-- they have grown by the instructions that retire with these moves
pub record Grown (plan : Plan) (earlier : List TimedMove) (moves : List SeenMove) (before after : Latencies) : Type 0 where
  pub retired : after.retired ≡ raised (2 ^ 64 - 1) (λ p. 1) before.retired (passages_after plan earlier moves)
  pub ticks : after.ticks ≡ raised (2 ^ 128 - 1) (λ p. p.ticks) before.ticks (passages_after plan earlier moves)

raised-more : (cap : ℕ) (amount : Passage → ℕ) (numbers : List ℕ) (front back : List Passage) →
    raised cap amount (raised cap amount numbers front) back ≡ raised cap amount numbers (front ++ back)
raised-more cap amount numbers [] back = refl
raised-more cap amount numbers (p ∷ front) back =
    raised-more cap amount (slice_set numbers (place_of p.class) (min (number_at numbers (place_of p.class) + amount p) cap)) front back

-- with one more move
grown-one : (plan : Plan) (earlier : List TimedMove) (m : SeenMove) (l : Latencies) → plan.stages < 34 → HasIssues earlier l.issued →
    ((latencies_noted plan m.done m.event l).retired ≡ raised (2 ^ 64 - 1) (λ p. 1) l.retired (passage_of plan earlier m))
    × ((latencies_noted plan m.done m.event l).ticks ≡ raised (2 ^ 128 - 1) (λ p. p.ticks) l.ticks (passage_of plan earlier m))
unfolding latencies_noted passage_noted
grown-one plan earlier m l low h = by (class_retired m.event)
  where
    by : (class : Option Class) →
        ((entered m.done (on class l (passage_noted plan m.done l))).retired ≡ raised (2 ^ 64 - 1) (λ p. 1) l.retired
        (on class [] (λ c. record { class = c; ticks = m.done.time - issue_started earlier plan.stages } ∷ [])))
        × ((entered m.done (on class l (passage_noted plan m.done l))).ticks ≡ raised (2 ^ 128 - 1) (λ p. p.ticks) l.ticks
        (on class [] (λ c. record { class = c; ticks = m.done.time - issue_started earlier plan.stages } ∷ [])))
    by None = (refl, refl)
    by (Some c) = (
      refl,
      ap (λ (n : ℕ). slice_set l.ticks (place_of c) (min (number_at l.ticks (place_of c) + (m.done.time - n)) (2 ^ 128 - 1)))
          (h.each plan.stages low),
    )

issued-noted : (plan : Plan) (m : SeenMove) (l : Latencies) → (latencies_noted plan m.done m.event l).issued ≡ issues_after m.done m.done.mv l.issued
unfolding latencies_noted passage_noted
issued-noted plan m l = by (class_retired m.event)
  where
    by : (class : Option Class) → (entered m.done (on class l (passage_noted plan m.done l))).issued ≡ issues_after m.done m.done.mv l.issued
    by None = refl
    by (Some c) = refl

-- and with all moves
pub grown-all : (plan : Plan) (earlier : List TimedMove) (moves : List SeenMove) (l : Latencies) → plan.stages < 34 → HasIssues earlier l.issued →
    AllByRecursion (λ m. AreKept plan m.done.mv) moves → Grown plan earlier moves l (latencies_over plan moves l)
grown-all plan earlier [] l low h kept = record { retired = refl; ticks = refl }
grown-all plan earlier (m ∷ moves) l low h kept =
    let next : Latencies = latencies_noted plan m.done m.event l in
    let one = grown-one plan earlier m l low h in
    let more = issues-more plan earlier l.issued m.done kept.0 h in
    let r = grown-all plan (m.done ∷ earlier) moves next low (subst (HasIssues (m.done ∷ earlier)) (sym (issued-noted plan m l)) more) kept.1 in
    record {
      retired = r.retired
          ∙ ap (λ (numbers : List ℕ). raised (2 ^ 64 - 1) (λ p. 1) numbers (passages_after plan (m.done ∷ earlier) moves)) one.0
          ∙ raised-more (2 ^ 64 - 1) (λ p. 1) l.retired (passage_of plan earlier m) (passages_after plan (m.done ∷ earlier) moves);
      ticks = r.ticks
          ∙ ap (λ (numbers : List ℕ). raised (2 ^ 128 - 1) (λ p. p.ticks) numbers (passages_after plan (m.done ∷ earlier) moves)) one.1
          ∙ raised-more (2 ^ 128 - 1) (λ p. p.ticks) l.ticks (passage_of plan earlier m) (passages_after plan (m.done ∷ earlier) moves);
    }

-- before the first move
pub no-issues-yet : HasIssues [] no_latencies.issued
no-issues-yet = record { room = refl; each = λ i within. no-issues 34 i }

-- no instruction takes longer than the run, so the sums are small
class_few : (place : ℕ) (some : List Passage) → length (of_class place some) ≤ length some
class_few place [] = omega arith
class_few place (p ∷ some) = by (nat_eq (place_of p.class) place) (class_few place some)
  where
    by : (b : Bool) → length (of_class place some) ≤ length some → length (cond b (p ∷ of_class place some) (of_class place some)) ≤ suc (length some)
    by true r = omega (arith, r)
    by false r = omega (arith, r)

class_ticks : (place : ℕ) (some : List Passage) → total_ticks (of_class place some) ≤ total_ticks some
class_ticks place [] = omega arith
class_ticks place (p ∷ some) = by (nat_eq (place_of p.class) place) (class_ticks place some)
  where
    by : (b : Bool) → total_ticks (of_class place some) ≤ total_ticks some →
        total_ticks (cond b (p ∷ of_class place some) (of_class place some)) ≤ p.ticks + total_ticks some
    by true r = omega (arith, r)
    by false r = omega (arith, r)

passages-few : (plan : Plan) (earlier : List TimedMove) (moves : List SeenMove) → length (passages_after plan earlier moves) ≤ length moves
passages-few plan earlier [] = omega arith
passages-few plan earlier (m ∷ moves) = by (class_retired m.event) (passages-few plan (m.done ∷ earlier) moves)
  where
    by : (class : Option Class) → length (passages_after plan (m.done ∷ earlier) moves) ≤ length moves →
        length (on class [] (λ c. record { class = c; ticks = m.done.time - issue_started earlier plan.stages } ∷ [])
        ++ passages_after plan (m.done ∷ earlier) moves)
        ≤ suc (length moves)
    by None r = omega (arith, r)
    by (Some c) r = omega (arith, r)

passages-short : (plan : Plan) (earlier : List TimedMove) (moves : List SeenMove) → AllByRecursion (λ m. m.done.time < 2 ^ 64) moves →
    total_ticks (passages_after plan earlier moves) ≤ 2 ^ 64 * length moves
passages-short plan earlier [] small = omega arith
passages-short plan earlier (m ∷ moves) small = by (class_retired m.event) (passages-short plan (m.done ∷ earlier) moves small.1) small.0
  where
    by : (class : Option Class) → total_ticks (passages_after plan (m.done ∷ earlier) moves) ≤ 2 ^ 64 * length moves → m.done.time < 2 ^ 64 →
        total_ticks (on class [] (λ c. record { class = c; ticks = m.done.time - issue_started earlier plan.stages } ∷ [])
        ++ passages_after plan (m.done ∷ earlier) moves) ≤ 2 ^ 64 * suc (length moves)
    by None r s = omega (arith, r)
    by (Some c) r s = omega (arith, r, s)

pub retired-few : (plan : Plan) (earlier : List TimedMove) (moves : List SeenMove) (place : ℕ) →
    length (of_class place (passages_after plan earlier moves)) ≤ length moves
retired-few plan earlier moves place =
    let a = class_few place (passages_after plan earlier moves) in let b = passages-few plan earlier moves in omega (arith, a, b)

pub latency-short : (plan : Plan) (earlier : List TimedMove) (moves : List SeenMove) (place : ℕ) → AllByRecursion (λ m. m.done.time < 2 ^ 64) moves →
    total_ticks (of_class place (passages_after plan earlier moves)) ≤ 2 ^ 64 * length moves
latency-short plan earlier moves place small =
    let a = class_ticks place (passages_after plan earlier moves) in let b = passages-short plan earlier moves small in omega (arith, a, b)
