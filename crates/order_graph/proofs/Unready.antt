-- A move whose stage does not hold what it needs is barred; and the moves that lead on, found one after another.
use Rattle.std.proofs.Common.{◌≡◌, ℕ, zero, suc, ◌+◌, ◌-◌, ◌<◌, ◌≤◌, List, [], ◌∷◌, ◌++◌, Option, Some, None, Bool, true, false, length, get_or, take, refl, sym, ap, subst, ◌∙◌, arith, filter}
use Rattle.std.specs.Prelude.{◌==◌, ◌&&◌, ◌||◌, not, slice_get}
use Rattle.std.proofs.lemmas.Bool.Decides.{nat_tests}
use Rattle.cf_layout.specs.Layout.{Plan, unit_at}
use Rattle.cf_bind.specs.declared.cell.Cell.{Cell}
use Rattle.cf_bind.specs.declared.cell.Op.{Op}
use Rattle.cf_bind.specs.declared.passenger.Guess.{Guess}
use Rattle.cf_bind.specs.declared.passenger.Passenger.{Passenger}
use Rattle.cf_bind.specs.declared.moves.Bar.{Bar}
use Rattle.cf_bind.specs.declared.moves.Bar.TheVariants.{Halted, Failed, NoSuchSite, NoPassenger, NoPacket, NotDone, NotMet, Occupied, Owes, AlreadyMet, FetchWaiting, OpNotThere}
use Rattle.cf_bind.specs.declared.moves.Move.{Move}
use Rattle.cf_bind.specs.declared.moves.Move.TheVariants as mv
use Rattle.cf_semantics.specs.moves.Bars.{emit_bar, first, first_bar_of, is_full, cell_is_taken, meet_bar, of_passenger, running, stops_at}
use Rattle.cf_semantics.specs.moves.Candidates.{all_moves}
use Rattle.cf_semantics.specs.state.Layouts.{launches}
use Rattle.cf_semantics.specs.state.Options.{on, is_some}
use Rattle.cf_semantics.specs.state.Passengers.{kind}
use Rattle.cf_semantics.specs.state.State.{State, cell_at, siding_at}
use Rattle.theory_orders.specs.Wrong.{leading}
use Rattle.order_rules.specs.declared.rule.Rule.{Rule}
use Rattle.order_rules.specs.declared.rule.Rule.TheVariants.{ClimbNotDone, ClimbNotMet, ClimbOwes}
use Rattle.order_rules.specs.Rules.{rule_holds}
use Rattle.order_model.specs.RuleBars.{bar_without, row_bar_without, climb_bar_without, exit_bar_without, fall_bar_without, issue_bar_without}
use Rattle.order_keys.specs.declared.node.Node.{Node}
use Rattle.order_graph.specs.CountsMade.{has_packet}
use Rattle.order_graph.specs.OrderTrial.{OrderTrial}
use Rattle.order_graph.specs.KeyGraph.{leads_from, moves_from, state_of_node}
use Rattle.order_graph.specs.ReadyStages.{meets_in_stage, is_ready}

-- a test that holds bars, even after other tests
hit : (test : Bool) (bar : Bar) (rest : Option Bar) → test ≡ true → is_some (first test bar rest) ≡ true
hit true bar rest e = refl
hit false bar rest e = absurd (cc)

behind : (test : Bool) (bar : Bar) (rest : Option Bar) → is_some rest ≡ true → is_some (first test bar rest) ≡ true
behind true bar rest h = refl
behind false bar rest h = h

-- tests that hold if others do not
is_not : (a : Bool) → a ≡ false → not a ≡ true
is_not true e = absurd (cc)
is_not false e = refl

is_still : (a : Bool) → not a ≡ false → a ≡ true
is_still true e = refl
is_still false e = absurd (cc)

-- one of these tests holds, after another
is_executed : (done unit : Bool) (a b : Bar) (rest : Option Bar) → (not done && unit) ≡ false → is_some (first done a (first (not unit) b rest)) ≡ true
is_executed true unit a b rest e = refl
is_executed false false a b rest e = refl
is_executed false true a b rest e = absurd (cc)

is_sent : (done launched stage : Bool) (a b : Bar) (rest : Option Bar) → (not done && not launched && stage) ≡ false →
    is_some (first (done || launched) a (first (not stage) b rest)) ≡ true
is_sent true launched stage a b rest e = refl
is_sent false true stage a b rest e = refl
is_sent false false false a b rest e = refl
is_sent false false true a b rest e = absurd (cc)

is_past : (a b : Bool) → (a && not b) ≡ false → (not a || b) ≡ true
is_past true true e = refl
is_past true false e = absurd (cc)
is_past false true e = refl
is_past false false e = refl

-- a move of the instruction in a stage is barred if there is none, or if its row says so
of_stage : (cell : Option Cell) (test : Passenger → Bool) (f : Cell → Passenger → Option Bar) →
    ((c : Cell) (p : Passenger) → test p ≡ false → is_some (f c p) ≡ true) → on (on cell None (λ c. c.passenger)) false test ≡ false →
    is_some (on cell (Some NoSuchSite) (λ c. of_passenger c (f c))) ≡ true
of_stage None test f barred unready = refl
of_stage (Some c) test f barred unready = one c.passenger (f c) (barred c) unready
  where
    one : (q : Option Passenger) (g : Passenger → Option Bar) → ((p : Passenger) → test p ≡ false → is_some (g p) ≡ true) →
        on q false test ≡ false → is_some (on q (Some NoPassenger) g) ≡ true
    one None g b u = refl
    one (Some p) g b u = b p u

-- it is barred if there is no instruction
no_rider : (cell : Option Cell) (f : Cell → Passenger → Option Bar) → is_some (on cell None (λ c. c.passenger)) ≡ false →
    is_some (on cell (Some NoSuchSite) (λ c. of_passenger c (f c))) ≡ true
no_rider None f unready = refl
no_rider (Some c) f unready = no_one c.passenger (f c) unready
  where
    no_one : (p : Option Passenger) (g : Passenger → Option Bar) → is_some p ≡ false → is_some (on p (Some NoPassenger) g) ≡ true
    no_one None g u = refl
    no_one (Some p) g u = absurd (cc)

issue_barred : (away : Option Rule) (plan : Plan) (s : State) (g : Guess) (cell : Option Cell) → not (is_some (on cell None (λ c. c.passenger))) ≡ false →
    is_some (on cell (Some NoSuchSite) (issue_bar_without away plan s g)) ≡ true
issue_barred away plan s g None unready = refl
issue_barred away plan s g (Some c) unready = waiting (running s.fetch) _ (λ pc. hit (is_some c.passenger) Occupied _ (is_still (is_some c.passenger) unready))
  where
    waiting : (o : Option ℕ) (f : ℕ → Option Bar) → ((pc : ℕ) → is_some (f pc) ≡ true) → is_some (on o (Some FetchWaiting) f) ≡ true
    waiting None f b = refl
    waiting (Some pc) f b = b pc

emit_barred : (lane : List ℕ) (cell : Option Cell) → not (length lane == 0) ≡ false → is_some (on cell (Some NoSuchSite) (emit_bar lane)) ≡ true
emit_barred lane None unready = refl
emit_barred [] (Some c) unready = refl
emit_barred (r ∷ lane) (Some c) unready = absurd (grind (arith, nat_tests))

behind_three : (a b c : Bool) (x y z : Bar) (rest : Option Bar) → is_some rest ≡ true → is_some (first a x (first b y (first c z rest))) ≡ true
behind_three true b c x y z rest h = refl
behind_three false true c x y z rest h = refl
behind_three false false true x y z rest h = refl
behind_three false false false x y z rest h = h

climb_barred : (away : Option Rule) (plan : Plan) (i : ℕ) (above cell : Option Cell) →
    (is_some (on cell None (λ c. c.passenger)) && not (is_some (on above None (λ d. d.passenger)))) ≡ false →
    is_some (on cell (Some NoSuchSite) (λ c. climb_bar_without away plan c i above)) ≡ true
climb_barred away plan i above None unready = refl
climb_barred away plan i None (Some c) unready = refl
climb_barred away plan i (Some d) (Some c) unready = by c.passenger _ (λ p h.
    behind_three (rule_holds away ClimbNotMet && is_full c) (rule_holds away ClimbOwes && is_some p.owes) (rule_holds away ClimbNotDone && stops_at plan p i)
    NotMet Owes NotDone (first (is_some d.passenger) Occupied None) (hit (is_some d.passenger) Occupied None h)) unready
  where
    by : (p : Option Passenger) (f : Passenger → Option Bar) → ((p : Passenger) → is_some d.passenger ≡ true → is_some (f p) ≡ true) →
        (is_some p && not (is_some d.passenger)) ≡ false → is_some (on p (Some NoPassenger) f) ≡ true
    by None f b u = refl
    by (Some p) f b u = b p (is_still (is_some d.passenger) u)

fall_barred : (away : Option Rule) (below cell : Option Cell) → (has_packet cell && not (has_packet below)) ≡ false →
    is_some (on cell (Some NoSuchSite) (λ c. fall_bar_without away c below)) ≡ true
fall_barred away below None unready = refl
fall_barred away None (Some c) unready = refl
fall_barred away (Some d) (Some c) unready = by (is_some c.packet) (is_some d.packet) _ unready
  where
    by : (here there full : Bool) → (here && not there) ≡ false →
        is_some (first (not here) NoPacket (first full NotMet (first there Occupied None))) ≡ true
    by false there full u = refl
    by true true true u = refl
    by true true false u = refl
    by true false full u = absurd (cc)

slide_barred : (ops : List (Option Op)) (c : ℕ) (next : Option (Option Op)) → cell_is_taken (slice_get ops c) ≡ false →
    is_some (on next (Some NoSuchSite) (λ o. first_bar_of ((not (cell_is_taken (slice_get ops c)), OpNotThere) ∷ (is_some o, Occupied) ∷ []) None)) ≡ true
slide_barred ops c None unready = refl
slide_barred ops c (Some o) unready = hit _ _ _ (is_not (cell_is_taken (slice_get ops c)) unready)

exit_barred : (away : Option Rule) (cell : Option Cell) → has_packet cell ≡ false → is_some (on cell (Some NoSuchSite) (exit_bar_without away)) ≡ true
exit_barred away None unready = refl
exit_barred away (Some c) unready = hit _ _ _ (is_not (is_some c.packet) unready)

meet_barred : (cell : Option Cell) → meets_in_stage cell ≡ false → is_some (on cell (Some NoSuchSite) meet_bar) ≡ true
meet_barred None unready = refl
meet_barred (Some c) unready = by c.passenger (is_some c.packet) c.met unready
  where
    by : (p : Option Passenger) (k m : Bool) → (is_some p && k && not m) ≡ false →
        is_some (on p (Some NoPassenger) (λ p. first_bar_of ((not k, NoPacket) ∷ (m, AlreadyMet) ∷ []) None)) ≡ true
    by None k m u = refl
    by (Some p) false m u = refl
    by (Some p) true true u = refl
    by (Some p) true false u = absurd (cc)

row_barred : (away : Option Rule) (plan : Plan) (s : State) (m : Move) → is_ready plan s m ≡ false → is_some (row_bar_without away plan s m) ≡ true
row_barred away plan s (mv.Issue g) unready = issue_barred away plan s g (cell_at s.cells 1) unready
row_barred away plan s mv.Emit unready = emit_barred s.lane (cell_at s.cells plan.stages) unready
row_barred away plan s (mv.Climb i) unready = climb_barred away plan i (cell_at s.cells (i + 1)) (cell_at s.cells i) unready
row_barred away plan s (mv.Fall i) unready = fall_barred away (cell_at s.cells (i - 1)) (cell_at s.cells i) unready
row_barred away plan s (mv.Meet i) unready = meet_barred (cell_at s.cells i) unready
row_barred away plan s (mv.Execute i) unready = of_stage (cell_at s.cells i) (λ p. not p.done && unit_at plan (kind p) i) _
    (λ c p u. behind _ _ _ (is_executed p.done (unit_at plan (kind p) i) _ _ _ u)) unready
row_barred away plan s (mv.Send i) unready = of_stage (cell_at s.cells i) (λ p. is_some p.owes) _
    (λ c p u. hit (not (is_some p.owes)) _ _ (is_not (is_some p.owes) u)) unready
row_barred away plan s (mv.Launch i) unready = of_stage (cell_at s.cells i) (λ p. not p.done && not p.launched && launches plan (kind p) i) _
    (λ c p u. behind _ _ _ (is_sent p.done p.launched (launches plan (kind p) i) _ _ _ u)) unready
row_barred away plan s (mv.Slide k c) unready = slide_barred (siding_at s k) c (slice_get (siding_at s k) (c + 1)) unready
row_barred away plan s mv.Access unready = absurd (cc)
row_barred away plan s (mv.Recover i) unready = of_stage (cell_at s.cells i) (λ p. p.launched && not p.recovered) _
    (λ c p u. behind _ _ _ (hit (not p.launched || p.recovered) _ _ (is_past p.launched p.recovered u))) unready
row_barred away plan s mv.Leave unready = no_rider (cell_at s.cells plan.stages) _ unready
row_barred away plan s mv.Exit unready = exit_barred away (cell_at s.cells 1) unready
row_barred away plan s mv.Serve unready = of_stage (cell_at s.cells plan.stages) (λ p. not p.done) _
    (λ c p u. behind _ _ _ (hit p.done _ _ (is_still p.done u))) unready

-- it is barred if the program has ended
pub barred_unready : (t : OrderTrial) (n : Node) (m : Move) → is_ready t.plan n.situation m ≡ false → leads_from t n m ≡ false
unfolding bar_without
barred_unready t n m unready =
    let s : State = state_of_node t n in
    let barred : is_some (bar_without t.away t.plan s m) ≡ true =
    behind (is_some s.ending) Halted _ (behind s.failed Failed _ (row_barred t.away t.plan s m unready)) in
    rw barred refl

-- a filter takes one more item if that passes, and none if it does not
one_more : {A : Type 0} (passes : A → Bool) (xs : List A) (i : ℕ) (d : A) → i < length xs → passes (get_or xs i d) ≡ true →
    filter passes (take (suc i) xs) ≡ filter passes (take i xs) ++ get_or xs i d ∷ []
one_more passes [] i d within e = absurd (omega (arith, within))
one_more passes (x ∷ xs) zero d within e = rw e refl
one_more passes (x ∷ xs) (suc i) d within e = by (one_more passes xs i d (omega (arith, within)) e) (passes x) refl
  where
    by : filter passes (take (suc i) xs) ≡ filter passes (take i xs) ++ get_or xs i d ∷ [] → (first : Bool) → passes x ≡ first →
        filter passes (x ∷ take (suc i) xs) ≡ filter passes (x ∷ take i xs) ++ get_or xs i d ∷ []
    by rest true q = rw q (ap (λ l. x ∷ l) rest)
    by rest false q = rw q rest

no_more : {A : Type 0} (passes : A → Bool) (xs : List A) (i : ℕ) (d : A) → i < length xs → passes (get_or xs i d) ≡ false →
    filter passes (take (suc i) xs) ≡ filter passes (take i xs)
no_more passes [] i d within e = absurd (omega (arith, within))
no_more passes (x ∷ xs) zero d within e = rw e refl
no_more passes (x ∷ xs) (suc i) d within e = by (no_more passes xs i d (omega (arith, within)) e) (passes x) refl
  where
    by : filter passes (take (suc i) xs) ≡ filter passes (take i xs) → (first : Bool) → passes x ≡ first →
        filter passes (x ∷ take (suc i) xs) ≡ filter passes (x ∷ take i xs)
    by rest true q = rw q (ap (λ l. x ∷ l) rest)
    by rest false q = rw q rest

taken_all : {A : Type 0} (xs : List A) (i : ℕ) → length xs ≤ i → take i xs ≡ xs
taken_all [] zero h = refl
taken_all [] (suc i) h = refl
taken_all (x ∷ xs) zero h = absurd (omega (arith, h))
taken_all (x ∷ xs) (suc i) h = ap (λ l. x ∷ l) (taken_all xs i (omega (arith, h)))

-- those of the moves so far that lead on
pub record AreKept (t : OrderTrial) (n : Node) (moves : List Move) (count : ℕ) (found : List Move) : Type 0 where
  pub all : moves ≡ all_moves t.plan
  pub some : found ≡ filter (leads_from t n) (take count moves)

pub none_kept : (t : OrderTrial) (n : Node) (moves found : List Move) → moves ≡ all_moves t.plan → found ≡ [] → AreKept t n moves 0 found
none_kept t n moves found all none = record { all = all; some = none }

pub one_kept : (t : OrderTrial) (n : Node) (moves found found' : List Move) (count : ℕ) (d : Move) → count < length moves →
    leads_from t n (get_or moves count d) ≡ true → found' ≡ found ++ get_or moves count d ∷ [] → AreKept t n moves count found →
    AreKept t n moves (count + 1) found'
one_kept t n moves found found' count d within leads grown k =
    let next : suc count ≡ count + 1 = omega arith in
    record {
      all = k.all;
      some = grown ∙ ap (λ l. l ++ get_or moves count d ∷ []) k.some ∙ sym (one_more (leads_from t n) moves count d within leads)
          ∙ ap (λ i. filter (leads_from t n) (take i moves)) next;
    }

pub one_left : (t : OrderTrial) (n : Node) (moves found : List Move) (count : ℕ) (d : Move) → count < length moves →
    leads_from t n (get_or moves count d) ≡ false → AreKept t n moves count found → AreKept t n moves (count + 1) found
one_left t n moves found count d within leads k =
    let next : suc count ≡ count + 1 = omega arith in
    record {
      all = k.all;
      some = k.some ∙ sym (no_more (leads_from t n) moves count d within leads) ∙ ap (λ i. filter (leads_from t n) (take i moves)) next;
    }

pub all_kept : (t : OrderTrial) (n : Node) (moves found : List Move) (count : ℕ) → length moves ≤ count → AreKept t n moves count found →
    found ≡ moves_from t n
unfolding leading
all_kept t n moves found count past k =
    k.some ∙ ap (filter (leads_from t n)) (taken_all moves count past ∙ k.all)

pub ruleset moves_kept = (none_kept, one_kept, one_left, all_kept)
