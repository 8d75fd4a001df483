-- The moves of one or two stages change nothing else.
use Rattle.std.proofs.Common.{◌≡◌, ℕ, zero, suc, ◌+◌, ◌-◌, ◌<◌, ◌≤◌, List, [], ◌∷◌, ◌++◌, Option, Some, None, Bool, true, false, length, take, drop, refl, sym, ap, subst, ◌∙◌, arith}
use borrow.Rule.Slice.PartMut.{put_mid}
use Rattle.std.specs.List.{Contains, between}
use Rattle.std.specs.Prelude.{IfSome, slice_get}
use Rattle.std.proofs.lemmas.List.Edits.{length-between, paste_all, split_between}
use Rattle.std.proofs.lemmas.Slice.{put_mid-paste}
use Rattle.std.proofs.lemmas.List.{drop-set-lt, length-set, take-set-le}
use Rattle.mem_regions.specs.Memory.{Memory}
use Rattle.cf_layout.specs.Layout.{Plan}
use Rattle.cf_bind.specs.declared.cell.Cell.{Cell}
use Rattle.cf_bind.specs.declared.passenger.Passenger.{Passenger}
use Rattle.cf_bind.specs.declared.moves.Bar.{Bar}
use Rattle.cf_bind.specs.declared.moves.Bar.TheVariants.{Halted, Failed, NoSuchSite}
use Rattle.cf_bind.specs.declared.moves.Move.{Move}
use Rattle.cf_bind.specs.declared.moves.Move.TheVariants.{Issue, Emit, Climb, Fall, Meet, Execute, Send, Launch, Slide, Access, Recover, Leave, Exit, Serve}
use Rattle.cf_semantics.specs.moves.Bars.{at, first}
use Rattle.cf_semantics.specs.moves.Moves.{moved, next}
use Rattle.cf_semantics.specs.state.Options.{is_some, on}
use Rattle.cf_semantics.specs.state.State.{State, cell_at, put_cell, with_cell}
use Rattle.mem_changes.specs.MemoryChanges.{MemoryChanges}
use Rattle.order_rules.specs.declared.rule.Rule.{Rule}
use Rattle.order_model.specs.RuleBars.{bar_without, climb_bar_without, row_bar_without}
use Rattle.order_model.specs.RuleMoves.{moved_without, next_without}
use Rattle.order_model.specs.Situations.{lone_moment}
use Rattle.order_keys.specs.declared.node.Node.{Node}
use Rattle.order_keys.specs.Beside.{DiffersWithin}
use Rattle.order_keys.specs.Situations.{without_memory}
use Rattle.order_claims.specs.MoveLists.{issued_with}
use Rattle.order_graph.specs.declared.spans.StageSpan.{StageSpan}
use Rattle.order_graph.specs.ChangesNext.{changes_next}
use Rattle.order_graph.specs.KeyGraph.{IsOrderNode, memory_loaded, moves_from, node_next, state_of_node}
use Rattle.order_graph.specs.OrderTrial.{OrderTrial}
use Rattle.order_graph.specs.MoveSpans.{IsSpanOf, StaysOutside, stages_of_move}
use Rattle.order_graph.specs.TrialParts.{IsSoundTrial}
use Rattle.order_graph.proofs.Facts.{order_facts}
use Rattle.order_graph.proofs.Leading.{is_allowed}
use Rattle.order_graph.proofs.Nodes.{its_bare}

put_lower : (cells : List Cell) (j : ℕ) (c : Cell) (low : ℕ) → low ≤ j - 1 → take low (put_cell cells j c) ≡ take low cells
put_lower cells zero c low h = refl
put_lower cells (suc k) c low h = take-set-le low cells k c (omega (arith, h))

put_upper : (cells : List Cell) (j : ℕ) (c : Cell) (high : ℕ) → j ≤ high → drop high (put_cell cells j c) ≡ drop high cells
put_upper cells zero c high h = refl
put_upper cells (suc k) c high h = drop-set-lt high cells k c (omega (arith, h))

put_many : (cells : List Cell) (j : ℕ) (c : Cell) → length (put_cell cells j c) ≡ length cells
put_many cells zero c = refl
put_many cells (suc k) c = length-set cells k c

-- nothing is changed; one stage is, or two are
nothing : (low high : ℕ) (s : State) → StaysOutside low high s s
nothing low high s = record { as_many = refl; lower = refl; upper = refl; others = refl }

one_put : (low high : ℕ) (s : State) (j : ℕ) (c : Cell) → low ≤ j - 1 → j ≤ high → StaysOutside low high s (with_cell s j c)
one_put low high s j c above below = record {
  as_many = put_many s.cells j c;
  lower = put_lower s.cells j c low above;
  upper = put_upper s.cells j c high below;
  others = refl;
}

two_put : (low high : ℕ) (s : State) (i j : ℕ) (c d : Cell) → low ≤ i - 1 → i ≤ high → low ≤ j - 1 → j ≤ high →
    StaysOutside low high s (with_cell (with_cell s i c) j d)
two_put low high s i j c d above below above' below' = record {
  as_many = put_many (put_cell s.cells i c) j d ∙ put_many s.cells i c;
  lower = put_lower (put_cell s.cells i c) j d low above' ∙ put_lower s.cells i c low above;
  upper = put_upper (put_cell s.cells i c) j d high below' ∙ put_upper s.cells i c high below;
  others = refl;
}

chosen : {A : Type 0} (low high : ℕ) (s : State) (o : Option A) (f : A → State) → ((a : A) → StaysOutside low high s (f a)) →
    StaysOutside low high s (on o s f)
chosen low high s None f h = nothing low high s
chosen low high s (Some a) f h = h a

of_rider : (low high : ℕ) (s : State) (i : ℕ) (f : Cell → Passenger → State) → ((c : Cell) (p : Passenger) → StaysOutside low high s (f c p)) →
    StaysOutside low high s (on (cell_at s.cells i) s (λ c. on c.passenger s (f c)))
of_rider low high s i f h = chosen low high s (cell_at s.cells i) (λ c. on c.passenger s (f c)) (λ c. chosen low high s c.passenger (f c) (λ p. h c p))

climb_within : (plan : Plan) (s : State) (i : ℕ) → StaysOutside (i - 1) (i + 1) s (moved plan s (Climb i))
unfolding moved
climb_within plan s i = chosen (i - 1) (i + 1) s (cell_at s.cells i) _ (λ c. chosen (i - 1) (i + 1) s (cell_at s.cells (i + 1)) _
    (λ d. two_put (i - 1) (i + 1) s i (i + 1) _ _ (omega arith) (omega arith) (omega arith) (omega arith)))

fall_within : (plan : Plan) (s : State) (i : ℕ) → StaysOutside (i - 2) i s (moved plan s (Fall i))
unfolding moved
fall_within plan s i = chosen (i - 2) i s (cell_at s.cells i) _ (λ c. chosen (i - 2) i s (cell_at s.cells (i - 1)) _
    (λ d. two_put (i - 2) i s i (i - 1) _ _ (omega arith) (omega arith) (omega arith) (omega arith)))

meet_within : (away : Option Rule) (plan : Plan) (s : State) (i : ℕ) → StaysOutside (i - 1) i s (moved_without away plan s (Meet i))
unfolding moved_without
meet_within away plan s i = of_rider (i - 1) i s i _ (λ c p. chosen (i - 1) i s c.packet _ (λ k. one_put (i - 1) i s i _ (omega arith) (omega arith)))

execute_within : (plan : Plan) (s : State) (i : ℕ) → StaysOutside (i - 1) i s (moved plan s (Execute i))
unfolding moved
execute_within plan s i = of_rider (i - 1) i s i _ (λ c p. one_put (i - 1) i s i _ (omega arith) (omega arith))

send_within : (plan : Plan) (s : State) (i : ℕ) → StaysOutside (i - 1) i s (moved plan s (Send i))
unfolding moved
send_within plan s i = of_rider (i - 1) i s i _ (λ c p. one_put (i - 1) i s i _ (omega arith) (omega arith))

is_it : (a b : StageSpan) → (let o : Option StageSpan = Some a in o) ≡ Some b → a ≡ b
is_it a b e = cc

pub moved_outside : (away : Option Rule) (plan : Plan) (s : State) (m : Move) (span : StageSpan) → stages_of_move m ≡ Some span →
    StaysOutside span.low span.high s (moved_without away plan s m)
unfolding moved_without
moved_outside away plan s (Climb i) span e = subst (λ (x : StageSpan). StaysOutside x.low x.high s (moved plan s (Climb i))) (is_it _ span e)
    (climb_within plan s i)
moved_outside away plan s (Fall i) span e = subst (λ (x : StageSpan). StaysOutside x.low x.high s (moved plan s (Fall i))) (is_it _ span e)
    (fall_within plan s i)
moved_outside away plan s (Meet i) span e = subst (λ (x : StageSpan). StaysOutside x.low x.high s (moved_without away plan s (Meet i))) (is_it _ span e)
    (meet_within away plan s i)
moved_outside away plan s (Execute i) span e = subst (λ (x : StageSpan). StaysOutside x.low x.high s (moved plan s (Execute i))) (is_it _ span e)
    (execute_within plan s i)
moved_outside away plan s (Send i) span e = subst (λ (x : StageSpan). StaysOutside x.low x.high s (moved plan s (Send i))) (is_it _ span e)
    (send_within plan s i)
moved_outside away plan s (Issue g) span e = absurd (cc)
moved_outside away plan s Emit span e = absurd (cc)
moved_outside away plan s (Launch i) span e = absurd (cc)
moved_outside away plan s (Slide k c) span e = absurd (cc)
moved_outside away plan s Access span e = absurd (cc)
moved_outside away plan s (Recover i) span e = absurd (cc)
moved_outside away plan s Leave span e = absurd (cc)
moved_outside away plan s Exit span e = absurd (cc)
moved_outside away plan s Serve span e = absurd (cc)

-- and neither the memory nor the count of Issue moves changes
record IsOfStages (away : Option Rule) (plan : Plan) (loaded : Memory) (s : State) (m : Move) (k : MemoryChanges) (i : ℕ) : Type 0 where
  pub state : (next_without away plan (lone_moment s) m).state ≡ moved_without away plan s m
  pub changes : changes_next plan loaded s m k ≡ k
  pub issues : issued_with i m ≡ i

is_of_stages : (away : Option Rule) (plan : Plan) (loaded : Memory) (s : State) (m : Move) (k : MemoryChanges) (i : ℕ) (span : StageSpan) →
    stages_of_move m ≡ Some span →
    IsOfStages away plan loaded s m k i
unfolding next_without next moved_without changes_next
is_of_stages away plan loaded s (Climb j) k i span e = record { state = refl; changes = refl; issues = omega arith }
is_of_stages away plan loaded s (Fall j) k i span e = record { state = refl; changes = refl; issues = omega arith }
is_of_stages away plan loaded s (Meet j) k i span e = record { state = refl; changes = refl; issues = omega arith }
is_of_stages away plan loaded s (Execute j) k i span e = record { state = refl; changes = refl; issues = omega arith }
is_of_stages away plan loaded s (Send j) k i span e = record { state = refl; changes = refl; issues = omega arith }
is_of_stages away plan loaded s (Issue g) k i span e = absurd (cc)
is_of_stages away plan loaded s Emit k i span e = absurd (cc)
is_of_stages away plan loaded s (Launch j) k i span e = absurd (cc)
is_of_stages away plan loaded s (Slide j c) k i span e = absurd (cc)
is_of_stages away plan loaded s Access k i span e = absurd (cc)
is_of_stages away plan loaded s (Recover j) k i span e = absurd (cc)
is_of_stages away plan loaded s Leave k i span e = absurd (cc)
is_of_stages away plan loaded s Exit k i span e = absurd (cc)
is_of_stages away plan loaded s Serve k i span e = absurd (cc)

-- so the next node differs only in these stages
next_within : (t : OrderTrial) (n : Node) (m : Move) (span : StageSpan) → IsSoundTrial t → IsOrderNode t n → stages_of_move m ≡ Some span →
    DiffersWithin span.low span.high n (node_next t n m)
unfolding node_next
next_within t n m span is h e =
    let s : State = state_of_node t n in
    let x : State = (next_without t.away t.plan (lone_moment s) m).state in
    let k = is_of_stages t.away t.plan (memory_loaded t) s m n.changes n.issues span e in
    let o : StaysOutside span.low span.high s x = subst (StaysOutside span.low span.high s) (sym k.state) (moved_outside t.away t.plan s m span e) in
    let f = order_facts t n is h in
    let own : without_memory n.situation ≡ n.situation = ap (λ (r : Node). r.situation) (its_bare t f.m f.issued n f.stands) in
    record {
      as_many = o.as_many;
      lower = o.lower;
      upper = o.upper;
      others = ap without_memory o.others ∙ own;
      changes = k.changes;
      issues = k.issues;
    }

-- the stages of an allowed move exist
got_inside : (cells : List Cell) (k : ℕ) (c : Cell) → slice_get cells k ≡ Some c → k < length cells
got_inside [] k c e = absurd (cc)
got_inside (d ∷ cells) zero c e = omega arith
got_inside (d ∷ cells) (suc k) c e = let more = got_inside cells k c e in omega (arith, more)

cell_inside : (cells : List Cell) (i : ℕ) (c : Cell) → cell_at cells i ≡ Some c → i ≤ length cells
cell_inside cells zero c e = omega arith
cell_inside cells (suc k) c e = let more = got_inside cells k c e in omega (arith, more)

-- a test lets nothing through if what follows it bars
let_through : (test : Bool) (bar : Bar) (rest : Option Bar) → first test bar rest ≡ None → rest ≡ None
let_through true bar rest e = absurd (cc)
let_through false bar rest e = e

stage_there : (cells : List Cell) (i : ℕ) (f : Cell → Option Bar) → at cells i f ≡ None → i ≤ length cells
stage_there cells i f e = go (cell_at cells i) refl e where
  go : (o : Option Cell) → cell_at cells i ≡ o → on o (Some NoSuchSite) f ≡ None → i ≤ length cells
  go None q b = absurd (cc)
  go (Some c) q b = cell_inside cells i c q

above_there : (away : Option Rule) (plan : Plan) (cells : List Cell) (i : ℕ) (cell : Option Cell) →
    on cell (Some NoSuchSite) (λ c. climb_bar_without away plan c i (cell_at cells (i + 1))) ≡ None → i + 1 ≤ length cells
above_there away plan cells i None b = absurd (cc)
above_there away plan cells i (Some c) b = go (cell_at cells (i + 1)) refl b where
  go : (o : Option Cell) → cell_at cells (i + 1) ≡ o → climb_bar_without away plan c i o ≡ None → i + 1 ≤ length cells
  go None q b = absurd (cc)
  go (Some d) q b = cell_inside cells (i + 1) d q

row_inside : (away : Option Rule) (plan : Plan) (s : State) (m : Move) (span : StageSpan) → row_bar_without away plan s m ≡ None →
    stages_of_move m ≡ Some span →
    span.high ≤ length s.cells
row_inside away plan s (Climb i) span b e = subst (λ (x : StageSpan). x.high ≤ length s.cells) (is_it _ span e)
    (above_there away plan s.cells i (cell_at s.cells i) b)
row_inside away plan s (Fall i) span b e = subst (λ (x : StageSpan). x.high ≤ length s.cells) (is_it _ span e) (stage_there s.cells i _ b)
row_inside away plan s (Meet i) span b e = subst (λ (x : StageSpan). x.high ≤ length s.cells) (is_it _ span e) (stage_there s.cells i _ b)
row_inside away plan s (Execute i) span b e = subst (λ (x : StageSpan). x.high ≤ length s.cells) (is_it _ span e) (stage_there s.cells i _ b)
row_inside away plan s (Send i) span b e = subst (λ (x : StageSpan). x.high ≤ length s.cells) (is_it _ span e) (stage_there s.cells i _ b)
row_inside away plan s (Issue g) span b e = absurd (cc)
row_inside away plan s Emit span b e = absurd (cc)
row_inside away plan s (Launch i) span b e = absurd (cc)
row_inside away plan s (Slide k c) span b e = absurd (cc)
row_inside away plan s Access span b e = absurd (cc)
row_inside away plan s (Recover i) span b e = absurd (cc)
row_inside away plan s Leave span b e = absurd (cc)
row_inside away plan s Exit span b e = absurd (cc)
row_inside away plan s Serve span b e = absurd (cc)

span_order : (m : Move) (span : StageSpan) → stages_of_move m ≡ Some span → span.low ≤ span.high
span_order (Climb i) span e = subst (λ (x : StageSpan). x.low ≤ x.high) (is_it _ span e) (omega arith)
span_order (Fall i) span e = subst (λ (x : StageSpan). x.low ≤ x.high) (is_it _ span e) (omega arith)
span_order (Meet i) span e = subst (λ (x : StageSpan). x.low ≤ x.high) (is_it _ span e) (omega arith)
span_order (Execute i) span e = subst (λ (x : StageSpan). x.low ≤ x.high) (is_it _ span e) (omega arith)
span_order (Send i) span e = subst (λ (x : StageSpan). x.low ≤ x.high) (is_it _ span e) (omega arith)
span_order (Issue g) span e = absurd (cc)
span_order Emit span e = absurd (cc)
span_order (Launch i) span e = absurd (cc)
span_order (Slide k c) span e = absurd (cc)
span_order Access span e = absurd (cc)
span_order (Recover i) span e = absurd (cc)
span_order Leave span e = absurd (cc)
span_order Exit span e = absurd (cc)
span_order Serve span e = absurd (cc)

pub span_known : (t : OrderTrial) (n : Node) (m : Move) (found : Option StageSpan) → IsSoundTrial t → IsOrderNode t n → Contains (moves_from t n) m →
    found ≡ stages_of_move m → IfSome found (IsSpanOf t n m)
unfolding bar_without
span_known t n m None is h there e = tt
span_known t n m (Some span) is h there e =
    let s : State = state_of_node t n in
    let row : row_bar_without t.away t.plan s m ≡ None = let_through s.failed Failed _
    (let_through (is_some s.ending) Halted _ (is_allowed t s n.issues m there)) in
    record {
      within = next_within t n m span is h (sym e);
      order = span_order m span (sym e);
      inside = row_inside t.away t.plan s m span row (sym e);
    }

-- the stages of a list are restored
pub put_again : (cells from new : List Cell) (low high : ℕ) → low ≤ high → high ≤ length from → take low cells ≡ take low from →
    drop high cells ≡ drop high from → new ≡ between low high from → put_mid low (high - low) cells new ≡ from
put_again cells from new low high order inside lower upper is =
    let size : high - low ≡ length (between low high from) = sym (length-between from low high inside) in
    let end : low + (high - low) ≡ high = omega (arith, order) in
    put_mid-paste low (high - low) cells new (between low high from) (high - low) is refl size
    ∙ paste_all cells low (between low high from) (high - low) size
    ∙ ap (λ (k : ℕ). take low cells ++ (between low high from ++ drop k cells)) end
    ∙ ap (λ (l : List Cell). l ++ (between low high from ++ drop high cells)) lower
    ∙ ap (λ (l : List Cell). take low from ++ (between low high from ++ l)) upper
    ∙ sym (split_between from low high order)
