-- The lines of some moves, and of those after them.
use Rattle.std.proofs.Common.{◌≡◌, ℕ, zero, suc, ◌+◌, ◌-◌, ◌<◌, ◌≤◌, List, [], ◌∷◌, ◌++◌, map, length, take, drop, get_or, refl, ap, sym, ◌∙◌, subst, append-nil, append_assoc, arith}
use Rattle.std.specs.List.{flat_map}
use Rattle.std.specs.Prelude.{slice_get, unwrap_or}
use Rattle.std.proofs.lemmas.List.{flat_map_more, take_more, take_all, take-append-drop}
use Rattle.std.proofs.lemmas.List.Concat.{flat_map-append}
use Rattle.cf_layout.specs.Layout.{Plan, SidingPlan, no_siding, cells_of}
use Rattle.cf_bind.specs.declared.moves.Move.{Move}
use Rattle.cf_semantics.specs.moves.Candidates.{counted_from}
use Rattle.cf_semantics.specs.state.State.{State}
use Rattle.report_closing.specs.Moves.{cell_moves, siding_moves, every_move, line_in, moves_text}
use Rattle.report_closing.specs.Parts.{part_moves, move_lines}
use Rattle.report_closing.specs.declared.parts.ClosingPart.{ClosingPart}
use Rattle.report_closing.specs.declared.parts.TheConstants.{PARTS}

-- the lines of some moves and then of others
pub lines-append : (plan : Plan) (s : State) (xs ys : List Move) →
    move_lines plan s (xs ++ ys) ≡ move_lines plan s xs ++ move_lines plan s ys
lines-append plan s [] ys = refl
lines-append plan s (mv ∷ xs) ys =
    ap (λ (text : List ℕ). line_in plan s mv ++ text) (lines-append plan s xs ys)
    ∙ sym (append_assoc (line_in plan s mv) (move_lines plan s xs) (move_lines plan s ys))

lines-one : (plan : Plan) (s : State) (mv : Move) → move_lines plan s (mv ∷ []) ≡ line_in plan s mv
lines-one plan s mv = append-nil (line_in plan s mv)

-- numbers one after another, in two parts
counted-split : (a n m : ℕ) → counted_from a (n + m) ≡ counted_from a n ++ counted_from (a + n) m
counted-split a zero m =
    let e : zero + m ≡ m = omega arith in
    let f : a + zero ≡ a = omega arith in
    rw (e, f) refl
counted-split a (suc n) m =
    let e : suc n + m ≡ suc (n + m) = omega arith in
    let f : a + suc n ≡ suc a + n = omega arith in
    rw (e, f) (ap (λ (ns : List ℕ). a ∷ ns) (counted-split (suc a) n m))

map-both : (f : ℕ → Move) (xs ys : List ℕ) → map f (xs ++ ys) ≡ map f xs ++ map f ys
map-both f [] ys = refl
map-both f (x ∷ xs) ys = ap (λ (ms : List Move). f x ∷ ms) (map-both f xs ys)

-- the lines of the moves with the numbers from a on, n of them
abbrev pub lines_from : Plan → State → (ℕ → Move) → ℕ → ℕ → List ℕ
lines_from plan s f a n = move_lines plan s (map f (counted_from a n))

lines-split : (plan : Plan) (s : State) (f : ℕ → Move) (a n m : ℕ) →
    lines_from plan s f a (n + m) ≡ lines_from plan s f a n ++ lines_from plan s f (a + n) m
lines-split plan s f a n m =
    ap (λ (ns : List ℕ). move_lines plan s (map f ns)) (counted-split a n m)
    ∙ (ap (move_lines plan s) (map-both f (counted_from a n) (counted_from (a + n) m))
    ∙ lines-append plan s (map f (counted_from a n)) (map f (counted_from (a + n) m)))

-- with the line of the next number these are the lines of one more
pub line-next : (plan : Plan) (s : State) (f : ℕ → Move) (a i n m : ℕ) → i ≡ a + n → m ≡ n + 1 →
    lines_from plan s f a n ++ line_in plan s (f i) ≡ lines_from plan s f a m
line-next plan s f a i n m e k =
    rw (e, k) (ap (λ (text : List ℕ). lines_from plan s f a n ++ text) (sym (lines-one plan s (f (a + n))))
    ∙ sym (lines-split plan s f a n 1))

-- after it come those of the others
pub line-after : (plan : Plan) (s : State) (f : ℕ → Move) (a i n whole : ℕ) → i ≡ a + n → n < whole →
    (rest : List ℕ) × ((lines_from plan s f a n ++ line_in plan s (f i)) ++ rest ≡ lines_from plan s f a whole)
line-after plan s f a i n whole e below =
    let left = whole - (n + 1) in
    let all : (n + 1) + left ≡ whole = omega arith in (
      lines_from plan s f (a + (n + 1)) left,
      ap (λ (text : List ℕ). text ++ lines_from plan s f (a + (n + 1)) left)
          (line-next plan s f a i n (n + 1) e refl)
          ∙ (sym (lines-split plan s f a (n + 1) left) ∙ ap (lines_from plan s f a) all),
    )

-- the moves of the first sidings, and of those after them
siding-split : (k i : ℕ) (sidings : List SidingPlan) →
    siding_moves k sidings ≡ siding_moves k (take i sidings) ++ siding_moves (k + i) (drop i sidings)
siding-split k zero sidings = let e : k + zero ≡ k = omega arith in rw e refl
siding-split k (suc i) [] = refl
siding-split k (suc i) (siding ∷ sidings) =
    let e : k + suc i ≡ suc k + i = omega arith in
    rw e (ap (λ (ms : List Move). cell_moves k siding.cells ++ ms) (siding-split (suc k) i sidings)
    ∙ sym (append_assoc (cell_moves k siding.cells) (siding_moves (suc k) (take i sidings))
    (siding_moves (suc k + i) (drop i sidings))))

one-siding : (k : ℕ) (sidings : List SidingPlan) (i : ℕ) → i < length sidings →
    siding_moves k (drop i sidings)
    ≡ cell_moves k (unwrap_or (slice_get sidings i) no_siding).cells ++ siding_moves (suc k) (drop (suc i) sidings)
one-siding k [] i h = absurd (omega arith)
one-siding k (siding ∷ sidings) zero h = refl
one-siding k (siding ∷ sidings) (suc i) h = one-siding k sidings i (omega arith)

siding-next : (k : ℕ) (sidings : List SidingPlan) (i : ℕ) → i < length sidings →
    siding_moves k (take (suc i) sidings)
    ≡ siding_moves k (take i sidings) ++ cell_moves (k + i) (unwrap_or (slice_get sidings i) no_siding).cells
siding-next k [] i h = absurd (omega arith)
siding-next k (siding ∷ sidings) zero h =
    let e : k + zero ≡ k = omega arith in rw e (append-nil (cell_moves k siding.cells))
siding-next k (siding ∷ sidings) (suc i) h =
    let e : k + suc i ≡ suc k + i = omega arith in
    rw e (ap (λ (ms : List Move). cell_moves k siding.cells ++ ms) (siding-next (suc k) sidings i (omega arith))
    ∙ sym (append_assoc (cell_moves k siding.cells) (siding_moves (suc k) (take i sidings))
    (cell_moves (suc k + i) (unwrap_or (slice_get sidings i) no_siding).cells)))

-- with the lines of the next siding these are the lines of one more
pub sidings-next : (plan : Plan) (s : State) (i : ℕ) → i < length plan.sidings →
    move_lines plan s (siding_moves 0 (take i plan.sidings)) ++ move_lines plan s (cell_moves i (cells_of plan i))
    ≡ move_lines plan s (siding_moves 0 (take (i + 1) plan.sidings))
unfolding cells_of
sidings-next plan s i below =
    let e : 0 + i ≡ i = omega arith in
    let one : i + 1 ≡ suc i = omega arith in
    let next : siding_moves 0 (take (suc i) plan.sidings)
    ≡ siding_moves 0 (take i plan.sidings) ++ cell_moves i (unwrap_or (slice_get plan.sidings i) no_siding).cells =
    siding-next 0 plan.sidings i below
    ∙ ap (λ (k : ℕ). siding_moves 0 (take i plan.sidings) ++ cell_moves k (unwrap_or (slice_get plan.sidings i) no_siding).cells) e in
    rw one (sym (lines-append plan s (siding_moves 0 (take i plan.sidings))
    (cell_moves i (unwrap_or (slice_get plan.sidings i) no_siding).cells)) ∙ ap (move_lines plan s) (sym next))

-- after them come those of the others
pub sidings-after : (plan : Plan) (s : State) (i : ℕ) → i < length plan.sidings →
    (rest : List ℕ) × ((move_lines plan s (siding_moves 0 (take i plan.sidings))
    ++ move_lines plan s (cell_moves i (cells_of plan i))) ++ rest ≡ move_lines plan s (siding_moves 0 plan.sidings))
sidings-after plan s i below =
    let rest : List Move = siding_moves (0 + (i + 1)) (drop (i + 1) plan.sidings) in (
      move_lines plan s rest,
      ap (λ (text : List ℕ). text ++ move_lines plan s rest) (sidings-next plan s i below)
          ∙ (sym (lines-append plan s (siding_moves 0 (take (i + 1) plan.sidings)) rest)
          ∙ ap (move_lines plan s) (sym (siding-split 0 (i + 1) plan.sidings))),
    )

-- the moves of the first parts, and of those after them
part-more : (plan : Plan) (parts : List ClosingPart) (i : ℕ) (none : ClosingPart) → i < length parts →
    flat_map (part_moves plan) (take i parts) ++ part_moves plan (get_or parts i none)
    ≡ flat_map (part_moves plan) (take (i + 1) parts)
part-more plan parts i none below =
    flat_map_more (part_moves plan) [] (take i parts) (get_or parts i none)
    ∙ ap (flat_map (part_moves plan)) (sym (take_more parts i none below))

pub parts-next : (plan : Plan) (s : State) (i : ℕ) (none : ClosingPart) (items : List ClosingPart) → items ≡ PARTS →
    i < length items →
    move_lines plan s (flat_map (part_moves plan) (take i PARTS))
    ++ move_lines plan s (part_moves plan (get_or items i none))
    ≡ move_lines plan s (flat_map (part_moves plan) (take (i + 1) PARTS))
parts-next plan s i none items same below =
    let here : i < length PARTS = subst (λ (parts : List ClosingPart). i < length parts) same below in
    rw same (sym (lines-append plan s (flat_map (part_moves plan) (take i PARTS))
    (part_moves plan (get_or PARTS i none))) ∙ ap (move_lines plan s) (part-more plan PARTS i none here))

-- the parts in their order are all moves
parts-all : (plan : Plan) → flat_map (part_moves plan) PARTS ≡ every_move plan
unfolding every_move
parts-all plan = simp append_assoc

pub all-parts : (plan : Plan) (s : State) → move_lines plan s (flat_map (part_moves plan) PARTS) ≡ moves_text plan s
unfolding moves_text
all-parts plan s = ap (move_lines plan s) (parts-all plan)

pub parts-after : (plan : Plan) (s : State) (i : ℕ) (none : ClosingPart) (items : List ClosingPart) → items ≡ PARTS →
    i < length items →
    (rest : List ℕ) × ((move_lines plan s (flat_map (part_moves plan) (take i PARTS))
    ++ move_lines plan s (part_moves plan (get_or items i none))) ++ rest ≡ moves_text plan s)
parts-after plan s i none items same below =
    let rest : List Move = flat_map (part_moves plan) (drop (i + 1) PARTS) in (
      move_lines plan s rest,
      ap (λ (text : List ℕ). text ++ move_lines plan s rest) (parts-next plan s i none items same below)
          ∙ (sym (lines-append plan s (flat_map (part_moves plan) (take (i + 1) PARTS)) rest)
          ∙ (ap (move_lines plan s) (sym (flat_map-append (part_moves plan) (take (i + 1) PARTS) (drop (i + 1) PARTS))
          ∙ ap (flat_map (part_moves plan)) (take-append-drop (i + 1) PARTS))
          ∙ all-parts plan s)),
    )

pub parts-done : (plan : Plan) (s : State) (i : ℕ) (items : List ClosingPart) → items ≡ PARTS → length items ≤ i →
    move_lines plan s (flat_map (part_moves plan) (take i PARTS)) ≡ moves_text plan s
parts-done plan s i items same done =
    let here : length PARTS ≤ i = subst (λ (parts : List ClosingPart). length parts ≤ i) same done in
    ap (λ (parts : List ClosingPart). move_lines plan s (flat_map (part_moves plan) parts)) (take_all i PARTS here)
    ∙ all-parts plan s
