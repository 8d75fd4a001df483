-- Which of the words a change of one stage, or of one siding, changes: a word differs at most at the stages for which what it says
-- can differ.
use Rattle.std.proofs.Common.{◌≡◌, ◌∙◌, ℕ, suc, ◌-◌, ◌<◌, ◌≤◌, List, Option, Bool, refl, sym, ap, arith}
use Rattle.cf_bind.specs.declared.cell.Op.{Op}
use Rattle.cf_bind.specs.declared.moves.Move.TheVariants.{Execute, Launch, Recover}
use Rattle.cf_layout.specs.Layout.{Plan, launch_stage, recover_stage}
use Rattle.cf_semantics.specs.state.State.{State, with_siding}
use Rattle.cf_stages.specs.Words.{with_bit, word_of}
use Rattle.cf_stages.proofs.Bits.{word-bit, word-small}
use Rattle.cf_stages.proofs.Carries.{bit-kept}
use Rattle.cf_core.specs.Marks.{Within, mark_at, marked, marks_of, readied, resited, row_allows, sites, with_launch, with_recover}
use Rattle.cf_core.specs.declared.marks.StageMark.{StageMark}
use Rattle.cf_core.proofs.Bits.{SameBut, marked-once, marks-two, word_at}
use Rattle.cf_core.proofs.SameMarks.{siding-launch, siding-recover}

-- the word already has the bit of a stage
pub kept-bit : (test : ℕ → Bool) (n i : ℕ) → n ≤ 32 → 0 < i → i ≤ n → with_bit (word_of test n) (i - 1) (test i) ≡ word_of test n
kept-bit test n i few low within =
    let z : suc (i - 1) ≡ i = omega arith in
    bit-kept (word_of test n) (i - 1) (test i) (omega arith) (word-small test n few) (word-bit test n (i - 1) (omega arith) ∙ ap test z)

-- the words already have the bits of a stage
pub marked-kept : (plan : Plan) (s : State) (i : ℕ) (mark : StageMark) → plan.stages ≤ 32 → 0 < i → i ≤ plan.stages → mark_at plan s i ≡ mark →
    marked (marks_of plan s) i mark ≡ marks_of plan s
unfolding marks_of
marked-kept plan s i mark few low within is =
    let field = λ (f : StageMark → Bool). kept-bit (λ k. f (mark_at plan s k)) plan.stages i few low within in
    let owes = field (λ m. m.owes) in
    let stops = field (λ m. m.stops) in
    let execute = field (λ m. m.execute) in
    let launch = field (λ m. m.launch) in
    let recover = field (λ m. m.recover) in
    rw (← is) (λ x. record { owes = owes x; stops = stops x; execute = execute x; launch = launch x; recover = recover x })

-- A change of one stage --

-- all words have the new bits of the stage
pub marks-one : (plan : Plan) (s t : State) (i : ℕ) → plan.stages ≤ 32 → 0 < i → i ≤ plan.stages → SameBut plan s t i i →
    marked (marks_of plan s) i (mark_at plan t i) ≡ marks_of plan t
marks-one plan s t i few low within same =
    marked-once plan t (marks_of plan s) (record { low = i; high = i }) refl ∙ sym (marks-two plan s t i i few low within low within same)

-- if nothing else changes there, only the word of what is owed differs
pub owes-only : (plan : Plan) (s t : State) (i : ℕ) (owes : Bool) → plan.stages ≤ 32 → 0 < i → i ≤ plan.stages → SameBut plan s t i i →
    mark_at plan t i ≡ record (mark_at plan s i) { owes = owes } →
    record (marks_of plan s) { owes = with_bit (marks_of plan s).owes (i - 1) owes } ≡ marks_of plan t
unfolding marks_of
owes-only plan s t i owes few low within same is =
    let kept = λ (f : StageMark → Bool). sym (kept-bit (λ k. f (mark_at plan s k)) plan.stages i few low within) in
    let stops = kept (λ m. m.stops) in
    let execute = kept (λ m. m.execute) in
    let launch = kept (λ m. m.launch) in
    let recover = kept (λ m. m.recover) in
    let word = with_bit (marks_of plan s).owes (i - 1) owes in
    (λ x. record { owes = word; stops = stops x; execute = execute x; launch = launch x; recover = recover x })
    ∙ ap (marked (marks_of plan s) i) (sym is)
    ∙ marks-one plan s t i few low within same

-- or only that of the stages from which an operation can be launched
pub launch-only : (plan : Plan) (s t : State) (i : ℕ) (launch : Bool) → plan.stages ≤ 32 → 0 < i → i ≤ plan.stages → SameBut plan s t i i →
    mark_at plan t i ≡ record (mark_at plan s i) { launch = launch } →
    record (marks_of plan s) { launch = with_bit (marks_of plan s).launch (i - 1) launch } ≡ marks_of plan t
unfolding marks_of
launch-only plan s t i launch few low within same is =
    let kept = λ (f : StageMark → Bool). sym (kept-bit (λ k. f (mark_at plan s k)) plan.stages i few low within) in
    let owes = kept (λ m. m.owes) in
    let stops = kept (λ m. m.stops) in
    let execute = kept (λ m. m.execute) in
    let recover = kept (λ m. m.recover) in
    let word = with_bit (marks_of plan s).launch (i - 1) launch in
    (λ x. record { owes = owes x; stops = stops x; execute = execute x; launch = word; recover = recover x })
    ∙ ap (marked (marks_of plan s) i) (sym is)
    ∙ marks-one plan s t i few low within same

-- or only whether its instruction can be executed or launched
pub ready-only : (plan : Plan) (s t : State) (i : ℕ) → plan.stages ≤ 32 → 0 < i → i ≤ plan.stages → SameBut plan s t i i →
    mark_at plan t i ≡ record (mark_at plan s i) { execute = row_allows plan t (Execute i); launch = row_allows plan t (Launch i) } →
    readied plan t (marks_of plan s) i ≡ marks_of plan t
unfolding marks_of
ready-only plan s t i few low within same is =
    let kept = λ (f : StageMark → Bool). sym (kept-bit (λ k. f (mark_at plan s k)) plan.stages i few low within) in
    let owes = kept (λ m. m.owes) in
    let stops = kept (λ m. m.stops) in
    let recover = kept (λ m. m.recover) in
    let new = readied plan t (marks_of plan s) i in
    (λ x. record { owes = owes x; stops = stops x; execute = new.execute; launch = new.launch; recover = recover x })
    ∙ ap (marked (marks_of plan s) i) (sym is)
    ∙ marks-one plan s t i few low within same

-- A change of one siding --

-- other cells in a siding change whether it launches and whether it recovers, and nothing else
pub siding-marks : (plan : Plan) (s : State) (k : ℕ) (ops : List (Option Op)) → plan.stages ≤ 32 → Within plan (sites plan k) →
    resited plan (with_siding s k ops) (marks_of plan s) (sites plan k) ≡ marks_of plan (with_siding s k ops)
unfolding marks_of mark_at
siding-marks plan s k ops few w =
    let t = with_siding s k ops in
    let marks = marks_of plan s in
    let launch = sym (word_at (λ i. row_allows plan s (Launch i)) (λ i. row_allows plan t (Launch i)) plan.stages (launch_stage plan k) few w.low w.low_in
    (siding-launch plan s k ops)) in
    let recover = sym (word_at (λ i. row_allows plan s (Recover i)) (λ i. row_allows plan t (Recover i)) plan.stages (recover_stage plan k) few w.high w.high_in
    (siding-recover plan s k ops)) in
    λ x. record { owes = marks.owes; stops = marks.stops; execute = marks.execute; launch = launch x; recover = recover x }

-- if whether it launches stays as it was, it changes only whether it recovers
pub recovers-only : (plan : Plan) (s : State) (k : ℕ) (ops : List (Option Op)) → plan.stages ≤ 32 → Within plan (sites plan k) →
    row_allows plan (with_siding s k ops) (Launch (launch_stage plan k)) ≡ row_allows plan s (Launch (launch_stage plan k)) →
    with_recover plan (with_siding s k ops) (marks_of plan s) (recover_stage plan k) ≡ marks_of plan (with_siding s k ops)
unfolding marks_of mark_at
recovers-only plan s k ops few w launch =
    let i = launch_stage plan k in
    let before = sym (kept-bit (λ j. row_allows plan s (Launch j)) plan.stages i few w.low w.low_in) in
    let kept = before ∙ ap (with_bit (marks_of plan s).launch (i - 1)) (sym launch) in
    ap (λ (word : ℕ). record (marks_of plan s) { launch = word; recover = (resited plan (with_siding s k ops) (marks_of plan s) (sites plan k)).recover }) kept
    ∙ siding-marks plan s k ops few w

-- if whether it recovers stays as it was, it changes only whether it launches
pub launches-only : (plan : Plan) (s : State) (k : ℕ) (ops : List (Option Op)) → plan.stages ≤ 32 → Within plan (sites plan k) →
    row_allows plan (with_siding s k ops) (Recover (recover_stage plan k)) ≡ row_allows plan s (Recover (recover_stage plan k)) →
    with_launch plan (with_siding s k ops) (marks_of plan s) (launch_stage plan k) ≡ marks_of plan (with_siding s k ops)
unfolding marks_of mark_at
launches-only plan s k ops few w recover =
    let j = recover_stage plan k in
    let before = sym (kept-bit (λ i. row_allows plan s (Recover i)) plan.stages j few w.high w.high_in) in
    let kept = before ∙ ap (with_bit (marks_of plan s).recover (j - 1)) (sym recover) in
    ap (λ (word : ℕ). record (marks_of plan s) { launch = (resited plan (with_siding s k ops) (marks_of plan s) (sites plan k)).launch; recover = word }) kept
    ∙ siding-marks plan s k ops few w

-- words that are up to date stay as they are
pub resited-kept : (plan : Plan) (s : State) (k : ℕ) → plan.stages ≤ 32 → Within plan (sites plan k) →
    resited plan s (marks_of plan s) (sites plan k) ≡ marks_of plan s
unfolding marks_of mark_at
resited-kept plan s k few w =
    let marks = marks_of plan s in
    let launch = kept-bit (λ i. row_allows plan s (Launch i)) plan.stages (launch_stage plan k) few w.low w.low_in in
    let recover = kept-bit (λ i. row_allows plan s (Recover i)) plan.stages (recover_stage plan k) few w.high w.high_in in
    λ x. record { owes = marks.owes; stops = marks.stops; execute = marks.execute; launch = launch x; recover = recover x }

pub recover-kept : (plan : Plan) (s : State) (i : ℕ) → plan.stages ≤ 32 → 0 < i → i ≤ plan.stages → with_recover plan s (marks_of plan s) i ≡ marks_of plan s
unfolding marks_of mark_at
recover-kept plan s i few low within =
    ap (λ (word : ℕ). record (marks_of plan s) { recover = word }) (kept-bit (λ k. row_allows plan s (Recover k)) plan.stages i few low within)
