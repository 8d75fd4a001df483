-- The numbers of a move that nothing bars are small, so its line is read back.
use Rattle.std.proofs.Common.{◌≡◌, ℕ, ◌+◌, ◌<◌, ◌^◌, List, Option, Some, None, length, refl, arith}
use Rattle.std.specs.Prelude.{slice_get}
use Rattle.std.proofs.lemmas.Option.{slice_get_within}
use Rattle.cf_bind.specs.declared.cell.Op.{Op}
use Rattle.cf_bind.specs.declared.moves.Move.{Move}
use Rattle.cf_bind.specs.declared.moves.Move.TheVariants.{Issue, Emit, Climb, Fall, Meet, Execute, Send, Launch, Slide, Access, Recover, Leave, Exit, Serve}
use Rattle.cf_bind.specs.declared.passenger.Guess.TheVariants as guess
use Rattle.cf_layout.specs.Layout.{Plan}
use Rattle.cf_semantics.specs.moves.Bars.{bar, row_bar, slide_bar}
use Rattle.cf_semantics.specs.state.State.{State, siding_at}
use Rattle.theory_refinement.proofs.moves.Rows.{bar_row}
use Rattle.cf_core.specs.Marks.{touched}
use Rattle.cf_core.specs.Processors.{IsProcessor}
use Rattle.cf_core.proofs.Berths.{length-siding}
use Rattle.cf_core.proofs.Weights.{few-cells}
use Rattle.cf_core.proofs.Sites.{climb-high, fall-fits, fall-high, launch-high, meet-high, recover-high, slide-number, touched-within}
use Rattle.run_scripts.specs.MoveLines.{NumbersBelow}
use Rattle.run_scripts.proofs.ReadBack.{read-back}
use Rattle.cf_audit.specs.Traces.{IsReadBack}

-- a slide ends in a cell that the siding has
slides_within : (ops : List (Option Op)) (c : ℕ) (o : Option (Option Op)) → slice_get ops (c + 1) ≡ o → slide_bar ops c ≡ None → c + 1 < length ops
slides_within ops c None e free = absurd (grind arith)
slides_within ops c (Some op) e free = slice_get_within ops (c + 1) op e

-- by its row, each number is one of a stage, a siding or a cell
row-small : (plan : Plan) (s : State) (mv : Move) → IsProcessor plan s → NumbersBelow (2 ^ 32) mv → row_bar plan s mv ≡ None → NumbersBelow (10 ^ 9) mv
unfolding touched
row-small plan s (Issue guess.Next) p word free = tt
row-small plan s (Issue guess.Taken) p word free = tt
row-small plan s (Issue guess.Wait) p word free = tt
row-small plan s (Issue (guess.To t)) p word free = word
row-small plan s (Climb i) p word free = let h = climb-high plan s i p free in omega (arith, h, p.accepted.stages.1)
row-small plan s (Fall i) p word free =
    let h = fall-high plan s i p free in let low = fall-fits plan s i p free in omega (arith, h, low, p.accepted.stages.1)
row-small plan s (Meet i) p word free = let h = meet-high plan s i p free in omega (arith, h, p.accepted.stages.1)
row-small plan s (Execute i) p word free = let h = (touched-within plan s (Execute i) p free).low_in in omega (arith, h, p.accepted.stages.1)
row-small plan s (Send i) p word free = let h = (touched-within plan s (Send i) p free).low_in in omega (arith, h, p.accepted.stages.1)
row-small plan s (Launch i) p word free = let h = launch-high plan s i p free in omega (arith, h, p.accepted.stages.1)
row-small plan s (Recover i) p word free = let h = recover-high plan s i p free in omega (arith, h, p.accepted.stages.1)
row-small plan s (Slide k c) p word free =
    let number = slide-number plan s k c p free in
    let within = slides_within (siding_at s k) c (slice_get (siding_at s k) (c + 1)) refl free in
    let cells = length-siding plan s k p in
    let few = few-cells plan k p.accepted in
    (omega (arith, number, p.accepted.few_sidings), omega (arith, within, cells, few))
row-small plan s Emit p word free = tt
row-small plan s Access p word free = tt
row-small plan s Leave p word free = tt
row-small plan s Exit p word free = tt
row-small plan s Serve p word free = tt

pub numbers-small : (plan : Plan) (s : State) (mv : Move) → IsProcessor plan s → NumbersBelow (2 ^ 32) mv → bar plan s mv ≡ None → NumbersBelow (10 ^ 9) mv
numbers-small plan s mv p word free = row-small plan s mv p word (bar_row plan s mv free)

-- so the line that is written for it is read as that move
pub allowed-read-back : (plan : Plan) (s : State) (mv : Move) → IsProcessor plan s → NumbersBelow (2 ^ 32) mv → bar plan s mv ≡ None → IsReadBack mv
allowed-read-back plan s mv p word free = read-back mv (numbers-small plan s mv p word free)
