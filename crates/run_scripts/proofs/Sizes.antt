-- The line of a move whose numbers are words has at most 80 bytes.
use Rattle.std.proofs.Common.{ℕ, ◌<◌, ◌≤◌, ◌^◌, List, ◌++◌, length, arith, length-append, lit≤, lit<}
use Rattle.std.specs.Prelude.{codes, decimal}
use Rattle.std.proofs.lemmas.Fmt.{length-decimal-le}
use Rattle.texts.specs.Hexadecimal.{hex8}
use Rattle.cf_bind.specs.declared.passenger.Guess.TheVariants as guess
use Rattle.cf_bind.specs.declared.moves.Move.{Move}
use Rattle.cf_bind.specs.declared.moves.Move.TheVariants.{Issue, Emit, Climb, Fall, Meet, Execute, Send, Launch, Slide, Access, Recover, Leave, Exit, Serve}
use Rattle.cf_bind.specs.MoveTexts.{text_at_stage, move_line}
use Rattle.run_scripts.specs.MoveLines.{NumbersBelow}

short : (n : ℕ) → n < 2 ^ 32 → length (decimal n) ≤ 10
short n h = length-decimal-le 10 n (lit< tt) (omega arith) (omega arith)

at_stage-short : (kind : List ℕ) (i : ℕ) → length kind ≤ 10 → i < 2 ^ 32 → length (text_at_stage kind i) ≤ 80
at_stage-short kind i k h =
    let low = short i h in
    omega (arith, length-append (kind ++ codes " ") (decimal i), length-append kind (codes " "))

slide-short : (k c : ℕ) → k < 2 ^ 32 → c < 2 ^ 32 → length (codes "slide " ++ decimal k ++ codes " " ++ decimal c) ≤ 80
slide-short k c hk hc =
    let low = short k hk in
    let other = short c hc in
    omega (
      arith,
      length-append (codes "slide " ++ decimal k ++ codes " ") (decimal c),
      length-append (codes "slide " ++ decimal k) (codes " "),
      length-append (codes "slide ") (decimal k),
    )

pub move_line-short : (mv : Move) → NumbersBelow (2 ^ 32) mv → length (move_line mv) ≤ 80
unfolding move_line hex8
move_line-short (Issue guess.Next) h = lit≤ tt
move_line-short (Issue guess.Taken) h = lit≤ tt
move_line-short (Issue guess.Wait) h = lit≤ tt
move_line-short (Issue (guess.To t)) h = lit≤ tt
move_line-short Emit h = lit≤ tt
move_line-short (Climb i) h = at_stage-short (codes "climb") i (lit≤ tt) h
move_line-short (Fall i) h = at_stage-short (codes "fall") i (lit≤ tt) h
move_line-short (Meet i) h = at_stage-short (codes "meet") i (lit≤ tt) h
move_line-short (Execute i) h = at_stage-short (codes "execute") i (lit≤ tt) h
move_line-short (Send i) h = at_stage-short (codes "send") i (lit≤ tt) h
move_line-short (Launch i) h = at_stage-short (codes "launch") i (lit≤ tt) h
move_line-short (Slide k c) h = slide-short k c h.0 h.1
move_line-short Access h = lit≤ tt
move_line-short (Recover i) h = at_stage-short (codes "recover") i (lit≤ tt) h
move_line-short Leave h = lit≤ tt
move_line-short Exit h = lit≤ tt
move_line-short Serve h = lit≤ tt

pub ruleset sizes = (move_line-short)
