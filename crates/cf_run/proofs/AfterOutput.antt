-- What a move does after output was written, and how many instructions retire with it.
use Rattle.std.proofs.Common.{◌≡◌, ℕ, ◌+◌, ◌≤◌, List, ◌++◌, Option, Some, None, refl, ap, append_assoc, arith}
use Rattle.rv_machine.specs.Call.{Called}
use Rattle.rv_machine.specs.Call as called
use Rattle.cf_layout.specs.Layout.{Plan}
use Rattle.cf_bind.specs.declared.cell.Cell.{Cell}
use Rattle.cf_bind.specs.declared.passenger.Passenger.{Passenger}
use Rattle.cf_bind.specs.declared.moves.Move.{Move}
use Rattle.cf_bind.specs.declared.moves.Move.TheVariants.{Issue, Emit, Climb, Fall, Meet, Execute, Send, Launch, Slide, Access, Recover, Leave, Exit, Serve}
use Rattle.cf_semantics.specs.state.Options.{on}
use Rattle.cf_semantics.specs.moves.Instructions.{serve_of}
use Rattle.cf_semantics.specs.moves.Moves.{moved, next, served, asked}
use Rattle.cf_semantics.specs.state.Passengers.{instruction}
use Rattle.cf_semantics.specs.state.State.{State, Moment, cell_at}

-- the moment, with output that was written before
abbrev pub after_output : List ℕ → Moment → Moment
after_output earlier m = record m { output = earlier ++ m.output }

served-after : (earlier : List ℕ) (m : Moment) (n : ℕ) (c : Cell) (p : Passenger) (o : Called) →
    served (after_output earlier m) n c p o ≡ after_output earlier (served m n c p o)
served-after earlier m n c p (called.Value a) = ap (λ (output : List ℕ). record (served m n c p (called.Value a)) { output = output })
    (append_assoc earlier m.output a.output)
served-after earlier m n c p (called.Exit status) = refl

rider-after : (earlier : List ℕ) (m : Moment) (n : ℕ) (c : Cell) (rider : Option Passenger) →
    on rider (after_output earlier m) (asked (after_output earlier m) n c) ≡ after_output earlier (on rider m (asked m n c))
rider-after earlier m n c None = refl
rider-after earlier m n c (Some p) = served-after earlier m n c p (serve_of (instruction p) m.state.regs m.state.mem m.rest)

stage-after : (earlier : List ℕ) (m : Moment) (n : ℕ) (cell : Option Cell) → on cell (after_output earlier m)
    (λ c. on c.passenger (after_output earlier m) (asked (after_output earlier m) n c)) ≡ after_output earlier (on cell m (λ c. on c.passenger m (asked m n c)))
stage-after earlier m n None = refl
stage-after earlier m n (Some c) = rider-after earlier m n c c.passenger

pub next-after : (plan : Plan) (earlier : List ℕ) (m : Moment) (mv : Move) → next plan (after_output earlier m) mv ≡ after_output earlier (next plan m mv)
unfolding next
next-after plan earlier m Serve = stage-after earlier m plan.stages (cell_at m.state.cells plan.stages)
next-after plan earlier m _ = refl

-- at most one instruction retires with a move
moved-retired : (plan : Plan) (s : State) (mv : Move) → (moved plan s mv).retired ≤ s.retired + 1
unfolding moved
moved-retired plan s (Issue g) = grind arith
moved-retired plan s Emit = grind arith
moved-retired plan s (Climb i) = grind arith
moved-retired plan s (Fall i) = grind arith
moved-retired plan s (Meet i) = grind arith
moved-retired plan s (Execute i) = grind arith
moved-retired plan s (Send i) = grind arith
moved-retired plan s (Launch i) = grind arith
moved-retired plan s (Slide k c) = grind arith
moved-retired plan s Access = grind arith
moved-retired plan s (Recover i) = grind arith
moved-retired plan s Leave = grind arith
moved-retired plan s Exit = grind arith
moved-retired plan s Serve = grind arith

serve-retired : (plan : Plan) (m : Moment) → (next plan m Serve).state.retired ≤ m.state.retired + 1
unfolding next
serve-retired plan m = grind arith

pub next-retired : (plan : Plan) (m : Moment) (mv : Move) → (next plan m mv).state.retired ≤ m.state.retired + 1
unfolding next
next-retired plan m Serve = serve-retired plan m
next-retired plan m _ = moved-retired plan m.state _
