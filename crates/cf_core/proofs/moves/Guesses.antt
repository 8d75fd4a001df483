-- Whether an instruction can be issued is the same for all guesses that it may have.
use Rattle.std.proofs.Common.{◌≡◌, ◌∙◌, ℕ, ◌+◌, List, Option, Some, None, Bool, true, false, refl, sym, length, [], ◌∷◌, ◌<◌, ◌≤◌, arith}
use Rattle.std.specs.Prelude.{◌&&◌, not, nat_lt}
use Rattle.std.proofs.lemmas.Bool.Decides.{nat_tests}
use Rattle.std.proofs.Math.Bool.{and-true, and-false}
use Rattle.rv_inst.specs.declared.classes.Class.{Class}
use Rattle.rv_inst.specs.declared.classes.Class.TheVariants.{Free}
use Rattle.rv_inst.specs.declared.instruction.Instr.{Instr}
use Rattle.cf_bind.specs.declared.cell.Cell.{Cell}
use Rattle.cf_bind.specs.declared.moves.Bar.TheVariants.{Occupied, BadGuess, LaneFull}
use Rattle.cf_bind.specs.declared.moves.Move.TheVariants.{Issue}
use Rattle.cf_bind.specs.declared.packet.Fetch.{Fetch}
use Rattle.cf_bind.specs.declared.packet.Fetch.TheVariants.{Running, Waiting}
use Rattle.cf_bind.specs.declared.passenger.End.{End}
use Rattle.cf_bind.specs.declared.passenger.Guess.{Guess}
use Rattle.cf_bind.specs.declared.passenger.Guess.TheVariants.{Next, Taken, Wait, To}
use Rattle.cf_bind.specs.declared.passenger.Passenger.{Passenger}
use Rattle.cf_layout.specs.Layout.{Plan}
use Rattle.cf_semantics.specs.moves.Bars.{first, issue_bar, may_guess}
use Rattle.cf_semantics.specs.moves.Instructions.{Fetched, Got, Bad, fetched, free_trap, kind_of}
use Rattle.cf_semantics.specs.state.Layouts.{isa_of}
use Rattle.cf_semantics.specs.state.Options.{on, is_some}
use Rattle.cf_semantics.specs.state.Passengers.{fresh, fresh_as, fresh_end, fresh_fence, requests}
use Rattle.cf_semantics.specs.state.State.{State, cell_at}
use Rattle.cf_stages.specs.Changes.{passenger_at}
use Rattle.cf_core.specs.Ends.{issued_at}
use Rattle.cf_core.specs.Marks.{row_allows}
use Rattle.cf_core.specs.Processors.{IsProcessor}

-- the instruction with another guess
with_guess : Passenger → Guess → Passenger
with_guess p g = record p { guess = g }

-- two guesses give instructions that differ only in the guess
ended_as : (o : Option End) (i : Instr) (pc : ℕ) (g h : Guess) → on o (fresh_fence i pc h) (fresh_end (Some i) pc h)
    ≡ with_guess (on o (fresh_fence i pc g) (fresh_end (Some i) pc g)) h
unfolding with_guess
ended_as None i pc g h = refl
ended_as (Some e) i pc g h = refl

class_as : (c : Class) (cache : List (Option ℕ)) (i : Instr) (pc : ℕ) (g h : Guess) → fresh_as c cache i pc h ≡ with_guess (fresh_as c cache i pc g) h
unfolding with_guess
class_as Free cache i pc g h = ended_as (free_trap i pc) i pc g h
class_as c cache i pc g h = refl

fresh_alike : (cache : List (Option ℕ)) (f : Fetched) (pc : ℕ) (g h : Guess) → fresh cache f pc h ≡ with_guess (fresh cache f pc g) h
unfolding fresh with_guess
fresh_alike cache (Bad e) pc g h = refl
fresh_alike cache (Got i) pc g h = class_as (kind_of i) cache i pc g h

-- so they request the same registers, and may have the same guesses
same_requests : (p : Passenger) (h : Guess) → requests (with_guess p h) ≡ requests p
unfolding with_guess
same_requests p h = refl

same_guesses : (p : Passenger) (g h : Guess) → may_guess g (with_guess p h) ≡ may_guess g p
unfolding with_guess
same_guesses p Next h = refl
same_guesses p Taken h = refl
same_guesses p Wait h = refl
same_guesses p (To t) h = refl

-- the row of a guess
issue_row : (there may full : Bool) → not (is_some (first there Occupied (first (not may) BadGuess (first full LaneFull None))))
    ≡ (not there && (may && not full))
issue_row true may full = refl
issue_row false false full = refl
issue_row false true true = refl
issue_row false true false = refl

none_there : (o : Option Cell) (c : Cell) → o ≡ Some c → on o None (λ d. d.passenger) ≡ None → is_some c.passenger ≡ false
none_there o c here none = rw (rw here at none) refl

issue_here : (plan : Plan) (s : State) (g : Guess) (c : Cell) (pc : ℕ) → s.fetch ≡ Running pc → cell_at s.cells 1 ≡ Some c → is_some c.passenger ≡ false →
    row_allows plan s (Issue g) ≡ (may_guess g (issued_at plan s pc g) && not (nat_lt plan.lane (length s.lane + length (requests (issued_at plan s pc g)))))
issue_here plan s g c pc runs here free = rw (here, runs, free) (issue_row false (may_guess g (issued_at plan s pc g))
    (nat_lt plan.lane (length s.lane + length (requests (issued_at plan s pc g)))))

-- there is a lowest stage
lowest : (plan : Plan) (s : State) → IsProcessor plan s → (c : Cell) × (cell_at s.cells 1 ≡ Some c)
lowest plan s h = first_of s.cells (omega (arith, h.stages, h.accepted.stages.0))
  where
    first_of : (cells : List Cell) → 0 < length cells → (c : Cell) × (cell_at cells 1 ≡ Some c)
    first_of [] some = absurd (omega arith)
    first_of (c ∷ cells) some = (c, refl)

pub issue-free : (plan : Plan) (s : State) (pc : ℕ) (g : Guess) → IsProcessor plan s → s.fetch ≡ Running pc → passenger_at s.cells 1 ≡ None →
    row_allows plan s (Issue g) ≡ (may_guess g (issued_at plan s pc Next) && not
    (nat_lt plan.lane (length s.lane + length (requests (issued_at plan s pc Next)))))
issue-free plan s pc g h runs none =
    let b = lowest plan s h in
    let alike = fresh_alike s.cache (fetched (isa_of plan) s.mem pc) pc Next g in
    issue_here plan s g b.0 pc runs b.1 (none_there (cell_at s.cells 1) b.0 b.1 none)
    ∙ rw (alike, same_requests (issued_at plan s pc Next) g, same_guesses (issued_at plan s pc Next) g g) refl

-- if the lane has no room for the requests, no guess is allowed; if it has room, those are allowed that may be made
pub issue-full : (plan : Plan) (s : State) (pc : ℕ) (g : Guess) (p : Passenger) → IsProcessor plan s → s.fetch ≡ Running pc → passenger_at s.cells 1 ≡ None →
    p ≡ issued_at plan s pc Next →
    plan.lane < length s.lane + length (requests p) → false ≡ row_allows plan s (Issue g)
issue-full plan s pc g p h runs none is full =
    let e = rw (← is) at (issue-free plan s pc g h runs none) in
    let t : nat_lt plan.lane (length s.lane + length (requests p)) ≡ true = grind (arith, nat_tests) in
    sym (rw t at e ∙ and-false (may_guess g p))

pub issue-fits : (plan : Plan) (s : State) (pc : ℕ) (g : Guess) (p : Passenger) → IsProcessor plan s → s.fetch ≡ Running pc → passenger_at s.cells 1 ≡ None →
    p ≡ issued_at plan s pc Next →
    length s.lane + length (requests p) ≤ plan.lane → may_guess g p ≡ row_allows plan s (Issue g)
issue-fits plan s pc g p h runs none is fits =
    let e = rw (← is) at (issue-free plan s pc g h runs none) in
    let t : nat_lt plan.lane (length s.lane + length (requests p)) ≡ false = grind (arith, nat_tests) in
    sym (rw t at e ∙ and-true (may_guess g p))

-- nothing is issued if an instruction is in the lowest stage, or if fetch waits
taken_row : (plan : Plan) (s : State) (g : Guess) (c : Cell) (f : Fetch) → s.fetch ≡ f → is_some c.passenger ≡ true →
    not (is_some (issue_bar plan s g c)) ≡ false
taken_row plan s g c (Running pc) e there = rw (e, there) refl
taken_row plan s g c Waiting e there = rw e refl

pub issue-taken : (plan : Plan) (s : State) (g : Guess) → IsProcessor plan s → is_some (passenger_at s.cells 1) ≡ true → false ≡ row_allows plan s (Issue g)
issue-taken plan s g h there = let b = lowest plan s h in rw b.1 (sym (taken_row plan s g b.0 s.fetch refl (rw b.1 at there)))

waiting_row : (plan : Plan) (s : State) (g : Guess) (c : Cell) → s.fetch ≡ Waiting → false ≡ not (is_some (issue_bar plan s g c))
waiting_row plan s g c e = rw e refl

pub issue-waits : (plan : Plan) (s : State) (g : Guess) → IsProcessor plan s → s.fetch ≡ Waiting → false ≡ row_allows plan s (Issue g)
issue-waits plan s g h waits = let b = lowest plan s h in rw b.1 (waiting_row plan s g b.0 waits)

pub ruleset issue_barred = (issue-taken, issue-waits)
