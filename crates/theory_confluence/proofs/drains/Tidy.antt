-- What else every move preserves: a stage that has met holds an instruction and a result, the number of sidings is
-- unchanged, and nothing fails.
use Rattle.std.proofs.Common.{◌≡◌, ℕ, zero, suc, ◌+◌, ◌-◌, List, [], ◌∷◌, length, Option, Some, None, Bool, true, false, ◌&&◌, ◌||◌, not, refl, ap, ◌∙◌, arith}
use Rattle.std.specs.Prelude.{slice_get, slice_set, replicate, map}
use Rattle.rv_machine.specs.Machine.{Machine}
use Rattle.cf_layout.specs.Layout.{Plan, SidingPlan}
use Rattle.cf_bind.specs.declared.cell.Cell.{Cell}
use Rattle.cf_bind.specs.declared.moves.Move.{Move}
use Rattle.cf_bind.specs.declared.moves.Move.TheVariants.{Access, Climb, Emit, Execute, Exit, Fall, Issue, Launch, Leave, Meet, Recover, Send, Serve, Slide}
use Rattle.cf_bind.specs.declared.packet.Packet.{Packet}
use Rattle.cf_bind.specs.declared.passenger.Passenger.{Passenger}
use Rattle.cf_bind.specs.Meeting.{meeting}
use Rattle.cf_layout.specs.Layout.{siding_of}
use Rattle.rv_machine.specs.Call.{Called}
use Rattle.rv_machine.specs.Call as called
use Rattle.cf_semantics.specs.moves.Instructions.{serve_of}
use Rattle.cf_semantics.specs.state.Passengers.{instruction, kind}
use Rattle.cf_semantics.specs.state.Layouts.{port}
use Rattle.cf_semantics.specs.moves.Bars.{bar, running, last_op}
use Rattle.cf_semantics.specs.state.Options.{is_some, on}
use Rattle.cf_semantics.specs.state.State.{State, Moment, cell_at, put_cell, siding_at}
use Rattle.cf_semantics.specs.moves.Moves.{asked, cell_met, emitted, launch_trap, launched, left, moved, next, recovered, sent, served, with_passenger}
use Rattle.theory_refinement.proofs.moves.Rows.{bar_row}
use Rattle.theory_refinement.proofs.moves.Send.{send_ready}
use Rattle.cf_semantics.specs.runs.Runs.{IsRun, run, opened, empty_cell, empty_siding}
use Rattle.theory_refinement.proofs.moves.Leave.{left_cells}

-- a stage has met only if both are there
abbrev pub is_neat : Cell → Bool
is_neat c = not c.met || (is_some c.passenger && is_some c.packet)

pub all_neat : List Cell → Bool
all_neat [] = true
all_neat (c ∷ cells) = is_neat c && all_neat cells

pub neat_parts : (c : Cell) (cells : List Cell) → all_neat (c ∷ cells) ≡ true → (is_neat c ≡ true) × (all_neat cells ≡ true)
unfolding all_neat
neat_parts c cells h = (grind arith, grind arith)

set_neat : (cells : List Cell) (k : ℕ) (c : Cell) → all_neat cells ≡ true → is_neat c ≡ true → all_neat (slice_set cells k c) ≡ true
unfolding all_neat
set_neat [] k c h n = refl
set_neat (d ∷ cells) zero c h n = grind arith
set_neat (d ∷ cells) (suc k) c h n = let z = set_neat cells k c (grind arith) n in grind arith

put_neat : (cells : List Cell) (i : ℕ) (c : Cell) → all_neat cells ≡ true → is_neat c ≡ true → all_neat (put_cell cells i c) ≡ true
put_neat cells zero c h n = h
put_neat cells (suc k) c h n = set_neat cells k c h n

get_neat : (cells : List Cell) (k : ℕ) (c : Cell) → all_neat cells ≡ true → slice_get cells k ≡ Some c → is_neat c ≡ true
unfolding all_neat
get_neat [] k c h e = absurd (cc)
get_neat (d ∷ cells) zero c h e = let z : d ≡ c = cc in grind arith
get_neat (d ∷ cells) (suc k) c h e = get_neat cells k c (grind arith) e

at_neat : (cells : List Cell) (i : ℕ) (c : Cell) → all_neat cells ≡ true → cell_at cells i ≡ Some c → is_neat c ≡ true
at_neat cells zero c h e = absurd (cc)
at_neat cells (suc k) c h e = get_neat cells k c h e

set_length : {A : Type 0} → (l : List A) (k : ℕ) (a : A) → length (slice_set l k a) ≡ length l
set_length [] k a = refl
set_length (b ∷ l) zero a = refl
set_length (b ∷ l) (suc k) a = ap suc (set_length l k a)

pub record IsTidy (plan : Plan) (s : State) : Type 0 where
  pub neat : all_neat s.cells ≡ true
  pub sidings : length s.sidings ≡ length plan.sidings
  pub failed : s.failed ≡ false

-- a choice by whether there is something
neat_on : {A : Type 0} → (o : Option A) (d : State) (f : A → State) → all_neat d.cells ≡ true → ((a : A) → o ≡ Some a → all_neat (f a).cells ≡ true) →
    all_neat (on o d f).cells ≡ true
neat_on None d f h g = h
neat_on (Some a) d f h g = g a refl

-- another instruction in the same stage
seat_neat : (c : Cell) (p : Passenger) → is_neat c ≡ true → is_neat (with_passenger c p) ≡ true
seat_neat c p h = grind arith

seated : (s : State) (i : ℕ) (c : Cell) (p : Passenger) → all_neat s.cells ≡ true → cell_at s.cells i ≡ Some c →
    all_neat (put_cell s.cells i (with_passenger c p)) ≡ true
seated s i c p h e = put_neat s.cells i _ h (seat_neat c p (at_neat s.cells i c h e))

met_neat : (c : Cell) (p : Passenger) (k : Packet) → is_neat (cell_met c p k) ≡ true
met_neat c p k = go (is_some (meeting p k).packet)
  where
    go : (b : Bool) → (not b || (true && b)) ≡ true
    go true = refl
    go false = refl

sent_neat : (p : Passenger) (k : Packet) → p.owes ≡ Some k → is_neat (sent p) ≡ true
sent_neat p k e = rw e refl

emit_neat : (s : State) (n : ℕ) (lane : List ℕ) (c : Cell) → all_neat s.cells ≡ true → all_neat (emitted s n lane c).cells ≡ true
emit_neat s n [] c h = h
emit_neat s n (r ∷ lane) c h = put_neat s.cells n _ h refl

leave_neat : (s : State) (n : ℕ) (c : Cell) (p : Passenger) → all_neat s.cells ≡ true → all_neat (left s n c p).cells ≡ true
leave_neat s n c p h = ap all_neat (left_cells s n c p) ∙ put_neat s.cells n _ h refl

launch_neat : (l : Plan) (s : State) (i : ℕ) (c : Cell) (p : Passenger) → all_neat s.cells ≡ true → cell_at s.cells i ≡ Some c →
    all_neat (launched l s i c p).cells ≡ true
launch_neat l s i c p h e = neat_on (launch_trap s p) _ _ (neat_on (siding_of l (kind p)) s _ h (λ k _. seated s i c _ h e)) (λ b _. seated s i c _ h e)

recover_neat : (l : Plan) (s : State) (i : ℕ) (c : Cell) (p : Passenger) → all_neat s.cells ≡ true → cell_at s.cells i ≡ Some c →
    all_neat (recovered l s i c p).cells ≡ true
recover_neat l s i c p h e = neat_on (siding_of l (kind p)) s _ h (λ k _. neat_on (last_op (siding_at s k)) s _ h (λ op _. seated s i c _ h e))

move_neat : (l : Plan) (s : State) (mv : Move) → bar l s mv ≡ None → all_neat s.cells ≡ true → all_neat (moved l s mv).cells ≡ true
unfolding moved
move_neat l s (Issue g) b h = neat_on (cell_at s.cells 1) s _ h (λ c _. neat_on (running s.fetch) s _ h (λ pc _. set_neat s.cells 0 _ h refl))
move_neat l s Emit b h = neat_on (cell_at s.cells l.stages) s _ h (λ c _. emit_neat s l.stages s.lane c h)
move_neat l s (Climb i) b h = neat_on (cell_at s.cells i) s _ h (λ c _. neat_on (cell_at s.cells (i + 1)) s _ h
    (λ d _. put_neat _ (i + 1) _ (put_neat s.cells i _ h refl) refl))
move_neat l s (Fall i) b h = neat_on (cell_at s.cells i) s _ h (λ c _. neat_on (cell_at s.cells (i - 1)) s _ h
    (λ d _. put_neat _ (i - 1) _ (put_neat s.cells i _ h refl) refl))
move_neat l s (Meet i) b h = neat_on (cell_at s.cells i) s _ h (λ c _. neat_on c.passenger s _ h
    (λ p _. neat_on c.packet s _ h (λ k _. put_neat s.cells i _ h (met_neat c p k))))
move_neat l s (Execute i) b h = neat_on (cell_at s.cells i) s _ h (λ c e. neat_on c.passenger s _ h (λ p _. seated s i c _ h e))
move_neat l s (Send i) b h = let r = send_ready l s i (bar_row l s (Send i) b) in rw (r.at_here, r.sits)
    (put_neat s.cells i _ h (sent_neat r.who r.what r.owes))
move_neat l s (Launch i) b h = neat_on (cell_at s.cells i) s _ h (λ c e. neat_on c.passenger s _ h (λ p _. launch_neat l s i c p h e))
move_neat l s (Slide k c) b h = neat_on (slice_get (siding_at s k) c) s _ h (λ o _. h)
move_neat l s Access b h = neat_on (last_op (siding_at s (port l))) s _ h (λ op _. h)
move_neat l s (Recover i) b h = neat_on (cell_at s.cells i) s _ h (λ c e. neat_on c.passenger s _ h (λ p _. recover_neat l s i c p h e))
move_neat l s Leave b h = neat_on (cell_at s.cells l.stages) s _ h (λ c e. neat_on c.passenger s _ h (λ p _. leave_neat s l.stages c p h))
move_neat l s Exit b h = neat_on (cell_at s.cells 1) s _ h (λ c _. neat_on c.packet s _ h (λ k _. set_neat s.cells 0 _ h refl))
move_neat l s Serve b h = h

move_sidings : (l : Plan) (s : State) (mv : Move) → length (moved l s mv).sidings ≡ length s.sidings
unfolding moved
move_sidings l s (Issue g) = grind arith
move_sidings l s Emit = grind arith
move_sidings l s (Climb i) = grind arith
move_sidings l s (Fall i) = grind arith
move_sidings l s (Meet i) = grind arith
move_sidings l s (Execute i) = grind arith
move_sidings l s (Send i) = grind arith
move_sidings l s (Launch i) = grind (arith, set_length)
move_sidings l s (Slide k c) = grind (arith, set_length)
move_sidings l s Access = grind (arith, set_length)
move_sidings l s (Recover i) = grind (arith, set_length)
move_sidings l s Leave = grind arith
move_sidings l s Exit = grind arith
move_sidings l s Serve = refl

move_failed : (l : Plan) (s : State) (mv : Move) → (moved l s mv).failed ≡ s.failed
unfolding moved
move_failed l s (Issue g) = grind arith
move_failed l s Emit = grind arith
move_failed l s (Climb i) = grind arith
move_failed l s (Fall i) = grind arith
move_failed l s (Meet i) = grind arith
move_failed l s (Execute i) = grind arith
move_failed l s (Send i) = grind arith
move_failed l s (Launch i) = grind arith
move_failed l s (Slide k c) = grind arith
move_failed l s Access = grind arith
move_failed l s (Recover i) = grind arith
move_failed l s Leave = grind arith
move_failed l s Exit = grind arith
move_failed l s Serve = refl

serve_neat : (l : Plan) (m : Moment) → all_neat m.state.cells ≡ true → all_neat (next l m Serve).state.cells ≡ true
unfolding next
serve_neat l m h = go (cell_at m.state.cells l.stages) refl
  where
    answer : (c : Cell) (p : Passenger) (a : Called) → cell_at m.state.cells l.stages ≡ Some c → all_neat (served m l.stages c p a).state.cells ≡ true
    answer c p (called.Value a) e = seated m.state l.stages c _ h e
    answer c p (called.Exit z) e = seated m.state l.stages c _ h e

    who : (c : Cell) (o : Option Passenger) → cell_at m.state.cells l.stages ≡ Some c → all_neat (on o m (asked m l.stages c)).state.cells ≡ true
    who c None e = h
    who c (Some p) e = answer c p (serve_of (instruction p) m.state.regs m.state.mem m.rest) e

    go : (o : Option Cell) → cell_at m.state.cells l.stages ≡ o → all_neat (on o m (λ c. on c.passenger m (asked m l.stages c))).state.cells ≡ true
    go None e = h
    go (Some c) e = who c c.passenger e

serve_stays : (l : Plan) (m : Moment) → ((next l m Serve).state.sidings ≡ m.state.sidings) × ((next l m Serve).state.failed ≡ m.state.failed)
unfolding next
serve_stays l m = (grind arith, grind arith)

tidy_moved : (l : Plan) (s : State) (mv : Move) → bar l s mv ≡ None → IsTidy l s → IsTidy l (moved l s mv)
tidy_moved l s mv b h = record { neat = move_neat l s mv b h.neat; sidings = move_sidings l s mv ∙ h.sidings; failed = move_failed l s mv ∙ h.failed }

pub tidy_next : (l : Plan) (m : Moment) (mv : Move) → bar l m.state mv ≡ None → IsTidy l m.state → IsTidy l (next l m mv).state
unfolding next
tidy_next l m Serve b h = record { neat = serve_neat l m h.neat; sidings = ap length (serve_stays l m).0 ∙ h.sidings; failed = (serve_stays l m).1 ∙ h.failed }
tidy_next l m (Issue g) b h = tidy_moved l m.state (Issue g) b h
tidy_next l m Emit b h = tidy_moved l m.state Emit b h
tidy_next l m (Climb i) b h = tidy_moved l m.state (Climb i) b h
tidy_next l m (Fall i) b h = tidy_moved l m.state (Fall i) b h
tidy_next l m (Meet i) b h = tidy_moved l m.state (Meet i) b h
tidy_next l m (Execute i) b h = tidy_moved l m.state (Execute i) b h
tidy_next l m (Send i) b h = tidy_moved l m.state (Send i) b h
tidy_next l m (Launch i) b h = tidy_moved l m.state (Launch i) b h
tidy_next l m (Slide k c) b h = tidy_moved l m.state (Slide k c) b h
tidy_next l m Access b h = tidy_moved l m.state Access b h
tidy_next l m (Recover i) b h = tidy_moved l m.state (Recover i) b h
tidy_next l m Leave b h = tidy_moved l m.state Leave b h
tidy_next l m Exit b h = tidy_moved l m.state Exit b h

pub tidy_run : (l : Plan) (m : Moment) (moves : List Move) → IsRun l m moves → IsTidy l m.state → IsTidy l (run l m moves).state
unfolding run IsRun
tidy_run l m [] r h = h
tidy_run l m (mv ∷ moves) r h = tidy_run l (next l m mv) moves r.1 (tidy_next l m mv r.0 h)

neat_empty : (n : ℕ) → all_neat (replicate n empty_cell) ≡ true
unfolding all_neat
neat_empty zero = refl
neat_empty (suc n) = neat_empty n

map_length : (ss : List SidingPlan) → length (map empty_siding ss) ≡ length ss
map_length [] = refl
map_length (s ∷ ss) = ap suc (map_length ss)

pub tidy_opened : (l : Plan) (x : Machine) → IsTidy l (opened l x)
unfolding opened
tidy_opened l x = record { neat = neat_empty l.stages; sidings = map_length l.sidings; failed = refl }
