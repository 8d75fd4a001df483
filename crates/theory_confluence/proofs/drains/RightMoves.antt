-- The change of each move leaves unchanged how many instructions are on the sequential path, and whether one of them
-- ends the program.
use Rattle.std.proofs.Common.{◌≡◌, ℕ, [], ◌∷◌, Option, Some, None, true, false, refl, arith}
use Rattle.cf_bind.specs.Meeting.{meeting}
use Rattle.cf_bind.specs.declared.packet.Packet.{Packet}
use Rattle.cf_bind.specs.declared.passenger.End.{End}
use Rattle.cf_bind.specs.declared.passenger.Passenger.{Passenger}
use Rattle.theory_refinement.proofs.walks.Launching.{sent_out}
use Rattle.theory_refinement.proofs.walks.PathFinish.{Finishes}
use Rattle.theory_refinement.proofs.walks.PathMeet.{met_items}
use Rattle.theory_confluence.proofs.drains.Right.{ahead}
use Rattle.cf_semantics.specs.state.Column.{Down, Up}
use Rattle.cf_semantics.specs.moves.Instructions.{Stops, finish_trap, step_at}
use Rattle.cf_semantics.specs.state.Passengers.{finish, goto, goto_undone, guessed, instruction, kind, value_in}
use Rattle.cf_semantics.specs.claims.Right.{Way, follows, past, stops}
use Rattle.cf_semantics.specs.claims.Walks.{walk}
use Rattle.rv_inst.specs.declared.isa.Isa.{Isa}
use Rattle.cf_semantics.specs.claims.Path as trail

-- Climb, Fall, Launch: another stage, or a flag that does not matter
pub rider_label : (isa : Isa) (i j : ℕ) (p : Passenger) (w : Way) → past isa (Up i p) w ≡ past isa (Up j p) w
unfolding past trail.past
rider_label isa i j p w = refl

pub packet_label : (isa : Isa) (i j : ℕ) (k : Packet) (w : Way) → past isa (Down i k) w ≡ past isa (Down j k) w
unfolding past trail.past
packet_label isa i j k w = refl

pub launch_count : (isa : Isa) (i : ℕ) (p : Passenger) (w : Way) → ((past isa (Up i (sent_out p)) w).count ≡ (past isa (Up i p) w).count)
    × ((past isa (Up i (sent_out p)) w).on ≡ (past isa (Up i p) w).on) × ((past isa (Up i (sent_out p)) w).stop ≡ (past isa (Up i p) w).stop)
unfolding past follows stops
launch_count isa i p w = (grind arith, grind arith, grind arith)

-- Send
pub send_count : (isa : Isa) (i : ℕ) (p : Passenger) (k : Packet) (w : Way) → p.owes ≡ Some k →
    ((walk (past isa) (Up i (record p { owes = None }) ∷ Down i k ∷ []) w).count ≡ (past isa (Up i p) w).count)
    × ((walk (past isa) (Up i (record p { owes = None }) ∷ Down i k ∷ []) w).on ≡ (past isa (Up i p) w).on)
    × ((walk (past isa) (Up i (record p { owes = None }) ∷ Down i k ∷ []) w).stop ≡ (past isa (Up i p) w).stop)
unfolding past follows stops
send_count isa i p k w e = (grind arith, grind arith, grind arith)

-- Meet
pub meet_count : (isa : Isa) (i : ℕ) (p : Passenger) (k : Packet) (w : Way) →
    ((walk (past isa) (met_items i (meeting p k).passenger (meeting p k).packet) w).count ≡ (walk (past isa) (Down i k ∷ Up i p ∷ []) w).count)
    × ((walk (past isa) (met_items i (meeting p k).passenger (meeting p k).packet) w).on ≡ (walk (past isa) (Down i k ∷ Up i p ∷ []) w).on)
    × ((walk (past isa) (met_items i (meeting p k).passenger (meeting p k).packet) w).stop ≡ (walk (past isa) (Down i k ∷ Up i p ∷ []) w).stop)
unfolding past trail.past meeting follows stops
meet_count isa i p k w = (grind arith, grind arith, grind arith)

-- Execute, Recover: if a turn or a halt is owed, what follows is off the path
pub finish_ahead : (isa : Isa) (i : ℕ) (p : Passenger) (w : Way) (a : Option ℕ) → p.done ≡ false →
    goto_undone (kind p) p ≡ guessed p.guess (instruction p) p.pc → p.dead ≡ false → w.path.barred ≡ false →
    Finishes p w.path.machine (step_at isa w.path.machine p.pc) a → trail.turns (finish p a).owes ≡ true → ahead (past isa (Up i p) w) ≡ false
unfolding past trail.past follows finish
finish_ahead isa i p w a u g d b f t = go (finish_trap (instruction p) p.pc (value_in p.src1) (value_in p.src2)) refl
  where
    go : (o : Option End) → finish_trap (instruction p) p.pc (value_in p.src1) (value_in p.src2) ≡ o → ahead (past isa (Up i p) w) ≡ false
    go (Some e) z = let s = f.stops e z in grind arith
    go None z = let m = f.goes z in let s = m.1 in let n = m.2.pc in grind arith

-- Launch of what memory does not permit
pub trap_ahead : (isa : Isa) (i : ℕ) (p : Passenger) (w : Way) (e : End) → p.dead ≡ false → w.path.barred ≡ false → step_at isa w.path.machine p.pc ≡ Stops e →
    ahead (past isa (Up i p) w) ≡ false
unfolding past trail.past follows
trap_ahead isa i p w e d b s = grind arith

-- Serve: below it the program goes nowhere yet
pub serve_ahead : (isa : Isa) (i : ℕ) (p : Passenger) (w : Way) → p.dead ≡ false → w.path.barred ≡ false → goto p ≡ None → ahead (past isa (Up i p) w) ≡ false
unfolding past trail.past
serve_ahead isa i p w d b g = grind arith
