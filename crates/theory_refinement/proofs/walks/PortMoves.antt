-- A meeting, and what is sent beside its owner, at the port.
use Rattle.std.proofs.Common.{◌≡◌, ℕ, [], ◌∷◌, Option, Some, None, true, ◌||◌, arith}
use Rattle.cf_bind.specs.Meeting.{garnered, meeting}
use Rattle.cf_bind.specs.declared.binding.Binding.{Binding}
use Rattle.cf_bind.specs.declared.packet.Packet.{Packet}
use Rattle.cf_bind.specs.declared.passenger.Passenger.{Passenger}
use Rattle.theory_refinement.proofs.walks.PathMeet.{met_items}
use Rattle.theory_refinement.proofs.walks.Port.{Follows}
use Rattle.theory_refinement.proofs.invariant.Port.{Dock, DockedAt, Fits, past}
use Rattle.cf_semantics.specs.state.Column.{Down, Up}
use Rattle.cf_semantics.specs.state.Passengers.{missing}
use Rattle.cf_semantics.specs.claims.Walks.{Everywhere, walk}
use Rattle.rv_inst.specs.declared.isa.Isa.{Isa}
use Rattle.theory_refinement.proofs.walks.Path as paths
use Rattle.cf_semantics.specs.claims.Path as trail

-- Send
pub send_fits : (isa : Isa) (i : ℕ) (p : Passenger) (k : Packet) (w : Dock) → p.owes ≡ Some k → Everywhere (Fits isa) (past isa) (Up i p ∷ []) w →
    Everywhere (Fits isa) (past isa) (Up i (record p { owes = None }) ∷ Down i k ∷ []) w
unfolding Fits DockedAt
send_fits isa i p k w e h = (record { live = h.0.live; order = h.0.order; served = h.0.served; permitted = h.0.permitted; answered = h.0.answered }, (tt, tt))

pub send_walk : (isa : Isa) (i : ℕ) (p : Passenger) (k : Packet) (w : Dock) → p.owes ≡ Some k → (w.path.barred ≡ true → w.risky ≡ true) →
    paths.Follows (walk (trail.past isa) (Up i p ∷ []) w.path) (walk (trail.past isa) (Up i (record p { owes = None }) ∷ Down i k ∷ []) w.path) →
    Everywhere (Fits isa) (past isa) (Up i p ∷ []) w → Follows (walk (past isa) (Up i p ∷ []) w)
    (walk (past isa) (Up i (record p { owes = None }) ∷ Down i k ∷ []) w)
unfolding Fits past DockedAt trail.past
send_walk isa i p k w e s f h = grind arith

garner_known : (r v : ℕ) (o : Option Binding) → missing o ≡ None → garnered r v o ≡ o
garner_known r v o e = grind arith

pub meet_fits : (isa : Isa) (i : ℕ) (p : Passenger) (k : Packet) (w : Dock) → ((p.launched || p.recovered) ≡ true → missing p.src1 ≡ None) →
    Everywhere (Fits isa) (past isa) (Down i k ∷ Up i p ∷ []) w → Everywhere (Fits isa) (past isa) (met_items i (meeting p k).passenger (meeting p k).packet) w
unfolding Fits past DockedAt trail.past meeting
meet_fits isa i p k w m h = grind (arith, garner_known)

result_x : (isa : Isa) (i : ℕ) (k : Packet) (q : trail.Walk) → (trail.past isa (Down i k) q).machine ≡ q.machine
unfolding trail.past
result_x isa i k q = grind arith

pub meet_mem : (isa : Isa) (i : ℕ) (p : Passenger) (k : Packet) (w : Dock) → Everywhere (Fits isa) (past isa) (Down i k ∷ Up i p ∷ []) w →
    (walk (past isa) (met_items i (meeting p k).passenger (meeting p k).packet) w).mem ≡ (walk (past isa) (Down i k ∷ Up i p ∷ []) w).mem
unfolding Fits past DockedAt meeting
meet_mem isa i p k w h = grind (arith, result_x)

pub meet_rest : (isa : Isa) (i : ℕ) (p : Passenger) (k : Packet) (w : Dock) → Everywhere (Fits isa) (past isa) (Down i k ∷ Up i p ∷ []) w →
    (walk (past isa) (met_items i (meeting p k).passenger (meeting p k).packet) w).rest ≡ (walk (past isa) (Down i k ∷ Up i p ∷ []) w).rest
unfolding Fits past DockedAt meeting
meet_rest isa i p k w h = grind (arith, result_x)

pub meet_code : (isa : Isa) (i : ℕ) (p : Passenger) (k : Packet) (w : Dock) → Everywhere (Fits isa) (past isa) (Down i k ∷ Up i p ∷ []) w →
    (walk (past isa) (met_items i (meeting p k).passenger (meeting p k).packet) w).code ≡ (walk (past isa) (Down i k ∷ Up i p ∷ []) w).code
unfolding Fits past DockedAt meeting
meet_code isa i p k w h = grind (arith, result_x)

pub meet_out : (isa : Isa) (i : ℕ) (p : Passenger) (k : Packet) (w : Dock) → Everywhere (Fits isa) (past isa) (Down i k ∷ Up i p ∷ []) w →
    (walk (past isa) (met_items i (meeting p k).passenger (meeting p k).packet) w).out ≡ (walk (past isa) (Down i k ∷ Up i p ∷ []) w).out
unfolding Fits past DockedAt meeting
meet_out isa i p k w h = grind (arith, result_x)

pub meet_answer : (isa : Isa) (i : ℕ) (p : Passenger) (k : Packet) (w : Dock) → Everywhere (Fits isa) (past isa) (Down i k ∷ Up i p ∷ []) w →
    (walk (past isa) (met_items i (meeting p k).passenger (meeting p k).packet) w).answer ≡ (walk (past isa) (Down i k ∷ Up i p ∷ []) w).answer
unfolding Fits past DockedAt meeting
meet_answer isa i p k w h = grind (arith, result_x)

pub meet_risky : (isa : Isa) (i : ℕ) (p : Passenger) (k : Packet) (w : Dock) → (walk (past isa)
    (met_items i (meeting p k).passenger (meeting p k).packet) w).risky ≡ true → (walk (past isa) (Down i k ∷ Up i p ∷ []) w).risky ≡ true
unfolding past meeting
meet_risky isa i p k w h = grind arith
