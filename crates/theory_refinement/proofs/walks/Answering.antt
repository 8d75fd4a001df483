-- Access: where there was no answer there is a value, and memory changes with it.
use Rattle.rv_inst.specs.declared.instruction.Instr.{Instr}
use Rattle.mem_regions.specs.Memory as memory
use Rattle.std.proofs.Common.{◌≡◌, ℕ, List, [], ◌∷◌, Option, Some, None, true, false, refl, ap, arith, ◌⊎◌}
use Rattle.cf_bind.specs.declared.packet.Packet.{Packet}
use Rattle.cf_bind.specs.declared.passenger.End.{End}
use Rattle.cf_bind.specs.declared.passenger.Passenger.{Passenger}
use Rattle.theory_refinement.proofs.instructions.Steps.{step_is}
use Rattle.theory_refinement.proofs.invariant.Port.{Dock, DockedAt, Fits, past}
use Rattle.cf_semantics.specs.claims.Ahead.{flies, has_ported}
use Rattle.cf_semantics.specs.state.Column.{Down, Item, Up}
use Rattle.cf_semantics.specs.moves.Instructions.{Bad, Fetched, Goes, Got, StepResult, Stops, at_pc, after_step, fetched, finish_trap, free_trap, is_memory, is_serial, kind_of, src1_of, src2_of, step_at, value_read}
use Rattle.cf_semantics.specs.state.Options.{is_some, on}
use Rattle.cf_semantics.specs.state.Passengers.{kind}
use Rattle.cf_semantics.specs.moves.Steps.{stepped_as}
use Rattle.cf_semantics.specs.claims.Walks.{Everywhere, walk}
use Rattle.rv_inst.specs.declared.classes.Class.{Class}
use Rattle.rv_inst.specs.declared.classes.Class.TheVariants.{Free, Memory, Serial}
use Rattle.rv_inst.specs.declared.isa.Isa.{Isa}
use Rattle.rv_machine.specs.Machine.{Machine}
use Rattle.theory_refinement.proofs.invariant.Sure as sure
use Rattle.cf_semantics.specs.claims.Path as trail
use Rattle.cf_semantics.specs.claims.Soundness.{Holds}

-- no operation of these is in Memory's siding
abbrev pub Landed : List Item → Type 0
Landed [] = Unit {0}
Landed (Up i p ∷ xs) = (flies p ≡ false) × Landed xs
Landed (Down i k ∷ xs) = Landed xs

ported_landed : (p : Passenger) (a b : Option ℕ) → flies p ≡ false → has_ported p a ≡ has_ported p b
ported_landed p a b e = grind arith

pub past_landed : (isa : Isa) (i : ℕ) (p : Passenger) (w : Dock) (b : Option ℕ) → flies p ≡ false →
    past isa (Up i p) (record w { answer = b }) ≡ record (past isa (Up i p) w) { answer = b }
unfolding past
past_landed isa i p w b e = rw (ported_landed p b w.answer e, e)

past_result : (isa : Isa) (i : ℕ) (k : Packet) (w : Dock) (b : Option ℕ) → past isa (Down i k) (record w { answer = b })
    ≡ record (past isa (Down i k) w) { answer = b }
unfolding past
past_result isa i k w b = refl

-- above the first instruction whose load or store is in the siding, the answer does not matter
pub walk_landed : (isa : Isa) (xs : List Item) (w : Dock) (b : Option ℕ) → Landed xs → walk (past isa) xs (record w { answer = b })
    ≡ record (walk (past isa) xs w) { answer = b }
walk_landed isa [] w b h = refl
walk_landed isa (Up i p ∷ xs) w b h = rw (past_landed isa i p w b h.0) (walk_landed isa xs (past isa (Up i p) w) b h.1)
walk_landed isa (Down i k ∷ xs) w b h = rw (past_result isa i k w b) (walk_landed isa xs (past isa (Down i k) w) b h)

fits_landed : (isa : Isa) (i : ℕ) (p : Passenger) (w : Dock) (b : Option ℕ) → flies p ≡ false → Fits isa (Up i p) w →
    Fits isa (Up i p) (record w { answer = b })
unfolding Fits DockedAt
fits_landed isa i p w b e h = record { live = h.live; order = h.order; served = h.served; permitted = h.permitted; answered = λ f. absurd (cc) }

pub fit_landed : (isa : Isa) (xs : List Item) (w : Dock) (b : Option ℕ) → Landed xs → Everywhere (Fits isa) (past isa) xs w →
    Everywhere (Fits isa) (past isa) xs (record w { answer = b })
fit_landed isa [] w b h f = tt
fit_landed isa (Up i p ∷ xs) w b h f = (fits_landed isa i p w b h.0 f.0, rw (past_landed isa i p w b h.0) (fit_landed isa xs (past isa (Up i p) w) b h.1 f.1))
fit_landed isa (Down i k ∷ xs) w b h f = (tt', rw (past_result isa i k w b) (fit_landed isa xs (past isa (Down i k) w) b h f.1))
  where
    tt' : Fits isa (Down i k) (record w { answer = b })
    tt' = unfold Fits in tt

-- none of these has passed the port
abbrev pub Unported : List Item → Type 0
Unported [] = Unit {0}
Unported (Up i p ∷ xs) = (has_ported p None ≡ false) × (flies p ≡ false ⊎ flies p ≡ true) × Unported xs
Unported (Down i k ∷ xs) = Unported xs

pub past_mem : (isa : Isa) (i : ℕ) (p : Passenger) (w : Dock) (m : memory.Memory) → w.answer ≡ None → has_ported p None ≡ false →
    past isa (Up i p) (record w { mem = m }) ≡ record (past isa (Up i p) w) { mem = m }
unfolding past
past_mem isa i p w m a e = rw (a, e)

-- a step of another class leaves memory
mem_on : (o : Option End) (n m : Machine) → n.hart.mem ≡ m.hart.mem → (after_step (on o (Goes n) Stops) m).hart.mem ≡ m.hart.mem
mem_on None n m e = e
mem_on (Some b) n m e = refl

class_mem : (c : Class) (i : Instr) (a b : ℕ) (m : Machine) → is_memory c ≡ false → is_serial c ≡ false →
    (after_step (stepped_as c i a b m) m).hart.mem ≡ m.hart.mem
class_mem Memory i a b m e f = absurd (cc)
class_mem Serial i a b m e f = absurd (cc)
class_mem Free i a b m e f = mem_on (free_trap i m.hart.pc) _ m refl
class_mem _ i a b m e f = mem_on (finish_trap i m.hart.pc a b) _ m refl

mem_at : (s : StepResult) (x : Machine) (pc : ℕ) → (after_step s (at_pc x pc)).hart.mem ≡ x.hart.mem → (after_step s x).hart.mem ≡ x.hart.mem
mem_at (Goes n) x pc e = e
mem_at (Stops b) x pc e = refl

step_mem : (isa : Isa) (p : Passenger) (x : Machine) (g : Option ℕ) → sure.IsSure isa p x (step_at isa x p.pc) g → is_memory (kind p) ≡ false →
    is_serial (kind p) ≡ false → (after_step (step_at isa x p.pc) x).hart.mem ≡ x.hart.mem
step_mem isa p x g h e f = go (fetched isa x.hart.mem p.pc) refl h.reads
  where
    go : (q : Fetched) → fetched isa x.hart.mem p.pc ≡ q → Holds p q → (after_step (step_at isa x p.pc) x).hart.mem ≡ x.hart.mem
    go (Got i) a k =
        let c : kind p ≡ kind_of i = ap (λ (o : Option Instr). on o Free kind_of) k in
        mem_at (step_at isa x p.pc) x p.pc (rw (step_is isa x p.pc i a) (class_mem (kind_of i) i (value_read x.hart.regs (src1_of i))
        (value_read x.hart.regs (src2_of i)) (at_pc x p.pc) (rw c at e) (rw c at f)))
    go (Bad b) a k = rw (h.values.ends b k.1)

-- a live memory operation has come back, or has not been launched and has a trap
abbrev pub Settled : List Item → Type 0
Settled [] = Unit {0}
Settled (Up i p ∷ xs) = (p.dead ≡ false → is_memory (kind p) ≡ true → p.recovered ≡ false → is_some p.ending ≡ true) × Settled xs
Settled (Down i k ∷ xs) = Settled xs

past_risky : (isa : Isa) (i : Item) (w : Dock) → (past isa i w).risky ≡ false → w.risky ≡ false
unfolding past
past_risky isa i w e = grind arith

pub walk_risky : (isa : Isa) (xs : List Item) (w : Dock) → (walk (past isa) xs w).risky ≡ false → w.risky ≡ false
walk_risky isa [] w e = e
walk_risky isa (i ∷ xs) w e = past_risky isa i w (walk_risky isa xs (past isa i w) e)

pub sure_mem : (isa : Isa) (p : Passenger) (w : trail.Walk) → sure.SureAt isa p w → is_memory (kind p) ≡ false → is_serial (kind p) ≡ false →
    (after_step (step_at isa w.machine p.pc) w.machine).hart.mem ≡ w.machine.hart.mem
unfolding sure.SureAt
sure_mem isa p w h e f = step_mem isa p w.machine w.goto h.0 e f

fresh_rider : (isa : Isa) (i : ℕ) (p : Passenger) (w : Dock) → (p.dead ≡ false → is_memory (kind p) ≡ true → p.recovered ≡ false → is_some p.ending ≡ true) →
    sure.Fits isa (Up i p) w.path → w.path.barred ≡ false → (past isa (Up i p) w).risky ≡ false → w.mem ≡ w.path.machine.hart.mem →
    (past isa (Up i p) w).mem ≡ (past isa (Up i p) w).path.machine.hart.mem
unfolding past trail.past sure.Fits
fresh_rider isa i p w s h b r e = grind (arith, sure_mem)

fresh_result : (isa : Isa) (i : ℕ) (k : Packet) (w : Dock) → w.mem ≡ w.path.machine.hart.mem →
    (past isa (Down i k) w).mem ≡ (past isa (Down i k) w).path.machine.hart.mem
unfolding past trail.past
fresh_result isa i k w e = grind arith

past_barred : (isa : Isa) (i : Item) (w : Dock) → (w.path.barred ≡ true → w.risky ≡ true) → (past isa i w).path.barred ≡ true → (past isa i w).risky ≡ true
unfolding past trail.past
past_barred isa i w s e = grind arith

path_past : (isa : Isa) (i : Item) (w : Dock) → (past isa i w).path ≡ trail.past isa i w.path
unfolding past
path_past isa (Up i p) w = refl
path_past isa (Down i k) w = refl

-- if nothing above will still touch memory, the port's memory is that of the path
pub fresh_above : (isa : Isa) (xs : List Item) (w : Dock) → Settled xs → Everywhere (sure.Fits isa) (trail.past isa) xs w.path →
    (w.path.barred ≡ true → w.risky ≡ true) → (walk (past isa) xs w).risky ≡ false → w.mem ≡ w.path.machine.hart.mem →
    (walk (past isa) xs w).mem ≡ (walk (past isa) xs w).path.machine.hart.mem
fresh_above isa [] w s f b r e = e
fresh_above isa (Up i p ∷ xs) w s f b r e =
    let r1 = walk_risky isa xs (past isa (Up i p) w) r in
    let r0 = past_risky isa (Up i p) w r1 in
    let b0 : w.path.barred ≡ false = grind (arith, b) in
    fresh_above isa xs (past isa (Up i p) w) s.1 (rw (path_past isa (Up i p) w) f.1) (past_barred isa (Up i p) w b) r (fresh_rider isa i p w s.0 f.0 b0 r1 e)
fresh_above isa (Down i k ∷ xs) w s f b r e =
    fresh_above isa xs (past isa (Down i k) w) s (rw (path_past isa (Down i k) w) f.1) (past_barred isa (Down i k) w b) r (fresh_result isa i k w e)
