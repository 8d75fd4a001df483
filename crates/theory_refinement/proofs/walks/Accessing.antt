-- Access: the port's memory goes on by one store or load, and all else is unchanged.
use Rattle.rv_inst.specs.declared.instruction.Instr.{Instr}
use Rattle.mem_regions.specs.Memory as memory
use Rattle.std.proofs.Common.{◌≡◌, ℕ, List, [], ◌∷◌, ◌++◌, Option, Some, None, true, false, refl, sym, ap, subst, ◌∙◌, arith}
use Rattle.cf_bind.specs.declared.passenger.End.{End}
use Rattle.cf_bind.specs.declared.passenger.Passenger.{Passenger}
use Rattle.theory_refinement.proofs.walks.Answering.{Landed, fit_landed, past_mem, walk_landed}
use Rattle.theory_refinement.proofs.column.Fold.{fit_append, fit_back, fit_front, walk_append}
use Rattle.theory_refinement.proofs.instructions.Steps.{step_is}
use Rattle.theory_refinement.proofs.invariant.Port.{Dock, DockedAt, Fits, past}
use Rattle.cf_semantics.specs.claims.Ahead.{flies, has_ported}
use Rattle.cf_semantics.specs.state.Column.{Down, Item, Up}
use Rattle.cf_semantics.specs.moves.Instructions.{Goes, Got, Stops, access_trap, after_step, fetched, kind_of, mem_after, src1_of, src2_of, step_at, value_read}
use Rattle.cf_semantics.specs.state.Options.{on}
use Rattle.cf_semantics.specs.claims.Walks.{Everywhere, walk}
use Rattle.cf_semantics.specs.claims.Soundness.{IsAnswer}
use Rattle.mem_regions.specs.Access.{bounds_of}
use Rattle.rv_inst.specs.declared.classes.Class.TheVariants.{Memory}
use Rattle.rv_inst.specs.declared.isa.Isa.{Isa}
use Rattle.rv_machine.specs.Machine.{Machine}

-- none of these has passed the port
abbrev pub Waiting : List Item → Type 0
Waiting [] = Unit {0}
Waiting (Up i p ∷ xs) = (has_ported p None ≡ false) × Waiting xs
Waiting (Down i k ∷ xs) = Waiting xs

none_past : (isa : Isa) (i : Item) (w : Dock) → w.answer ≡ None → (past isa i w).answer ≡ None
unfolding past
none_past isa i w e = grind arith

mem_result : (isa : Isa) (i : ℕ) (k : _) (w : Dock) (m : memory.Memory) → past isa (Down i k) (record w { mem = m })
    ≡ record (past isa (Down i k) w) { mem = m }
unfolding past
mem_result isa i k w m = refl

-- below, memory is passed on unchanged
pub walk_waiting : (isa : Isa) (xs : List Item) (w : Dock) (m : memory.Memory) → Waiting xs → w.answer ≡ None →
    walk (past isa) xs (record w { mem = m }) ≡ record (walk (past isa) xs w) { mem = m }
walk_waiting isa [] w m h e = refl
walk_waiting isa (Up i p ∷ xs) w m h e =
    ap (λ (v : Dock). walk (past isa) xs v) (past_mem isa i p w m e h.0) ∙ walk_waiting isa xs (past isa (Up i p) w) m h.1 (none_past isa (Up i p) w e)
walk_waiting isa (Down i k ∷ xs) w m h e =
    ap (λ (v : Dock). walk (past isa) xs v) (mem_result isa i k w m) ∙ walk_waiting isa xs (past isa (Down i k) w) m h (none_past isa (Down i k) w e)

fits_mem : (isa : Isa) (i : Item) (w : Dock) (m : memory.Memory) → Fits isa i w → Fits isa i (record w { mem = m })
unfolding Fits DockedAt
fits_mem isa (Up i p) w m h = h
fits_mem isa (Down i k) w m h = h

pub fit_waiting : (isa : Isa) (xs : List Item) (w : Dock) (m : memory.Memory) → Waiting xs → w.answer ≡ None → Everywhere (Fits isa) (past isa) xs w →
    Everywhere (Fits isa) (past isa) xs (record w { mem = m })
fit_waiting isa [] w m h e f = tt
fit_waiting isa (Up i p ∷ xs) w m h e f = (
  fits_mem isa (Up i p) w m f.0,
  subst (λ (v : Dock). Everywhere (Fits isa) (past isa) xs v) (sym (past_mem isa i p w m e h.0))
      (fit_waiting isa xs (past isa (Up i p) w) m h.1 (none_past isa (Up i p) w e) f.1),
)
fit_waiting isa (Down i k ∷ xs) w m h e f = (
  fits_mem isa (Down i k) w m f.0,
  subst (λ (v : Dock). Everywhere (Fits isa) (past isa) xs v) (sym (mem_result isa i k w m))
      (fit_waiting isa xs (past isa (Down i k) w) m h (none_past isa (Down i k) w e) f.1),
)

-- at the instruction whose operation is answered
at_port : (isa : Isa) (i : ℕ) (p : Passenger) (w : Dock) (a : ℕ) → p.dead ≡ false → flies p ≡ true → w.answer ≡ None →
    past isa (Up i p) (record w { answer = Some a }) ≡ record
    (past isa (Up i p) w) { mem = (after_step (step_at isa w.path.machine p.pc) w.path.machine).hart.mem }
unfolding past
at_port isa i p w a d f e =
    let t : has_ported p (Some a) ≡ true = grind arith in
    rw (e, t, f)

docked_at : (isa : Isa) (p : Passenger) (w : Dock) (a : ℕ) → IsAnswer p.dst (after_step (step_at isa w.path.machine p.pc) w.path.machine).hart.regs a →
    DockedAt isa p w → DockedAt isa p (record w { answer = Some a })
unfolding DockedAt
docked_at isa p w a n h =
    record {
      live = h.live;
      order = h.order;
      served = h.served;
      permitted = h.permitted;
      answered = λ f b e. let q : a ≡ b = cc in
          subst (λ (c : ℕ). IsAnswer p.dst (after_step (step_at isa w.path.machine p.pc) w.path.machine).hart.regs c) q n;
    }

pub access_fits : (isa : Isa) (i : ℕ) (p : Passenger) (above below : List Item) (w : Dock) (a : ℕ) → Landed above → Waiting below → p.dead ≡ false →
    flies p ≡ true → (walk (past isa) above w).answer ≡ None → IsAnswer p.dst (after_step (step_at isa (walk (past isa) above w).path.machine p.pc)
    (walk (past isa) above w).path.machine).hart.regs a → Everywhere (Fits isa) (past isa) (above ++ (Up i p ∷ below)) w →
    Everywhere (Fits isa) (past isa) (above ++ (Up i p ∷ below)) (record w { answer = Some a })
    × (walk (past isa) (above ++ (Up i p ∷ below)) (record w { answer = Some a }) ≡ record
    (walk (past isa) (above ++ (Up i p ∷ below)) w)
    { mem = (after_step (step_at isa (walk (past isa) above w).path.machine p.pc) (walk (past isa) above w).path.machine).hart.mem })
access_fits isa i p above below w a la wa d f e n h =
    let u = walk (past isa) above w in
    let m = (after_step (step_at isa u.path.machine p.pc) u.path.machine).hart.mem in
    let back = fit_back Dock (Fits isa) (past isa) above (Up i p ∷ below) w h in
    let top = walk_landed isa above w (Some a) la in
    let here : Fits isa (Up i p) (record u { answer = Some a }) = unfold Fits in docked_at isa p u a n back.0 in
    let none : (past isa (Up i p) u).answer ≡ None = none_past isa (Up i p) u e in
    let step = at_port isa i p u a d f e in
    let rest : Everywhere (Fits isa) (past isa) below (past isa (Up i p) (record u { answer = Some a })) =
    subst (λ (v : Dock). Everywhere (Fits isa) (past isa) below v) (sym step) (fit_waiting isa below (past isa (Up i p) u) m wa none back.1) in (
      fit_append Dock (Fits isa) (past isa) above (Up i p ∷ below) (record w { answer = Some a })
          (fit_landed isa above w (Some a) la (fit_front Dock (Fits isa) (past isa) above _ w h))
          (subst (λ (v : Dock). Everywhere (Fits isa) (past isa) (Up i p ∷ below) v) (sym top) (here, rest)),
      walk_append (past isa) above (Up i p ∷ below) (record w { answer = Some a }) ∙ ap (λ (v : Dock). walk (past isa) (Up i p ∷ below) v) top
          ∙ ap (λ (v : Dock). walk (past isa) below v) step ∙ walk_waiting isa below (past isa (Up i p) u) m wa none
          ∙ ap (λ (v : Dock). record v { mem = m }) (sym (walk_append (past isa) above (Up i p ∷ below) w)),
    )

-- the second law: a permitted access
memory_step : (o : Option End) (n m : Machine) → o ≡ None → (after_step (on o (Goes n) Stops) m) ≡ n
memory_step o n m e = rw e

pub memory_after : (isa : Isa) (p : Passenger) (x : Machine) (i : Instr) → fetched isa x.hart.mem p.pc ≡ Got i → kind_of i ≡ Memory →
    access_trap i p.pc (value_read x.hart.regs (src1_of i)) (bounds_of x.hart.mem) ≡ None →
    (after_step (step_at isa x p.pc) x).hart.mem ≡ mem_after i (value_read x.hart.regs (src1_of i)) (value_read x.hart.regs (src2_of i)) x.hart.mem
memory_after isa p x i f c t = rw (step_is isa x p.pc i f, c, t)
