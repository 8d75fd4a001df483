-- From the invariant: stops and sidings, parts (e) and (f) of soundness.
use Rattle.std.proofs.Common.{◌≡◌, ℕ, List, [], ◌∷◌, Some, Bool, true, false, refl, subst, ◌∙◌}
use Rattle.rv_inst.specs.declared.isa.Isa.{Isa}
use Rattle.rv_machine.specs.Machine.{Machine}
use Rattle.cf_layout.specs.Layout.{Plan}
use Rattle.cf_bind.specs.declared.packet.Packet.{Packet}
use Rattle.cf_bind.specs.declared.passenger.Passenger.{Passenger}
use Rattle.cf_semantics.specs.claims.Ahead.{flies}
use Rattle.cf_semantics.specs.state.Column.{Down, Item, Up}
use Rattle.cf_semantics.specs.moves.Instructions.{after_step, step_at}
use Rattle.cf_semantics.specs.state.Layouts.{isa_of, port}
use Rattle.cf_semantics.specs.state.Options.{When}
use Rattle.cf_semantics.specs.claims.Path.{Walk, is_sure}
use Rattle.cf_semantics.specs.state.Places.{Standing, known}
use Rattle.cf_semantics.specs.claims.Soundness.{IsAnswer, NoneFlies, SidingsAgree, StopsInTime}
use Rattle.cf_semantics.specs.state.State.{State}
use Rattle.cf_semantics.specs.claims.Walks.{walk}
use Rattle.theory_refinement.proofs.invariant.Invariant.{Sound}
use Rattle.theory_refinement.proofs.invariant.Port as dock
use Rattle.theory_refinement.proofs.invariant.Stands.{Stands}
use Rattle.theory_refinement.proofs.column.Change.{here}

-- (e) stops
pub stops : {rest out : List ℕ} (plan : Plan) (s : State) (x : Machine) → Sound plan s rest out x → StopsInTime plan s
stops {rest} {out} plan s x h = record {
  low = λ p d u n. (stands p).low d u n;
  out = λ p a b. (stands p).out a b;
  back = λ p a. (stands p).back a;
  back_done = λ p a d. (stands p).back_done a d;
  owing = λ p e. ((stands p).owes_live e, (stands p).owes_done e);
}
  where
    stands : (p : Standing s) → Stands plan p.stage p.who
    stands p = (here plan s x p.above (Up p.stage p.who ∷ []) p.below p.split h).stands.0

-- (f) sidings above the first instruction whose operation is in Memory's siding the answer is unchanged
answer_rider : (isa : Isa) (i : ℕ) (p : Passenger) (w : dock.Dock) → flies p ≡ false → (dock.past isa (Up i p) w).answer ≡ w.answer
unfolding dock.past
answer_rider isa i p w e = rw e refl

answer_packet : (isa : Isa) (i : ℕ) (k : Packet) (w : dock.Dock) → (dock.past isa (Down i k) w).answer ≡ w.answer
unfolding dock.past
answer_packet isa i k w = refl

answer_kept : (isa : Isa) (xs : List Item) (w : dock.Dock) → NoneFlies xs → (walk (dock.past isa) xs w).answer ≡ w.answer
answer_kept isa [] w h = refl
answer_kept isa (Up i p ∷ xs) w h = answer_kept isa xs (dock.past isa (Up i p) w) h.1 ∙ answer_rider isa i p w h.0
answer_kept isa (Down i k ∷ xs) w h = answer_kept isa xs (dock.past isa (Down i k) w) h ∙ answer_packet isa i k w

-- the answer is the value of the first instruction whose operation is in the siding
answers_it : (isa : Isa) (i : ℕ) (p : Passenger) (w : dock.Dock) (v : Walk) (a : ℕ) → w.path ≡ v → flies p ≡ true → w.answer ≡ Some a →
    dock.Fits isa (Up i p) w → IsAnswer p.dst (after_step (step_at isa v.machine p.pc) v.machine).hart.regs a
unfolding dock.Fits dock.DockedAt
answers_it isa i p w v a e f g h =
    let q = h.answered f a g in
    subst (λ (z : Walk). IsAnswer p.dst (after_step (step_at isa z.machine p.pc) z.machine).hart.regs a) e q

whenever : {A : Type 0} (b : Bool) → A → When b A
whenever true a = a
whenever false a = tt

pub sidings : {rest out : List ℕ} (plan : Plan) (s : State) (x : Machine) → Sound plan s rest out x → SidingsAgree plan s x
sidings plan s x h = record {
  operations = h.moored.operations;
  memory_alone = h.moored.plain;
  last_alone = h.moored.front (port plan);
  answers = λ p a f g e.
      let isa = isa_of plan in
      let v = known isa s x p.above in
      let w = walk (dock.past isa) p.above (dock.top plan s x) in
      let k = here plan s x p.above (Up p.stage p.who ∷ []) p.below p.split h in
      whenever (is_sure p.who v) (answers_it isa p.stage p.who w v a k.same f (answer_kept isa p.above (dock.top plan s x) g ∙ e) k.port_fit.0);
}
