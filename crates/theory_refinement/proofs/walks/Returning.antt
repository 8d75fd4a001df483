-- An instruction that is marked as recovered, before it finishes.
use Rattle.std.proofs.Common.{◌≡◌, ℕ, Option, Bool, true, false, ◌||◌, refl, sym, ap, ◌∙◌, arith}
use Rattle.std.specs.Prelude.{if◌then◌else◌}
use Rattle.cf_bind.specs.declared.passenger.Passenger.{Passenger}
use Rattle.cf_layout.specs.Layout.{Plan}
use Rattle.theory_refinement.proofs.walks.Marked.{marked_at}
use Rattle.theory_refinement.proofs.walks.Finishing.{finish_dead, finish_done, finish_flags, finish_kind}
use Rattle.theory_refinement.proofs.invariant.Stands.{Behind, Stands}
use Rattle.cf_semantics.specs.state.Column.{Up}
use Rattle.cf_semantics.specs.moves.Instructions.{is_free, is_memory, is_serial}
use Rattle.cf_semantics.specs.state.Passengers.{finish, goto, goto_done, goto_undone, kind}
use Rattle.rv_inst.specs.declared.classes.Class.{Class}
use Rattle.rv_inst.specs.declared.classes.Class.TheVariants.{Serial}
use Rattle.rv_inst.specs.declared.isa.Isa.{Isa}
use Rattle.cf_semantics.specs.claims.Ahead as ahead
use Rattle.theory_refinement.proofs.invariant.Port as dock
use Rattle.theory_refinement.proofs.invariant.Lone as lone
use Rattle.theory_refinement.proofs.invariant.Sure as sure
use Rattle.cf_semantics.specs.claims.Path as trail

abbrev pub back : Passenger → Passenger
back p = record p { recovered = true }

-- on the path
pub back_at : (isa : Isa) (p : Passenger) (w : trail.Walk) → sure.SureAt isa p w → sure.SureAt isa (back p) w
back_at isa p w h = marked_at isa p.launched true p w h

pub back_fits : (isa : Isa) (i : ℕ) (p : Passenger) (w : trail.Walk) → sure.Fits isa (Up i p) w → sure.Fits isa (Up i (back p)) w
unfolding sure.Fits
back_fits isa i p w h = let q = back_at isa p w in grind (arith, q)

pub goto_class : (c : Class) (p : Passenger) → goto_undone c p ≡ goto_undone c (back p)
goto_class Serial p = refl
goto_class _ p = refl

goto_back : (p : Passenger) → goto p ≡ goto (back p)
goto_back p = ap (λ (o : Option ℕ). if p.done then goto_done p.ending p.next else o) (goto_class (kind p) p)

pub back_past : (isa : Isa) (i : ℕ) (p : Passenger) (w : trail.Walk) → trail.past isa (Up i p) w ≡ trail.past isa (Up i (back p)) w
unfolding trail.past
back_past isa i p w = go (trail.is_sure p w)
  where
    go : (b : Bool) → trail.past_passenger isa b p w ≡ trail.past_passenger isa b (back p) w
    go true = ap (λ (o : Option ℕ). record (trail.past_passenger isa true p w) { goto = o }) (goto_back p)
    go false = refl

-- what nothing may follow
pub back_lone_fits : (i : ℕ) (p : Passenger) (w : Bool) → lone.Fits (Up i p) w → lone.Fits (Up i (back p)) w
unfolding lone.Fits
back_lone_fits i p w h = h

pub back_lone : (l : Plan) (i : ℕ) (p : Passenger) (w : Bool) → lone.past l (Up i p) w ≡ lone.past l (Up i (back p)) w
unfolding lone.past
back_lone l i p w = refl

-- at the port, of another class than Memory
pub back_port_fits : (isa : Isa) (i : ℕ) (p : Passenger) (w : dock.Dock) → is_memory (kind p) ≡ false → dock.Fits isa (Up i p) w →
    dock.Fits isa (Up i (back p)) w
unfolding dock.Fits dock.DockedAt
back_port_fits isa i p w m h =
    record { live = λ a. absurd (cc); order = λ a. absurd (cc); served = h.served; permitted = λ a. absurd (cc); answered = λ a. absurd (grind arith) }

pub back_port : (isa : Isa) (i : ℕ) (p : Passenger) (w : dock.Dock) → is_memory (kind p) ≡ false → dock.past isa (Up i p) w ≡ dock.past isa (Up i (back p)) w
unfolding dock.past
back_port isa i p w m =
    let a : ahead.has_ported p w.answer ≡ ahead.has_ported (back p) w.answer = grind arith in
    let b : ahead.flies p ≡ ahead.flies (back p) = grind arith in
    rw (back_past isa i p w.path, a, b) refl

-- its stage: of a dead instruction, and of one that has finished
pub back_dead : (l : Plan) (i : ℕ) (p : Passenger) → p.dead ≡ true → p.launched ≡ true → Behind l (kind p) i → Stands l i p → Stands l i (back p)
back_dead l i p d o b h = record {
  low = λ z. absurd (cc);
  out = λ _ z. absurd (cc);
  back = λ _. b;
  back_done = λ _ z. absurd (cc);
  back_launched = λ _. o;
  owes_live = h.owes_live;
  owes_done = h.owes_done;
  owes_quiet = h.owes_quiet;
  guess = h.guess;
  served = h.served;
  unended = h.unended;
  blank = h.blank;
  free_done = h.free_done;
  out_undone = λ _ _ z. absurd (cc);
  faulted = λ z. absurd (cc);
  sourced1 = h.sourced1;
  sourced2 = h.sourced2;
  homed = h.homed;
}

pub back_finished : (l : Plan) (i : ℕ) (p : Passenger) (a : Option ℕ) → p.dead ≡ false → p.launched ≡ true → Behind l (kind p) i →
    (is_free (kind p) || is_serial (kind p)) ≡ false → Stands l i p → Stands l i (finish (back p) a)
back_finished l i p a d o b n h =
    let q = back p in
    let k = finish_kind q a in
    let e = finish_done q a in
    let f = finish_flags q a in
    let g = finish_dead q a in
    let serial = quiet (is_free (kind p)) (is_serial (kind p)) n in
    record {
      low = λ _ z. absurd (cc);
      out = λ _ z. absurd (let y = sym f.1 ∙ z in cc);
      back = λ _. rw k b;
      back_done = λ _ _. e;
      back_launched = λ _. f.0 ∙ o;
      owes_live = λ _. g ∙ d;
      owes_done = λ _. e;
      owes_quiet = λ _ _. rw k n;
      guess = λ z. f.2 ∙ h.guess (rw k at z);
      served = λ z. absurd (let y : is_serial (kind (finish q a)) ≡ false = rw k serial in grind arith);
      unended = λ z. absurd (cc);
      blank = λ z. absurd (cc);
      free_done = λ _. e;
      out_undone = λ _ _ z. absurd (let y = sym f.1 ∙ z in cc);
      faulted = λ _ _ _ z. absurd (let y = sym o ∙ sym f.0 ∙ z in cc);
      sourced1 = λ _. rw f.3 (h.sourced1 o);
      sourced2 = λ _. rw f.4 (h.sourced2 o);
      homed = λ z. rw k (h.homed (rw k at z));
    }
  where
    quiet : (a b : Bool) → (a || b) ≡ false → b ≡ false
    quiet a b e = grind arith
