-- Where a call is to be served, the state is sound whatever the input has left: nothing in the processor depends on it
-- yet.
use Rattle.std.proofs.Common.{◌≡◌, ℕ, List, [], ◌∷◌, Option, Some, None, Bool, true, false, not, refl, sym, ap, ◌∙◌, arith}
use Rattle.std.specs.Prelude.{slice_index}
use Rattle.rv_inst.specs.declared.classes.Class.TheVariants.{Serial}
use Rattle.rv_inst.specs.declared.isa.Isa.{Isa}
use Rattle.rv_machine.specs.Machine.{Machine}
use Rattle.cf_layout.specs.Layout.{Plan}
use Rattle.cf_bind.specs.declared.binding.Binding.{Binding}
use Rattle.cf_bind.specs.declared.moves.Move.TheVariants.{Serve}
use Rattle.cf_bind.specs.declared.packet.Fetch.{Fetch}
use Rattle.cf_bind.specs.declared.packet.Packet.{Packet}
use Rattle.cf_bind.specs.declared.packet.Packet.TheVariants.{Value, Turn, Halt}
use Rattle.cf_bind.specs.declared.passenger.Passenger.{Passenger}
use Rattle.cf_semantics.specs.moves.Bars.{bar}
use Rattle.cf_semantics.specs.state.Column.{Down, Item, Up}
use Rattle.cf_semantics.specs.moves.Fetches.{code_of}
use Rattle.cf_semantics.specs.state.Layouts.{isa_of}
use Rattle.cf_semantics.specs.state.Options.{When}
use Rattle.cf_semantics.specs.state.Passengers.{kind}
use Rattle.cf_semantics.specs.state.State.{State}
use Rattle.cf_semantics.specs.claims.Walks.{Everywhere, walk}
use Rattle.cf_semantics.specs.claims.Path as trail
use Rattle.cf_semantics.specs.claims.Soundness.{HasValue}
use Rattle.theory_refinement.proofs.invariant.Invariant.{Sound}
use Rattle.theory_refinement.proofs.invariant.Port as dock
use Rattle.theory_refinement.proofs.invariant.Stands.{Blank}
use Rattle.theory_refinement.proofs.invariant.Sure as sure
use Rattle.theory_refinement.proofs.moves.Rows.{bar_row}
use Rattle.theory_refinement.proofs.moves.Serve.{Idle, Scene, Serves, fit_idle, not_yet, scene, serial_docked, serve_ready, walk_idle}
use Rattle.theory_refinement.proofs.instructions.Steps.{sure_keeps}
use Rattle.theory_unknown_input.proofs.Clear as clear
use Rattle.theory_unknown_input.proofs.Clear.{IsClear, none_awaited}

-- the machine, with this left of its input
abbrev pub over : List ℕ → Machine → Machine
over rest x = record x { rest = rest }

-- what holds of the two walks below the call: they differ in nothing but registers that its answer gives
record Alike (awaited : ℕ → Bool) (w v : trail.Walk) : Type 0 where
  barred : v.barred ≡ w.barred
  goto : v.goto ≡ w.goto
  settled : v.settled ≡ w.settled
  trapped : v.trapped ≡ w.trapped
  regs : (r : ℕ) → awaited r ≡ false → slice_index v.machine.hart.regs r ≡ slice_index w.machine.hart.regs r

-- a result fits one walk if it fits the other
packet_alike : (isa : Isa) (i : ℕ) (k : Packet) (awaited : ℕ → Bool) (w v : trail.Walk) → Alike awaited w v → clear.Fits (Down i k) awaited →
    sure.Fits isa (Down i k) w → sure.Fits isa (Down i k) v
unfolding sure.Fits clear.Fits
packet_alike isa i (Value r n) awaited w v a c h =
    rw a.barred (go w.barred h)
  where
    go : (b : Bool) → When (not b) (n ≡ slice_index w.machine.hart.regs r) → When (not b) (n ≡ slice_index v.machine.hart.regs r)
    go true f = tt
    go false f = f ∙ sym (a.regs r c)
packet_alike isa i (Turn pc) awaited w v a c h = rw (a.barred, a.goto, a.settled) h
packet_alike isa i Halt awaited w v a c h = rw (a.barred, a.goto, a.trapped) h

-- and both pass it in the same way
passed_alike : (isa : Isa) (i : ℕ) (k : Packet) (awaited : ℕ → Bool) (w v : trail.Walk) → Alike awaited w v →
    Alike (clear.past (Down i k) awaited) (trail.past isa (Down i k) w) (trail.past isa (Down i k) v)
unfolding trail.past clear.past
passed_alike isa i (Value r n) awaited w v a = record { barred = a.barred; goto = a.goto; settled = a.settled; trapped = a.trapped; regs = a.regs }
passed_alike isa i (Turn pc) awaited w v a = record { barred = refl; goto = a.goto; settled = a.settled; trapped = a.trapped; regs = a.regs }
passed_alike isa i Halt awaited w v a = record { barred = refl; goto = a.goto; settled = a.settled; trapped = a.trapped; regs = a.regs }

-- so are all results below the call
fit_alike : (isa : Isa) (xs : List Item) (awaited : ℕ → Bool) (w v : trail.Walk) → Idle xs → Alike awaited w v → Everywhere clear.Fits clear.past xs awaited →
    Everywhere (sure.Fits isa) (trail.past isa) xs w → Everywhere (sure.Fits isa) (trail.past isa) xs v
fit_alike isa [] awaited w v q a c h = tt
fit_alike isa (Up i p ∷ xs) awaited w v q a c h = absurd q
fit_alike isa (Down i k ∷ xs) awaited w v q a c h = (
  packet_alike isa i k awaited w v a c.0 h.0,
  fit_alike isa xs (clear.past (Down i k) awaited) (trail.past isa (Down i k) w) (trail.past isa (Down i k) v) q
      (passed_alike isa i k awaited w v a) c.1 h.1,
)

walk_alike : (isa : Isa) (xs : List Item) (awaited : ℕ → Bool) (w v : trail.Walk) → Idle xs → Alike awaited w v →
    Alike (walk clear.past xs awaited) (walk (trail.past isa) xs w) (walk (trail.past isa) xs v)
walk_alike isa [] awaited w v q a = a
walk_alike isa (Up i p ∷ xs) awaited w v q a = absurd q
walk_alike isa (Down i k ∷ xs) awaited w v q a = walk_alike isa xs (clear.past (Down i k) awaited) (trail.past isa (Down i k) w) (trail.past isa (Down i k) v) q
    (passed_alike isa i k awaited w v a)

-- fetch and the cache at the bottom fit one walk if they fit the other
ends_alike : (f : Fetch) (awaited : ℕ → Bool) (w v : trail.Walk) → Alike awaited w v → sure.Ends w f → sure.Ends v f
ends_alike f awaited w v a h = rw (a.barred, a.goto) h

keeps_alike : (cache : List (Option ℕ)) (awaited : ℕ → Bool) (w v : trail.Walk) → Alike awaited w v → clear.Ends awaited cache → sure.Keeps w cache →
    sure.Keeps v cache
keeps_alike cache awaited w v a c h = rw a.barred (go w.barred h)
  where
    go : (b : Bool) → When (not b) (sure.AreRegisters cache w.machine.hart.regs) → When (not b) (sure.AreRegisters cache v.machine.hart.regs)
    go true f = tt
    go false f = λ r n e. f r n e ∙ sym (a.regs r (c r n e))

-- a destination without a value agrees with all registers
blank_agrees : (o : Option Binding) (regs : List ℕ) → Blank o → HasValue o regs
blank_agrees None regs e = tt
blank_agrees (Some b) regs e = λ v f. absurd (let z = sym e ∙ f in cc)

-- the call itself: nothing is claimed of its answer yet
call_alike : (isa : Isa) (p : Passenger) (s : State) (x : Machine) (rest : List ℕ) → p.done ≡ false → p.ending ≡ None → Blank p.dst →
    sure.SureAt isa p (trail.top s x) → sure.SureAt isa p (trail.top s (over rest x))
unfolding sure.SureAt
call_alike isa p s x rest undone unended blank h = (
  record {
    path = h.0.path;
    reads = h.0.reads;
    shape = h.0.shape;
    values = record {
      first = h.0.values.first;
      second = h.0.values.second;
      destination = blank_agrees p.dst _ blank;
      owed = h.0.values.owed;
      goes = λ d e. absurd (let z = sym undone ∙ d in cc);
      next = λ d e. absurd (let z = sym undone ∙ d in cc);
      done = λ d e. absurd (let z = sym undone ∙ d in cc);
      ends = λ e f. absurd (let z = sym unended ∙ f in cc);
    };
    unended = h.0.unended;
    unowing = h.0.unowing;
    owed = h.0.owed;
  },
  h.1,
)

whenever : {A : Type 0} → (b : Bool) → A → When b A
whenever true a = a
whenever false a = tt

call_fits : (isa : Isa) (n : ℕ) (p : Passenger) (s : State) (x : Machine) (rest : List ℕ) → sure.SureAt isa p (trail.top s (over rest x)) →
    sure.Fits isa (Up n p) (trail.top s x) → sure.Fits isa (Up n p) (trail.top s (over rest x))
unfolding sure.Fits
call_fits isa n p s x rest certain h = (h.0, whenever (trail.is_sure p (trail.top s (over rest x))) certain)

-- below the call the walks differ only in its answer
call_passed : (isa : Isa) (n : ℕ) (p : Passenger) (s : State) (x : Machine) (rest : List ℕ) → p.dead ≡ false → p.done ≡ false → kind p ≡ Serial →
    sure.SureAt isa p (trail.top s x) → sure.SureAt isa p (trail.top s (over rest x))
    → Alike (clear.past (Up n p) none_awaited) (trail.past isa (Up n p) (trail.top s x)) (trail.past isa (Up n p) (trail.top s (over rest x)))
unfolding sure.SureAt trail.past clear.past
call_passed isa n p s x rest live undone serial h k = rw live (record {
  barred = refl;
  goto = refl;
  settled = refl;
  trapped = refl;
  regs = λ r e.
      let z : trail.has_reg p.dst r ≡ false = grind arith in
      sure_keeps isa p (over rest x) (Some x.hart.pc) k.0 r z ∙ sym (sure_keeps isa p x (Some x.hart.pc) h.0 r z);
})

-- whatever the input has left
pub rechosen : {rest out : List ℕ} (l : Plan) (s : State) (x : Machine) (other : List ℕ) → bar l s Serve ≡ None → Sound l s rest out x → IsClear s →
    Sound l s other out (over other x)
rechosen {rest} {out} l s x other free h c =
    let isa : Isa = isa_of l in
    let n : ℕ = l.stages in
    let r : Serves l s = serve_ready l s (bar_row l s Serve free) in
    let p : Passenger = r.who in
    let e : Scene l s rest out x r = scene l s x r h in
    let y : Machine = over other x in
    let blank : Blank p.dst = e.stands.blank r.undone in
    let unended : p.ending ≡ None = e.stands.unended r.undone in
    let fit = rw e.was at h.path_fit in
    let gives = rw e.was at c.fit in
    let called = call_alike isa p s x other r.undone unended blank e.certain in
    let alike = call_passed isa n p s x other r.live r.undone r.serial e.certain called in
    let under = walk_alike isa e.below (clear.past (Up n p) none_awaited) (trail.past isa (Up n p) (trail.top s x))
    (trail.past isa (Up n p) (trail.top s y)) e.idle alike in
    let same = not_yet isa n p (dock.top l s y) r.serial e.unserved in
    let quiet = walk_idle isa e.below (dock.past isa (Up n p) (dock.top l s y)) e.idle in
    record {
      regs = h.regs;
      wide = h.wide;
      size = h.size;
      path_fit = rw e.was (
        call_fits isa n p s x other called fit.0,
        fit_alike isa e.below (clear.past (Up n p) none_awaited)
            (trail.past isa (Up n p) (trail.top s x)) (trail.past isa (Up n p) (trail.top s y)) e.idle alike gives.1 fit.1,
      );
      path_ends = rw e.was (ends_alike s.fetch _ _ _ under (rw e.was at h.path_ends));
      cache = rw e.was (keeps_alike s.cache _ _ _ under (rw e.was at c.ends) (rw e.was at h.cache));
      lone_fit = h.lone_fit;
      lone_ends = h.lone_ends;
      stands = h.stands;
      port_fit = rw e.was (serial_docked isa n p (dock.top l s y) r.serial refl, fit_idle isa e.below (dock.past isa (Up n p) (dock.top l s y)) e.idle);
      port_ends = rw e.was (record {
        is_mem = e.mem ∙ sym same.mem ∙ sym quiet.mem;
        is_code = ap code_of e.mem ∙ sym same.code ∙ sym quiet.code;
        is_rest = sym same.rest ∙ sym quiet.rest;
        is_out = e.output ∙ sym same.out ∙ sym quiet.out;
      });
      moored = h.moored;
    }
