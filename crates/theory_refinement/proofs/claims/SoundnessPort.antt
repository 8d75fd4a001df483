-- From the invariant: the order of memory operations, and what has passed the port, parts (j) and (k) of soundness.
use Rattle.std.proofs.Common.{◌≡◌, ℕ, zero, suc, ◌+◌, List, [], ◌∷◌, ◌++◌, Option, Bool, true, false, ◌||◌, not, refl, sym, ap, ◌∙◌, arith, ◌⊎◌, inl, inr}
use Rattle.std.specs.Prelude.{if◌then◌else◌}
use Rattle.std.specs.List.{list_any}
use Rattle.rv_inst.specs.declared.isa.Isa.{Isa}
use Rattle.rv_machine.specs.Machine.{Machine}
use Rattle.cf_layout.specs.Layout.{Plan}
use Rattle.cf_bind.specs.declared.packet.Packet.{Packet}
use Rattle.cf_bind.specs.declared.passenger.Passenger.{Passenger}
use Rattle.cf_semantics.specs.claims.Ahead as ahead
use Rattle.cf_semantics.specs.claims.Ahead.{served_count}
use Rattle.cf_semantics.specs.state.Column.{Down, Item, Up, column}
use Rattle.cf_semantics.specs.moves.Instructions.{after_step, is_memory, step_at}
use Rattle.cf_semantics.specs.state.Layouts.{isa_of}
use Rattle.cf_semantics.specs.state.Passengers.{kind}
use Rattle.cf_semantics.specs.claims.Path as trail
use Rattle.cf_semantics.specs.state.Places.{machine_after}
use Rattle.cf_semantics.specs.claims.Soundness.{MemoryOrder, PortAgrees, may_turn}
use Rattle.cf_semantics.specs.state.State.{State}
use Rattle.cf_semantics.specs.claims.Walks.{Everywhere, walk}
use Rattle.theory_refinement.proofs.invariant.Invariant.{Sound}
use Rattle.theory_refinement.proofs.invariant.Port as dock
use Rattle.theory_refinement.proofs.walks.Answering.{walk_risky}
use Rattle.theory_refinement.proofs.claims.Ahead.{answer_past, docked_of, mem_past, risk_past}
use Rattle.theory_refinement.proofs.column.Change.{here, past_safe}
use Rattle.theory_refinement.proofs.walks.Order.{past_path}
use Rattle.theory_refinement.proofs.claims.Output.{Served, Silent, heard, idle_path, path_result}
use Rattle.theory_refinement.proofs.walks.Port.{open_of, ported_calm}
use Rattle.theory_refinement.proofs.moves.Serve.{Idle}
use Rattle.theory_refinement.proofs.walks.Path.{sure_is}

-- (j) memory order
none_turns : (isa : Isa) (xs : List Item) (w : dock.Dock) → (walk (dock.past isa) xs w).risky ≡ false → list_any may_turn xs ≡ false
none_turns isa [] w e = refl
none_turns isa (i ∷ xs) w e = rw (risk_past isa i w (walk_risky isa xs (dock.past isa i w) e)).1 (none_turns isa xs (dock.past isa i w) e)

launched_calm : (isa : Isa) (p : Passenger) (w : dock.Dock) → dock.DockedAt isa p w → is_memory (kind p) ≡ true → p.launched ≡ true →
    (p.dead ≡ false) × (w.risky ≡ false)
unfolding dock.DockedAt
launched_calm isa p w h m l = let o : (p.launched || p.recovered) ≡ true = rw l refl in (h.live m o, h.order m o)

pub memory_order : {rest out : List ℕ} (plan : Plan) (s : State) (x : Machine) → Sound plan s rest out x → MemoryOrder s
memory_order plan s x h p m l =
    let isa = isa_of plan in
    let w = walk (dock.past isa) p.above (dock.top plan s x) in
    let k = here plan s x p.above (Up p.stage p.who ∷ []) p.below p.split h in
    let q = launched_calm isa p.who w (docked_of isa p.stage p.who w k.port_fit.0) m l in
    (q.0, none_turns isa p.above (dock.top plan s x) q.1)

-- (k) port: a sure instruction counts, any other does not
after_sure : (isa : Isa) (n i : ℕ) (p : Passenger) (xs : List Item) (w : trail.Walk) → trail.is_sure p w ≡ true →
    machine_after isa (suc n) (Up i p ∷ xs) w ≡ machine_after isa n xs (trail.past isa (Up i p) w)
after_sure isa n i p xs w e = rw e refl

first_machine : (isa : Isa) (i : ℕ) (p : Passenger) (w : trail.Walk) → trail.is_sure p w ≡ true →
    (trail.past isa (Up i p) w).machine ≡ after_step (step_at isa w.machine p.pc) w.machine
unfolding trail.past
first_machine isa i p w e = rw e refl

after_other : (isa : Isa) (n i : ℕ) (p : Passenger) (xs : List Item) (w : trail.Walk) → trail.is_sure p w ≡ false →
    machine_after isa n (Up i p ∷ xs) w ≡ machine_after isa n xs (trail.past isa (Up i p) w)
unfolding trail.past
after_other isa zero i p xs w e = rw e refl
after_other isa (suc n) i p xs w e = rw e refl

after_packet : (isa : Isa) (n i : ℕ) (k : Packet) (xs : List Item) (w : trail.Walk) → machine_after isa n (Down i k ∷ xs) w
    ≡ machine_after isa n xs (trail.past isa (Down i k) w)
after_packet isa zero i k xs w = sym (path_result isa i k w).0
after_packet isa (suc n) i k xs w = refl

-- if nothing is risky, the live instructions so far are the sure ones: after them the column goes on as the rest does
abbrev pub GoesOn : Isa → List Item → trail.Walk → List Item → dock.Dock → ahead.PortTally → Type 0
GoesOn isa all from xs w t = w.risky ≡ false → (n : ℕ) → machine_after isa (t.live + n) all from ≡ machine_after isa n xs w.path

live_one : (t n : ℕ) (dead : Bool) → dead ≡ false → (t + ahead.one (not dead)) + n ≡ t + suc n
live_one t n dead e = rw e (omega arith)

live_none : (t n : ℕ) (dead : Bool) → dead ≡ true → (t + ahead.one (not dead)) + n ≡ t + n
live_none t n dead e = rw e (omega arith)

counted_live : (i : ℕ) (p : Passenger) (t : ahead.PortTally) → (ahead.counted (Up i p) t).live ≡ t.live + ahead.one (not p.dead)
unfolding ahead.counted
counted_live i p t = refl

counted_ported : (i : ℕ) (p : Passenger) (t : ahead.PortTally) → (ahead.counted (Up i p) t).ported
    ≡ (if ahead.has_ported p t.answer then t.live + 1 else t.ported)
unfolding ahead.counted
counted_ported i p t = refl

dead_is : (p : Passenger) (w : trail.Walk) → p.dead ≡ true → trail.is_sure p w ≡ false
dead_is p w d = grind arith

goes_on_rider : (isa : Isa) (all : List Item) (from : trail.Walk) (i : ℕ) (p : Passenger) (xs : List Item) (w : dock.Dock) (t : ahead.PortTally) →
    (w.path.barred ≡ true → w.risky ≡ true) → GoesOn isa all from (Up i p ∷ xs) w t → GoesOn isa all from xs (dock.past isa (Up i p) w)
    (ahead.counted (Up i p) t)
goes_on_rider isa all from i p xs w t safe g r n = by p.dead refl
  where
    calm : w.risky ≡ false
    calm = (risk_past isa (Up i p) w r).0

    by : (b : Bool) → p.dead ≡ b → machine_after isa ((ahead.counted (Up i p) t).live + n) all from ≡ machine_after isa n xs (dock.past isa (Up i p) w).path
    by false d =
        let c : (ahead.counted (Up i p) t).live + n ≡ t.live + suc n = ap (λ (z : ℕ). z + n) (counted_live i p t) ∙ live_one t.live n p.dead d in
        ap (λ (z : ℕ). machine_after isa z all from) c ∙ g calm (suc n) ∙ after_sure isa n i p xs w.path (sure_is p w.path d (open_of w safe calm))
        ∙ ap (machine_after isa n xs) (sym (past_path isa (Up i p) w))
    by true d =
        let c : (ahead.counted (Up i p) t).live + n ≡ t.live + n = ap (λ (z : ℕ). z + n) (counted_live i p t) ∙ live_none t.live n p.dead d in
        ap (λ (z : ℕ). machine_after isa z all from) c ∙ g calm n ∙ after_other isa n i p xs w.path (dead_is p w.path d)
        ∙ ap (machine_after isa n xs) (sym (past_path isa (Up i p) w))

-- an instruction that has passed the port is live
ported_live : (p : Passenger) (answer : Option ℕ) → ahead.has_ported p answer ≡ true → p.dead ≡ false
ported_live p answer e = go p.dead refl
  where
    go : (b : Bool) → p.dead ≡ b → p.dead ≡ false
    go false d = d
    go true d = absurd (grind arith)

-- memory so far is that of the machine after the instructions so far that have passed the port
abbrev pub Stored : Isa → List Item → trail.Walk → dock.Dock → ahead.PortTally → Type 0
Stored isa all from w t = w.mem ≡ (machine_after isa t.ported all from).hart.mem

stored_rider : (isa : Isa) (all : List Item) (from : trail.Walk) (i : ℕ) (p : Passenger) (xs : List Item) (w : dock.Dock) (t : ahead.PortTally) →
    dock.Fits isa (Up i p) w → (w.path.barred ≡ true → w.risky ≡ true) → t.answer ≡ w.answer → GoesOn isa all from (Up i p ∷ xs) w t → Stored isa all from w t →
    Stored isa all from (dock.past isa (Up i p) w) (ahead.counted (Up i p) t)
stored_rider isa all from i p xs w t fit safe same g h = by (ahead.has_ported p w.answer) refl
  where
    count : (b : Bool) → ahead.has_ported p w.answer ≡ b → (ahead.counted (Up i p) t).ported ≡ (if b then t.live + 1 else t.ported)
    count b e = counted_ported i p t ∙ ap (λ (z : Bool). if z then t.live + 1 else t.ported) (ap (ahead.has_ported p) same ∙ e)

    by : (b : Bool) → ahead.has_ported p w.answer ≡ b → Stored isa all from (dock.past isa (Up i p) w) (ahead.counted (Up i p) t)
    by false e = mem_past isa i p w false e ∙ h ∙ ap (λ (z : ℕ). (machine_after isa z all from).hart.mem) (sym (count false e))
    by true e =
        let calm = ported_calm isa p w (docked_of isa i p w fit) e in
        let certain = sure_is p w.path (ported_live p w.answer e) (open_of w safe calm) in
        let q = g calm 1 ∙ after_sure isa 0 i p xs w.path certain ∙ first_machine isa i p w.path certain in
        mem_past isa i p w true e ∙ ap (λ (z : Machine). z.hart.mem) (sym q) ∙ ap (λ (z : ℕ). (machine_after isa z all from).hart.mem) (sym (count true e))

-- a result changes nothing of this
record Same (w v : dock.Dock) (t u : ahead.PortTally) : Type 0 where
  mem : v.mem ≡ w.mem
  answer : v.answer ≡ w.answer
  tally : u ≡ t
  risky : v.risky ≡ false → w.risky ≡ false

same_packet : (isa : Isa) (i : ℕ) (k : Packet) (w : dock.Dock) (t : ahead.PortTally) → Same w (dock.past isa (Down i k) w) t (ahead.counted (Down i k) t)
unfolding dock.past ahead.counted
same_packet isa i k w t = record { mem = refl; answer = refl; tally = refl; risky = λ e. grind arith }

goes_on_packet : (isa : Isa) (all : List Item) (from : trail.Walk) (i : ℕ) (k : Packet) (xs : List Item) (w : dock.Dock) (t : ahead.PortTally) →
    GoesOn isa all from (Down i k ∷ xs) w t → GoesOn isa all from xs (dock.past isa (Down i k) w) (ahead.counted (Down i k) t)
goes_on_packet isa all from i k xs w t g r n =
    let q = same_packet isa i k w t in
    ap (λ (z : ahead.PortTally). machine_after isa (z.live + n) all from) q.tally ∙ g (q.risky r) n ∙ after_packet isa n i k xs w.path
    ∙ ap (machine_after isa n xs) (sym (past_path isa (Down i k) w))

stored : (isa : Isa) (all : List Item) (from : trail.Walk) (xs : List Item) (w : dock.Dock) (t : ahead.PortTally) →
    Everywhere (dock.Fits isa) (dock.past isa) xs w → (w.path.barred ≡ true → w.risky ≡ true) → t.answer ≡ w.answer → GoesOn isa all from xs w t →
    Stored isa all from w t → Stored isa all from (walk (dock.past isa) xs w) (walk ahead.counted xs t)
stored isa all from [] w t fit safe same g h = h
stored isa all from (Up i p ∷ xs) w t fit safe same g h =
    stored isa all from xs (dock.past isa (Up i p) w) (ahead.counted (Up i p) t) fit.1 (past_safe isa (Up i p) w safe) (answer_past isa i p w t same)
    (goes_on_rider isa all from i p xs w t safe g) (stored_rider isa all from i p xs w t fit.0 safe same g h)
stored isa all from (Down i k ∷ xs) w t fit safe same g h =
    let q = same_packet isa i k w t in
    stored isa all from xs (dock.past isa (Down i k) w) (ahead.counted (Down i k) t) fit.1 (past_safe isa (Down i k) w safe)
    (ap (λ (z : ahead.PortTally). z.answer) q.tally ∙ same ∙ sym q.answer) (goes_on_packet isa all from i k xs w t g) (q.mem ∙ h
    ∙ ap (λ (z : ahead.PortTally). (machine_after isa z.ported all from).hart.mem) (sym q.tally))

-- only results are passed
after_idle : (isa : Isa) (n : ℕ) (xs ys : List Item) (w : trail.Walk) → Idle xs → machine_after isa n (xs ++ ys) w
    ≡ machine_after isa n ys (walk (trail.past isa) xs w)
after_idle isa n [] ys w h = refl
after_idle isa n (Up i p ∷ xs) ys w h = absurd h
after_idle isa n (Down i k ∷ xs) ys w h = after_packet isa n i k (xs ++ ys) w ∙ after_idle isa n xs ys (trail.past isa (Down i k) w) h

-- after the served instruction
after_served : {rest out : List ℕ} (plan : Plan) (s : State) (x : Machine) (q : Served plan s x rest out) →
    machine_after (isa_of plan) 1 (column s) (trail.top s x) ≡ after_step (step_at (isa_of plan) x q.who.pc) x
after_served plan s x q =
    let isa = isa_of plan in
    let w = walk (trail.past isa) q.above (trail.top s x) in
    let same = (idle_path isa q.above (trail.top s x) q.idle).0 in
    ap (λ (z : List Item). machine_after isa 1 z (trail.top s x)) q.was ∙ after_idle isa 1 q.above (Up plan.stages q.who ∷ q.below) (trail.top s x) q.idle
    ∙ after_sure isa 0 plan.stages q.who q.below w q.sure ∙ first_machine isa plan.stages q.who w q.sure
    ∙ ap (λ (z : Machine). after_step (step_at isa z q.who.pc) z) same

pub port : {rest out : List ℕ} (plan : Plan) (s : State) (x : Machine) → Sound plan s rest out x →
    PortAgrees plan (record { state = s; rest = rest; output = out }) x
port {rest} {out} plan s x h = record {
  memory = h.port_ends.is_mem ∙ stored (isa_of plan) (column s) (trail.top s x) (column s) (dock.top plan s x) (ahead.uncounted plan s) h.port_fit
      (λ b. absurd (cc)) refl (λ _ n. let e : 0 + n ≡ n = omega arith in ap (λ (z : ℕ). machine_after (isa_of plan) z (column s) (trail.top s x)) e) refl;
  input = by_rest (heard plan s x h);
  output = by_out (heard plan s x h);
}
  where
    count : (c : ℕ) → served_count plan s ≡ c → machine_after (isa_of plan) (served_count plan s) (column s) (trail.top s x)
        ≡ machine_after (isa_of plan) c (column s) (trail.top s x)
    count c e = ap (λ (z : ℕ). machine_after (isa_of plan) z (column s) (trail.top s x)) e

    by_rest : Silent plan s x rest out ⊎ Served plan s x rest out → rest ≡ (machine_after (isa_of plan) (served_count plan s) (column s) (trail.top s x)).rest
    by_rest (inl q) = q.is_rest ∙ ap (λ (z : Machine). z.rest) (sym (count 0 q.count))
    by_rest (inr q) = q.is_rest ∙ ap (λ (z : Machine). z.rest) (sym (count 1 q.count ∙ after_served plan s x q))

    by_out : Silent plan s x rest out ⊎ Served plan s x rest out → out ≡ (machine_after (isa_of plan) (served_count plan s) (column s) (trail.top s x)).output
    by_out (inl q) = q.is_out ∙ ap (λ (z : Machine). z.output) (sym (count 0 q.count))
    by_out (inr q) = q.is_out ∙ ap (λ (z : Machine). z.output) (sym (count 1 q.count ∙ after_served plan s x q))
