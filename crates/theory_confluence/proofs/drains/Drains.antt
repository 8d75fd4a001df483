-- The topmost instruction can always move, so a stuck state has no instruction.
use Rattle.std.proofs.Common.{◌≡◌, ◌≢◌, ℕ, zero, suc, ◌+◌, ◌-◌, ◌<◌, ◌≤◌, List, [], ◌∷◌, ◌++◌, Option, Some, None, Bool, true, false, ◌==◌, ◌&&◌, ◌||◌, not, refl, sym, ap, subst, ◌∙◌, arith, length, add-one, ◌⊎◌, inl, inr}
use Rattle.std.specs.Prelude.{slice_get, nat_lt}
use Rattle.cf_bind.specs.declared.cell.Cell.{Cell}
use Rattle.cf_bind.specs.declared.cell.Op.{Op}
use Rattle.cf_bind.specs.declared.moves.Move.TheVariants.{Access, Climb, Emit, Execute, Issue, Launch, Leave, Recover, Send, Serve, Slide}
use Rattle.cf_bind.specs.declared.packet.Fetch.TheVariants.{Running}
use Rattle.cf_bind.specs.declared.passenger.Guess.TheVariants.{Next}
use Rattle.cf_bind.specs.declared.passenger.Passenger.{Passenger}
use Rattle.cf_layout.specs.Layout.{Plan, last_stage, launch_stage, recover_stage, siding_of, unit_at}
use Rattle.theory_refinement.proofs.column.Sidings.{flown_range}
use Rattle.theory_refinement.proofs.column.Sorted.{Riders, Sorted, riders_more, sorted}
use Rattle.theory_confluence.proofs.drains.Stuck.{Barred, Head, bar_is, first_clear, held_top, known, lane_none, no_packet, owes_none, row_slide, slides, stops_here, top_of}
use Rattle.theory_refinement.proofs.invariant.Invariant.{Sound}
use Rattle.theory_refinement.proofs.invariant.Stands.{Each, Stands}
use Rattle.theory_refinement.proofs.invariant.Suited.{Suits, is_plain}
use Rattle.cf_semantics.specs.moves.Bars.{bar, climb_bar, emit_bar, execute_bar, cell_is_taken, last_op, launch_bar, leave_bar, recover_bar, row_bar, send_bar, serve_bar, stops_at}
use Rattle.cf_semantics.specs.state.Column.{Item, Up, column}
use Rattle.cf_semantics.specs.state.Drained.{IsStuck}
use Rattle.cf_semantics.specs.moves.Instructions.{fetched, is_free, is_memory, is_serial}
use Rattle.cf_semantics.specs.state.Layouts.{ends_units, isa_of, launches, port, recovers}
use Rattle.cf_semantics.specs.moves.Moves.{operation}
use Rattle.cf_semantics.specs.state.Options.{Where, is_some}
use Rattle.cf_semantics.specs.state.Passengers.{fresh, kind, missing, requests}
use Rattle.cf_semantics.specs.state.State.{State, cell_at, siding_at}
use Rattle.cf_semantics.specs.claims.Walks.{Everywhere, walk}
use Rattle.rv_inst.specs.declared.classes.Class.{Class}
use Rattle.rv_inst.specs.declared.classes.Class.TheVariants.{Serial}
use Rattle.rv_inst.specs.declared.isa.Isa.{Isa}
use Rattle.rv_machine.specs.Machine.{Machine}
use Rattle.std.specs.Prelude.{slice_get}
use Rattle.theory_refinement.proofs.invariant.Sure as sure
use Rattle.cf_semantics.specs.claims.Path as trail
use Rattle.cf_semantics.specs.claims.Soundness.{in_siding, operations_in, operations_of}
use Rattle.theory_refinement.proofs.instructions.Classes.{memory_is, serial_is}
use Rattle.theory_refinement.proofs.walks.Path.{sure_at}
use Rattle.theory_confluence.proofs.weight.Bound.{asks_size}

barred : (l : Plan) (s : State) → s.ending ≡ None → s.failed ≡ false → IsStuck l s → Barred l s
barred l s e f h = record { row = λ m i z. h m i (bar_is l s m e f ∙ z) }

row_send : (l : Plan) (s : State) (i : ℕ) (c : Cell) → cell_at s.cells i ≡ Some c → row_bar l s (Send i) ≡ send_bar c
row_send l s i c e = rw e refl

row_emit : (l : Plan) (s : State) (c : Cell) → cell_at s.cells l.stages ≡ Some c → row_bar l s Emit ≡ emit_bar s.lane c
row_emit l s c e = rw e refl

row_leave : (l : Plan) (s : State) (c : Cell) → cell_at s.cells l.stages ≡ Some c → row_bar l s Leave ≡ leave_bar c
row_leave l s c e = rw e refl

row_climb : (l : Plan) (s : State) (i : ℕ) (c d : Cell) → cell_at s.cells i ≡ Some c → cell_at s.cells (suc i) ≡ Some d →
    row_bar l s (Climb i) ≡ climb_bar l c i (Some d)
row_climb l s i c d e f = let g : cell_at s.cells (i + 1) ≡ Some d = rw add-one f in rw (e, g) refl

row_at : (l : Plan) (s : State) (i : ℕ) (c : Cell) → cell_at s.cells i ≡ Some c → (row_bar l s (Execute i) ≡ execute_bar l c i)
    × (row_bar l s (Launch i) ≡ launch_bar l s c i) × (row_bar l s (Recover i) ≡ recover_bar l s c i)
row_at l s i c e = (rw e refl, rw e refl, rw e refl)

row_serve : (l : Plan) (s : State) (c : Cell) → cell_at s.cells l.stages ≡ Some c → row_bar l s Serve ≡ serve_bar c
row_serve l s c e = rw e refl

-- what is known of the topmost instruction
pub record Above (l : Plan) (s : State) (i : ℕ) (c : Cell) (p : Passenger) (below : List Item) : Type 0 where
  pub at_here : cell_at s.cells i ≡ Some c
  pub sits : c.passenger ≡ Some p
  pub free : c.packet ≡ None
  pub was : column s ≡ Up i p ∷ below
  pub stands : Stands l i p
  pub each : Each l below
  pub under : Riders (λ j. j < i) below
  pub owes : p.owes ≡ None
  pub known1 : p.dead ≡ false → missing p.src1 ≡ None
  pub known2 : p.dead ≡ false → missing p.src2 ≡ None
  pub held : (stops_at l p i ≡ true) ⊎ ((i ≡ l.stages) × (((p.launched && not p.recovered) || (not p.dead && not p.done)) ≡ true))

-- in its siding
recover_free : (l : Plan) (s : State) (i k : ℕ) (c : Cell) (p : Passenger) (op : Op) → c.passenger ≡ Some p → siding_of l (kind p) ≡ Some k →
    recover_stage l k ≡ i → p.launched ≡ true → p.recovered ≡ false → last_op (siding_at s k) ≡ Some op →
    (is_memory (kind p) && not (is_some op.answer)) ≡ false → recover_bar l s c i ≡ None
recover_free l s i k c p op e f g a b o m =
    let same : recovers l (kind p) i ≡ true = rw f (grind (arith, g)) in
    rw e (rw (same, a, b) (rw f (rw o (rw m refl))))

first_out : (l : Plan) (k i : ℕ) (p : Passenger) (below : List Item) → siding_of l (kind p) ≡ Some k → p.launched ≡ true → p.recovered ≡ false →
    operations_of l k (Up i p ∷ below) ≡ operation p ∷ operations_of l k below
first_out l k i p below e f g =
    let same : (k == k) ≡ true = grind arith in
    let out : in_siding l k p ≡ true = rw (f, g, e) same in
    rw out refl

not_empty : (a : Op) (q r : List Op) → r ≡ a ∷ q → r ≢ []
not_empty a q r e f = let z = sym e ∙ f in cc

out_moves : {rest out : List ℕ} (l : Plan) (s : State) (x : Machine) (i : ℕ) (c : Cell) (p : Passenger) (below : List Item) → Suits l → Barred l s →
    Sound l s rest out x → Above l s i c p below → p.launched ≡ true → p.recovered ≡ false → ⊥
out_moves {rest} {out} l s x i c p below acc b h a o n = siding (siding_of l (kind p)) refl (a.stands.out o n)
  where
    stage : (k : ℕ) → siding_of l (kind p) ≡ Some k → (launch_stage l k ≤ i) × (i ≤ recover_stage l k) → recover_stage l k ≡ i
    stage k e r = go a.held
      where
        go : (stops_at l p i ≡ true) ⊎ ((i ≡ l.stages) × (((p.launched && not p.recovered) || (not p.dead && not p.done)) ≡ true)) → recover_stage l k ≡ i
        go (inl z) = grind (arith, z, o, n, e)
        go (inr z) = let y = acc.in_pipe (kind p) k e in omega (arith, z.0, r.1, y)

    siding : (q : Option ℕ) → siding_of l (kind p) ≡ q → Where q ⊥ (λ k. (launch_stage l k ≤ i) × (i ≤ recover_stage l k)) → ⊥
    siding None e r = r
    siding (Some k) e r = last (last_op (siding_at s k)) refl
      where
        some : operations_in (siding_at s k) ≢ []
        some = not_empty (operation p) (operations_of l k below) (operations_in (siding_at s k)) (h.moored.operations k ∙ ap (operations_of l k) a.was
            ∙ first_out l k i p below e o n)

        last : (u : Option Op) → last_op (siding_at s k) ≡ u → ⊥
        last None f = let z = slides (siding_at s k) some f in b.row (Slide k z.c) refl (row_slide l s k z.c z.op z.here z.there)
        last (Some op) f = answered (is_memory (kind p)) op.answer refl refl
          where
            recover : (is_memory (kind p) && not (is_some op.answer)) ≡ false → ⊥
            recover m = b.row (Recover i) refl ((row_at l s i c a.at_here).2 ∙ recover_free l s i k c p op a.sits e (stage k e r) o n f m)

            answered : (m : Bool) (w : Option ℕ) → is_memory (kind p) ≡ m → op.answer ≡ w → ⊥
            answered false w y z = recover (rw y refl)
            answered true (Some v) y z = recover (rw (y, z) refl)
            answered true None y z =
                let there : k ≡ (port l) = same k (port l) (sym e ∙ rw (memory_is (kind p) y) acc.memory) in
                let f' : last_op (siding_at s (port l)) ≡ Some op = rw (← there) f in
                b.row Access refl (rw f' (rw z refl))
              where
                same : (a b : ℕ) → Some a ≡ Some b → a ≡ b
                same a b e = cc

-- not yet launched
no_first : (q : List (Option Op)) → operations_in q ≡ [] → cell_is_taken (slice_get q 0) ≡ false
no_first [] e = refl
no_first (None ∷ q) e = refl
no_first (Some op ∷ q) e = absurd (full (operations_in q) e)
  where
    full : (a : List Op) → a ++ (record op { answer = None } ∷ []) ≡ [] → ⊥
    full [] z = cc
    full (x ∷ a) z = cc

launch_free : (l : Plan) (s : State) (i k : ℕ) (c : Cell) (p : Passenger) → c.passenger ≡ Some p → c.packet ≡ None → p.dead ≡ false → p.done ≡ false →
    p.launched ≡ false → siding_of l (kind p) ≡ Some k → launch_stage l k ≡ i → missing p.src1 ≡ None → missing p.src2 ≡ None →
    cell_is_taken (slice_get (siding_at s k) 0) ≡ false → launch_bar l s c i ≡ None
launch_free l s i k c p e f d u a g st m1 m2 t =
    let at : launches l (kind p) i ≡ true = rw g (grind (arith, st)) in
    rw (e, f) (rw (d, u, a, at, and_false (is_memory (kind p)), m1, m2) (rw g (rw t refl)))
  where
    and_false : (b : Bool) → (b && false) ≡ false
    and_false true = refl
    and_false false = refl

execute_free : (l : Plan) (i : ℕ) (c : Cell) (p : Passenger) → c.passenger ≡ Some p → p.dead ≡ false → p.done ≡ false → unit_at l (kind p) i ≡ true →
    missing p.src1 ≡ None → missing p.src2 ≡ None → execute_bar l c i ≡ None
execute_free l i c p e d u n m1 m2 = rw e (rw (d, u, n, m1, m2) refl)

serve_free : (c : Cell) (p : Passenger) → c.passenger ≡ Some p → c.packet ≡ None → p.dead ≡ false → p.done ≡ false → is_serial (kind p) ≡ true →
    serve_bar c ≡ None
serve_free c p e f d u k = rw (e, f) (rw (d, u, k) refl)

other_class : (c : Class) → is_serial c ≡ false → is_free c ≡ false → is_memory c ≡ false → is_plain c ≡ true
other_class c a b m = grind arith

waits_moves : {rest out : List ℕ} (l : Plan) (s : State) (x : Machine) (i : ℕ) (c : Cell) (p : Passenger) (below : List Item) → Suits l → Barred l s →
    Sound l s rest out x → Above l s i c p below → p.dead ≡ false → p.done ≡ false → p.launched ≡ false → ⊥
waits_moves {rest} {out} l s x i c p below acc b h a d u n = class (is_serial (kind p)) (is_free (kind p)) refl refl
  where
    low : (o : Option ℕ) → siding_of l (kind p) ≡ o → Where o (i ≤ last_stage l (kind p)) (λ k. i ≤ launch_stage l k)
    low o e = rw (← e) (a.stands.low d u n)

    stop : (o : Option ℕ) → siding_of l (kind p) ≡ o → ((ends_units l (kind p) i || launches l (kind p) i) ≡ true) ⊎ (i ≡ l.stages)
    stop o e = go a.held
      where
        go : (stops_at l p i ≡ true) ⊎ ((i ≡ l.stages) × (((p.launched && not p.recovered) || (not p.dead && not p.done)) ≡ true)) →
            ((ends_units l (kind p) i || launches l (kind p) i) ≡ true) ⊎ (i ≡ l.stages)
        go (inl z) = inl (grind (arith, z, n, d, u))
        go (inr z) = inr z.0

    here1 : missing p.src1 ≡ None
    here1 = a.known1 d

    here2 : missing p.src2 ≡ None
    here2 = a.known2 d

    launch : (k : ℕ) → siding_of l (kind p) ≡ Some k → ⊥
    launch k e = b.row (Launch i) refl ((row_at l s i c a.at_here).1 ∙ launch_free l s i k c p a.sits a.free d u n e stage here1 here2 first)
      where
        stage : launch_stage l k ≡ i
        stage = go (stop (Some k) e)
          where
            go : ((ends_units l (kind p) i || launches l (kind p) i) ≡ true) ⊎ (i ≡ l.stages) → launch_stage l k ≡ i
            go (inl z) = grind (arith, z, e)
            go (inr z) = let y = low (Some k) e in let o = acc.order (kind p) k e in let q = acc.in_pipe (kind p) k e in absurd (omega (arith, z, y, o, q))

        none : operations_of l k (column s) ≡ []
        none = ap (operations_of l k) a.was ∙ skip ∙ flown_range l k below (riders_more (λ j. j < i) (λ j. (launch_stage l k ≤ j) → (j ≤ recover_stage l k) →
            ⊥) below (λ j q y z. omega (arith, stage)) a.under) a.each
          where
            skip : operations_of l k (Up i p ∷ below) ≡ operations_of l k below
            skip = rw n refl

        first : cell_is_taken (slice_get (siding_at s k) 0) ≡ false
        first = no_first (siding_at s k) (h.moored.operations k ∙ none)

    execute : is_plain (kind p) ≡ true → siding_of l (kind p) ≡ None → ⊥
    execute m e = b.row (Execute i) refl ((row_at l s i c a.at_here).0 ∙ execute_free l i c p a.sits d u
        (subst (λ (j : ℕ). unit_at l (kind p) j ≡ true) last (acc.unit_last (kind p) e m (a.stands.homed m))) here1 here2)
      where
        last : last_stage l (kind p) ≡ i
        last = go (stop None e)
          where
            go : ((ends_units l (kind p) i || launches l (kind p) i) ≡ true) ⊎ (i ≡ l.stages) → last_stage l (kind p) ≡ i
            go (inl z) = grind (arith, z, e)
            go (inr z) = let y = low None e in let w = acc.last_within (kind p) in omega (arith, z, y, w)

    serve : is_serial (kind p) ≡ true → ⊥
    serve k = b.row Serve refl (row_serve l s c (subst (λ (j : ℕ). cell_at s.cells j ≡ Some c) top a.at_here) ∙ serve_free c p a.sits a.free d u k)
      where
        is : kind p ≡ Serial
        is = serial_is (kind p) k

        top : i ≡ l.stages
        top = siding (siding_of l (kind p)) refl
          where
            siding : (o : Option ℕ) → siding_of l (kind p) ≡ o → i ≡ l.stages
            siding (Some j) e = absurd (let z = acc.sided (kind p) j e in grind arith)
            siding None e = go (stop None e)
              where
                go : ((ends_units l (kind p) i || launches l (kind p) i) ≡ true) ⊎ (i ≡ l.stages) → i ≡ l.stages
                go (inr z) = z
                go (inl z) = let y : last_stage l (kind p) ≡ i = grind (arith, z, e) in sym y ∙ ap (last_stage l) is ∙ acc.serial_last

    class : (q r : Bool) → is_serial (kind p) ≡ q → is_free (kind p) ≡ r → ⊥
    class true r e f = serve e
    class false true e f = let z = a.stands.free_done f in true_false (sym z ∙ u)
      where
        true_false : true ≡ false → ⊥
        true_false e = cc
    class false false e f = siding (siding_of l (kind p)) refl (is_memory (kind p)) refl
      where
        siding : (o : Option ℕ) → siding_of l (kind p) ≡ o → (m : Bool) → is_memory (kind p) ≡ m → ⊥
        siding (Some k) g m y = launch k g
        siding None g true y = let z : siding_of l (kind p) ≡ Some (port l) = rw (memory_is (kind p) y) acc.memory in none_some (port l) (sym g ∙ z)
          where
            none_some : (a : ℕ) → None ≡ Some a → ⊥
            none_some a e = cc
        siding None g false y = execute (other_class (kind p) e f y) g

-- any topmost instruction moves
above_moves : {rest out : List ℕ} (l : Plan) (s : State) (x : Machine) (i : ℕ) (c : Cell) (p : Passenger) (below : List Item) → Suits l → Barred l s →
    Sound l s rest out x → Above l s i c p below → ⊥
above_moves {rest} {out} l s x i c p below acc b h a = go p.launched p.recovered p.dead p.done refl refl refl refl
  where
    held : (((p.launched && not p.recovered) || (not p.dead && not p.done)) ≡ true)
    held = from a.held
      where
        from : (stops_at l p i ≡ true) ⊎ ((i ≡ l.stages) × (((p.launched && not p.recovered) || (not p.dead && not p.done)) ≡ true)) →
            ((p.launched && not p.recovered) || (not p.dead && not p.done)) ≡ true
        from (inl z) = grind (arith, z)
        from (inr z) = z.1

    go : (o r d u : Bool) → p.launched ≡ o → p.recovered ≡ r → p.dead ≡ d → p.done ≡ u → ⊥
    go true false d u e f g k = out_moves l s x i c p below acc b h a e f
    go false r false false e f g k = waits_moves l s x i c p below acc b h a g k e
    go true true false false e f g k = let z = a.stands.back_done f g in absurd (grind arith)
    go true true true u e f g k = absurd (let z = held in grind arith)
    go true true false true e f g k = absurd (let z = held in grind arith)
    go false r true u e f g k = absurd (let z = held in grind arith)
    go false r false true e f g k = absurd (let z = held in grind arith)

sure_known : (isa : Isa) (i : ℕ) (p : Passenger) (w : trail.Walk) → ((r : ℕ) → w.coming r ≡ false) → w.barred ≡ false → sure.Fits isa (Up i p) w →
    p.dead ≡ false → (missing p.src1 ≡ None) × (missing p.src2 ≡ None)
sure_known isa i p w f b h d = go (sure_at isa i p w d b h)
  where
    go : sure.SureAt isa p w → (missing p.src1 ≡ None) × (missing p.src2 ≡ None)
    go q = unfold sure.SureAt in (known p.src1 w.coming f q.1.source1, known p.src2 w.coming f q.1.source2)

get_cell : (cells : List Cell) (k : ℕ) → k < length cells → (c : Cell) × (slice_get cells k ≡ Some c)
get_cell [] k e = absurd (omega arith)
get_cell (c ∷ cells) zero e = (c, refl)
get_cell (c ∷ cells) (suc k) e = get_cell cells k (omega arith)

got_cell : (cells : List Cell) (k : ℕ) (c : Cell) → slice_get cells k ≡ Some c → k < length cells
got_cell [] k c e = absurd (cc)
got_cell (d ∷ cells) zero c e = omega arith
got_cell (d ∷ cells) (suc k) c e = let h = got_cell cells k c e in omega arith

-- it must not climb out of its stage, or it is in the highest
head_held : (l : Plan) (s : State) → Barred l s → length s.cells ≡ l.stages → (q : Head 1 s.cells) → q.here.packet ≡ None → q.who.owes ≡ None →
    (stops_at l q.who (suc q.k) ≡ true) ⊎ ((suc q.k ≡ l.stages) × (((q.who.launched && not q.who.recovered) || (not q.who.dead && not q.who.done)) ≡ true))
head_held l s b z q free owes = go (nat_lt (suc q.k) l.stages) refl
  where
    in_range : q.k < l.stages
    in_range = let h = got_cell s.cells q.k q.here q.at_here in omega (arith, h, z)

    less : nat_lt (suc q.k) l.stages ≡ true → suc q.k < l.stages
    less e = grind arith

    not_less : nat_lt (suc q.k) l.stages ≡ false → l.stages ≤ suc q.k
    not_less e = grind arith

    go : (c : Bool) → nat_lt (suc q.k) l.stages ≡ c → (stops_at l q.who (suc q.k) ≡ true) ⊎ ((suc q.k ≡ l.stages)
        × (((q.who.launched && not q.who.recovered) || (not q.who.dead && not q.who.done)) ≡ true))
    go true e =
        let m = less e in
        let d = get_cell s.cells (suc q.k) (omega (arith, m, z)) in
        inl (stops_here l q.here d.0 q.who (suc q.k) q.sits free owes (q.clear d.0 d.1) (λ y. b.row (Climb (suc q.k)) refl
        (row_climb l s (suc q.k) q.here d.0 q.at_here d.1 ∙ y)))
    go false e =
        let m = not_less e in
        let r = in_range in
        let n : suc q.k ≡ l.stages = omega (arith, m, r) in
        inr (
          n,
          held_top q.here q.who q.sits free owes (λ y. b.row Leave refl (row_leave l s q.here
              (subst (λ (j : ℕ). cell_at s.cells j ≡ Some q.here) n q.at_here) ∙ y)),
        )

no_head : {rest out : List ℕ} (l : Plan) (s : State) (x : Machine) → Suits l → Barred l s → s.lane ≡ [] → Sound l s rest out x → Head 1 s.cells → ⊥
no_head {rest} {out} l s x acc b lane h q =
    let i = suc q.k in
    let e : 1 + q.k ≡ i = omega arith in
    let was : column s ≡ Up i q.who ∷ q.rest = q.was ∙ ap (λ (j : ℕ). Up j q.who ∷ q.rest) e in
    let stands = subst (Each l) was h.stands in
    let fits = subst (λ (z : List Item). Everywhere (sure.Fits (isa_of l)) (trail.past (isa_of l)) z (trail.top s x)) was h.path_fit in
    let order = subst Sorted was (sorted 1 s.cells) in
    let free = no_packet l s b q.k q.here q.at_here in
    let owes = owes_none q.here q.who q.sits free (λ z. b.row (Send i) refl (row_send l s i q.here q.at_here ∙ z)) in
    let none : (r : ℕ) → trail.among r s.lane ≡ false = λ r. ap (trail.among r) lane in
    above_moves l s x i q.here q.who q.rest acc b h
    (record {
      at_here = q.at_here;
      sits = q.sits;
      free = free;
      was = was;
      stands = stands.0;
      each = stands.1;
      under = order.0;
      owes = owes;
      known1 =
          λ d. (sure_known (isa_of l) i q.who (trail.top s x) none refl fits.0 d).0;
      known2 =
          λ d. (sure_known (isa_of l) i q.who (trail.top s x) none refl fits.0 d).1;
      held = head_held l s b h.size q free owes;
    })

-- the moves that are left, and that the next instruction can be issued
issue_free : (l : Plan) (s : State) (c : Cell) (pc : ℕ) → Suits l → s.lane ≡ [] → s.fetch ≡ Running pc → cell_at s.cells 1 ≡ Some c → c.passenger ≡ None →
    row_bar l s (Issue Next) ≡ None
issue_free l s c pc acc e f g h =
    let p : Passenger = fresh s.cache (fetched (isa_of l) s.mem pc) pc Next in
    let n = asks_size (missing p.src1) (missing p.src2) in
    let room : nat_lt l.lane (0 + length (requests p)) ≡ false = let r = acc.lane in grind (arith, r, n) in
    rw (g, f) (rw (h, e, room) refl)

-- nothing is in the processor, and fetch runs at the machine's address
pub record IsEmpty (plan : Plan) (s : State) (x : Machine) : Type 0 where
  pub column : column s ≡ []
  pub lane : s.lane ≡ []
  pub sidings : (k : ℕ) → operations_in (siding_at s k) ≡ []
  pub fetch : s.fetch ≡ Running x.hart.pc
  pub issue : bar plan s (Issue Next) ≡ None

pub stuck_empty : {rest out : List ℕ} (l : Plan) (s : State) (x : Machine) → Suits l → s.ending ≡ None → s.failed ≡ false → IsStuck l s → Sound l s rest out x →
    IsEmpty l s x
stuck_empty {rest} {out} l s x acc e f stuck h =
    let b = barred l s e f stuck in
    let top = get_cell s.cells (l.stages - 1) (let t = acc.tall in omega (arith, t, h.size)) in
    let high : suc (l.stages - 1) ≡ l.stages = let t = acc.tall in omega (arith, t) in
    let at : cell_at s.cells l.stages ≡ Some top.0 = subst (λ (j : ℕ). cell_at s.cells j ≡ Some top.0) high top.1 in
    let lane = lane_none s.lane top.0 (no_packet l s b (l.stages - 1) top.0 top.1) (λ z. b.row Emit refl (row_emit l s top.0 at ∙ z)) in
    go b lane (top_of 1 s.cells (λ k c z. no_packet l s b k c z))
  where
    go : Barred l s → s.lane ≡ [] → (column s ≡ []) ⊎ Head 1 s.cells → IsEmpty l s x
    go b lane (inr q) = absurd (no_head l s x acc b lane h q)
    go b lane (inl c) =
        let run : s.fetch ≡ Running x.hart.pc = subst (λ (z : List Item). sure.Ends (walk (trail.past (isa_of l)) z (trail.top s x)) s.fetch) c h.path_ends in
        let low = get_cell s.cells 0 (let t = acc.tall in omega (arith, t, h.size)) in
        record {
          column = c;
          lane = lane;
          sidings = λ k. h.moored.operations k ∙ ap (operations_of l k) c;
          fetch = run;
          issue = bar_is l s (Issue Next) e f
              ∙ issue_free l s low.0 x.hart.pc acc lane run low.1 (first_clear 1 s.cells c low.0 low.1);
        }
