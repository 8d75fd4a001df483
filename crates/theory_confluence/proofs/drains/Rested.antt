-- A sound state in which no move but Issue is allowed is like one that starts on the machine.
use Rattle.std.proofs.Common.{◌≡◌, ℕ, zero, suc, List, [], ◌∷◌, ◌++◌, length, Option, Some, None, Bool, true, false, ◌&&◌, ◌||◌, not, refl, sym, ap, subst, ◌∙◌, arith}
use Rattle.std.specs.Prelude.{slice_get, slice_index, replicate, map, unwrap_or}
use Rattle.std.specs.List.{list_any}
use Rattle.rv_machine.specs.Machine.{Machine}
use Rattle.rv_machine.specs.After.{after}
use Rattle.cf_layout.specs.Layout.{Plan, SidingPlan, no_siding, cells_of}
use Rattle.cf_bind.specs.declared.cell.Cell.{Cell}
use Rattle.cf_bind.specs.declared.cell.Op.{Op}
use Rattle.cf_bind.specs.declared.packet.Packet.{Packet}
use Rattle.cf_bind.specs.declared.passenger.Passenger.{Passenger}
use Rattle.cf_bind.specs.declared.passenger.Guess.TheVariants.{Next}
use Rattle.cf_bind.specs.declared.moves.Move.TheVariants.{Issue}
use Rattle.cf_semantics.specs.state.Options.{is_some}
use Rattle.cf_semantics.specs.state.State.{State, Moment, siding_at}
use Rattle.cf_semantics.specs.moves.Bars.{bar}
use Rattle.cf_semantics.specs.state.Column.{Item, column, column_from, items, in_order, passenger_in, packet_in}
use Rattle.cf_semantics.specs.state.Layouts.{isa_of}
use Rattle.cf_semantics.specs.runs.Runs.{opened, empty_cell, empty_siding}
use Rattle.cf_semantics.specs.claims.Refines.{gained}
use Rattle.cf_semantics.specs.claims.Walks.{walk}
use Rattle.cf_semantics.specs.state.Drained.{is_drained, is_occupied, IsStuck}
use Rattle.cf_semantics.specs.claims.Determined.{IsSame, IsDrainedAt, KeepsRegisters}
use Rattle.cf_semantics.specs.claims.Path as trail
use Rattle.cf_semantics.specs.claims.Soundness.{as_launched, operations_in}
use Rattle.theory_refinement.proofs.invariant.Invariant.{HoldsAfter, HoldsAt, Sound}
use Rattle.theory_refinement.proofs.invariant.Suited.{Suits}
use Rattle.theory_refinement.proofs.invariant.Port as dock
use Rattle.theory_refinement.proofs.invariant.Sure as sure
use Rattle.theory_refinement.proofs.column.Sidings.{cells_in}
use Rattle.theory_confluence.proofs.drains.Counted.{after_counts}
use Rattle.theory_confluence.proofs.drains.Drains.{IsEmpty, stuck_empty}
use Rattle.theory_confluence.proofs.drains.Tidy.{IsTidy, all_neat, is_neat, neat_parts}
use Rattle.theory_refinement.proofs.claims.Lines.{gained_is}

-- stages
both_none : {A : Type 0} → (a b : List A) → a ++ b ≡ [] → (a ≡ []) × (b ≡ [])
both_none [] b e = (refl, e)
both_none (x ∷ a) b e = absurd (cc)

nobody : (i : ℕ) (met : Bool) (p : Option Passenger) (k : Option Packet) → in_order met (passenger_in i p) (packet_in i k) ≡ [] → (p ≡ None) × (k ≡ None)
nobody i met None None e = (refl, refl)
nobody i true (Some p) None e = absurd (cc)
nobody i true None (Some k) e = absurd (cc)
nobody i true (Some p) (Some k) e = absurd (cc)
nobody i false (Some p) None e = absurd (cc)
nobody i false None (Some k) e = absurd (cc)
nobody i false (Some p) (Some k) e = absurd (cc)

blank_cell : (i : ℕ) (c : Cell) → items i c ≡ [] → is_neat c ≡ true → c ≡ empty_cell
blank_cell i c e n = let z = nobody i c.met c.passenger c.packet e in go c.passenger c.packet c.met z.0 z.1 n
  where
    go : (p : Option Passenger) (k : Option Packet) (b : Bool) → p ≡ None → k ≡ None → (not b || (is_some p && is_some k)) ≡ true →
        record { passenger = p; packet = k; met = b } ≡ empty_cell
    go None None false e f g = refl
    go None None true e f g = absurd (cc)
    go (Some p) k b e f g = absurd (cc)
    go None (Some k) b e f g = absurd (cc)

blank_cells : (i : ℕ) (cells : List Cell) → column_from i cells ≡ [] → all_neat cells ≡ true → cells ≡ replicate (length cells) empty_cell
blank_cells i [] e n = refl
blank_cells i (c ∷ cells) e n =
    let z = both_none (column_from (suc i) cells) (items i c) e in
    let q = neat_parts c cells n in
    let a = blank_cell i c z.1 q.0 in
    let b = blank_cells (suc i) cells z.0 q.1 in
    rw a (ap (λ (l : List Cell). empty_cell ∷ l) b)

-- sidings
blank_ops : (q : List (Option Op)) → operations_in q ≡ [] → q ≡ replicate (length q) None
blank_ops [] e = refl
blank_ops (o ∷ q) e =
    let z = both_none (operations_in q) (as_launched o) e in
    let b = blank_ops q z.0 in
    rw (none o z.1) (ap (λ (l : List (Option Op)). None ∷ l) b)
  where
    none : (o : Option Op) → as_launched o ≡ [] → o ≡ None
    none None e = refl
    none (Some op) e = absurd (cc)

blank_sidings : (ss : List (List (Option Op))) (ps : List SidingPlan) → length ss ≡ length ps → ((k : ℕ) → operations_in (cells_in ss k) ≡ []) →
    ((k : ℕ) → length (cells_in ss k) ≡ (unwrap_or (slice_get ps k) no_siding).cells) → ss ≡ map empty_siding ps
blank_sidings [] [] e f g = refl
blank_sidings [] (p ∷ ps) e f g = absurd (cc)
blank_sidings (q ∷ ss) [] e f g = absurd (cc)
blank_sidings (q ∷ ss) (p ∷ ps) e f g =
    let a : q ≡ empty_siding p = blank_ops q (f 0) ∙ ap (λ (n : ℕ). replicate n None) (g 0) in
    let b = blank_sidings ss ps (omega (arith, e)) (λ k. f (suc k)) (λ k. g (suc k)) in
    rw a (ap (λ (l : List (List (Option Op))). empty_siding p ∷ l) b)

sidings_blank : (l : Plan) (s : State) → length s.sidings ≡ length l.sidings → ((k : ℕ) → operations_in (siding_at s k) ≡ []) →
    ((k : ℕ) → length (siding_at s k) ≡ cells_of l k) → s.sidings ≡ map empty_siding l.sidings
unfolding cells_of
sidings_blank l s e f g = blank_sidings s.sidings l.sidings e f g

-- nothing is in it
no_cells : (n : ℕ) → list_any is_occupied (replicate n empty_cell) ≡ false
no_cells zero = refl
no_cells (suc n) = no_cells n

no_ops : (n : ℕ) → list_any is_some (replicate {A = Option Op} n None) ≡ false
no_ops zero = refl
no_ops (suc n) = no_ops n

no_sidings : (ps : List SidingPlan) → list_any (list_any is_some) (map empty_siding ps) ≡ false
no_sidings [] = refl
no_sidings (p ∷ ps) = rw (no_ops p.cells) (no_sidings ps)

pub drained_is : (l : Plan) (x : Machine) (s : State) → IsSame s (opened l x) → is_drained s ≡ true
unfolding is_drained opened
drained_is l x s h = rw (h.cells, h.sidings, h.lane) (rw (no_cells l.stages, no_sidings l.sidings) refl)

-- the count
pub after_gained : (l : Plan) (x0 : Machine) (m : Moment) (h : HoldsAfter l x0 m) → after (isa_of l) x0 (gained x0 m.state) ≡ Some h.machine
after_gained l x0 m h = ap (after (isa_of l) x0) (gained_is l x0 m h) ∙ h.after

pub retired_is : (l : Plan) (x0 : Machine) (m : Moment) (h : HoldsAfter l x0 m) → m.state.retired ≡ h.machine.hart.retired
retired_is l x0 m h = h.count ∙ sym (after_counts (isa_of l) x0 h.machine h.gained h.after)

-- if nothing is in the pipes, each cached value is its register's
pub empty_keeps : (l : Plan) (x : Machine) (m : Moment) → Sound l m.state m.rest m.output x → column m.state ≡ [] → KeepsRegisters m.state
empty_keeps l x m h e r v c =
    let k = subst (λ (q : List Item). sure.Keeps (walk (trail.past (isa_of l)) q (trail.top m.state x)) m.state.cache) e h.cache in
    k r v c ∙ ap (λ (q : List ℕ). slice_index q r) (sym h.regs)

pub empty_drained : (l : Plan) (x : Machine) (m : Moment) → IsTidy l m.state → m.state.retired ≡ x.hart.retired → m.state.ending ≡ None →
    Sound l m.state m.rest m.output x → IsEmpty l m.state x → IsDrainedAt l x m
unfolding opened
empty_drained l x m t n e h q =
    let ends = subst (λ (z : List Item). dock.Ends (walk (dock.past (isa_of l)) z (dock.top l m.state x)) m.state.mem m.rest m.output) q.column h.port_ends in
    record {
      same = record {
        cells = blank_cells 1 m.state.cells q.column t.neat ∙ ap (λ (n : ℕ). replicate n empty_cell) h.size;
        sidings = sidings_blank l m.state t.sidings q.sidings h.moored.berths;
        lane = q.lane;
        fetch = q.fetch;
        regs = h.regs;
        mem = ends.is_mem;
        retired = n;
        ending = e;
        failed = t.failed;
      };
      kept = empty_keeps l x m h q.column;
      rest = ends.is_rest;
      output = ends.is_out;
    }

-- drained at the machine, with Issue allowed and nothing in the pipes
pub record Rested (plan : Plan) (x : Machine) (m : Moment) : Type 0 where
  pub drained : IsDrainedAt plan x m
  pub issue : bar plan m.state (Issue Next) ≡ None
  pub column : column m.state ≡ []

pub rested : (l : Plan) (x0 : Machine) (m : Moment) → Suits l → IsTidy l m.state → (h : HoldsAfter l x0 m) → m.state.ending ≡ None → IsStuck l m.state →
    Rested l h.machine m
rested l x0 m acc t h e stuck =
    let sound : Sound l m.state m.rest m.output h.machine = subst (HoldsAt l m.state m.rest m.output h.machine) e h.stage in
    let q = stuck_empty l m.state h.machine acc e t.failed stuck sound in
    record { drained = empty_drained l h.machine m t (retired_is l x0 m h) e sound q; issue = q.issue; column = q.column }
