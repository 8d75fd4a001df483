-- Meet keeps the invariant.
use Rattle.std.proofs.Common.{◌≡◌, ℕ, List, [], ◌∷◌, Option, Some, None, Bool, true, false, ◌||◌, refl, sym, ◌∙◌, arith}
use Rattle.cf_bind.specs.Meeting.{meeting}
use Rattle.cf_bind.specs.declared.cell.Cell.{Cell}
use Rattle.cf_bind.specs.declared.moves.Bar.TheVariants.{NoSuchSite}
use Rattle.cf_bind.specs.declared.moves.Move.TheVariants.{Meet}
use Rattle.cf_bind.specs.declared.packet.Packet.{Packet}
use Rattle.cf_bind.specs.declared.passenger.Passenger.{Passenger}
use Rattle.cf_layout.specs.Layout.{Plan}
use Rattle.theory_refinement.proofs.column.Change.{changed, walk_path, walk_safe}
use Rattle.theory_refinement.proofs.column.Stretch.{Stretch, stage_stretch}
use Rattle.theory_refinement.proofs.column.Fold.{Replaces}
use Rattle.theory_refinement.proofs.walks.Stands.{meet_rider}
use Rattle.theory_refinement.proofs.invariant.Invariant.{Sound}
use Rattle.theory_refinement.proofs.invariant.Stands.{Each, Stands}
use Rattle.cf_semantics.specs.moves.Bars.{bar, meet_bar, row_bar}
use Rattle.cf_semantics.specs.state.Column.{Down, Up, in_order, packet_in, passenger_in}
use Rattle.cf_semantics.specs.state.Layouts.{isa_of}
use Rattle.cf_semantics.specs.moves.Moves.{cell_met, moved}
use Rattle.cf_semantics.specs.state.Options.{is_some, on}
use Rattle.cf_semantics.specs.state.Passengers.{missing}
use Rattle.cf_semantics.specs.state.State.{State, cell_at, put_cell, with_cell}
use Rattle.cf_semantics.specs.claims.Walks.{Everywhere}
use Rattle.rv_inst.specs.declared.isa.Isa.{Isa}
use Rattle.rv_machine.specs.Machine.{Machine}
use Rattle.theory_refinement.proofs.invariant.Port as dock
use Rattle.theory_refinement.proofs.walks.Lone as lones
use Rattle.theory_refinement.proofs.walks.PathMeet as pathmeet
use Rattle.theory_refinement.proofs.walks.PortMoves as portmoves
use Rattle.theory_refinement.proofs.walks.Port as ports
use Rattle.theory_refinement.proofs.invariant.Sure as sure
use Rattle.cf_semantics.specs.claims.Path as trail
use Rattle.cf_semantics.specs.claims.Soundness.{operations_of}
use Rattle.theory_refinement.proofs.moves.Rows.{bar_row}

pub record Meets (s : State) (i : ℕ) : Type 0 where
  pub here : Cell
  pub who : Passenger
  pub what : Packet
  pub at_here : cell_at s.cells i ≡ Some here
  pub sits : here.passenger ≡ Some who
  pub lies : here.packet ≡ Some what
  pub apart : here.met ≡ false

pub meet_ready : (l : Plan) (s : State) (i : ℕ) → row_bar l s (Meet i) ≡ None → Meets s i
meet_ready l s i e = go (cell_at s.cells i) refl e
  where
    inner : (c : Cell) (o : Option Passenger) (k : Option Packet) → cell_at s.cells i ≡ Some c → c.passenger ≡ o → c.packet ≡ k → meet_bar c ≡ None → Meets s i
    inner c None k f h g e = absurd (grind arith)
    inner c (Some p) None f h g e = absurd (grind arith)
    inner c (Some p) (Some k) f h g e = record { here = c; who = p; what = k; at_here = f; sits = h; lies = g; apart = grind arith }

    go : (a : Option Cell) → cell_at s.cells i ≡ a → on a (Some NoSuchSite) meet_bar ≡ None → Meets s i
    go None f e = absurd (cc)
    go (Some c) f e = inner c c.passenger c.packet f refl refl e

pub next_meet : (l : Plan) (s : State) (i : ℕ) (c : Cell) (p : Passenger) (k : Packet) → cell_at s.cells i ≡ Some c → c.passenger ≡ Some p → c.packet ≡ Some k →
    moved l s (Meet i) ≡ with_cell s i (cell_met c p k)
unfolding moved
next_meet l s i c p k e f g = rw (e, f, g)

pub items_met : (i : ℕ) (p : Passenger) (o : Option Packet) → in_order (is_some o) (passenger_in i (Some p)) (packet_in i o) ≡ pathmeet.met_items i p o
items_met i p None = refl
items_met i p (Some k) = refl

meet_port : (isa : Isa) (i : ℕ) (p : Passenger) (k : Packet) (w : dock.Dock) → (w.path.barred ≡ true → w.risky ≡ true) →
    Everywhere (sure.Fits isa) (trail.past isa) (Down i k ∷ Up i p ∷ []) w.path → ((p.launched || p.recovered) ≡ true → missing p.src1 ≡ None) →
    Replaces dock.Dock (dock.Fits isa) (dock.past isa) ports.Follows (Down i k ∷ Up i p ∷ [])
    (pathmeet.met_items i (meeting p k).passenger (meeting p k).packet) w
meet_port isa i p k w s f m = record {
  fit = portmoves.meet_fits isa i p k w m;
  follows = λ h. record {
    path = rw (walk_path isa (Down i k ∷ Up i p ∷ []) w, walk_path isa (pathmeet.met_items i (meeting p k).passenger (meeting p k).packet) w)
        (pathmeet.meet_walk isa i p k w.path f);
    safe = walk_safe isa (pathmeet.met_items i (meeting p k).passenger (meeting p k).packet) w s;
    risky = portmoves.meet_risky isa i p k w;
    mem = portmoves.meet_mem isa i p k w h;
    code = portmoves.meet_code isa i p k w h;
    rest = portmoves.meet_rest isa i p k w h;
    out = portmoves.meet_out isa i p k w h;
    answer = portmoves.meet_answer isa i p k w h;
  };
}

met_stands : (l : Plan) (i : ℕ) (q : Passenger) (o : Option Packet) → Stands l i q → Each l (pathmeet.met_items i q o)
met_stands l i q None h = (h, tt)
met_stands l i q (Some k) h = (h, tt)

met_flown : (l : Plan) (n i : ℕ) (q : Passenger) (o : Option Packet) → operations_of l n (pathmeet.met_items i q o) ≡ operations_of l n (Up i q ∷ [])
met_flown l n i q None = refl
met_flown l n i q (Some k) = refl

-- what is launched has its sources, so that a meeting leaves its operation
meet_out : (l : Plan) (n i : ℕ) (p : Passenger) (k : Packet) → (p.launched ≡ true → (missing p.src1 ≡ None) × (missing p.src2 ≡ None)) →
    operations_of l n (Up i p ∷ []) ≡ operations_of l n (Up i (meeting p k).passenger ∷ [])
unfolding meeting
meet_out l n i p k h = grind arith

sources_out : (l : Plan) (i : ℕ) (p : Passenger) → Stands l i p → (p.launched || p.recovered) ≡ true → missing p.src1 ≡ None
sources_out l i p h e = go p.launched refl
  where
    go : (b : Bool) → p.launched ≡ b → missing p.src1 ≡ None
    go true f = h.sourced1 f
    go false f = h.sourced1 (h.back_launched (rw f at e))

-- the result is above the instruction, and what is left of it below
pub meet_stretch : (s : State) (i : ℕ) (r : Meets s i) → Stretch s (put_cell s.cells i (cell_met r.here r.who r.what)) (Down i r.what ∷ Up i r.who ∷ [])
    (pathmeet.met_items i (meeting r.who r.what).passenger (meeting r.who r.what).packet)
meet_stretch s i r =
    let q = (meeting r.who r.what).passenger in
    let o = (meeting r.who r.what).packet in
    stage_stretch s i r.here (cell_met r.here r.who r.what) (Down i r.what ∷ Up i r.who ∷ []) (pathmeet.met_items i q o) r.at_here
    (rw (r.sits, r.lies, r.apart) refl) (items_met i q o)

pub meet_kept : {rest out : List ℕ} (l : Plan) (s : State) (x : Machine) (i : ℕ) → bar l s (Meet i) ≡ None → Sound l s rest out x →
    Sound l (moved l s (Meet i)) rest out x
meet_kept {rest} {out} l s x i e h =
    let r = meet_ready l s i (bar_row l s (Meet i) e) in
    let q = (meeting r.who r.what).passenger in
    let o = (meeting r.who r.what).packet in
    let p = meet_stretch s i r in
    rw (next_meet l s i r.here r.who r.what r.at_here r.sits r.lies) (changed l s x (put_cell s.cells i (cell_met r.here r.who r.what)) p.above (Down i r.what
    ∷ Up i r.who ∷ []) (pathmeet.met_items i q o) p.below p.was p.is p.size (λ k. record {
      path = record { fit = pathmeet.meet_fits (isa_of l) i r.who r.what _; follows = pathmeet.meet_walk (isa_of l) i r.who r.what _ };
      lone = lones.meet_lone l i r.who r.what _ k.stands.0;
      stands = met_stands l i q o (meet_rider l i r.who r.what k.stands.0);
      port = meet_port (isa_of l) i r.who r.what _ k.safe (rw k.same k.path_fit) (sources_out l i r.who k.stands.0);
      operations = λ n. meet_out l n i r.who r.what (λ a. (k.stands.0.sourced1 a, k.stands.0.sourced2 a)) ∙ sym (met_flown l n i q o);
    }) h)
