-- Send keeps the invariant.
use Rattle.std.proofs.Common.{◌≡◌, ℕ, List, [], ◌∷◌, Option, Some, None, true, refl, arith}
use Rattle.cf_bind.specs.declared.cell.Cell.{Cell}
use Rattle.cf_bind.specs.declared.moves.Bar.TheVariants.{NoSuchSite}
use Rattle.cf_bind.specs.declared.moves.Move.TheVariants.{Send}
use Rattle.cf_bind.specs.declared.packet.Packet.{Packet}
use Rattle.cf_bind.specs.declared.passenger.Passenger.{Passenger}
use Rattle.cf_layout.specs.Layout.{Plan}
use Rattle.theory_refinement.proofs.column.Change.{changed}
use Rattle.theory_refinement.proofs.column.Stretch.{Stretch, stage_stretch}
use Rattle.theory_refinement.proofs.column.Fold.{Replaces}
use Rattle.theory_refinement.proofs.moves.Rows.{bar_row}
use Rattle.theory_refinement.proofs.walks.Stands.{send_stands}
use Rattle.theory_refinement.proofs.invariant.Invariant.{Sound}
use Rattle.cf_semantics.specs.moves.Bars.{bar, row_bar, send_bar}
use Rattle.cf_semantics.specs.state.Column.{Down, Up}
use Rattle.cf_semantics.specs.state.Layouts.{isa_of}
use Rattle.cf_semantics.specs.moves.Moves.{moved}
use Rattle.cf_semantics.specs.state.Options.{is_some, on}
use Rattle.cf_semantics.specs.state.State.{State, cell_at, put_cell, with_cell}
use Rattle.cf_semantics.specs.claims.Walks.{Everywhere}
use Rattle.rv_inst.specs.declared.isa.Isa.{Isa}
use Rattle.rv_machine.specs.Machine.{Machine}
use Rattle.theory_refinement.proofs.invariant.Port as dock
use Rattle.theory_refinement.proofs.walks.Lone as lones
use Rattle.theory_refinement.proofs.walks.Path as paths
use Rattle.theory_refinement.proofs.walks.PortMoves as portmoves
use Rattle.theory_refinement.proofs.walks.Port as ports
use Rattle.theory_refinement.proofs.invariant.Sure as sure
use Rattle.cf_semantics.specs.claims.Path as trail
use Rattle.theory_refinement.proofs.column.Column.{alone}

pub record Sends (s : State) (i : ℕ) : Type 0 where
  pub here : Cell
  pub who : Passenger
  pub what : Packet
  pub at_here : cell_at s.cells i ≡ Some here
  pub sits : here.passenger ≡ Some who
  pub owes : who.owes ≡ Some what
  pub free : here.packet ≡ None

pub send_ready : (l : Plan) (s : State) (i : ℕ) → row_bar l s (Send i) ≡ None → Sends s i
send_ready l s i e = go (cell_at s.cells i) refl e
  where
    inner : (c : Cell) (o : Option Passenger) → cell_at s.cells i ≡ Some c → c.passenger ≡ o → send_bar c ≡ None → Sends s i
    inner c None f h e = absurd (grind arith)
    inner c (Some p) f h e = let o : (k : Packet) × (p.owes ≡ Some k) = owed p.owes (grind arith) in
        record { here = c; who = p; what = o.0; at_here = f; sits = h; owes = o.1; free = grind arith }
      where
        owed : (a : Option Packet) → is_some a ≡ true → (k : Packet) × (a ≡ Some k)
        owed None e = absurd (cc)
        owed (Some k) e = (k, refl)

    go : (a : Option Cell) → cell_at s.cells i ≡ a → on a (Some NoSuchSite) send_bar ≡ None → Sends s i
    go None f e = absurd (cc)
    go (Some c) f e = inner c c.passenger f refl e

pub next_send : (l : Plan) (s : State) (i : ℕ) (c : Cell) (p : Passenger) (k : Packet) → cell_at s.cells i ≡ Some c → c.passenger ≡ Some p → p.owes ≡ Some k →
    moved l s (Send i) ≡ with_cell s i (record { passenger = Some (record p { owes = None }); packet = Some k; met = true })
unfolding moved
next_send l s i c p k e f g = rw (e, f, g)

send_port : (isa : Isa) (i : ℕ) (p : Passenger) (k : Packet) (w : dock.Dock) → p.owes ≡ Some k → (w.path.barred ≡ true → w.risky ≡ true) →
    Everywhere (sure.Fits isa) (trail.past isa) (Up i p ∷ []) w.path → Replaces dock.Dock (dock.Fits isa) (dock.past isa) ports.Follows (Up i p ∷ [])
    (Up i (record p { owes = None }) ∷ Down i k ∷ []) w
send_port isa i p k w e s f =
    record { fit = portmoves.send_fits isa i p k w e; follows = portmoves.send_walk isa i p k w e s (paths.send_walk isa i p k w.path e f) }

-- what is owed is below its owner
pub send_stretch : (s : State) (i : ℕ) (r : Sends s i) → Stretch s (put_cell s.cells i (record
    { passenger = Some (record r.who { owes = None }); packet = Some r.what; met = true })) (Up i r.who ∷ []) (Up i (record r.who { owes = None })
    ∷ Down i r.what ∷ [])
send_stretch s i r =
    let q : Passenger = record r.who { owes = None } in
    stage_stretch s i r.here (record { passenger = Some q; packet = Some r.what; met = true }) (Up i r.who ∷ []) (Up i q ∷ Down i r.what ∷ []) r.at_here
    (rw (r.sits, r.free, alone r.here.met (Up i r.who ∷ [])) refl) refl

pub send_kept : {rest out : List ℕ} (l : Plan) (s : State) (x : Machine) (i : ℕ) → bar l s (Send i) ≡ None → Sound l s rest out x →
    Sound l (moved l s (Send i)) rest out x
send_kept {rest} {out} l s x i e h =
    let r = send_ready l s i (bar_row l s (Send i) e) in
    let q : Passenger = record r.who { owes = None } in
    let d : Cell = record { passenger = Some q; packet = Some r.what; met = true } in
    let p = send_stretch s i r in
    rw (next_send l s i r.here r.who r.what r.at_here r.sits r.owes) (changed l s x (put_cell s.cells i d) p.above (Up i r.who ∷ []) (Up i q ∷ Down i r.what
    ∷ []) p.below p.was p.is p.size (λ k. record {
      path = record { fit = paths.send_fits (isa_of l) i r.who r.what _ r.owes; follows = paths.send_walk (isa_of l) i r.who r.what _ r.owes };
      lone = lones.send_lone l i r.who r.what _ r.owes k.stands.0;
      stands = (send_stands l i r.who k.stands.0, tt);
      port = send_port (isa_of l) i r.who r.what _ r.owes k.safe (rw k.same k.path_fit);
      operations = λ n. refl;
    }) h)
