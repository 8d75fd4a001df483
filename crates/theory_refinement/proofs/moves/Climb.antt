-- Climb keeps the invariant.
use Rattle.std.proofs.Common.{◌≡◌, ℕ, suc, ◌+◌, ◌<◌, List, [], ◌∷◌, Option, Some, None, true, false, refl, ap, ◌∙◌, arith, length, length-append, add-one}
use Rattle.cf_bind.specs.declared.cell.Cell.{Cell}
use Rattle.cf_bind.specs.declared.moves.Bar.TheVariants.{NoSuchSite}
use Rattle.cf_bind.specs.declared.moves.Move.TheVariants.{Climb}
use Rattle.cf_bind.specs.declared.passenger.Passenger.{Passenger}
use Rattle.cf_layout.specs.Layout.{Plan}
use Rattle.theory_refinement.proofs.column.Change.{changed}
use Rattle.theory_refinement.proofs.column.Column.{climb_is, climb_was, pair}
use Rattle.theory_refinement.proofs.column.Stretch.{Stretch, pair_stretch}
use Rattle.theory_refinement.proofs.column.Fold.{Replaces}
use Rattle.theory_refinement.proofs.walks.Stands.{climb_stands}
use Rattle.theory_refinement.proofs.invariant.Invariant.{Sound}
use Rattle.cf_semantics.specs.moves.Bars.{bar, climb_bar, is_full, row_bar, stops_at}
use Rattle.cf_semantics.specs.state.Column.{Up, packet_in}
use Rattle.cf_semantics.specs.state.Layouts.{isa_of}
use Rattle.cf_semantics.specs.moves.Moves.{climbed, moved, without_passenger}
use Rattle.cf_semantics.specs.state.Options.{is_some, on}
use Rattle.cf_semantics.specs.state.State.{State, cell_at, put_cell}
use Rattle.rv_inst.specs.declared.isa.Isa.{Isa}
use Rattle.rv_machine.specs.Machine.{Machine}
use Rattle.theory_refinement.proofs.invariant.Port as dock
use Rattle.theory_refinement.proofs.walks.Lone as lones
use Rattle.theory_refinement.proofs.walks.Path as paths
use Rattle.theory_refinement.proofs.walks.Port as ports
use Rattle.theory_refinement.proofs.invariant.Sure as sure
use Rattle.cf_semantics.specs.claims.Path as trail
use Rattle.theory_refinement.proofs.moves.Rows.{bar_row}

pub record Climbs (l : Plan) (s : State) (i : ℕ) : Type 0 where
  pub low : Cell
  pub high : Cell
  pub who : Passenger
  pub at_low : cell_at s.cells i ≡ Some low
  pub at_high : cell_at s.cells (suc i) ≡ Some high
  pub sits : low.passenger ≡ Some who
  pub empty : high.passenger ≡ None
  pub clear : is_full low ≡ false
  pub nothing : is_some who.owes ≡ false
  pub passes : stops_at l who i ≡ false

pub climb_ready : (l : Plan) (s : State) (i : ℕ) → row_bar l s (Climb i) ≡ None → Climbs l s i
climb_ready l s i e = go (cell_at s.cells i) (cell_at s.cells (suc i)) refl refl (rw add-one at e)
  where
    inner : (c d : Cell) (o : Option Passenger) → cell_at s.cells i ≡ Some c → cell_at s.cells (suc i) ≡ Some d → c.passenger ≡ o →
        climb_bar l c i (Some d) ≡ None → Climbs l s i
    inner c d None f g h e = absurd (grind arith)
    inner c d (Some p) f g h e =
        record {
          low = c;
          high = d;
          who = p;
          at_low = f;
          at_high = g;
          sits = h;
          empty = grind arith;
          clear = grind arith;
          nothing = grind arith;
          passes =
              grind arith;
        }

    go : (a b : Option Cell) → cell_at s.cells i ≡ a → cell_at s.cells (suc i) ≡ b → on (cell_at s.cells i) (Some NoSuchSite)
        (λ c. climb_bar l c i (cell_at s.cells (suc i))) ≡ None → Climbs l s i
    go None b f g e = absurd (grind arith)
    go (Some c) None f g e = absurd (grind arith)
    go (Some c) (Some d) f g e = inner c d c.passenger f g refl (rw (f, g) at e)

pub next_climb : (l : Plan) (s : State) (i : ℕ) (c d : Cell) → cell_at s.cells i ≡ Some c → cell_at s.cells (suc i) ≡ Some d →
    moved l s (Climb i) ≡ climbed s i c d
unfolding moved
next_climb l s i c d e f = let g : cell_at s.cells (i + 1) ≡ Some d = rw add-one f in rw (e, g)

path_label : (isa : Isa) (i j : ℕ) (p : Passenger) (w : trail.Walk) → Replaces trail.Walk (sure.Fits isa) (trail.past isa) paths.Follows (Up i p ∷ []) (Up j p
    ∷ []) w
unfolding sure.Fits trail.past
path_label isa i j p w =
    record {
      fit = λ h. h;
      follows = λ h. record {
        barred = λ b. b;
        machine = λ _. refl;
        goto = λ _. refl;
        settled = λ _ e. e;
        trapped = λ _ e. e;
        coming =
            λ _ r c. c;
      };
    }

port_label : (isa : Isa) (i j : ℕ) (p : Passenger) (w : dock.Dock) → (w.path.barred ≡ true → w.risky ≡ true) →
    Replaces dock.Dock (dock.Fits isa) (dock.past isa) ports.Follows (Up i p ∷ []) (Up j p ∷ []) w
unfolding dock.Fits dock.past trail.past
port_label isa i j p w s =
    record {
      fit = λ h. h;
      follows = λ h. record {
        path = record {
          barred = λ b. b;
          machine = λ _. refl;
          goto = λ _. refl;
          settled = λ _ e. e;
          trapped =
              λ _ e. e;
          coming = λ _ r c. c;
        };
        safe = λ b. safe b;
        risky = λ b. b;
        mem = refl;
        code = refl;
        rest = refl;
        out = refl;
        answer = refl;
      };
    }
  where
    safe : (dock.past isa (Up i p) w).path.barred ≡ true → (dock.past isa (Up i p) w).risky ≡ true
    safe b = grind (arith, s)

-- the cells once the instruction has climbed
abbrev pub cells_climbed : State → ℕ → Cell → Cell → List Cell
cells_climbed s i low high = put_cell (put_cell s.cells i (without_passenger low)) (suc i) (record high { passenger = low.passenger; met = false })

-- the instruction is one stage higher
pub climb_stretch : (l : Plan) (s : State) (i : ℕ) (r : Climbs l s i) → Stretch s (cells_climbed s i r.low r.high) (Up i r.who ∷ []) (Up (suc i) r.who ∷ [])
climb_stretch l s i r =
    let p = pair s.cells i r.low r.high r.at_low r.at_high in
    let c : Cell = without_passenger r.low in
    let d : Cell = record r.high { passenger = r.low.passenger; met = false } in
    pair_stretch s i r.low r.high c d p (cells_climbed s i r.low r.high) (packet_in (suc i) r.high.packet) (Up i r.who ∷ []) (Up (suc i) r.who ∷ [])
    (packet_in i r.low.packet) (p.set c d) (climb_was i (suc i) r.low r.high r.who r.sits r.empty r.clear)
    (climb_is i (suc i) r.low r.high r.who r.sits r.empty r.clear)

pub climb_kept : {rest out : List ℕ} (l : Plan) (s : State) (x : Machine) (i : ℕ) → bar l s (Climb i) ≡ None → Sound l s rest out x →
    Sound l (moved l s (Climb i)) rest out x
climb_kept {rest} {out} l s x i e h =
    let r = climb_ready l s i (bar_row l s (Climb i) e) in
    let p = pair s.cells i r.low r.high r.at_low r.at_high in
    let q = climb_stretch l s i r in
    let room : i < l.stages = omega (arith, h.size, p.number, ap length p.split ∙ length-append p.below (r.low ∷ r.high ∷ p.above)) in
    rw (next_climb l s i r.low r.high r.at_low r.at_high, add-one) (changed l s x (cells_climbed s i r.low r.high) q.above (Up i r.who ∷ []) (Up (suc i) r.who
    ∷ []) q.below q.was q.is q.size (λ o. record {
      path = path_label (isa_of l) i (suc i) r.who _;
      lone = lones.climb_lone l i (suc i) r.who _ r.nothing;
      stands = (climb_stands l i r.who room r.passes o.stands.0, tt);
      port = port_label (isa_of l) i (suc i) r.who _ o.safe;
      operations = λ k. refl;
    }) h)
