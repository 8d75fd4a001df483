-- Fall keeps the invariant.
use Rattle.std.proofs.Common.{◌≡◌, ℕ, zero, suc, ◌-◌, List, [], ◌∷◌, Option, Some, None, true, false, refl, arith, sub-one}
use Rattle.cf_bind.specs.declared.cell.Cell.{Cell}
use Rattle.cf_bind.specs.declared.moves.Bar.TheVariants.{NoSuchSite}
use Rattle.cf_bind.specs.declared.moves.Move.TheVariants.{Fall}
use Rattle.cf_bind.specs.declared.packet.Packet.{Packet}
use Rattle.cf_layout.specs.Layout.{Plan}
use Rattle.theory_refinement.proofs.column.Change.{changed}
use Rattle.theory_refinement.proofs.column.Column.{fall_is, fall_was, pair}
use Rattle.theory_refinement.proofs.column.Stretch.{Stretch, pair_stretch}
use Rattle.theory_refinement.proofs.column.Fold.{Replaces}
use Rattle.theory_refinement.proofs.moves.Rows.{bar_row}
use Rattle.theory_refinement.proofs.invariant.Invariant.{Sound}
use Rattle.cf_semantics.specs.moves.Bars.{bar, fall_bar, is_full, row_bar}
use Rattle.cf_semantics.specs.state.Column.{Down, passenger_in}
use Rattle.cf_semantics.specs.state.Layouts.{isa_of}
use Rattle.cf_semantics.specs.moves.Moves.{fallen, moved, without_packet}
use Rattle.cf_semantics.specs.state.Options.{on}
use Rattle.cf_semantics.specs.state.State.{State, cell_at, put_cell}
use Rattle.rv_inst.specs.declared.isa.Isa.{Isa}
use Rattle.rv_machine.specs.Machine.{Machine}
use Rattle.theory_refinement.proofs.invariant.Port as dock
use Rattle.theory_refinement.proofs.walks.Lone as lones
use Rattle.theory_refinement.proofs.walks.Path as paths
use Rattle.theory_refinement.proofs.walks.Port as ports
use Rattle.theory_refinement.proofs.invariant.Sure as sure
use Rattle.cf_semantics.specs.claims.Path as trail

-- to stage i from the stage above it
pub record Falls (s : State) (i : ℕ) : Type 0 where
  pub low : Cell
  pub high : Cell
  pub what : Packet
  pub at_low : cell_at s.cells i ≡ Some low
  pub at_high : cell_at s.cells (suc i) ≡ Some high
  pub lies : high.packet ≡ Some what
  pub empty : low.packet ≡ None
  pub clear : is_full high ≡ false

pub fall_ready : (l : Plan) (s : State) (i : ℕ) → row_bar l s (Fall (suc i)) ≡ None → Falls s i
fall_ready l s i e = go (cell_at s.cells (suc i)) (cell_at s.cells i) refl refl (rw sub-one at e)
  where
    inner : (c d : Cell) (o : Option Packet) → cell_at s.cells (suc i) ≡ Some c → cell_at s.cells i ≡ Some d → c.packet ≡ o → fall_bar c (Some d) ≡ None →
        Falls s i
    inner c d None f g h e = absurd (grind arith)
    inner c d (Some k) f g h e = record { low = d; high = c; what = k; at_low = g; at_high = f; lies = h; empty = grind arith; clear = grind arith }

    go : (a b : Option Cell) → cell_at s.cells (suc i) ≡ a → cell_at s.cells i ≡ b → on (cell_at s.cells (suc i)) (Some NoSuchSite)
        (λ c. fall_bar c (cell_at s.cells i)) ≡ None → Falls s i
    go None b f g e = absurd (grind arith)
    go (Some c) None f g e = absurd (grind arith)
    go (Some c) (Some d) f g e = inner c d c.packet f g refl (rw (f, g) at e)

pub next_fall : (l : Plan) (s : State) (i : ℕ) (c d : Cell) → cell_at s.cells (suc i) ≡ Some c → cell_at s.cells i ≡ Some d →
    moved l s (Fall (suc i)) ≡ fallen s (suc i) c d
unfolding moved
next_fall l s i c d e f = let g : cell_at s.cells (suc i - 1) ≡ Some d = rw sub-one f in rw (e, g)

path_label : (isa : Isa) (i j : ℕ) (k : Packet) (w : trail.Walk) → Replaces trail.Walk (sure.Fits isa) (trail.past isa) paths.Follows (Down i k ∷ []) (Down j k
    ∷ []) w
unfolding sure.Fits trail.past
path_label isa i j k w =
    record {
      fit = λ h. h;
      follows = λ h. record {
        barred = λ b. b;
        machine = λ _. refl;
        goto = λ _. refl;
        settled = λ _ e. e;
        trapped = λ _ e. e;
        coming =
            λ _ r c. c;
      };
    }

port_label : (isa : Isa) (i j : ℕ) (k : Packet) (w : dock.Dock) → (w.path.barred ≡ true → w.risky ≡ true) →
    Replaces dock.Dock (dock.Fits isa) (dock.past isa) ports.Follows (Down i k ∷ []) (Down j k ∷ []) w
unfolding dock.Fits dock.past trail.past
port_label isa i j k w s =
    record {
      fit = λ h. h;
      follows = λ h. record {
        path = record {
          barred = λ b. b;
          machine = λ _. refl;
          goto = λ _. refl;
          settled = λ _ e. e;
          trapped =
              λ _ e. e;
          coming = λ _ r c. c;
        };
        safe = λ b. safe b;
        risky = λ b. b;
        mem = refl;
        code = refl;
        rest = refl;
        out = refl;
        answer = refl;
      };
    }
  where
    safe : (dock.past isa (Down i k) w).path.barred ≡ true → (dock.past isa (Down i k) w).risky ≡ true
    safe b = grind (arith, s)

pub no_fall : (l : Plan) (s : State) → row_bar l s (Fall zero) ≡ None → ⊥
no_fall l s e = cc

-- the cells once the result has fallen
abbrev pub cells_fallen : State → ℕ → Cell → Cell → List Cell
cells_fallen s i low high = put_cell (put_cell s.cells (suc i) (without_packet high)) i (record low { packet = high.packet; met = false })

-- the result is one stage lower
pub fall_stretch : (s : State) (i : ℕ) (r : Falls s i) → Stretch s (cells_fallen s i r.low r.high) (Down (suc i) r.what ∷ []) (Down i r.what ∷ [])
fall_stretch s i r =
    let p = pair s.cells i r.low r.high r.at_low r.at_high in
    let c : Cell = record r.low { packet = r.high.packet; met = false } in
    let d : Cell = without_packet r.high in
    pair_stretch s i r.low r.high c d p (cells_fallen s i r.low r.high) (passenger_in (suc i) r.high.passenger) (Down (suc i) r.what ∷ []) (Down i r.what ∷ [])
    (passenger_in i r.low.passenger) (p.set_down c d) (fall_was i (suc i) r.low r.high r.what r.lies r.empty r.clear)
    (fall_is i (suc i) r.low r.high r.what r.lies r.empty r.clear)

fall_above : {rest out : List ℕ} (l : Plan) (s : State) (x : Machine) (i : ℕ) → row_bar l s (Fall (suc i)) ≡ None → Sound l s rest out x →
    Sound l (moved l s (Fall (suc i))) rest out x
fall_above {rest} {out} l s x i e h =
    let r = fall_ready l s i e in
    let q = fall_stretch s i r in
    rw (next_fall l s i r.high r.low r.at_high r.at_low, sub-one) (changed l s x (cells_fallen s i r.low r.high) q.above (Down (suc i) r.what ∷ [])
    (Down i r.what ∷ []) q.below q.was q.is q.size (λ o. record {
      path = path_label (isa_of l) (suc i) i r.what _;
      lone = lones.fall_lone l i r.what _;
      stands = tt;
      port = port_label (isa_of l) (suc i) i r.what _ o.safe;
      operations = λ k. refl;
    }) h)

pub fall_kept : {rest out : List ℕ} (l : Plan) (s : State) (x : Machine) (i : ℕ) → bar l s (Fall i) ≡ None → Sound l s rest out x →
    Sound l (moved l s (Fall i)) rest out x
fall_kept {rest} {out} l s x zero e h = absurd (no_fall l s (bar_row l s (Fall zero) e))
fall_kept {rest} {out} l s x (suc i) e h = fall_above l s x i (bar_row l s (Fall (suc i)) e) h
