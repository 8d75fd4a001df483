-- Emit keeps the invariant.
use Rattle.std.proofs.Common.{Bool, List, None, Option, Some, [], ap, arith, false, length, refl, subst, sym, ℕ, ◌++◌, ◌∙◌, ◌∷◌, ◌≡◌}
use Rattle.std.specs.Prelude.{slice_index}
use Rattle.cf_bind.specs.declared.cell.Cell.{Cell}
use Rattle.cf_bind.specs.declared.moves.Bar.TheVariants.{NoSuchSite}
use Rattle.cf_bind.specs.declared.moves.Move.TheVariants.{Emit}
use Rattle.cf_bind.specs.declared.packet.Packet.{Packet}
use Rattle.cf_bind.specs.declared.packet.Packet.TheVariants.{Value}
use Rattle.cf_layout.specs.Layout.{Plan}
use Rattle.theory_refinement.proofs.column.Change.{ends_path, ends_port, keeps_path}
use Rattle.theory_refinement.proofs.column.Column.{alone, top_cell}
use Rattle.theory_refinement.proofs.column.Fold.{fit_follows, walk_follows}
use Rattle.theory_refinement.proofs.moves.Rows.{bar_row, put_size}
use Rattle.theory_refinement.proofs.invariant.Invariant.{Sound}
use Rattle.cf_semantics.specs.moves.Bars.{bar, emit_bar, row_bar}
use Rattle.cf_semantics.specs.state.Column.{Down, Item, column, column_from, items, passenger_in}
use Rattle.cf_semantics.specs.state.Layouts.{isa_of}
use Rattle.cf_semantics.specs.moves.Moves.{emitted, moved}
use Rattle.cf_semantics.specs.state.Options.{on}
use Rattle.cf_semantics.specs.state.State.{State, cell_at, put_cell}
use Rattle.cf_semantics.specs.claims.Walks.{Everywhere, walk}
use Rattle.rv_inst.specs.declared.isa.Isa.{Isa}
use Rattle.rv_machine.specs.Machine.{Machine}
use Rattle.theory_refinement.proofs.invariant.Port as dock
use Rattle.theory_refinement.proofs.invariant.Lone as lone
use Rattle.theory_refinement.proofs.walks.Path as paths
use Rattle.theory_refinement.proofs.walks.Port as ports
use Rattle.theory_refinement.proofs.invariant.Sure as sure
use Rattle.cf_semantics.specs.claims.Path as trail

pub record Emits (l : Plan) (s : State) : Type 0 where
  pub here : Cell
  pub asked : ℕ
  pub others : List ℕ
  pub at_here : cell_at s.cells l.stages ≡ Some here
  pub lane : s.lane ≡ asked ∷ others
  pub free : here.packet ≡ None

pub emit_ready : (l : Plan) (s : State) → row_bar l s Emit ≡ None → Emits l s
emit_ready l s e = go (cell_at s.cells l.stages) s.lane refl refl e
  where
    go : (a : Option Cell) (q : List ℕ) → cell_at s.cells l.stages ≡ a → s.lane ≡ q → on a (Some NoSuchSite) (emit_bar q) ≡ None → Emits l s
    go None q f g e = absurd (cc)
    go (Some c) [] f g e = absurd (cc)
    go (Some c) (r ∷ q) f g e = record { here = c; asked = r; others = q; at_here = f; lane = g; free = grind arith }

pub next_emit : (l : Plan) (s : State) (c : Cell) (r : ℕ) (lane : List ℕ) → cell_at s.cells l.stages ≡ Some c → s.lane ≡ r ∷ lane →
    moved l s Emit ≡ emitted s l.stages (r ∷ lane) c
unfolding moved
next_emit l s c r lane e f = rw (e, f)

-- the result is above all
pub emit_is : (l : Plan) (s : State) (r : Emits l s) (k : Packet) → length s.cells ≡ l.stages →
    column_from 1 (put_cell s.cells l.stages (record r.here { packet = Some k; met = false })) ≡ Down l.stages k ∷ column s
emit_is l s r k size =
    let n = l.stages in
    let p = top_cell s.cells n r.here size r.at_here in
    let lone : items n r.here ≡ passenger_in n r.here.passenger = rw r.free (alone r.here.met (passenger_in n r.here.passenger)) in
    p.set (record r.here { packet = Some k; met = false }) ∙ ap (λ (m : List Item). Down n k ∷ (m ++ column_from 1 p.below)) (sym lone)
    ∙ ap (λ (m : List Item). Down n k ∷ m) (sym p.was)

pub emit_path : (isa : Isa) (s t : State) (x : Machine) (n r v : ℕ) (lane : List ℕ) → s.lane ≡ r ∷ lane → t.lane ≡ lane →
    paths.Follows (trail.top s x) (trail.past isa (Down n (Value r v)) (trail.top t x))
unfolding trail.past
emit_path isa s t x n r v lane e f =
    record { barred = λ h. h; machine = λ _. refl; goto = λ _. refl; settled = λ _ _. refl; trapped = λ _ a. a; coming = λ _ q h. rw f (rw e at h) }

emit_fits : (isa : Isa) (s t : State) (x : Machine) (n r : ℕ) → s.regs ≡ x.hart.regs → sure.Fits isa (Down n (Value r (slice_index s.regs r))) (trail.top t x)
unfolding sure.Fits
emit_fits isa s t x n r e = rw e

emit_port : (l : Plan) (s t : State) (x : Machine) (n : ℕ) (r v : ℕ) → t.sidings ≡ s.sidings →
    paths.Follows (trail.top s x) (trail.past (isa_of l) (Down n (Value r v)) (trail.top t x)) →
    ports.Follows (dock.top l s x) (dock.past (isa_of l) (Down n (Value r v)) (dock.top l t x))
unfolding dock.past trail.past
emit_port l s t x n r v e f = record { path = f; safe = λ b. absurd (cc); risky = λ b. b; mem = refl; code = refl; rest = refl; out = refl; answer = rw e }

nothing_shut : (l : Plan) (n r v : ℕ) → lone.past l (Down n (Value r v)) false ≡ false
unfolding lone.past
nothing_shut l n r v = refl

fits_lone : (n r v : ℕ) → lone.Fits (Down n (Value r v)) false
unfolding lone.Fits
fits_lone n r v = λ e. refl

fits_port : (isa : Isa) (n r v : ℕ) (w : dock.Dock) → dock.Fits isa (Down n (Value r v)) w
unfolding dock.Fits
fits_port isa n r v w = tt

pub emit_kept : {rest out : List ℕ} (l : Plan) (s : State) (x : Machine) → bar l s Emit ≡ None → Sound l s rest out x → Sound l (moved l s Emit) rest out x
emit_kept {rest} {out} l s x e h =
    let r = emit_ready l s (bar_row l s Emit e) in
    let n = l.stages in
    let v = slice_index s.regs r.asked in
    let k : Packet = Value r.asked v in
    let d : Cell = record r.here { packet = Some k; met = false } in
    let t : State = record s { cells = put_cell s.cells n d; lane = r.others } in
    let is : column t ≡ Down n k ∷ column s = emit_is l s r k h.size in
    let f = emit_path (isa_of l) s t x n r.asked v r.others r.lane refl in
    let g = emit_port l s t x n r.asked v refl f in
    let z = nothing_shut l n r.asked v in
    rw (next_emit l s r.here r.asked r.others r.at_here r.lane) (record {
      regs = h.regs;
      wide = h.wide;
      size = put_size s.cells n d ∙ h.size;
      path_fit = rw is (
        emit_fits (isa_of l) s t x n r.asked h.regs,
        fit_follows _ (sure.Fits (isa_of l)) (trail.past (isa_of l)) paths.Follows
            (paths.path_walk (isa_of l)) (column s) _ _ f h.path_fit,
      );
      path_ends = rw is (ends_path _ _ s.fetch (walk_follows _ (sure.Fits (isa_of l)) (trail.past (isa_of l)) paths.Follows (paths.path_walk (isa_of l))
          (column s) _ _ f h.path_fit) h.path_ends);
      cache = rw is (keeps_path _ _ s.cache (walk_follows _ (sure.Fits (isa_of l)) (trail.past (isa_of l)) paths.Follows (paths.path_walk (isa_of l))
          (column s) _ _ f h.path_fit) h.cache);
      lone_fit = rw is (fits_lone n r.asked v, subst (λ (b : Bool). Everywhere lone.Fits (lone.past l) (column s) b) (sym z) h.lone_fit);
      lone_ends = rw is (subst (λ (b : Bool). lone.Ends (walk (lone.past l) (column s) b) s.fetch) (sym z) h.lone_ends);
      stands = rw is h.stands;
      port_fit = rw is (
        fits_port (isa_of l) n r.asked v _,
        fit_follows _ (dock.Fits (isa_of l)) (dock.past (isa_of l)) ports.Follows
            (ports.port_walk (isa_of l)) (column s) _ _ g h.port_fit,
      );
      port_ends = rw is (ends_port _ _ s.mem rest out (walk_follows _ (dock.Fits (isa_of l)) (dock.past (isa_of l)) ports.Follows (ports.port_walk (isa_of l))
          (column s) _ _ g h.port_fit) h.port_ends);
      moored = rw is (record { operations = h.moored.operations; front = h.moored.front; plain = h.moored.plain; berths = h.moored.berths });
    })
