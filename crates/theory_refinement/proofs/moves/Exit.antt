-- Exit keeps the invariant.
use Rattle.mem_regions.specs.Memory.{Memory}
use Rattle.std.proofs.Common.{◌≡◌, ℕ, List, [], ◌∷◌, ◌++◌, Option, Some, None, Bool, true, false, not, refl, sym, ap, ◌∙◌, arith, append_assoc, append-nil}
use Rattle.cf_bind.specs.declared.cell.Cell.{Cell}
use Rattle.cf_bind.specs.declared.moves.Bar.TheVariants.{NoSuchSite}
use Rattle.cf_bind.specs.declared.moves.Move.TheVariants.{Exit}
use Rattle.cf_bind.specs.declared.packet.Fetch.{Fetch}
use Rattle.cf_bind.specs.declared.packet.Packet.{Packet}
use Rattle.cf_bind.specs.declared.packet.Packet.TheVariants.{Halt, Turn, Value}
use Rattle.cf_layout.specs.Layout.{Plan}
use Rattle.theory_refinement.proofs.walks.Cache.{clear_holds, keep_holds}
use Rattle.theory_refinement.proofs.column.Change.{flown_append}
use Rattle.theory_refinement.proofs.column.Fold.{fit_back, fit_front, walk_append}
use Rattle.theory_refinement.proofs.moves.Rows.{bar_row}
use Rattle.theory_refinement.proofs.walks.Stands.{each_front}
use Rattle.theory_refinement.proofs.invariant.Invariant.{Sound}
use Rattle.theory_refinement.proofs.invariant.Operations.{IsMoored}
use Rattle.cf_semantics.specs.moves.Bars.{bar, exit_bar, is_full, row_bar}
use Rattle.cf_semantics.specs.state.Column.{Down, Item, column, column_from, items, passenger_in}
use Rattle.cf_semantics.specs.state.Layouts.{isa_of}
use Rattle.cf_semantics.specs.moves.Moves.{keeps, moved, turned, without_packet}
use Rattle.cf_semantics.specs.state.Options.{When, on}
use Rattle.cf_semantics.specs.state.State.{State, cell_at}
use Rattle.rv_inst.specs.declared.isa.Isa.{Isa}
use Rattle.rv_machine.specs.Machine.{Machine}
use Rattle.theory_refinement.proofs.invariant.Port as dock
use Rattle.theory_refinement.proofs.invariant.Lone as lone
use Rattle.theory_refinement.proofs.invariant.Sure as sure
use Rattle.cf_semantics.specs.claims.Path as trail
use Rattle.cf_semantics.specs.claims.Soundness.{operations_of}

pub record Exits (s : State) : Type 0 where
  pub here : Cell
  pub others : List Cell
  pub what : Packet
  pub cells : s.cells ≡ here ∷ others
  pub lies : here.packet ≡ Some what
  pub clear : is_full here ≡ false

pub exit_ready : (l : Plan) (s : State) → row_bar l s Exit ≡ None → Exits s
exit_ready l s e = go s.cells refl e
  where
    inner : (c : Cell) (cs : List Cell) (k : Option Packet) → s.cells ≡ c ∷ cs → c.packet ≡ k → exit_bar c ≡ None → Exits s
    inner c cs None f g e = absurd (grind arith)
    inner c cs (Some k) f g e = record { here = c; others = cs; what = k; cells = f; lies = g; clear = grind arith }

    go : (q : List Cell) → s.cells ≡ q → on (cell_at q 1) (Some NoSuchSite) exit_bar ≡ None → Exits s
    go [] f e = absurd (cc)
    go (c ∷ cs) f e = inner c cs c.packet f refl e

pub next_exit : (l : Plan) (s : State) (c : Cell) (cs : List Cell) (k : Packet) → s.cells ≡ c ∷ cs → c.packet ≡ Some k →
    moved l s Exit ≡ record s { cells = without_packet c ∷ cs; fetch = turned s.fetch k; cache = keeps l.cache s.cache k }
unfolding moved
next_exit l s c cs k e f = rw (e, f)

exit_items : (c : Cell) (k : Packet) → c.packet ≡ Some k → is_full c ≡ false → items 1 c ≡ passenger_in 1 c.passenger ++ Down 1 k ∷ []
exit_items c k e f = grind arith

-- the result is below all
abbrev pub above_exit : {s : State} → Exits s → List Item
above_exit r = column_from 2 r.others ++ passenger_in 1 r.here.passenger

pub exit_was : (s : State) (r : Exits s) → column s ≡ above_exit r ++ Down 1 r.what ∷ []
exit_was s r =
    let up = column_from 2 r.others in
    ap (column_from 1) r.cells ∙ ap (λ (m : List Item). up ++ m) (exit_items r.here r.what r.lies r.clear)
    ∙ sym (append_assoc up (passenger_in 1 r.here.passenger) (Down 1 r.what ∷ []))

left_items : (c : Cell) → items 1 (without_packet c) ≡ passenger_in 1 c.passenger
left_items c = refl

exit_ends : (isa : Isa) (w : trail.Walk) (k : Packet) (f : Fetch) → sure.Fits isa (Down 1 k) w → sure.Ends (trail.past isa (Down 1 k) w) f →
    sure.Ends w (turned f k)
unfolding sure.Fits trail.past
exit_ends isa w k f h e = grind arith

exit_cache : (isa : Isa) (w : trail.Walk) (k : Packet) (b : Bool) (c : List (Option ℕ)) → sure.Fits isa (Down 1 k) w →
    sure.Keeps (trail.past isa (Down 1 k) w) c → sure.Keeps w (keeps b c k)
unfolding sure.Fits trail.past
exit_cache isa w k b c h e = go w.barred k b h e
  where
    go : (a : Bool) (k : Packet) (b : Bool) → When (not a) (sure.PacketFits k w) → sure.Keeps (trail.past_packet k (record w { barred = a })) c →
        When (not a) (sure.AreRegisters (keeps b c k) w.machine.hart.regs)
    go true k b h e = tt
    go false (Value r v) true h e = keep_holds c w.machine.hart.regs r v h e
    go false (Value r v) false h e = e
    go false (Turn pc) b h e = clear_holds c w.machine.hart.regs
    go false Halt b h e = clear_holds c w.machine.hart.regs

exit_lone : (l : Plan) (b : Bool) (k : Packet) (f : Fetch) → lone.Fits (Down 1 k) b → lone.Ends (lone.past l (Down 1 k) b) f → lone.Ends b (turned f k)
unfolding lone.Fits lone.past
exit_lone l b k f h e = grind arith

exit_port : (isa : Isa) (w : dock.Dock) (k : Packet) (m : Memory) (r o : List ℕ) → dock.Ends (dock.past isa (Down 1 k) w) m r o → dock.Ends w m r o
unfolding dock.past
exit_port isa w k m r o e = record { is_mem = e.is_mem; is_code = e.is_code; is_rest = e.is_rest; is_out = e.is_out }

exit_moored : (l : Plan) (s t : State) (rest : List Item) (k : Packet) → t.sidings ≡ s.sidings → IsMoored l s (rest ++ Down 1 k ∷ []) → IsMoored l t rest
exit_moored l s t rest k e h =
    rw e (record {
      operations = λ n. h.operations n ∙ flown_append l n rest (Down 1 k ∷ []) ∙ append-nil (operations_of l n rest);
      front = h.front;
      plain =
          h.plain;
      berths = h.berths;
    })

pub exit_kept : {rest out : List ℕ} (l : Plan) (s : State) (x : Machine) → bar l s Exit ≡ None → Sound l s rest out x → Sound l (moved l s Exit) rest out x
exit_kept {rest} {out} l s x e h =
    let r = exit_ready l s (bar_row l s Exit e) in
    let k = r.what in
    let upper = above_exit r in
    let was = exit_was s r in
    let t : State = record s { cells = without_packet r.here ∷ r.others; fetch = turned s.fetch k; cache = keeps l.cache s.cache k } in
    let fit = rw was at h.path_fit in
    let shut = rw was at h.lone_fit in
    rw (next_exit l s r.here r.others k r.cells r.lies) (record {
      regs = h.regs;
      wide = h.wide;
      size = rw r.cells at h.size;
      path_fit = fit_front _ (sure.Fits (isa_of l)) (trail.past (isa_of l)) upper (Down 1 k ∷ []) _ fit;
      path_ends = exit_ends (isa_of l) _ k s.fetch (fit_back _ (sure.Fits (isa_of l)) (trail.past (isa_of l)) upper (Down 1 k ∷ []) _ fit).0
          (rw (was, walk_append (trail.past (isa_of l)) upper (Down 1 k ∷ []) (trail.top s x)) at h.path_ends);
      cache = exit_cache (isa_of l) _ k l.cache s.cache (fit_back _ (sure.Fits (isa_of l)) (trail.past (isa_of l)) upper (Down 1 k ∷ []) _ fit).0
          (rw (was, walk_append (trail.past (isa_of l)) upper (Down 1 k ∷ []) (trail.top s x)) at h.cache);
      lone_fit = fit_front _ lone.Fits (lone.past l) upper (Down 1 k ∷ []) _ shut;
      lone_ends = exit_lone l _ k s.fetch (fit_back _ lone.Fits (lone.past l) upper (Down 1 k ∷ []) _ shut).0
          (rw (was, walk_append (lone.past l) upper (Down 1 k ∷ []) false) at h.lone_ends);
      stands = each_front l upper (Down 1 k ∷ []) (rw was at h.stands);
      port_fit = fit_front _ (dock.Fits (isa_of l)) (dock.past (isa_of l)) upper (Down 1 k ∷ []) _ (rw was at h.port_fit);
      port_ends = exit_port (isa_of l) _ k s.mem rest out (rw (was, walk_append (dock.past (isa_of l)) upper (Down 1 k ∷ []) (dock.top l s x)) at h.port_ends);
      moored = exit_moored l s t upper k refl (rw was at h.moored);
    })
