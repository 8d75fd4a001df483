-- A move is taken back by putting back the old contents of what it wrote.
use Rattle.std.proofs.Common.{◌≡◌, ◌≢◌, ℕ, zero, suc, ◌+◌, ◌-◌, List, [], ◌∷◌, ◌++◌, length, take, Option, Some, None, Bool, true, false, refl, ap, ◌∙◌, arith, length-append}
use Rattle.std.specs.Prelude.{slice_get, slice_set, slice_index, if◌then◌else◌}
use Rattle.std.proofs.Math.Seq.{take-append_seam}
use Rattle.std.proofs.lemmas.List.{set-set, set-get_or}
use Rattle.cf_layout.specs.Layout.{Plan, siding_of}
use Rattle.cf_bind.specs.declared.binding.Binding.{Binding}
use Rattle.cf_bind.specs.declared.cell.Cell.{Cell}
use Rattle.cf_bind.specs.declared.cell.Op.{Op}
use Rattle.cf_bind.specs.declared.passenger.Passenger.{Passenger}
use Rattle.cf_bind.specs.declared.passenger.Guess.{Guess}
use Rattle.cf_bind.specs.declared.passenger.End.{End}
use Rattle.cf_bind.specs.declared.moves.Move.{Move}
use Rattle.cf_bind.specs.declared.moves.Move.TheVariants.{Issue, Emit, Climb, Fall, Meet, Execute, Send, Launch, Slide, Access, Recover, Leave, Exit, Serve}
use Rattle.cf_semantics.specs.state.Options.{on}
use Rattle.cf_semantics.specs.moves.Instructions.{fetched, mem_after, answer_of}
use Rattle.rv_inst.specs.Accesses.{access_made}
use Rattle.cf_semantics.specs.state.State.{State, Moment, cell_at, siding_at, with_cell, with_siding}
use Rattle.cf_semantics.specs.state.Passengers.{kind, fresh, finish, trapped, reg_in, requests, value_in}
use Rattle.cf_semantics.specs.state.Layouts.{isa_of, port}
use Rattle.cf_semantics.specs.moves.Bars.{bar, row_bar, last_op, running}
use Rattle.cf_semantics.specs.moves.Moves.{back_in, cell_met, climbed, fallen, launch_trap, moved, next, operation, sent, set_last, with_passenger, without_packet, without_passenger, written}
use Rattle.cf_semantics.specs.moves.Kept.{Kept, Same, bytes_back, cells_back, kept, kept_op, last_place, lane_back, ops_back, register_back, restored, taken_back}
use Rattle.theory_refinement.proofs.moves.Rows.{bar_row}
use Rattle.theory_confluence.proofs.back.BytesBack.{access_back}
use Rattle.theory_confluence.proofs.sites.Effects.{set_last_is}
use Rattle.theory_confluence.proofs.back.PutBack.{CellsBack, no_op, no_ops, on_cells, one_op, one_put, op_put, put_back, put_same, put_two_back, set_back, set_nowhere, siding_same, two_back, unput}

-- all that is put back, part by part
pub record Back (k : Kept) (s t : State) : Type 0 where
  pub cells : cells_back k.cells t.cells ≡ s.cells
  pub ops : ops_back k.ops t.sidings ≡ s.sidings
  pub lane : lane_back k.lane t.lane ≡ s.lane
  pub regs : register_back k.register t.regs ≡ s.regs
  pub mem : bytes_back k.bytes t.mem ≡ s.mem
  pub failed : t.failed ≡ s.failed

whole : (l : Plan) (s t : State) (mv : Move) → Back (kept l s mv) s t → restored t (kept l s mv) ≡ s
unfolding kept restored
whole l s t mv b = rw (b.cells, b.ops, b.lane, b.regs, b.mem, b.failed) refl

-- what a move that changes only stages leaves
record Still (s t : State) : Type 0 where
  sidings : t.sidings ≡ s.sidings
  lane : t.lane ≡ s.lane
  regs : t.regs ≡ s.regs
  mem : t.mem ≡ s.mem
  failed : t.failed ≡ s.failed

still : (s : State) → Still s s
still s = record { sidings = refl; lane = refl; regs = refl; mem = refl; failed = refl }

on_still : {A : Type 0} → (s : State) (o : Option A) (f : A → State) → ((a : A) → Still s (f a)) → Still s (on o s f)
on_still s None f h = still s
on_still s (Some a) f h = h a

seated : (s : State) (cells : List Cell) → Still s (record s { cells = cells })
seated s cells = record { sidings = refl; lane = refl; regs = refl; mem = refl; failed = refl }

-- moves of only one stage
staged : (l : Plan) (s t : State) (mv : Move) → cells_back (kept l s mv).cells t.cells ≡ s.cells → (kept l s mv).ops ≡ [] → (kept l s mv).lane ≡ Same →
    (kept l s mv).register ≡ None → (kept l s mv).bytes ≡ None → Still s t → Back (kept l s mv) s t
staged l s t mv cells ops lane register bytes h = record {
  cells = cells;
  ops = rw ops h.sidings;
  lane = rw lane h.lane;
  regs = rw register h.regs;
  mem = rw bytes h.mem;
  failed = h.failed;
}

climb_back : (l : Plan) (s : State) (i : ℕ) → Back (kept l s (Climb i)) s (moved l s (Climb i))
unfolding moved kept
climb_back l s i = staged l s _ (Climb i) (go (cell_at s.cells i) (cell_at s.cells (i + 1)) refl refl) refl refl refl refl
    (on_still s (cell_at s.cells i) _ (λ c. on_still s (cell_at s.cells (i + 1)) _ (λ d. seated s _)))
  where
    go : (o q : Option Cell) → cell_at s.cells i ≡ o → cell_at s.cells (i + 1) ≡ q
        → cells_back (on o [] (λ c. record { stage = i; cell = c } ∷ on q [] (λ d. record { stage = i + 1; cell = d } ∷ [])))
        (on o s (λ c. on q s (climbed s i c))).cells ≡ s.cells
    go None q e f = refl
    go (Some c) None e f = put_same s.cells i c e
    go (Some c) (Some d) e f = put_two_back s.cells i (i + 1) c d _ _ (λ g. absurd (omega (arith, g))) e f

fall_back : (l : Plan) (s : State) (i : ℕ) → Back (kept l s (Fall i)) s (moved l s (Fall i))
unfolding moved kept
fall_back l s i = staged l s _ (Fall i) (go (cell_at s.cells i) (cell_at s.cells (i - 1)) refl refl) refl refl refl refl
    (on_still s (cell_at s.cells i) _ (λ c. on_still s (cell_at s.cells (i - 1)) _ (λ d. seated s _)))
  where
    apart : (i : ℕ) (c : Cell) → cell_at s.cells i ≡ Some c → i ≢ i - 1
    apart zero c e = absurd (cc)
    apart (suc i) c e = λ g. absurd (omega (arith, g))

    go : (o q : Option Cell) → cell_at s.cells i ≡ o → cell_at s.cells (i - 1) ≡ q
        → cells_back (on o [] (λ c. record { stage = i; cell = c } ∷ on q [] (λ d. record { stage = i - 1; cell = d } ∷ [])))
        (on o s (λ c. on q s (fallen s i c))).cells ≡ s.cells
    go None q e f = refl
    go (Some c) None e f = put_same s.cells i c e
    go (Some c) (Some d) e f = put_two_back s.cells i (i - 1) c d _ _ (apart i c e) e f

meet_back : (l : Plan) (s : State) (i : ℕ) → Back (kept l s (Meet i)) s (moved l s (Meet i))
unfolding moved kept
meet_back l s i = staged l s _ (Meet i)
    (on_cells s i (cell_at s.cells i) _ (λ c. on_cells s i c.passenger _ (λ p. on_cells s i c.packet _ (λ k. one_put s i (cell_met c p k))))) refl refl refl
    refl
    (on_still s (cell_at s.cells i) _ (λ c. on_still s c.passenger _ (λ p. on_still s c.packet _ (λ k. seated s _))))

execute_back : (l : Plan) (s : State) (i : ℕ) → Back (kept l s (Execute i)) s (moved l s (Execute i))
unfolding moved kept
execute_back l s i = staged l s _ (Execute i)
    (on_cells s i (cell_at s.cells i) _ (λ c. on_cells s i c.passenger _ (λ p. one_put s i (with_passenger c (finish p None))))) refl refl refl refl
    (on_still s (cell_at s.cells i) _ (λ c. on_still s c.passenger _ (λ p. seated s _)))

send_back : (l : Plan) (s : State) (i : ℕ) → Back (kept l s (Send i)) s (moved l s (Send i))
unfolding moved kept
send_back l s i = staged l s _ (Send i)
    (on_cells s i (cell_at s.cells i) _ (λ c. on_cells s i c.passenger _ (λ p. one_put s i (sent p)))) refl refl refl refl
    (on_still s (cell_at s.cells i) _ (λ c. on_still s c.passenger _ (λ p. seated s _)))

exit_back : (l : Plan) (s : State) → Back (kept l s Exit) s (moved l s Exit)
unfolding moved kept
exit_back l s = staged l s _ Exit
    (on_cells s 1 (cell_at s.cells 1) _ (λ c. on_cells s 1 c.packet _ (λ k. one_put s 1 (without_packet c)))) refl refl refl refl
    (on_still s (cell_at s.cells 1) _ (λ c. on_still s c.packet _ (λ k. record { sidings = refl; lane = refl; regs = refl; mem = refl; failed = refl })))

-- Issue: the requests leave the lane's end again
unrequested : (lane more : List ℕ) → take (length (lane ++ more) - length more) (lane ++ more) ≡ lane
unrequested lane more =
    let n : length (lane ++ more) - length more ≡ length lane = rw length-append (omega arith) in
    rw n (take-append_seam lane more)

issue_back : (l : Plan) (s : State) (g : Guess) → bar l s (Issue g) ≡ None → Back (kept l s (Issue g)) s (moved l s (Issue g))
unfolding moved kept
issue_back l s g e = go (cell_at s.cells 1) (running s.fetch) refl refl (bar_row l s (Issue g) e)
  where
    go : (o : Option Cell) (f : Option ℕ) → cell_at s.cells 1 ≡ o → running s.fetch ≡ f → row_bar l s (Issue g) ≡ None →
        Back (kept l s (Issue g)) s (moved l s (Issue g))
    go None f a b e = absurd (let z = rw a at e in cc)
    go (Some c) None a b e = absurd (let z = rw (a, b) at e in cc)
    go (Some c) (Some pc) a b e =
        let p : Passenger = fresh s.cache (fetched (isa_of l) s.mem pc) pc g in
        record {
          cells = rw (a, b) (put_back s.cells 1 c (record c { passenger = Some p; met = false }) a);
          ops = rw (a, b) refl;
          lane = rw (a, b) (unrequested s.lane (requests p));
          regs = rw (a, b) refl;
          mem = rw (a, b) refl;
          failed = rw (a, b) refl;
        }

-- Emit: the request is first again
emit_back : (l : Plan) (s : State) → bar l s Emit ≡ None → Back (kept l s Emit) s (moved l s Emit)
unfolding moved kept
emit_back l s e = go (cell_at s.cells l.stages) s.lane refl refl (bar_row l s Emit e)
  where
    go : (o : Option Cell) (lane : List ℕ) → cell_at s.cells l.stages ≡ o → s.lane ≡ lane → row_bar l s Emit ≡ None → Back (kept l s Emit) s (moved l s Emit)
    go None lane a b e = absurd (let z = rw a at e in cc)
    go (Some c) [] a b e = absurd (let z = rw (a, b) at e in cc)
    go (Some c) (r ∷ lane) a b e = record {
      cells = rw (a, b) (put_back s.cells l.stages c _ a);
      ops = rw (a, b) refl;
      lane = rw (a, b) refl;
      regs = rw (a, b) refl;
      mem = rw (a, b) refl;
      failed = rw (a, b) refl;
    }

-- Launch and Recover: a stage, and a cell of the siding
launch_stage : (l : Plan) (s : State) (i : ℕ) → CellsBack s i (moved l s (Launch i))
unfolding moved
launch_stage l s i = on_cells s i (cell_at s.cells i) _ (λ c. on_cells s i c.passenger _ (λ p. by c p (launch_trap s p) (siding_of l (kind p))))
  where
    by : (c : Cell) (p : Passenger) (t : Option End) (o : Option ℕ) → CellsBack s i (on t
        (on o s (λ k. with_siding (with_cell s i (with_passenger c (record p { launched = true }))) k (slice_set (siding_at s k) 0 (Some (operation p)))))
        (λ e. with_cell s i (with_passenger c (trapped p e))))
    by c p None None = unput s i
    by c p None (Some k) = one_put s i (with_passenger c (record p { launched = true }))
    by c p (Some e) o = one_put s i (with_passenger c (trapped p e))

launch_back : (l : Plan) (s : State) (i : ℕ) → Back (kept l s (Launch i)) s (moved l s (Launch i))
unfolding moved kept
launch_back l s i = go (cell_at s.cells i) refl
  where
    first : ℕ → ℕ
    first k = 0

    go : (o : Option Cell) → cell_at s.cells i ≡ o → Back (kept l s (Launch i)) s (moved l s (Launch i))
    go None a = record { cells = launch_stage l s i; ops = rw a refl; lane = rw a refl; regs = rw a refl; mem = rw a refl; failed = rw a refl }
    go (Some c) a = by c.passenger refl
      where
        by : (q : Option Passenger) → c.passenger ≡ q → Back (kept l s (Launch i)) s (moved l s (Launch i))
        by None b = record {
          cells = launch_stage l s i;
          ops = rw (a, b) refl;
          lane = rw (a, b) refl;
          regs = rw (a, b) refl;
          mem = rw (a, b) refl;
          failed =
              rw (a, b) refl;
        }
        by (Some p) b = at (launch_trap s p) (siding_of l (kind p)) refl refl
          where
            at : (t : Option End) (k : Option ℕ) → launch_trap s p ≡ t → siding_of l (kind p) ≡ k → Back (kept l s (Launch i)) s (moved l s (Launch i))
            at (Some e) k f g = record {
              cells = launch_stage l s i;
              ops = rw (a, b, f) (no_ops s first (siding_of l (kind p)));
              lane = rw (a, b, f) refl;
              regs = rw (a, b, f) refl;
              mem = rw (a, b, f) refl;
              failed = rw (a, b, f) refl;
            }
            at None None f g = record {
              cells = launch_stage l s i;
              ops = rw (a, b, f, g) refl;
              lane = rw (a, b, f, g) refl;
              regs = rw (a, b, f, g) refl;
              mem = rw (a, b, f, g) refl;
              failed = rw (a, b, f, g) refl;
            }
            at None (Some k) f g = record {
              cells = launch_stage l s i;
              ops = rw (a, b, f, g) (one_op s k 0 (Some (operation p)));
              lane = rw (a, b, f, g) refl;
              regs = rw (a, b, f, g) refl;
              mem = rw (a, b, f, g) refl;
              failed = rw (a, b, f, g) refl;
            }

-- the last cell of a siding is put back
last_back : (s : State) (k : ℕ) (x : Option Op) → ops_back (kept_op s k (last_place s k)) (slice_set s.sidings k (set_last (siding_at s k) x)) ≡ s.sidings
last_back s k x =
    ap (λ (q : List (Option Op)). ops_back (kept_op s k (last_place s k)) (slice_set s.sidings k q)) (set_last_is (siding_at s k) x)
    ∙ one_op s k (last_place s k) x

recover_stage : (l : Plan) (s : State) (i : ℕ) → CellsBack s i (moved l s (Recover i))
unfolding moved
recover_stage l s i = on_cells s i (cell_at s.cells i) _ (λ c. on_cells s i c.passenger _ (λ p. on_cells s i (siding_of l (kind p)) _
    (λ k. on_cells s i (last_op (siding_at s k)) _ (λ op. one_put s i (with_passenger c (back_in p op.answer))))))

recover_back : (l : Plan) (s : State) (i : ℕ) → Back (kept l s (Recover i)) s (moved l s (Recover i))
unfolding moved kept
recover_back l s i = go (cell_at s.cells i) refl
  where
    go : (o : Option Cell) → cell_at s.cells i ≡ o → Back (kept l s (Recover i)) s (moved l s (Recover i))
    go None a = record { cells = recover_stage l s i; ops = rw a refl; lane = rw a refl; regs = rw a refl; mem = rw a refl; failed = rw a refl }
    go (Some c) a = by c.passenger refl
      where
        by : (q : Option Passenger) → c.passenger ≡ q → Back (kept l s (Recover i)) s (moved l s (Recover i))
        by None b = record {
          cells = recover_stage l s i;
          ops = rw (a, b) refl;
          lane = rw (a, b) refl;
          regs = rw (a, b) refl;
          mem = rw (a, b) refl;
          failed =
              rw (a, b) refl;
        }
        by (Some p) b = at (siding_of l (kind p)) refl
          where
            at : (k : Option ℕ) → siding_of l (kind p) ≡ k → Back (kept l s (Recover i)) s (moved l s (Recover i))
            at None g = record {
              cells = recover_stage l s i;
              ops = rw (a, b, g) refl;
              lane = rw (a, b, g) refl;
              regs = rw (a, b, g) refl;
              mem = rw (a, b, g) refl;
              failed = rw (a, b, g) refl;
            }
            at (Some k) g = out (last_op (siding_at s k)) refl
              where
                out : (o : Option Op) → last_op (siding_at s k) ≡ o → Back (kept l s (Recover i)) s (moved l s (Recover i))
                out None f = record {
                  cells = recover_stage l s i;
                  ops = rw (a, b, g, f) (no_op s k (last_place s k));
                  lane = rw (a, b, g, f) refl;
                  regs = rw (a, b, g, f) refl;
                  mem = rw (a, b, g, f) refl;
                  failed = rw (a, b, g, f) refl;
                }
                out (Some op) f = record {
                  cells = recover_stage l s i;
                  ops = rw (a, b, g, f) (last_back s k None);
                  lane = rw (a, b, g, f) refl;
                  regs = rw (a, b, g, f) refl;
                  mem = rw (a, b, g, f) refl;
                  failed = rw (a, b, g, f) refl;
                }

-- Slide: two cells of a siding
slide_ops : (s : State) (k c : ℕ) (o : Option Op) (r : Option (Option Op)) → slice_get (siding_at s k) c ≡ Some o → slice_get (siding_at s k) (c + 1) ≡ r
    → ops_back (record { siding = k; place = c; op = o } ∷ on r [] (λ x. record { siding = k; place = c + 1; op = x } ∷ []))
    (slice_set s.sidings k (slice_set (slice_set (siding_at s k) c None) (c + 1) o)) ≡ s.sidings
slide_ops s k c o None e f =
    ap (λ (q : List (Option Op)). ops_back (record { siding = k; place = c; op = o } ∷ []) (slice_set s.sidings k q)) (beyond (siding_at s k) c None o f)
    ∙ op_put s.sidings k c (slice_set (siding_at s k) c None) o
    ∙ ap (slice_set s.sidings k) (set_back (siding_at s k) c o None e) ∙ siding_same s.sidings k
  where
    nothing : (q : List (Option Op)) (c j : ℕ) (x : Option Op) → slice_get q j ≡ None → slice_get (slice_set q c x) j ≡ None
    nothing [] c j x e = refl
    nothing (a ∷ q) c zero x e = absurd (cc)
    nothing (a ∷ q) zero (suc j) x e = e
    nothing (a ∷ q) (suc c) (suc j) x e = nothing q c j x e

    beyond : (q : List (Option Op)) (c : ℕ) (x y : Option Op) → slice_get q (c + 1) ≡ None → slice_set (slice_set q c x) (c + 1) y ≡ slice_set q c x
    beyond q c x y f = set_nowhere (slice_set q c x) (c + 1) y (nothing q c (c + 1) x f)
slide_ops s k c o (Some x) e f =
    ap (λ (ss : List (List (Option Op))). ops_back (record { siding = k; place = c + 1; op = x } ∷ []) ss)
    (op_put s.sidings k c (slice_set (slice_set (siding_at s k) c None) (c + 1) o) o)
    ∙ op_put s.sidings k (c + 1) (slice_set (slice_set (slice_set (siding_at s k) c None) (c + 1) o) c o) x
    ∙ ap (slice_set s.sidings k) (two_back (siding_at s k) c (c + 1) o x None o (λ g. absurd (omega (arith, g))) e f) ∙ siding_same s.sidings k

slide_back : (l : Plan) (s : State) (k c : ℕ) → Back (kept l s (Slide k c)) s (moved l s (Slide k c))
unfolding moved kept
slide_back l s k c = go (slice_get (siding_at s k) c) refl
  where
    go : (r : Option (Option Op)) → slice_get (siding_at s k) c ≡ r → Back (kept l s (Slide k c)) s (moved l s (Slide k c))
    go None e = record { cells = rw e refl; ops = rw e refl; lane = rw e refl; regs = rw e refl; mem = rw e refl; failed = rw e refl }
    go (Some o) e = record {
      cells = rw e refl;
      ops = rw e (slide_ops s k c o (slice_get (siding_at s k) (c + 1)) e refl);
      lane = rw e refl;
      regs = rw e refl;
      mem = rw e refl;
      failed = rw e refl;
    }

-- Access: the last cell of the port's siding, and the bytes
access_move_back : (l : Plan) (s : State) → Back (kept l s Access) s (moved l s Access)
unfolding moved kept mem_after
access_move_back l s = go (last_op (siding_at s (port l))) refl
  where
    go : (o : Option Op) → last_op (siding_at s (port l)) ≡ o → Back (kept l s Access) s (moved l s Access)
    go None e = record {
      cells = rw e refl;
      ops = rw e (no_op s (port l) (last_place s (port l)));
      lane = rw e refl;
      regs = rw e refl;
      mem = rw e refl;
      failed =
          rw e refl;
    }
    go (Some op) e = record {
      cells = rw e refl;
      ops = rw e (last_back s (port l) (Some (record op { answer = Some (answer_of op.instr op.a op.b s.mem) })));
      lane = rw e refl;
      regs = rw e refl;
      mem = rw e (access_back s.mem (access_made op.instr op.a op.b));
      failed = rw e refl;
    }

-- Leave: a stage, and the register
register_same : (regs : List ℕ) (o : Option Binding) → register_back (on (reg_in o) None (λ r. Some (record { reg = r; value = slice_index regs r }))) regs
    ≡ regs
register_same regs None = refl
register_same regs (Some b) = set-get_or regs b.reg 0

register_written : (regs : List ℕ) (o : Option Binding) → register_back (on (reg_in o) None (λ r. Some (record { reg = r; value = slice_index regs r })))
    (written regs o) ≡ regs
register_written regs None = refl
register_written regs (Some b) = set-set regs b.reg (value_in (Some b)) (slice_index regs b.reg) ∙ set-get_or regs b.reg 0

leave_stage : (l : Plan) (s : State) → CellsBack s l.stages (moved l s Leave)
unfolding moved
leave_stage l s = on_cells s l.stages (cell_at s.cells l.stages) _ (λ c. on_cells s l.stages c.passenger _ (λ p. by c p p.dead p.ending))
  where
    by : (c : Cell) (p : Passenger) (d : Bool) (o : Option End) → CellsBack s l.stages (let t = with_cell s l.stages (without_passenger c) in
        if d then t else on o (record t { regs = written t.regs p.dst; retired = t.retired + 1 }) (λ e. record t { ending = Some e }))
    by c p true o = one_put s l.stages (without_passenger c)
    by c p false None = one_put s l.stages (without_passenger c)
    by c p false (Some e) = one_put s l.stages (without_passenger c)

leave_back : (l : Plan) (s : State) → Back (kept l s Leave) s (moved l s Leave)
unfolding moved kept
leave_back l s = go (cell_at s.cells l.stages) refl
  where
    go : (o : Option Cell) → cell_at s.cells l.stages ≡ o → Back (kept l s Leave) s (moved l s Leave)
    go None a = record { cells = leave_stage l s; ops = rw a refl; lane = rw a refl; regs = rw a refl; mem = rw a refl; failed = rw a refl }
    go (Some c) a = by c.passenger refl
      where
        by : (q : Option Passenger) → c.passenger ≡ q → Back (kept l s Leave) s (moved l s Leave)
        by None b = record {
          cells = leave_stage l s;
          ops = rw (a, b) refl;
          lane = rw (a, b) refl;
          regs = rw (a, b) refl;
          mem = rw (a, b) refl;
          failed =
              rw (a, b) refl;
        }
        by (Some p) b = left_by p.dead p.ending refl refl
          where
            left_by : (d : Bool) (t : Option End) → p.dead ≡ d → p.ending ≡ t → Back (kept l s Leave) s (moved l s Leave)
            left_by true t f g = record {
              cells = leave_stage l s;
              ops = rw (a, b, f) refl;
              lane = rw (a, b, f) refl;
              regs = rw (a, b, f) (register_same s.regs p.dst);
              mem = rw (a, b, f) refl;
              failed = rw (a, b, f) refl;
            }
            left_by false (Some e) f g = record {
              cells = leave_stage l s;
              ops = rw (a, b, f, g) refl;
              lane = rw (a, b, f, g) refl;
              regs = rw (a, b, f, g) (register_same s.regs p.dst);
              mem = rw (a, b, f, g) refl;
              failed = rw (a, b, f, g) refl;
            }
            left_by false None f g = record {
              cells = leave_stage l s;
              ops = rw (a, b, f, g) refl;
              lane = rw (a, b, f, g) refl;
              regs = rw (a, b, f, g) (register_written s.regs p.dst);
              mem = rw (a, b, f, g) refl;
              failed = rw (a, b, f, g) refl;
            }

-- an allowed move other than Serve is taken back, in every state
pub state_back : (l : Plan) (s : State) (mv : Move) → bar l s mv ≡ None → mv ≢ Serve → restored (moved l s mv) (kept l s mv) ≡ s
state_back l s (Issue g) e n = whole l s _ (Issue g) (issue_back l s g e)
state_back l s Emit e n = whole l s _ Emit (emit_back l s e)
state_back l s (Climb i) e n = whole l s _ (Climb i) (climb_back l s i)
state_back l s (Fall i) e n = whole l s _ (Fall i) (fall_back l s i)
state_back l s (Meet i) e n = whole l s _ (Meet i) (meet_back l s i)
state_back l s (Execute i) e n = whole l s _ (Execute i) (execute_back l s i)
state_back l s (Send i) e n = whole l s _ (Send i) (send_back l s i)
state_back l s (Launch i) e n = whole l s _ (Launch i) (launch_back l s i)
state_back l s (Slide k c) e n = whole l s _ (Slide k c) (slide_back l s k c)
state_back l s Access e n = whole l s _ Access (access_move_back l s)
state_back l s (Recover i) e n = whole l s _ (Recover i) (recover_back l s i)
state_back l s Leave e n = whole l s _ Leave (leave_back l s)
state_back l s Exit e n = whole l s _ Exit (exit_back l s)
state_back l s Serve e n = absurd (n refl)

in_moment : (m : Moment) (s : State) → s ≡ m.state → record m { state = s } ≡ m
in_moment m s e = rw e refl

pub moment_back : (plan : Plan) (m : Moment) (mv : Move) → bar plan m.state mv ≡ None → mv ≢ Serve → taken_back (next plan m mv) (kept plan m.state mv) ≡ m
unfolding next
moment_back plan m (Issue g) e n = in_moment m _ (state_back plan m.state (Issue g) e n)
moment_back plan m Emit e n = in_moment m _ (state_back plan m.state Emit e n)
moment_back plan m (Climb i) e n = in_moment m _ (state_back plan m.state (Climb i) e n)
moment_back plan m (Fall i) e n = in_moment m _ (state_back plan m.state (Fall i) e n)
moment_back plan m (Meet i) e n = in_moment m _ (state_back plan m.state (Meet i) e n)
moment_back plan m (Execute i) e n = in_moment m _ (state_back plan m.state (Execute i) e n)
moment_back plan m (Send i) e n = in_moment m _ (state_back plan m.state (Send i) e n)
moment_back plan m (Launch i) e n = in_moment m _ (state_back plan m.state (Launch i) e n)
moment_back plan m (Slide k c) e n = in_moment m _ (state_back plan m.state (Slide k c) e n)
moment_back plan m Access e n = in_moment m _ (state_back plan m.state Access e n)
moment_back plan m (Recover i) e n = in_moment m _ (state_back plan m.state (Recover i) e n)
moment_back plan m Leave e n = in_moment m _ (state_back plan m.state Leave e n)
moment_back plan m Exit e n = in_moment m _ (state_back plan m.state Exit e n)
moment_back plan m Serve e n = absurd (n refl)
