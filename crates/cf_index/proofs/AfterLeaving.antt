-- Serve after a move by which something leaves. A Leave takes the instruction out of the highest stage, so Serve is barred then. An Exit takes the
-- result out of the lowest stage; Serve is barred after it if it was barred before, also where that stage is the highest.
use Rattle.std.proofs.Common.{◌≡◌, ◌∙◌, sym, refl, ap, ℕ, zero, suc, ◌+◌, List, ◌∷◌, Bool, true, false, cond, Option, Some, None}
use Rattle.std.specs.Prelude.{not}
use Rattle.std.proofs.Math.Bool.{and-false}
use Rattle.cf_bind.specs.declared.cell.Cell.{Cell}
use Rattle.cf_bind.specs.declared.passenger.End.{End}
use Rattle.cf_bind.specs.declared.passenger.Passenger.{Passenger}
use Rattle.cf_bind.specs.declared.moves.Bar.{Bar}
use Rattle.cf_bind.specs.declared.moves.Bar.TheVariants.{Failed, Halted, NoSuchSite}
use Rattle.cf_bind.specs.declared.moves.Move.TheVariants.{Exit, Leave, Serve}
use Rattle.cf_layout.specs.Layout.{Plan}
use Rattle.cf_semantics.specs.moves.Bars.{bar, first, is_full, serve_bar}
use Rattle.cf_semantics.specs.moves.Moves.{left, moved, without_packet, without_passenger, written}
use Rattle.cf_semantics.specs.state.Options.{is_some, on}
use Rattle.cf_semantics.specs.state.State.{State, cell_at, put_cell, with_cell}
use Rattle.theory_refinement.proofs.moves.Exit.{exit_ready, next_exit}
use Rattle.theory_refinement.proofs.moves.Leave.{leave_ready, next_leave}
use Rattle.theory_refinement.proofs.moves.Rows.{bar_row}
use Rattle.cf_stages.proofs.Parts.{cell-put, stage-high, stage-low}
use Rattle.cf_index.specs.Allowed.{is_allowed}
use Rattle.cf_index.proofs.EmptySidings.{barred_by}

-- where a result rests, it makes no difference to Serve
same_bar : (c : Cell) → is_full c ≡ false → serve_bar (without_packet c) ≡ serve_bar c
same_bar c rests = rw (rests, and-false (is_some c.passenger)) refl

same_row : (n : ℕ) (c : Cell) (cells : List Cell) → is_full c ≡ false →
    on (cell_at (without_packet c ∷ cells) n) (Some NoSuchSite) serve_bar ≡ on (cell_at (c ∷ cells) n) (Some NoSuchSite) serve_bar
same_row zero c cells rests = refl
same_row (suc zero) c cells rests = same_bar c rests
same_row (suc (suc n)) c cells rests = refl

pub serve_kept : (plan : Plan) (s : State) → bar plan s Exit ≡ None → is_allowed plan (moved plan s Exit) Serve ≡ is_allowed plan s Serve
unfolding bar
serve_kept plan s free =
    let r = exit_ready plan s (bar_row plan s Exit free) in
    let free_by = λ (b : Option Bar). not (is_some (first (is_some s.ending) Halted (first s.failed Failed b))) in
    ap (λ (t : State). is_allowed plan t Serve) (next_exit plan s r.here r.others r.what r.cells r.lies)
    ∙ ap free_by (same_row plan.stages r.here r.others r.clear)
    ∙ ap (λ (cells : List Cell). free_by (on (cell_at cells plan.stages) (Some NoSuchSite) serve_bar)) (sym r.cells)

-- after a Leave no instruction is in the highest stage
left_cells : (s : State) (n : ℕ) (c : Cell) (p : Passenger) → (left s n c p).cells ≡ put_cell s.cells n (without_passenger c)
left_cells s n c p = by p.dead p.ending
  where
    by : (dead : Bool) (o : Option End) → (cond dead (with_cell s n (without_passenger c)) (on o
        (record (with_cell s n (without_passenger c)) { regs = written s.regs p.dst; retired = s.retired + 1 })
        (λ e. record (with_cell s n (without_passenger c)) { ending = Some e }))).cells ≡ put_cell s.cells n (without_passenger c)
    by true o = refl
    by false None = refl
    by false (Some e) = refl

pub none_served : (plan : Plan) (s : State) → bar plan s Leave ≡ None → is_allowed plan (moved plan s Leave) Serve ≡ false
unfolding bar
none_served plan s free =
    let r = leave_ready plan s (bar_row plan s Leave free) in
    let new = left s plan.stages r.here r.who in
    let empty : cell_at new.cells plan.stages ≡ Some (without_passenger r.here) = ap (λ (cells : List Cell). cell_at cells plan.stages)
    (left_cells s plan.stages r.here r.who)
    ∙ cell-put s.cells plan.stages (without_passenger r.here) (stage-low s.cells plan.stages r.here r.at_here)
    (stage-high s.cells plan.stages r.here r.at_here) in
    ap (λ (t : State). is_allowed plan t Serve) (next_leave plan s r.here r.who r.at_here r.sits)
    ∙ barred_by (is_some new.ending) new.failed (on (cell_at new.cells plan.stages) (Some NoSuchSite) serve_bar) (rw empty refl)
