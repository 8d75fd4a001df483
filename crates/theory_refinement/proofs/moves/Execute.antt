-- Execute keeps the invariant.
use Rattle.std.proofs.Common.{◌≡◌, ℕ, List, [], ◌∷◌, Option, Some, None, Bool, true, false, refl, arith}
use Rattle.cf_bind.specs.declared.cell.Cell.{Cell}
use Rattle.cf_bind.specs.declared.moves.Bar.TheVariants.{NoSuchSite}
use Rattle.cf_bind.specs.declared.moves.Move.TheVariants.{Execute}
use Rattle.cf_bind.specs.declared.passenger.Passenger.{Passenger}
use Rattle.cf_layout.specs.Layout.{Plan, unit_at}
use Rattle.theory_refinement.proofs.column.Change.{changed}
use Rattle.theory_refinement.proofs.walks.Finishing.{execute_finishes, finish_is_out, finish_lone, finish_port, finish_shuts, finish_stands, finish_turned}
use Rattle.theory_refinement.proofs.moves.Rows.{bar_row, put_size}
use Rattle.theory_refinement.proofs.walks.PathFinish.{Finishes, finish_fits, finish_walk}
use Rattle.theory_refinement.proofs.invariant.Invariant.{Sound}
use Rattle.theory_refinement.proofs.invariant.Stands.{Stands}
use Rattle.theory_refinement.proofs.invariant.Suited.{Suits, is_plain}
use Rattle.cf_semantics.specs.moves.Bars.{bar, execute_bar, row_bar}
use Rattle.cf_semantics.specs.state.Column.{Up}
use Rattle.cf_layout.specs.Accepted.{is_control}
use Rattle.cf_semantics.specs.moves.Instructions.{step_at}
use Rattle.cf_semantics.specs.state.Layouts.{isa_of}
use Rattle.cf_semantics.specs.moves.Moves.{moved, with_passenger}
use Rattle.cf_semantics.specs.state.Options.{on}
use Rattle.cf_semantics.specs.state.Passengers.{finish, goto_undone, guessed, instruction, kind, missing}
use Rattle.cf_semantics.specs.state.State.{State, cell_at, put_cell, with_cell}
use Rattle.rv_inst.specs.declared.classes.Class.{Class}
use Rattle.rv_inst.specs.declared.isa.Isa.{Isa}
use Rattle.rv_machine.specs.Machine.{Machine}
use Rattle.theory_refinement.proofs.invariant.Lone as lone
use Rattle.theory_refinement.proofs.invariant.Sure as sure
use Rattle.cf_semantics.specs.claims.Path as trail
use Rattle.theory_refinement.proofs.column.Spot.{spot}

pub record Runs (l : Plan) (s : State) (i : ℕ) : Type 0 where
  pub here : Cell
  pub who : Passenger
  pub at_here : cell_at s.cells i ≡ Some here
  pub sits : here.passenger ≡ Some who
  pub live : who.dead ≡ false
  pub undone : who.done ≡ false
  pub unit : unit_at l (kind who) i ≡ true
  pub has1 : missing who.src1 ≡ None
  pub has2 : missing who.src2 ≡ None

pub execute_ready : (l : Plan) (s : State) (i : ℕ) → row_bar l s (Execute i) ≡ None → Runs l s i
execute_ready l s i e = go (cell_at s.cells i) refl e
  where
    inner : (c : Cell) (o : Option Passenger) → cell_at s.cells i ≡ Some c → c.passenger ≡ o → execute_bar l c i ≡ None → Runs l s i
    inner c None f h e = absurd (grind arith)
    inner c (Some p) f h e =
        record {
          here = c;
          who = p;
          at_here = f;
          sits = h;
          live = grind arith;
          undone = grind arith;
          unit = grind arith;
          has1 = grind arith;
          has2 =
              grind arith;
        }

    go : (a : Option Cell) → cell_at s.cells i ≡ a → on a (Some NoSuchSite) (λ c. execute_bar l c i) ≡ None → Runs l s i
    go None f e = absurd (cc)
    go (Some c) f e = inner c c.passenger f refl e

pub next_execute : (l : Plan) (s : State) (i : ℕ) (c : Cell) (p : Passenger) → cell_at s.cells i ≡ Some c → c.passenger ≡ Some p →
    moved l s (Execute i) ≡ with_cell s i (with_passenger c (finish p None))
unfolding moved
next_execute l s i c p e f = rw (e, f)

pub goes_straight : (p : Passenger) → is_plain (kind p) ≡ true → goto_undone (kind p) p ≡ guessed p.guess (instruction p) p.pc
goes_straight p e = go (kind p) e
  where
    go : (c : Class) → is_plain c ≡ true → goto_undone c p ≡ guessed p.guess (instruction p) p.pc
    go c e = grind arith

pub sure_finishes : (isa : Isa) (p : Passenger) (w : trail.Walk) → p.done ≡ false → missing p.src1 ≡ None → missing p.src2 ≡ None → is_plain (kind p) ≡ true →
    sure.SureAt isa p w → Finishes p w.machine (step_at isa w.machine p.pc) None
unfolding sure.SureAt
sure_finishes isa p w d m1 m2 c h = execute_finishes isa p w.machine w.goto d m1 m2 c h.0

-- a class with a unit has no siding, so that it is not launched
pub ashore : (l : Plan) → Suits l → (i : ℕ) (p : Passenger) → unit_at l (kind p) i ≡ true → p.dead ≡ false → p.done ≡ false → Stands l i p → p.launched ≡ false
ashore l acc i p u d n h = go p.launched p.recovered refl refl
  where
    go : (a b : Bool) → p.launched ≡ a → p.recovered ≡ b → p.launched ≡ false
    go false b e f = e
    go true true e f = absurd (let z = h.back_done f d in cc)
    go true false e f = absurd (let z = rw (acc.unsided (kind p) i u) at (h.out e f) in z)

pub execute_kept : {rest out : List ℕ} (l : Plan) (s : State) (x : Machine) (i : ℕ) → Suits l → bar l s (Execute i) ≡ None → Sound l s rest out x →
    Sound l (moved l s (Execute i)) rest out x
execute_kept {rest} {out} l s x i acc e h =
    let r = execute_ready l s i (bar_row l s (Execute i) e) in
    let q = r.who in
    let p = spot s i r.here q r.at_here r.sits in
    let d : Cell = with_passenger r.here (finish q None) in
    let c = acc.plain (kind q) i r.unit in
    let low : is_control (kind q) ≡ true → lone.is_high l i ≡ false = λ a. acc.control_low (kind q) i a r.unit in
    let walks = λ (w : trail.Walk). finish_walk (isa_of l) i q w None r.undone (goes_straight q c) in
    rw (next_execute l s i r.here q r.at_here r.sits) (changed l s x (put_cell s.cells i d) p.above (Up i q ∷ []) (Up i (finish q None) ∷ []) p.below p.was
    (p.is (finish q None)) (put_size s.cells i d) (λ k. record {
      path = record {
        fit = finish_fits (isa_of l) i q _ None k.wide r.live r.undone (sure_finishes (isa_of l) q _ r.undone r.has1 r.has2 c);
        follows =
            walks _;
      };
      lone = finish_lone l i q _ (finish_shuts l i q c low k.stands.0.guess);
      stands = (finish_stands l i q r.live r.undone c (ashore l acc i q r.unit r.live r.undone k.stands.0) k.stands.0, tt);
      port = finish_port (isa_of l) i q _ c k.safe (finish_turned i q r.live r.undone c (k.stands.0.unended r.undone) k.stands.0.guess) (walks _)
          (rw k.same k.path_fit);
      operations = λ n. finish_is_out l n i q;
    }) h)
