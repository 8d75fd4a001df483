-- What a processor keeps of a move so that it can be taken back, and when it can be ("Counterflow Pipeline Processor
-- Architecture", 1994: each change is local, so little is kept of it).
use Rattle.std.specs.Prelude.{◌≡◌, ◌≢◌, ◌≤◌, List, [], ◌∷◌, Option, Some, None, length, map, slice_get}
use Rattle.mem_regions.specs.Bytes.{le_bytes}
use Rattle.cf_layout.specs.Layout.{Plan}
use Rattle.cf_bind.specs.declared.moves.Move.{Move}
use Rattle.cf_bind.specs.declared.moves.Move.TheVariants.{Serve}
use Rattle.cf_semantics.specs.moves.Bars.{bar}
use Rattle.cf_semantics.specs.moves.Kept.{Kept, KeptBytes, KeptCell, KeptLane, KeptOp, KeptRegister, kept, taken_back}
use Rattle.cf_semantics.specs.moves.Kept as lane
use Rattle.cf_semantics.specs.moves.Moves.{moved, next}
use Rattle.cf_semantics.specs.state.State.{State, Moment}
use Rattle.cf_core.specs.Processors.{Processor, IsProcessor}
use Rattle.cf_core.specs.declared.old_number.OldNumber.{OldNumber}
use Rattle.cf_core.specs.declared.undo.Few.{Few}
use Rattle.cf_core.specs.declared.undo.Few.TheVariants.{Nothing, One, Two}
use Rattle.cf_core.specs.declared.undo.OldCell.{OldCell}
use Rattle.cf_core.specs.declared.undo.OldLane.{OldLane}
use Rattle.cf_core.specs.declared.undo.OldLane.TheVariants.{Same, Taken, Added}
use Rattle.cf_core.specs.declared.undo.OldOp.{OldOp}
use Rattle.cf_core.specs.declared.undo.OldRegister.{OldRegister}
use Rattle.cf_core.specs.declared.undo.Undo.{Undo}

-- What a record of the code keeps --

abbrev pub list_of_few : {A : Type 0} → Few A → List A
list_of_few Nothing = []
list_of_few (One a) = a ∷ []
list_of_few (Two a b) = a ∷ b ∷ []

abbrev pub cell_kept : OldCell → KeptCell
cell_kept c = record { stage = c.stage; cell = c.cell }

abbrev pub op_kept : OldOp → KeptOp
op_kept o = record { siding = o.siding; place = o.place; op = o.op }

abbrev pub lane_kept : OldLane → KeptLane
lane_kept Same = lane.Same
lane_kept (Taken r) = lane.Taken r
lane_kept (Added n) = lane.Added n

abbrev pub register_kept : Option OldRegister → Option KeptRegister
register_kept None = None
register_kept (Some r) = Some (record { reg = r.reg; value = r.value })

abbrev pub number_kept : Option OldNumber → Option KeptBytes
number_kept None = None
number_kept (Some n) = Some (record { addr = n.addr; bytes = le_bytes n.width n.number })

-- what a record keeps of a state before a move
unfoldable pub kept_by : Undo → Kept
kept_by u = record {
  move = u.made;
  cells = map cell_kept (list_of_few u.cells);
  ops = map op_kept (list_of_few u.ops);
  lane = lane_kept u.lane;
  fetch = u.fetch;
  cache = u.cache;
  register = register_kept u.register;
  bytes = number_kept u.number;
  retired = u.retired;
  ending = u.ending;
}

-- When it can be put back --

-- a state of a processor of this layout: what holds of every one, no more requests than the lane has room for, and no
-- cached value for x0
pub record CanStand (plan : Plan) (s : State) : Type 0 where
  pub facts : IsProcessor plan s
  pub room : length s.lane ≤ plan.lane
  pub zero : slice_get s.cache 0 ≡ Some None

-- the processor has just made the move, from a state of which this was kept
pub record HasJustMade (p : Processor) (k : Kept) : Type 0 where
  pub earlier : State
  pub stood : CanStand p.plan earlier
  pub allowed : bar p.plan earlier k.move ≡ None
  pub other : k.move ≢ Serve
  pub is : k ≡ kept p.plan earlier k.move
  pub made : p.state ≡ moved p.plan earlier k.move

-- Over runs --

-- what is kept along a run, beginning with the first move
unfoldable pub kept_along : Plan → Moment → List Move → List Kept
kept_along plan m [] = []
kept_along plan m (mv ∷ moves) = kept plan m.state mv ∷ kept_along plan (next plan m mv) moves

-- a moment with all of that put back, beginning with the last move
unfoldable pub all_taken_back : Moment → List Kept → Moment
all_taken_back m [] = m
all_taken_back m (k ∷ ks) = taken_back (all_taken_back m ks) k
