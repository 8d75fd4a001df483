-- The effect of a move as new contents of some sites: it depends on what the move reads, and it is made at the sites
-- that the move writes.
use Rattle.std.proofs.Common.{◌≡◌, ℕ, zero, suc, ◌+◌, ◌-◌, List, [], ◌∷◌, ◌++◌, length, Option, Some, None, Bool, true, false, refl, sym, ap, ◌∙◌, arith}
use Rattle.std.specs.Prelude.{slice_get, slice_set, slice_index, unwrap_or}
use Rattle.cf_layout.specs.Layout.{Plan, siding_of}
use Rattle.cf_bind.specs.declared.cell.Cell.{Cell}
use Rattle.cf_bind.specs.declared.cell.Op.{Op}
use Rattle.cf_bind.specs.declared.packet.Fetch.{Fetch}
use Rattle.cf_bind.specs.declared.packet.Packet.TheVariants.{Value}
use Rattle.cf_bind.specs.declared.passenger.Passenger.{Passenger}
use Rattle.cf_bind.specs.declared.passenger.End.{End}
use Rattle.cf_bind.specs.declared.moves.Move.{Move}
use Rattle.cf_bind.specs.declared.moves.Move.TheVariants.{Issue, Emit, Climb, Fall, Meet, Execute, Send, Launch, Slide, Access, Recover, Leave, Exit, Serve}
use Rattle.cf_semantics.specs.state.Options.{on}
use Rattle.cf_semantics.specs.moves.Instructions.{fetched, mem_after, answer_of}
use Rattle.cf_semantics.specs.state.State.{State, cell_at, put_cell, siding_at, with_cell, with_siding}
use Rattle.cf_semantics.specs.state.Passengers.{kind, fresh, goto, requests, reg_in, forgets, finish, trapped}
use Rattle.cf_semantics.specs.state.Layouts.{isa_of, port}
use Rattle.cf_semantics.specs.moves.Bars.{last_op, running}
use Rattle.cf_semantics.specs.moves.Moves.{fetch_from, set_last, without_passenger, without_packet, with_passenger, cell_met, sent, operation, launch_trap, back_in, written, turned, keeps, moved, emitted, accessed, left}
use Rattle.cf_semantics.specs.moves.Sites.{last_number}
use Rattle.theory_refinement.proofs.column.Sidings.{cells_in}

-- new contents of a stage, or of a cell of a siding
pub record StagePut : Type 0 where
  pub stage : ℕ
  pub cell : Cell

pub record CellPut : Type 0 where
  pub siding : ℕ
  pub number : ℕ
  pub op : Option Op

-- what a move changes: for the memory, the operation whose access is made
pub record Effect : Type 0 where
  pub stages : List StagePut
  pub ops : List CellPut
  pub lane : Option (List ℕ)
  pub fetch : Option Fetch
  pub cache : Option (List (Option ℕ))
  pub regs : Option (List ℕ)
  pub access : Option Op
  pub count : Option ℕ
  pub ending : Option End

abbrev pub nothing : Effect
nothing = record { stages = []; ops = []; lane = None; fetch = None; cache = None; regs = None; access = None; count = None; ending = None }

abbrev pub one_stage : ℕ → Cell → Effect
one_stage i c = record nothing { stages = record { stage = i; cell = c } ∷ [] }

abbrev pub two_stages : ℕ → Cell → ℕ → Cell → Effect
two_stages i c j d = record nothing { stages = record { stage = i; cell = c } ∷ record { stage = j; cell = d } ∷ [] }

abbrev pub one_op : ℕ → ℕ → Option Op → List CellPut
one_op k c o = record { siding = k; number = c; op = o } ∷ []

abbrev pub put_stages : List StagePut → List Cell → List Cell
put_stages [] cells = cells
put_stages (p ∷ ps) cells = put_stages ps (put_cell cells p.stage p.cell)

abbrev pub put_op : List (List (Option Op)) → ℕ → ℕ → Option Op → List (List (Option Op))
put_op ss k c o = slice_set ss k (slice_set (cells_in ss k) c o)

abbrev pub put_ops : List CellPut → List (List (Option Op)) → List (List (Option Op))
put_ops [] ss = ss
put_ops (p ∷ ps) ss = put_ops ps (put_op ss p.siding p.number p.op)

abbrev pub applied : Effect → State → State
applied e s = record {
  cells = put_stages e.stages s.cells;
  sidings = put_ops e.ops s.sidings;
  lane = unwrap_or e.lane s.lane;
  fetch = unwrap_or e.fetch s.fetch;
  cache = unwrap_or e.cache s.cache;
  regs = unwrap_or e.regs s.regs;
  mem = on e.access s.mem (λ op. mem_after op.instr op.a op.b s.mem);
  retired = unwrap_or e.count s.retired;
  ending = on e.ending s.ending Some;
  failed = s.failed;
}

abbrev pub issue_effect : List ℕ → List (Option ℕ) → Passenger → Cell → Effect
issue_effect lane cache p c = record nothing {
  stages = record { stage = 1; cell = record c { passenger = Some p; met = false } } ∷ [];
  lane = Some (lane ++ requests p);
  fetch = Some (fetch_from (goto p));
  cache = Some (forgets (reg_in p.dst) cache);
}

abbrev pub emit_effect : ℕ → List ℕ → List ℕ → Cell → Effect
emit_effect n regs [] c = nothing
emit_effect n regs (r ∷ lane) c = record (one_stage n (record c { packet = Some (Value r (slice_index regs r)); met = false })) { lane = Some lane }

abbrev pub launch_effect : ℕ → Cell → Passenger → Option ℕ → Option End → Effect
launch_effect i c p k (Some e) = one_stage i (with_passenger c (trapped p e))
launch_effect i c p None None = nothing
launch_effect i c p (Some k) None = record (one_stage i (with_passenger c (record p { launched = true }))) { ops = one_op k 0 (Some (operation p)) }

abbrev pub slide_effect : ℕ → ℕ → Option Op → Effect
slide_effect k c o = record nothing { ops = record { siding = k; number = c; op = None } ∷ record { siding = k; number = c + 1; op = o } ∷ [] }

abbrev pub access_effect : ℕ → ℕ → Op → ℕ → Effect
access_effect k c op a = record nothing { ops = one_op k c (Some (record op { answer = Some a })); access = Some op }

abbrev pub recover_effect : ℕ → Cell → Passenger → ℕ → ℕ → Op → Effect
recover_effect i c p k n op = record (one_stage i (with_passenger c (back_in p op.answer))) { ops = one_op k n None }

abbrev pub leave_as : Bool → Option End → ℕ → Cell → List ℕ → ℕ → Effect
leave_as true o n c regs count = one_stage n (without_passenger c)
leave_as false (Some e) n c regs count = record (one_stage n (without_passenger c)) { ending = Some e }
leave_as false None n c regs count = record (one_stage n (without_passenger c)) { regs = Some regs; count = Some count }

abbrev pub exit_effect : Fetch → List (Option ℕ) → Cell → Effect
exit_effect f cache c = record (one_stage 1 (without_packet c)) { fetch = Some f; cache = Some cache }

-- the effect of a move; for Serve it means nothing
unfoldable pub effect : Plan → State → Move → Effect
effect l s (Issue g) = on (cell_at s.cells 1) nothing (λ c. on (running s.fetch) nothing (λ pc. issue_effect s.lane s.cache
    (fresh s.cache (fetched (isa_of l) s.mem pc) pc g) c))
effect l s Emit = on (cell_at s.cells l.stages) nothing (emit_effect l.stages s.regs s.lane)
effect l s (Climb i) = on (cell_at s.cells i) nothing (λ c. on (cell_at s.cells (i + 1)) nothing
    (λ d. two_stages i (without_passenger c) (i + 1) (record d { passenger = c.passenger; met = false })))
effect l s (Fall i) = on (cell_at s.cells i) nothing (λ c. on (cell_at s.cells (i - 1)) nothing
    (λ d. two_stages i (without_packet c) (i - 1) (record d { packet = c.packet; met = false })))
effect l s (Meet i) = on (cell_at s.cells i) nothing (λ c. on c.passenger nothing (λ p. on c.packet nothing (λ k. one_stage i (cell_met c p k))))
effect l s (Execute i) = on (cell_at s.cells i) nothing (λ c. on c.passenger nothing (λ p. one_stage i (with_passenger c (finish p None))))
effect l s (Send i) = on (cell_at s.cells i) nothing (λ c. on c.passenger nothing (λ p. one_stage i (sent p)))
effect l s (Launch i) = on (cell_at s.cells i) nothing (λ c. on c.passenger nothing (λ p. launch_effect i c p (siding_of l (kind p)) (launch_trap s p)))
effect l s (Slide k c) = on (slice_get (siding_at s k) c) nothing (slide_effect k c)
effect l s Access = on (last_op (siding_at s (port l))) nothing (λ op. access_effect (port l) (last_number s (port l)) op (answer_of op.instr op.a op.b s.mem))
effect l s (Recover i) = on (cell_at s.cells i) nothing (λ c. on c.passenger nothing (λ p. on (siding_of l (kind p)) nothing
    (λ k. on (last_op (siding_at s k)) nothing (recover_effect i c p k (last_number s k)))))
effect l s Leave = on (cell_at s.cells l.stages) nothing (λ c. on c.passenger nothing (λ p. leave_as p.dead p.ending l.stages c (written s.regs p.dst)
    (s.retired + 1)))
effect l s Exit = on (cell_at s.cells 1) nothing (λ c. on c.packet nothing (λ k. exit_effect (turned s.fetch k) (keeps l.cache s.cache k) c))
effect l s Serve = nothing

-- the effect made in the state is the state after the move
on_applied : {A : Type 0} → (o : Option A) (s : State) (f : A → State) (g : A → Effect) → ((a : A) → f a ≡ applied (g a) s) →
    on o s f ≡ applied (on o nothing g) s
on_applied None s f g h = refl
on_applied (Some a) s f g h = h a

emit_applied : (n : ℕ) (s : State) (lane : List ℕ) (c : Cell) → emitted s n lane c ≡ applied (emit_effect n s.regs lane c) s
emit_applied n s [] c = refl
emit_applied n s (r ∷ lane) c = refl

launch_applied : (s : State) (i : ℕ) (c : Cell) (p : Passenger) (k : Option ℕ) (o : Option End) →
    on o (on k s (λ k. with_siding (with_cell s i (with_passenger c (record p { launched = true }))) k (slice_set (siding_at s k) 0 (Some (operation p)))))
    (λ e. with_cell s i (with_passenger c (trapped p e))) ≡ applied (launch_effect i c p k o) s
launch_applied s i c p k (Some e) = refl
launch_applied s i c p None None = refl
launch_applied s i c p (Some k) None = refl

-- two puts in one siding
put_twice : (ss : List (List (Option Op))) (k : ℕ) (q : List (Option Op)) (f : List (Option Op) → List (Option Op)) → f [] ≡ [] →
    slice_set (slice_set ss k q) k (f (cells_in (slice_set ss k q) k)) ≡ slice_set ss k (f q)
put_twice [] k q f e = refl
put_twice (a ∷ ss) zero q f e = refl
put_twice (a ∷ ss) (suc k) q f e = ap (λ (l : List (List (Option Op))). a ∷ l) (put_twice ss k q f e)

slide_applied : (s : State) (k c : ℕ) (o : Option Op) → with_siding s k (slice_set (slice_set (siding_at s k) c None) (c + 1) o)
    ≡ applied (slide_effect k c o) s
slide_applied s k c o = ap (λ (ss : List (List (Option Op))). record s { sidings = ss }) (sym
    (put_twice s.sidings k (slice_set (siding_at s k) c None) (λ q. slice_set q (c + 1) o) refl))

pub set_last_is : (q : List (Option Op)) (o : Option Op) → set_last q o ≡ slice_set q (length q - 1) o
set_last_is [] o = refl
set_last_is (a ∷ []) o = refl
set_last_is (a ∷ b ∷ q) o = ap (λ (l : List (Option Op)). a ∷ l) (set_last_is (b ∷ q) o) ∙ go (length q)
  where
    go : (n : ℕ) → a ∷ slice_set (b ∷ q) (suc n - 1) o ≡ slice_set (a ∷ b ∷ q) (suc (suc n) - 1) o
    go n = let e : suc n - 1 ≡ n = omega arith in let f : suc (suc n) - 1 ≡ suc n = omega arith in rw (e, f) refl

access_applied : (l : Plan) (s : State) (op : Op) → accessed l s op ≡ applied (access_effect (port l) (last_number s (port l)) op
    (answer_of op.instr op.a op.b s.mem)) s
access_applied l s op = ap (λ (q : List (Option Op)). record (with_siding s (port l) q) { mem = mem_after op.instr op.a op.b s.mem })
    (set_last_is (siding_at s (port l)) (Some (record op { answer = Some (answer_of op.instr op.a op.b s.mem) })))

recover_applied : (s : State) (i : ℕ) (c : Cell) (p : Passenger) (k : ℕ) (op : Op) → with_siding (with_cell s i (with_passenger c (back_in p op.answer))) k
    (set_last (siding_at s k) None) ≡ applied (recover_effect i c p k (last_number s k) op) s
recover_applied s i c p k op = ap (λ (q : List (Option Op)). with_siding (with_cell s i (with_passenger c (back_in p op.answer))) k q)
    (set_last_is (siding_at s k) None)

leave_applied : (s : State) (n : ℕ) (c : Cell) (p : Passenger) → left s n c p ≡ applied (leave_as p.dead p.ending n c (written s.regs p.dst) (s.retired + 1)) s
leave_applied s n c p = grind arith

pub moved_applied : (l : Plan) (s : State) (mv : Move) → moved l s mv ≡ applied (effect l s mv) s
unfolding moved effect
moved_applied l s (Issue g) = on_applied (cell_at s.cells 1) s _ _ (λ c. on_applied (running s.fetch) s _ _ (λ pc. refl))
moved_applied l s Emit = on_applied (cell_at s.cells l.stages) s _ _ (λ c. emit_applied l.stages s s.lane c)
moved_applied l s (Climb i) = on_applied (cell_at s.cells i) s _ _ (λ c. on_applied (cell_at s.cells (i + 1)) s _ _ (λ d. refl))
moved_applied l s (Fall i) = on_applied (cell_at s.cells i) s _ _ (λ c. on_applied (cell_at s.cells (i - 1)) s _ _ (λ d. refl))
moved_applied l s (Meet i) = on_applied (cell_at s.cells i) s _ _ (λ c. on_applied c.passenger s _ _ (λ p. on_applied c.packet s _ _ (λ k. refl)))
moved_applied l s (Execute i) = on_applied (cell_at s.cells i) s _ _ (λ c. on_applied c.passenger s _ _ (λ p. refl))
moved_applied l s (Send i) = on_applied (cell_at s.cells i) s _ _ (λ c. on_applied c.passenger s _ _ (λ p. refl))
moved_applied l s (Launch i) = on_applied (cell_at s.cells i) s _ _ (λ c. on_applied c.passenger s _ _
    (λ p. launch_applied s i c p (siding_of l (kind p)) (launch_trap s p)))
moved_applied l s (Slide k c) = on_applied (slice_get (siding_at s k) c) s _ _ (λ o. slide_applied s k c o)
moved_applied l s Access = on_applied (last_op (siding_at s (port l))) s _ _ (λ op. access_applied l s op)
moved_applied l s (Recover i) = on_applied (cell_at s.cells i) s _ _ (λ c. on_applied c.passenger s _ _
    (λ p. on_applied (siding_of l (kind p)) s _ _ (λ k. on_applied (last_op (siding_at s k)) s _ _ (λ op. recover_applied s i c p k op))))
moved_applied l s Leave = on_applied (cell_at s.cells l.stages) s _ _ (λ c. on_applied c.passenger s _ _ (λ p. leave_applied s l.stages c p))
moved_applied l s Exit = on_applied (cell_at s.cells 1) s _ _ (λ c. on_applied c.packet s _ _ (λ k. refl))
moved_applied l s Serve = refl
