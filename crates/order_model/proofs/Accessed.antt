-- What an operation at the end of a siding does, and which instruction takes it back.
use Rattle.std.proofs.Common.{◌≡◌, ◌≢◌, ℕ, zero, suc, ◌+◌, List, [], ◌∷◌, Bool, true, false, Option, Some, None, refl, ap}
use Rattle.std.specs.Prelude.{slice_get, slice_set, if◌then◌else◌, find, ◌&&◌, IfNone, IsTrue}
use Rattle.rv_mul.specs.Values.{computes}
use Rattle.std.specs.Option.{option_map}
use Rattle.rv_inst.specs.declared.classes.Class.TheVariants.{Memory as MemoryClass}
use Rattle.rv_inst.specs.declared.instruction.Instr.{Instr}
use Rattle.rv_inst.specs.declared.instruction.Instr.TheVariants.{Lui, Auipc, Jal, Jalr, Branch, Load, Store, OpImm, Op as OpInstr, Fence, Ecall, Ebreak, FenceI, Mul}
use Rattle.rv_inst.specs.Operands.{class_of}
use Rattle.rv_inst.specs.Accesses.{access_made, extended}
use Rattle.mem_regions.specs.Area.{Area}
use Rattle.mem_regions.specs.Memory.{Memory}
use Rattle.mem_regions.specs.Ranges.{load_at, range_of, number_found, lies_in, bytes_in}
use Rattle.cf_bind.specs.declared.cell.Op.{Op}
use Rattle.cf_bind.specs.declared.passenger.Passenger.{Passenger}
use Rattle.cf_layout.specs.Layout.{Plan}
use Rattle.cf_bind.specs.declared.moves.Move.TheVariants.{Slide}
use Rattle.cf_semantics.specs.state.Options.{on}
use Rattle.cf_semantics.specs.state.State.{State, siding_at, with_siding}
use Rattle.cf_semantics.specs.moves.Moves.{moved}
use Rattle.order_model.specs.Situations.{in_memory}
use Rattle.cf_semantics.specs.state.Passengers.{kind, with_value}
use Rattle.cf_semantics.specs.moves.Instructions.{answer_of, mem_after, number}
use Rattle.order_rules.specs.declared.rule.Rule.{Rule}
use Rattle.order_rules.specs.declared.rule.Rule.TheVariants.{LaunchDead, ExecuteDead}
use Rattle.order_rules.specs.Rules.{rule_holds}
use Rattle.order_model.specs.RuleMoves.{answer_without, sources_without}

-- reading no bytes gives the number 0
empty_number : (mem : Memory) → number (load_at mem 0 0) ≡ 0
unfolding load_at range_of
empty_number mem = go (find (lies_in 0 0) mem.areas) where
  go : (o : Option Area) → number (number_found (option_map (bytes_in 0 0) o)) ≡ 0
  go None = refl
  go (Some a) = refl

-- an instruction that neither loads nor stores has the answer 0, and leaves memory as it is
pub no_answer : (i : Instr) (a b : ℕ) (mem : Memory) → class_of i ≢ MemoryClass → answer_of i a b mem ≡ 0
unfolding answer_of access_made extended
no_answer (Load k rd rs1 imm) a b mem h = absurd (h refl)
no_answer (Store k rs1 rs2 imm) a b mem h = refl
no_answer (Lui rd imm) a b mem h = empty_number mem
no_answer (Auipc rd imm) a b mem h = empty_number mem
no_answer (Jal rd imm) a b mem h = empty_number mem
no_answer (Jalr rd rs1 imm) a b mem h = empty_number mem
no_answer (Branch c rs1 rs2 imm) a b mem h = empty_number mem
no_answer (OpImm op rd rs1 imm) a b mem h = empty_number mem
no_answer (OpInstr op rd rs1 rs2) a b mem h = empty_number mem
no_answer (Fence rd rs1 imm) a b mem h = empty_number mem
no_answer Ecall a b mem h = empty_number mem
no_answer Ebreak a b mem h = empty_number mem
no_answer (FenceI rd rs1 imm) a b mem h = empty_number mem
no_answer (Mul op rd rs1 rs2) a b mem h = empty_number mem

pub no_access : (i : Instr) (a b : ℕ) (mem : Memory) → class_of i ≢ MemoryClass → mem_after i a b mem ≡ mem
unfolding mem_after access_made
no_access (Load k rd rs1 imm) a b mem h = refl
no_access (Store k rs1 rs2 imm) a b mem h = absurd (h refl)
no_access (Lui rd imm) a b mem h = refl
no_access (Auipc rd imm) a b mem h = refl
no_access (Jal rd imm) a b mem h = refl
no_access (Jalr rd rs1 imm) a b mem h = refl
no_access (Branch c rs1 rs2 imm) a b mem h = refl
no_access (OpImm op rd rs1 imm) a b mem h = refl
no_access (OpInstr op rd rs1 rs2) a b mem h = refl
no_access (Fence rd rs1 imm) a b mem h = refl
no_access Ecall a b mem h = refl
no_access Ebreak a b mem h = refl
no_access (FenceI rd rs1 imm) a b mem h = refl
no_access (Mul op rd rs1 rs2) a b mem h = refl

pub ruleset accessing = (no_answer, no_access)

-- a cell's contents move to the next one
pub slid_twice : (sidings : List (List (Option Op))) (k c : ℕ) (q : Option Op) →
    slice_set (slice_set sidings k (slice_set (on (slice_get sidings k) [] (λ ops. ops)) c None)) k
    (slice_set (on (slice_get (slice_set sidings k (slice_set (on (slice_get sidings k) [] (λ ops. ops)) c None)) k) [] (λ ops. ops)) (c + 1) q)
    ≡ slice_set sidings k (slice_set (slice_set (on (slice_get sidings k) [] (λ ops. ops)) c None) (c + 1) q)
slid_twice [] k c q = refl
slid_twice (ops ∷ sidings) zero c q = refl
slid_twice (ops ∷ sidings) (suc k) c q = ap (λ (l : List (List (Option Op))). ops ∷ l) (slid_twice sidings k c q)

pub slides : (plan : Plan) (s : State) (mem : Memory) (k c : ℕ) (op : Option Op) (a b : State) → slice_get (siding_at s k) c ≡ Some op →
    a ≡ with_siding s k (slice_set (siding_at s k) c None) → b ≡ with_siding a k (slice_set (siding_at a k) (c + 1) op) →
    in_memory b mem ≡ moved plan (in_memory s mem) (Slide k c)
unfolding moved
slides plan s mem k c op a b e f g = rw g (rw f (rw e (ap (λ (l : List (List (Option Op))). record (in_memory s mem) { sidings = l })
    (slid_twice s.sidings k c op))))

-- an instruction with other source values is of the same class
pub same_kind : (away : Option Rule) (p : Passenger) (op : Op) → kind (sources_without away p op) ≡ kind p
same_kind away p op = go (rule_holds away LaunchDead) (rule_holds away ExecuteDead) where
  go : (a b : Bool) → kind (if a && b then p else record p { src1 = with_value op.a p.src1; src2 = with_value op.b p.src2 }) ≡ kind p
  go true true = refl
  go true false = refl
  go false b = refl

pub sourced_computes : (away : Option Rule) (p : Passenger) (op : Op) → IfNone (answer_without away p op) (IsTrue (computes (kind p))) →
    IfNone (answer_without away p op) (IsTrue (computes (kind (sources_without away p op))))
sourced_computes away p op h = rw (same_kind away p op) h

pub ruleset recovering = (sourced_computes)
