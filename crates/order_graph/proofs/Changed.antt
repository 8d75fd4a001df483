-- The changes after a move represent the memory after it.
use Rattle.std.proofs.Common.{◌≡◌, ℕ, ◌<◌, ◌≤◌, List, [], Option, Some, None, Bool, true, false, filter, refl, sym, ap, subst, ◌∙◌, arith}
use Rattle.std.specs.Prelude.{◌==◌, ◌&&◌, if◌then◌else◌}
use Rattle.std.proofs.lemmas.Bool.Decides.{nat_tests}
use Rattle.mem_regions.specs.Access.{bounds_of, is_aligned}
use Rattle.mem_regions.specs.Bytes.{le_bytes}
use Rattle.mem_regions.specs.Fetching.{synced}
use Rattle.mem_regions.specs.Memory.{Memory}
use Rattle.mem_regions.specs.Ranges.{writable_of}
use Rattle.mem_regions.specs.Writing.{memory_with, stored}
use Rattle.mem_regions.proofs.WriteBack.{length-le_bytes}
use Rattle.rv_inst.specs.Accesses.{access_made, store_width}
use Rattle.rv_inst.specs.declared.instruction.Instr.{Instr}
use Rattle.rv_inst.specs.declared.instruction.Instr.TheVariants.{Lui, Auipc, Jal, Jalr, Branch, Load, Store, OpImm, Op as OpInstr, Fence, Ecall, Ebreak, FenceI, Mul}
use Rattle.rv_inst.specs.declared.instruction.StoreKind.{StoreKind}
use Rattle.rv_inst.specs.declared.instruction.StoreKind.TheVariants as store
use Rattle.rv_machine.specs.Call.{call, first_argument, is_break, call_number}
use Rattle.rv_machine.specs.Call as called
use Rattle.rv_machine.specs.Step.{synchronizes}
use Rattle.cf_layout.specs.Layout.{Plan}
use Rattle.cf_bind.specs.declared.cell.Cell.{Cell}
use Rattle.cf_bind.specs.declared.cell.Op.{Op}
use Rattle.cf_bind.specs.declared.passenger.Passenger.{Passenger}
use Rattle.cf_bind.specs.declared.moves.Move.{Move}
use Rattle.cf_bind.specs.declared.moves.Move.TheVariants.{Issue, Emit, Climb, Fall, Meet, Execute, Send, Launch, Slide, Access, Recover, Leave, Exit, Serve}
use Rattle.cf_semantics.specs.moves.Bars.{last_op}
use Rattle.cf_semantics.specs.moves.Instructions.{mem_after, serve_of}
use Rattle.cf_semantics.specs.moves.Moves.{accessed, asked, moved, next, served}
use Rattle.cf_semantics.specs.state.Layouts.{port}
use Rattle.cf_semantics.specs.state.Options.{on}
use Rattle.cf_semantics.specs.state.Passengers.{instruction}
use Rattle.cf_semantics.specs.state.State.{State, cell_at, siding_at}
use Rattle.mem_changes.specs.Applied.{memory_after}
use Rattle.mem_changes.specs.Differing.{AreChangesOf, runs_at}
use Rattle.mem_changes.specs.Images.{IsAsLoaded}
use Rattle.mem_changes.specs.MemoryChanges.{MemoryChanges}
use Rattle.mem_changes.specs.Steps.{rewritten}
use Rattle.order_graph.proofs.Stores.{stored_changes, unstored_changes}
use Rattle.mem_changes.proofs.Updated.{sync_lists, sync_made, break_lists, break_made}
use Rattle.order_rules.specs.declared.rule.Rule.{Rule}
use Rattle.order_model.specs.RuleMoves.{next_without}
use Rattle.order_model.specs.ServeEffects.{memory_served}
use Rattle.order_model.specs.Situations.{lone_moment}
use Rattle.order_model.proofs.Noted.{other_keeps, break_moves, break_stays}
use Rattle.order_graph.specs.ChangesNext.{changes_stored, changes_accessed, changes_served, changes_next}
use Rattle.order_graph.proofs.Still.{mem_kept}

some_width : (k : StoreKind) → 0 < store_width k
some_width store.Byte = omega arith
some_width store.Half = omega arith
some_width store.Word = omega arith

-- a store
store_changes : (loaded mem : Memory) (k : MemoryChanges) (addr width n : ℕ) → IsAsLoaded loaded → AreChangesOf loaded mem k → 0 < width →
    AreChangesOf loaded (stored mem addr width n) (changes_stored loaded addr width n k)
unfolding stored
store_changes loaded mem k addr width n is a some =
    subst (λ (m : Memory). AreChangesOf loaded (if is_aligned addr width then memory_with m addr width (le_bytes width n) else m)
    (changes_stored loaded addr width n k))
    (sym a.makes) (go (is_aligned addr width))
  where
    there : (o : Option (List ℕ)) → writable_of loaded addr width ≡ o → AreChangesOf loaded (memory_with (memory_after k loaded) addr width (le_bytes width n))
        (on o k (λ old. record k { bytes = rewritten k.bytes addr width (le_bytes width n) old }))
    there None e = unstored_changes loaded k addr width (le_bytes width n) a.lists e
    there (Some old) e = stored_changes loaded k addr width (le_bytes width n) old is a.lists (length-le_bytes width n) some e

    go : (b : Bool) → AreChangesOf loaded (if b then memory_with (memory_after k loaded) addr width (le_bytes width n) else memory_after k loaded)
        (if b then on (writable_of loaded addr width) k (λ old. record k { bytes = rewritten k.bytes addr width (le_bytes width n) old }) else k)
    go true = there (writable_of loaded addr width) refl
    go false = record { lists = a.lists; makes = refl }

access_changes : (loaded mem : Memory) (k : MemoryChanges) (i : Instr) (a b : ℕ) → IsAsLoaded loaded → AreChangesOf loaded mem k →
    AreChangesOf loaded (mem_after i a b mem) (changes_accessed loaded i a b k)
unfolding mem_after access_made
access_changes loaded mem k (Store kind rs1 rs2 imm) a b is h = store_changes loaded mem k _ _ b is h (some_width kind)
access_changes loaded mem k (Lui rd imm) a b is h = h
access_changes loaded mem k (Auipc rd imm) a b is h = h
access_changes loaded mem k (Jal rd imm) a b is h = h
access_changes loaded mem k (Jalr rd rs1 imm) a b is h = h
access_changes loaded mem k (Branch op rs1 rs2 imm) a b is h = h
access_changes loaded mem k (Load kind rd rs1 imm) a b is h = h
access_changes loaded mem k (OpImm op rd rs1 imm) a b is h = h
access_changes loaded mem k (OpInstr op rd rs1 rs2) a b is h = h
access_changes loaded mem k (Fence rd rs1 imm) a b is h = h
access_changes loaded mem k Ecall a b is h = h
access_changes loaded mem k Ebreak a b is h = h
access_changes loaded mem k (FenceI rd rs1 imm) a b is h = h
access_changes loaded mem k (Mul op rd rs1 rs2) a b is h = h

-- FENCE.I, and a call
sync_changes : (loaded mem : Memory) (k : MemoryChanges) → IsAsLoaded loaded → AreChangesOf loaded mem k →
    AreChangesOf loaded (synced mem) (record k { code = filter (λ c. runs_at (bounds_of loaded) c.addr) k.bytes })
sync_changes loaded mem k is a = record {
  lists = sync_lists loaded k _ a.lists refl refl refl;
  makes = ap synced a.makes ∙ sym (sync_made loaded k _ is refl refl refl);
}

call_changes : (loaded mem : Memory) (k : MemoryChanges) (regs : List ℕ) → AreChangesOf loaded mem k →
    AreChangesOf loaded (memory_served (call regs mem []) mem)
    (if call_number regs == 214 && is_break (first_argument regs) then record k { program_break = first_argument regs } else k)
call_changes loaded mem k regs a = go (call_number regs == 214) (is_break (first_argument regs)) refl refl where
  go : (n b : Bool) → n ≡ (call_number regs == 214) → b ≡ is_break (first_argument regs) → AreChangesOf loaded (memory_served (call regs mem []) mem)
      (if n && b then record k { program_break = first_argument regs } else k)
  go false b e f = subst (λ (m : Memory). AreChangesOf loaded m k) (other_keeps regs mem (λ h. grind (arith, nat_tests))) a
  go true false e f = subst (λ (m : Memory). AreChangesOf loaded m k) (break_stays regs mem (grind (arith, nat_tests)) (sym f)) a
  go true true e f =
      let number : call_number regs ≡ 214 = grind (arith, nat_tests) in
      let low : 0x7f000000 ≤ first_argument regs = grind (arith, nat_tests) in
      let high : first_argument regs ≤ 0x7f080000 = grind (arith, nat_tests) in
      subst (λ (m : Memory). AreChangesOf loaded m (record k { program_break = first_argument regs })) (break_moves regs mem number low high)
      (record {
        lists = break_lists loaded k (first_argument regs) a.lists low high;
        makes = ap (λ (m : Memory). let w : Memory = record m { program_break = first_argument regs } in w) a.makes
            ∙ sym (break_made loaded k (first_argument regs));
      })

serve_changes : (loaded mem : Memory) (k : MemoryChanges) (i : Instr) (regs : List ℕ) → IsAsLoaded loaded → AreChangesOf loaded mem k →
    AreChangesOf loaded (memory_served (serve_of i regs mem []) mem) (changes_served loaded i regs k)
unfolding serve_of
serve_changes loaded mem k i regs is a = go (synchronizes i) where
  go : (b : Bool) → AreChangesOf loaded (memory_served (if b then called.Value (record { value = 0; mem = synced mem; rest = []; output = [] })
      else call regs mem []) mem)
      (if b then record k { code = filter (λ c. runs_at (bounds_of loaded) c.addr) k.bytes } else
      if call_number regs == 214 && is_break (first_argument regs) then record k { program_break = first_argument regs } else k)
  go true = sync_changes loaded mem k is a
  go false = call_changes loaded mem k regs a

-- the memory after a call
served_mem : (s : State) (n : ℕ) (c : Cell) (p : Passenger) (o : called.Called) → (served (lone_moment s) n c p o).state.mem ≡ memory_served o s.mem
served_mem s n c p (called.Value a) = refl
served_mem s n c p (called.Exit status) = refl

access_move : (plan : Plan) (loaded : Memory) (s : State) (k : MemoryChanges) → IsAsLoaded loaded → AreChangesOf loaded s.mem k →
    AreChangesOf loaded (moved plan s Access).mem (changes_next plan loaded s Access k)
unfolding moved changes_next
access_move plan loaded s k is a = go (last_op (siding_at s (port plan))) where
  go : (o : Option Op) → AreChangesOf loaded (on o s (accessed plan s)).mem (on o k (λ op. changes_accessed loaded op.instr op.a op.b k))
  go None = a
  go (Some op) = access_changes loaded s.mem k op.instr op.a op.b is a

serve_move : (plan : Plan) (loaded : Memory) (s : State) (k : MemoryChanges) → IsAsLoaded loaded → AreChangesOf loaded s.mem k →
    AreChangesOf loaded (next plan (lone_moment s) Serve).state.mem (changes_next plan loaded s Serve k)
unfolding next changes_next
serve_move plan loaded s k is a = go (cell_at s.cells plan.stages) where
  there : (c : Cell) (o : Option Passenger) → AreChangesOf loaded (on o (lone_moment s) (asked (lone_moment s) plan.stages c)).state.mem
      (on o k (λ p. changes_served loaded (instruction p) s.regs k))
  there c None = a
  there c (Some p) = subst (λ (m : Memory). AreChangesOf loaded m (changes_served loaded (instruction p) s.regs k))
      (sym (served_mem s plan.stages c p (serve_of (instruction p) s.regs s.mem []))) (serve_changes loaded s.mem k (instruction p) s.regs is a)

  go : (o : Option Cell) → AreChangesOf loaded (on o (lone_moment s) (λ c. on c.passenger (lone_moment s) (asked (lone_moment s) plan.stages c))).state.mem
      (on o k (λ c. on c.passenger k (λ p. changes_served loaded (instruction p) s.regs k)))
  go None = a
  go (Some c) = there c c.passenger

-- the changes after a move
pub changes_right : (away : Option Rule) (plan : Plan) (loaded : Memory) (s : State) (mv : Move) (k : MemoryChanges) → IsAsLoaded loaded →
    AreChangesOf loaded s.mem k → AreChangesOf loaded (next_without away plan (lone_moment s) mv).state.mem (changes_next plan loaded s mv k)
unfolding next_without next changes_next
changes_right away plan loaded s (Issue g) k is a = subst (λ (m : Memory). AreChangesOf loaded m k) (sym (mem_kept away plan (lone_moment s) (Issue g) refl)) a
changes_right away plan loaded s Emit k is a = subst (λ (m : Memory). AreChangesOf loaded m k) (sym (mem_kept away plan (lone_moment s) Emit refl)) a
changes_right away plan loaded s (Climb i) k is a = subst (λ (m : Memory). AreChangesOf loaded m k) (sym (mem_kept away plan (lone_moment s) (Climb i) refl)) a
changes_right away plan loaded s (Fall i) k is a = subst (λ (m : Memory). AreChangesOf loaded m k) (sym (mem_kept away plan (lone_moment s) (Fall i) refl)) a
changes_right away plan loaded s (Meet i) k is a = subst (λ (m : Memory). AreChangesOf loaded m k) (sym (mem_kept away plan (lone_moment s) (Meet i) refl)) a
changes_right away plan loaded s (Execute i) k is a = subst (λ (m : Memory). AreChangesOf loaded m k)
    (sym (mem_kept away plan (lone_moment s) (Execute i) refl)) a
changes_right away plan loaded s (Send i) k is a = subst (λ (m : Memory). AreChangesOf loaded m k) (sym (mem_kept away plan (lone_moment s) (Send i) refl)) a
changes_right away plan loaded s (Launch i) k is a = subst (λ (m : Memory). AreChangesOf loaded m k) (sym (mem_kept away plan (lone_moment s) (Launch i) refl))
    a
changes_right away plan loaded s (Slide j c) k is a = subst (λ (m : Memory). AreChangesOf loaded m k)
    (sym (mem_kept away plan (lone_moment s) (Slide j c) refl)) a
changes_right away plan loaded s Access k is a = access_move plan loaded s k is a
changes_right away plan loaded s (Recover i) k is a = subst (λ (m : Memory). AreChangesOf loaded m k)
    (sym (mem_kept away plan (lone_moment s) (Recover i) refl)) a
changes_right away plan loaded s Leave k is a = subst (λ (m : Memory). AreChangesOf loaded m k) (sym (mem_kept away plan (lone_moment s) Leave refl)) a
changes_right away plan loaded s Exit k is a = subst (λ (m : Memory). AreChangesOf loaded m k) (sym (mem_kept away plan (lone_moment s) Exit refl)) a
changes_right away plan loaded s Serve k is a = serve_move plan loaded s k is a
