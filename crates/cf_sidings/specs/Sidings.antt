-- The contents of the sidings, each listed from the cell at which operations enter ("Counterflow Pipeline Processor
-- Architecture", 1994: sidings).
use Rattle.std.specs.Prelude.{◌≡◌, ℕ, ◌+◌, ◌/◌, ◌%◌, ◌≤◌, Bool, false, ◌&&◌, not, List, [], Option, Some, None, length, map, replicate, slice_get, slice_set}
use Rattle.mem_regions.specs.Memory.{Memory}
use Rattle.mem_regions.specs.Access.{bounds_of}
use Rattle.rv_inst.specs.declared.classes.Class.TheVariants.{Memory as MemoryClass}
use Rattle.rv_inst.specs.Operands.{class_of}
use Rattle.cf_layout.specs.Layout.{Plan}
use Rattle.cf_layout.specs.Words.{has_bit}
use Rattle.cf_bind.specs.declared.cell.Op.{Op}
use Rattle.cf_semantics.specs.state.Options.{is_some, on, Where}
use Rattle.cf_semantics.specs.moves.Instructions.{access_trap, answer_of, mem_after}
use Rattle.cf_semantics.specs.moves.Bars.{cell_is_taken, last_op}
use Rattle.cf_semantics.specs.moves.Moves.{set_last}

-- the empty sidings of a layout
unfoldable pub empty_sidings : Plan → List (List (Option Op))
empty_sidings plan = map (λ siding. replicate siding.cells None) plan.sidings

-- the cells of the siding of this number
abbrev pub cells_in : List (List (Option Op)) → ℕ → List (Option Op)
cells_in sidings k = on (slice_get sidings k) [] (λ cells. cells)

-- the contents of the cell of this number, if there is one: cell c of siding k, which has at most eight, is number 8k + c
abbrev pub numbered_cell : List (List (Option Op)) → ℕ → Option (Option Op)
numbered_cell sidings j = slice_get (cells_in sidings (j / 8)) (j % 8)

-- the contents of the next cell of the same siding, if there is one
abbrev pub next_cell : List (List (Option Op)) → ℕ → Option (Option Op)
next_cell sidings j = slice_get (cells_in sidings (j / 8)) (j % 8 + 1)

-- there is such a cell, and it is empty
abbrev pub cell_is_free : Option (Option Op) → Bool
cell_is_free cell = on cell false (λ o. not (is_some o))

-- the operation of the cell of this number can move on: there is one, and the next cell of the siding is empty
unfoldable pub slides_on : List (List (Option Op)) → ℕ → Bool
slides_on sidings j = cell_is_taken (numbered_cell sidings j) && cell_is_free (next_cell sidings j)

-- there are at most eight sidings, each of at most eight cells
pub record AreFewSidings (sidings : List (List (Option Op))) : Type 0 where
  pub few : length sidings ≤ 8
  pub short : (k : ℕ) → length (cells_in sidings k) ≤ 8

-- one word has the numbers of the cells with an operation, the other those of the cells that have a next one
pub record HaveWords (sidings : List (List (Option Op))) (taken inner : ℕ) : Type 0 where
  pub small : AreFewSidings sidings
  pub with_op : (j : ℕ) → has_bit taken j ≡ cell_is_taken (numbered_cell sidings j)
  pub with_next : (j : ℕ) → has_bit inner j ≡ is_some (next_cell sidings j)

-- the operation at the end of a siding
abbrev pub last_in : List (List (Option Op)) → ℕ → Option Op
last_in sidings k = last_op (cells_in sidings k)

-- the sidings with new cells in one of them
abbrev pub with_siding_cells : List (List (Option Op)) → ℕ → List (Option Op) → List (List (Option Op))
with_siding_cells sidings k cells = slice_set sidings k cells

-- a siding after the contents of a cell have moved to the next one
unfoldable pub moved_on : List (Option Op) → ℕ → List (Option Op)
moved_on cells c = on (slice_get cells c) cells (λ o. slice_set (slice_set cells c None) (c + 1) o)

-- an operation that can be carried out now: a load or a store without an answer, which memory permits
pub record IsReadyOperation (op : Op) (mem : Memory) : Type 0 where
  pub memory : class_of op.instr ≡ MemoryClass
  pub unanswered : op.answer ≡ None
  pub permitted : access_trap op.instr op.pc op.a (bounds_of mem) ≡ None

-- there is an operation that can be carried out now
abbrev pub CanAccess : Option Op → Memory → Type 0
CanAccess o mem = Where o ⊥ (λ op. IsReadyOperation op mem)

-- the operation with the answer of memory
abbrev pub op_answered : Op → Memory → Op
op_answered op mem = record op { answer = Some (answer_of op.instr op.a op.b mem) }

-- a siding after the operation at its end was carried out
unfoldable pub after_access : List (Option Op) → Memory → List (Option Op)
after_access cells mem = on (last_op cells) cells (λ op. set_last cells (Some (op_answered op mem)))

-- memory after the operation at the end of a siding was carried out
unfoldable pub mem_after_access : List (Option Op) → Memory → Memory
mem_after_access cells mem = on (last_op cells) mem (λ op. mem_after op.instr op.a op.b mem)
