-- Worked runs: branches and jumps, whose turns kill what was issued on a wrong guess.
use Rattle.std.specs.Prelude.{[], ◌∷◌, None, true, refl, replicate, pos}
use Rattle.rv_inst.specs.declared.instruction.Instr.{Instr}
use Rattle.rv_inst.specs.declared.instruction.Instr.TheVariants as instr
use Rattle.rv_inst.specs.declared.instruction.Cond.TheVariants as cond
use Rattle.rv_inst.specs.declared.instruction.StoreKind.TheVariants as store
use Rattle.rv_machine.specs.Machine.{Machine}
use Rattle.cf_bind.specs.declared.packet.Fetch.TheVariants.{Running}
use Rattle.cf_bind.specs.declared.packet.Packet.TheVariants.{Turn}
use Rattle.cf_bind.specs.declared.passenger.Guess.TheVariants.{Next}
use Rattle.cf_bind.specs.declared.moves.Move.TheVariants.{Issue, Climb, Fall, Meet, Execute, Send, Launch, Exit}
use Rattle.cf_bind.specs.declared.moves.Bar.TheVariants as bar
use Rattle.cf_semantics.specs.runs.Runs.{opened, empty_cell}
use Rattle.theory_examples.specs.Samples.{tiny, two_jump_units, sample, unknown_register, issued_instruction, done, stage_with, complete}
use Rattle.theory_examples.specs.Follows.{EndsIn, IsBarred}
use Rattle.theory_examples.proofs.Allowed.{ends, barred}
use Rattle.theory_examples.proofs.OnLiterals.{on_literals}

-- beq x0, x0, 8; sw x1, 0(x2)
abbrev pub skipping_a_store : Machine
skipping_a_store = sample (0x63 ∷ 0x04 ∷ 0x00 ∷ 0x00 ∷ 0x23 ∷ 0x20 ∷ 0x11 ∷ 0x00 ∷ [])

abbrev pub branch_by_8 : Instr
branch_by_8 = instr.Branch cond.Eq 0 0 (pos 8)

abbrev pub store_x1 : Instr
store_x1 = instr.Store store.Word 2 1 (pos 0)

-- The turn of the branch kills the store below it, which is never carried out.
pub store_dies : EndsIn tiny skipping_a_store
    (Issue Next ∷ Execute 1 ∷ Send 1 ∷ Climb 1 ∷ Issue Next ∷ Meet 1 ∷ [])
    (record (opened tiny skipping_a_store) {
      cells =
          complete (record (issued_instruction 0x10004 store_x1 (unknown_register 2) (unknown_register 1) None) { dead = true }) (Turn 0x10008) ∷
          stage_with (done (issued_instruction 0x10000 branch_by_8 None None None) 0x10008) ∷ [];
      lane = 2 ∷ 1 ∷ [];
      fetch = Running 0x10008;
    })
unfolding on_literals
store_dies = ends refl refl

-- Before that meeting it cannot be launched.
pub launches_only_when_met : IsBarred tiny skipping_a_store
    (Issue Next ∷ Execute 1 ∷ Send 1 ∷ Climb 1 ∷ Issue Next ∷ [])
    (Launch 1) (bar.NotMet)
unfolding on_literals
launches_only_when_met = barred refl refl

-- beq x0, x0, 16; jal x0, 8
abbrev pub two_turns : Machine
two_turns = sample (0x63 ∷ 0x08 ∷ 0x00 ∷ 0x00 ∷ 0x6f ∷ 0x00 ∷ 0x80 ∷ 0x00 ∷ [])

abbrev pub branch_by_16 : Instr
branch_by_16 = instr.Branch cond.Eq 0 0 (pos 16)

abbrev pub jump_by_8 : Instr
jump_by_8 = instr.Jal 0 (pos 8)

-- The younger jump is the first to turn fetch,
pub younger_turn_first : EndsIn two_jump_units two_turns
    (Issue Next ∷ Climb 1 ∷ Climb 2 ∷ Issue Next ∷ Execute 1 ∷ Send 1 ∷ Exit ∷ [])
    (record (opened two_jump_units two_turns) {
      cells =
          stage_with (done (issued_instruction 0x10004 jump_by_8 None None None) 0x1000c) ∷ empty_cell ∷
          stage_with (issued_instruction 0x10000 branch_by_16 None None None) ∷ replicate 5 empty_cell;
      fetch = Running 0x1000c;
    })
unfolding on_literals
younger_turn_first = ends refl refl

-- and the older branch turns it again, and kills the jump.
pub older_turn_wins : EndsIn two_jump_units two_turns
    (Issue Next ∷ Climb 1 ∷ Climb 2 ∷ Issue Next ∷ Execute 1 ∷ Send 1 ∷ Exit ∷ Execute 3 ∷ Send 3 ∷ Fall 3 ∷ Fall 2 ∷ Meet 1 ∷ Exit ∷ [])
    (record (opened two_jump_units two_turns) {
      cells =
          stage_with (record (done (issued_instruction 0x10004 jump_by_8 None None None) 0x1000c) { dead = true }) ∷ empty_cell ∷
          stage_with (done (issued_instruction 0x10000 branch_by_16 None None None) 0x10010) ∷ replicate 5 empty_cell;
      fetch = Running 0x10010;
    })
unfolding on_literals
older_turn_wins = ends refl refl
