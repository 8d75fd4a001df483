-- Worked runs: values that are in the cache at the bottom of the pipe.
use Rattle.std.specs.Prelude.{[], ◌∷◌, Some, None, refl, replicate, slice_set, pos}
use Rattle.rv_inst.specs.declared.instruction.Instr.{Instr}
use Rattle.rv_inst.specs.declared.instruction.Instr.TheVariants as instr
use Rattle.rv_inst.specs.declared.instruction.ImmOp.TheVariants as imm_op
use Rattle.rv_machine.specs.Machine.{Machine}
use Rattle.cf_bind.specs.declared.packet.Fetch.TheVariants.{Running}
use Rattle.cf_bind.specs.declared.packet.Packet.TheVariants.{Value}
use Rattle.cf_bind.specs.declared.passenger.Guess.TheVariants.{Next, Wait}
use Rattle.cf_bind.specs.declared.moves.Move.TheVariants.{Issue, Climb, Execute, Send, Exit}
use Rattle.cf_semantics.specs.runs.Runs.{opened}
use Rattle.theory_examples.specs.Samples.{tiny_with_cache, sample, known_register, issued_instruction, done, stage_with}
use Rattle.theory_examples.specs.Follows.{EndsIn}
use Rattle.theory_examples.proofs.Allowed.{ends}
use Rattle.theory_examples.proofs.OnLiterals.{on_literals}

-- addi x1, x0, 5; addi x2, x1, 1
abbrev pub kept_value : Machine
kept_value = sample (0x93 ∷ 0x00 ∷ 0x50 ∷ 0x00 ∷ 0x13 ∷ 0x81 ∷ 0x10 ∷ 0x00 ∷ [])

abbrev pub put_five : Instr
put_five = instr.OpImm imm_op.Add 1 0 (pos 5)

abbrev pub add_one : Instr
add_one = instr.OpImm imm_op.Add 2 1 (pos 1)

-- A value that leaves at the bottom is cached there: the next instruction has it when it is issued.
pub kept_and_used : EndsIn tiny_with_cache kept_value
    (Issue Next ∷ Execute 1 ∷ Send 1 ∷ Exit ∷ Climb 1 ∷ Issue Next ∷ Execute 1 ∷ [])
    (record (opened tiny_with_cache kept_value) {
      cells =
          stage_with (record (done (issued_instruction 0x10004 add_one (known_register 1 5) None (known_register 2 6)) 0x10008) { owes = Some (Value 2 6) }) ∷
          stage_with (done (issued_instruction 0x10000 put_five None None (known_register 1 5)) 0x10004) ∷ [];
      cache = slice_set (replicate 32 None) 1 (Some 5);
      fetch = Running 0x10008;
    })
unfolding on_literals
kept_and_used = ends refl refl

-- addi x1, x0, 5; jal x0, 4
abbrev pub kept_until_a_turn : Machine
kept_until_a_turn = sample (0x93 ∷ 0x00 ∷ 0x50 ∷ 0x00 ∷ 0x6f ∷ 0x00 ∷ 0x40 ∷ 0x00 ∷ [])

abbrev pub jump_on : Instr
jump_on = instr.Jal 0 (pos 4)

-- A turn that leaves at the bottom clears the cache.
pub turn_clears : EndsIn tiny_with_cache kept_until_a_turn
    (Issue Next ∷ Execute 1 ∷ Send 1 ∷ Exit ∷ Climb 1 ∷ Issue Wait ∷ Execute 1 ∷ Send 1 ∷ Exit ∷ [])
    (record (opened tiny_with_cache kept_until_a_turn) {
      cells =
          stage_with (record (done (issued_instruction 0x10004 jump_on None None None) 0x10008) { guess = Wait }) ∷
          stage_with (done (issued_instruction 0x10000 put_five None None (known_register 1 5)) 0x10004) ∷ [];
      fetch = Running 0x10008;
    })
unfolding on_literals
turn_clears = ends refl refl
