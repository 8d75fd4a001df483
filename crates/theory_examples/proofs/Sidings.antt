-- Worked runs: operations beside the pipe, and memory at the end of one.
use Rattle.std.specs.Prelude.{[], ◌∷◌, Some, None, true, refl, replicate, pos}
use Rattle.rv_inst.specs.declared.instruction.Instr.{Instr}
use Rattle.rv_inst.specs.declared.instruction.Instr.TheVariants as instr
use Rattle.rv_inst.specs.declared.instruction.ImmOp.TheVariants as imm_op
use Rattle.rv_inst.specs.declared.instruction.Cond.TheVariants as cond
use Rattle.rv_inst.specs.declared.instruction.LoadKind.TheVariants as load
use Rattle.rv_machine.specs.Machine.{Machine}
use Rattle.cf_bind.specs.declared.packet.Fetch.TheVariants.{Running}
use Rattle.cf_bind.specs.declared.packet.Packet.TheVariants.{Value, Turn}
use Rattle.cf_bind.specs.declared.passenger.Guess.TheVariants.{Next}
use Rattle.cf_bind.specs.declared.moves.Move.TheVariants.{Issue, Emit, Climb, Fall, Meet, Execute, Send, Launch, Access, Recover, Exit}
use Rattle.cf_bind.specs.declared.moves.Bar.TheVariants as bar
use Rattle.cf_semantics.specs.runs.Runs.{opened, empty_cell}
use Rattle.theory_examples.specs.Samples.{tiny, shifts_aside, sample, unknown_register, known_register, issued_instruction, done, stage_with, carries, complete}
use Rattle.theory_examples.specs.Follows.{EndsIn, IsBarred}
use Rattle.theory_examples.proofs.Allowed.{ends, barred}
use Rattle.theory_examples.proofs.OnLiterals.{on_literals}

-- lw x1, 0(x2)
abbrev pub loading : Machine
loading = sample (0x83 ∷ 0x20 ∷ 0x01 ∷ 0x00 ∷ [])

abbrev pub load_x1 : Instr
load_x1 = instr.Load load.Word 1 2 (pos 0)

-- A load is launched with its address, memory answers it, and it recovers its value and sends it.
pub load_comes_back : EndsIn tiny loading
    (Issue Next ∷ Emit ∷ Fall 2 ∷ Meet 1 ∷ Exit ∷ Launch 1 ∷ Climb 1 ∷ Access ∷ Recover 2 ∷ Send 2 ∷ [])
    (record (opened tiny loading) {
      cells =
          empty_cell ∷
          complete (record (done (issued_instruction 0x10000 load_x1 (known_register 2 0x7f0ffff0) None (known_register 1 0)) 0x10004)
          { launched = true; recovered = true }) (Value 1 0)
          ∷ [];
      fetch = Running 0x10004;
    })
unfolding on_literals
load_comes_back = ends refl refl

-- It cannot recover before memory has answered.
pub recovers_only_what_is_answered : IsBarred tiny loading
    (Issue Next ∷ Emit ∷ Fall 2 ∷ Meet 1 ∷ Exit ∷ Launch 1 ∷ Climb 1 ∷ [])
    (Recover 2) (bar.NotDone)
unfolding on_literals
recovers_only_what_is_answered = barred refl refl

-- beq x0, x0, 8; slli x1, x0, 1
abbrev pub skipping_a_shift : Machine
skipping_a_shift = sample (0x63 ∷ 0x04 ∷ 0x00 ∷ 0x00 ∷ 0x93 ∷ 0x10 ∷ 0x10 ∷ 0x00 ∷ [])

abbrev pub branch_by_8 : Instr
branch_by_8 = instr.Branch cond.Eq 0 0 (pos 8)

abbrev pub shift_x1 : Instr
shift_x1 = instr.OpImm imm_op.Sll 1 0 (pos 1)

-- A shift is launched, and is killed by the turn of the branch; its operation is still in flight.
pub dead_and_launched : EndsIn shifts_aside skipping_a_shift
    (Issue Next ∷ Climb 1 ∷ Climb 2 ∷ Issue Next ∷ Launch 1 ∷ Climb 1 ∷ Execute 3 ∷ Send 3 ∷ Fall 3 ∷ Meet 2 ∷ Climb 3 ∷ Climb 2 ∷ [])
    (record (opened shifts_aside skipping_a_shift) {
      cells =
          empty_cell ∷ carries (Turn 0x10008) ∷
          stage_with (record (issued_instruction 0x10004 shift_x1 None None (unknown_register 1)) { launched = true; dead = true }) ∷
          stage_with (done (issued_instruction 0x10000 branch_by_8 None None None) 0x10008) ∷ replicate 4 empty_cell;
      sidings = (None ∷ None ∷ []) ∷ (Some (record { pc = 0x10004; instr = shift_x1; a = 0; b = 0; answer = None }) ∷ None ∷ []) ∷ [];
      fetch = Running 0x10008;
    })
unfolding on_literals
dead_and_launched = ends refl refl

-- It must recover the operation before it climbs on.
pub the_dead_recover_first : IsBarred shifts_aside skipping_a_shift
    (Issue Next ∷ Climb 1 ∷ Climb 2 ∷ Issue Next ∷ Launch 1 ∷ Climb 1 ∷ Execute 3 ∷ Send 3 ∷ Fall 3 ∷ Meet 2 ∷ Climb 3 ∷ Climb 2 ∷ [])
    (Climb 3) (bar.NotDone)
unfolding on_literals
the_dead_recover_first = barred refl refl
