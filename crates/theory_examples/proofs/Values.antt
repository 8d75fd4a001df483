-- Worked runs: instructions that execute and retire, and results that are met on the way.
use Rattle.std.specs.Prelude.{◌≡◌, [], ◌∷◌, Some, None, true, refl, slice_set, pos}
use Rattle.rv_inst.specs.declared.instruction.Instr.{Instr}
use Rattle.rv_inst.specs.declared.instruction.Instr.TheVariants as instr
use Rattle.rv_inst.specs.declared.instruction.ImmOp.TheVariants as imm_op
use Rattle.rv_machine.specs.Machine.{Machine, start_regs}
use Rattle.cf_bind.specs.declared.packet.Fetch.TheVariants.{Running, Waiting}
use Rattle.cf_bind.specs.declared.packet.Packet.TheVariants.{Value}
use Rattle.cf_bind.specs.declared.passenger.Guess.TheVariants.{Next}
use Rattle.cf_bind.specs.declared.passenger.End.TheVariants as ending
use Rattle.cf_bind.specs.declared.moves.Move.TheVariants.{Issue, Emit, Climb, Fall, Meet, Execute, Send, Leave, Exit, Serve}
use Rattle.cf_bind.specs.declared.moves.Bar.TheVariants as bar
use Rattle.cf_semantics.specs.moves.Moves.{moved}
use Rattle.cf_semantics.specs.runs.Runs.{opened, empty_cell}
use Rattle.cf_semantics.specs.moves.Kept.{kept, restored}
use Rattle.cf_semantics.specs.claims.Weight.{weight}
use Rattle.theory_examples.specs.Samples.{tiny, sample, unknown_register, known_register, issued_instruction, done, stage_with, full, complete}
use Rattle.theory_examples.specs.Follows.{EndsIn, IsBarred, after_moves}
use Rattle.theory_examples.proofs.Allowed.{ends, barred}
use Rattle.theory_examples.proofs.OnLiterals.{on_literals}

-- addi x10, x0, 7; addi x17, x0, 93; ecall
abbrev pub seven : Machine
seven = sample (0x13 ∷ 0x05 ∷ 0x70 ∷ 0x00 ∷ 0x93 ∷ 0x08 ∷ 0xd0 ∷ 0x05 ∷ 0x73 ∷ 0x00 ∷ 0x00 ∷ 0x00 ∷ [])

abbrev pub put_seven : Instr
put_seven = instr.OpImm imm_op.Add 10 0 (pos 7)

-- The first instruction executes and sends its result: it stays in stage 1, beside the result.
pub executed_and_sent : EndsIn tiny seven
    (Issue Next ∷ Execute 1 ∷ Send 1 ∷ [])
    (record (opened tiny seven) {
      cells = complete (done (issued_instruction 0x10000 put_seven None None (known_register 10 7)) 0x10004) (Value 10 7) ∷ empty_cell ∷ [];
      fetch = Running 0x10004;
    })
unfolding on_literals
executed_and_sent = ends refl refl

-- Sixteen moves take the program to its end: two instructions retire, and the call exits with 7.
pub exits_with_seven : EndsIn tiny seven
    (Issue Next ∷ Execute 1 ∷ Send 1 ∷ Exit ∷ Climb 1 ∷ Leave ∷ Issue Next ∷ Execute 1 ∷ Send 1 ∷ Exit ∷ Climb 1 ∷ Leave ∷ Issue Next ∷ Climb 1 ∷ Serve ∷ Leave
    ∷ [])
    (record (opened tiny seven) { fetch = Waiting; regs = slice_set (slice_set start_regs 10 7) 17 93; retired = 2; ending = Some (ending.Exit 7) })
unfolding on_literals
exits_with_seven = ends refl refl

-- addi x1, x1, 1, twice
abbrev pub counting : Machine
counting = sample (0x93 ∷ 0x80 ∷ 0x10 ∷ 0x00 ∷ 0x93 ∷ 0x80 ∷ 0x10 ∷ 0x00 ∷ [])

abbrev pub count_on : Instr
count_on = instr.OpImm imm_op.Add 1 1 (pos 1)

-- The first meeting garners and kills; the second updates the result with the new value; the third garners that value,
-- and kills.
pub three_meetings : EndsIn tiny counting
    (Issue Next ∷ Climb 1 ∷ Issue Next ∷ Emit ∷ Meet 2 ∷ Emit ∷ Execute 2 ∷ Meet 2 ∷ Fall 2 ∷ Meet 1 ∷ [])
    (record (opened tiny counting) {
      cells =
          stage_with (issued_instruction 0x10004 count_on (known_register 1 1) None (unknown_register 1)) ∷
          stage_with (record (done (issued_instruction 0x10000 count_on (known_register 1 0) None (known_register 1 1)) 0x10004) { owes = Some (Value 1 1) }) ∷
          [];
      fetch = Running 0x10008;
    })
unfolding on_literals
three_meetings = ends refl refl

-- addi x5, x10, 1
abbrev pub asking : Machine
asking = sample (0x93 ∷ 0x02 ∷ 0x15 ∷ 0x00 ∷ [])

abbrev pub add_one : Instr
add_one = instr.OpImm imm_op.Add 5 10 (pos 1)

-- The register file sends the requested value down the pipe, where it finds the instruction that requested it.
pub asked_and_sent_down : EndsIn tiny asking
    (Issue Next ∷ Climb 1 ∷ Emit ∷ [])
    (record (opened tiny asking) {
      cells = empty_cell ∷ full (issued_instruction 0x10000 add_one (unknown_register 10) None (unknown_register 5)) (Value 10 0) ∷ [];
      fetch = Running 0x10004;
    })
unfolding on_literals
asked_and_sent_down = ends refl refl

-- An instruction beside a result cannot leave before the two have met,
pub leaves_only_when_met : IsBarred tiny asking
    (Issue Next ∷ Climb 1 ∷ Emit ∷ [])
    (Leave) (bar.NotMet)
unfolding on_literals
leaves_only_when_met = barred refl refl

-- and cannot execute while a source is unknown.
pub executes_only_with_values : IsBarred tiny asking
    (Issue Next ∷ Climb 1 ∷ Emit ∷ [])
    (Execute 2) (bar.SourceMissing 10)
unfolding on_literals
executes_only_with_values = barred refl refl

-- once the first instruction is issued, at most 11 moves are left without another Issue
pub eleven_moves_at_most : weight tiny (after_moves tiny seven (Issue Next ∷ [])) ≡ 11
unfolding on_literals
eleven_moves_at_most = refl

-- and none at the start
pub nothing_to_do : weight tiny (opened tiny seven) ≡ 0
unfolding on_literals
nothing_to_do = refl

-- an Issue is taken back by what was kept of the state before it
pub issue_taken_back : restored (moved tiny (opened tiny seven) (Issue Next)) (kept tiny (opened tiny seven) (Issue Next)) ≡ opened tiny seven
unfolding on_literals
issue_taken_back = refl

-- mul x5, x6, x7
abbrev pub multiplying : Machine
multiplying = sample (0xb3 ∷ 0x02 ∷ 0x73 ∷ 0x02 ∷ [])

-- If the layout does not multiply, the word is not an instruction: it traps when it is issued.
pub no_multiplication : EndsIn tiny multiplying
    (Issue Next ∷ [])
    (record (opened tiny multiplying) {
      cells = stage_with (record (issued_instruction 0x10000 put_seven None None None)
          { what = None; done = true; ending = Some (ending.Trap 2 0x10000 0x027302b3) })
          ∷ empty_cell ∷ [];
      fetch = Waiting;
    })
unfolding on_literals
no_multiplication = ends refl refl
