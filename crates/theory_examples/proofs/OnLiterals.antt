-- The definitions to unfold when computing runs on given programs.
use Rattle.std.specs.Prelude.{⊤}
use Rattle.rv_inst.specs.Accesses.{access_made, load_value, extended}
use Rattle.rv_inst.specs.Arithmetic.{op_value, is_taken, alu_value, next_pc}
use Rattle.rv_inst.specs.Decoding.{decoded_jalr, decoded_branch, decoded_load, decoded_store, decoded_imm, decoded_op, decoded_fence, decoded_system, decoded, decoded_mul, decoded_m, decoded_as}
use Rattle.rv_inst.specs.Fields.{opcode, rd_of, funct3, rs1_of, rs2_of, funct7, high12, imm_i, imm_s, imm_b, imm_u, imm_j}
use Rattle.rv_mul.specs.Products.{lower_word, upper_word, product_of}
use Rattle.rv_mul.specs.Values.{value_of}
use Rattle.mem_regions.specs.Access.{bounds_of, is_permitted, permits_at}
use Rattle.mem_regions.specs.Fetching.{fetch_at, synced}
use Rattle.mem_regions.specs.Ranges.{range_of, writable_of, can_write, load_at}
use Rattle.mem_regions.specs.Writing.{memory_with, stored}
use Rattle.rv_machine.specs.After.{after}
use Rattle.rv_machine.specs.Call.{read, write, with_break, call, asks_input, asks_output}
use Rattle.rv_machine.specs.Step.{retire, compute, access_memory, pass, synchronize, serial, execute, step_on, step}
use Rattle.cf_layout.specs.Layout.{stages_of, unit_at, serves, siding_of, launch_stage, recover_stage, cells_of, homes, has_mul, last_stage}
use Rattle.cf_bind.specs.Meeting.{meeting}
use Rattle.cf_semantics.specs.claims.Ahead.{counted}
use Rattle.cf_semantics.specs.moves.Bars.{bar}
use Rattle.cf_semantics.specs.state.Drained.{is_drained}
use Rattle.cf_semantics.specs.moves.Instructions.{kind_of, src1_of, src2_of, dst_of, target_of, is_indirect, fetched, finish_trap, free_trap, access_trap, mem_after, answer_of, serve_of, step_at}
use Rattle.cf_semantics.specs.moves.Kept.{kept, restored}
use Rattle.cf_semantics.specs.state.Layouts.{port}
use Rattle.cf_semantics.specs.moves.Moves.{moved, next}
use Rattle.cf_semantics.specs.state.Passengers.{finish, fresh}
use Rattle.cf_semantics.specs.moves.Candidates.{all_moves, candidates, held_back}
use Rattle.cf_semantics.specs.moves.Holding.{paced}
use Rattle.cf_semantics.specs.runs.Runs.{opened, IsRun, run}
use Rattle.cf_semantics.specs.claims.Weight.{most_cells, cell_weight, op_weight, weight, moves_per_issue}

unfoldable pub on_literals : ⊤
unfolding access_made load_value extended op_value is_taken alu_value next_pc decoded_jalr decoded_branch decoded_load decoded_store decoded_imm decoded_op
    decoded_fence decoded_system decoded decoded_mul decoded_m decoded_as opcode rd_of funct3 rs1_of rs2_of funct7 high12 imm_i imm_s imm_b imm_u imm_j
    lower_word upper_word product_of value_of bounds_of is_permitted permits_at fetch_at synced range_of writable_of can_write load_at memory_with stored after
    read write with_break call asks_input asks_output retire compute access_memory pass synchronize serial execute step_on step stages_of unit_at serves
    siding_of launch_stage recover_stage cells_of homes has_mul last_stage meeting counted bar is_drained kind_of src1_of src2_of dst_of target_of is_indirect
    fetched finish_trap free_trap access_trap mem_after answer_of serve_of step_at kept restored port moved next finish fresh all_moves candidates held_back
    paced opened IsRun run most_cells cell_weight op_weight weight moves_per_issue
on_literals = tt
