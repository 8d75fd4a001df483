use Rattle.std.proofs.Common.{◌≡◌, ◌+◌, ◌-◌, ◌*◌, ◌++◌}
use Rattle.std.specs.List.{flat_map, range_with_len}
use Rattle.cf_gen.specs.Draws.{state_after_draws}
use Rattle.cf_gen.specs.Program.{numbered_statement, closing_text, program_text}
use Rattle.cf_io.proofs.Owing.{Owes}
use Rattle.cf_gen.proofs.program.generate.Given as goal

-- the statements from this one on and what follows them are still owed, and no fault was counted
abbrev pub invariant-loop-i : goal.invariant-loop-i
invariant-loop-i g l = record {
  owes : Owes (g.K.Sink.written l.fn.out) (g.K.Sink.written l.out)
      (flat_map (numbered_statement l.number) (range_with_len l.i (l.number + 1 - l.i)) ++ closing_text l.number)
      (program_text l.number);
  state : l.draws ≡ state_after_draws (8 + 5 * (l.i - 1)) l.number;
  still : g.K.Sink.faults l.out ≡ g.K.Sink.faults l.fn.out;
}
