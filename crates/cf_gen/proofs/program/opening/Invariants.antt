use Rattle.std.proofs.Common.{◌≡◌, ◌+◌, ◌-◌, ◌*◌, ◌≤◌, ◌++◌, length}
use Rattle.std.specs.List.{flat_map, range_with_len}
use Rattle.cf_gen.specs.Draws.{state_after_draws}
use Rattle.cf_gen.specs.Program.{load_line, opening_text}
use Rattle.cf_gen.proofs.program.opening.Given as goal

-- the page and the registers that are left make the whole text
abbrev pub invariant-loop-register : goal.invariant-loop-register
invariant-loop-register l = record {
  text : l.page ++ flat_map (load_line l.initial.draws) (range_with_len l.register (16 - l.register)) ≡ opening_text l.initial.draws;
  state : l.draws ≡ state_after_draws (l.register - 8) l.initial.draws;
  size : length l.page ≤ 60 + 52 * (l.register - 8);
}
