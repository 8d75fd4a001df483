use Rattle.std.proofs.Common.{◌+◌, ◌-◌, ◌*◌, ◌≡◌, ◌<◌, ◌≤◌, slice_index}
use Rattle.mem_regions.specs.Access.{bounds_of}
use Rattle.mem_regions.specs.Window.{IsWindowOf}
use Rattle.rv_inst.specs.Words.{word_sum}
use Rattle.rv_machine.specs.Lines.{IsLineOf}
use Rattle.rv_machine.specs.Quick.{HasSameCode, RetireAlone}
use Rattle.rv_machine.proofs.quiet.run_line.Given as goal

-- the number of retired instructions is the number at the end of the line minus those that are left in the line
abbrev pub invariant-loop-spot : goal.invariant-loop-spot
invariant-loop-spot l = record {
  goes : RetireAlone (record { pc = l.fn.from.pc; regs = l.initial.regs; mem = l.initial.mem; retired = l.fn.from.retired })
      (l.at_end + l.spot.at - 256 - l.fn.from.retired)
      (record { pc = word_sum l.line.base (l.spot.at * 4); regs = l.regs; mem = l.mem; retired = l.at_end + l.spot.at - 256 });
  onward : l.fn.from.retired + 256 ≤ l.at_end + l.spot.at;
  within : l.at_end ≤ l.last;
  zero : slice_index l.regs 0 ≡ 0;
  code : HasSameCode l.initial.mem l.mem;
  window : IsWindowOf (bounds_of l.mem) l.window;
  line : IsLineOf l.mem l.line;
  base : l.spot.base ≡ l.line.base;
  inside : l.spot.at < 257;
}

abbrev pub decreases-loop-spot : goal.decreases-loop-spot
decreases-loop-spot l = l.last + 257 - (l.at_end + l.spot.at)
