use Rattle.std.proofs.Common.{arith}
use Rattle.rv_machine.proofs.Steps.{retire-none, retire-again}
use Rattle.rv_machine.proofs.machine.Machine.run_alone.Goals as goal

pub loop-self-init : goal.loop-self-init
loop-self-init c = record {
  goes = retire-none c.args.self.now c.args.self.now.retired;
  onward = omega arith;
  within = c.requires.within;
  window = rw (← c.self.view_is) c.window-window.ensures;
}

pub returns-then-not-run_block-clause-goes : goal.returns-then-not-run_block-clause-goes
returns-then-not-run_block-clause-goes c =
    let i = c.loop-self.invariant in
    retire-again c.args.self.now c.loop-self.self c.run_block.new.self _ _ _ i.onward c.run_block.ensures.onward i.goes c.run_block.ensures.goes

pub loop-self-preserved : goal.loop-self-preserved
loop-self-preserved c =
    let i = c.loop-self.invariant in record {
      goes = retire-again c.args.self.now c.loop-self.self c.run_block.new.self _ _ _ i.onward c.run_block.ensures.onward i.goes c.run_block.ensures.goes;
      onward = omega (arith, i.onward, c.run_block.ensures.onward);
      within = c.run_block.ensures.within;
      window = c.run_block.ensures.window;
    }
