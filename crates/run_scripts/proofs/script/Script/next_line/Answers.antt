use Rattle.std.proofs.Common.{◌≡◌, length, rules}
use Rattle.run_scripts.proofs.Ends.{next-ended, left-ended}
use Rattle.run_scripts.proofs.script.Script.next_line.Goals as goal

pub returns-clause-next : goal.returns-clause-next
returns-clause-next c =
    let none : length c.loop-self.self-inside.rest.now ≡ 0 = search rules in
    next-ended c.loop-self.self-inside.above c.loop-self.self-inside.rest.now c.args.self.now none c.loop-self.invariant.same

pub returns-clause-left : goal.returns-clause-left
returns-clause-left c =
    let none : length c.loop-self.self-inside.rest.now ≡ 0 = search rules in
    left-ended c.loop-self.self-inside.above c.loop-self.self-inside.rest.now c.args.self.now none c.loop-self.invariant.same
