-- The first test that holds for the machine's place is the first for the machine.
use Rattle.order_judging.proofs.Judged.{move_result}
use Rattle.order_judging.proofs.judging.judge_move.Goals as goal

pub returns-clause-judged : goal.returns-clause-judged
returns-clause-judged c =
    move_result c.args.setting.image.now c.args.setting.away c.args.setting.layout.now c.args.place.now c.args.from.situation.now c.args.mem.now c.args.m
    c.args.after.situation.now c.args.after.changes.now c.first_of_move.result c.memory.ensures.loaded c.requires.after c.requires.after_changes
    c.first_of_move.ensures.first
