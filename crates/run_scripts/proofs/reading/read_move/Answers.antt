use Rattle.run_scripts.proofs.FirstLines.{says-whole}
use Rattle.run_scripts.proofs.reading.read_move.Goals as goal

pub returns-in-Some-default-empty : goal.returns-in-Some-default-empty
returns-in-Some-default-empty c =
    let cut = c.in-Some-default-empty in
    says-whole cut.mv c.args.line.now cut.field-0-1.now cut.ensures.text cut.len_below cut.ensures.below
