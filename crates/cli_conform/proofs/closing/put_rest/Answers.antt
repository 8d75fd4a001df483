-- The counts, the registers and the picture follow one another.
use Rattle.cf_report.proofs.Puttings.{put-nothing, has-more, has-last, has-failed, failed-more}
use Rattle.report_closing.specs.Closing.{rest_text}
use Rattle.cli_conform.proofs.closing.put_rest.Goals as goal

pub returns-in_err-put_tally : goal.returns-in_err-put_tally
unfolding rest_text
returns-in_err-put_tally g c =
    let bad = c.from_residual.ensures.0 in
    failed-more _ _ bad (failed-more _ _ bad (has-failed _ c.in_err-put_tally.was bad c.put_tally.ensures))

pub returns-in_err-put_registers : goal.returns-in_err-put_registers
unfolding rest_text
returns-in_err-put_registers g c =
    let bad = c.from_residual-in_err-put_registers.ensures.0 in
    let counts = has-more c.in_ok-put_tally.was (put-nothing _ _) c.put_tally.ensures in
    failed-more _ _ bad (has-last counts (has-failed _ c.in_err-put_registers.was bad (rw c.regs.ensures.registers at c.put_registers.ensures)))

pub returns : goal.returns
unfolding rest_text
returns g c =
    let counts = has-more c.in_ok-put_tally.was (put-nothing _ _) c.put_tally.ensures in
    let regs = has-more c.in_ok-put_registers.was counts (rw c.regs.ensures.registers at c.put_registers.ensures) in
    has-last regs c.put_picture.ensures
