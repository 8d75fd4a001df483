-- The amount of an argument, from its digits and their unit.
use Rattle.std.proofs.Common.{◌≡◌, Some, None}
use Rattle.cli_arguments.specs.Values.{digits_in, number_before, unit_of}
use Rattle.cli_arguments.proofs.Scaling.{no-amount, some-amount}
use Rattle.cli_arguments.proofs.amounts.read_amount.Goals as goal

pub returns-in_err-number-clause-amount : goal.returns-in_err-number-clause-amount
returns-in_err-number-clause-amount c =
    let none : number_before (unit_of c.args.argument.now) (digits_in c.args.argument.now) ≡ None =
    cc (c.split-written.ensures.digits, c.split-written.ensures.unit, c.number.ensures.number, c.in_err-number.was) in
    let same = no-amount c.args.least c.args.most c.args.argument.now none in
    cc (c.from_residual.ensures, same)

pub returns-clause-amount : goal.returns-clause-amount
returns-clause-amount c =
    let some : number_before (unit_of c.args.argument.now) (digits_in c.args.argument.now) ≡ Some c.in_ok-number.number =
    cc (c.split-written.ensures.digits, c.split-written.ensures.unit, c.number.ensures.number, c.in_ok-number.was) in
    let same = some-amount c.args.least c.args.most c.args.argument.now c.in_ok-number.number some in
    cc (c.bounded.ensures.amount, c.split-written.ensures.unit, same)
