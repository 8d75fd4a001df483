-- In which way a list of moves is wrong, by the test of the machine that fails.
use Rattle.std.specs.Prelude.{Option, Some, None}
use Rattle.order_claims.specs.declared.wrong_kind.WrongKind.{WrongKind}
use Rattle.order_claims.specs.declared.wrong_kind.WrongKind.TheVariants as wrong
use Rattle.order_judging.specs.declared.judging.FailedTest.{FailedTest}
use Rattle.order_judging.specs.declared.judging.FailedTest.TheVariants as test

abbrev pub kind_by : FailedTest → WrongKind
kind_by test.Retired = wrong.Retired
kind_by test.Ended = wrong.Ended
kind_by test.Output = wrong.Output
kind_by test.Stuck = wrong.Stuck
kind_by test.Memory = wrong.Memory

abbrev pub wrong_kind_told : Option FailedTest → Option WrongKind
wrong_kind_told None = None
wrong_kind_told (Some test) = Some (kind_by test)
