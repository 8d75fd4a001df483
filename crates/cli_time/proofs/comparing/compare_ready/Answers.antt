use Rattle.std.proofs.Common.{inl}
use Rattle.cli_arguments.specs.Views.{layout_of}
use Rattle.cli_time.proofs.Comparisons.{times-broken, times-fewer, times-named}
use Rattle.cli_time.proofs.comparing.compare_ready.Goals as goal

pub returns-in-Err-NoMemory-clause-comes : goal.returns-in-Err-NoMemory-clause-comes
returns-in-Err-NoMemory-clause-comes g c =
    times-fewer _ _ _ _ _ _ _ _ c.no_memory.result (rw c.in-Err-NoMemory.field-0-is at c.in-Err-NoMemory.ensures.put)
    c.no_memory.ensures.status c.no_memory.ensures.closing

pub returns-in-Err-Failed-clause-comes : goal.returns-in-Err-Failed-clause-comes
returns-in-Err-Failed-clause-comes g c = inl (rw c.in-Err-Failed.field-0-is at c.in-Err-Failed.ensures.put)

pub returns-in_err-put_least-clause-comes : goal.returns-in_err-put_least-clause-comes
returns-in_err-put_least-clause-comes g c =
    times-broken _ _ _ _ _ _ _ _ _ _ _ c.first_least-least.result (layout_of c.argument_at.result) c.put_least.result _ c.from_residual.result
    c.in-Ok.ensures.put (rw c.as_slice.ensures.value at c.first_least-least.ensures) c.argument_at.ensures c.put_least.ensures
    c.in_err-put_least.was c.from_residual.ensures.0

pub returns-clause-comes : goal.returns-clause-comes
returns-clause-comes g c =
    times-named _ _ _ _ _ _ _ _ _ _ _ c.first_least-least.result (layout_of c.argument_at.result) c.put_least.result _
    c.done.result c.in-Ok.ensures.put (rw c.as_slice.ensures.value at c.first_least-least.ensures) c.argument_at.ensures
    c.put_least.ensures c.in_ok-put_least.was c.done.ensures.status c.done.ensures.closing
