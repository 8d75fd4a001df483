use Rattle.std.proofs.Common.{inl}
use Rattle.cli_time.proofs.reading.laid_at.Goals as goal

pub returns-in-Err : goal.returns-in-Err
returns-in-Err g c = record { gives = tt; lacks = inl c.in-Err.ensures.lacks; faults = c.in-Err.ensures.faults }
