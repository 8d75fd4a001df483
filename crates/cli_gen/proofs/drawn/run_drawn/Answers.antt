use Rattle.std.proofs.Common.{refl}
use Rattle.cli_files.proofs.NoStreams.{no-cause}
use Rattle.cli_gen.proofs.DrawnRuns.{drawn-comes, drawn-refused}
use Rattle.cli_gen.proofs.drawn.run_drawn.Goals as goal

pub returns : goal.returns
returns g c = record {
  comes = drawn-comes _ c.plain.result c.in-Ok.machine _ _ _ _ _ c.plain.ensures c.in-Ok.ensures.machine c.run_ready.ensures.comes;
  faults = c.run_ready.ensures.faults;
}

pub returns-in-Err : goal.returns-in-Err
returns-in-Err g c = record {
  comes = drawn-refused _ _ _ _ _ _ _ _ c.put_answer.result c.put_answer.ensures.status
      (record { lacks = c.in-Err.ensures.lacks; streams = refl }) c.put_answer.ensures.puts;
  faults = record {
    files = rw (c.put_answer.ensures.status, c.in-Err.ensures.lacks.0) refl;
    input = rw (c.put_answer.ensures.status, c.in-Err.ensures.lacks.0) (no-cause _ _ refl);
    output = rw (c.put_answer.ensures.status, c.in-Err.ensures.lacks.0) (no-cause _ _ refl);
  };
}
