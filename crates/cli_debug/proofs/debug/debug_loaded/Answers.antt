use Rattle.std.proofs.Common.{refl}
use Rattle.cli_files.proofs.NoStreams.{no-cause}
use Rattle.cf_run.proofs.Opened.{newly-opened}
use Rattle.cli_debug.proofs.Debugging.{session-comes, session-lacking}
use Rattle.cli_debug.proofs.debug.debug_loaded.Goals as goal

pub debug_opened-requires-clause-opened : goal.debug_opened-requires-clause-opened
debug_opened-requires-clause-opened g c = newly-opened _ _ _ c.in-Ok-open.ensures

pub returns-in-Ok-open : goal.returns-in-Ok-open
returns-in-Ok-open g c = record {
  comes = session-comes _ _ _ _ _ _ _ c.debug_opened.result c.in-Ok-open.ensures c.debug_opened.ensures.comes;
  faults = c.debug_opened.ensures.faults;
}

pub returns-in_default : goal.returns-in_default
returns-in_default g c = record {
  comes = session-lacking _ _ _ _ _ _ _ _ c.put_answer.result c.put_answer.ensures.status
      (record {
        status_is = c.no_memory.ensures.status;
        reports = c.no_memory.ensures.closing;
        streams = refl;
      }) c.put_answer.ensures.puts;
  faults = record {
    files = rw (c.put_answer.ensures.status, c.no_memory.ensures.status) refl;
    input = rw (c.put_answer.ensures.status, c.no_memory.ensures.status) (no-cause _ _ refl);
    output = rw (c.put_answer.ensures.status, c.no_memory.ensures.status) (no-cause _ _ refl);
  };
}

pub returns : goal.returns
returns g c = record {
  comes = session-lacking _ _ _ _ _ _ _ _ c.put_answer-in-Err.result c.put_answer-in-Err.ensures.status
      (record {
        status_is = c.no_memory-in-Err.ensures.status;
        reports = c.no_memory-in-Err.ensures.closing;
        streams = refl;
      }) c.put_answer-in-Err.ensures.puts;
  faults = record {
    files = rw (c.put_answer-in-Err.ensures.status, c.no_memory-in-Err.ensures.status) refl;
    input = rw (c.put_answer-in-Err.ensures.status, c.no_memory-in-Err.ensures.status) (no-cause _ _ refl);
    output = rw (c.put_answer-in-Err.ensures.status, c.no_memory-in-Err.ensures.status) (no-cause _ _ refl);
  };
}
