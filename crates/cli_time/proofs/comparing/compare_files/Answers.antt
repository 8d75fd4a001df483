use Rattle.std.proofs.Common.{inl, inr, []}
use Rattle.cf_io.proofs.Owing.{writes-nothing}
use Rattle.cli_files.specs.Image.{hart_at_start}
use Rattle.cli_time.proofs.Comparisons.{limit-chosen}
use Rattle.cli_time.proofs.LayoutLists.{arguments-length}
use Rattle.cli_time.proofs.NoStreams.{counts-file, lacks-file-says}
use Rattle.cli_time.proofs.comparing.compare_files.Goals as goal

pub compare_ready-requires-clause-limit : goal.compare_ready-requires-clause-limit
compare_ready-requires-clause-limit g c = limit-chosen _ _ c.choices_by.ensures c.requires.limit

pub compare_ready-requires-clause-arguments : goal.compare_ready-requires-clause-arguments
compare_ready-requires-clause-arguments g c =
    arguments-length c.args.layouts.now c.in-Ok.ready.layouts.items _ _ c.in-Ok.ensures.reads.gives.laid.layouts

pub returns-in-Err-clause-answers : goal.returns-in-Err-clause-answers
returns-in-Err-clause-answers g c = ([], writes-nothing _, inr (inl c.in-Err.ensures.reads.lacks))

pub returns-in-Err-clause-files : goal.returns-in-Err-clause-files
returns-in-Err-clause-files g c = counts-file _ _ _ _ _ c.in-Err.answer c.in-Err.ensures.reads.lacks c.in-Err.ensures.reads.faults

pub returns-in-Err-clause-output : goal.returns-in-Err-clause-output
returns-in-Err-clause-output g c = (lacks-file-says _ _ _ _ _ c.in-Err.ensures.reads.lacks).output

pub returns-clause-answers : goal.returns-clause-answers
returns-clause-answers g c = (
  [],
  writes-nothing _,
  inr (inr (record {
    delays = c.in-Ok.ready.delays;
    plans = c.in-Ok.ready.layouts.items;
    hart = hart_at_start c.in-Ok.ready.image.items;
    between = _;
    read = c.in-Ok.ensures.reads.gives;
    lacks = c.in-Err-input_at.ensures.refused;
  })),
)
