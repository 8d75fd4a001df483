use Rattle.std.proofs.Common.{◌≡◌}
use Rattle.cf_conform.specs.LogPlaces.{LogPlace, log_place}
use Rattle.cf_conform.proofs.Turning.{LogComes}
use Rattle.cf_conform.proofs.reading_on.conform.Given as goal

-- the lines so far are processed, and no fault was counted
abbrev pub invariant-loop-lines : goal.invariant-loop-lines
invariant-loop-lines g l =
    let left = g.L.Source.left in
    let written = g.K.Sink.written in
    let start : LogPlace = log_place l.initial.core (written l.initial.output) l.initial.progress in
    let now : LogPlace = log_place l.core (written l.output) l.progress in
    record {
      comes : LogComes l.limit (left l.initial.log) (left l.log) start now l.feed.rest l.lines;
      log : g.L.Source.faults l.log ≡ g.L.Source.faults l.initial.log;
      output : g.K.Sink.faults l.output ≡ g.K.Sink.faults l.initial.output;
    }
