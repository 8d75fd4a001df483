use Rattle.std.proofs.Common.{◌≡◌, ◌-◌, ℕ, List, length, Some, None}
use Rattle.rv_machine.specs.Streams.{streams_of}
use Rattle.cf_run.specs.Moving.{RunPlace, run_place_of}
use Rattle.cf_run.specs.Reaching.{no_tally}
use Rattle.cf_audit.specs.Compared.{fresh_comparison, exposed_by_sink}
use Rattle.cf_audit.specs.Turns.{AuditRun, audit_run_of}
use Rattle.cf_audit.proofs.Coming.{Comes}
use Rattle.cf_audit.proofs.auditing.audit_groups.Given as goal

-- the groups so far agree
abbrev pub invariant-loop-stop : goal.invariant-loop-stop
invariant-loop-stop g l =
    let left = g.S.Source.left in
    let text : List ℕ = l.initial.report.text in
    let start : RunPlace = run_place_of l.initial.core (streams_of (left l.initial.input) None) (Some (exposed_by_sink (fresh_comparison text))) no_tally in
    let now : AuditRun = audit_run_of (run_place_of l.core (streams_of (left l.input) None) (Some (exposed_by_sink l.report)) l.tally) l.report in
    record {
      comes : Comes text start now;
      still : g.S.Source.faults l.input ≡ g.S.Source.faults l.initial.input;
    }

abbrev pub decreases-loop-stop : goal.decreases-loop-stop
decreases-loop-stop g l = length l.initial.report.text - l.report.agreed
