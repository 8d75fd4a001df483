-- The files that `audit` reads.
use Rattle.std.proofs.Common.{ℕ, List, [], ◌∷◌, ◌++◌, ◌⊎◌, ◌+◌, Option, inl, inr}
use Rattle.cf_io.specs.Reads.{FilesSeen}
use Rattle.rv_machine.specs.Hart.{Hart}
use Rattle.cf_layout.specs.Layout.{Plan}
use Rattle.cli_files.specs.Loading.{LacksLoaded}
use Rattle.cli_files.specs.Reads.{layout_files, WereRead}
use Rattle.cli_files.specs.declared.status.Status.{Status}
use Rattle.cli_files.proofs.Reading.{AllRead, one-read, more-read, were-all, were-before, were-after, were-lacking, loaded-read, loaded-lacking}
use Rattle.cli_audit.specs.Effects.{InputSide}
use Rattle.cli_audit.specs.Audit.{AuditAsked, ReadsTrace, StopsAtTrace, AnswersAudit}
use Rattle.cf_audit.specs.Limits.{most_trace}
use Rattle.cli_audit.specs.Traces.{LacksTrace}

trace-lacking : (name : List ℕ) (a b : Option FilesSeen) (answer : Status) (report : List ℕ) →
    LacksTrace name a b answer report → WereRead (name ∷ []) a b
trace-lacking name a b answer report (inl r) = were-all (name ∷ []) a b (one-read (most_trace + 1) a b name r.text r.front)
trace-lacking name a b answer report (inr r) = were-lacking _ _ name a b answer report r

abbrev pub audit_files : AuditAsked → List (List ℕ)
audit_files asked = (layout_files asked.layout ++ asked.program ∷ []) ++ asked.trace ∷ []

trace-read : (asked : AuditAsked) (a b : Option FilesSeen) (plan : Plan) (hart : Hart) (text : List ℕ) →
    ReadsTrace asked a b plan hart text → AllRead (audit_files asked) a b
trace-read asked a b plan hart text r =
    more-read (layout_files asked.layout ++ asked.program ∷ []) (asked.trace ∷ []) a r.between b
    (loaded-read asked.layout asked.program a r.between plan hart r.loaded)
    (one-read (most_trace + 1) r.between b asked.trace text r.traced.front)

trace-stops : (asked : AuditAsked) (a b : Option FilesSeen) (answer : Status) (report : List ℕ) →
    StopsAtTrace asked a b answer report → WereRead (audit_files asked) a b
trace-stops asked a b answer report s =
    were-after (layout_files asked.layout ++ asked.program ∷ []) (asked.trace ∷ []) a s.between b
    (loaded-read asked.layout asked.program a s.between s.plan s.hart s.loaded)
    (trace-lacking asked.trace s.between b answer report s.lacks)

pub audited-read : (asked : AuditAsked) (before after : InputSide) (answer : Status) (report : List ℕ) →
    AnswersAudit asked before after answer report → WereRead (audit_files asked) before.files after.files
audited-read asked before after answer report (inl h) =
    were-all (audit_files asked) before.files after.files (trace-read asked before.files after.files h.plan h.hart h.text h.reads)
audited-read asked before after answer report (inr h) = refused h.lacks
  where
    refused : LacksLoaded asked.layout asked.program before.files after.files answer report
        ⊎ StopsAtTrace asked before.files after.files answer report → WereRead (audit_files asked) before.files after.files
    refused (inl l) =
        were-before (layout_files asked.layout ++ asked.program ∷ []) (asked.trace ∷ []) before.files after.files
        (loaded-lacking asked.layout asked.program before.files after.files answer report l)
    refused (inr s) = trace-stops asked before.files after.files answer report s
