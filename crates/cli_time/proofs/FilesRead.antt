-- The files that `time` reads.
use Rattle.std.proofs.Common.{◌+◌, ℕ, List, [], ◌∷◌, ◌++◌, Option, Some, None, inl, inr}
use Rattle.cf_timed.specs.declared.span.Span.{Span}
use Rattle.cf_io.specs.Reads.{FilesSeen}
use Rattle.rv_machine.specs.Hart.{Hart}
use Rattle.rv_machine.specs.Machine.{Machine}
use Rattle.cf_layout.specs.Layout.{Plan}
use Rattle.cli_arguments.specs.Arguments.{NamedLayout}
use Rattle.cli_files.specs.Reads.{layout_files, files_of_layouts, input_files, WereRead}
use Rattle.cli_files.specs.declared.status.Status.{Status}
use Rattle.cli_files.proofs.Reading.{AllRead, none-read, one-read, more-read, were-all, were-before, were-after, were-lacking, layout-read}
use Rattle.cli_files.proofs.Reading.{layout-lacking, program-read, program-lacking}
use Rattle.cli_time.specs.Asked.{TimeAsked, TimeFiles}
use Rattle.cf_timed.specs.Limits.{most_delays}
use Rattle.cli_time.specs.DelayFiles.{IsDelaysAt, LacksDelays}
use Rattle.cli_time.specs.LayoutFiles.{AreLayoutsAt, LacksLayouts}
use Rattle.cli_time.specs.InputFiles.{IsInput, LacksInput, LacksTimeInput, most_input}
use Rattle.cli_time.specs.Reading.{DelaysAndLayoutsRead, TimeFilesRead, LacksTimeFile}
use Rattle.cli_time.specs.Times.{ReadsTimeFiles, AnswersTime, BreaksTime}

-- the delays
delays-read : (name : List ℕ) (a b : Option FilesSeen) (delays : List Span) → IsDelaysAt name a b delays → AllRead (name ∷ []) a b
delays-read name a b delays d = one-read (most_delays + 1) a b name d.text d.front

delays-lacking : (name : List ℕ) (a b : Option FilesSeen) (answer : Status) (report : List ℕ) →
    LacksDelays name a b answer report → WereRead (name ∷ []) a b
delays-lacking name a b answer report (inl r) = were-all (name ∷ []) a b (one-read (most_delays + 1) a b name r.text r.front)
delays-lacking name a b answer report (inr r) = were-lacking _ _ name a b answer report r

-- the layouts
layouts-read : (arguments : List NamedLayout) (a b : Option FilesSeen) (plans : List Plan) → AreLayoutsAt arguments a b plans →
    AllRead (files_of_layouts arguments) a b
layouts-read [] a b [] same = none-read a b same
layouts-read [] a b (plan ∷ plans) h = absurd h
layouts-read (argument ∷ arguments) a b [] h = absurd h
layouts-read (argument ∷ arguments) a b (plan ∷ plans) (between, first, more) =
    more-read (layout_files argument) (files_of_layouts arguments) a between b (layout-read argument a between plan first)
    (layouts-read arguments between b plans more)

layouts-lacking : (arguments : List NamedLayout) (a b : Option FilesSeen) (answer : Status) (report : List ℕ) →
    LacksLayouts arguments a b answer report → WereRead (files_of_layouts arguments) a b
layouts-lacking [] a b answer report h = absurd h
layouts-lacking (argument ∷ arguments) a b answer report (inl h) =
    were-before (layout_files argument) (files_of_layouts arguments) a b (layout-lacking argument a b answer report h)
layouts-lacking (argument ∷ arguments) a b answer report (inr (inl (plan, first, (is, reports)))) =
    were-before (layout_files argument) (files_of_layouts arguments) a b (were-all (layout_files argument) a b (layout-read argument a b plan first))
layouts-lacking (argument ∷ arguments) a b answer report (inr (inr (between, plan, first, h))) =
    were-after (layout_files argument) (files_of_layouts arguments) a between b (layout-read argument a between plan first)
    (layouts-lacking arguments between b answer report h)

-- all of them
abbrev laid_files : TimeFiles → List (List ℕ)
laid_files asked = (asked.delays ∷ []) ++ files_of_layouts asked.layouts

abbrev pub time_files : TimeFiles → List (List ℕ)
time_files asked = laid_files asked ++ asked.program ∷ []

laid-read : (asked : TimeFiles) (a b : Option FilesSeen) (delays : List Span) (plans : List Plan) →
    DelaysAndLayoutsRead asked.delays asked.layouts a b delays plans → AllRead (laid_files asked) a b
laid-read asked a b delays plans l =
    more-read (asked.delays ∷ []) (files_of_layouts asked.layouts) a l.between b (delays-read asked.delays a l.between delays l.delays_at)
    (layouts-read asked.layouts l.between b plans l.layouts)

ready-read : (asked : TimeFiles) (a b : Option FilesSeen) (delays : List Span) (plans : List Plan) (hart : Hart) →
    TimeFilesRead asked a b delays plans hart → AllRead (time_files asked) a b
ready-read asked a b delays plans hart r =
    more-read (laid_files asked) (asked.program ∷ []) a r.between b (laid-read asked a r.between delays plans r.laid)
    (program-read asked.program r.between b hart r.program)

file-lacking : (asked : TimeFiles) (a b : Option FilesSeen) (answer : Status) (report : List ℕ) →
    LacksTimeFile asked a b answer report → WereRead (time_files asked) a b
file-lacking asked a b answer report (inl h) =
    were-before (laid_files asked) (asked.program ∷ []) a b
    (were-before (asked.delays ∷ []) (files_of_layouts asked.layouts) a b (delays-lacking asked.delays a b answer report h))
file-lacking asked a b answer report (inr (inl h)) =
    were-before (laid_files asked) (asked.program ∷ []) a b
    (were-after (asked.delays ∷ []) (files_of_layouts asked.layouts) a h.between b
    (delays-read asked.delays a h.between h.delays h.delays_at) (layouts-lacking asked.layouts h.between b answer report h.lacks))
file-lacking asked a b answer report (inr (inr h)) =
    were-after (laid_files asked) (asked.program ∷ []) a h.between b (laid-read asked a h.between h.delays h.plans h.laid)
    (program-lacking asked.program h.between b answer report h.lacks)

-- and the input
abbrev pub all_files : TimeAsked → List (List ℕ)
all_files asked = time_files asked.files ++ input_files asked.input

input-read : (named : Option (List ℕ)) (a b : Option FilesSeen) (bytes : List ℕ) → IsInput named a b bytes → AllRead (input_files named) a b
input-read None a b bytes h = none-read a b h.1
input-read (Some name) a b bytes h = one-read (most_input + 1) a b name bytes h.front

input-lacking : (named : Option (List ℕ)) (a b : Option FilesSeen) (answer : Status) (report : List ℕ) →
    LacksInput named a b answer report → WereRead (input_files named) a b
input-lacking None a b answer report h = absurd h
input-lacking (Some name) a b answer report (inl r) = were-all (name ∷ []) a b (one-read (most_input + 1) a b name r.bytes r.front)
input-lacking (Some name) a b answer report (inr r) = were-lacking _ _ name a b answer report r

files-read : (Comes : List Span → List Plan → Machine → Type 0) (asked : TimeAsked) (a b : Option FilesSeen) →
    ReadsTimeFiles Comes asked.files asked.input a b → WereRead (all_files asked) a b
files-read Comes asked a b r =
    were-all (all_files asked) a b
    (more-read (time_files asked.files) (input_files asked.input) a r.ready.between b
    (ready-read asked.files a r.ready.between r.delays r.plans r.hart r.ready.read)
    (input-read asked.input r.ready.between b r.bytes r.ready.input_is))

all-lacking : (asked : TimeAsked) (a b : Option FilesSeen) (answer : Status) (report : List ℕ) →
    LacksTimeInput asked.files asked.input a b answer report → WereRead (all_files asked) a b
all-lacking asked a b answer report (inl h) =
    were-before (time_files asked.files) (input_files asked.input) a b (file-lacking asked.files a b answer report h)
all-lacking asked a b answer report (inr h) =
    were-after (time_files asked.files) (input_files asked.input) a h.between b
    (ready-read asked.files a h.between h.delays h.plans h.hart h.read) (input-lacking asked.input h.between b answer report h.lacks)

pub timed-read : (asked : TimeAsked) (a b : Option FilesSeen) (answer : Status) (report : List ℕ) →
    AnswersTime asked a b answer report → WereRead (all_files asked) a b
timed-read asked a b answer report (inl r) = files-read _ asked a b r
timed-read asked a b answer report (inr h) = all-lacking asked a b answer report h

pub broken-read : (asked : TimeAsked) (a b : Option FilesSeen) (blank full : Option (List ℕ)) →
    BreaksTime asked a b blank full → WereRead (all_files asked) a b
broken-read asked a b blank full r = files-read _ asked a b r
