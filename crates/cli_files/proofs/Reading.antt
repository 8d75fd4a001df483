-- Files that are read one after another.
use Rattle.std.proofs.Common.{◌≡◌, ◌<◌, ◌+◌, ◌⊎◌, ℕ, List, [], ◌∷◌, ◌++◌, length, take, Option, Some, None, refl, sym, ap, subst, ◌∙◌, inl}
use Rattle.std.proofs.Common.{inr, append-nil, append_assoc, length-append, arith}
use Rattle.std.proofs.lemmas.List.{take-append-le}
use Rattle.std.proofs.Math.Seq.{take-length, take-append-add}
use Rattle.cf_io.specs.Causes.{raised}
use Rattle.cf_io.specs.Reads.{FilesSeen, with_failed, with_read, with_unheld}
use Rattle.rv_machine.specs.Hart.{Hart}
use Rattle.cf_layout.specs.Layout.{Plan}
use Rattle.cli_arguments.specs.Options.{Schedule, by_script, by_seed, by_rule}
use Rattle.cli_arguments.specs.Arguments.{NamedLayout, plain, in_file}
use Rattle.cli_files.specs.Files.{IsFrontOf, NotesFailure, NotesUnheld, LacksBytes}
use Rattle.cli_files.specs.Image.{most_bytes}
use Rattle.layout_file.specs.Limits.{most_layout_bytes}
use Rattle.cli_files.specs.Layouts.{IsLayoutAt, LacksLayout}
use Rattle.cli_files.specs.LooseLayouts.{IsLooseLayoutAt, LacksLooseLayout}
use Rattle.cli_files.specs.Loading.{IsLoaded, IsLoadedLoosely, LacksLoaded, LacksLoadedLoosely}
use Rattle.cli_files.specs.Outside.{Outside}
use Rattle.cli_files.specs.Programs.{IsProgramAt, LacksProgram}
use Rattle.cli_files.specs.Reads.{layout_files, script_files, ReadsFirst, WereRead}
use Rattle.cli_files.specs.RunFiles.{RunAsked, RunFilesRead, LacksRunFile, ReadsRunFiles, AnswersFiles}
use Rattle.cli_files.specs.Schedules.{ReadySchedule, IsScheduled, LacksSchedule, in_script, drawn_from, in_turn}
use Rattle.run_scripts.specs.Limits.{most_script}
use Rattle.cli_files.specs.Scripts.{LacksScript}
use Rattle.cli_files.specs.declared.status.Status.{Status}
use Rattle.cli_files.specs.declared.status.Which.{Which}

-- files that expose their reads were read by exactly these names, and memory was found for each
abbrev pub AllRead : List (List ℕ) → Option FilesSeen → Option FilesSeen → Type 0
AllRead names None after = Unit {0}
AllRead names (Some told) after =
    (now : FilesSeen) × (after ≡ Some now) × (now.read ≡ told.read ++ names) × (now.unheld ≡ told.unheld)

-- nothing was read
pub none-read : (a b : Option FilesSeen) → b ≡ a → AllRead [] a b
none-read None b same = tt
none-read (Some told) b same = (told, same, sym (append-nil told.read), refl)

-- one file was read
pub one-read : (most : ℕ) (a b : Option FilesSeen) (name bytes : List ℕ) → IsFrontOf most a b name bytes → AllRead (name ∷ []) a b
one-read most None b name bytes front = tt
one-read most (Some told) b name bytes front = (with_read told name, front.3, refl, refl)

-- some files, and then others
pub more-read : (xs ys : List (List ℕ)) (a b c : Option FilesSeen) → AllRead xs a b → AllRead ys b c → AllRead (xs ++ ys) a c
more-read xs ys None b c h k = tt
more-read xs ys (Some told) b c (now, is, read, same) k =
    let rest : AllRead ys (Some now) c = subst (λ (o : Option FilesSeen). AllRead ys o c) is k in (
      rest.0,
      rest.1,
      rest.2 ∙ ap (λ (names : List (List ℕ)). names ++ ys) read ∙ append_assoc told.read xs ys,
      rest.3 ∙ same,
    )

-- all of the names were read
pub were-all : (xs : List (List ℕ)) (a b : Option FilesSeen) → AllRead xs a b → WereRead xs a b
were-all xs None b h = tt
were-all xs (Some told) b (now, is, read, same) = (
  now,
  is,
  record {
    count = length xs;
    within = omega arith;
    read = read ∙ ap (λ (names : List (List ℕ)). told.read ++ names) (sym (take-length xs));
    unheld = inl same;
  },
)

-- none of some names was read
pub were-none : (xs : List (List ℕ)) (a b : Option FilesSeen) → b ≡ a → WereRead xs a b
were-none xs None b same = tt
were-none xs (Some told) b same =
    (told, same, record { count = 0; within = omega arith; read = sym (append-nil told.read); unheld = inl refl })

-- the single name was read, but the read failed
were-failed : (a b : Option FilesSeen) (name : List ℕ) → NotesFailure a b name → WereRead (name ∷ []) a b
were-failed None b name h = tt
were-failed (Some told) b name h =
    (with_failed told name, h, record { count = 1; within = omega arith; read = refl; unheld = inl refl })

-- its read found no memory
were-unheld : (a b : Option FilesSeen) (name : List ℕ) → NotesUnheld a b → WereRead (name ∷ []) a b
were-unheld None b name h = tt
were-unheld (Some told) b name h = (
  with_unheld told,
  h,
  record { count = 0; within = omega arith; read = sym (append-nil told.read); unheld = inr (refl, omega arith) },
)

-- its read gave no bytes
pub were-lacking : (which : Which) (reported name : List ℕ) (a b : Option FilesSeen) (answer : Status) (report : List ℕ) →
    LacksBytes which reported name a b answer report → WereRead (name ∷ []) a b
were-lacking which reported name a b answer report (inl r) = were-failed a b name r.noted
were-lacking which reported name a b answer report (inr r) = were-unheld a b name r.noted

-- the count of reads without memory, after files for each of which there was some
later : (before between after size count all : ℕ) → between ≡ before →
    (after ≡ between) ⊎ ((after ≡ raised between) × (count < size)) →
    (after ≡ before) ⊎ ((after ≡ raised before) × (all + count < all + size))
later before between after size count all same (inl still) = inl (still ∙ same)
later before between after size count all same (inr (rose, fewer)) =
    inr (rose ∙ ap raised same, omega (arith, fewer))

-- all of some names, and the first of others
pub were-after : (xs ys : List (List ℕ)) (a b c : Option FilesSeen) → AllRead xs a b → WereRead ys b c → WereRead (xs ++ ys) a c
were-after xs ys None b c h k = tt
were-after xs ys (Some told) b c (now, is, read, same) k =
    let rest : WereRead ys (Some now) c = subst (λ (o : Option FilesSeen). WereRead ys o c) is k in
    let f : ReadsFirst ys now rest.0 = rest.2 in
    let size : length (xs ++ ys) ≡ length xs + length ys = length-append xs ys in (
      rest.0,
      rest.1,
      record {
        count = length xs + f.count;
        within = omega (arith, f.within, size);
        read = f.read ∙ ap (λ (names : List (List ℕ)). names ++ take f.count ys) read ∙ append_assoc told.read xs (take f.count ys)
            ∙ ap (λ (names : List (List ℕ)). told.read ++ names) (sym (take-append-add xs ys f.count));
        unheld = subst (λ (n : ℕ). (rest.0.unheld ≡ told.unheld) ⊎ ((rest.0.unheld ≡ raised told.unheld) × (length xs + f.count < n))) (sym size)
            (later told.unheld now.unheld rest.0.unheld (length ys) f.count (length xs) same f.unheld);
      },
    )

-- the first of some names are the first of more
fewer : (xs ys : List (List ℕ)) (before after : FilesSeen) → ReadsFirst xs before after → ReadsFirst (xs ++ ys) before after
fewer xs ys before after f =
    let size : length (xs ++ ys) ≡ length xs + length ys = length-append xs ys in
    record {
      count = f.count;
      within = omega (arith, f.within, size);
      read = f.read ∙ ap (λ (names : List (List ℕ)). before.read ++ names) (sym (take-append-le f.count xs ys f.within));
      unheld = more_left f.unheld;
    }
  where
    more_left : (after.unheld ≡ before.unheld) ⊎ ((after.unheld ≡ raised before.unheld) × (f.count < length xs)) →
        (after.unheld ≡ before.unheld) ⊎ ((after.unheld ≡ raised before.unheld) × (f.count < length (xs ++ ys)))
    more_left (inl still) = inl still
    more_left (inr (rose, less)) = inr (rose, omega (arith, less, length-append xs ys))

pub were-before : (xs ys : List (List ℕ)) (a b : Option FilesSeen) → WereRead xs a b → WereRead (xs ++ ys) a b
were-before xs ys None b h = tt
were-before xs ys (Some told) b (now, is, f) = (now, is, fewer xs ys told now f)

-- a layout
pub layout-read : (argument : NamedLayout) (a b : Option FilesSeen) (plan : Plan) → IsLayoutAt argument a b plan → AllRead (layout_files argument) a b
layout-read plain a b plan h = none-read a b h.1
layout-read (in_file name) a b plan (file, front, describes) = one-read (most_layout_bytes + 1) a b name file front

pub layout-lacking : (argument : NamedLayout) (a b : Option FilesSeen) (answer : Status) (report : List ℕ) →
    LacksLayout argument a b answer report → WereRead (layout_files argument) a b
layout-lacking plain a b answer report h = absurd h
layout-lacking (in_file name) a b answer report (inl r) =
    were-all (name ∷ []) a b (one-read (most_layout_bytes + 1) a b name r.file r.front)
layout-lacking (in_file name) a b answer report (inr r) = were-lacking _ _ name a b answer report r

-- a program
pub program-read : (name : List ℕ) (a b : Option FilesSeen) (hart : Hart) → IsProgramAt name a b hart → AllRead (name ∷ []) a b
program-read name a b hart p = one-read (most_bytes + 1) a b name p.image p.front

pub program-lacking : (name : List ℕ) (a b : Option FilesSeen) (answer : Status) (report : List ℕ) →
    LacksProgram name a b answer report → WereRead (name ∷ []) a b
program-lacking name a b answer report (inl r) =
    were-all (name ∷ []) a b (one-read (most_bytes + 1) a b name r.image r.front)
program-lacking name a b answer report (inr r) = were-lacking _ _ name a b answer report r

-- a layout and then a program
pub loaded-read : (argument : NamedLayout) (name : List ℕ) (a b : Option FilesSeen) (plan : Plan) (hart : Hart) →
    IsLoaded argument name a b plan hart → AllRead (layout_files argument ++ name ∷ []) a b
loaded-read argument name a b plan hart l =
    more-read (layout_files argument) (name ∷ []) a l.between b (layout-read argument a l.between plan l.laid)
    (program-read name l.between b hart l.program)

pub loaded-lacking : (argument : NamedLayout) (name : List ℕ) (a b : Option FilesSeen) (answer : Status) (report : List ℕ) →
    LacksLoaded argument name a b answer report → WereRead (layout_files argument ++ name ∷ []) a b
loaded-lacking argument name a b answer report (inl h) =
    were-before (layout_files argument) (name ∷ []) a b (layout-lacking argument a b answer report h)
loaded-lacking argument name a b answer report (inr h) =
    were-after (layout_files argument) (name ∷ []) a h.between b (layout-read argument a h.between h.plan h.laid)
    (program-lacking name h.between b answer report h.lacks)

-- the same, if the layout may break the rule on where control turns
loose-layout-read : (argument : NamedLayout) (a b : Option FilesSeen) (plan : Plan) → IsLooseLayoutAt argument a b plan → AllRead (layout_files argument) a b
loose-layout-read plain a b plan h = none-read a b h.1
loose-layout-read (in_file name) a b plan (file, front, describes) = one-read (most_layout_bytes + 1) a b name file front

loose-layout-lacking : (argument : NamedLayout) (a b : Option FilesSeen) (answer : Status) (report : List ℕ) →
    LacksLooseLayout argument a b answer report → WereRead (layout_files argument) a b
loose-layout-lacking plain a b answer report h = absurd h
loose-layout-lacking (in_file name) a b answer report (inl r) =
    were-all (name ∷ []) a b (one-read (most_layout_bytes + 1) a b name r.file r.front)
loose-layout-lacking (in_file name) a b answer report (inr r) = were-lacking _ _ name a b answer report r

pub loaded-loosely-read : (argument : NamedLayout) (name : List ℕ) (a b : Option FilesSeen) (plan : Plan) (hart : Hart) →
    IsLoadedLoosely argument name a b plan hart → AllRead (layout_files argument ++ name ∷ []) a b
loaded-loosely-read argument name a b plan hart l =
    more-read (layout_files argument) (name ∷ []) a l.between b (loose-layout-read argument a l.between plan l.laid)
    (program-read name l.between b hart l.program)

pub loaded-loosely-lacking : (argument : NamedLayout) (name : List ℕ) (a b : Option FilesSeen) (answer : Status) (report : List ℕ) →
    LacksLoadedLoosely argument name a b answer report → WereRead (layout_files argument ++ name ∷ []) a b
loaded-loosely-lacking argument name a b answer report (inl h) =
    were-before (layout_files argument) (name ∷ []) a b (loose-layout-lacking argument a b answer report h)
loaded-loosely-lacking argument name a b answer report (inr h) =
    were-after (layout_files argument) (name ∷ []) a h.between b (loose-layout-read argument a h.between h.plan h.laid)
    (program-lacking name h.between b answer report h.lacks)

-- a script
scheduled-read : (schedule : Schedule) (a b : Option FilesSeen) (ready : ReadySchedule) → IsScheduled schedule a b ready → AllRead (script_files schedule) a b
scheduled-read (by_script file) a b (in_script text) s = one-read (most_script + 1) a b file text s.front
scheduled-read (by_script file) a b (drawn_from seed rule) s = absurd s
scheduled-read (by_script file) a b (in_turn rule) s = absurd s
scheduled-read (by_seed seed rule) a b ready s = none-read a b s.1
scheduled-read (by_rule rule) a b ready s = none-read a b s.1

script-lacking : (name : List ℕ) (a b : Option FilesSeen) (answer : Status) (report : List ℕ) →
    LacksScript name a b answer report → WereRead (name ∷ []) a b
script-lacking name a b answer report (inl r) =
    were-all (name ∷ []) a b (one-read (most_script + 1) a b name r.text r.front)
script-lacking name a b answer report (inr r) = were-lacking _ _ name a b answer report r

schedule-lacking : (schedule : Schedule) (a b : Option FilesSeen) (answer : Status) (report : List ℕ) →
    LacksSchedule schedule a b answer report → WereRead (script_files schedule) a b
schedule-lacking schedule a b answer report s =
    subst (λ (q : Schedule). WereRead (script_files q) a b) (sym s.asks) (script-lacking s.file a b answer report s.lacks)

-- the files of a run
abbrev pub run_files : RunAsked → List (List ℕ)
run_files asked = (layout_files asked.layout ++ asked.program ∷ []) ++ script_files asked.schedule

ready-read : (asked : RunAsked) (a b : Option FilesSeen) (plan : Plan) (hart : Hart) (schedule : ReadySchedule) →
    RunFilesRead asked a b plan hart schedule → AllRead (run_files asked) a b
ready-read asked a b plan hart schedule r =
    more-read (layout_files asked.layout ++ asked.program ∷ []) (script_files asked.schedule) a r.between b
    (loaded-read asked.layout asked.program a r.between plan hart r.loaded)
    (scheduled-read asked.schedule r.between b schedule r.scheduled)

file-lacking : (asked : RunAsked) (a b : Option FilesSeen) (answer : Status) (report : List ℕ) →
    LacksRunFile asked a b answer report → WereRead (run_files asked) a b
file-lacking asked a b answer report (inl h) =
    were-before (layout_files asked.layout ++ asked.program ∷ []) (script_files asked.schedule) a b
    (loaded-lacking asked.layout asked.program a b answer report h)
file-lacking asked a b answer report (inr h) =
    were-after (layout_files asked.layout ++ asked.program ∷ []) (script_files asked.schedule) a h.between b
    (loaded-read asked.layout asked.program a h.between h.plan h.hart h.loaded)
    (schedule-lacking asked.schedule h.between b answer report h.lacks)

pub files-read : (Comes : Plan → Hart → ReadySchedule → Type 0) (asked : RunAsked) (before after : Outside) →
    ReadsRunFiles Comes asked before after → WereRead (run_files asked) before.files after.files
files-read Comes asked before after r =
    were-all (run_files asked) before.files after.files
    (ready-read asked before.files after.files r.plan r.hart r.schedule r.ready)

pub answered-read : (Comes : Plan → Hart → ReadySchedule → Type 0) (asked : RunAsked) (before after : Outside) (answer : Status)
    (report : List ℕ) → AnswersFiles Comes asked before after answer report → WereRead (run_files asked) before.files after.files
answered-read Comes asked before after answer report (inl r) = files-read Comes asked before after r
answered-read Comes asked before after answer report (inr r) =
    file-lacking asked before.files after.files answer report r.lacks
