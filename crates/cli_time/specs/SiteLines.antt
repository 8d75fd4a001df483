-- The lines of `--show sites`: what the time of a run is made of (a format of this project).
use Rattle.std.specs.Prelude.{ℕ, List, [], ◌++◌, codes, decimal, length, reverse, slice_get, unwrap_or, Bool, nat_lt, Option, Some, None, if◌then◌else◌}
use Rattle.std.specs.List.{filter, flat_map, zip}
use Rattle.rv_inst.specs.declared.classes.Class.{Class}
use Rattle.rv_inst.specs.declared.classes.Class.TheVariants.{Free}
use Rattle.cf_semantics.specs.moves.Candidates.{counted_from}
use Rattle.layout_file.specs.Names.{class_name}
use Rattle.run_scripts.specs.Kinds.{names}
use Rattle.texts.specs.Lines.{counted_line, line}
use Rattle.cf_timed.specs.Numbers.{number_at}
use Rattle.run_ledger.specs.Latencies.{classes}
use Rattle.run_ledger.specs.declared.breakdown.Breakdown.{Breakdown}

-- a place by its name and number, and how long it was in use
unfoldable pub busy_line : List ℕ → ℕ → ℕ → List ℕ
busy_line name number ticks = name ++ decimal number ++ counted_line (codes " busy ") ticks

-- a stage by its number, and how long it was in use, waited and was empty
unfoldable pub use_line : ℕ → ℕ → ℕ → ℕ → List ℕ
use_line number busy waiting empty =
    codes "stage " ++ decimal number ++ codes " busy " ++ decimal busy ++ codes " waiting " ++ decimal waiting ++ counted_line (codes " empty ") empty

-- a stage
abbrev pub stage_use_line : Breakdown → ℕ → List ℕ
stage_use_line made i = use_line i (number_at made.stages i) (number_at made.waiting i) (number_at made.empty i)

-- a siding
abbrev pub siding_use_line : Breakdown → ℕ → List ℕ
siding_use_line made k = busy_line (codes "siding ") k (number_at made.sidings k)

-- the numbers of the stages, the highest first
abbrev pub falling_stages : Breakdown → List ℕ
falling_stages made = reverse (counted_from 1 made.layout.stages)

-- the numbers of the sidings
abbrev pub siding_numbers : Breakdown → List ℕ
siding_numbers made = counted_from 0 (length made.layout.sidings)

-- a kind of move by its name, and how many there are
abbrev pub KindCount : Type 0
KindCount = List ℕ × ℕ

-- there are moves of the kind
abbrev pub is_made : KindCount → Bool
is_made (name, number) = nat_lt 0 number

-- both, after a space
abbrev pub count_text : KindCount → List ℕ
count_text (name, number) = codes " " ++ name ++ codes "=" ++ decimal number

-- the kinds of which there are moves
unfoldable pub counts_text : List KindCount → List ℕ
counts_text counts = flat_map count_text (filter is_made counts)

-- how many moves of each kind there are, in the order of the kinds
unfoldable pub kinds_line : List ℕ → List ℕ → List ℕ
kinds_line name numbers = line (name ++ counts_text (zip names numbers))

-- a class by its name, how many instructions of it retired, and how many ticks these took
unfoldable pub latency_line : List ℕ → ℕ → ℕ → List ℕ
latency_line name retired ticks = name ++ codes " retired " ++ decimal retired ++ codes " ticks " ++ line (decimal ticks)

-- that line, if an instruction of the class retired
unfoldable pub latency_text : List ℕ → ℕ → ℕ → List ℕ
latency_text name retired ticks = if nat_lt 0 retired then latency_line name retired ticks else []

-- the class at an index in class order
unfoldable pub class_of_place : ℕ → Class
class_of_place place = unwrap_or (slice_get classes place) Free

-- the line of the class there, if an instruction of it retired
abbrev pub class_line : Breakdown → ℕ → List ℕ
class_line made place = latency_text (class_name (class_of_place place)) (number_at made.retired place) (number_at made.latencies place)

-- those of all classes
unfoldable pub classes_text : Breakdown → List ℕ
classes_text made = flat_map (class_line made) (counted_from 0 (length classes))

-- each stage, each siding, the moves of the run, the classes of the instructions that retired, and the moves of a longest
-- chain
unfoldable pub breakdown_text : Breakdown → List ℕ
breakdown_text made =
    flat_map (stage_use_line made) (falling_stages made) ++ flat_map (siding_use_line made) (siding_numbers made)
    ++ kinds_line (codes "moves") made.moves ++ classes_text made ++ kinds_line (codes "chain") made.chain

-- nothing if it is not shown
unfoldable pub sites_text : Option Breakdown → List ℕ
sites_text None = []
sites_text (Some made) = breakdown_text made
