-- Which files the arguments name, in the order in which they are read.
use Rattle.std.specs.Prelude.{ℕ, List, [], ◌∷◌, ◌++◌, Result, Ok, Err}
use Rattle.cli_arguments.specs.Arguments.{Asked, machine, run, moves, rounds, orders, conform, debug, time, audit, check, asm, listing, gen, help, version, help_on}
use Rattle.cli_files.specs.Reads.{layout_files, files_of_layouts, input_files, script_files}

-- the layout, unless it is built in, the program, and the script or the trace if there is one; the delays, the layouts,
-- the program, and its input if a file is named for it; the single file of a command that names no other
abbrev pub files_of : Asked → List (List ℕ)
files_of (machine program limit retired mul every) = program ∷ []
files_of (run layout program schedule limit reporting) = (layout_files layout ++ program ∷ []) ++ script_files schedule
files_of (moves layout program schedule limit every) = (layout_files layout ++ program ∷ []) ++ script_files schedule
files_of (rounds layout program limit every rule) = layout_files layout ++ program ∷ []
files_of (conform layout program limit) = layout_files layout ++ program ∷ []
files_of (debug layout program) = layout_files layout ++ program ∷ []
files_of (time delays program layouts chosen) =
    (((delays ∷ []) ++ files_of_layouts layouts) ++ program ∷ []) ++ input_files chosen.input
files_of (orders layout program chosen) = layout_files layout ++ program ∷ []
files_of (audit layout program trace) = (layout_files layout ++ program ∷ []) ++ trace ∷ []
files_of (check layout) = layout_files layout
files_of (asm source) = source ∷ []
files_of (listing program) = program ∷ []
files_of (gen number runs) = []
files_of help = []
files_of (help_on name) = []
files_of version = []

-- refused arguments name no file
abbrev pub files_named : Result Asked ℕ → List (List ℕ)
files_named (Ok asked) = files_of asked
files_named (Err index) = []
