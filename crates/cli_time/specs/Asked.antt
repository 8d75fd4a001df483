-- What the arguments ask of `time`.
use Rattle.std.specs.Prelude.{ℕ, List, Option, codes}
use Rattle.cli_time.specs.declared.choices.RunChoices.{RunChoices}
use Rattle.cli_arguments.specs.Arguments.{NamedLayout, TimeChoices, plain, in_file}

-- the files with the delays and with the program, and the layouts in their order
pub record TimeFiles : Type 0 where
  pub delays : List ℕ
  pub program : List ℕ
  pub layouts : List NamedLayout

-- what is read, the file with the program's input, if one is named, and how each run is made
pub record TimeAsked : Type 0 where
  pub files : TimeFiles
  pub input : Option (List ℕ)
  pub options : RunChoices

abbrev pub files_asked : List ℕ → List ℕ → List NamedLayout → TimeFiles
files_asked delays program layouts = record { delays = delays; program = program; layouts = layouts }

-- how the runs are made, by what the arguments ask for
unfoldable pub choices_by : TimeChoices → RunChoices
choices_by options = record {
  limit = options.limit;
  rule = options.rule;
  seed = options.seed;
  show = options.show;
}

abbrev pub time_asked : List ℕ → List ℕ → List NamedLayout → TimeChoices → TimeAsked
time_asked delays program layouts options = record {
  files = files_asked delays program layouts;
  input = options.input;
  options = choices_by options;
}

-- the argument that names a layout
unfoldable pub layout_name : NamedLayout → List ℕ
layout_name plain = codes "plain"
layout_name (in_file name) = name
