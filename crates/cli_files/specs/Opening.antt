-- What is true of a program file that was not opened.
use Rattle.std.specs.Prelude.{List, ℕ}
use Rattle.cli_files.specs.Image.{IsProgramFile, IsRefused}
use Rattle.cli_files.specs.declared.opening.OpenErr.{OpenErr}
use Rattle.cli_files.specs.declared.opening.OpenErr.TheVariants as err

-- it is refused, and is not a program; or it is a program, and there is no memory for it
abbrev pub IsNotOpened : List ℕ → OpenErr → Type 0
IsNotOpened image (err.Refused error) = IsRefused image error × ¬ IsProgramFile image
IsNotOpened image err.NoMemory = IsProgramFile image
