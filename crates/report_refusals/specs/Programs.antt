-- The report of a file that is not a program (a format of this project).
use Rattle.std.specs.Prelude.{ℕ, List, [], ◌∷◌, ◌++◌, codes, decimal}
use Rattle.elf_view.specs.declared.refusal.ElfErr.{ElfErr}
use Rattle.elf_view.specs.declared.refusal.ElfErr.TheVariants.{TooShort, NotElf, Not32Little, NotRiscv, NotExecutable, NeedsCompressed, NeedsFloat, NeedsRve, BadHeaderSize, OutsideFile, FileLargerThanMemory, NeedsInterpreter, BadSymbols}
use Rattle.mem_regions.specs.declared.refusal.LoadErr.{LoadErr}
use Rattle.mem_regions.specs.declared.refusal.LoadErr.TheVariants.{Overlap, TooMany, TooLarge, WrapsAround, NoMemory}
use Rattle.texts.specs.Lines.{line}
use Rattle.report_refusals.specs.Variants.{variant}
use Rattle.report_refusals.specs.declared.faults.ProgramErr.{ProgramErr}
use Rattle.report_refusals.specs.declared.faults.ProgramErr.TheVariants as program

-- why an ELF file is refused
unfoldable pub elf_refusal : ElfErr → List ℕ
elf_refusal (TooShort at) = variant (codes "TooShort") (decimal at ∷ [])
elf_refusal NotElf = variant (codes "NotElf") []
elf_refusal Not32Little = variant (codes "Not32Little") []
elf_refusal (NotRiscv machine) = variant (codes "NotRiscv") (decimal machine ∷ [])
elf_refusal (NotExecutable kind) = variant (codes "NotExecutable") (decimal kind ∷ [])
elf_refusal NeedsCompressed = variant (codes "NeedsCompressed") []
elf_refusal NeedsFloat = variant (codes "NeedsFloat") []
elf_refusal NeedsRve = variant (codes "NeedsRve") []
elf_refusal (BadHeaderSize size) = variant (codes "BadHeaderSize") (decimal size ∷ [])
elf_refusal (OutsideFile index) = variant (codes "OutsideFile") (decimal index ∷ [])
elf_refusal (FileLargerThanMemory index) = variant (codes "FileLargerThanMemory") (decimal index ∷ [])
elf_refusal NeedsInterpreter = variant (codes "NeedsInterpreter") []
elf_refusal (BadSymbols index) = variant (codes "BadSymbols") (decimal index ∷ [])

-- why the parts of memory that a program describes cannot be loaded
unfoldable pub load_refusal : LoadErr → List ℕ
load_refusal (Overlap first second) = variant (codes "Overlap") (decimal first ∷ decimal second ∷ [])
load_refusal (TooMany number) = variant (codes "TooMany") (decimal number ∷ [])
load_refusal (TooLarge size) = variant (codes "TooLarge") (decimal size ∷ [])
load_refusal (WrapsAround index) = variant (codes "WrapsAround") (decimal index ∷ [])
load_refusal NoMemory = variant (codes "NoMemory") []

-- why a file is not a program
unfoldable pub program_refusal : ProgramErr → List ℕ
program_refusal program.TooLong = codes "TooLong"
program_refusal (program.Elf error) = codes "Elf " ++ elf_refusal error
program_refusal (program.Load error) = codes "Load " ++ load_refusal error

-- the whole report
unfoldable pub bad_program : ProgramErr → List ℕ
bad_program error = line (codes "bad program: " ++ program_refusal error)
