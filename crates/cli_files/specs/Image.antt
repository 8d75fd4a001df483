-- What a program file is: the parts of memory that it describes, its entry, and why a file is not a program (Tool
-- Interface Standard, Executable and Linking Format Specification, "Program Loading"; flat images are a convention of
-- this project).
use Rattle.std.specs.Prelude.{◌≡◌, ◌<◌, ◌≤◌, ℕ, List, [], ◌∷◌, ◌++◌, length, map, filter, nat_lt, Bool, true, false, Some, if◌then◌else◌}
use Rattle.elf_view.specs.Executables.{IsElf}
use Rattle.elf_view.specs.Headers.{file_header}
use Rattle.elf_view.specs.Refusal.{starts_with_elf}
use Rattle.elf_view.specs.Refusal.{file_refusal}
use Rattle.elf_view.specs.Segments.{LoadSegment, segments_of}
use Rattle.mem_regions.specs.declared.Part.{Part}
use Rattle.mem_regions.specs.Causes.{AreAccepted}
use Rattle.mem_regions.specs.Loading.{loaded}
use Rattle.mem_regions.specs.Refusal.{refusal as load_refusal}
use Rattle.rv_machine.specs.Hart.{Hart}
use Rattle.rv_machine.specs.Machine.{start_hart}
use Rattle.report_refusals.specs.declared.faults.ProgramErr.{ProgramErr}
use Rattle.report_refusals.specs.declared.faults.ProgramErr.TheVariants as program

-- the maximum length of a program file, in bytes
abbrev pub most_bytes : ℕ
most_bytes = 33554432

-- the address of a flat image, and its entry
abbrev pub flat_base : ℕ
flat_base = 0x10000

-- the whole image in one region that may be read, written and executed
abbrev pub flat_part : ℕ → Part
flat_part size =
    record { base = flat_base; start = 0; len = size; size = size; write = true; exec = true }

-- a stack of 1 MiB, zeroed, that may be read and written
abbrev pub stack_part : Part
stack_part =
    record { base = 0x7f000000; start = 0; len = 0; size = 0x100000; write = true; exec = false }

-- the part of memory that a segment makes: its bytes of the file, and zeros up to its size in memory
abbrev pub part_of : LoadSegment → Part
part_of s = record {
  base = s.vaddr;
  start = s.offset;
  len = length s.bytes;
  size = s.memsz;
  write = s.write;
  exec = s.exec;
}

-- the segment takes up memory
abbrev pub takes_room : LoadSegment → Bool
takes_room s = nat_lt 0 s.memsz

-- the parts of those segments that take up memory, in their order
abbrev pub parts_of_segments : List LoadSegment → List Part
parts_of_segments segments = map part_of (filter takes_room segments)

-- the parts of an ELF file: those of its segments, then the stack
unfoldable pub elf_parts : List ℕ → List Part
elf_parts image = parts_of_segments (segments_of image) ++ stack_part ∷ []

-- the parts of a program file; a file that does not begin as an ELF file is a flat image
abbrev pub parts_of : List ℕ → List Part
parts_of image =
    if starts_with_elf image then elf_parts image else flat_part (length image) ∷ stack_part ∷ []

-- the entry of a program
abbrev pub image_entry : List ℕ → ℕ
image_entry image = if starts_with_elf image then (file_header image).entry else flat_base

-- the hart at the start of a program
unfoldable pub hart_at_start : List ℕ → Hart
hart_at_start image = start_hart (loaded image (parts_of image)) (image_entry image)

-- the file is a program: it is not too long, is a sound ELF file if it begins as one, and its parts can be loaded
pub record IsProgramFile (image : List ℕ) : Type 0 where
  pub fits : length image ≤ most_bytes
  pub formed : starts_with_elf image ≡ true → IsElf image
  pub loads : AreAccepted (parts_of image)

-- why the file is not a program: it is too long; or otherwise it begins as an ELF file and fails the tests of its form;
-- or otherwise the parts of that ELF file cannot be loaded
abbrev pub IsRefused : List ℕ → ProgramErr → Type 0
IsRefused image program.TooLong = most_bytes < length image
IsRefused image (program.Elf error) =
    (length image ≤ most_bytes) × (starts_with_elf image ≡ true)
    × (file_refusal image ≡ Some error)
IsRefused image (program.Load error) =
    (length image ≤ most_bytes) × (starts_with_elf image ≡ true) × IsElf image
    × (load_refusal (elf_parts image) ≡ Some error)
