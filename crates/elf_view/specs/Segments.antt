-- The segments that a loader loads into memory (Tool Interface Standard, Executable and Linking Format Specification,
-- "Program Header" and "Program Loading").
use Rattle.std.specs.Prelude.{ℕ, ◌+◌, ◌≤◌, ◌≡◌, List, length, map, filter, All, Bool, ◌==◌, not, bit_and}
use Rattle.elf_view.specs.Fields.{bytes_at, entries}
use Rattle.elf_view.specs.Headers.{program_header, program_headers}
use Rattle.elf_view.specs.declared.headers.ProgramHeader.{ProgramHeader}
use Rattle.elf_view.specs.declared.segment.Segment.{Segment}

-- a segment: its address, the offset of its bytes in the file, these bytes, its size in memory, and whether it may be
-- written and executed
pub record LoadSegment : Type 0 where
  pub vaddr : ℕ
  pub offset : ℕ
  pub bytes : List ℕ
  pub memsz : ℕ
  pub write : Bool
  pub exec : Bool

-- the header is that of a loaded segment (PT_LOAD)
abbrev pub is_loaded : ProgramHeader → Bool
is_loaded h = h.kind == 1

-- the header is that of an interpreter's name (PT_INTERP)
abbrev pub is_interpreter : ProgramHeader → Bool
is_interpreter h = h.kind == 3

-- the headers in a table that belong to loaded segments
abbrev pub loads_in : List ℕ → ℕ → ℕ → List ProgramHeader
loads_in file at count = filter is_loaded (entries program_header 32 file at count)

-- the segment of a header: its bytes are those of the file at its offset, and its flags say whether it is writable
-- (PF_W) and executable (PF_X)
abbrev pub segment_of : List ℕ → ProgramHeader → LoadSegment
segment_of file h = record {
  vaddr = h.vaddr;
  offset = h.offset;
  bytes = bytes_at file h.offset h.filesz;
  memsz = h.memsz;
  write = not (bit_and h.flags 2 == 0);
  exec = not (bit_and h.flags 1 == 0);
}

-- the segments of those headers that belong to loaded segments, in their order
abbrev pub segments_in : List ℕ → List ProgramHeader → List LoadSegment
segments_in file headers = map (segment_of file) (filter is_loaded headers)

-- the segments of a file, in the order of the program headers
unfoldable pub segments_of : List ℕ → List LoadSegment
segments_of file = segments_in file (program_headers file)

-- the segment of the header is in the file, and fits into its size in memory
pub record IsSoundSegment (file : List ℕ) (h : ProgramHeader) : Type 0 where
  pub within : h.offset + h.filesz ≤ length file
  pub room : h.filesz ≤ h.memsz

-- this holds for each header of a loaded segment
abbrev pub AreSound : List ℕ → List ProgramHeader → Type 0
AreSound file headers = All (IsSoundSegment file) (filter is_loaded headers)

-- a segment whose bytes are in the file at its offset, and fit into its size in memory
pub record IsLoadable (file : List ℕ) (s : LoadSegment) : Type 0 where
  pub within : s.offset + length s.bytes ≤ length file
  pub content : s.bytes ≡ bytes_at file s.offset (length s.bytes)
  pub room : length s.bytes ≤ s.memsz

-- a segment as contracts see it
abbrev pub shown_segment : Segment → LoadSegment
shown_segment s = record { vaddr = s.vaddr; offset = s.offset; bytes = s.bytes.now; memsz = s.memsz; write = s.write; exec = s.exec }
