-- The parts of an ELF file that passed its tests lie in the file.
use Rattle.std.proofs.Common.{◌≡◌, ◌<◌, ℕ, ◌+◌, ◌-◌, ◌^◌, Some, List, [], ◌∷◌, All, length, arith}
use Rattle.std.specs.Prelude.{slice_index_or, filter, min}
use Rattle.std.proofs.lemmas.List.Elements.{All-append, All-cons, All-nil, All-map, All-filter}
use Rattle.std.proofs.lemmas.List.{length-append}
use Rattle.elf_view.specs.Segments.{LoadSegment, segments_of, IsLoadable}
use Rattle.mem_regions.specs.declared.Part.{Part}
use Rattle.mem_regions.specs.declared.refusal.LoadErr.TheVariants.{TooMany}
use Rattle.mem_regions.specs.Loading.{LiesIn}
use Rattle.mem_regions.specs.Refusal.{refusal, too_many}
use Rattle.std.proofs.lemmas.Bool.Decides.{nat_tests}
use Rattle.cli_files.specs.Image.{part_of, takes_room, parts_of_segments, stack_part, elf_parts}

-- a segment that can be loaded
part-lies : (file : List ℕ) (s : LoadSegment) → IsLoadable file s → LiesIn file (part_of s)
part-lies file s h = record { in_file = h.within; in_size = h.room }

-- all of them
all-lie : (file : List ℕ) (ss : List LoadSegment) → All (IsLoadable file) ss →
    All (λ s. LiesIn file (part_of s)) ss
all-lie file ss h = λ k d below. part-lies file (slice_index_or ss k d) (h k d below)

pub parts-lie : (file : List ℕ) → All (IsLoadable file) (segments_of file) →
    All (LiesIn file) (elf_parts file)
unfolding elf_parts
parts-lie file h =
    All-append (LiesIn file) (parts_of_segments (segments_of file)) (stack_part ∷ [])
    (All-map (LiesIn file) part_of (filter takes_room (segments_of file))
    (All-filter takes_room (λ s. LiesIn file (part_of s)) (segments_of file)
    (all-lie file (segments_of file) h)))
    (All-cons (LiesIn file) stack_part []
    (record { in_file = omega arith; in_size = omega arith }) (All-nil (LiesIn file)))

-- the number of all parts is one more than that of the segments' parts
pub count-parts : (file : List ℕ) →
    length (elf_parts file) ≡ length (parts_of_segments (segments_of file)) + 1
unfolding elf_parts
count-parts file = length-append (parts_of_segments (segments_of file)) (stack_part ∷ [])

-- more than 16 parts are refused first
pub too-many : (parts : List Part) (n : ℕ) → n ≡ min (length parts) (2 ^ 32 - 1) → 16 < n →
    refusal parts ≡ Some (TooMany n)
unfolding refusal too_many
too-many parts n e h = grind (arith, nat_tests)

pub ruleset segment_parts = (parts-lie, too-many)
