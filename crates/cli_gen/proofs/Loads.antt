-- Whatever the assembler makes is a program that can be loaded, so it is never refused.
use Rattle.std.proofs.Common.{◌≡◌, ℕ, ◌+◌, ◌^◌, ◌≤◌, Bool, true, false, List, [], ◌∷◌, ◌++◌, length, refl, ◌∙◌, ap, subst, arith, Option, Some, None, Ok, Err, inl, inr}
use Rattle.std.specs.Prelude.{Result, nat_lt}
use Rattle.std.proofs.lemmas.Bool.Decides.{nat_tests}
use Rattle.mem_regions.specs.declared.part.Part.{Part}
use Rattle.mem_regions.specs.Refusal.{refusal, wraps, overlaps, too_many, first_wrapping, too_large, first_overlap, total_size}
use Rattle.mem_regions.proofs.Causes.{accepted-parts}
use Rattle.elf_view.specs.Refusal.{starts_with_elf, file_refusal}
use Rattle.rv_asm.specs.declared.object.Object.{Object}
use Rattle.rv_asm.specs.declared.refusal.AsmErr.{AsmErr}
use Rattle.rv_asm.specs.Assembling.{Sections, sections_of, assembled}
use Rattle.rv_asm.specs.Objects.{Objects}
use Rattle.rv_asm.specs.Small.{IsSmallObject}
use Rattle.rv_asm.proofs.Few.{small-result}
use Rattle.rv_text.specs.Lines.{text_lines}
use Rattle.elf_make.specs.Headers.{identity}
use Rattle.elf_make.specs.Sizes.{AreSmall, data_offset, symbols_offset, names_offset, section_names_offset, section_names_end, sections_offset}
use Rattle.elf_make.specs.Files.{sizes_of, front, elf_file}
use Rattle.elf_make.specs.Viewed.{IsView, text_segment, data_segment}
use Rattle.elf_make.proofs.Placed.{length-file, small-sizes}
use Rattle.asm_drawn.proofs.Programs.{drawn_accepted}
use Rattle.cf_gen.specs.Program.{program_text}
use Rattle.cli_files.specs.Memory.{SaysNoMemory}
use Rattle.cli_files.specs.Programs.{IsNoProgram}
use Rattle.cli_files.specs.declared.status.Status.{Status}
use Rattle.report_refusals.specs.declared.faults.ProgramErr.{ProgramErr}
use Rattle.report_refusals.specs.declared.faults.ProgramErr.TheVariants as program
use Rattle.cli_files.specs.Image.{IsProgramFile, IsRefused, stack_part, part_of, parts_of_segments, elf_parts}
use Rattle.cli_asm.specs.Sources.{IsAssembly, IsUnassembled}

small_by : (source : List ℕ) (object : Object) (long : Bool) → nat_lt 1048576 (length source) ≡ long → Objects object (assembled source)
    → IsSmallObject object
unfolding assembled
small_by source object true e h = absurd (rw e at h)
small_by source object false e h =
    let short : length source ≤ 1048576 = grind (arith, nat_tests) in
    let stands : Objects object (sections_of (text_lines source)) = rw e at h in
    small-result source (Ok object) short stands

-- the object that a source describes is small
small : (source : List ℕ) (object : Object) → Objects object (assembled source) → IsSmallObject object
small source object h = small_by source object (nat_lt 1048576 (length source)) refl h

offset_short : (o : Object) → AreSmall (sizes_of o) → sections_offset (sizes_of o) ≤ 20000000
unfolding data_offset symbols_offset names_offset section_names_offset section_names_end sections_offset
offset_short o h = omega (arith, h.text, h.data_section, h.labels, h.names)

file_short : (o : Object) → IsSmallObject o → length (elf_file o) ≤ 33554432
file_short o h = omega (arith, length-file o, offset_short o (small-sizes o h))

begins_so : (o : Object) → starts_with_elf (elf_file o) ≡ true
unfolding elf_file front identity
begins_so o = refl

-- the text, the data and the stack do not overlap
apart : (p q : Part) → p.base + p.size ≤ q.base → overlaps p q ≡ false
apart p q h = grind (arith, nat_tests)

in_space : (p : Part) → p.base + p.size ≤ 2 ^ 32 → wraps p ≡ false
in_space p h = grind (arith, nat_tests)

passes_all : (parts : List Part) → too_many parts ≡ None → first_wrapping parts ≡ None → too_large parts ≡ None → first_overlap parts ≡ None
    → refusal parts ≡ None
unfolding refusal
passes_all parts few inside small free = rw (few, inside, small, free) refl

fits_in : (parts : List Part) → total_size parts ≤ 67108864 → too_large parts ≡ None
unfolding too_large
fits_in parts h = let small : nat_lt 67108864 (total_size parts) ≡ false = grind (arith, nat_tests) in rw small refl

three_load : (p q r : Part) → p.base + p.size ≤ q.base → q.base + q.size ≤ r.base → r.base + r.size ≤ 2 ^ 32
    → p.size ≤ 1048576 → q.size ≤ 1048576 → r.size ≤ 1048576 → refusal (p ∷ q ∷ r ∷ []) ≡ None
unfolding too_many first_wrapping first_overlap
three_load p q r pq qr high a b c =
    passes_all (p ∷ q ∷ r ∷ []) refl
    (rw (in_space p (omega arith), in_space q (omega arith), in_space r (omega arith)) refl)
    (fits_in (p ∷ q ∷ r ∷ []) (omega arith))
    (rw (apart p q pq, apart p r (omega arith), apart q r qr) refl)

two_load : (p q : Part) → p.base + p.size ≤ q.base → q.base + q.size ≤ 2 ^ 32
    → p.size ≤ 1048576 → q.size ≤ 1048576 → refusal (p ∷ q ∷ []) ≡ None
unfolding too_many first_wrapping first_overlap
two_load p q pq high a b =
    passes_all (p ∷ q ∷ []) refl
    (rw (in_space p (omega arith), in_space q (omega arith)) refl)
    (fits_in (p ∷ q ∷ []) (omega arith))
    (rw (apart p q pq) refl)

one_load : (p : Part) → p.base + p.size ≤ 2 ^ 32 → p.size ≤ 1048576 → refusal (p ∷ []) ≡ None
unfolding too_many first_wrapping first_overlap
one_load p high a = passes_all (p ∷ []) refl (rw (in_space p high) refl) (fits_in (p ∷ []) (omega arith)) refl

parts_by : (o : Object) (some more : Bool) → IsSmallObject o → nat_lt 0 (length o.text_bytes) ≡ some → nat_lt 0 (length o.data_bytes) ≡ more
    → refusal (parts_of_segments (text_segment o ∷ data_segment o ∷ []) ++ stack_part ∷ []) ≡ None
parts_by o true true h e f =
    let text = h.text in
    let data_bytes = h.data_section in
    rw (e, f) (three_load (part_of (text_segment o)) (part_of (data_segment o)) stack_part
    (omega arith) (omega arith) (omega arith) text data_bytes (omega arith))
parts_by o true false h e f =
    let text = h.text in
    rw (e, f) (two_load (part_of (text_segment o)) stack_part (omega arith) (omega arith) text (omega arith))
parts_by o false true h e f =
    let data_bytes = h.data_section in
    rw (e, f) (two_load (part_of (data_segment o)) stack_part (omega arith) (omega arith) data_bytes (omega arith))
parts_by o false false h e f = rw (e, f) (one_load stack_part (omega arith) (omega arith))

parts_load : (o : Object) (file : List ℕ) → IsSmallObject o → IsView o file → refusal (elf_parts file) ≡ None
unfolding elf_parts
parts_load o file h view =
    rw view.segments (parts_by o (nat_lt 0 (length o.text_bytes)) (nat_lt 0 (length o.data_bytes)) h refl refl)

-- what the assembler makes is a program file
pub assembly_loads : (source file : List ℕ) → IsAssembly source file → IsProgramFile file
assembly_loads source file a =
    let tiny = small source a.object a.stands in
    let begins : starts_with_elf file ≡ true = ap starts_with_elf a.file_is ∙ begins_so a.object in
    record {
      fits = rw a.file_is (file_short a.object tiny);
      formed = λ h. a.view.is_elf;
      loads = rw begins (accepted-parts (elf_parts file) (parts_load a.object file tiny a.view));
    }

some-none : {A : Type 0} (x : A) (o : Option A) → o ≡ None → o ≡ Some x → ⊥
some-none x o e h = absurd (cc)

-- so nothing refuses it
unrefused : (source file : List ℕ) (error : ProgramErr) → IsAssembly source file → IsRefused file error → ⊥
unrefused source file program.TooLong a h = let fits = (assembly_loads source file a).fits in absurd (omega (arith, fits, h))
unrefused source file (program.Elf error) a h = some-none error (file_refusal file) a.view.accepted h.2
unrefused source file (program.Load error) a h =
    some-none error (refusal (elf_parts file)) (parts_load a.object file (small source a.object a.stands) a.view) h.3

lacks_file : (source file : List ℕ) (answer : Status) (report : List ℕ) → IsAssembly source file → IsNoProgram file answer report
    → SaysNoMemory answer report
lacks_file source file answer report a (inl (error, refused, status_is, report_is)) =
    absurd (unrefused source file error a refused)
lacks_file source file answer report a (inr h) = h.1

-- if no hart begins, memory was refused
pub assembly_lacks : (source file image : List ℕ) (answer : Status) (report : List ℕ) → IsAssembly source file → image ≡ file
    → IsNoProgram image answer report → SaysNoMemory answer report
assembly_lacks source file image answer report a same h =
    lacks_file source file answer report a (subst (λ (l : List ℕ). IsNoProgram l answer report) same h)

none-refused : (answer : Result Sections AsmErr) (sections : Sections) (error : AsmErr) → answer ≡ Ok sections → answer ≡ Err error → ⊥
none-refused answer sections error e h = absurd (cc)

lacks_text : (number : ℕ) (answer : Status) (report : List ℕ) → number ≤ 30000 → IsUnassembled (program_text number) answer report
    → SaysNoMemory answer report
lacks_text number answer report most (inl (error, refused, status_is, report_is)) =
    let accepted = drawn_accepted number most in
    absurd (none-refused (assembled (program_text number)) accepted.sections error accepted.stands refused)
lacks_text number answer report most (inr h) = h

-- and if no file comes from a drawn program, memory was refused
pub drawn_lacks : (number : ℕ) (source : List ℕ) (answer : Status) (report : List ℕ) → number ≤ 30000 → source ≡ program_text number
    → IsUnassembled source answer report → SaysNoMemory answer report
drawn_lacks number source answer report most same h =
    lacks_text number answer report most (subst (λ (l : List ℕ). IsUnassembled l answer report) same h)
