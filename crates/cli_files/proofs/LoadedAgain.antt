-- A program that is loaded again, and the parts from which it is loaded.
use Rattle.std.proofs.Common.{◌≡◌, ◌≢◌, ℕ, ◌+◌, List, [], ◌∷◌, length, Bool, true, false, if◌then◌else◌, Option, Result, Ok, Err, IfOk, IfErr, inl, subst}
use Rattle.cf_io.specs.Reads.{FilesSeen}
use Rattle.elf_view.specs.Refusal.{starts_with_elf}
use Rattle.mem_regions.specs.declared.Part.{Part}
use Rattle.mem_regions.specs.declared.refusal.LoadErr.{LoadErr}
use Rattle.mem_regions.specs.declared.refusal.LoadErr.TheVariants.{NoMemory}
use Rattle.mem_regions.specs.Causes.{AreAccepted, IsLoadCause}
use Rattle.cli_files.specs.Files.{IsFrontOf}
use Rattle.cli_files.specs.Image.{most_bytes, IsProgramFile, elf_parts, flat_part, hart_at_start, stack_part}
use Rattle.cli_files.specs.Programs.{IsProgramAt, IsNoProgram, LacksProgram}
use Rattle.cli_files.specs.declared.answer.Answer.{Answer}
use Rattle.cli_files.specs.declared.images.ProgramImages.{ProgramImages}
use Rattle.cli_files.proofs.Excluded.{cause-excluded}

-- parts that are accepted are not refused
pub not-refused : (parts : List Part) (e : LoadErr) → AreAccepted parts → IsLoadCause parts e → e ≢ NoMemory → ⊥
not-refused parts e a c other = cause-excluded parts e a c other

pub ruleset accepted_parts = (not-refused)

-- the parts of a program
accepted-by : (image : List ℕ) (b : Bool) → starts_with_elf image ≡ b → IsProgramFile image →
    AreAccepted (if b then elf_parts image else flat_part (length image) ∷ stack_part ∷ [])
accepted-by image b is p =
    subst (λ (b : Bool). AreAccepted (if b then elf_parts image else flat_part (length image) ∷ stack_part ∷ [])) is p.loads

pub elf-accepted : (image : List ℕ) → IsProgramFile image → starts_with_elf image ≡ true → AreAccepted (elf_parts image)
elf-accepted image p is = accepted-by image true is p

pub flat-accepted-too : (image : List ℕ) → IsProgramFile image → starts_with_elf image ≡ false → AreAccepted (flat_part (length image) ∷ stack_part ∷ [])
flat-accepted-too image p is = accepted-by image false is p

pub ruleset images = (elf-accepted, flat-accepted-too)

-- the images of a file that was read are those of the program that it holds
pub images-found : (before after : Option FilesSeen) (name image : List ℕ) (r : Result ProgramImages Answer) →
    IsFrontOf (most_bytes + 1) before after name image →
    IfOk r (λ images. IsProgramFile image) → IfOk r (λ images. images.machine ≡ hart_at_start image) →
    IfOk r (λ images. IsProgramAt name before after images.machine)
images-found before after name image (Ok images) front program begins = record {
  image = image;
  front = front;
  program = program;
  begins = begins;
}
images-found before after name image (Err answer) front program begins = tt

-- a file that was read and is not a program
pub images-refused : (before after : Option FilesSeen) (name image : List ℕ) (r : Result ProgramImages Answer) →
    IsFrontOf (most_bytes + 1) before after name image →
    IfErr r (λ answer. IsNoProgram image answer.status answer.closing) →
    IfErr r (λ answer. LacksProgram name before after answer.status answer.closing)
images-refused before after name image (Ok images) front h = tt
images-refused before after name image (Err answer) front h =
    inl (record { image = image; front = front; why = h })
