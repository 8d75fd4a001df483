-- A file that is a program is never refused.
use Rattle.std.proofs.Common.{◌≡◌, ◌≢◌, ℕ, List, [], ◌∷◌, length, false, Bool, if◌then◌else◌, Some, ap, refl, sym, subst, arith}
use Rattle.elf_view.proofs.Executables.{refused-no_elf}
use Rattle.mem_regions.specs.declared.Part.{Part}
use Rattle.mem_regions.specs.declared.refusal.LoadErr.{LoadErr}
use Rattle.mem_regions.specs.declared.refusal.LoadErr.TheVariants.{Overlap, TooMany, TooLarge, WrapsAround, NoMemory}
use Rattle.mem_regions.specs.Causes.{AreAccepted, IsLoadCause}
use Rattle.mem_regions.specs.Refusal.{refusal, load_answer}
use Rattle.mem_regions.proofs.Causes.{refused-cause}
use Rattle.mem_regions.proofs.Parts.{refusal_is_told}
use Rattle.cli_files.specs.Image.{IsProgramFile, IsRefused, elf_parts, flat_part, stack_part}
use Rattle.report_refusals.specs.declared.faults.ProgramErr.{ProgramErr}
use Rattle.report_refusals.specs.declared.faults.ProgramErr.TheVariants.{TooLong, Elf, Load}

-- the part that a refusal names, if no part is read
abbrev no_part : Part
no_part = record { base = 0; start = 0; len = 0; size = 0; write = false; exec = false }

-- what a refusal says about parts is false of accepted parts
pub cause-excluded : (parts : List Part) (e : LoadErr) → AreAccepted parts → IsLoadCause parts e → e ≢ NoMemory → ⊥
cause-excluded parts (TooMany n) a c other = omega (arith, c.0, a.few)
cause-excluded parts (WrapsAround i) a c other = a.in_space i no_part c.within (c.wraps no_part)
cause-excluded parts (TooLarge n) a c other = omega (arith, c.0, a.small)
cause-excluded parts (Overlap i j) a c other = a.apart i j c.before c.within no_part no_part (c.share no_part no_part)
cause-excluded parts NoMemory a c other = other refl

not_both : (parts : List Part) (e : LoadErr) → AreAccepted parts → refusal parts ≡ Some e → IsLoadCause parts e → ⊥
not_both parts e a is c = cause-excluded parts e a c (λ none. cc (none, is, refusal_is_told parts e (sym (ap load_answer is))))

pub never-refused : (image : List ℕ) (error : ProgramErr) → IsRefused image error → IsProgramFile image → ⊥
never-refused image TooLong long p = omega (arith, long, p.fits)
never-refused image (Elf e) (fits, elf, refused) p = refused-no_elf image e refused (p.formed elf)
never-refused image (Load e) (fits, elf, formed, refused) p =
    let parts : List Part = elf_parts image in
    let accepted : AreAccepted parts =
    subst (λ (b : Bool). AreAccepted (if b then parts else flat_part (length image) ∷ stack_part ∷ [])) elf p.loads in
    not_both parts e accepted refused (refused-cause parts e (sym (ap load_answer refused)))
