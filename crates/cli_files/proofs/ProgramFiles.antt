-- A program that a file holds or does not hold.
use Rattle.std.proofs.Common.{◌≡◌, ℕ, ◌+◌, List, Option, Result, Ok, Err, IfOk, IfErr, inl}
use Rattle.cf_io.specs.Reads.{FilesSeen}
use Rattle.rv_machine.specs.Hart.{Hart}
use Rattle.cli_files.specs.Files.{IsFrontOf}
use Rattle.cli_files.specs.Image.{most_bytes, IsProgramFile, hart_at_start}
use Rattle.cli_files.specs.Programs.{IsProgramAt, IsNoProgram, LacksProgram}
use Rattle.cli_files.specs.declared.answer.Answer.{Answer}

-- an image that was read and is a program is in its file
pub program-found : (before after : Option FilesSeen) (name image : List ℕ) (r : Result Hart Answer) →
    IsFrontOf (most_bytes + 1) before after name image →
    IfOk r (λ hart. IsProgramFile image) → IfOk r (λ hart. hart ≡ hart_at_start image) →
    IfOk r (IsProgramAt name before after)
program-found before after name image (Ok hart) front program begins = record {
  image = image;
  front = front;
  program = program;
  begins = begins;
}
program-found before after name image (Err answer) front program begins = tt

-- an image that was read and is not a program
pub program-refused : (before after : Option FilesSeen) (name image : List ℕ) (r : Result Hart Answer) →
    IsFrontOf (most_bytes + 1) before after name image →
    IfErr r (λ answer. IsNoProgram image answer.status answer.closing) →
    IfErr r (λ answer. LacksProgram name before after answer.status answer.closing)
program-refused before after name image (Ok hart) front h = tt
program-refused before after name image (Err answer) front h =
    inl (record { image = image; front = front; why = h })
