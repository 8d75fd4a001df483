-- The effect of a call that reads files on the files, and its answer.
use Rattle.std.specs.Prelude.{ℕ, List, Option, Result, IfOk, IfErr}
use Rattle.cf_io.specs.Causes.{HasCause}
use Rattle.cf_io.specs.Reads.{FilesSeen}
use Rattle.cf_io.specs.declared.files.Files.{Ghosts as FilesMembers}
use Rattle.cli_files.specs.Causes.{files_read}
use Rattle.cli_files.specs.declared.answer.Answer.{Answer}
use Rattle.cli_files.specs.declared.status.Status.{Status}

-- given what the files expose before and after: the result is what was read, or the answer says which file is missing
-- and why; the count of the files' faults rose exactly if the answer is that one of them could not be read
pub record ReadsFiles {F T : Type 0} (Gives : Option FilesSeen → Option FilesSeen → T → Type 0)
    (Lacks : Option FilesSeen → Option FilesSeen → Status → List ℕ → Type 0) (members : FilesMembers F) (before after : F)
    (result : Result T Answer) : Type 0 where
  pub gives : IfOk result (Gives (members.told before) (members.told after))
  pub lacks : IfErr result (λ answer. Lacks (members.told before) (members.told after) answer.status answer.closing)
  pub faults : HasCause (members.faults before) (members.faults after) (files_read result)
