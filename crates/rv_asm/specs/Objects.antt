-- An object, related to its program.
use Rattle.std.specs.Prelude.{◌≡◌, ◌⊎◌, Result, Ok, Err}
use Rattle.rv_asm.specs.declared.object.Object.{Object}
use Rattle.rv_asm.specs.declared.refusal.AsmErr.{AsmErr}
use Rattle.rv_asm.specs.declared.refusal.AsmKind.TheVariants.{NoMemory}
use Rattle.rv_asm.specs.Labels.{entry_point}
use Rattle.rv_asm.specs.Spelling.{Spells}
use Rattle.rv_asm.specs.Assembling.{Sections}

-- the object has the bytes of the sections, their labels, and the entry
pub record IsObject (sections : Sections) (object : Object) : Type 0 where
  pub text_bytes : Spells sections.text object.text_bytes
  pub data_bytes : Spells sections.data_pieces object.data_bytes
  pub labels : object.labels ≡ sections.labels
  pub entry : object.entry ≡ entry_point sections.labels

-- the object is the answer's
abbrev pub Objects : Object → Result Sections AsmErr → Type 0
Objects object (Ok sections) = IsObject sections object
Objects object (Err e) = ⊥

-- the refusal is the answer, unless there was not enough memory
abbrev pub RefusesSource : AsmErr → Result Sections AsmErr → Type 0
RefusesSource e answer = (e.kind ≡ NoMemory) ⊎ (answer ≡ Err e)
