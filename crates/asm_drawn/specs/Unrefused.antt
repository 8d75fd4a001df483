-- What it means that the assembler refuses nothing in a source.
use Rattle.std.specs.Prelude.{◌≡◌, ℕ, List, Ok}
use Rattle.rv_asm.specs.Assembling.{Sections, assembled}

-- the source represents the contents of the sections: no line is refused
pub record IsUnrefused (source : List ℕ) : Type 0 where
  pub sections : Sections
  pub stands : assembled source ≡ Ok sections
