-- A sink that compares what is written to it with a text (a convention of this project).
use Rattle.std.specs.Prelude.{◌≡◌, ℕ, ◌≤◌, ◌<◌, suc, List, [], ◌∷◌, ◌++◌, length, take, map, slice_get, Option, Some, None, IfSome, IsSome}

-- the text; how many of its bytes were written; the byte after them that differs, if there is one; and how often the
-- sink has failed since
pub record Comparison : Type 0 where
  pub text : List ℕ
  pub agreed : ℕ
  pub other : Option ℕ
  pub faults : ℕ

-- before the first byte
abbrev pub fresh_comparison : List ℕ → Comparison
fresh_comparison text = record { text = text; agreed = 0; other = None; faults = 0 }

-- the text does not have this byte at this index
abbrev pub IsOther : List ℕ → ℕ → ℕ → Type 0
IsOther text place byte = slice_get text place ≡ Some byte → ⊥

-- the two texts do not have the same byte at this index
abbrev pub DifferAt : (one other : List ℕ) → ℕ → Type 0
DifferAt one other place = (byte : ℕ) → slice_get other place ≡ Some byte → IsOther one place byte

-- the bytes that agree are the text's, the other byte is not, and the sink fails only after that byte
pub record IsComparison (c : Comparison) : Type 0 where
  pub within : c.agreed ≤ length c.text
  pub other : IfSome c.other (λ byte. IsOther c.text c.agreed byte)
  pub failed : 0 < c.faults → IsSome c.other

-- a byte was written that the text does not have at that index
pub record HasOther (seen : Comparison) : Type 0 where
  pub other : ℕ
  pub is : seen.other ≡ Some other
  pub differs : IsOther seen.text seen.agreed other
  pub within : seen.agreed ≤ length seen.text

-- all that was written agrees, and the comparison has not failed
pub record AllAgrees (seen : Comparison) : Type 0 where
  pub none : seen.other ≡ None
  pub works : seen.faults ≡ 0
  pub within : seen.agreed ≤ length seen.text

-- the byte as a list, which is empty if there is none
abbrev pub byte_list : Option ℕ → List ℕ
byte_list None = []
byte_list (Some byte) = byte ∷ []

-- what was written
abbrev pub put_of : Comparison → List ℕ
put_of c = take c.agreed c.text ++ byte_list c.other

-- what the sink exposes: the text, with each byte raised by one, then a 0 that ends it, and then what was written; so a
-- caller that writes to the sink is known to leave its text unchanged
unfoldable pub exposed_by_sink : Comparison → List ℕ
exposed_by_sink c = map suc c.text ++ 0 ∷ put_of c
