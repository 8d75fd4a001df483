-- What is read from the beginning of bytes, and when that is what was written.
use Rattle.std.specs.Prelude.{◌≡◌, ℕ, List, ◌++◌}

-- a value, and the bytes after those that it was read from
pub record Unpacked (A : Type 0) : Type 0 where
  pub value : A
  pub left : List ℕ

-- the value, with these bytes left
abbrev pub got : {A : Type 0} → A → List ℕ → Unpacked A
got x bs = record { value = x; left = bs }

-- what the value that was read represents, with the same bytes left
abbrev pub as_read : {A B : Type 0} → (A → B) → Unpacked A → Unpacked B
as_read f x = got (f x.value) x.left

-- each value is read back from its bytes, and all bytes after them are left
pub record ReadsBack {A : Type 0} (packed : A → List ℕ) (unpacked : List ℕ → Unpacked A) : Type 0 where
  pub back : (x : A) (rest : List ℕ) → unpacked (packed x ++ rest) ≡ got x rest
