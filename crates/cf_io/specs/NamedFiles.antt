-- Named files in a list; of several with the same name the first counts (a convention of this project).
use Rattle.std.specs.Prelude.{ℕ, List, [], ◌∷◌, Option, Some, None, if◌then◌else◌, nat_eq, string_bytes, String, Vec}
use Rattle.std.specs.Global.{Global}
use lib.Pointwise.{pointwise}

-- a file's name and bytes
abbrev pub entry_of : String Global × Vec ℕ Global → List ℕ × List ℕ
entry_of file = (string_bytes file.0, file.1.items)

-- the bytes of the first file with this name
abbrev pub content_of : List (List ℕ × List ℕ) → List ℕ → Option (List ℕ)
content_of [] name = None
content_of (file ∷ files) name =
    if pointwise nat_eq file.0 name then Some file.1 else content_of files name
