-- The effect of a read of a file, for any maximum length.
use Rattle.std.proofs.Common.{◌≡◌, ℕ, List, take, Option, Some, None, Ok, refl}
use Rattle.std.specs.Prelude.{option_map, Vec}
use Rattle.std.specs.Global.{Global}
use Rattle.cf_io.specs.Reads.{FilesSeen, ReadsFile, with_read}
use Rattle.cli_files.specs.Files.{IsFrontOf}

-- the file of which a prefix was taken
front-of : (most : ℕ) (told : FilesSeen) (after : Option FilesSeen) (name bytes : List ℕ) (content : Option (List ℕ)) →
    told.content name ≡ content → option_map (take most) content ≡ Some bytes → after ≡ Some (with_read told name) →
    IsFrontOf most (Some told) after name bytes
front-of most told after name bytes None e h noted = absurd (cc)
front-of most told after name bytes (Some content) e h noted = (content, e, cc, noted)

-- the effect of the read
pub file-front : (most : ℕ) (told after : Option FilesSeen) (name : List ℕ) (bytes : Vec ℕ Global) →
    ReadsFile told after name most (Ok bytes) → IsFrontOf most told after name bytes.items
file-front most None after name bytes h = tt
file-front most (Some told) after name bytes h =
    front-of most told after name bytes.items (told.content name) refl h.0 h.1
