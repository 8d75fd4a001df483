-- The output if a listing is not written completely.
use Rattle.std.specs.Prelude.{◌≡◌, ℕ, List, Option, Result, Ok, Err}
use Rattle.cf_io.specs.Puts.{WritesFront}
use Rattle.asm_listing.specs.declared.listing.ListingErr.{ListingErr}
use Rattle.asm_listing.specs.declared.listing.ListingErr.TheVariants as err

-- there was not enough memory, and nothing was written; or the output failed after a prefix of the text
abbrev pub ListingStops : List ℕ → Option (List ℕ) → Option (List ℕ) → ListingErr → Type 0
ListingStops text before after err.NoMemory = after ≡ before
ListingStops text before after err.Failed = WritesFront before after text

-- an error if the output failed
abbrev pub output_put : Result (Unit {0}) ListingErr → Result (Unit {0}) (Unit {0})
output_put (Ok u) = Ok tt
output_put (Err err.NoMemory) = Ok tt
output_put (Err err.Failed) = Err tt
