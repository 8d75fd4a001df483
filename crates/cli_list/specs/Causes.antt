-- Which answer of a listing says that the output failed.
use Rattle.std.specs.Prelude.{Result, Ok, Err}
use Rattle.cli_list.specs.declared.listing.ListErr.{ListErr}
use Rattle.cli_list.specs.declared.listing.ListErr.TheVariants as err

-- an error if the answer of a listing is that the output failed
abbrev pub output_listed : Result (Unit {0}) ListErr → Result (Unit {0}) (Unit {0})
output_listed (Ok u) = Ok tt
output_listed (Err (err.Refused error)) = Ok tt
output_listed (Err err.NoMemory) = Ok tt
output_listed (Err err.Failed) = Err tt
