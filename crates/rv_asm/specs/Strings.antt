-- How a string is written: between `"`, with escapes (GNU as, "Strings").
use Rattle.std.specs.Prelude.{ℕ, ◌==◌, Bool, true, false, Option, Some, None, List, [], ◌∷◌, length, drop, codes, nat_eq, if◌then◌else◌}
use Rattle.std.specs.List.{starts_with}
use Rattle.std.specs.Str.{bytes_eq}

-- the byte that `\` and this byte denote: `
-- `, `\t`, `\\`, `\"` and `\0`
abbrev pub escapes : ℕ → Option ℕ
escapes byte =
    if byte == 110 then Some 10
    else if byte == 116 then Some 9
    else if byte == 92 then Some 92
    else if byte == 34 then Some 34
    else if byte == 48 then Some 0
    else None

-- the byte before the bytes, if both exist
abbrev pub onto : Option ℕ → Option (List ℕ) → Option (List ℕ)
onto (Some byte) (Some bytes) = Some (byte ∷ bytes)
onto _ _ = None

-- the bytes of a string, from after its first `"` up to its last, at the end of the text; `escaped` immediately after a
-- `\`
abbrev pub string_from : (escaped : Bool) → List ℕ → Option (List ℕ)
string_from escaped [] = None
string_from true (byte ∷ rest) = onto (escapes byte) (string_from false rest)
string_from false (byte ∷ rest) =
    if byte == 92 then string_from true rest
    else if byte == 34 then if length rest == 0 then Some [] else None
    else onto (Some byte) (string_from false rest)

-- the bytes of a string that ends here: none, if only its last `"` is left of the text
abbrev pub end_of_string : List ℕ → Option (List ℕ)
end_of_string text = if bytes_eq text (codes "\"") then Some [] else None

-- the bytes of the string that the text consists of
unfoldable pub string_of : List ℕ → Option (List ℕ)
string_of text = if starts_with nat_eq text (codes "\"") then string_from false (drop 1 text) else None
