-- Kinds of bytes and of texts.
use Rattle.std.specs.Prelude.{ℕ, Bool, ◌&&◌, List, nat_le, nat_lt}
use Rattle.std.specs.List.{list_all}

-- a decimal digit
abbrev pub is_digit : ℕ → Bool
is_digit byte = nat_le 48 byte && nat_le byte 57

-- every byte is below 128
unfoldable pub is_ascii : List ℕ → Bool
is_ascii line = list_all (λ byte. nat_lt byte 128) line
