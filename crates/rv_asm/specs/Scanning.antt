-- The parts of a line of assembly: a label, a statement, and a comment (GNU as, "Statements", "Comments" and "Symbol
-- Names").
use Rattle.std.specs.Prelude.{ℕ, ◌+◌, ◌==◌, ◌&&◌, ◌||◌, Bool, true, false, Option, Some, None, List, [], ◌∷◌, length, take, drop, codes, nat_eq, nat_le, if◌then◌else◌}
use Rattle.std.specs.List.{starts_with, prefix_len}
use Rattle.texts.specs.Bytes.{is_digit}
use Rattle.rv_text.specs.Pieces.{trimmed}
use Rattle.rv_asm.specs.declared.scanning.Quote.{Quote}
use Rattle.rv_asm.specs.declared.scanning.Quote.TheVariants.{Outside, Inside, Escaped}

abbrev pub is_letter : ℕ → Bool
is_letter byte = nat_le 65 byte && nat_le byte 90 || nat_le 97 byte && nat_le byte 122

-- a name begins with a letter, `_`, `.` or `$`
unfoldable pub is_name_start : ℕ → Bool
is_name_start byte = is_letter byte || byte == 95 || byte == 46 || byte == 36

-- and continues with these and digits
unfoldable pub is_name_byte : ℕ → Bool
is_name_byte byte = is_name_start byte || is_digit byte

-- the text begins like a name
abbrev pub begins_name : List ℕ → Bool
begins_name [] = false
begins_name (byte ∷ rest) = is_name_start byte

-- the length of the name at the start of a text
abbrev pub name_length : List ℕ → ℕ
name_length text = prefix_len is_name_byte text

-- the whole text is a name
unfoldable pub is_name : List ℕ → Bool
is_name text = begins_name text && name_length text == length text

-- whether a string is open after a byte: `"` opens and closes it, and `\` escapes the next byte
unfoldable pub quote_after : Quote → ℕ → Quote
quote_after Outside byte = if byte == 34 then Inside else Outside
quote_after Inside byte = if byte == 34 then Outside else if byte == 92 then Escaped else Inside
quote_after Escaped byte = Inside

abbrev pub is_outside : Quote → Bool
is_outside Outside = true
is_outside Inside = false
is_outside Escaped = false

-- how many bytes are before the first `#` outside a string
abbrev pub comment_at : Quote → List ℕ → ℕ
comment_at quote [] = 0
comment_at quote (byte ∷ rest) =
    if is_outside quote && byte == 35 then 0 else 1 + comment_at (quote_after quote byte) rest

-- the text of a line before its comment, without surrounding blanks
unfoldable pub said : List ℕ → List ℕ
said line = trimmed (take (comment_at Outside line) line)

-- the text begins with a label: a name, immediately followed by `:`
unfoldable pub has_label : List ℕ → Bool
has_label text = begins_name text && starts_with nat_eq (drop (name_length text) text) (codes ":")

-- the label that a text begins with
unfoldable pub label_in : List ℕ → Option (List ℕ)
label_in text = if has_label text then Some (take (name_length text) text) else None

-- the statement of a text: what follows its label, or the whole text if it has no label
unfoldable pub statement_in : List ℕ → List ℕ
statement_in text = if has_label text then drop (name_length text + 1) text else text
