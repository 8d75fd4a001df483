-- The lines of labels.
use Rattle.std.proofs.Common.{◌≡◌, ℕ, ◌+◌, ◌^◌, ◌<◌, Bool, true, false, List, [], ◌∷◌, ◌++◌, length, drop, refl, arith, Some, Ok, length-append}
use Rattle.std.specs.Prelude.{decimal}
use Rattle.std.specs.List.{list_all, prefix_len}
use Rattle.std.specs.Char.{digit_value}
use Rattle.std.specs.Str.Parse.{AllDigits}
use Rattle.std.proofs.Math.Seq.{drop-append_seam, take-append_seam}
use Rattle.std.proofs.lemmas.List.{drop_all}
use Rattle.std.proofs.lemmas.Fmt.{decimal_is_IsNumeral}
use Rattle.std.proofs.lemmas.List.Folds.{list_all-append}
use Rattle.std.proofs.lemmas.Bool.Decides.{nat_tests}
use Rattle.rv_text.specs.Pieces.{trimmed, without_front, without_end}
use Rattle.rv_text.proofs.Solid.{is_solid, IsBare, IsBare-from_solid}
use Rattle.rv_asm.specs.Items.{Nothing}
use Rattle.rv_asm.specs.Reading.{statement_read}
use Rattle.rv_asm.specs.Scanning.{is_name_start, is_name_byte, name_length, has_label, label_in, statement_in, said}
use Rattle.cf_gen.specs.Statements.{label_text}
use Rattle.asm_drawn.proofs.Lines.{plain-append, and-true}
use Rattle.asm_drawn.proofs.Entries.{Entry, IsEntry, said-bare}
use Rattle.asm_drawn.proofs.Statements.{label_plain, label_solid}

digit_in_name : (byte : ℕ) → digit_value byte < 10 → is_name_byte byte ≡ true
unfolding is_name_byte is_name_start
digit_in_name byte h = grind (arith, nat_tests)

digits_in_name : (ds : List ℕ) → AllDigits 10 ds → list_all is_name_byte ds ≡ true
digits_in_name [] h = refl
digits_in_name (d ∷ ds) h = rw (digit_in_name d h.0) (digits_in_name ds h.1)

name_ends : (p : ℕ → Bool) (name rest : List ℕ) (byte : ℕ) → list_all p name ≡ true → p byte ≡ false
    → prefix_len p (name ++ byte ∷ rest) ≡ length name
name_ends p [] rest byte all stops = rw stops refl
name_ends p (c ∷ name) rest byte all stops =
    let parts = and-true (p c) (list_all p name) all in
    let more = name_ends p name rest byte parts.1 stops in
    rw (parts.0, more) (omega arith)

label_name : (i : ℕ) → i < 2 ^ 64 → list_all is_name_byte (label_text i) ≡ true
unfolding is_name_byte is_name_start
label_name i small = digits_in_name (decimal i) ((decimal_is_IsNumeral i small).0.1)

label_length : (i : ℕ) → i < 2 ^ 64 → name_length (label_text i ++ 58 ∷ []) ≡ length (label_text i)
unfolding is_name_byte is_name_start
label_length i small = name_ends is_name_byte (label_text i) [] 58 (label_name i small) refl

pub has_it : (i : ℕ) → i < 2 ^ 64 → has_label (label_text i ++ 58 ∷ []) ≡ true
unfolding has_label is_name_start
has_it i small = rw (label_length i small, drop-append_seam (label_text i) (58 ∷ [])) refl

nothing_read : (pc : ℕ) → statement_read pc [] ≡ Ok Nothing
unfolding statement_read trimmed without_front without_end
nothing_read pc = refl

colon_bare : (i : ℕ) → i < 2 ^ 64 → IsBare (label_text i ++ 58 ∷ [])
colon_bare i small =
    let name = label_solid i small in
    let some : 0 < length (label_text i ++ 58 ∷ []) = omega (arith, length-append (label_text i) (58 ∷ [])) in
    IsBare-from_solid (label_text i ++ 58 ∷ []) (record {
      some = some;
      bytes = rw (list_all-append is_solid (label_text i) (58 ∷ []), name.bytes) refl;
    })

-- the line of a label
abbrev pub label_entry : ℕ → Entry
label_entry i = record { text = label_text i ++ 58 ∷ []; label = Some (label_text i); item = Nothing }

pub label_is_entry : (i : ℕ) → i < 2 ^ 64 → IsEntry (label_entry i)
unfolding label_in statement_in
label_is_entry i small =
    let plain = plain-append (label_text i) (58 ∷ []) (label_plain i small) refl in
    let same : said (label_text i ++ 58 ∷ []) ≡ label_text i ++ 58 ∷ [] = said-bare (label_text i ++ 58 ∷ []) plain (colon_bare i small) in
    let nothing : drop (length (label_text i) + 1) (label_text i ++ 58 ∷ []) ≡ [] =
    drop_all (length (label_text i) + 1) (label_text i ++ 58 ∷ []) (omega (arith, length-append (label_text i) (58 ∷ []))) in
    record {
      plain = plain;
      label = rw (same, has_it i small, label_length i small, take-append_seam (label_text i) (58 ∷ [])) refl;
      item = λ pc. rw (same, has_it i small, label_length i small, nothing) (nothing_read pc);
    }
