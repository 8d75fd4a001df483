-- A source has few labels, with short names.
use Rattle.std.proofs.Common.{◌≡◌, ◌≢◌, ℕ, suc, ◌+◌, ◌-◌, ◌*◌, ◌<◌, ◌≤◌, Bool, true, false, List, [], ◌∷◌, ◌++◌, length, take, drop, map, refl, sym, ◌∙◌, ap, subst, cond, arith, length-append, All, Option, Some, None}
use Rattle.std.specs.Prelude.{Result, Ok, Err, IfOk, codes, nat_eq, nat_le, nat_lt, is_some, ◌==◌, ◌&&◌, ◌||◌}
use Rattle.std.specs.List.{slice_split, onto_first, starts_with, prefix_len, ends_with}
use Rattle.std.specs.Str.{bytes_eq}
use Rattle.std.proofs.lemmas.List.{length-drop, length-take, length-map}
use Rattle.std.proofs.lemmas.List.Elements.{All-nil, All-cons, All-append}
use Rattle.std.proofs.lemmas.List.Folds.{length-prefix_len}
use Rattle.std.proofs.lemmas.Bool.Decides.{nat_tests}
use Rattle.std.proofs.lemmas.Grind.{flat_map-append, common_steps}
use Rattle.rv_asm.specs.declared.refusal.AsmKind.{AsmKind}
use Rattle.rv_asm.specs.declared.refusal.AsmErr.{AsmErr}
use Rattle.rv_asm.specs.declared.refusal.AsmKind.TheVariants.{LabelTwice}
use Rattle.rv_asm.specs.declared.place.SectionPlace.{SectionPlace}
use Rattle.rv_asm.specs.declared.draft.Draft.{Draft}
use Rattle.rv_asm.specs.declared.object.Object.{Object}
use Rattle.texts.specs.Answers.{and_then}
use Rattle.rv_text.specs.Lines.{is_line_feed, without_return, lines_from, lines_of_pieces, text_lines}
use Rattle.rv_asm.specs.Scanning.{is_name_start, is_name_byte, begins_name, name_length, comment_at, said, has_label, label_in, statement_in}
use Rattle.rv_asm.specs.declared.scanning.Quote.TheVariants.{Outside}
use Rattle.rv_asm.specs.Items.{SourceItem, Nothing, Section, Export, Single, Double, Near, Distant, Numbers, Chars, Zeros}
use Rattle.rv_asm.specs.Places.{section_address, place_after, item_at, start_of_text}
use Rattle.rv_asm.specs.Labels.{LabelView, value_of_label, exported, exported_as}
use Rattle.rv_asm.specs.Pieces.{Piece, pieces_of}
use Rattle.rv_asm.specs.Assembling.{at_line, with_label, drafted, draft_from, Sections, with_export, sections_after_item, sections_after_line, sections_from, empty_sections, sections_of}
use Rattle.rv_asm.specs.Objects.{IsObject, Objects}
use Rattle.rv_asm.specs.Small.{HasNoNul, joined_names, IsSmallObject}
use Rattle.rv_asm.specs.Sized.{AreSized}
use Rattle.rv_asm.proofs.Passing.{Passes, passes, passes_line}
use Rattle.rv_asm.proofs.Shorter.{cut-shorter}
use Rattle.rv_asm.proofs.Sized.{Looks, looks, spelt-length, sections-sized}

-- how many bytes lines have in total
abbrev bytes_of : List (List ℕ) → ℕ
bytes_of [] = 0
bytes_of (line ∷ lines) = length line + bytes_of lines

onto-first : (x : ℕ) (parts : List (List ℕ)) → bytes_of (onto_first x parts) ≤ 1 + bytes_of parts
onto-first x [] = omega arith
onto-first x (part ∷ parts) = omega arith

split-by : (b : Bool) (x : ℕ) (parts : List (List ℕ)) (n : ℕ) → bytes_of parts ≤ n → bytes_of (cond b ([] ∷ parts) (onto_first x parts)) ≤ suc n
split-by true x parts n h = omega arith
split-by false x parts n h = omega (arith, onto-first x parts)

split-shorter : (p : ℕ → Bool) (xs : List ℕ) → bytes_of (slice_split p xs) ≤ length xs
split-shorter p [] = omega arith
split-shorter p (x ∷ xs) = split-by (p x) x (slice_split p xs) (length xs) (split-shorter p xs)

returned-by : (b : Bool) (n : ℕ) (line : List ℕ) → length (cond b (take n line) line) ≤ length line
returned-by true n line = grind (arith, length-take n line)
returned-by false n line = omega arith

returned-shorter : (line : List ℕ) → length (without_return line) ≤ length line
unfolding without_return
returned-shorter line = returned-by (ends_with nat_eq line (13 ∷ [])) (length line - 1) line

lines-shorter : (piece : List ℕ) (pieces : List (List ℕ)) → bytes_of (lines_from piece pieces) ≤ length piece + bytes_of pieces
lines-shorter [] [] = omega arith
lines-shorter (b ∷ bs) [] = omega arith
lines-shorter piece (next ∷ pieces) = omega (arith, returned-shorter piece, lines-shorter next pieces)

pieces-shorter : (pieces : List (List ℕ)) → bytes_of (lines_of_pieces pieces) ≤ bytes_of pieces
pieces-shorter [] = omega arith
pieces-shorter (piece ∷ pieces) = lines-shorter piece pieces

source-shorter : (source : List ℕ) → bytes_of (text_lines source) ≤ length source
unfolding text_lines
source-shorter source = omega (arith, pieces-shorter (slice_split is_line_feed source), split-shorter is_line_feed source)

said-shorter : (line : List ℕ) → length (said line) ≤ length line
unfolding said
said-shorter line = cut-shorter (comment_at Outside line) line

-- a name has no NUL
name-byte : (byte : ℕ) → is_name_byte byte ≡ true → byte ≢ 0
unfolding is_name_byte is_name_start
name-byte byte h = λ e. grind (arith, nat_tests)

abbrev IsNoNul : ℕ → Type 0
IsNoNul byte = byte ≢ 0

take-past : (n : ℕ) (x : ℕ) (xs : List ℕ) → take (1 + n) (x ∷ xs) ≡ x ∷ take n xs
take-past n x xs = grind (arith, common_steps)

name-by : (b : Bool) (n byte : ℕ) (text : List ℕ) → (b ≡ true → byte ≢ 0) → HasNoNul (take n text) → HasNoNul (take (cond b (1 + n) 0) (byte ∷ text))
name-by true n byte text h k = rw take-past (All-cons IsNoNul byte (take n text) (h refl) k)
name-by false n byte text h k = All-nil IsNoNul

name-no-nul : (text : List ℕ) → HasNoNul (take (name_length text) text)
name-no-nul [] = All-nil IsNoNul
name-no-nul (byte ∷ text) = name-by (is_name_byte byte) (name_length text) byte text (name-byte byte) (name-no-nul text)

-- a label has at least one byte, and a colon after it
started-by : (a b : Bool) (n : ℕ) → b ≡ true → (b || a) ≡ true → 1 ≤ cond (b || a) (1 + n) 0
started-by a true n e h = omega arith
started-by a false n e h = absurd (cc)

begun-length : (text : List ℕ) → begins_name text ≡ true → 1 ≤ name_length text
unfolding is_name_byte
begun-length [] e = absurd (cc)
begun-length (byte ∷ text) e = rw e (omega arith)

started-length : (text : List ℕ) → starts_with nat_eq text (codes ":") ≡ true → 1 ≤ length text
started-length [] e = absurd (cc)
started-length (byte ∷ text) e = omega arith

and-true : (a b : Bool) → (a && b) ≡ true → (a ≡ true) × (b ≡ true)
and-true true b e = (refl, e)
and-true false b e = absurd (cc)

label-length : (text : List ℕ) → has_label text ≡ true → (1 ≤ name_length text) × (name_length text + 1 ≤ length text)
unfolding has_label
label-length text e =
    let both = and-true (begins_name text) (starts_with nat_eq (drop (name_length text) text) (codes ":")) e in
    let one = begun-length text both.0 in
    let colon = started-length (drop (name_length text) text) both.1 in
    (one, omega (arith, colon, length-drop (name_length text) text))

-- labels that fit into this many bytes with their names and colons, and names without NUL
record AreFew (labels : List LabelView) (bytes : ℕ) : Type 0 where
  count : 2 * length labels ≤ bytes
  names : length labels + length (joined_names labels) ≤ bytes
  clean : HasNoNul (joined_names labels)

more-bytes : (labels : List LabelView) (m n : ℕ) → m ≤ n → AreFew labels m → AreFew labels n
more-bytes labels m n h f = record { count = omega (arith, f.count, h); names = omega (arith, f.names, h); clean = f.clean }

one-more : (labels : List LabelView) (label : LabelView) (m n : ℕ) → 1 ≤ length label.name → length label.name + 1 ≤ n → HasNoNul label.name
    → AreFew labels m → AreFew (labels ++ label ∷ []) (m + n)
one-more labels label m n one within clean f =
    let joined = flat_map-append (λ (l : LabelView). l.name) labels (label ∷ []) in
    let count = length-append labels (label ∷ []) in
    let names = ap (λ (l : List ℕ). length l) joined ∙ length-append (joined_names labels) (joined_names (label ∷ [])) in
    let last = length-append {A = ℕ} label.name [] in
    record {
      count = omega (arith, count, f.count, one, within);
      names = omega (arith, count, names, last, f.names, within);
      clean = subst HasNoNul (sym joined) (All-append IsNoNul (joined_names labels) (joined_names (label ∷ [])) f.clean
          (All-append IsNoNul label.name [] clean (All-nil IsNoNul)));
    }

labelled-by : (twice : Bool) (more next : List LabelView) (answer : Result (List LabelView) AsmKind)
    → answer ≡ cond twice (Err LabelTwice) (Ok more) → answer ≡ Ok next → more ≡ next
labelled-by true more next answer e h = absurd (cc)
labelled-by false more next answer e h = cc

few-by : (b : Bool) (labels next : List LabelView) (place : SectionPlace) (text : List ℕ) (m : ℕ) → has_label text ≡ b
    → with_label labels place (cond b (Some (take (name_length text) text)) None) ≡ Ok next → AreFew labels m → AreFew next (m + length text)
few-by false labels next place text m h e f = let same : labels ≡ next = cc in rw (← same) (more-bytes labels m (m + length text) (omega arith) f)
few-by true labels next place text m h e f =
    let name = take (name_length text) text in
    let sizes = label-length text h in
    let long : length name ≡ name_length text = length-prefix_len is_name_byte text in
    let same = labelled-by (is_some (value_of_label labels name))
    (labels ++ record { name = name; value = section_address place; in_text = place.in_text; global = false }
    ∷ []) next (with_label labels place (Some name)) refl e in
    rw (← same) (one-more labels (record { name = name; value = section_address place; in_text = place.in_text; global = false }) m (length text)
    (omega (arith, long, sizes.0)) (omega (arith, long, sizes.1)) (name-no-nul text) f)

labels-few : (labels next : List LabelView) (place : SectionPlace) (text : List ℕ) (m : ℕ) → with_label labels place (label_in text) ≡ Ok next →
    AreFew labels m → AreFew next (m + length text)
unfolding label_in
labels-few labels next place text m e f = few-by (has_label text) labels next place text m refl e f

drafted-few : (draft next : Draft) (text : List ℕ) (m : ℕ) → drafted draft text ≡ Ok next → AreFew draft.labels m → AreFew next.labels (m + length text)
unfolding drafted
drafted-few draft next text m e f =
    let l = passes (with_label draft.labels draft.place (label_in text)) (λ (labels : List LabelView). and_then (item_at draft.place (statement_in text))
    (λ item. Ok (record { place = place_after draft.place item; labels = labels }))) next e in
    let i = passes (item_at draft.place (statement_in text)) (λ (item : SourceItem). Ok (record { place = place_after draft.place item; labels = l.first }))
    next l.goes in
    let same : (record { place = place_after draft.place i.first; labels = l.first }) ≡ next = cc i.goes in
    rw (← same) (labels-few draft.labels l.first draft.place text m l.is f)

draft-few : (above : ℕ) (draft last : Draft) (lines : List (List ℕ)) (m : ℕ) → draft_from above draft lines ≡ Ok last → AreFew draft.labels m →
    AreFew last.labels (m + bytes_of lines)
draft-few above draft last [] m e f = let same : draft ≡ last = cc in rw (← same) (more-bytes draft.labels m (m + 0) (omega arith) f)
draft-few above draft last (line ∷ lines) m e f =
    let r = passes (at_line (above + 1) (drafted draft (said line))) (λ (next : Draft). draft_from (above + 1) next lines) last e in
    let next = drafted-few draft r.first (said line) m (passes_line (above + 1) (drafted draft (said line)) r.first r.is) f in
    let rest = draft-few (above + 1) r.first last lines (m + length (said line)) r.goes next in
    more-bytes last.labels ((m + length (said line)) + bytes_of lines) (m + bytes_of (line ∷ lines)) (omega (arith, said-shorter line)) rest

-- an export leaves the names unchanged
name-kept-by : (b : Bool) (l : LabelView) → (cond b (record l { global = true }) l).name ≡ l.name
name-kept-by true l = refl
name-kept-by false l = refl

names-kept : (labels : List LabelView) (name : List ℕ) → joined_names (exported labels name) ≡ joined_names labels
unfolding exported
names-kept [] name = refl
names-kept (l ∷ ls) name =
    ap (λ (n : List ℕ). n ++ joined_names (map (exported_as name) ls)) (name-kept-by (bytes_eq l.name name) l)
    ∙ ap (λ (ns : List ℕ). l.name ++ ns) (names-kept ls name)

count-kept : (labels : List LabelView) (name : List ℕ) → length (exported labels name) ≡ length labels
unfolding exported
count-kept labels name = length-map labels (exported_as name)

exported-few : (labels : List LabelView) (name : List ℕ) (m : ℕ) → AreFew labels m → AreFew (exported labels name) m
exported-few labels name m f =
    let names = names-kept labels name in
    let count = count-kept labels name in
    record {
      count = omega (arith, count, f.count);
      names = omega (arith, count, ap (λ (l : List ℕ). length l) names, f.names);
      clean = subst HasNoNul (sym names) f.clean;
    }

marked-few : (labels : List LabelView) (item : SourceItem) (m : ℕ) → AreFew labels m → AreFew (with_export labels item) m
marked-few labels Nothing m f = f
marked-few labels (Section b) m f = f
marked-few labels (Export name) m f = exported-few labels name m f
marked-few labels (Single i) m f = f
marked-few labels (Double i j) m f = f
marked-few labels (Near jump label) m f = f
marked-few labels (Distant far label) m f = f
marked-few labels (Numbers width operands) m f = f
marked-few labels (Chars bytes zero) m f = f
marked-few labels (Zeros count) m f = f

filled-few : (s t : Sections) (text : List ℕ) (m : ℕ) → sections_after_line s text ≡ Ok t → AreFew s.labels m → AreFew t.labels m
unfolding sections_after_line
filled-few s t text m e f =
    let r = passes (item_at s.place (statement_in text)) (λ (item : SourceItem). and_then (pieces_of s.labels (section_address s.place) item)
    (λ ps. Ok (sections_after_item s item ps))) t e in
    let p = passes (pieces_of s.labels (section_address s.place) r.first) (λ (ps : List Piece). Ok (sections_after_item s r.first ps)) t r.goes in
    let same : sections_after_item s r.first p.first ≡ t = cc p.goes in
    rw (← same) (marked-few s.labels r.first m f)

sections-few : (above : ℕ) (s t : Sections) (lines : List (List ℕ)) (m : ℕ) → sections_from above s lines ≡ Ok t → AreFew s.labels m → AreFew t.labels m
sections-few above s t [] m e f = let same : s ≡ t = cc in rw (← same) f
sections-few above s t (line ∷ lines) m e f =
    let r = passes (at_line (above + 1) (sections_after_line s (said line))) (λ (next : Sections). sections_from (above + 1) next lines) t e in
    sections-few (above + 1) r.first t lines m r.goes
    (filled-few s r.first (said line) m (passes_line (above + 1) (sections_after_line s (said line)) r.first r.is) f)

no-labels : AreFew [] 0
no-labels = record { count = omega arith; names = omega arith; clean = All-nil IsNoNul }

looked-few : (lines : List (List ℕ)) (sections : Sections) → sections_of lines ≡ Ok sections → AreFew sections.labels (bytes_of lines)
looked-few lines sections e =
    let l = looks lines sections e in
    let last : Draft = record { place = l.drafted.0; labels = l.labels } in
    let few = draft-few 0 (record { place = start_of_text; labels = [] }) last lines 0 l.drafted.1 no-labels in
    sections-few 0 (empty_sections l.labels) sections lines (bytes_of lines) l.filled
    (more-bytes l.labels (0 + bytes_of lines) (bytes_of lines) (omega arith) few)

-- an object with few and short labels and with sized sections is small
small-object : (sections : Sections) (object : Object) (n : ℕ) → AreSized sections → AreFew sections.labels n → n ≤ 1048576 → IsObject sections object →
    IsSmallObject object
small-object sections object n sized few within is = record {
  text = omega (arith, spelt-length sections.text object.text_bytes is.text_bytes, sized.text, sized.place.text);
  data_section = omega (arith, spelt-length sections.data_pieces object.data_bytes is.data_bytes, sized.data_section, sized.place.data_section);
  labels = omega (arith, ap (λ (l : List LabelView). length l) is.labels, few.count, within);
  names = subst (λ (labels : List LabelView). HasNoNul (joined_names labels)) (sym is.labels) few.clean;
  name_bytes = omega (arith, ap (λ (l : List LabelView). length (joined_names l)) is.labels, few.names, within);
}

small-by : (source : List ℕ) (object : Object) (answer : Result Sections AsmErr) → length source ≤ 1048576 → sections_of (text_lines source) ≡ answer →
    Objects object answer → IsSmallObject object
small-by source object (Ok sections) h e is =
    let lines = text_lines source in
    small-object sections object (bytes_of lines) (sections-sized lines sections e) (looked-few lines sections e) (omega (arith, source-shorter source, h)) is
small-by source object (Err kind) h e is = absurd is

-- an object of a source is small
pub small-result : (source : List ℕ) (answer : Result Object AsmErr) → length source ≤ 1048576
    → IfOk answer (λ object. Objects object (sections_of (text_lines source))) → IfOk answer (λ object. IsSmallObject object)
small-result source (Ok object) h is = small-by source object (sections_of (text_lines source)) h refl is
small-result source (Err e) h is = tt
