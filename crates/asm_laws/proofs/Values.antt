-- An export changes no label's value.
use Rattle.std.proofs.Common.{◌≡◌, ℕ, Bool, true, false, List, [], ◌∷◌, ◌++◌, refl, sym, ◌∙◌, ap, cond, Option, Some, None, map}
use Rattle.std.specs.Prelude.{Result, Ok, Err, ℤ, find, option_map, replicate}
use Rattle.std.specs.Str.{bytes_eq}
use Rattle.std.specs.Int.{bytes_low_first}
use Rattle.rv_inst.specs.declared.instruction.Instr.{Instr}
use Rattle.rv_inst.specs.Words.{word_difference}
use Rattle.rv_text.specs.declared.statement.Jump.{Jump}
use Rattle.rv_text.specs.Reading.{aimed, distance_of}
use Rattle.rv_asm.specs.declared.refusal.AsmKind.{AsmKind}
use Rattle.rv_asm.specs.declared.refusal.AsmKind.TheVariants.{NoLabel}
use Rattle.rv_asm.specs.declared.operations.Width.{Width}
use Rattle.texts.specs.Answers.{and_then, needed}
use Rattle.rv_asm.specs.Answers.{as_text}
use Rattle.rv_asm.specs.Operands.{names_label, number_of_width, bytes_of_width}
use Rattle.rv_asm.specs.Items.{SourceItem, Nothing, Section, Export, Single, Double, Near, Distant, Numbers, Chars, Zeros}
use Rattle.rv_asm.specs.Pseudos.{word_modulo, reaching}
use Rattle.rv_asm.specs.Labels.{LabelView, value_of_label, exported, exported_as}
use Rattle.rv_asm.specs.Pieces.{Piece, Word, Bytes, label_value, near_instr, operand_value, bytes_from, instruction_pieces, pieces_of}
use Rattle.rv_asm.specs.Assembling.{with_export}
use Rattle.asm_laws.specs.Programs.{unexported}

-- the labels give each name the same value
pub record SameValues (one other : List LabelView) : Type 0 where
  pub values : (name : List ℕ) → value_of_label one name ≡ value_of_label other name
  pub bare : map unexported one ≡ map unexported other

pub same-values : (labels : List LabelView) → SameValues labels labels
same-values labels = record { values = λ name. refl; bare = refl }

pub then-same : (a b c : List LabelView) → SameValues a b → SameValues b c → SameValues a c
then-same a b c h k = record { values = λ name. h.values name ∙ k.values name; bare = h.bare ∙ k.bare }

name-kept : (b : Bool) (l : LabelView) → (cond b (record l { global = true }) l).name ≡ l.name
name-kept true l = refl
name-kept false l = refl

value-kept : (b : Bool) (l : LabelView) → (cond b (record l { global = true }) l).value ≡ l.value
value-kept true l = refl
value-kept false l = refl

bare-kept : (b : Bool) (l : LabelView) → unexported (cond b (record l { global = true }) l) ≡ unexported l
bare-kept true l = refl
bare-kept false l = refl

found-by : (t : Bool) (l m : LabelView) (rest other : Option LabelView) → l.value ≡ m.value →
    option_map (λ label. label.value) rest ≡ option_map (λ label. label.value) other
    → option_map (λ label. label.value) (cond t (Some l) rest) ≡ option_map (λ label. label.value) (cond t (Some m) other)
found-by true l m rest other e h = ap Some e
found-by false l m rest other e h = h

found-same : (labels : List LabelView) (name wanted : List ℕ)
    → option_map (λ label. label.value) (find (λ label. bytes_eq label.name wanted) (map (exported_as name) labels))
    ≡ option_map (λ label. label.value) (find (λ label. bytes_eq label.name wanted) labels)
found-same [] name wanted = refl
found-same (l ∷ ls) name wanted =
    let t = bytes_eq l.name name in
    let new = exported_as name l in
    let rest = find (λ label. bytes_eq label.name wanted) (map (exported_as name) ls) in
    ap (λ (n : List ℕ). option_map (λ label. label.value) (cond (bytes_eq n wanted) (Some new) rest)) (name-kept t l)
    ∙ found-by (bytes_eq l.name wanted) new l rest (find (λ label. bytes_eq label.name wanted) ls) (value-kept t l) (found-same ls name wanted)

bare-same : (labels : List LabelView) (name : List ℕ) → map unexported (map (exported_as name) labels) ≡ map unexported labels
bare-same [] name = refl
bare-same (l ∷ ls) name =
    ap (λ (x : LabelView). x ∷ map unexported (map (exported_as name) ls)) (bare-kept (bytes_eq l.name name) l)
    ∙ ap (λ (xs : List LabelView). unexported l ∷ xs) (bare-same ls name)

exported-same : (labels : List LabelView) (name : List ℕ) → SameValues (exported labels name) labels
unfolding exported value_of_label
exported-same labels name = record { values = λ wanted. found-same labels name wanted; bare = bare-same labels name }

pub marked-same : (labels : List LabelView) (item : SourceItem) → SameValues (with_export labels item) labels
marked-same labels Nothing = same-values labels
marked-same labels (Section b) = same-values labels
marked-same labels (Export name) = exported-same labels name
marked-same labels (Single i) = same-values labels
marked-same labels (Double i j) = same-values labels
marked-same labels (Near jump label) = same-values labels
marked-same labels (Distant far label) = same-values labels
marked-same labels (Numbers width operands) = same-values labels
marked-same labels (Chars bytes zero) = same-values labels
marked-same labels (Zeros count) = same-values labels

value-same : (a b : List LabelView) (name : List ℕ) → SameValues a b → label_value a name ≡ label_value b name
value-same a b name h = ap (λ (v : Option ℕ). needed NoLabel v) (h.values name)

operand-same : (a b : List LabelView) (width : Width) (operand : List ℕ) → SameValues a b → operand_value a width operand ≡ operand_value b width operand
unfolding operand_value
operand-same a b width operand h = rw (value-same a b operand h) refl

then-step : {A B E : Type 0} (x : Result A E) (f g : A → Result B E) → ((a : A) → f a ≡ g a) → and_then x f ≡ and_then x g
then-step (Ok a) f g h = h a
then-step (Err e) f g h = refl

bytes-same : (a b : List LabelView) (width : Width) (bytes : List ℕ) (operands : List (List ℕ)) → SameValues a b →
    bytes_from a width bytes operands ≡ bytes_from b width bytes operands
bytes-same a b width bytes [] h = refl
bytes-same a b width bytes (o ∷ os) h =
    ap (λ (value : Result ℤ AsmKind). and_then value (λ z. bytes_from a width (bytes ++ bytes_low_first 0 (bytes_of_width width) (word_modulo z)) os))
    (operand-same a b width o h)
    ∙ then-step (operand_value b width o) (λ z. bytes_from a width (bytes ++ bytes_low_first 0 (bytes_of_width width) (word_modulo z)) os)
    (λ z. bytes_from b width (bytes ++ bytes_low_first 0 (bytes_of_width width) (word_modulo z)) os)
    (λ z. bytes-same a b width (bytes ++ bytes_low_first 0 (bytes_of_width width) (word_modulo z)) os h)

near-same : (a b : List LabelView) (pc : ℕ) (jump : Jump) (label : List ℕ) → SameValues a b → near_instr a pc jump label ≡ near_instr b pc jump label
unfolding near_instr
near-same a b pc jump label h = rw (value-same a b label h) refl

-- so an item places the same pieces
pub pieces-same : (a b : List LabelView) (pc : ℕ) (item : SourceItem) → SameValues a b → pieces_of a pc item ≡ pieces_of b pc item
unfolding pieces_of
pieces-same a b pc Nothing h = refl
pieces-same a b pc (Section t) h = refl
pieces-same a b pc (Export name) h = rw (value-same a b name h) refl
pieces-same a b pc (Single i) h = refl
pieces-same a b pc (Double i j) h = refl
pieces-same a b pc (Near jump label) h = rw (near-same a b pc jump label h) refl
pieces-same a b pc (Distant far label) h = rw (value-same a b label h) refl
pieces-same a b pc (Numbers width operands) h = rw (bytes-same a b width [] operands h) refl
pieces-same a b pc (Chars bytes zero) h = refl
pieces-same a b pc (Zeros count) h = refl
