-- The labels of a drawn program, and their values.
use Rattle.std.proofs.Common.{◌≡◌, ℕ, ◌+◌, ◌*◌, ◌^◌, ◌<◌, ◌≤◌, Bool, true, false, List, [], ◌∷◌, ◌++◌, refl, sym, ◌∙◌, ap, arith, suc, zero, subst, Some}
use Rattle.std.specs.Prelude.{Option, None, decimal, nat_lt}
use Rattle.std.specs.Str.{bytes_eq}
use Rattle.std.specs.Str.Parse.{digits_value}
use Rattle.std.proofs.lemmas.Fmt.{decimal_is_IsNumeral}
use Rattle.std.proofs.lemmas.Slice.Eq.{bytes_eq-Decides}
use Rattle.std.proofs.lemmas.Bool.Decides.{nat_tests}
use Rattle.cf_gen.specs.Statements.{label_text}
use Rattle.rv_asm.specs.Labels.{LabelView, value_of_label, exported_as, exported}

-- the first of two
abbrev pub first_of : Option ℕ → Option ℕ → Option ℕ
first_of (Some v) other = Some v
first_of None other = other

value_by : (b : Bool) (label : LabelView) (front back : List LabelView) (name : List ℕ)
    → value_of_label (front ++ back) name ≡ first_of (value_of_label front name) (value_of_label back name)
    → bytes_eq label.name name ≡ b
    → value_of_label (label ∷ front ++ back) name ≡ first_of (value_of_label (label ∷ front) name) (value_of_label back name)
unfolding value_of_label
value_by true label front back name ih e = rw e refl
value_by false label front back name ih e = rw e ih

-- a label that is defined keeps its value, and any other has its value among the labels that follow
values-append : (front back : List LabelView) (name : List ℕ)
    → value_of_label (front ++ back) name ≡ first_of (value_of_label front name) (value_of_label back name)
unfolding value_of_label
values-append [] back name = refl
values-append (label ∷ front) back name = value_by (bytes_eq label.name name) label front back name (values-append front back name) refl

pub value_kept : (front back : List LabelView) (name : List ℕ) (v : ℕ) → value_of_label front name ≡ Some v
    → value_of_label (front ++ back) name ≡ Some v
value_kept front back name v e = values-append front back name ∙ ap (λ (o : Option ℕ). first_of o (value_of_label back name)) e

pub value_later : (front back : List LabelView) (name : List ℕ) → value_of_label front name ≡ None
    → value_of_label (front ++ back) name ≡ value_of_label back name
value_later front back name e = values-append front back name ∙ ap (λ (o : Option ℕ). first_of o (value_of_label back name)) e

exported_name : (name : List ℕ) (label : LabelView) (b : Bool) → bytes_eq label.name name ≡ b → (exported_as name label).name ≡ label.name
exported_name name label true e = rw e refl
exported_name name label false e = rw e refl

exported_value : (name : List ℕ) (label : LabelView) (b : Bool) → bytes_eq label.name name ≡ b → (exported_as name label).value ≡ label.value
exported_value name label true e = rw e refl
exported_value name label false e = rw e refl

exported_by : (b : Bool) (label : LabelView) (labels : List LabelView) (exports name : List ℕ)
    → value_of_label (exported labels exports) name ≡ value_of_label labels name
    → bytes_eq label.name name ≡ b
    → value_of_label (exported (label ∷ labels) exports) name ≡ value_of_label (label ∷ labels) name
unfolding value_of_label exported
exported_by true label labels exports name ih e =
    rw (exported_name exports label (bytes_eq label.name exports) refl, e)
    (ap (λ (v : ℕ). Some v) (exported_value exports label (bytes_eq label.name exports) refl))
exported_by false label labels exports name ih e =
    rw (exported_name exports label (bytes_eq label.name exports) refl, e) ih

-- an export changes no value
pub value-exported : (labels : List LabelView) (exports name : List ℕ) → value_of_label (exported labels exports) name ≡ value_of_label labels name
unfolding value_of_label exported
value-exported [] exports name = refl
value-exported (label ∷ labels) exports name =
    exported_by (bytes_eq label.name name) label labels exports name (value-exported labels exports name) refl

-- the label of the i-th statement, when the statements begin b bytes after the start of the text
abbrev pub numbered_label : ℕ → ℕ → LabelView
numbered_label b k = record { name = label_text (suc k); value = 0x10000 + (b + 4 * k); in_text = true; global = false }

-- the labels of the first k statements
abbrev pub numbered_labels : ℕ → ℕ → List LabelView
numbered_labels b zero = []
numbered_labels b (suc k) = numbered_labels b k ++ numbered_label b k ∷ []

-- the name is none of those
abbrev pub IsNoNumber : List ℕ → Type 0
IsNoNumber name = (i : ℕ) → bytes_eq (label_text i) name ≡ false

pub numbered_none : (b k : ℕ) (name : List ℕ) → ((i : ℕ) → i ≤ k → 1 ≤ i → bytes_eq (label_text i) name ≡ false)
    → value_of_label (numbered_labels b k) name ≡ None
unfolding value_of_label
numbered_none b zero name h = refl
numbered_none b (suc k) name h =
    let this : bytes_eq (label_text (suc k)) name ≡ false = h (suc k) (omega arith) (omega arith) in
    let rest = numbered_none b k name (λ i low some. h i (omega arith) some) in
    value_later (numbered_labels b k) (numbered_label b k ∷ []) name rest ∙ rw this refl

-- different numbers have different texts
decimal_injective : (i j : ℕ) → i < 2 ^ 64 → j < 2 ^ 64 → decimal i ≡ decimal j → i ≡ j
decimal_injective i j small low e =
    sym (decimal_is_IsNumeral i small).1 ∙ ap (λ (l : List ℕ). digits_value 10 l) e ∙ (decimal_is_IsNumeral j low).1

differs_by : (b : Bool) (i j : ℕ) → i < j → j < 2 ^ 64 → (b ≡ true → decimal i ≡ decimal j) → b ≡ false
differs_by true i j less small h = let e = decimal_injective i j (omega arith) small (h refl) in absurd (omega arith)
differs_by false i j less small h = refl

-- different labels have different names
pub labels_differ : (i j : ℕ) → i < j → j < 2 ^ 64 → bytes_eq (label_text i) (label_text j) ≡ false
labels_differ i j less small =
    differs_by (bytes_eq (decimal i) (decimal j)) i j less small ((bytes_eq-Decides (decimal i) (decimal j)).0)

same_label : (i : ℕ) → bytes_eq (label_text i) (label_text i) ≡ true
same_label i = (bytes_eq-Decides (label_text i) (label_text i)).1 refl

-- the next label is new
pub numbered_fresh : (b k : ℕ) → k < 2 ^ 32 → value_of_label (numbered_labels b k) (label_text (suc k)) ≡ None
numbered_fresh b k small =
    numbered_none b k (label_text (suc k)) (λ i low some. labels_differ i (suc k) (omega arith) (omega arith))

numbered_last : (b k : ℕ) → k < 2 ^ 32 → value_of_label (numbered_labels b (suc k)) (label_text (suc k)) ≡ Some (0x10000 + (b + 4 * k))
unfolding value_of_label
numbered_last b k small =
    value_later (numbered_labels b k) (numbered_label b k ∷ []) (label_text (suc k)) (numbered_fresh b k small)
    ∙ (rw (same_label (suc k)) refl)

numbered_by : (b k i : ℕ) (less : Bool) → nat_lt i k ≡ less → i < suc k → k < 2 ^ 32
    → (i < k → value_of_label (numbered_labels b k) (label_text (suc i)) ≡ Some (0x10000 + (b + 4 * i)))
    → value_of_label (numbered_labels b (suc k)) (label_text (suc i)) ≡ Some (0x10000 + (b + 4 * i))
numbered_by b k i true e low small ih =
    let inside : i < k = grind (arith, nat_tests) in
    value_kept (numbered_labels b k) (numbered_label b k ∷ []) (label_text (suc i)) (0x10000 + (b + 4 * i)) (ih inside)
numbered_by b k i false e low small ih =
    let last : k ≡ i = grind (arith, nat_tests) in
    subst (λ (j : ℕ). value_of_label (numbered_labels b (suc k)) (label_text (suc j)) ≡ Some (0x10000 + (b + 4 * j))) last (numbered_last b k small)

-- each label has its address
pub numbered_value : (b k i : ℕ) → i < k → k < 2 ^ 32 → value_of_label (numbered_labels b k) (label_text (suc i)) ≡ Some (0x10000 + (b + 4 * i))
numbered_value b zero i low small = absurd (omega arith)
numbered_value b (suc k) i low small =
    numbered_by b k i (nat_lt i k) refl low (omega arith) (λ inside. numbered_value b k i inside (omega arith))
