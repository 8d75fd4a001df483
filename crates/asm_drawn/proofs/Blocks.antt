-- Lines of instructions without labels, one after another in the text.
use Rattle.std.proofs.Common.{◌≡◌, ℕ, ◌+◌, ◌-◌, ◌%◌, ◌^◌, ◌<◌, ◌≤◌, Bool, true, false, List, [], ◌∷◌, ◌++◌, refl, ◌∙◌, ap, subst, arith, suc, Some, Ok}
use Rattle.std.specs.Prelude.{None, pos, negsuc, nat_lt, ◌&&◌, ◌==◌}
use Rattle.std.proofs.lemmas.Bool.{false≢true}
use Rattle.std.proofs.lemmas.Bool.Decides.{nat_tests}
use Rattle.rv_inst.specs.Words.{word_difference}
use Rattle.rv_inst.specs.declared.instruction.Instr.{Instr}
use Rattle.rv_text.specs.declared.statement.Jump.{Jump}
use Rattle.rv_text.specs.Reading.{aimed, distance_of}
use Rattle.rv_asm.specs.declared.place.SectionPlace.{SectionPlace}
use Rattle.rv_asm.specs.declared.item.Far.{Far}
use Rattle.rv_asm.specs.Items.{SourceItem, Nothing, Section, Export, Single, Double, Near, Distant, Numbers, Chars, Zeros, size_of, is_code}
use Rattle.rv_asm.specs.Places.{section_address, place_after, fits_at}
use Rattle.rv_asm.specs.Labels.{LabelView, value_of_label}
use Rattle.rv_asm.specs.Pieces.{Word, near_instr, instruction_pieces, pieces_of}
use Rattle.rv_asm.specs.Pseudos.{reaching}
use Rattle.asm_drawn.proofs.Entries.{Entry, IsEntry}
use Rattle.asm_drawn.proofs.Walks.{Values, HasPieces, Goes, goes_on}

-- this many bytes into the text, with this much data
abbrev pub text_at : ℕ → SectionPlace
text_at t = record { in_text = true; text_len = t; data_len = 0 }

and-none : (b : Bool) → (b && false) ≡ false
and-none true = refl
and-none false = refl

-- every item that is short enough fits into the text
pub fits_text : (t : ℕ) (item : SourceItem) → t % 4 ≡ 0 → t + size_of item ≤ 1048576 → fits_at (text_at t) item ≡ Ok tt
unfolding fits_at section_address
fits_text t item even small =
    let aligned : ((65536 + t) % 4 == 0) ≡ true = grind (arith, nat_tests) in
    let short : nat_lt 1048576 (t + size_of item) ≡ false = grind (arith, nat_tests) in
    rw (aligned, and-none (is_code item), short) refl

-- the place after a label
pub after_nothing : (t : ℕ) → place_after (text_at t) Nothing ≡ text_at t
unfolding place_after
after_nothing t = let same : t + 0 ≡ t = omega arith in ap (λ (n : ℕ). text_at n) same

-- the place after an instruction
pub after_code : (t : ℕ) (item : SourceItem) → is_code item ≡ true → place_after (text_at t) item ≡ text_at (t + size_of item)
unfolding place_after
after_code t Nothing h = absurd (false≢true h)
after_code t (Section in_text) h = absurd (false≢true h)
after_code t (Export name) h = absurd (false≢true h)
after_code t (Single i) h = refl
after_code t (Double i j) h = refl
after_code t (Near j label) h = refl
after_code t (Distant f label) h = refl
after_code t (Numbers width operands) h = absurd (false≢true h)
after_code t (Chars bytes z) h = absurd (false≢true h)
after_code t (Zeros n) h = absurd (false≢true h)

-- instructions have 4 or 8 bytes
pub code_size : (item : SourceItem) → is_code item ≡ true → (size_of item % 4 ≡ 0) × (size_of item ≤ 8)
code_size Nothing h = absurd (false≢true h)
code_size (Section in_text) h = absurd (false≢true h)
code_size (Export name) h = absurd (false≢true h)
code_size (Single i) h = (refl, omega arith)
code_size (Double i j) h = (refl, omega arith)
code_size (Near j label) h = (refl, omega arith)
code_size (Distant f label) h = (refl, omega arith)
code_size (Numbers width operands) h = absurd (false≢true h)
code_size (Chars bytes z) h = absurd (false≢true h)
code_size (Zeros n) h = absurd (false≢true h)

-- what items place
pub has_nothing : (values : Values) (pc : ℕ) → HasPieces values pc Nothing
unfolding pieces_of
has_nothing values pc = record { pieces = []; placed = λ labels same. refl }

pub has_single : (values : Values) (pc : ℕ) (i : Instr) → HasPieces values pc (Single i)
unfolding pieces_of
has_single values pc i = record { pieces = Word i ∷ []; placed = λ labels same. refl }

pub has_double : (values : Values) (pc : ℕ) (i j : Instr) → HasPieces values pc (Double i j)
unfolding pieces_of
has_double values pc i j = record { pieces = Word i ∷ Word j ∷ []; placed = λ labels same. refl }

pub has_distant : (values : Values) (pc : ℕ) (far : Far) (label : List ℕ) (v : ℕ) → values label ≡ Some v → HasPieces values pc (Distant far label)
unfolding pieces_of
has_distant values pc far label v e = record {
  pieces = instruction_pieces (reaching far (word_difference v pc));
  placed = λ labels same. let found : value_of_label labels label ≡ Some v = same label ∙ e in rw found refl;
}

pub has_near : (values : Values) (pc : ℕ) (jump : Jump) (label : List ℕ) (v : ℕ) (i : Instr) → values label ≡ Some v
    → aimed jump (distance_of (pos v) pc) ≡ Ok i → HasPieces values pc (Near jump label)
unfolding pieces_of near_instr
has_near values pc jump label v i e reach = record {
  pieces = Word i ∷ [];
  placed = λ labels same. let found : value_of_label labels label ≡ Some v = same label ∙ e in rw (found, reach) refl;
}

-- the distances
pub distance_ahead : (pc d : ℕ) → pc < 2 ^ 30 → d < 2 ^ 30 → distance_of (pos (pc + d)) pc ≡ pos d
unfolding distance_of
distance_ahead pc d small short =
    let far : ((pc + d) % 2 ^ 32 + (2 ^ 32 - pc)) % 2 ^ 32 ≡ d = omega arith in
    rw far (grind (arith, nat_tests))

pub distance_behind : (v d : ℕ) → v < 2 ^ 30 → d < 2 ^ 30 → distance_of (pos v) (v + suc d) ≡ negsuc d
unfolding distance_of
distance_behind v d small short =
    let far : (v % 2 ^ 32 + (2 ^ 32 - (v + suc d))) % 2 ^ 32 ≡ 2 ^ 32 - suc d = omega arith in
    rw far (grind (arith, nat_tests))

-- an instruction without a label
pub record IsCode (e : Entry) : Type 0 where
  pub entry : IsEntry e
  pub label : e.label ≡ None
  pub code : is_code e.item ≡ true

abbrev pub AreCode : List Entry → Type 0
AreCode [] = Unit {0}
AreCode (e ∷ es) = IsCode e × AreCode es

-- the number of bytes of all of them
abbrev pub total : List Entry → ℕ
total [] = 0
total (e ∷ es) = size_of e.item + total es

-- each instruction places pieces, the first this many bytes into the text
abbrev pub AllHavePieces : Values → ℕ → List Entry → Type 0
AllHavePieces values t [] = Unit {0}
AllHavePieces values t (e ∷ es) = HasPieces values (0x10000 + t) e.item × AllHavePieces values (t + size_of e.item) es

pub total_aligned : (es : List Entry) → AreCode es → total es % 4 ≡ 0
total_aligned [] h = refl
total_aligned (e ∷ es) h =
    let this = (code_size e.item h.0.code).0 in
    let rest = total_aligned es h.1 in
    omega arith

-- the instructions, and what follows them
pub block_goes : (values : Values) (final : List LabelView) (es rest : List Entry) (t : ℕ) (labels : List LabelView)
    → AreCode es → t % 4 ≡ 0 → t + total es ≤ 1048576 → AllHavePieces values t es
    → Goes values final rest (text_at (t + total es)) labels → Goes values final (es ++ rest) (text_at t) labels
unfolding section_address
block_goes values final [] rest t labels code even small has after =
    let same : t + 0 ≡ t = omega arith in
    subst (λ (n : ℕ). Goes values final rest (text_at n) labels) same after
block_goes values final (e ∷ es) rest t labels code even small has after =
    let size = code_size e.item code.0.code in
    let part : t + size_of e.item ≤ 1048576 = omega arith in
    let aligned : (t + size_of e.item) % 4 ≡ 0 = let four = size.0 in omega arith in
    let more : t + size_of e.item + total es ≤ 1048576 = omega arith in
    let place : t + (size_of e.item + total es) ≡ t + size_of e.item + total es = omega arith in
    let moved : Goes values final rest (text_at (t + size_of e.item + total es)) labels =
    subst (λ (n : ℕ). Goes values final rest (text_at n) labels) place after in
    let tail = block_goes values final es rest (t + size_of e.item) labels code.1 aligned more has.1 moved in
    goes_on values final e (es ++ rest) (text_at t) labels labels code.0.entry (rw code.0.label refl) (fits_text t e.item even part) has.0
    (rw (after_code t e.item code.0.code) tail)
