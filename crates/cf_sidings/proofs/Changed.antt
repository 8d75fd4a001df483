-- The words follow the change of a cell.
use Rattle.std.proofs.Common.{◌≡◌, ◌≢◌, ◌∙◌, ℕ, zero, suc, ◌+◌, ◌*◌, ◌/◌, ◌%◌, ◌<◌, List, [], ◌∷◌, Option, Some, Bool, true, false, nat_eq, length, length-set, set-set, refl, sym, ap, subst, arith}
use Rattle.std.specs.Prelude.{if◌then◌else◌, slice_get, slice_index_or, slice_set}
use Rattle.std.proofs.lemmas.Bool.Decides.{nat_tests}
use Rattle.std.proofs.lemmas.Option.{slice_get_read}
use Rattle.cf_bind.specs.declared.cell.Op.{Op}
use Rattle.cf_layout.specs.Words.{has_bit}
use Rattle.cf_semantics.specs.state.Options.{is_some}
use Rattle.cf_semantics.specs.moves.Bars.{cell_is_taken}
use Rattle.cf_sidings.specs.Sidings.{HaveWords, cells_in, numbered_cell}

-- an element after one of a list is replaced
pub get-same : {A : Type 0} (xs : List A) (i : ℕ) (x : A) → i < length xs → slice_get (slice_set xs i x) i ≡ Some x
get-same [] i x h = absurd (omega arith)
get-same (y ∷ xs) zero x h = refl
get-same (y ∷ xs) (suc i) x h = get-same xs i x (omega arith)

pub get-other : {A : Type 0} (xs : List A) (i j : ℕ) (x : A) → j ≢ i → slice_get (slice_set xs i x) j ≡ slice_get xs j
get-other [] i j x h = refl
get-other (y ∷ xs) zero zero x h = absurd (h refl)
get-other (y ∷ xs) zero (suc j) x h = refl
get-other (y ∷ xs) (suc i) zero x h = refl
get-other (y ∷ xs) (suc i) (suc j) x h = get-other xs i j x (λ e. h (ap suc e))

-- the cells of a siding after one of the sidings is replaced
pub cells-same : (sidings : List (List (Option Op))) (k : ℕ) (cells : List (Option Op)) → k < length sidings → cells_in (slice_set sidings k cells) k ≡ cells
cells-same sidings k cells h = rw (get-same sidings k cells h) refl

pub cells-other : (sidings : List (List (Option Op))) (k m : ℕ) (cells : List (Option Op)) → m ≢ k → cells_in (slice_set sidings k cells) m ≡ cells_in sidings m
cells-other sidings k m cells h = rw (get-other sidings k m cells h) refl

-- the sidings after one cell of one of them is replaced
abbrev pub put : List (List (Option Op)) → ℕ → ℕ → Option Op → List (List (Option Op))
put sidings k c op = slice_set sidings k (slice_set (cells_in sidings k) c op)

-- that cell
at_cell : (sidings : List (List (Option Op))) (k c : ℕ) (op : Option Op) → k < length sidings → c < length (cells_in sidings k) →
    slice_get (cells_in (put sidings k c op) k) c ≡ Some op
at_cell sidings k c op h g = rw (cells-same sidings k (slice_set (cells_in sidings k) c op) h) (get-same (cells_in sidings k) c op g)

-- any other cell
other_case : (sidings : List (List (Option Op))) (k c m i : ℕ) (op : Option Op) (same : Bool) → nat_eq m k ≡ same → k < length sidings → (m ≡ k → i ≢ c) →
    slice_get (cells_in (put sidings k c op) m) i ≡ slice_get (cells_in sidings m) i
other_case sidings k c m i op true e h off =
    let at : m ≡ k = grind (arith, nat_tests) in
    let away = off at in
    rw (at, cells-same sidings k (slice_set (cells_in sidings k) c op) h) (get-other (cells_in sidings k) c i op away)
other_case sidings k c m i op false e h off =
    let away : m ≢ k = grind (arith, nat_tests) in
    rw (cells-other sidings k m (slice_set (cells_in sidings k) c op) away) refl

other_cell : (sidings : List (List (Option Op))) (k c m i : ℕ) (op : Option Op) → k < length sidings → (m ≡ k → i ≢ c) →
    slice_get (cells_in (put sidings k c op) m) i ≡ slice_get (cells_in sidings m) i
other_cell sidings k c m i op h off = other_case sidings k c m i op (nat_eq m k) refl h off

-- how many cells a siding has
put_length : (sidings : List (List (Option Op))) (k c m : ℕ) (op : Option Op) (same : Bool) → nat_eq m k ≡ same → k < length sidings →
    length (cells_in (put sidings k c op) m) ≡ length (cells_in sidings m)
put_length sidings k c m op true e h =
    let at : m ≡ k = grind (arith, nat_tests) in
    rw (at, cells-same sidings k (slice_set (cells_in sidings k) c op) h) (length-set (cells_in sidings k) c op)
put_length sidings k c m op false e h =
    let away : m ≢ k = grind (arith, nat_tests) in
    rw (cells-other sidings k m (slice_set (cells_in sidings k) c op) away) refl

-- so there is a cell of that index or not, as before
some_as : {A : Type 0} (xs ys : List A) (i : ℕ) → length xs ≡ length ys → is_some (slice_get xs i) ≡ is_some (slice_get ys i)
some_as [] [] i e = refl
some_as [] (y ∷ ys) i e = absurd (omega arith)
some_as (x ∷ xs) [] i e = absurd (omega arith)
some_as (x ∷ xs) (y ∷ ys) zero e = refl
some_as (x ∷ xs) (y ∷ ys) (suc i) e = some_as xs ys i (omega arith)

-- the word of the cells with an operation
taken_case : (sidings : List (List (Option Op))) (k c j : ℕ) (op : Option Op) (b : Bool) (same : Bool) → nat_eq j (8 * k + c) ≡ same → c < 8 →
    k < length sidings → c < length (cells_in sidings k) → b ≡ cell_is_taken (numbered_cell sidings j) →
    (if same then is_some op else b) ≡ cell_is_taken (numbered_cell (put sidings k c op) j)
taken_case sidings k c j op b true e few h g old =
    let at : j ≡ 8 * k + c = grind (arith, nat_tests) in
    let q : j / 8 ≡ k = omega arith in
    let r : j % 8 ≡ c = omega arith in
    rw (q, r, at_cell sidings k c op h g) refl
taken_case sidings k c j op b false e few h g old =
    let off : j ≢ 8 * k + c = grind (arith, nat_tests) in
    rw (other_cell sidings k c (j / 8) (j % 8) op h (λ q r. off (omega arith))) old

pub have-words : (sidings : List (List (Option Op))) (taken inner word k c : ℕ) (op : Option Op) → HaveWords sidings taken inner → k < length sidings →
    c < length (cells_in sidings k) → ((j : ℕ) → has_bit word j ≡ (if nat_eq j (8 * k + c) then is_some op else has_bit taken j)) →
    HaveWords (put sidings k c op) word inner
have-words sidings taken inner word k c op w h g bits =
    let short = w.small.short k in
    record {
      small = record {
        few = let e = length-set sidings k (slice_set (cells_in sidings k) c op) in omega (arith, e, w.small.few);
        short = λ m. let e = put_length sidings k c m op (nat_eq m k) refl h in let s = w.small.short m in omega (arith, e, s);
      };
      with_op = λ j. bits j ∙ taken_case sidings k c j op (has_bit taken j) (nat_eq j (8 * k + c)) refl (omega arith) h g (w.with_op j);
      with_next = λ j. w.with_next j ∙ some_as (cells_in sidings (j / 8)) (cells_in (put sidings k c op) (j / 8)) (j % 8 + 1)
          (sym (put_length sidings k c (j / 8) op (nat_eq (j / 8) k) refl h));
    }

-- The sidings themselves --

-- a siding that was read
cells-read : (sidings : List (List (Option Op))) (k : ℕ) (cells : List (Option Op)) → k < length sidings → cells ≡ slice_index_or sidings k cells →
    cells_in sidings k ≡ cells
cells-read sidings k cells h e = rw (slice_get_read sidings (length sidings) k cells refl h e) refl

-- one of its cells is replaced
pub put-read : (sidings now : List (List (Option Op))) (k c : ℕ) (op : Option Op) (old new : List (Option Op)) → sidings ≡ now → k < length now →
    old ≡ slice_index_or sidings k old → new ≡ slice_set old c op → slice_set sidings k new ≡ put now k c op
put-read sidings now k c op old new same h e f =
    let r = cells-read sidings k old (omega (arith, ap length same)) e in
    subst (λ (s : List (List (Option Op))). slice_set sidings k new ≡ put s k c op) same (rw (f, r) refl)

pub words-read : (sidings now : List (List (Option Op))) (taken inner word k c : ℕ) (op : Option Op) (old new : List (Option Op)) → sidings ≡ now →
    k < length now → c < length (cells_in now k) → old ≡ slice_index_or sidings k old → new ≡ slice_set old c op → HaveWords sidings taken inner →
    ((j : ℕ) → has_bit word j ≡ (if nat_eq j (8 * k + c) then is_some op else has_bit taken j)) → HaveWords (slice_set sidings k new) word inner
words-read sidings now taken inner word k c op old new same h g e f w bits =
    let here = have-words now taken inner word k c op (subst (λ (s : List (List (Option Op))). HaveWords s taken inner) same w) h g bits in
    subst (λ (s : List (List (Option Op))). HaveWords s word inner) (sym (put-read sidings now k c op old new same h e f)) here

-- two of its cells are replaced
pub put-twice : (sidings : List (List (Option Op))) (k c d : ℕ) (o p : Option Op) → k < length sidings →
    put (put sidings k c o) k d p ≡ slice_set sidings k (slice_set (slice_set (cells_in sidings k) c o) d p)
put-twice sidings k c d o p h =
    rw (cells-same sidings k (slice_set (cells_in sidings k) c o) h, set-set sidings k (slice_set (cells_in sidings k) c o) _) refl

-- a siding with a cell of this index exists
pub siding-there : (sidings : List (List (Option Op))) (k c : ℕ) (o : Option Op) → Some o ≡ slice_get (cells_in sidings k) c → k < length sidings
siding-there [] k c o e = absurd (cc)
siding-there (cells ∷ sidings) zero c o e = omega arith
siding-there (cells ∷ sidings) (suc k) c o e = let h = siding-there sidings k c o e in omega arith
