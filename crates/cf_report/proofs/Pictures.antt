-- The lines of the stages, one by one from the highest down, and those of the sidings, from the first on.
use Rattle.std.proofs.Common.{◌≡◌, ℕ, zero, suc, ◌+◌, ◌-◌, List, [], ◌∷◌, ◌++◌, Option, Some, length, take, drop, refl, ap, sym, ◌∙◌, append-nil, append_assoc, add-one, arith}
use Rattle.std.specs.Prelude.{slice_get}
use Rattle.cf_bind.specs.declared.cell.Cell.{Cell}
use Rattle.cf_bind.specs.declared.cell.Op.{Op}
use Rattle.cf_semantics.specs.state.Options.{on}
use Rattle.cf_semantics.specs.state.State.{cell_at}
use Rattle.cf_report.specs.Passengers.{stage_line}
use Rattle.cf_report.specs.Picture.{stage_lines, siding_line, siding_lines}

-- the lines of the first k stages, the highest first
lower_lines : ℕ → ℕ → List Cell → List ℕ
lower_lines n zero cells = []
lower_lines n (suc k) [] = []
lower_lines n (suc k) (c ∷ cells) = lower_lines (suc n) k cells ++ stage_line n c

-- all lines are those of the higher stages and then those of the lower ones
cut-stages : (n m k : ℕ) (cells : List Cell) → m ≡ k + n → stage_lines m (drop k cells) ++ lower_lines n k cells ≡ stage_lines n cells
unfolding lower_lines
cut-stages n m zero cells e = let same : m ≡ n = omega arith in rw same (append-nil (stage_lines n cells))
cut-stages n m (suc k) [] e = refl
cut-stages n m (suc k) (c ∷ cells) e =
    sym (append_assoc (stage_lines m (drop k cells)) (lower_lines (suc n) k cells) (stage_line n c))
    ∙ ap (λ text. text ++ stage_line n c) (cut-stages (suc n) m k cells (omega arith))

-- the line of a stage follows those of the stages above it
next-stage : (n k : ℕ) (cells : List Cell) (c : Cell) → slice_get cells k ≡ Some c → stage_lines (suc n) (drop (suc k) cells) ++ stage_line n c
    ≡ stage_lines n (drop k cells)
next-stage n k [] c e = absurd (cc)
next-stage n zero (d ∷ cells) c e = let same : d ≡ c = cc in rw same refl
next-stage n (suc k) (d ∷ cells) c e = next-stage n k cells c e

pub stage-next : (cells : List Cell) (i j : ℕ) (c : Cell) → j ≡ i - 1 → Some c ≡ cell_at cells i →
    stage_lines (i + 1) (drop i cells) ++ stage_line i c ≡ stage_lines (j + 1) (drop j cells)
stage-next cells zero j c e here = absurd (cc)
stage-next cells (suc k) j c e here =
    let same : j ≡ k = omega arith in
    rw (same, add-one, add-one) (next-stage (suc k) k cells c (sym here))

-- other lines may follow it
pub stages-below : (cells : List Cell) (i : ℕ) (c : Cell) → Some c ≡ cell_at cells i → (rest : List ℕ)
    × ((stage_lines (i + 1) (drop i cells) ++ stage_line i c) ++ rest ≡ stage_lines 1 cells)
stages-below cells zero c here = absurd (cc)
stages-below cells (suc k) c here =
    (lower_lines 1 k cells, ap (λ text. text ++ lower_lines 1 k cells) (stage-next cells (suc k) k c (omega arith) here) ∙ cut-stages 1 (k + 1) k cells refl)

-- there is nothing above the highest
pub no-stages : (n k : ℕ) (cells : List Cell) → length cells ≡ k → stage_lines n (drop k cells) ≡ []
no-stages n k [] e = rw (← e) refl
no-stages n zero (c ∷ cells) e = absurd (omega arith)
no-stages n (suc k) (c ∷ cells) e = no-stages n k cells (omega arith)

-- what the siding of this number holds; nothing if there is none
abbrev held : List (List (Option Op)) → ℕ → List (Option Op)
held sidings k = on (slice_get sidings k) [] (λ ops. ops)

next-siding : (n m k : ℕ) (sidings : List (List (Option Op))) → m ≡ k + n → siding_lines n (take k sidings) ++ siding_line m (held sidings k)
    ≡ siding_lines n (take (suc k) sidings)
unfolding siding_line
next-siding n m zero [] e = refl
next-siding n m zero (ops ∷ sidings) e = let same : m ≡ n = omega arith in rw same (sym (append-nil (siding_line n ops)))
next-siding n m (suc k) [] e = refl
next-siding n m (suc k) (ops ∷ sidings) e =
    append_assoc (siding_line n ops) (siding_lines (suc n) (take k sidings)) (siding_line m (held sidings k))
    ∙ ap (λ text. siding_line n ops ++ text) (next-siding (suc n) m k sidings (omega arith))

pub siding-next : (sidings : List (List (Option Op))) (k : ℕ) → siding_lines 0 (take k sidings) ++ siding_line k (held sidings k)
    ≡ siding_lines 0 (take (k + 1) sidings)
siding-next sidings k = rw add-one (next-siding 0 k k sidings (omega arith))

cut-sidings : (n m k : ℕ) (sidings : List (List (Option Op))) → m ≡ k + n → siding_lines n (take k sidings) ++ siding_lines m (drop k sidings)
    ≡ siding_lines n sidings
cut-sidings n m zero sidings e = let same : m ≡ n = omega arith in rw same refl
cut-sidings n m (suc k) [] e = refl
cut-sidings n m (suc k) (ops ∷ sidings) e =
    append_assoc (siding_line n ops) (siding_lines (suc n) (take k sidings)) (siding_lines m (drop k sidings))
    ∙ ap (λ text. siding_line n ops ++ text) (cut-sidings (suc n) m k sidings (omega arith))

-- other lines may follow it
pub sidings-after : (sidings : List (List (Option Op))) (k : ℕ) → (rest : List ℕ) × ((siding_lines 0 (take k sidings) ++ siding_line k (held sidings k)) ++ rest
    ≡ siding_lines 0 sidings)
sidings-after sidings k =
    let rest : List ℕ = siding_lines (k + 1) (drop (k + 1) sidings) in
    (rest, ap (λ text. text ++ rest) (siding-next sidings k) ∙ cut-sidings 0 (k + 1) (k + 1) sidings (omega arith))
