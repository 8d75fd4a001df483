-- There is no instruction past the last stage.
use Rattle.std.proofs.Common.{◌≡◌, refl, ℕ, zero, suc, ◌<◌, ◌≤◌, List, [], ◌∷◌, length, None, arith}
use Rattle.std.specs.Prelude.{slice_get}
use Rattle.cf_bind.specs.declared.cell.Cell.{Cell}
use Rattle.cf_semantics.specs.state.State.{cell_at}

past_list : (cells : List Cell) (k : ℕ) → length cells ≤ k → slice_get cells k ≡ None
past_list [] k past = refl
past_list (c ∷ cells) zero past = absurd (omega arith)
past_list (c ∷ cells) (suc k) past = past_list cells k (omega (arith, past))

pub past_stages : (cells : List Cell) (i : ℕ) → length cells < i → cell_at cells i ≡ None
past_stages cells zero past = refl
past_stages cells (suc k) past = past_list cells k (omega (arith, past))
