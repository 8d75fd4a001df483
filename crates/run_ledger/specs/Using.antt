-- Which stages and sidings a move uses.
use Rattle.std.specs.Prelude.{ℕ, Bool, false, ◌==◌}
use Rattle.std.specs.List.{list_any}
use Rattle.cf_layout.specs.Layout.{Plan}
use Rattle.cf_bind.specs.declared.moves.Move.{Move}
use Rattle.cf_semantics.specs.moves.Sites.{Site, Stage, SidingCell}
use Rattle.cf_index.specs.Sites.{used, uses_place}

-- the move uses the stage
abbrev pub uses_stage : Plan → ℕ → Move → Bool
uses_stage plan i mv = uses_place plan mv (Stage i)

-- the site is a cell of the siding
abbrev pub is_cell_of : ℕ → Site → Bool
is_cell_of k (SidingCell j c) = k == j
is_cell_of k _ = false

-- the move uses a cell of the siding, or more of them
unfoldable pub uses_siding : Plan → ℕ → Move → Bool
uses_siding plan k mv = list_any (is_cell_of k) (used plan mv)
