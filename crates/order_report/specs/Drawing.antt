-- What is drawn of a state, and the size of one that can be drawn: no more stages, sidings and cells than a layout may
-- have.
use Rattle.std.specs.Prelude.{ℕ, ◌≤◌, List, ◌++◌, All, length, Option, Bool}
use Rattle.cf_bind.specs.declared.cell.Cell.{Cell}
use Rattle.cf_bind.specs.declared.cell.Op.{Op}
use Rattle.cf_bind.specs.declared.packet.Fetch.{Fetch}
use Rattle.cf_semantics.specs.state.State.{State}
use Rattle.cf_report.specs.Picture.{cache_text, fetch_line, lane_line, siding_lines, stage_lines}

-- a siding of at most 8 cells
abbrev pub IsShort : List (Option Op) → Type 0
IsShort ops = length ops ≤ 8

-- at most 32 stages and 8 short sidings
pub record IsDrawable (s : State) : Type 0 where
  pub stages : length s.cells ≤ 32
  pub sidings : length s.sidings ≤ 8
  pub short : All IsShort s.sidings

-- the picture of these parts
unfoldable pub parts_text : Fetch → (lane : List ℕ) → Bool → (cache : List (Option ℕ)) → List Cell → List (List (Option Op)) → List ℕ
parts_text fetch lane has_cache cache cells sidings =
    fetch_line fetch ++ lane_line lane ++ cache_text has_cache cache ++ stage_lines 1 cells ++ siding_lines 0 sidings
